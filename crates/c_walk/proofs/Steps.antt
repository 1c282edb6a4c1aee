-- Steps, which stand before or behind their operands.
use Rattle.std.proofs.Common.{◌≡◌, refl, false, None}
use Rattle.c_syntax.specs.declared.tree.StepOp.{StepOp}
use Rattle.c_syntax.specs.declared.tree.StepOp.TheVariants as way
use Rattle.c_syntax.specs.Shape.{NodeShape, NoteShape}
use Rattle.c_syntax.specs.View.{step_shape}
use Rattle.c_constants.specs.declared.constants.Constant.TheVariants.{No}
use Rattle.c_walk.specs.Tests.{constant_form}
use Rattle.c_walk.specs.declared.around.Around.{Around}
use Rattle.c_walk.specs.declared.around.Taken.{Taken}
use Rattle.c_walk.specs.declared.around.Taken.TheVariants.{Changed}
use Rattle.c_walk.specs.Walked.{Walked}
use Rattle.c_walk.specs.Walking.{walk_node, walk_form}
use Rattle.c_walk.specs.Places.{is_place, direct_form}

pub no_place : (u : StepOp) (a : NodeShape) → is_place (step_shape u a) ≡ false
no_place way.PreInc a = refl
no_place way.PreDec a = refl
no_place way.PostInc a = refl
no_place way.PostDec a = refl

pub not_direct : (n : NoteShape) (u : StepOp) (a : NodeShape) → direct_form n (step_shape u a) ≡ None
not_direct n way.PreInc a = refl
not_direct n way.PreDec a = refl
not_direct n way.PostInc a = refl
not_direct n way.PostDec a = refl

pub no_constant : (n : NoteShape) (u : StepOp) (a : NodeShape) → constant_form n (step_shape u a) ≡ No
no_constant n way.PreInc a = refl
no_constant n way.PreDec a = refl
no_constant n way.PostInc a = refl
no_constant n way.PostDec a = refl

pub step_walked : (c : Around) (r : Taken) (u : StepOp) (a : NodeShape) (s : Walked) → walk_form c r (step_shape u a) s ≡ walk_node c Changed a s
step_walked c r way.PreInc a s = refl
step_walked c r way.PreDec a s = refl
step_walked c r way.PostInc a s = refl
step_walked c r way.PostDec a s = refl
