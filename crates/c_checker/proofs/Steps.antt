-- A step stands on no side of an assignment.
use Rattle.std.proofs.Common.{◌≡◌, refl}
use Rattle.c_syntax.specs.declared.tree.StepOp.{StepOp}
use Rattle.c_syntax.specs.declared.tree.StepOp.TheVariants.{PreInc, PreDec, PostInc, PostDec}
use Rattle.c_syntax.specs.Shape.{NodeShape}
use Rattle.c_syntax.specs.View.{step_shape}
use Rattle.c_tree.specs.declared.meaning.Side.{Side}
use Rattle.c_tree.specs.declared.meaning.Side.TheVariants.{Neither}
use Rattle.c_tree.specs.Operators.{kept_side}

pub step_kept : (u : StepOp) (a : NodeShape) (d : Side) → kept_side (step_shape u a) d ≡ Neither
step_kept PreInc a d = refl
step_kept PreDec a d = refl
step_kept PostInc a d = refl
step_kept PostDec a d = refl
