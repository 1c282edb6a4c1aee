-- Steps, before or behind their operand, and probes, by themselves.
use Rattle.std.proofs.Common.{◌≡◌, ◌<◌, refl, arith}
use Rattle.c_base.specs.declared.place.Pos.{Pos}
use Rattle.c_syntax.specs.declared.tree.StepOp.{StepOp}
use Rattle.c_syntax.specs.declared.tree.StepOp.TheVariants.{PreInc, PreDec, PostInc, PostDec}
use Rattle.c_syntax.specs.declared.text.Text.{Text}
use Rattle.c_syntax.specs.Shape.{Access, NodeShape, ProbeShape, simple, select, probe}
use Rattle.c_syntax.specs.View.{step_shape}
use Rattle.c_tree.specs.State.{State}
use Rattle.c_tree.specs.Sorts.{Sort}
use Rattle.c_tree.specs.Operators.{typed_field}
use Rattle.c_tree.specs.Typing.{type_form, type_step}
use Rattle.c_types_expr.specs.declared.groups.Group.TheVariants.{Single}
use Rattle.c_types_expr.specs.Groups.{group_of}
use Rattle.c_types_expr.proofs.Weights.{node_weight, form_weight}
use Rattle.c_types_expr.specs.Forms.{type_probing}

pub step_single : (u : StepOp) (a : NodeShape) → group_of (step_shape u a) ≡ Single
step_single PreInc a = refl
step_single PreDec a = refl
step_single PostInc a = refl
step_single PostDec a = refl

pub stepping_form : (p o : Pos) (u : StepOp) (a : NodeShape) (s : State) → type_form p o (step_shape u a) s ≡ type_step o u a s
stepping_form p o PreInc a s = refl
stepping_form p o PreDec a s = refl
stepping_form p o PostInc a s = refl
stepping_form p o PostDec a s = refl

pub probing_form : (p o : Pos) (u : ProbeShape) (a : NodeShape) (s : State) → type_form p o (probe u a) s ≡ type_probing p u a s
probing_form p o (simple u x) a s = refl
probing_form p o (select x cs) a s = refl

pub access_same : (o q : Pos) (h : Access) (x : Text) (a b : Sort) (s u : State) → a ≡ b → s ≡ u → typed_field s.at o h x q a s ≡ typed_field u.at o h x q b u
access_same o q h x a b s u e f = rw (e, f) refl

pub step_weight : (u : StepOp) (a : NodeShape) → node_weight a < form_weight (step_shape u a)
step_weight PreInc a = omega arith
step_weight PreDec a = omega arith
step_weight PostInc a = omega arith
step_weight PostDec a = omega arith
