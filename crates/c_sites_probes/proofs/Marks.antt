-- Where probes stand in what code reads in another form than a shape has.
use Rattle.std.proofs.Common.{◌≡◌, ℕ, List, refl, Option, Some, None}
use Rattle.c_base.specs.declared.place.Pos.{Pos}
use Rattle.c_syntax.specs.declared.tree.StepOp.{StepOp}
use Rattle.c_syntax.specs.declared.tree.StepOp.TheVariants as way
use Rattle.c_syntax.specs.Shape.{NodeShape}
use Rattle.c_syntax.specs.View.{step_shape}
use Rattle.c_sites_probes.specs.Marked.{first, node_mark, form_mark}
use Rattle.c_sites_probes.specs.Owned.{own_node, own_form}

-- nothing stands behind it
pub none_behind : (p : Option Pos) → first p None ≡ p
none_behind None = refl
none_behind (Some p) = refl

pub step_mark : (p : Pos) (u : StepOp) (a : NodeShape) → form_mark p (step_shape u a) ≡ node_mark a
step_mark p way.PreInc a = refl
step_mark p way.PreDec a = refl
step_mark p way.PostInc a = none_behind (node_mark a)
step_mark p way.PostDec a = none_behind (node_mark a)

pub step_owned : (o : Option ℕ) (u : StepOp) (a : NodeShape) (s : List (ℕ × ℕ)) → own_form o (step_shape u a) s ≡ own_node o a s
step_owned o way.PreInc a s = refl
step_owned o way.PreDec a s = refl
step_owned o way.PostInc a s = refl
step_owned o way.PostDec a s = refl
