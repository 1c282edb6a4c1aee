-- What is left of a form is the same wherever it stands.
use Rattle.std.proofs.Common.{◌≡◌, refl, sym, ap, ◌∙◌}
use Rattle.std.specs.declared.boxed.Box.{Box}
use Rattle.std.specs.declared.alloc.Global.{Global}
use Rattle.c_base.specs.declared.place.Pos.{Pos}
use Rattle.c_syntax.specs.declared.tree.Node.{Node}
use Rattle.c_syntax.specs.declared.tree.Expr.TheVariants.{Probe}
use Rattle.c_syntax.specs.declared.tree.ExprProbe.{ExprProbe}
use Rattle.c_syntax.specs.Shape.{NoteShape, node, ExprShape, leaf, paren, call, prefix, size_of_type, cast, suffix, two, choose, probe}
use Rattle.c_syntax.specs.View.{note_shape, expr_shape}
use Rattle.c_tree.specs.Erased.{erased_node}
use Rattle.probe_out.specs.Forms.{form_of, erased_expr}

pub anywhere : (p o : Pos) (n : NoteShape) (f : ExprShape) → form_of (erased_node (node p o n f)) ≡ erased_expr f
anywhere p o n (leaf l) = refl
anywhere p o n (paren a) = refl
anywhere p o n (call x args) = refl
anywhere p o n (prefix u a) = refl
anywhere p o n (size_of_type t) = refl
anywhere p o n (cast t a) = refl
anywhere p o n (suffix a s) = refl
anywhere p o n (two u a b) = refl
anywhere p o n (choose a b c) = refl
anywhere p o n (probe u a) = refl

-- of a form in a probe: what is left of it alone
pub probe_left : (u : ExprProbe) (b : Box Node Global) (n : Node) → n ≡ b.value → erased_expr (expr_shape n.form) ≡ erased_expr (expr_shape (Probe u b))
probe_left u b n e =
    ap (λ (x : Node). erased_expr (expr_shape x.form)) e ∙ sym (anywhere b.value.pos b.value.op (note_shape b.value.note) (expr_shape b.value.form))
