-- The forms of statements, as they lie in memory.
use Rattle.std.proofs.Common.{◌≡◌, ◌+◌, refl, sym, ap, ◌∙◌}
use Rattle.std.specs.Prelude.{OnOk}
use Rattle.std.specs.declared.result.Result.{Result}
use Rattle.std.proofs.lemmas.Result.{on_ok_weaker}
use Rattle.std.specs.declared.vec.Vec.{Vec}
use Rattle.std.specs.declared.boxed.Box.{Box}
use Rattle.std.specs.declared.alloc.Global.{Global}
use Rattle.c_base.specs.declared.place.Pos.{Pos}
use Rattle.c_syntax.specs.declared.tree.Node.{Node}
use Rattle.c_syntax.specs.declared.tree.Stmt.{Stmt}
use Rattle.c_syntax.specs.declared.tree.Item.{Item}
use Rattle.c_syntax.specs.declared.tree.StmtForm.{StmtForm}
use Rattle.c_syntax.specs.declared.tree.StmtForm.TheVariants as form
use Rattle.c_syntax.specs.Shape.{FormShape, while, do_while, switch}
use Rattle.c_syntax.specs.View.{node_shape, stmt_shape, item_list, form_shape}
use Rattle.c_syntax.proofs.Open.{switch_open}
use Rattle.c_tree.specs.State.{State}
use Rattle.c_tables.specs.Rows.{first_place}
use Rattle.c_tree.specs.Stating.{Surroundings, type_body}
use Rattle.c_types.proofs.Weights.{form_weight, items_weight}

-- what a function says of one value it says of an equal one
pub moved : {T E B X : Type 0} (r : Result T E) (part : B → X) (x : X) (y z : B) → y ≡ z → OnOk r (x ≡ part y) → OnOk r (x ≡ part z)
moved r part x y z e o = on_ok_weaker r (λ d. d ∙ ap part e) o

pub moved_both : {T E B X : Type 0} (r : Result T E) (part : B → X) (w x : X) (y z : B) → w ≡ x → y ≡ z → OnOk r (x ≡ part y) → OnOk r (w ≡ part z)
moved_both r part w x y z h e o = on_ok_weaker r (λ d. h ∙ (d ∙ ap part e)) o

module _ (c : Surroundings) (p : Pos) (f : StmtForm) (s : State) where
  pub while_form : (n m : Node) (b : Box Stmt Global) (x : Stmt) → f ≡ form.While n b → m ≡ n → x ≡ b.value → type_body c first_place (while (node_shape m) (stmt_shape x)) s ≡ type_body c p (form_shape f) s
  while_form n m b x e g h = rw (e, g, h) refl

  pub do_form : (n m : Node) (b : Box Stmt Global) (x : Stmt) → f ≡ form.Do b n → m ≡ n → x ≡ b.value → type_body c first_place (do_while (stmt_shape x) (node_shape m)) s ≡ type_body c p (form_shape f) s
  do_form n m b x e g h = rw (e, g, h) refl

  pub switch_form : (n m : Node) (v w : Vec Item Global) → f ≡ form.Switch n v → m ≡ n → w ≡ v → type_body c first_place (switch (node_shape m) (item_list w.items)) s ≡ type_body c p (form_shape f) s
  switch_form n m v w e g h = rw (g, h) (sym (ap (λ (x : FormShape). type_body c p x s) (ap form_shape e ∙ switch_open n v)))

pub switch_weight : (f : StmtForm) (n : Node) (v w : Vec Item Global) → f ≡ form.Switch n v → w ≡ v → form_weight (form_shape f) ≡ 1 + items_weight (item_list w.items)
switch_weight f n v w e h = rw h (ap form_weight (ap form_shape e ∙ switch_open n v))
