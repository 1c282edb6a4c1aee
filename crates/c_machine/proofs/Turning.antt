-- What a loop holds whose turns are done at once.
use Rattle.std.proofs.Common.{◌≡◌, Bool, true, false, Option, Some, refl, ap, sym, ◌∙◌}
use Rattle.std.specs.Prelude.{if◌then◌else◌}
use Rattle.std.specs.declared.boxed.Box.{Box}
use Rattle.std.specs.declared.alloc.Global.{Global}
use Rattle.c_syntax.specs.declared.tree.Node.{Node}
use Rattle.c_syntax.specs.declared.tree.Stmt.{Stmt}
use Rattle.c_syntax.specs.declared.tree.StmtForm.{StmtForm}
use Rattle.c_syntax.specs.declared.tree.StmtForm.TheVariants as form
use Rattle.c_eval_direct.specs.Direct.{is_direct}
use Rattle.c_machine_direct.specs.Forms.{is_direct_maybe, is_direct_form, is_direct_loop}

both : (a b : Bool) → (if a then b else false) ≡ true → (a ≡ true) × (b ≡ true)
both true b h = (refl, h)
both false b h = cc

abbrev IsDirect : Node → Type 0
IsDirect e = is_direct e.note e.form ≡ true

-- the test, the step and the body of a `for`
pub for_direct : (f : StmtForm) (x y z : Option Node) (a : Box Stmt Global) → is_direct_loop f ≡ true → f ≡ form.For x y z a → (is_direct_maybe y ≡ true) × (is_direct_maybe z ≡ true) × (is_direct_form a.value.form ≡ true)
for_direct f x y z a h is =
    let one = both (is_direct_maybe y) _ (sym (ap is_direct_loop is) ∙ h) in
    let two = both (is_direct_maybe z) _ one.1 in
    (one.0, two.0, two.1)

pub some_direct : (y : Option Node) (e : Node) → is_direct_maybe y ≡ true → y ≡ Some e → IsDirect e
some_direct y e h is = sym (ap is_direct_maybe is) ∙ h
