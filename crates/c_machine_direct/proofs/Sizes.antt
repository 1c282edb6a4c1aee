-- How many statements stand in one that is done at once.
use Rattle.std.proofs.Common.{◌≡◌, ℕ, zero, suc, ◌+◌, ◌<◌, List, [], ◌∷◌, Option, Some, None, refl, sym, ap, subst, arith}
use Rattle.std.specs.Prelude.{slice_get}
use Rattle.std.specs.declared.boxed.Box.{Box}
use Rattle.std.specs.declared.alloc.Global.{Global}
use mathlib.Core.Former.{Count}
use Rattle.c_syntax.specs.declared.tree.Node.{Node}
use Rattle.c_syntax.specs.declared.tree.Item.{Item}
use Rattle.c_syntax.specs.declared.tree.Stmt.{Stmt}
use Rattle.c_syntax.specs.declared.tree.StmtForm.{StmtForm, Held-StmtForm-If-2, None', Some', Row_of-Item, end_of-Item, more_of-Item, items-the_row-Item}
use Rattle.c_syntax.specs.declared.tree.StmtForm.TheVariants as form
use Rattle.c_syntax.specs.declared.tree.Compound.{Compound, Compound', out-Compound, outs-Compound', items_shown-the_row-Item-0}

abbrev mutual
  pub form_parts : StmtForm → ℕ
  form_parts (form.Compound c) = 1 + compound_parts c
  form_parts (form.If' e _ p marks q s other) = 1 + (form_parts s + other_parts other)
  form_parts _ = 0

  pub other_parts : Held-StmtForm-If-2 → ℕ
  other_parts None' = 0
  other_parts (Some' _ p marks q s) = form_parts s

  pub compound_parts : Compound → ℕ
  compound_parts (Compound' p decls _ items) = rows_parts items

  pub rows_parts : {m : _} → Row_of-Item m → ℕ
  rows_parts end_of-Item = 0
  rows_parts (more_of-Item labels p marks q s rest) = 1 + (form_parts s + rows_parts rest)

abbrev pub list_parts : List Item → ℕ
list_parts [] = 0
list_parts (i ∷ rest) = 1 + (form_parts i.stmt.form + list_parts rest)

rows_are : (n : Count) (k : Row_of-Item n) → rows_parts k ≡ list_parts (items-the_row-Item n k)
rows_are _ end_of-Item = refl
rows_are _ (more_of-Item {n} _ _ _ _ s rest) = ap (λ m. 1 + (form_parts s + m)) (rows_are n rest)

pub compound_size : (c : Compound) (l : List Item) → l ≡ (out-Compound c).items.items → compound_parts c ≡ list_parts l
compound_size (Compound' p ds m items) l e = rw (e, outs-Compound' p ds m items, items_shown-the_row-Item-0 m items, rows_are _ items)

pub first_size : (f : StmtForm) (e : Node) (a : Box Stmt Global) (o : Option (Box Stmt Global)) (b : Stmt) → f ≡ form.If e a o → b ≡ a.value → form_parts b.form < form_parts f
first_size f e a None b is same = rw (is, same) (omega arith)
first_size f e a (Some c) b is same = rw (is, same) (omega arith)

pub other_size : (f : StmtForm) (e : Node) (a c : Box Stmt Global) (o : Option (Box Stmt Global)) (b : Stmt) → f ≡ form.If e a o → o ≡ Some c → b ≡ c.value → form_parts b.form < form_parts f
other_size f e a c o b is other same = rw (is, other, same) (omega arith)

-- one in a list
pub item_size : (l : List Item) (i : ℕ) (r : Item) → slice_get l i ≡ Some r → form_parts r.stmt.form < list_parts l
item_size [] i r h = cc
item_size (x ∷ l) zero r h = let e : x ≡ r = cc in subst (λ (x : Item). form_parts r.stmt.form < 1 + (form_parts x.stmt.form + list_parts l)) (sym e) (omega arith)
item_size (x ∷ l) (suc i) r h = omega (arith, item_size l i r h)
