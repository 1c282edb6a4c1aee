-- The statements of a list, wherever they lie in memory, from an index on.
use Rattle.std.proofs.Common.{◌≡◌, ℕ, zero, suc, ◌+◌, ◌<◌, ◌≤◌, List, [], ◌∷◌, length, drop, get_or, map, Bool, true, false, Some, refl, ap, sym, ◌∙◌, add-one, arith}
use Rattle.std.specs.Prelude.{◌||◌, slice_get, if◌then◌else◌}
use mathlib.Core.Former.{Count}
use Rattle.c_syntax.specs.declared.tree.StmtForm.{Row_of-Item, end_of-Item, more_of-Item, items-the_row-Item}
use Rattle.c_syntax.specs.declared.tree.Compound.{Compound, Compound', out-Compound, outs-Compound', items_shown-the_row-Item-0}
use Rattle.c_syntax.specs.declared.tree.Item.{Item}
use Rattle.c_syntax.specs.View.{label_shape, stmt_shape, item_list}
use Rattle.c_tables.specs.Tables.{TablesShape}
use Rattle.c_walk.specs.Stating.{splits, is_labelled}
use Rattle.c_meaning.specs.declared.end.Flow.{Flow}
use Rattle.c_meaning.specs.declared.end.Stop.{Stop}
use Rattle.c_meaning.specs.State.{State}
use Rattle.c_meaning.specs.Results.{Gives, Stops, then_do}
use Rattle.c_meaning.specs.Firsts.{quiet}
use Rattle.c_meaning.specs.Counts.{stmt_variables}
use Rattle.c_meaning.specs.Knot.{Knot}
use Rattle.c_meaning.specs.Statements.{flow, items_flow, after_one, here}
use Rattle.c_machine_direct.specs.Forms.{has_none, is_direct_form, is_direct_compound, are_direct_rows, are_direct}

rows_direct : (n : Count) (k : Row_of-Item n) → are_direct_rows k ≡ are_direct (items-the_row-Item n k)
rows_direct _ end_of-Item = refl
rows_direct _ (more_of-Item {n} _ _ _ _ s rest) = ap (λ b. if is_direct_form s then b else false) (rows_direct n rest)

pub compound_direct : (c : Compound) → is_direct_compound c ≡ (if has_none (out-Compound c).decls.items then are_direct (out-Compound c).items.items else false)
compound_direct (Compound' p ds m items) = rw (outs-Compound' p ds m items, items_shown-the_row-Item-0 m items, rows_direct _ items)

-- ---- from an index on

-- the one at the index
pub here_at : (l : List Item) (i : ℕ) (r : Item) → i < length l → r ≡ get_or l i r → slice_get l i ≡ Some r
here_at [] i r h e = absurd (omega (arith, h))
here_at (x ∷ l) zero r h e = cc
here_at (x ∷ l) (suc i) r h e = here_at l i r (omega (arith, h)) e

dropped_on : (l : List Item) (i : ℕ) (r : Item) → slice_get l i ≡ Some r → drop i l ≡ r ∷ drop (suc i) l
dropped_on [] i r h = cc
dropped_on (x ∷ l) zero r h = cc
dropped_on (x ∷ l) (suc i) r h = dropped_on l i r h

dropped : (l : List Item) (i : ℕ) (r : Item) → slice_get l i ≡ Some r → drop i l ≡ r ∷ drop (i + 1) l
dropped l i r h = dropped_on l i r h ∙ ap (λ j. r ∷ drop j l) (sym (add-one i))

pub none_left : (l : List Item) (i : ℕ) → length l ≤ i → drop i l ≡ []
none_left [] zero h = refl
none_left [] (suc i) h = refl
none_left (x ∷ l) zero h = absurd (omega (arith, h))
none_left (x ∷ l) (suc i) h = none_left l i (omega (arith, h))

pub both : (a b : Bool) → (if a then b else false) ≡ true → (a ≡ true) × (b ≡ true)
both true b h = (refl, h)
both false b h = cc

-- it is done at once, and so are those behind it
pub item_direct : (l : List Item) (i : ℕ) (r : Item) → slice_get l i ≡ Some r → are_direct (drop i l) ≡ true → (is_direct_form r.stmt.form ≡ true) × (are_direct (drop (i + 1) l) ≡ true)
item_direct l i r h e = both (is_direct_form r.stmt.form) (are_direct (drop (i + 1) l)) (sym (ap are_direct (dropped l i r h)) ∙ e)

module _ (t : TablesShape) (k : Knot) (l : List Item) (i : ℕ) (r : Item) (h : slice_get l i ≡ Some r) (b : Bool) (n : ℕ) (s s' : State) where
  -- the statements from it on
  from_item : items_flow t k here b (item_list (drop i l)) (quiet n) s
      ≡ then_do (flow t k (b || is_labelled (map label_shape r.labels.items)) (stmt_shape r.stmt) (quiet n) s) (after_one (items_flow t k here (splits (stmt_shape r.stmt)) (item_list (drop (i + 1) l)) (quiet (n + stmt_variables (stmt_shape r.stmt)))))
  from_item = ap (λ l. items_flow t k here b (item_list l) (quiet n) s) (dropped l i r h)

  pub item_stops : (why : Stop) → ((c : Bool) → flow t k c (stmt_shape r.stmt) (quiet n) s ≡ Stops why s') → items_flow t k here b (item_list (drop i l)) (quiet n) s ≡ Stops why s'
  item_stops why e = from_item ∙ ap (λ q. then_do q (after_one (items_flow t k here (splits (stmt_shape r.stmt)) (item_list (drop (i + 1) l)) (quiet (n + stmt_variables (stmt_shape r.stmt)))))) (e (b || is_labelled (map label_shape r.labels.items)))

  pub item_leaves : (f : Flow) → ((c : Bool) → flow t k c (stmt_shape r.stmt) (quiet n) s ≡ Gives f s')
      → items_flow t k here b (item_list (drop i l)) (quiet n) s ≡ after_one (items_flow t k here (splits (stmt_shape r.stmt)) (item_list (drop (i + 1) l)) (quiet (n + stmt_variables (stmt_shape r.stmt)))) f s'
  item_leaves f e = from_item ∙ ap (λ q. then_do q (after_one (items_flow t k here (splits (stmt_shape r.stmt)) (item_list (drop (i + 1) l)) (quiet (n + stmt_variables (stmt_shape r.stmt)))))) (e (b || is_labelled (map label_shape r.labels.items)))
