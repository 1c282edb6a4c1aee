-- Bodies of each function of a name, one after the other.
use Rattle.std.proofs.Common.{◌≡◌, ℕ, zero, suc, ◌+◌, ◌-◌, ◌≤◌, true, false, List, [], ◌∷◌, length, map, slice_get, Option, Some, None, refl, ap, sym, ◌∙◌, add-one, arith}
use Rattle.c_syntax.specs.declared.text.Text.{Text}
use Rattle.c_tables.specs.Rows.{has_name}
use Rattle.c_tables.specs.Tables.{FunctionShape, TablesShape, changed_at, with_definition}
use Rattle.c_tree.specs.Declaring.{with_body, with_bodies}
use Rattle.c_types_decl.specs.Entities.{with_body_at}

-- the row at that index has a body, or it stays
body_here : (x : Text) (i : ℕ) (rows : List FunctionShape) (r : FunctionShape) → slice_get rows i ≡ Some r → has_name x r ≡ true → changed_at (λ f. record f { defined = Some [] }) i rows ≡ changed_at (with_body x) i rows
body_here x i [] r h e = refl
body_here x zero (q ∷ rows) r h e = let s : q ≡ r = cc in rw (s, e) refl
body_here x (suc i) (q ∷ rows) r h e = ap (λ y. q ∷ y) (body_here x i rows r h e)

none_here : (x : Text) (i : ℕ) (rows : List FunctionShape) (r : FunctionShape) → slice_get rows i ≡ Some r → has_name x r ≡ false → rows ≡ changed_at (with_body x) i rows
none_here x i [] r h e = refl
none_here x zero (q ∷ rows) r h e = let s : q ≡ r = cc in rw (s, e) refl
none_here x (suc i) (q ∷ rows) r h e = ap (λ y. q ∷ y) (none_here x i rows r h e)

pub given_body : (x : Text) (i : ℕ) (t : TablesShape) (r : FunctionShape) → slice_get t.functions (i - 1) ≡ Some r → has_name x r ≡ true → with_definition i [] t ≡ with_body_at x i t
given_body x i t r h e = ap (λ rows. record t { functions = rows }) (body_here x (i - 1) t.functions r h e)

pub given_none : (x : Text) (i : ℕ) (t : TablesShape) (r : FunctionShape) → slice_get t.functions (i - 1) ≡ Some r → has_name x r ≡ false → t ≡ with_body_at x i t
given_none x i t r h e = ap (λ rows. record t { functions = rows }) (none_here x (i - 1) t.functions r h e)

-- ---- all of them

module _ {R : Type 0} (f : R → R) where
  -- those from that index on are changed
  abbrev pub changed_from : ℕ → List R → List R
  changed_from i [] = []
  changed_from zero (r ∷ rows) = map f (r ∷ rows)
  changed_from (suc i) (r ∷ rows) = r ∷ changed_from i rows

  pub changed_all : (rows : List R) → changed_from 0 rows ≡ map f rows
  changed_all [] = refl
  changed_all (r ∷ rows) = refl

  changed_one : (i : ℕ) (rows : List R) → changed_from (suc i) (changed_at f i rows) ≡ changed_from i rows
  changed_one i [] = refl
  changed_one zero (r ∷ rows) = ap (λ y. f r ∷ y) (changed_all rows)
  changed_one (suc i) (r ∷ rows) = ap (λ y. r ∷ y) (changed_one i rows)

  pub changed_none : (i : ℕ) (rows : List R) → length rows ≤ i → changed_from i rows ≡ rows
  changed_none i [] h = refl
  changed_none zero (r ∷ rows) h = absurd (omega arith)
  changed_none (suc i) (r ∷ rows) h = ap (λ y. r ∷ y) (changed_none i rows (omega arith))

  pub changed_next : (i j : ℕ) (rows : List R) → j - 1 ≡ i → changed_from (i + 1) (changed_at f (j - 1) rows) ≡ changed_from i rows
  changed_next i j rows e = rw (e, add-one) (changed_one i rows)

-- those whose turn is still to come have bodies where they are of that name
abbrev pub bodies_from : Text → ℕ → TablesShape → TablesShape
bodies_from x i t = record t { functions = changed_from (with_body x) i t.functions }

pub bodies_first : (x : Text) (t : TablesShape) → bodies_from x 0 t ≡ with_bodies x t
bodies_first x t = ap (λ rows. record t { functions = rows }) (changed_all (with_body x) t.functions)

pub bodies_next : (x : Text) (i j : ℕ) (t u v : TablesShape) → j - 1 ≡ i → u ≡ with_body_at x j t → bodies_from x i t ≡ v → bodies_from x (i + 1) u ≡ v
bodies_next x i j t u v e h g = ap (bodies_from x (i + 1)) h ∙ (ap (λ rows. record t { functions = rows }) (changed_next (with_body x) i j t.functions e) ∙ g)

pub bodies_last : (x : Text) (i : ℕ) (t v : TablesShape) → length t.functions ≤ i → bodies_from x i t ≡ v → t ≡ v
bodies_last x i t v h g = let e = changed_none (with_body x) i t.functions h in ap (λ rows. record t { functions = rows }) (sym e) ∙ g
