-- Rows of tables.
use Rattle.std.specs.Prelude.{is_some}
use Rattle.std.proofs.Common.{◌≡◌, ℕ, zero, suc, ◌+◌, ◌-◌, ◌≤◌, Bool, true, false, List, [], ◌∷◌, ◌++◌, length, map, take, drop, slice_get, Some, refl, sym, ap, arith, add-one}
use Rattle.std.proofs.lemmas.List.{map-append}
use Rattle.c_tables.specs.Tables.{FunctionShape, TablesShape, changed_at, with_definition}
use Rattle.c_checker_parts.proofs.Rows.{none_changed}
use Rattle.c_tree.specs.Units.{is_main, any_main}

pub definition_stays : (n : ℕ) (params : List ℕ) (t : TablesShape) → length t.functions ≤ n - 1 → with_definition n params t ≡ t
definition_stays n params t h = ap (λ rows. record t { functions = rows }) (none_changed (λ f. record f { defined = Some params }) (n - 1) t.functions h)

-- ---- a row of a table

drop_at : {R : Type 0} (rows : List R) (i j : ℕ) (r : R) → slice_get rows j ≡ Some r → j ≡ i → drop i rows ≡ r ∷ drop (suc i) rows
drop_at [] i j r h e = cc
drop_at (q ∷ rows) zero zero r h e = let s : q ≡ r = cc in rw s refl
drop_at (q ∷ rows) zero (suc j) r h e = cc
drop_at (q ∷ rows) (suc i) zero r h e = cc
drop_at (q ∷ rows) (suc i) (suc j) r h e = drop_at rows i j r h (cc)

take_at : {R : Type 0} (rows : List R) (i j : ℕ) (r : R) → slice_get rows j ≡ Some r → j ≡ i → take (suc i) rows ≡ take i rows ++ r ∷ []
take_at [] i j r h e = cc
take_at (q ∷ rows) zero zero r h e = let s : q ≡ r = cc in rw s refl
take_at (q ∷ rows) zero (suc j) r h e = cc
take_at (q ∷ rows) (suc i) zero r h e = cc
take_at (q ∷ rows) (suc i) (suc j) r h e = ap (λ s. q ∷ s) (take_at rows i j r h (cc))

module _ (rows : List FunctionShape) (i j : ℕ) (r : FunctionShape) (h : slice_get rows j ≡ Some r) (e : j ≡ i) where
  pub main_here : is_main r ≡ true → any_main (drop i rows) ≡ true
  main_here t = rw (drop_at rows i j r h e, t) refl

  pub main_next : is_main r ≡ false → any_main (drop i rows) ≡ any_main (drop (i + 1) rows)
  main_next t = rw (drop_at rows i j r h e, add-one, t) refl

  pub body_next : (b : Bool) (so more : List Bool) → b ≡ is_some r.defined → so ≡ map (λ f. is_some f.defined) (take i rows) → more ≡ so ++ b ∷ [] → more ≡ map (λ (f : FunctionShape). is_some f.defined) (take (i + 1) rows)
  body_next b so more g s m = rw (m, s, g, add-one, take_at rows i j r h e) (sym (map-append (λ (f : FunctionShape). is_some f.defined) (take i rows) (r ∷ [])))
