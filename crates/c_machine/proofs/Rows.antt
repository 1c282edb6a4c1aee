-- The first function that is main.
use Rattle.std.proofs.Common.{◌≡◌, ℕ, zero, suc, ◌+◌, true, false, List, [], ◌∷◌, drop, slice_get, Some, refl, add-one}
use Rattle.c_tables.specs.Tables.{FunctionShape}
use Rattle.c_tables.specs.Rows.{number_from}
use Rattle.c_tree.specs.Units.{is_main}

drop_at : {R : Type 0} (rows : List R) (i j : ℕ) (r : R) → slice_get rows j ≡ Some r → j ≡ i → drop i rows ≡ r ∷ drop (suc i) rows
drop_at [] i j r h e = cc
drop_at (q ∷ rows) zero zero r h e = let s : q ≡ r = cc in rw s refl
drop_at (q ∷ rows) zero (suc j) r h e = cc
drop_at (q ∷ rows) (suc i) zero r h e = cc
drop_at (q ∷ rows) (suc i) (suc j) r h e = drop_at rows i j r h cc

pub main_here : (rows : List FunctionShape) (i j : ℕ) (r : FunctionShape) → slice_get rows j ≡ Some r → j ≡ i → is_main r ≡ true → number_from is_main (i + 1) (drop i rows) ≡ Some (i + 1)
main_here rows i j r h e t = rw (drop_at rows i j r h e, t) refl

pub main_next : (rows : List FunctionShape) (i j : ℕ) (r : FunctionShape) → slice_get rows j ≡ Some r → j ≡ i → is_main r ≡ false → number_from is_main (i + 1) (drop i rows) ≡ number_from is_main ((i + 1) + 1) (drop (i + 1) rows)
main_next rows i j r h e t = rw (drop_at rows i j r h e, t, add-one) refl
