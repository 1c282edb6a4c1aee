-- Rows of tables, copied one by one.
use Rattle.std.proofs.Common.{◌≡◌, ℕ, zero, suc, ◌+◌, List, [], ◌∷◌, ◌++◌, take, slice_get, Some, refl, ap, ◌∙◌, add-one}
use Rattle.c_tables.specs.Tables.{TablesShape}

take_at : {R : Type 0} (rows : List R) (i j : ℕ) (r : R) → slice_get rows j ≡ Some r → j ≡ i → take i rows ++ r ∷ [] ≡ take (suc i) rows
take_at [] i j r h e = cc
take_at (q ∷ rows) zero zero r h e = let s : r ≡ q = cc in rw s refl
take_at (q ∷ rows) zero (suc j) r h e = cc
take_at (q ∷ rows) (suc i) zero r h e = cc
take_at (q ∷ rows) (suc i) (suc j) r h e = ap (λ s. q ∷ s) (take_at rows i j r h (cc))

-- one of the lists of the tables
pub record Listed (R : Type 0) : Type 0 where
  pub list : TablesShape → List R
  pub with : List R → TablesShape → TablesShape
  pub has : (rows : List R) (t : TablesShape) → list (with rows t) ≡ rows
  pub last : (rows before : List R) (t : TablesShape) → with rows (with before t) ≡ with rows t

-- behind copies of so many rows a copy of the next one was put
pub one_more : {R : Type 0} (l : Listed R) (old now new : TablesShape) (all : List R) (i j : ℕ) (r s : R) → now ≡ l.with (take i all) old → new ≡ l.with (l.list now ++ s ∷ []) now → slice_get all j ≡ Some r → j ≡ i → s ≡ r → new ≡ l.with (take (i + 1) all) old
one_more l old now new all i j r s e f h k same =
    let so_far : l.list now ≡ take i all = ap l.list e ∙ l.has (take i all) old in
    let more : take i all ++ s ∷ [] ≡ take (i + 1) all = rw (same, add-one) (take_at all i j r h k) in
    f ∙ ap (λ rows. l.with (rows ++ s ∷ []) now) so_far ∙ ap (λ rows. l.with rows now) more ∙ ap (l.with (take (i + 1) all)) e ∙ l.last (take (i + 1) all) (take i all) old
