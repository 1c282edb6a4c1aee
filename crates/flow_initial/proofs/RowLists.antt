-- Lists of rows that grow at their end, or change in one row.
use Rattle.std.proofs.Common.{◌≡◌, ℕ, zero, suc, ◌-◌, ◌<◌, ◌≤◌, List, [], ◌∷◌, ◌++◌, length, nat_eq, ne_eqb, Option, None, Bool, true, false, refl, ap, arith}
use Rattle.std.specs.Prelude.{slice_get, if◌then◌else◌}
use Rattle.std.specs.List.{AllByRecursion}
use Rattle.c_syntax.specs.declared.text.Text.{Text}
use Rattle.c_tables.specs.Tables.{StructShape, changed_at}
use Rattle.c_tables.specs.Rows.{row, fields_in}
use Rattle.c_tree.specs.State.{is_set}

pub all_map : {X : Type 0} (P Q : X → Type 0) → ((x : X) → P x → Q x) → (xs : List X) → AllByRecursion P xs → AllByRecursion Q xs
all_map P Q f [] h = tt
all_map P Q f (x ∷ xs) h = (f x h.0, all_map P Q f xs h.1)

pub row_at : {R : Type 0} (rows : List R) (n : ℕ) → 1 ≤ n → row rows n ≡ slice_get rows (n - 1)
row_at rows zero h = absurd (omega (arith, h))
row_at rows (suc n) h = rw (ne_eqb (suc n) 0 (λ f. absurd (omega (arith, f)))) refl

pub counted_from_one : (n : ℕ) → nat_eq n 0 ≡ false → 1 ≤ n
counted_from_one zero e = cc
counted_from_one (suc n) e = omega arith

-- ---- of a row, where there is one

pub where_set : (b : Bool) (o p : Option Bool) → (is_set o ≡ true → is_set p ≡ true) → is_set (if b then None else o) ≡ true → is_set (if b then None else p) ≡ true
where_set true o p f e = e
where_set false o p f e = f e

pub where_unset : (b : Bool) (o p : Option Bool) → (is_set o ≡ false → is_set p ≡ false) → is_set (if b then None else o) ≡ false → is_set (if b then None else p) ≡ false
where_unset true o p f e = e
where_unset false o p f e = f e

pub where_fields : (b : Bool) (o p : Option StructShape) → (b ≡ false → fields_in o ≡ fields_in p) → fields_in (if b then None else o) ≡ fields_in (if b then None else p)
where_fields true o p f = refl
where_fields false o p f = f refl

-- ---- marks

pub set_in_front : (xs : List Bool) (i : ℕ) → is_set (slice_get xs i) ≡ true → is_set (slice_get (xs ++ false ∷ []) i) ≡ true
set_in_front [] i e = cc
set_in_front (x ∷ xs) zero e = e
set_in_front (x ∷ xs) (suc i) e = set_in_front xs i e

pub unset_in_front : (xs : List Bool) (i : ℕ) → is_set (slice_get (xs ++ false ∷ []) i) ≡ false → is_set (slice_get xs i) ≡ false
unset_in_front [] i e = refl
unset_in_front (x ∷ xs) zero e = e
unset_in_front (x ∷ xs) (suc i) e = unset_in_front xs i e

pub last_unset : (xs : List Bool) (i : ℕ) → i ≡ length xs → is_set (slice_get (xs ++ false ∷ []) i) ≡ false
last_unset [] zero e = refl
last_unset [] (suc i) e = absurd (omega (arith, e))
last_unset (x ∷ xs) zero e = absurd (omega (arith, e))
last_unset (x ∷ xs) (suc i) e = last_unset xs i (omega (arith, e))

pub set_stays : (j i : ℕ) (xs : List Bool) → is_set (slice_get xs i) ≡ true → is_set (slice_get (changed_at (λ b. true) j xs) i) ≡ true
set_stays j i [] e = e
set_stays zero zero (x ∷ xs) e = refl
set_stays zero (suc i) (x ∷ xs) e = e
set_stays (suc j) zero (x ∷ xs) e = e
set_stays (suc j) (suc i) (x ∷ xs) e = set_stays j i xs e

pub unset_before : (j i : ℕ) (xs : List Bool) → is_set (slice_get (changed_at (λ b. true) j xs) i) ≡ false → is_set (slice_get xs i) ≡ false
unset_before j i [] e = e
unset_before zero zero (x ∷ xs) e = cc
unset_before zero (suc i) (x ∷ xs) e = e
unset_before (suc j) zero (x ∷ xs) e = e
unset_before (suc j) (suc i) (x ∷ xs) e = unset_before j i xs e

pub set_there : (j : ℕ) (xs : List Bool) → j < length xs → is_set (slice_get (changed_at (λ b. true) j xs) j) ≡ true
set_there j [] h = absurd (omega (arith, h))
set_there zero (x ∷ xs) h = refl
set_there (suc j) (x ∷ xs) h = set_there j xs (omega (arith, h))

-- ---- fields

pub fields_in_front : (xs : List StructShape) (x : Option Text) (i : ℕ) → fields_in (slice_get (xs ++ record { tag = x; fields = [] } ∷ []) i) ≡ fields_in (slice_get xs i)
fields_in_front [] x zero = refl
fields_in_front [] x (suc i) = refl
fields_in_front (y ∷ xs) x zero = refl
fields_in_front (y ∷ xs) x (suc i) = fields_in_front xs x i

pub fields_apart : (f : StructShape → StructShape) (j i : ℕ) (xs : List StructShape) → (i ≡ j → ⊥) → fields_in (slice_get (changed_at f j xs) i) ≡ fields_in (slice_get xs i)
fields_apart f j i [] g = refl
fields_apart f zero zero (x ∷ xs) g = absurd (g refl)
fields_apart f zero (suc i) (x ∷ xs) g = refl
fields_apart f (suc j) zero (x ∷ xs) g = refl
fields_apart f (suc j) (suc i) (x ∷ xs) g = fields_apart f j i xs (λ e. g (ap suc e))
