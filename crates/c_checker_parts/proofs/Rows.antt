-- Rows that are changed in place.
use Rattle.std.proofs.Common.{◌≡◌, ℕ, zero, suc, ◌-◌, ◌≤◌, Bool, true, List, [], ◌∷◌, length, map, refl, sym, ap, ◌∙◌, arith}
use Rattle.std.proofs.lemmas.List.{length-map}
use Rattle.std.proofs.Math.ListN.{set}
use Rattle.c_type_rules.specs.declared.extent.Measured.{Measured}
use Rattle.c_type_rules.specs.Layouts.{measure_of, measures}
use Rattle.c_tables.specs.Tables.{FieldShape, TablesShape, changed_at, with_fields}

-- a row gets a value
row_set : {A B : Type 0} (shape : A → B) (v : A) (i : ℕ) (rows : List A) → map shape (set rows i v) ≡ changed_at (λ b. shape v) i (map shape rows)
row_set shape v i [] = refl
row_set shape v zero (r ∷ rows) = refl
row_set shape v (suc i) (r ∷ rows) = ap (λ s. shape r ∷ s) (row_set shape v i rows)

flag_set : (i : ℕ) (rows : List Bool) → set rows i true ≡ changed_at (λ b. true) i rows
flag_set i [] = refl
flag_set zero (r ∷ rows) = refl
flag_set (suc i) (r ∷ rows) = ap (λ s. r ∷ s) (flag_set i rows)

-- there is no such row
pub none_changed : {R : Type 0} (f : R → R) (i : ℕ) (rows : List R) → length rows ≤ i → changed_at f i rows ≡ rows
none_changed f i [] h = refl
none_changed f zero (r ∷ rows) h = absurd (omega (arith, h))
none_changed f (suc i) (r ∷ rows) h = ap (λ s. r ∷ s) (none_changed f i rows (omega (arith, h)))

pub begun_set : (rows : List Bool) (i n : ℕ) → i ≡ n - 1 → set rows i true ≡ changed_at (λ b. true) (n - 1) rows
begun_set rows i n e = flag_set i rows ∙ ap (λ k. changed_at (λ b. true) k rows) e

pub begun_stays : (rows : List Bool) (i n : ℕ) → i ≡ n - 1 → length rows ≤ i → rows ≡ changed_at (λ b. true) (n - 1) rows
begun_stays rows i n e h = sym (none_changed (λ b. true) (n - 1) rows (omega (arith, e, h)))

pub room_set : (rows : List Measured) (room : Measured) (i n : ℕ) → i ≡ n - 1 → measures (set rows i room) ≡ changed_at (λ m. measure_of room) (n - 1) (measures rows)
room_set rows room i n e = row_set measure_of room i rows ∙ ap (λ k. changed_at (λ m. measure_of room) k (measures rows)) e

pub room_stays : (rows : List Measured) (room : Measured) (i n : ℕ) → i ≡ n - 1 → length rows ≤ i → measures rows ≡ changed_at (λ m. measure_of room) (n - 1) (measures rows)
room_stays rows room i n e h = sym (none_changed (λ m. measure_of room) (n - 1) (measures rows) (omega (arith, e, h, length-map rows measure_of)))

pub fields_stay : (n : ℕ) (fields : List FieldShape) (t : TablesShape) → length t.structures ≤ n - 1 → with_fields n fields t ≡ t
fields_stay n fields t h = ap (λ rows. record t { structures = rows }) (none_changed (λ s. record s { fields = fields }) (n - 1) t.structures h)
