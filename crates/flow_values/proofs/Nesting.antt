-- Types in which no structure lies in itself: how many cells their fields have.
use Rattle.std.proofs.Common.{◌≡◌, ℕ, zero, suc, ◌+◌, ◌*◌, ◌≤◌, List, [], ◌∷◌, ◌++◌, length, length-append, refl, ap, ap₂, ◌∙◌, arith}
use Rattle.std.specs.List.{AllByRecursion, repeat}
use Rattle.c_syntax.specs.Shape.{TypeOf, int, pointer, array, structure, nothing}
use Rattle.c_tables.specs.Tables.{FieldShape, StructShape, TablesShape}
use Rattle.c_tables.specs.Rows.{row, fields_in}
use Rattle.c_meaning.specs.Layout.{field_scalars, type_scalars, scalars_to, cells}
use Rattle.flow_values.specs.Made.{IsOver, IsNested}

pub repeat_length : {A : Type 0} (n : ℕ) (xs : List A) → length (repeat n xs) ≡ n * length xs
repeat_length zero xs = grind arith
repeat_length (suc n) xs = let k = repeat_length n xs in length-append xs (repeat n xs) ∙ grind (arith, k)

-- ---- deeper

pub all_over : (P Q : TypeOf → Type 0) → ((k : TypeOf) → P k → Q k) → (fields : List FieldShape) → AllByRecursion (λ (f : FieldShape). P f.kind) fields → AllByRecursion (λ (f : FieldShape). Q f.kind) fields
all_over P Q g [] h = tt
all_over P Q g (f ∷ fields) h = (g f.kind h.0, all_over P Q g fields h.1)

over_more : (P Q : TypeOf → Type 0) (rows : List StructShape) → ((k : TypeOf) → P k → Q k) → (k : TypeOf) → IsOver P rows k → IsOver Q rows k
over_more P Q rows g (array k n) h = over_more P Q rows g k h
over_more P Q rows g (structure n) h = all_over P Q g (fields_in (row rows n)) h
over_more P Q rows g (int k) h = tt
over_more P Q rows g (pointer k) h = tt
over_more P Q rows g nothing h = tt

pub nested_more : (d e : ℕ) (rows : List StructShape) (k : TypeOf) → d ≤ e → IsNested d rows k → IsNested e rows k
nested_more zero e rows k le h = absurd h
nested_more (suc d) zero rows k le h = absurd (omega (arith, le))
nested_more (suc d) (suc e) rows k le h = over_more (IsNested d rows) (IsNested e rows) rows (λ j g. nested_more d e rows j (omega (arith, le)) g) k h

fields_same : (P : TypeOf → Type 0) (f g : TypeOf → List TypeOf) → ((k : TypeOf) → P k → f k ≡ g k) → (fields : List FieldShape) → AllByRecursion (λ (f : FieldShape). P f.kind) fields → field_scalars f fields ≡ field_scalars g fields
fields_same P f g same [] h = refl
fields_same P f g same (x ∷ fields) h = ap₂ (λ xs ys. xs ++ ys) (same x.kind h.0) (fields_same P f g same fields h.1)

over_same : (P : TypeOf → Type 0) (f g : TypeOf → List TypeOf) (rows : List StructShape) → ((k : TypeOf) → P k → f k ≡ g k) → (k : TypeOf) → IsOver P rows k → type_scalars f rows k ≡ type_scalars g rows k
over_same P f g rows same (array k n) h = ap (repeat n) (over_same P f g rows same k h)
over_same P f g rows same (structure n) h = fields_same P f g same (fields_in (row rows n)) h
over_same P f g rows same (int k) h = refl
over_same P f g rows same (pointer k) h = refl
over_same P f g rows same nothing h = refl

-- a type has the same scalars however deep one looks
pub scalars_same : (d e : ℕ) (rows : List StructShape) (k : TypeOf) → d ≤ e → IsNested d rows k → scalars_to e rows k ≡ scalars_to d rows k
scalars_same zero e rows k le h = absurd h
scalars_same (suc d) zero rows k le h = absurd (omega (arith, le))
scalars_same (suc d) (suc e) rows k le h = over_same (IsNested d rows) (scalars_to e rows) (scalars_to d rows) rows (λ j g. scalars_same d e rows j (omega (arith, le)) g) k h

-- ---- fields

abbrev pub fields_cells : TablesShape → List FieldShape → ℕ
fields_cells t [] = 0
fields_cells t (f ∷ fields) = cells t f.kind + fields_cells t fields

fields_length : (t : TablesShape) (fields : List FieldShape) → AllByRecursion (λ (f : FieldShape). IsNested (length t.structures) t.structures f.kind) fields
    → fields_cells t fields ≡ length (field_scalars (scalars_to (length t.structures) t.structures) fields)
fields_length t [] h = refl
fields_length t (f ∷ fields) h =
    let depth = length t.structures in
    let inner = scalars_to depth t.structures in
    let one : cells t f.kind ≡ length (inner f.kind) = ap length (scalars_same depth (suc depth) t.structures f.kind (omega arith) h.0) in
    omega (arith, one, fields_length t fields h.1, length-append (inner f.kind) (field_scalars inner fields))

-- a structure has the cells of all its fields
pub holds_fields : (t : TablesShape) (n : ℕ) → IsNested (suc (length t.structures)) t.structures (structure n) → fields_cells t (fields_in (row t.structures n)) ≡ cells t (structure n)
holds_fields t n h = fields_length t (fields_in (row t.structures n)) h
