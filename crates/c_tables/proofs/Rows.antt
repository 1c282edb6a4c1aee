-- Rows that are changed in place, and their shapes.
use Rattle.std.proofs.Common.{◌≡◌, ℕ, zero, suc, ◌<◌, List, [], ◌∷◌, length, map, get_or, Some, Vec, Global, refl, ap, ◌∙◌, arith}
use Rattle.std.proofs.Math.ListN.{set}
use Rattle.c_tables.specs.declared.tables.FieldRow.{FieldRow}
use Rattle.c_tables.specs.declared.tables.StructRow.{StructRow}
use Rattle.c_tables.specs.declared.tables.FunctionRow.{FunctionRow}
use Rattle.c_base.specs.declared.numbers.NumberList.{NumberList}
use Rattle.c_tables.specs.Tables.{changed_at, struct_shape, field_shape, function_shape}

-- a change of a row keeps the count of rows
pub length_changed : {R : Type 0} (f : R → R) (i : ℕ) (rows : List R) → length (changed_at f i rows) ≡ length rows
length_changed f i [] = refl
length_changed f zero (r ∷ rows) = refl
length_changed f (suc i) (r ∷ rows) = ap suc (length_changed f i rows)

-- a row is changed, and so is its shape
pub changed_shape : {A B : Type 0} (shape : A → B) (f : B → B) (rows : List A) (i : ℕ) (old new : A) → i < length rows → old ≡ get_or rows i old → shape new ≡ f (shape old) → map shape (set rows i new) ≡ changed_at f i (map shape rows)
changed_shape shape f [] i old new h g e = refl
changed_shape shape f (r ∷ rows) zero old new h g e = ap (λ s. s ∷ map shape rows) (e ∙ ap (λ a. f (shape a)) g)
changed_shape shape f (r ∷ rows) (suc i) old new h g e = ap (λ s. shape r ∷ s) (changed_shape shape f rows i old new (omega (arith, h)) g e)

pub fields_set : (rows : List StructRow) (i : ℕ) (old : StructRow) (fields : Vec FieldRow Global) → i < length rows → old ≡ get_or rows i old → map struct_shape (set rows i (record { tag = old.tag; fields = fields })) ≡ changed_at (λ s. record s { fields = map field_shape fields.items }) i (map struct_shape rows)
fields_set rows i old fields h g = changed_shape struct_shape _ rows i old _ h g refl

pub definition_set : (rows : List FunctionRow) (i : ℕ) (old : FunctionRow) (params : NumberList) → i < length rows → old ≡ get_or rows i old → map function_shape (set rows i (record { name = old.name; result = old.result; params = old.params; defined = Some params })) ≡ changed_at (λ f. record f { defined = Some params }) i (map function_shape rows)
definition_set rows i old params h g = changed_shape function_shape _ rows i old _ h g refl
