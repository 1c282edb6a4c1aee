-- How many leaf names there are.
use Rattle.std.proofs.Common.{◌≡◌, ℕ, zero, suc, ◌-◌, ◌<◌, ◌++◌, List, [], ◌∷◌, length, refl, ap, ◌∙◌, arith}
use Rattle.std.proofs.lemmas.List.{length-append}
use Rattle.c_syntax.specs.declared.text.Text.{Text}
use Rattle.c_syntax.specs.Shape.{TypeOf, int, pointer, array, structure, nothing}
use Rattle.c_tables.specs.Tables.{StructShape, FieldShape}
use Rattle.c_tables.specs.Rows.{row, fields_in}
use Rattle.c_walk.specs.Places.{element_text, field_text}
use Rattle.c_sites.specs.Names.{field_leaves, type_leaves, leaves}
use Rattle.c_sites.specs.Elements.{element}
use Rattle.c_sites.specs.Counts.{field_counts, element_count, leaf_count}

fields_length : (f : Text → TypeOf → List Text) (g : TypeOf → ℕ) → ((x : Text) (t : TypeOf) → length (f x t) ≡ g t) → (x : Text) (fs : List FieldShape) → length (field_leaves f x fs) ≡ field_counts g fs
fields_length f g h x [] = refl
fields_length f g h x (k ∷ fs) =
    let one = h (x ++ field_text k.name) k.kind in
    let rest = fields_length f g h x fs in
    length-append (f (x ++ field_text k.name) k.kind) (field_leaves f x fs) ∙ omega (arith, one, rest)

type_length : (f : Text → TypeOf → List Text) (g : TypeOf → ℕ) → ((x : Text) (t : TypeOf) → length (f x t) ≡ g t) → (rows : List StructShape) (x : Text) (t : TypeOf) → length (type_leaves f rows x t) ≡ element_count g rows (element t)
type_length f g h rows x (int k) = refl
type_length f g h rows x (pointer t) = refl
type_length f g h rows x (array t n) = type_length f g h rows (x ++ element_text) t
type_length f g h rows x (structure n) = fields_length f g h x (fields_in (row rows n))
type_length f g h rows x nothing = refl

pub leaves_length : (depth : ℕ) (rows : List StructShape) (x : Text) (t : TypeOf) → length (leaves depth rows x t) ≡ leaf_count depth rows t
leaves_length zero rows x t = refl
leaves_length (suc depth) rows x t = type_length (leaves depth rows) (leaf_count depth rows) (leaves_length depth rows) rows x t

-- ---- by the depth

pub none_deep : (depth : ℕ) (rows : List StructShape) (t : TypeOf) → depth ≡ 0 → leaf_count depth rows t ≡ 0
none_deep depth rows t h = ap (λ d. leaf_count d rows t) h

pub count_deep : (depth : ℕ) (rows : List StructShape) (t : TypeOf) → 0 < depth → leaf_count depth rows t ≡ element_count (leaf_count (depth - 1) rows) rows (element t)
count_deep zero rows t h = absurd (omega (arith, h))
count_deep (suc depth) rows t h = let e : suc depth - 1 ≡ depth = omega arith in rw e refl
