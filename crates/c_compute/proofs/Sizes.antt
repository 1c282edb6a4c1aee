-- The cells of a type, counted.
use Rattle.std.proofs.Common.{◌≡◌, ℕ, zero, suc, ◌+◌, ◌-◌, ◌*◌, ◌<◌, ◌≤◌, ◌^◌, ◌⊎◌, inl, inr, ⊎_elim, List, [], ◌∷◌, length, refl, sym, ap, ◌∙◌, arith}
use Rattle.std.proofs.Math.Nat.{mul_assoc}
use Rattle.std.specs.List.{repeat}
use Rattle.std.proofs.lemmas.List.{length-append}
use Rattle.c_syntax.specs.Shape.{TypeOf, int, pointer, array, structure, nothing}
use Rattle.c_tables.specs.Tables.{StructShape, FieldShape, TablesShape}
use Rattle.c_tables.specs.Rows.{row, fields_in}
use Rattle.c_meaning.specs.Layout.{field_scalars, type_scalars, scalars_to, cells}
use Rattle.c_compute.specs.Sizes.{element, elements, field_count, element_count, scalar_count}
use Rattle.c_base.specs.Kept.{kept}

repeat_length : {A : Type 0} (n : ℕ) (xs : List A) → length (repeat n xs) ≡ n * length xs
repeat_length zero xs = grind arith
repeat_length (suc n) xs = let k = repeat_length n xs in length-append xs (repeat n xs) ∙ grind (arith, k)

fields_length : (f : TypeOf → List TypeOf) (g : TypeOf → ℕ) → ((t : TypeOf) → length (f t) ≡ g t) → (fs : List FieldShape) → length (field_scalars f fs) ≡ field_count g fs
fields_length f g h [] = refl
fields_length f g h (k ∷ fs) =
    let one = h k.kind in
    let rest = fields_length f g h fs in
    length-append (f k.kind) (field_scalars f fs) ∙ omega (arith, one, rest)

type_length : (f : TypeOf → List TypeOf) (g : TypeOf → ℕ) → ((t : TypeOf) → length (f t) ≡ g t) → (rows : List StructShape) (t : TypeOf) → length (type_scalars f rows t) ≡ elements t * element_count g rows (element t)
type_length f g h rows (int k) = refl
type_length f g h rows (pointer t) = refl
type_length f g h rows (array t n) = repeat_length n (type_scalars f rows t) ∙ ap (λ x. n * x) (type_length f g h rows t) ∙ sym (mul_assoc n (elements t) (element_count g rows (element t)))
type_length f g h rows (structure n) = fields_length f g h (fields_in (row rows n)) ∙ grind arith
type_length f g h rows nothing = refl

pub scalars_length : (depth : ℕ) (rows : List StructShape) (t : TypeOf) → length (scalars_to depth rows t) ≡ scalar_count depth rows t
scalars_length zero rows t = refl
scalars_length (suc depth) rows t = type_length (scalars_to depth rows) (scalar_count depth rows) (scalars_length depth rows) rows t

pub cells_counted : (t : TablesShape) (k : TypeOf) (depth n : ℕ) → depth ≡ suc (length t.structures) → n ≡ kept (scalar_count depth t.structures k) → n ≡ kept (cells t k)
cells_counted t k depth n d is = is ∙ ap (λ x. kept (scalar_count x t.structures k)) d ∙ ap kept (sym (scalars_length (suc (length t.structures)) t.structures k))

-- ---- by the depth

pub none_deep : (depth : ℕ) (rows : List StructShape) (t : TypeOf) → depth ≡ 0 → scalar_count depth rows t ≡ 0
none_deep depth rows t h = ap (λ d. scalar_count d rows t) h

pub count_deep : (depth : ℕ) (rows : List StructShape) (t : TypeOf) → 0 < depth → scalar_count depth rows t ≡ elements t * element_count (scalar_count (depth - 1) rows) rows (element t)
count_deep zero rows t h = absurd (omega (arith, h))
count_deep (suc depth) rows t h = let e : suc depth - 1 ≡ depth = omega arith in rw e refl

-- ---- products that are kept

split : (a m : ℕ) → (a ≤ m) ⊎ (m < a)
split zero m = inl (omega arith)
split (suc a) zero = inr (omega arith)
split (suc a) (suc m) = ⊎_elim (λ h. inl (omega (arith, h))) (λ h. inr (omega (arith, h))) (split a m)

pub kept_small : (a : ℕ) → a ≤ 2 ^ 32 - 1 → kept a ≡ a
kept_small a h = omega (arith, h)

large_product : (a b : ℕ) → 2 ^ 32 - 1 < a → kept (kept a * kept b) ≡ kept (a * b)
large_product a zero h = grind arith
large_product a (suc b) h =
    let k : kept a ≡ 4294967295 = omega (arith, h) in
    let p : a * suc b ≡ a * b + a = grind arith in
    let q : kept (suc b) ≡ suc (kept (suc b) - 1) = omega arith in
    rw k (rw p (omega (arith, h, q)))

product_comm : (a b : ℕ) → kept (a * b) ≡ kept (b * a)
product_comm a b = ap kept (grind arith)

pub kept_product : (a b : ℕ) → kept (kept a * kept b) ≡ kept (a * b)
kept_product a b =
    ⊎_elim
    (λ h. ⊎_elim
    (λ j. ap (λ x. kept (x * kept b)) (kept_small a h) ∙ ap (λ x. kept (a * x)) (kept_small b j))
    (λ j. product_comm (kept a) (kept b) ∙ large_product b a j ∙ product_comm b a)
    (split b (2 ^ 32 - 1)))
    (λ h. large_product a b h)
    (split a (2 ^ 32 - 1))
