-- The scalars of types, by their depth.
use Rattle.std.proofs.Common.{◌≡◌, ℕ, zero, suc, ◌-◌, ◌<◌, ◌≤◌, List, [], ◌++◌, length, map, append-nil, Option, None, ne_eqb, refl, sym, ap, ◌∙◌, arith}
use Rattle.std.specs.List.{repeat}
use Rattle.std.proofs.lemmas.List.{map-append}
use Rattle.std.proofs.lemmas.Option.{slice_get_past}
use Rattle.c_store.specs.declared.value.Value.{Value}
use Rattle.c_syntax.specs.Shape.{TypeOf, int, pointer, array, structure, nothing}
use Rattle.c_tables.specs.Tables.{StructShape}
use Rattle.c_tables.specs.Rows.{row, fields_in}
use Rattle.c_meaning.specs.Layout.{field_scalars, type_scalars, scalars_to, zero_of}
use Rattle.c_compute.specs.Sizes.{element, elements}
use Rattle.c_compute.specs.Cells.{element_scalars}
use Rattle.c_compute.proofs.Lists.{one_more, none_left, repeat_first, repeat_product}

scalars_of : (inner : TypeOf → List TypeOf) (rows : List StructShape) (t : TypeOf) → type_scalars inner rows t ≡ repeat (elements t) (element_scalars inner rows (element t))
scalars_of inner rows (int k) = refl
scalars_of inner rows (pointer t) = refl
scalars_of inner rows (array t n) = ap (λ x. repeat n x) (scalars_of inner rows t) ∙ repeat_product n (elements t) (element_scalars inner rows (element t))
scalars_of inner rows (structure n) = sym (append-nil (field_scalars inner (fields_in (row rows n))))
scalars_of inner rows nothing = refl

pub none_deep : (depth : ℕ) (rows : List StructShape) (t : TypeOf) → depth ≡ 0 → scalars_to depth rows t ≡ []
none_deep depth rows t h = ap (λ d. scalars_to d rows t) h

pub scalars_deep : (depth : ℕ) (rows : List StructShape) (t : TypeOf) → 0 < depth → scalars_to depth rows t ≡ repeat (elements t) (element_scalars (scalars_to (depth - 1) rows) rows (element t))
scalars_deep zero rows t h = absurd (omega (arith, h))
scalars_deep (suc depth) rows t h = let e : suc depth - 1 ≡ depth = omega arith in rw e (scalars_of (scalars_to depth rows) rows t)

pub no_row : (rows : List StructShape) (n : ℕ) → length rows < n → row rows n ≡ None
no_row rows zero h = absurd (omega (arith, h))
no_row rows (suc n) h = rw (ne_eqb (suc n) 0 (λ e. absurd (omega (arith, e)))) (slice_get_past rows (suc n - 1) (omega (arith, h)))

-- ---- pushed one after the other

pub scalars_next : (c d : List (Option Value)) (xs : List TypeOf) (left : ℕ) → 0 < left → d ≡ c ++ map zero_of xs → d ++ map zero_of (repeat (left - 1) xs) ≡ c ++ map zero_of (repeat left xs)
scalars_next c d xs left h e = one_more c d (map zero_of xs) (map zero_of (repeat (left - 1) xs)) (map zero_of (repeat left xs)) e (ap (λ x. map zero_of x) (repeat_first left xs h) ∙ map-append zero_of xs (repeat (left - 1) xs))

pub scalars_done : (c old : List (Option Value)) (left count depth : ℕ) (rows : List StructShape) (t of : TypeOf) → left ≤ 0 → (depth ≡ 0 → ⊥) → count ≡ elements t → of ≡ element t → c ++ map zero_of (repeat left (element_scalars (scalars_to (depth - 1) rows) rows of)) ≡ old ++ map zero_of (repeat count (element_scalars (scalars_to (depth - 1) rows) rows of)) → c ≡ old ++ map zero_of (scalars_to depth rows t)
scalars_done c old left count depth rows t of h deep counted is all =
    let one = element_scalars (scalars_to (depth - 1) rows) rows of in
    let k : left ≡ 0 = omega (arith, h) in
    let positive : 0 < depth = omega (arith, deep) in
    none_left c (map zero_of (repeat left one)) (old ++ map zero_of (repeat count one)) (ap (λ n. map zero_of (repeat n one)) k) all ∙
    ap (λ x. old ++ map zero_of x) (ap (λ n. repeat n one) counted ∙ ap (λ of. repeat (elements t) (element_scalars (scalars_to (depth - 1) rows) rows of)) is ∙ sym (scalars_deep depth rows t positive))
