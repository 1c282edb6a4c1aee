-- Bit patterns, and the values that they stand for.
use Rattle.std.proofs.Common.{◌≡◌, ℕ, suc, ◌-◌, ◌*◌, ◌/◌, ◌%◌, ◌^◌, ◌<◌, ◌≤◌, ℤ, pos, negsuc, ◌+ℤ◌, ◌-ℤ◌, ◌*ℤ◌, ◌≤ℤ◌, ◌<ℤ◌, true, false, int_le, unsigned_abs, bit_and, to_z, of_z, SFits, refl, sym, ap, subst, ◌∙◌, arith, pow_pos, mod-lt}
use Rattle.std.specs.Int.{w128}
use Rattle.std.proofs.lemmas.Bool.{cond-true, cond-false, and_from, and_right}
use Rattle.std.proofs.lemmas.Int.{ints, by_lt_z, int_rem_euclid_is, to_z_pos}
use Rattle.std.proofs.lemmas.Nat.{and_mask, div-add-mod'}
use Rattle.c_base.specs.declared.place.IntKind.{IntKind}
use Rattle.c_base.specs.declared.place.IntKind.TheVariants.{Char, Short, Int, Long, UChar, UShort, UInt, ULong}
use Rattle.c_arith.specs.Arith.{width, least, greatest, InRange, in_range, pattern, value_of, wrap}

-- ---- kinds

-- 128 bits are a multiple of each width
pub spare : (kind : IntKind) → 2 ^ 128 ≡ 2 ^ (128 - width kind) * 2 ^ width kind
spare Char = refl
spare Short = refl
spare Int = refl
spare Long = refl
spare UChar = refl
spare UShort = refl
spare UInt = refl
spare ULong = refl

-- what the proofs need of a kind's range
pub record Bounds (lo hi : ℤ) (size : ℕ) : Type 0 where
  pub low : lo ≤ℤ pos 0
  pub high : pos 1 ≤ℤ hi
  pub span : (hi -ℤ lo) +ℤ pos 1 ≡ pos size
  pub small : size ≤ 2 ^ 64

pub bounds : (kind : IntKind) → Bounds (least kind) (greatest kind) (2 ^ width kind)
bounds Char = record { low = omega (arith, ints); high = omega (arith, ints); span = refl; small = omega arith }
bounds Short = record { low = omega (arith, ints); high = omega (arith, ints); span = refl; small = omega arith }
bounds Int = record { low = omega (arith, ints); high = omega (arith, ints); span = refl; small = omega arith }
bounds Long = record { low = omega (arith, ints); high = omega (arith, ints); span = refl; small = omega arith }
bounds UChar = record { low = omega (arith, ints); high = omega (arith, ints); span = refl; small = omega arith }
bounds UShort = record { low = omega (arith, ints); high = omega (arith, ints); span = refl; small = omega arith }
bounds UInt = record { low = omega (arith, ints); high = omega (arith, ints); span = refl; small = omega arith }
bounds ULong = record { low = omega (arith, ints); high = omega (arith, ints); span = refl; small = omega arith }

-- ---- bits

pub pattern_below : (kind : IntKind) (z : ℤ) → pattern kind z < 2 ^ width kind
unfolding pattern
pattern_below kind (pos n) = mod-lt n (pow_pos (width kind))
pattern_below kind (negsuc n) = omega (arith, pow_pos (width kind))

-- a natural that is a multiple of 2 ^ width above z has its bits
pub pattern_is : (kind : IntKind) (z : ℤ) (k m : ℕ) → z +ℤ pos (k * 2 ^ width kind) ≡ pos m → pattern kind z ≡ m % 2 ^ width kind
unfolding pattern
pattern_is kind z k m e =
    ap unsigned_abs (int_rem_euclid_is z (pos (2 ^ width kind)) (2 ^ width kind) k m (pow_pos (width kind)) refl e)

-- the bits of an i128
pub pattern_from_bits : (kind : IntKind) (z : ℤ) → SFits w128 z → of_z w128 z % 2 ^ width kind ≡ pattern kind z
pattern_from_bits kind (pos n) f = sym (pattern_is kind (pos n) 0 n (omega (arith, ints)))
pattern_from_bits kind (negsuc n) f =
    let small = f.sfits in
    let whole = spare kind in
    sym (pattern_is kind (negsuc n) (2 ^ (128 - width kind)) (2 ^ 128 - suc n) (omega (arith, ints)))

-- what the code masks
pub masked : (kind : IntKind) (z : ℤ) (m : ℕ) → SFits w128 z → m ≡ 2 ^ width kind - 1 → unsigned_abs (to_z w128 (bit_and (of_z w128 z) m)) ≡ pattern kind z
masked kind z m f e =
    let is : bit_and (of_z w128 z) m ≡ pattern kind z = ap (bit_and (of_z w128 z)) e ∙ and_mask (of_z w128 z) (width kind) ∙ pattern_from_bits kind z f in
    let below = pattern_below kind z in
    let small = (bounds kind).small in
    ap (λ n. unsigned_abs (to_z w128 n)) is ∙ ap unsigned_abs (to_z_pos w128 (pattern kind z) (omega arith))

-- z is its bits and a multiple of 2 ^ width
pub pattern_law : (kind : IntKind) (z : ℤ) → (m : ℤ) × (z ≡ (pos (pattern kind z) +ℤ m *ℤ pos (2 ^ width kind)))
unfolding pattern
pattern_law kind (pos n) = (pos (n / 2 ^ width kind), omega (arith, ints, div-add-mod' n (2 ^ width kind)))
pattern_law kind (negsuc n) =
    let below = mod-lt n (pow_pos (width kind)) in
    (negsuc (n / 2 ^ width kind), omega (arith, ints, div-add-mod' n (2 ^ width kind)))

-- ---- values

-- the bits are the value where that isn't above the greatest one
pub value_of-low : (kind : IntKind) (n : ℕ) → pos n ≤ℤ greatest kind → value_of kind n ≡ pos n
unfolding value_of
value_of-low kind n h =
    let b = bounds kind in
    let low = b.low in
    let from : true ≡ int_le (least kind) (pos n) = omega (arith, ints) in
    let to : true ≡ int_le (pos n) (greatest kind) = omega (arith, ints) in
    cond-true (in_range kind (pos n)) _ _ (and_from _ _ (sym from) (sym to))

pub value_of-high : (kind : IntKind) (n : ℕ) → greatest kind <ℤ pos n → value_of kind n ≡ pos n -ℤ pos (2 ^ width kind)
unfolding value_of
value_of-high kind n h =
    let to : false ≡ int_le (pos n) (greatest kind) = omega (arith, ints) in
    cond-false (in_range kind (pos n)) _ _ (and_right _ _ (sym to))

-- bits of the width stand for a value of the kind
pub value_of-in_range : (kind : IntKind) (n : ℕ) → n < 2 ^ width kind → InRange kind (value_of kind n)
value_of-in_range kind n h =
    let b = bounds kind in
    let low = b.low in
    let high = b.high in
    let span = b.span in
    by_lt_z (greatest kind) (pos n)
    (λ g. subst (InRange kind) (sym (value_of-high kind n g)) (record { at_least = omega (arith, ints); at_most = omega (arith, ints) }))
    (λ g. subst (InRange kind) (sym (value_of-low kind n g)) (record { at_least = omega (arith, ints); at_most = omega (arith, ints) }))

-- one multiple more
next : (kind : IntKind) (z q : ℤ) (n : ℕ) → z ≡ (pos n +ℤ q *ℤ pos (2 ^ width kind)) → z ≡ ((pos n -ℤ pos (2 ^ width kind)) +ℤ (q +ℤ pos 1) *ℤ pos (2 ^ width kind))
next Char z q n e = omega (arith, ints)
next Short z q n e = omega (arith, ints)
next Int z q n e = omega (arith, ints)
next Long z q n e = omega (arith, ints)
next UChar z q n e = omega (arith, ints)
next UShort z q n e = omega (arith, ints)
next UInt z q n e = omega (arith, ints)
next ULong z q n e = omega (arith, ints)

-- the value of z's bits is a multiple of 2 ^ width away from z
pub wrap-law : (kind : IntKind) (z : ℤ) → (m : ℤ) × (z ≡ (wrap kind z +ℤ m *ℤ pos (2 ^ width kind)))
wrap-law kind z =
    let n = pattern kind z in
    let law = pattern_law kind z in
    let P : ℤ → Type 0 = λ v. (m : ℤ) × (z ≡ (v +ℤ m *ℤ pos (2 ^ width kind))) in
    by_lt_z (greatest kind) (pos n)
    (λ g. subst P (sym (value_of-high kind n g)) (law.0 +ℤ pos 1, next kind z law.0 n law.1))
    (λ g. subst P (sym (value_of-low kind n g)) law)

-- no two values of a kind are a multiple of 2 ^ width apart
pub one_value : (kind : IntKind) (z x y m k : ℤ) → InRange kind x → InRange kind y → z ≡ (x +ℤ m *ℤ pos (2 ^ width kind)) → z ≡ (y +ℤ k *ℤ pos (2 ^ width kind)) → x ≡ y
one_value Char z x y m k f g e d = omega (arith, ints, f.at_least, f.at_most, g.at_least, g.at_most)
one_value Short z x y m k f g e d = omega (arith, ints, f.at_least, f.at_most, g.at_least, g.at_most)
one_value Int z x y m k f g e d = omega (arith, ints, f.at_least, f.at_most, g.at_least, g.at_most)
one_value Long z x y m k f g e d = omega (arith, ints, f.at_least, f.at_most, g.at_least, g.at_most)
one_value UChar z x y m k f g e d = omega (arith, ints, f.at_least, f.at_most, g.at_least, g.at_most)
one_value UShort z x y m k f g e d = omega (arith, ints, f.at_least, f.at_most, g.at_least, g.at_most)
one_value UInt z x y m k f g e d = omega (arith, ints, f.at_least, f.at_most, g.at_least, g.at_most)
one_value ULong z x y m k f g e d = omega (arith, ints, f.at_least, f.at_most, g.at_least, g.at_most)

-- so the value of the kind that is a multiple of 2 ^ width away from z is the wrapped one
pub wrap-only : (kind : IntKind) (z x m : ℤ) → InRange kind x → z ≡ (x +ℤ m *ℤ pos (2 ^ width kind)) → x ≡ wrap kind z
wrap-only kind z x m f e =
    let law = wrap-law kind z in
    one_value kind z x (wrap kind z) m law.0 f (value_of-in_range kind (pattern kind z) (pattern_below kind z)) e law.1
