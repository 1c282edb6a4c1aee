-- One bit of a word, and the facts apart from it.
use Rattle.std.proofs.Common.{◌≡◌, ◌≢◌, ℕ, ◌*◌, ◌/◌, ◌%◌, ◌^◌, ◌<◌, Bool, true, false, ◌&&◌, eqb, ltb, Option, unwrap_or, bit_or, bit_and, get_or, set, refl, sym, ap, subst, ◌∙◌, inl, inr, arith}
use Rattle.std.specs.Int.{bit_at, w64}
use Rattle.std.proofs.lemmas.Bool.{ltb-true, lt-ltb, eq-eqb, cases_eq}
use Rattle.std.proofs.lemmas.Nat.Bits.{bit_at_set_same, bit_at_set_other, bit_at-zero, shr_and_one}
use Rattle.atac_facts.specs.Facts.{key_of, place_of, fits}
use Rattle.std.specs.List.{insert}
use Rattle.std.proofs.lemmas.List.{get_or_default}
use Rattle.std.proofs.lemmas.Nat.{or_disjoint, and_le_l}
use Rattle.atac_facts.specs.Pairs.{Pairs, SetsOnly, IsAt, IsGapFor, IsStrictlySorted}
use Rattle.atac_facts.proofs.Place.{get_at, get_in_gap, sets_only_set, sets_only_insert}
use Rattle.atac_facts.specs.Sets.{FactSet, bits_at, holds}
use Rattle.atac_facts.specs.declared.fact.Fact.{Fact}
use Rattle.atac_facts.specs.declared.fact.Fact.TheVariants.{Block, Outcome, Pair, PUse}

abbrev pub InRange : Fact → Type 0
InRange (Block k) = k < 65536
InRange (Outcome k o) = (k < 65536) × (o < 4294967296)
InRange (Pair d u) = (d < 65536) × (u < 65536)
InRange (PUse d u o) = (d < 65536) × (u < 65536) × (o < 4294967296)

pub and_both : (a b : Bool) → (a && b) ≡ true → (a ≡ true) × (b ≡ true)
and_both true b e = (refl, e)
and_both false b e = absurd cc

pub both_and : (a b : Bool) → a ≡ true → b ≡ true → (a && b) ≡ true
both_and true b p q = q
both_and false b p q = absurd cc

pub in_range : (f : Fact) → fits f ≡ true → InRange f
in_range (Block k) e = ltb-true _ _ e
in_range (Outcome k o) e =
    let p = and_both (ltb k 65536) (ltb o 4294967296) e in (ltb-true _ _ p.0, ltb-true _ _ p.1)
in_range (Pair d u) e =
    let p = and_both (ltb d 65536) (ltb u 65536) e in (ltb-true _ _ p.0, ltb-true _ _ p.1)
in_range (PUse d u o) e =
    let p = and_both (ltb d 65536) (ltb u 65536 && ltb o 4294967296) e in
    let q = and_both (ltb u 65536) (ltb o 4294967296) p.1 in
    (ltb-true _ _ p.0, ltb-true _ _ q.0, ltb-true _ _ q.1)

pub fits_is : (f : Fact) → InRange f → fits f ≡ true
fits_is (Block k) r = lt-ltb _ _ r
fits_is (Outcome k o) r = both_and (ltb k 65536) (ltb o 4294967296) (lt-ltb _ _ r.0) (lt-ltb _ _ r.1)
fits_is (Pair d u) r = both_and (ltb d 65536) (ltb u 65536) (lt-ltb _ _ r.0) (lt-ltb _ _ r.1)
fits_is (PUse d u o) r =
    both_and (ltb d 65536) (ltb u 65536 && ltb o 4294967296) (lt-ltb _ _ r.0) (both_and (ltb u 65536) (ltb o 4294967296) (lt-ltb _ _ r.1) (lt-ltb _ _ r.2))

-- a fact is told by its key and its place
pub one_fact : (a b : Fact) → InRange a → InRange b → key_of a ≡ key_of b → place_of a ≡ place_of b → a ≡ b
one_fact (Block k) (Block k') r s key place = ap Block (omega arith)
one_fact (Outcome k o) (Outcome k' o') r s key place =
    let e : k ≡ k' = omega arith in
    let f : o ≡ o' = omega arith in
    ap (λ (x : ℕ). Outcome x o) e ∙ ap (Outcome k') f
one_fact (Pair d u) (Pair d' u') r s key place =
    let e : d ≡ d' = omega arith in
    let f : u ≡ u' = omega arith in
    ap (λ (x : ℕ). Pair x u) e ∙ ap (Pair d') f
one_fact (PUse d u o) (PUse d' u' o') r s key place =
    let e : d ≡ d' = omega arith in
    let f : u ≡ u' = omega arith in
    let g : o ≡ o' = omega arith in
    ap (λ (x : ℕ). PUse x u o) e ∙ ap (λ (x : ℕ). PUse d' x o) f ∙ ap (PUse d' u') g
one_fact (Block k) (Outcome k' o') r s key place = absurd (omega arith)
one_fact (Block k) (Pair d' u') r s key place = absurd (omega arith)
one_fact (Block k) (PUse d' u' o') r s key place = absurd (omega arith)
one_fact (Outcome k o) (Block k') r s key place = absurd (omega arith)
one_fact (Outcome k o) (Pair d' u') r s key place = absurd (omega arith)
one_fact (Outcome k o) (PUse d' u' o') r s key place = absurd (omega arith)
one_fact (Pair d u) (Block k') r s key place = absurd (omega arith)
one_fact (Pair d u) (Outcome k' o') r s key place = absurd (omega arith)
one_fact (Pair d u) (PUse d' u' o') r s key place = absurd (omega arith)
one_fact (PUse d u o) (Block k') r s key place = absurd (omega arith)
one_fact (PUse d u o) (Outcome k' o') r s key place = absurd (omega arith)
one_fact (PUse d u o) (Pair d' u') r s key place = absurd (omega arith)

pub small_place : (f : Fact) → place_of f < 64
small_place (Block k) = omega arith
small_place (Outcome k o) = omega arith
small_place (Pair d u) = omega arith
small_place (PUse d u o) = omega arith

-- the bit of a place, as the code makes it
abbrev pub bit : ℕ → ℕ
bit place = 1 * 2 ^ place % 2 ^ 64

-- the words with one bit set under one key
abbrev pub Sets : Pairs → Pairs → ℕ → ℕ → Type 0
Sets old new key place = SetsOnly old new key (bit_or (bits_at old key) (bit place))

pub sets_there : (old new : FactSet) (f : Fact) → InRange f → Sets old.words new.words (key_of f) (place_of f) → holds new f ≡ true
sets_there old new f r sets =
    let bits : bits_at new.words (key_of f) ≡ bit_or (bits_at old.words (key_of f)) (bit (place_of f)) = ap (λ (o : Option ℕ). unwrap_or o 0) sets.this_key in
    let one = bit_at_set_same w64 (bits_at old.words (key_of f)) (place_of f) (small_place f) in
    let there : bit_at (bits_at new.words (key_of f)) (place_of f) ≡ 1 = ap (λ (n : ℕ). bit_at n (place_of f)) bits ∙ one in
    both_and (fits f) (eqb (bit_at (bits_at new.words (key_of f)) (place_of f)) 1) (fits_is f r) (eq-eqb _ 1 there)

other_bit : (old new : FactSet) (f g : Fact) → InRange f → InRange g → g ≢ f → Sets old.words new.words (key_of f) (place_of f) → bit_at (bits_at new.words (key_of g)) (place_of g) ≡ bit_at (bits_at old.words (key_of g)) (place_of g)
other_bit old new f g r s differs sets =
    elim (cases_eq (key_of g) (key_of f)) [
      | inl same ↦
          let apart : place_of g ≢ place_of f = λ e. differs (one_fact g f s r same e) in
          let bits : bits_at new.words (key_of f) ≡ bit_or (bits_at old.words (key_of f)) (bit (place_of f)) = ap (λ (o : Option ℕ). unwrap_or o 0) sets.this_key in
          ap (λ (k : ℕ). bit_at (bits_at new.words k) (place_of g)) same ∙ ap (λ (n : ℕ). bit_at n (place_of g)) bits
          ∙ bit_at_set_other w64 (bits_at old.words (key_of f)) (place_of f) (small_place f) (place_of g) apart
          ∙ ap (λ (k : ℕ). bit_at (bits_at old.words k) (place_of g)) (sym same)
      | inr apart ↦ ap (λ (o : Option ℕ). bit_at (unwrap_or o 0) (place_of g)) (sets.other_keys (key_of g) apart)
    ]

same_holds : (b : Bool) (m n : ℕ) → (b ≡ true → m ≡ n) → (b && eqb m 1) ≡ (b && eqb n 1)
same_holds true m n e = ap (λ (k : ℕ). eqb k 1) (e refl)
same_holds false m n e = refl

pub sets_others : (old new : FactSet) (f g : Fact) → InRange f → g ≢ f → Sets old.words new.words (key_of f) (place_of f) → holds new g ≡ holds old g
sets_others old new f g r differs sets =
    same_holds (fits g) _ _ (λ fit. other_bit old new f g r (in_range g fit) differs sets)

-- ---- what the calls do

pub bits_there : (words : Pairs) (key at : ℕ) (pair : ℕ × ℕ) → IsStrictlySorted words → IsAt words key at → pair ≡ get_or words at pair → bits_at words key ≡ pair.1
bits_there words key at pair sorted is_at read =
    let value = get_at words sorted key at is_at in
    let same : pair ≡ get_or words at (0, 0) = read ∙ get_or_default words at pair (0, 0) is_at.in_range in
    ap (λ (o : Option ℕ). unwrap_or o 0) value ∙ sym (ap (λ (p : ℕ × ℕ). p.1) same)

pub added_at : (words : Pairs) (key place at : ℕ) (pair : ℕ × ℕ) → IsStrictlySorted words → IsAt words key at → pair ≡ get_or words at pair → Sets words (set words at (key, bit_or pair.1 (bit place))) key place
added_at words key place at pair sorted is_at read =
    let P = λ (b : ℕ). SetsOnly words (set words at (key, bit_or b (bit place))) key (bit_or (bits_at words key) (bit place)) in
    subst P (bits_there words key at pair sorted is_at read) (sets_only_set words sorted key at is_at (bit_or (bits_at words key) (bit place)))

pub or_nothing : (b : ℕ) → bit_or 0 b ≡ b
or_nothing b = let none : bit_and 0 b ≡ 0 = omega (arith, and_le_l 0 b) in let e = or_disjoint 0 b none in omega arith

pub no_bits : (words : Pairs) (key at : ℕ) → IsGapFor words key at → bits_at words key ≡ 0
no_bits words key at gap = ap (λ (o : Option ℕ). unwrap_or o 0) (get_in_gap words key at gap)

pub added_in : (words : Pairs) (key place at : ℕ) → IsGapFor words key at → Sets words (insert words at (key, bit place)) key place
added_in words key place at gap =
    let value : bit place ≡ bit_or (bits_at words key) (bit place) = sym (ap (λ (b : ℕ). bit_or b (bit place)) (no_bits words key at gap) ∙ or_nothing (bit place)) in
    let P = λ (v : ℕ). SetsOnly words (insert words at (key, bit place)) key v in
    subst P value (sets_only_insert words key at gap (bit place))

pub there_after : (old new : FactSet) (f : Fact) (key place : ℕ) → key ≡ key_of f → place ≡ place_of f → fits f ≡ true → Sets old.words new.words key place → holds new f ≡ true
there_after old new f key place key-is place-is fit sets =
    sets_there old new f (in_range f fit) (subst (Sets old.words new.words (key_of f)) place-is (subst (λ (k : ℕ). Sets old.words new.words k place) key-is sets))

pub others_after : (old new : FactSet) (f : Fact) (key place : ℕ) → key ≡ key_of f → place ≡ place_of f → fits f ≡ true → Sets old.words new.words key place → (g : Fact) → g ≢ f → holds new g ≡ holds old g
others_after old new f key place key-is place-is fit sets g differs =
    sets_others old new f g (in_range f fit) differs (subst (Sets old.words new.words (key_of f)) place-is (subst (λ (k : ℕ). Sets old.words new.words k place) key-is sets))

pub has_at : (s : FactSet) (f : Fact) (key place at : ℕ) (pair : ℕ × ℕ) → key ≡ key_of f → place ≡ place_of f → fits f ≡ true → IsStrictlySorted s.words → IsAt s.words key at → pair ≡ get_or s.words at pair → eqb (bit_and (pair.1 / 2 ^ place) 1) 1 ≡ holds s f
has_at s f key place at pair key-is place-is fit sorted is_at read =
    let bits = bits_there s.words key at pair sorted is_at read in
    let test : eqb (bit_at (bits_at s.words (key_of f)) (place_of f)) 1 ≡ eqb (bit_and (pair.1 / 2 ^ place) 1) 1 =
    ap (λ (k : ℕ). eqb (bit_at (bits_at s.words k) (place_of f)) 1) (sym key-is) ∙ ap (λ (p : ℕ). eqb (bit_at (bits_at s.words key) p) 1) (sym place-is)
    ∙ ap (λ (n : ℕ). eqb (bit_at n place) 1) bits ∙ ap (λ (n : ℕ). eqb n 1) (sym (shr_and_one pair.1 place)) in
    sym (ap (λ (b : Bool). b && eqb (bit_at (bits_at s.words (key_of f)) (place_of f)) 1) fit ∙ test)

and_false : (b c : Bool) → c ≡ false → (b && c) ≡ false
and_false true c e = e
and_false false c e = refl

pub has_not : (s : FactSet) (f : Fact) (key at : ℕ) → key ≡ key_of f → IsGapFor s.words key at → false ≡ holds s f
has_not s f key at key-is gap =
    let none : bits_at s.words (key_of f) ≡ 0 = ap (bits_at s.words) (sym key-is) ∙ no_bits s.words key at gap in
    let zero-bit : eqb (bit_at (bits_at s.words (key_of f)) (place_of f)) 1 ≡ false = ap (λ (n : ℕ). eqb (bit_at n (place_of f)) 1) none ∙ ap (λ (n : ℕ). eqb n 1) (bit_at-zero (place_of f)) in
    sym (and_false (fits f) _ zero-bit)
