-- Words joined into words.
use Rattle.std.proofs.Common.{◌≡◌, ◌≢◌, ℕ, zero, suc, ◌<◌, Bool, true, false, ◌&&◌, eqb, [], ◌∷◌, get_or, set, Option, Some, unwrap_or, bit_or, max, refl, sym, ap, subst, ◌∙◌, inl, inr, cond, arith}
use Rattle.std.specs.Prelude.{◌||◌}
use Rattle.std.specs.List.{insert}
use Rattle.std.specs.Int.{bit_at}
use Rattle.std.proofs.lemmas.Bool.{cases_eq, eq-eqb, ne_eqb}
use Rattle.std.proofs.lemmas.Nat.Bits.{bit_at_or, bit_at-lt}
use Rattle.atac_facts.specs.declared.fact.Fact.{Fact}
use Rattle.atac_facts.specs.Facts.{key_of, place_of, fits, IsKey}
use Rattle.atac_facts.specs.Pairs.{Pairs, get, SetsOnly, IsAt, IsGapFor, IsStrictlySorted, IsTaken}
use Rattle.atac_facts.specs.Sets.{FactSet, AreKeys, bits_at, holds, Joins}
use Rattle.atac_facts.proofs.Place.{sets_only_set, sets_only_insert}
use Rattle.atac_facts.proofs.Bits.{bits_there, or_nothing, no_bits}
use Rattle.atac_facts.proofs.Least.{no_bit}

pub joined_at : (words : Pairs) (key x at : ℕ) (pair : ℕ × ℕ) → IsStrictlySorted words → IsAt words key at → pair ≡ get_or words at pair → Joins words (set words at (key, bit_or pair.1 x)) key x
joined_at words key x at pair sorted is_at read =
    let P = λ (b : ℕ). SetsOnly words (set words at (key, bit_or b x)) key (bit_or (bits_at words key) x) in
    subst P (bits_there words key at pair sorted is_at read) (sets_only_set words sorted key at is_at (bit_or (bits_at words key) x))

pub joined_in : (words : Pairs) (key x at : ℕ) → IsGapFor words key at → Joins words (insert words at (key, x)) key x
joined_in words key x at gap =
    let value : x ≡ bit_or (bits_at words key) x = sym (ap (λ (b : ℕ). bit_or b x) (no_bits words key at gap) ∙ or_nothing x) in
    let P = λ (v : ℕ). SetsOnly words (insert words at (key, x)) key v in
    subst P value (sets_only_insert words key at gap x)

bit_of_nothing : (place : ℕ) → bit_at 0 place ≡ 0
bit_of_nothing place = no_bit 0 0 refl place (omega arith)

-- ---- a word taken from one of two lists

-- the bit at a place of the word under a key
abbrev pub bit_of : Pairs → ℕ → ℕ → ℕ
bit_of words key place = bit_at (bits_at words key) place

bit_joined : (old new : Pairs) (key bits place : ℕ) → Joins old new key bits → bit_of new key place ≡ max (bit_of old key place) (bit_at bits place)
bit_joined old new key bits place joins = ap (λ (o : Option ℕ). bit_at (unwrap_or o 0) place) joins.this_key ∙ bit_at_or (bits_at old key) bits place

bit_kept : (old new : Pairs) (key bits other place : ℕ) → Joins old new key bits → other ≢ key → bit_of new other place ≡ bit_of old other place
bit_kept old new key bits other place joins apart = ap (λ (o : Option ℕ). bit_at (unwrap_or o 0) place) (joins.other_keys other apart)

first_bits : (word : ℕ × ℕ) (rest : Pairs) (place : ℕ) → bit_of (word ∷ rest) word.0 place ≡ bit_at word.1 place
first_bits word rest place = ap (λ (b : Bool). bit_at (unwrap_or (cond b (Some word.1) (get rest word.0)) 0) place) (eq-eqb word.0 word.0 refl)

later_bits : (word : ℕ × ℕ) (rest : Pairs) (key place : ℕ) → word.0 ≢ key → bit_of (word ∷ rest) key place ≡ bit_of rest key place
later_bits word rest key place apart = ap (λ (b : Bool). bit_at (unwrap_or (cond b (Some word.1) (get rest key)) 0) place) (ne_eqb word.0 key apart)

pub sorted_rest : (word : ℕ × ℕ) (rest : Pairs) → IsStrictlySorted (word ∷ rest) → IsStrictlySorted rest
sorted_rest word rest sorted i j lt within = sorted (suc i) (suc j) (omega arith) (omega arith)

pub keys_rest : (word : ℕ × ℕ) (rest : Pairs) → AreKeys (word ∷ rest) → AreKeys rest
keys_rest word rest keys i within = keys (suc i) (omega arith)

-- a list in order has a key once
gone : (word : ℕ × ℕ) (rest : Pairs) (place : ℕ) → IsStrictlySorted (word ∷ rest) → bit_of rest word.0 place ≡ 0
gone word rest place sorted =
    let none = no_bits rest word.0 0 (record { in_range = omega arith; smaller_before = λ i lt. absurd (omega arith); greater_after = λ i le within. sorted 0 (suc i) (omega arith) (omega arith) }) in
    ap (λ (b : ℕ). bit_at b place) none ∙ bit_of_nothing place

-- the words so far, and those that are left of each list, have the bits of both
pub record Keeps (both a b first second : Pairs) : Type 0 where
  pub order_a : IsStrictlySorted a
  pub order_b : IsStrictlySorted b
  pub keys_a : AreKeys a
  pub keys_b : AreKeys b
  pub bits : (key place : ℕ) → max (bit_of both key place) (max (bit_of a key place) (bit_of b key place)) ≡ max (bit_of first key place) (bit_of second key place)

begins : (first second : Pairs) → IsStrictlySorted first → IsStrictlySorted second → AreKeys first → AreKeys second → Keeps [] first second first second
begins first second order_a order_b keys_a keys_b = record {
  order_a = order_a;
  order_b = order_b;
  keys_a = keys_a;
  keys_b = keys_b;
  bits = λ key place. let none = bit_of_nothing place in omega arith;
}

pub starts : (both a b first second : Pairs) → both ≡ [] → a ≡ first → b ≡ second → IsStrictlySorted a → AreKeys a → IsStrictlySorted b → AreKeys b → Keeps both a b first second
starts both a b first second none same_a same_b order_a keys_a order_b keys_b =
    subst (λ (ws : Pairs). Keeps ws a b first second) (sym none) (subst (λ (ws : Pairs). Keeps [] a b ws second) same_a (subst (λ (ws : Pairs). Keeps [] a b a ws) same_b (begins a b order_a order_b keys_a keys_b)))

moved : (both new rest b : Pairs) (word : ℕ × ℕ) (key place : ℕ) → IsStrictlySorted (word ∷ rest) → Joins both new word.0 word.1
    → max (bit_of new key place) (max (bit_of rest key place) (bit_of b key place)) ≡ max (bit_of both key place) (max (bit_of (word ∷ rest) key place) (bit_of b key place))
moved both new rest b word key place sorted joins = elim (cases_eq word.0 key) [
  | inl same ↦
      let P = λ (k : ℕ). max (bit_of new k place) (max (bit_of rest k place) (bit_of b k place)) ≡ max (bit_of both k place) (max (bit_of (word ∷ rest) k place) (bit_of b k place)) in
      let joined = bit_joined both new word.0 word.1 place joins in
      let here = first_bits word rest place in
      let none = gone word rest place sorted in
      subst P same (omega arith)
  | inr apart ↦
      let kept = bit_kept both new word.0 word.1 key place joins (λ e. apart (sym e)) in
      let later = later_bits word rest key place apart in
      omega arith
]

left_moved : (both new rest b first second : Pairs) (word : ℕ × ℕ) → Keeps both (word ∷ rest) b first second → Joins both new word.0 word.1 → Keeps new rest b first second
left_moved both new rest b first second word keeps joins = record {
  order_a = sorted_rest word rest keeps.order_a;
  order_b = keeps.order_b;
  keys_a = keys_rest word rest keeps.keys_a;
  keys_b = keeps.keys_b;
  bits = λ key place. moved both new rest b word key place keeps.order_a joins ∙ keeps.bits key place;
}

right_moved : (both new a rest first second : Pairs) (word : ℕ × ℕ) → Keeps both a (word ∷ rest) first second → Joins both new word.0 word.1 → Keeps new a rest first second
right_moved both new a rest first second word keeps joins = record {
  order_a = keeps.order_a;
  order_b = sorted_rest word rest keeps.order_b;
  keys_a = keeps.keys_a;
  keys_b = keys_rest word rest keeps.keys_b;
  bits = λ key place. let moves = moved both new rest a word key place keeps.order_b joins in let all = keeps.bits key place in omega arith;
}

pub keeps_on : (both new a b rest_a rest_b first second : Pairs) (word : ℕ × ℕ) → Keeps both a b first second → IsTaken a b word rest_a rest_b → Joins both new word.0 word.1 → Keeps new rest_a rest_b first second
keeps_on both new a b rest_a rest_b first second word keeps (inl taken) joins =
    left_moved both new rest_a rest_b first second word (subst (λ (ws : Pairs). Keeps both (word ∷ rest_a) ws first second) taken.1 (subst (λ (ws : Pairs). Keeps both ws b first second) taken.0 keeps)) joins
keeps_on both new a b rest_a rest_b first second word keeps (inr taken) joins =
    right_moved both new rest_a rest_b first second word (subst (λ (ws : Pairs). Keeps both rest_a ws first second) taken.1 (subst (λ (ws : Pairs). Keeps both ws b first second) taken.0 keeps)) joins

pub taken_key : (both a b rest_a rest_b first second : Pairs) (word : ℕ × ℕ) → Keeps both a b first second → IsTaken a b word rest_a rest_b → IsKey word.0
taken_key both a b rest_a rest_b first second word keeps (inl taken) = subst AreKeys taken.0 keeps.keys_a 0 (omega arith)
taken_key both a b rest_a rest_b first second word keeps (inr taken) = subst AreKeys taken.1 keeps.keys_b 0 (omega arith)

-- two bits joined
or_left : (n : ℕ) → n < 2 → eqb (max 0 n) 1 ≡ eqb n 1
or_left n lt = let e : max 0 n ≡ n = omega arith in ap (λ (k : ℕ). eqb k 1) e

or_test : (m n : ℕ) → m < 2 → n < 2 → eqb (max m n) 1 ≡ (eqb m 1 || eqb n 1)
or_test zero n p q = or_left n q
or_test (suc zero) zero p q = refl
or_test (suc zero) (suc zero) p q = refl
or_test (suc zero) (suc (suc n)) p q = absurd (omega arith)
or_test (suc (suc m)) n p q = absurd (omega arith)

distributes : (a b c : Bool) → (a && (b || c)) ≡ ((a && b) || (a && c))
distributes true b c = refl
distributes false b c = refl

-- at the end a fact is in the union where it is in one of both
pub union_is : (both first second : FactSet) (a b : Pairs) → a ≡ [] → b ≡ [] → Keeps both.words a b first.words second.words → (f : Fact) → holds both f ≡ (holds first f || holds second f)
union_is both first second a b none_a none_b keeps f =
    let k = key_of f in
    let p = place_of f in
    let left = ap (λ (ws : Pairs). bit_of ws k p) none_a ∙ bit_of_nothing p in
    let right = ap (λ (ws : Pairs). bit_of ws k p) none_b ∙ bit_of_nothing p in
    let all = keeps.bits k p in
    let x = bit_of first.words k p in
    let y = bit_of second.words k p in
    let bit : bit_of both.words k p ≡ max x y = omega arith in
    let test : eqb (bit_of both.words k p) 1 ≡ (eqb x 1 || eqb y 1) = ap (λ (n : ℕ). eqb n 1) bit ∙ or_test x y (bit_at-lt (bits_at first.words k) p) (bit_at-lt (bits_at second.words k) p) in
    ap (λ (b : Bool). fits f && b) test ∙ distributes (fits f) (eqb x 1) (eqb y 1)
