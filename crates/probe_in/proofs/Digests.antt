-- The spelling of a digest reads back.
use Rattle.std.proofs.Common.{◌≡◌, ℕ, zero, suc, ◌+◌, ◌*◌, ◌/◌, ◌%◌, ◌<◌, ◌&&◌, Bool, true, nat_eq, List, [], ◌∷◌, length, slice_index, Some, Result, Ok, Err, IfOk, refl, ap, ◌∙◌, arith, inl, inr}
use Rattle.std.specs.List.{list_all}
use Rattle.std.proofs.lemmas.Bool.{and_parts, cases_lt, eqb-true}
use Rattle.c_base.specs.declared.place.NoMemory.{NoMemory}
use Rattle.c_syntax.specs.declared.text.Text.{Text}
use Rattle.c_lex_pieces.specs.Bytes.{digit_of}
use Rattle.hex.specs.Hex.{IsBytes, encode_lower, encode_with, lower_digits}
use Rattle.hex.proofs.HexLemmas.{length-encode_with}
use Rattle.c_constants.specs.Probes.{is_lower_digit, pairs, digest_of}

-- ---- each digit

abbrev spelling : ℕ → ℕ
spelling d = slice_index lower_digits d

-- the digit of a worth is a lower-case one, and of that worth, which a test of all sixteen shows
abbrev good : ℕ → Bool
good d = is_lower_digit (spelling d) && nat_eq (digit_of (spelling d)) d

abbrev all_good : ℕ → Bool
all_good zero = true
all_good (suc n) = good n && all_good n

all_good_at : (n d : ℕ) → all_good n ≡ true → d < n → good d ≡ true
all_good_at zero d h lt = absurd (omega arith)
all_good_at (suc n) d h lt =
    let parts = and_parts (good n) (all_good n) h in
    elim (cases_lt d n) [
      | inl below ↦ all_good_at n d parts.1 below
      | inr top ↦
          let e : d ≡ n = omega arith in
          rw e parts.0
    ]

digit_at : (d : ℕ) → d < 16 → (is_lower_digit (spelling d) ≡ true) × (digit_of (spelling d) ≡ d)
digit_at d h =
    let parts = and_parts (is_lower_digit (spelling d)) (nat_eq (digit_of (spelling d)) d) (all_good_at 16 d refl h) in
    (parts.0, eqb-true (digit_of (spelling d)) d parts.1)

-- ---- bytes

both : (p q r : Bool) → p ≡ true → q ≡ true → r ≡ true → p && (q && r) ≡ true
both p q r e f g = rw (e, f, g) refl

one_byte : (b x y : ℕ) (rest tail : List ℕ) → x ≡ b / 16 → y ≡ b % 16 → rest ≡ tail → (x * 16 + y) ∷ rest ≡ b ∷ tail
one_byte b x y rest tail e f g =
    let v : x * 16 + y ≡ b = omega arith in
    rw (v, g) refl

lower : (bytes : List ℕ) → IsBytes bytes → list_all is_lower_digit (encode_lower bytes) ≡ true
unfolding encode_with
lower [] h = refl
lower (b ∷ rest) h =
    let small : b < 256 = h 0 in
    both (is_lower_digit (spelling (b / 16))) (is_lower_digit (spelling (b % 16))) (list_all is_lower_digit (encode_lower rest)) ((digit_at (b / 16) (omega arith)).0) ((digit_at (b % 16) (omega arith)).0) (lower rest (λ i. h (suc i)))

paired : (bytes : List ℕ) → IsBytes bytes → pairs (encode_lower bytes) ≡ bytes
unfolding encode_with
paired [] h = refl
paired (b ∷ rest) h =
    let small : b < 256 = h 0 in
    one_byte b (digit_of (spelling (b / 16))) (digit_of (spelling (b % 16))) (pairs (encode_lower rest)) rest ((digit_at (b / 16) (omega arith)).1) ((digit_at (b % 16) (omega arith)).1) (paired rest (λ i. h (suc i)))

-- ---- digests

read_of : (s : List ℕ) → length s ≡ 64 → list_all is_lower_digit s ≡ true → digest_of s ≡ Some (pairs s)
read_of s len h = rw (len, h) refl

pub read_back : (bytes : List ℕ) → length bytes ≡ 32 → IsBytes bytes → digest_of (encode_lower bytes) ≡ Some bytes
read_back bytes len h =
    let long = length-encode_with lower_digits bytes in
    read_of (encode_lower bytes) (omega (arith, long, len)) (lower bytes h) ∙ ap Some (paired bytes h)

-- so does a text that is made of the spelling
pub text_reads : (r : Result Text NoMemory) (bytes s : List ℕ) → IfOk r (λ t. t ≡ s) → s ≡ encode_lower bytes → length bytes ≡ 32 → IsBytes bytes → IfOk r (λ t. digest_of t ≡ Some bytes)
text_reads (Ok t) bytes s e f len h = ap digest_of (e ∙ f) ∙ read_back bytes len h
text_reads (Err e) bytes s f g len h = tt
