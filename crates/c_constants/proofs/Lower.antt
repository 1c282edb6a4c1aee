-- Lower-case digits are what their bytes are spelled as.
use Rattle.std.proofs.Common.{◌≡◌, ℕ, zero, suc, ◌+◌, ◌*◌, ◌/◌, ◌%◌, ◌<◌, ◌&&◌, ◌||◌, not, Bool, true, nat_eq, nat_lt, List, [], ◌∷◌, length, slice_index, Option, Some, Result, IfSome, refl, sym, ap, ◌∙◌, arith, inl, inr}
use Rattle.std.specs.List.{list_all}
use Rattle.std.specs.Result.{result_ok}
use Rattle.std.proofs.lemmas.Bool.{and_parts, cases_lt, eqb-true, ltb-true}
use Rattle.c_lex_pieces.specs.Bytes.{digit_of}
use Rattle.hex.specs.Hex.{IsBytes, decode_sized, encode_lower, encode_with, lower_digits}
use Rattle.hex.specs.declared.error.FromHexError.{FromHexError}
use Rattle.hex.proofs.HexLemmas.{decode_sized-encode_lower}
use Rattle.c_constants.specs.Probes.{is_lower_digit, pairs, digest_of}

-- ---- each digit

-- a lower-case digit is the one of its worth, which a test of all bytes below 103 shows
abbrev good : ℕ → Bool
good c = not (is_lower_digit c) || (nat_lt (digit_of c) 16 && nat_eq (slice_index lower_digits (digit_of c)) c)

abbrev all_good : ℕ → Bool
all_good zero = true
all_good (suc n) = good n && all_good n

all_good_at : (n c : ℕ) → all_good n ≡ true → c < n → good c ≡ true
all_good_at zero c h lt = absurd (omega arith)
all_good_at (suc n) c h lt =
    let parts = and_parts (good n) (all_good n) h in
    elim (cases_lt c n) [
      | inl below ↦ all_good_at n c parts.1 below
      | inr top ↦
          let e : c ≡ n = omega arith in
          rw e parts.0
    ]

lower_small : (c : ℕ) → is_lower_digit c ≡ true → c < 103
lower_small c h = grind (arith, h)

lower_at : (c : ℕ) → is_lower_digit c ≡ true → (digit_of c < 16) × (slice_index lower_digits (digit_of c) ≡ c)
lower_at c h =
    let g : good c ≡ true = all_good_at 103 c refl (lower_small c h) in
    let parts = and_parts (nat_lt (digit_of c) 16) (nat_eq (slice_index lower_digits (digit_of c)) c) (rw h at g) in
    (ltb-true (digit_of c) 16 parts.0, eqb-true (slice_index lower_digits (digit_of c)) c parts.1)

-- ---- pairs

one_pair : (t : List ℕ) (a b x y : ℕ) (rest tail : List ℕ) → y < 16 → slice_index t x ≡ a → slice_index t y ≡ b → encode_with t tail ≡ rest → encode_with t ((x * 16 + y) ∷ tail) ≡ a ∷ b ∷ rest
unfolding encode_with
one_pair t a b x y rest tail h ea eb e =
    let high : (x * 16 + y) / 16 ≡ x = omega arith in
    let low : (x * 16 + y) % 16 ≡ y = omega arith in
    rw (high, low, ea, eb, e) refl

bytes_more : (v : ℕ) (rest : List ℕ) → v < 256 → IsBytes rest → IsBytes (v ∷ rest)
bytes_more v rest h hs zero = h
bytes_more v rest h hs (suc i) = hs i

-- the spelling of the pairs is the text, and they are bytes, half as many
pub record Spelled (s : List ℕ) : Type 0 where
  pub spelling : encode_lower (pairs s) ≡ s
  pub bytes : IsBytes (pairs s)
  pub half : 2 * length (pairs s) ≡ length s

pub spelled : (s : List ℕ) → length s % 2 ≡ 0 → list_all is_lower_digit s ≡ true → Spelled s
unfolding encode_with
spelled [] even h = record { spelling = refl; bytes = λ i. omega arith; half = refl }
spelled (a ∷ []) even h = absurd (omega arith)
spelled (a ∷ b ∷ rest) even h =
    let p = and_parts (is_lower_digit a) (is_lower_digit b && list_all is_lower_digit rest) h in
    let q = and_parts (is_lower_digit b) (list_all is_lower_digit rest) p.1 in
    let fa = lower_at a p.0 in
    let fb = lower_at b q.0 in
    let ih = spelled rest (omega arith) q.1 in
    let half = ih.half in
    let small_a = fa.0 in
    let small_b = fb.0 in
    record {
      spelling = one_pair lower_digits a b (digit_of a) (digit_of b) rest (pairs rest) fb.0 fa.1 fb.1 ih.spelling;
      bytes = bytes_more (digit_of a * 16 + digit_of b) (pairs rest) (omega (arith, small_a, small_b)) ih.bytes;
      half = omega (arith, half);
    }

-- ---- a digest

pub decoded : (s : List ℕ) → length s ≡ 64 → list_all is_lower_digit s ≡ true → result_ok (decode_sized s 32) ≡ Some (pairs s)
decoded s len h =
    let f = spelled s (omega (arith, len)) h in
    let half = f.half in
    ap (λ t. result_ok (decode_sized t 32)) (sym f.spelling) ∙ ap result_ok (decode_sized-encode_lower (pairs s) 32 (omega (arith, half, len)) f.bytes)

digested : (s : List ℕ) → length s ≡ 64 → list_all is_lower_digit s ≡ true → digest_of s ≡ Some (pairs s)
digested s len h = rw (len, h) refl

pub digest_value : (s : List ℕ) (r : Result (List ℕ) FromHexError) (v : Option (List ℕ)) → length s ≡ 64 → list_all is_lower_digit s ≡ true → r ≡ decode_sized s 32 → v ≡ result_ok r → v ≡ digest_of s
digest_value s r v len h er ev = ev ∙ ap result_ok er ∙ decoded s len h ∙ sym (digested s len h)

pub digest_spelled : (s : List ℕ) (r : Result (List ℕ) FromHexError) (v : Option (List ℕ)) → length s ≡ 64 → list_all is_lower_digit s ≡ true → r ≡ decode_sized s 32 → v ≡ result_ok r → IfSome v (λ bytes. encode_lower bytes ≡ s)
digest_spelled s r v len h er ev = rw (ev ∙ ap result_ok er ∙ decoded s len h) ((spelled s (omega (arith, len)) h).spelling)
