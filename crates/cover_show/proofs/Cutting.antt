-- The first line of a text.
use Rattle.std.proofs.Common.{◌≡◌, ℕ, suc, ◌+◌, ◌<◌, ◌≤◌, eqb, true, false, not, List, [], ◌∷◌, length, take, drop, Option, sym, ap, ◌∙◌, inl, inr, arith, unwrap_or, cond, ltb}
use Rattle.std.proofs.lemmas.Bool.{cond-true, cond-false, cases_Bool}
use Rattle.std.proofs.lemmas.List.{drop-drop, nil_from_length}
use Rattle.std.proofs.lemmas.List.Sums.{prefix_len-le-length}
use borrow.Author.Tests.{ltb-false}
use Rattle.std.specs.List.{position_or_len, position, onto_first}
use Rattle.cover_show.specs.Shown.{lines_in}

-- where the first newline is, or the text's length
abbrev pub line_end : List ℕ → ℕ
line_end bytes = position_or_len (λ b. eqb b 10) bytes

abbrev Cut : List ℕ → Type 0
Cut bytes = lines_in bytes ≡ take (line_end bytes) bytes ∷ lines_in (drop (line_end bytes + 1) bytes)

-- the first byte is a newline, or it isn't
newline : (b : ℕ) (bytes : List ℕ) → eqb b 10 ≡ true → Cut (b ∷ bytes)
newline b bytes e =
    let at : line_end (b ∷ bytes) ≡ 0 = ap (λ t. cond (not t) (1 + line_end bytes) 0) e in
    cond-true _ _ _ e ∙ ap (λ n. take n (b ∷ bytes) ∷ lines_in (drop (n + 1) (b ∷ bytes))) (sym at)

other : (b : ℕ) (bytes : List ℕ) → eqb b 10 ≡ false → lines_in (b ∷ bytes) ≡ onto_first b (lines_in bytes)
other b bytes e = cond-false _ _ _ e

behind : (b : ℕ) (bytes : List ℕ) → eqb b 10 ≡ false → line_end (b ∷ bytes) ≡ suc (line_end bytes)
behind b bytes e = let one : 1 + line_end bytes ≡ suc (line_end bytes) = omega arith in ap (λ t. cond (not t) (1 + line_end bytes) 0) e ∙ one

cut : (bytes : List ℕ) → 0 < length bytes → Cut bytes
cut [] h = absurd (omega (arith, h))
cut (b ∷ []) h = elim (cases_Bool (eqb b 10)) [
  | inl e ↦ newline b [] e
  | inr e ↦ other b [] e ∙ ap (λ n. take n (b ∷ []) ∷ lines_in (drop (n + 1) (b ∷ []))) (sym (behind b [] e))
]
cut (b ∷ c ∷ bytes) h = elim (cases_Bool (eqb b 10)) [
  | inl e ↦ newline b (c ∷ bytes) e
  | inr e ↦
      let more = cut (c ∷ bytes) (omega arith) in
      let n = line_end (c ∷ bytes) in
      let step : suc n + 1 ≡ suc (n + 1) = omega arith in
      other b (c ∷ bytes) e ∙ ap (onto_first b) more ∙ ap (λ k. (b ∷ take n (c ∷ bytes)) ∷ lines_in (drop k (b ∷ c ∷ bytes))) (sym step)
      ∙ ap (λ n. take n (b ∷ c ∷ bytes) ∷ lines_in (drop (n + 1) (b ∷ c ∷ bytes))) (sym (behind b (c ∷ bytes) e))
]

-- AS THE CODE CUTS

pub end_is : (bytes : List ℕ) (r : Option ℕ) → r ≡ position (λ b. eqb b 10) bytes → unwrap_or r (length bytes) ≡ line_end bytes
end_is bytes r e =
    let n = line_end bytes in
    let within : n ≤ length bytes = prefix_len-le-length (λ b. not (eqb b 10)) bytes in
    elim (cases_Bool (ltb n (length bytes))) [
      | inl h ↦ ap (λ o. unwrap_or o (length bytes)) (e ∙ cond-true _ _ _ h)
      | inr h ↦ let end : length bytes ≡ n = omega (arith, within, ltb-false n (length bytes) h) in ap (λ o. unwrap_or o (length bytes)) (e ∙ cond-false _ _ _ h) ∙ end
    ]

-- rest begins with the newline
pub cut_at : (bytes line rest behind : List ℕ) (end b : ℕ) → 0 < length bytes → end ≡ line_end bytes → line ≡ take end bytes → rest ≡ drop end bytes → rest ≡ b ∷ behind → lines_in bytes ≡ line ∷ lines_in behind
cut_at bytes line rest behind end b some at front back first =
    let after : behind ≡ drop (end + 1) bytes = sym (ap (drop 1) first) ∙ ap (drop 1) back ∙ drop-drop 1 end bytes in
    cut bytes some ∙ ap (λ n. take n bytes ∷ lines_in (drop (n + 1) bytes)) (sym at) ∙ ap (λ l. l ∷ lines_in (drop (end + 1) bytes)) (sym front) ∙ ap (λ s. line ∷ lines_in s) (sym after)

-- there is no newline
pub cut_all : (bytes line rest : List ℕ) (end : ℕ) → 0 < length bytes → end ≡ line_end bytes → line ≡ take end bytes → rest ≡ drop end bytes → length rest ≡ 0 → lines_in bytes ≡ line ∷ lines_in rest
cut_all bytes line rest end some at front back empty =
    let none : rest ≡ [] = nil_from_length rest empty in
    let after : rest ≡ drop (end + 1) bytes = none ∙ sym (ap (drop 1) (sym back ∙ none)) ∙ drop-drop 1 end bytes in
    cut bytes some ∙ ap (λ n. take n bytes ∷ lines_in (drop (n + 1) bytes)) (sym at) ∙ ap (λ l. l ∷ lines_in (drop (end + 1) bytes)) (sym front) ∙ ap (λ s. line ∷ lines_in s) (sym after)
