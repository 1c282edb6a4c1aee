-- A mark in front is the longest one: no mark that stands in front is longer.
use Rattle.std.proofs.Common.{◌≡◌, ℕ, ◌≤◌, List, [], ◌∷◌, length, Some, refl, ap, subst, sym, ◌∙◌, arith, inl, inr}
use Rattle.std.proofs.lemmas.Bool.{and_parts, or_cases, false≢true, leb-true}
use Rattle.std.proofs.lemmas.Option.{none-some}
use Rattle.std.proofs.lemmas.Slice.Eq.{bytes_eq-Decides}
use Rattle.std.specs.Prelude.{Bool, true, false, cond, ◌&&◌, ◌||◌, nat_le, bytes_eq, unwrap_or}
use Rattle.c_syntax.specs.declared.token.Mark.{Mark}
use Rattle.c_syntax.specs.declared.token.Mark.TheVariants as mark
use Rattle.c_lex_pieces.specs.Marks.{mark_bytes, marks, mark_front, first_in_front, is_front}

-- no mark of the list has more bytes
abbrev no_longer : ℕ → List Mark → Bool
no_longer n [] = true
no_longer n (k ∷ ks) = nat_le (length (mark_bytes k)) n && no_longer n ks

abbrev falls : List Mark → Bool
falls [] = true
falls (k ∷ ks) = no_longer (length (mark_bytes k)) ks && falls ks

-- the mark is written as one of the list
abbrev listed : List Mark → List ℕ → Bool
listed [] w = false
listed (k ∷ ks) w = bytes_eq w (mark_bytes k) || listed ks w

all_listed : (k : Mark) → listed marks (mark_bytes k) ≡ true
all_listed mark.LeftBracket = refl
all_listed k = refl

-- a way of writing that stands in front, and is listed, has at most so many bytes
abbrev Most : List Mark → List ℕ → ℕ → Type 0
Most ks text n = (w : List ℕ) → listed ks w ≡ true → is_front w text ≡ true → length w ≤ n

most_of : (n : ℕ) (ks : List Mark) (text : List ℕ) → no_longer n ks ≡ true → Most ks text n
most_of n [] text short = λ w there front. absurd (false≢true there)
most_of n (k ∷ ks) text short = λ w there front.
    elim (or_cases (bytes_eq w (mark_bytes k)) (listed ks w) there) [
      | inl e ↦ subst (λ v. length v ≤ n) (sym ((bytes_eq-Decides w (mark_bytes k)).0 e)) (leb-true _ n ((and_parts (nat_le (length (mark_bytes k)) n) (no_longer n ks) short).0))
      | inr e ↦ most_of n ks text ((and_parts (nat_le (length (mark_bytes k)) n) (no_longer n ks) short).1) w e front
    ]

longest_by : (t : Bool) (k m : Mark) (ks : List Mark) (text : List ℕ) → is_front (mark_bytes k) text ≡ t → no_longer (length (mark_bytes k)) ks ≡ true → (first_in_front ks text ≡ Some m → Most ks text (length (mark_bytes m))) → cond t (Some k) (first_in_front ks text) ≡ Some m → Most (k ∷ ks) text (length (mark_bytes m))
longest_by true k m ks text is short on e = λ w there front.
    let same : k ≡ m = ap (λ o. unwrap_or o k) e in
    subst (λ x. length w ≤ length (mark_bytes x)) same
    (elim (or_cases (bytes_eq w (mark_bytes k)) (listed ks w) there) [
      | inl e ↦ subst (λ v. length v ≤ length (mark_bytes k)) (sym ((bytes_eq-Decides w (mark_bytes k)).0 e)) (omega arith)
      | inr e ↦ most_of (length (mark_bytes k)) ks text short w e front
    ])
longest_by false k m ks text is short on e = λ w there front.
    elim (or_cases (bytes_eq w (mark_bytes k)) (listed ks w) there) [
      | inl f ↦ absurd (false≢true (sym is ∙ subst (λ v. is_front v text ≡ true) ((bytes_eq-Decides w (mark_bytes k)).0 f) front))
      | inr f ↦ on e w f front
    ]

longest_in : (ks : List Mark) (text : List ℕ) (m : Mark) → falls ks ≡ true → first_in_front ks text ≡ Some m → Most ks text (length (mark_bytes m))
longest_in [] text m order e = absurd (none-some m e)
longest_in (k ∷ ks) text m order e =
    let parts = and_parts (no_longer (length (mark_bytes k)) ks) (falls ks) order in
    longest_by (is_front (mark_bytes k) text) k m ks text refl (parts.0) (λ f. longest_in ks text m (parts.1) f) e

pub mark_longest : (text : List ℕ) (m k : Mark) → mark_front text ≡ Some m → is_front (mark_bytes k) text ≡ true → length (mark_bytes k) ≤ length (mark_bytes m)
mark_longest text m k e front = longest_in marks text m refl e (mark_bytes k) (all_listed k) front
