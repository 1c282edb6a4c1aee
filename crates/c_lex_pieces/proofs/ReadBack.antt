-- What is written is read back.
use Rattle.std.proofs.Common.{◌≡◌, ℕ, List, [], ◌∷◌, ◌++◌, length, Some, None, refl, ap, ◌∙◌, arith, ◌<◌, ◌≤◌, suc}
use Rattle.std.proofs.lemmas.Bool.{or_left, ne_eqb, cond-true, cond-false}
use Rattle.std.specs.Prelude.{Bool, true, false, cond, nat_eq}
use Rattle.c_lex_pieces.specs.Bytes.{is_letter, is_digit, is_blank, is_in, run}
use Rattle.c_lex_pieces.specs.declared.bytes.ByteSet.{ByteSet}
use Rattle.c_lex_pieces.specs.declared.bytes.ByteSet.TheVariants.{InWord, InNumber}
use Rattle.c_lex_pieces.specs.Numbers.{is_right}
use Rattle.c_lex_pieces.specs.Written.{IsWord, IsNumber, token_bytes, class_of, IsToken}
use Rattle.c_lex_pieces.proofs.Quoted.{take_whole, char_read, char_kind_read, str_read, str_kind_read}
use Rattle.c_syntax.specs.declared.token.TokenKind.{TokenKind}
use Rattle.c_lex_pieces.proofs.Runs.{IsPast, run_whole}
use Rattle.c_syntax.specs.declared.token.Mark.{Mark}
use Rattle.c_syntax.specs.declared.token.Mark.TheVariants as mark
use Rattle.c_syntax.specs.declared.token.Key.{Key}
use Rattle.c_syntax.specs.declared.token.Key.TheVariants as key
use Rattle.c_syntax.specs.declared.token.ProbeWord.{ProbeWord}
use Rattle.c_syntax.specs.declared.token.ProbeWord.TheVariants as probe
use Rattle.c_syntax.specs.declared.token.TokenKind.TheVariants as token
use Rattle.c_lex_pieces.specs.declared.front.Class.TheVariants as class
use Rattle.c_lex_pieces.specs.declared.front.Front.TheVariants.{Refused, Piece}
use Rattle.c_lex_pieces.specs.Front.{front, number_piece}
use Rattle.c_lex_pieces.specs.Kinds.{probe_of, word_kind, kind, key_bytes, probe_bytes}
use Rattle.c_lex_pieces.specs.Marks.{mark_bytes}

pub mark_front_read : (m : Mark) (rest : List ℕ) → front (mark_bytes m ++ 32 ∷ rest) ≡ Piece (class.Mark m) (length (mark_bytes m))
mark_front_read mark.LeftBracket rest = refl
mark_front_read m rest = refl

pub key_front_read : (k : Key) (rest : List ℕ) → front (key_bytes k ++ 32 ∷ rest) ≡ Piece class.Word (length (key_bytes k))
key_front_read key.Break rest = refl
key_front_read k rest = refl

pub key_kind_read : (k : Key) → kind class.Word (key_bytes k) ≡ Some (token.Key k)
key_kind_read key.Break = refl
key_kind_read k = refl

pub probe_front_read : (p : ProbeWord) (rest : List ℕ) → front (probe_bytes p ++ 32 ∷ rest) ≡ Piece class.Word (length (probe_bytes p))
probe_front_read probe.Program rest = refl
probe_front_read p rest = refl

pub probe_kind_read : (p : ProbeWord) → kind class.Word (probe_bytes p) ≡ Some (token.Probe p)
probe_kind_read probe.Program = refl
probe_kind_read p = refl

pub letter_bounds : (b : ℕ) → is_letter b ≡ true → 65 ≤ b
letter_bounds b e = grind arith

pub digit_bounds : (b : ℕ) → is_digit b ≡ true → (48 ≤ b) × (b ≤ 57)
digit_bounds b e = grind arith

pub above_blanks : (b : ℕ) → 33 ≤ b → is_blank b ≡ false
above_blanks b h = grind arith

pub no_letter : (b : ℕ) → b < 65 → is_letter b ≡ false
no_letter b h = grind arith

pub third : {A : Type 0} (a b c : Bool) (w x y z : A) → a ≡ false → b ≡ false → c ≡ true → cond a w (cond b x (cond c y z)) ≡ y
third a b c w x y z p q r = cond-false a _ _ p ∙ cond-false b _ _ q ∙ cond-true c _ _ r

past_blank : (set : ByteSet) (rest : List ℕ) → is_in set 32 ≡ false → IsPast set (32 ∷ rest)
past_blank set rest e = e

pub word_read : (w rest : List ℕ) → IsWord w → front (w ++ 32 ∷ rest) ≡ Piece class.Word (length w)
word_read [] rest h = absurd h
word_read (b ∷ bs) rest h =
    let low : 65 ≤ b = letter_bounds b (h.0) in
    third (nat_eq b 10) (is_blank b) (is_letter b) _ _ _ _ (ne_eqb b 10 (λ e. omega (arith, e, low))) (above_blanks b (omega (arith, low))) (h.0)
    ∙ ap (λ n. Piece class.Word (suc n)) (run_whole InWord bs (32 ∷ rest) (h.1) refl)

number_byte : (b : ℕ) → is_digit b ≡ true → is_in InNumber b ≡ true
number_byte b e = grind arith

pub number_read : (w rest : List ℕ) → IsNumber w → front (w ++ 32 ∷ rest) ≡ Piece class.Number (length w)
number_read [] rest h = absurd h
number_read (b ∷ bs) rest h =
    let bounds = digit_bounds b (h.0) in
    let run_is : run InNumber (b ∷ bs ++ 32 ∷ rest) ≡ length (b ∷ bs) = run_whole InNumber (b ∷ bs) (32 ∷ rest) (number_byte b (h.0), h.1) refl in
    cond-false (nat_eq b 10) _ _ (ne_eqb b 10 (λ e. omega (arith, e, bounds)))
    ∙ third (is_blank b) (is_letter b) _ _ _ _ _ (above_blanks b (omega (arith, bounds))) (no_letter b (omega (arith, bounds))) (or_left (is_digit b) _ (h.0))
    ∙ ap (number_piece (b ∷ bs ++ 32 ∷ rest)) run_is
    ∙ ap (λ x. cond (is_right x) (Piece class.Number (length (b ∷ bs))) (Refused 5)) (take_whole (b ∷ bs) (32 ∷ rest))
    ∙ cond-true (is_right (b ∷ bs)) _ _ (h.2)

-- A written token with a blank behind it is the piece in front, and spells this token.
pub token_front : (t : TokenKind) (rest : List ℕ) → IsToken t → front (token_bytes t ++ 32 ∷ rest) ≡ Piece (class_of t) (length (token_bytes t))
token_front (token.Word w) rest h = word_read w rest (h.0)
token_front (token.Number w) rest h = number_read w rest h
token_front (token.Char v) rest h = char_read v (32 ∷ rest) h
token_front (token.Str vs) rest h = str_read vs (32 ∷ rest) h
token_front (token.Mark m) rest h = mark_front_read m rest
token_front (token.Key k) rest h = key_front_read k rest
token_front (token.Probe p) rest h = probe_front_read p rest

pub token_kind : (t : TokenKind) → IsToken t → kind (class_of t) (token_bytes t) ≡ Some t
token_kind (token.Word w) h = ap (λ k. Some (word_kind k (probe_of w) w)) (h.1) ∙ ap (λ p. Some (word_kind None p w)) (h.2)
token_kind (token.Number w) h = refl
token_kind (token.Char v) h = char_kind_read v h
token_kind (token.Str vs) h = str_kind_read vs h
token_kind (token.Mark m) h = refl
token_kind (token.Key k) h = key_kind_read k
token_kind (token.Probe p) h = probe_kind_read p
