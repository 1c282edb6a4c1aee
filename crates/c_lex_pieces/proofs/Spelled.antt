-- Each piece in front that spells a token spells one that can be written.
use Rattle.std.proofs.Common.{◌≡◌, ℕ, zero, suc, ◌+◌, ◌-◌, ◌<◌, List, [], ◌∷◌, length, take, drop, Option, Some, None, refl, ap, get_or, subst, sym, ◌∙◌, arith}
use Rattle.std.proofs.lemmas.Bool.{cond_both, cond-false, and_parts, leb-true, false≢true}
use Rattle.std.proofs.lemmas.Option.{none-some}
use Rattle.std.specs.Prelude.{Bool, true, false, cond, nat_eq, nat_lt, nat_le, ◌&&◌, ◌||◌, codes, option_map, unwrap_or}
use Rattle.c_syntax.specs.declared.token.Key.{Key}
use Rattle.c_syntax.specs.declared.token.ProbeWord.{ProbeWord}
use Rattle.c_syntax.specs.declared.token.Mark.{Mark}
use Rattle.c_syntax.specs.declared.token.TokenKind.{TokenKind}
use Rattle.c_syntax.specs.declared.token.TokenKind.TheVariants as token
use Rattle.c_lex_pieces.specs.declared.bytes.ByteSet.TheVariants.{InWord, InNumber, Digit}
use Rattle.c_lex_pieces.specs.declared.front.Class.{Class}
use Rattle.c_lex_pieces.specs.declared.front.Front.{Front}
use Rattle.c_lex_pieces.specs.declared.front.Front.TheVariants.{Refused, Piece}
use Rattle.c_lex_pieces.specs.declared.quotes.Character.{Character}
use Rattle.c_lex_pieces.specs.declared.quotes.Constant.{Constant}
use Rattle.c_lex_pieces.specs.declared.quotes.Constant.TheVariants.{Value, BadEscape, NotOne}
use Rattle.c_lex_pieces.specs.Bytes.{is_digit, is_letter, is_blank, is_in, run, digit_of}
use Rattle.c_lex_pieces.specs.Numbers.{is_right, is_right_in, value, digits}
use Rattle.c_lex_pieces.specs.Quotes.{before_quote, byte_of, simple_escape, escape, character, characters, characters_from, constant, all_values, with_first, inside}
use Rattle.c_lex_pieces.specs.Marks.{mark_front, is_front}
use Rattle.c_lex_pieces.specs.Front.{front, begins_with_digit, char_piece, str_piece, constant_piece, values_piece, comment_piece, comment_end, mark_piece}
use Rattle.c_lex_pieces.specs.Kinds.{kind, word_kind, key_of, probe_of, char_kind}
use Rattle.c_lex_pieces.specs.Written.{IsToken, IsWord, IsNumber, AreBytes}
use Rattle.c_lex_pieces.proofs.Runs.{run_bytes}

-- what the piece spells, if it spells a token, can be written
abbrev Spells : List ℕ → Front → Type 0
Spells text (Refused r) = Unit {0}
Spells text (Piece c n) = (t : TokenKind) → kind c (take n text) ≡ Some t → IsToken t

of_same : (s t : TokenKind) → Some s ≡ Some t → IsToken s → IsToken t
of_same s t e h = subst IsToken (ap (λ o. unwrap_or o s) e) h

-- THE VALUES OF CHARACTERS ARE BYTES

abbrev IsByte : Option ℕ → Type 0
IsByte None = Unit {0}
IsByte (Some v) = v < 256

abbrev AreValues : List (Option ℕ) → Type 0
AreValues [] = Unit {0}
AreValues (v ∷ vs) = IsByte v × AreValues vs

byte_small : (v : ℕ) → IsByte (byte_of v)
byte_small v = cond_both (nat_le v 255) (Some v) None IsByte (λ e. omega (arith, leb-true v 255 e)) (λ e. tt)

record Small (o : Option ℕ) : Type 0 where
  small : IsByte o

small_or : (t : Bool) (v : ℕ) (o : Option ℕ) → v < 256 → Small o → Small (cond t (Some v) o)
small_or true v o low h = record { small = low }
small_or false v o low h = h

none_small : Small None
none_small = record { small = tt }

simple_small : (b : ℕ) → b < 256 → IsByte (simple_escape b)
simple_small b h =
    let all : Small (simple_escape b) =
    small_or (nat_eq b 39 || (nat_eq b 34 || (nat_eq b 63 || nat_eq b 92))) b _ h
    (small_or (nat_eq b 97) 7 _ (omega arith) (small_or (nat_eq b 98) 8 _ (omega arith) (small_or (nat_eq b 102) 12 _ (omega arith)
    (small_or (nat_eq b 110) 10 _ (omega arith) (small_or (nat_eq b 114) 13 _ (omega arith) (small_or (nat_eq b 116) 9 _ (omega arith)
    (small_or (nat_eq b 118) 11 None (omega arith) none_small))))))) in
    all.small

escape_small : (bs : List ℕ) → AreBytes bs → IsByte (escape bs).value
escape_small [] h = tt
escape_small (b ∷ bs) h =
    cond_both (nat_eq b 120) _ _ (λ (c : Character). IsByte c.value)
    (λ e. cond_both (nat_eq (run (Digit 16) bs) 0) None _ IsByte (λ f. tt) (λ f. byte_small (value 16 (digits 16 bs))))
    (λ e. cond_both (nat_eq (run (Digit 8) (b ∷ [])) 1) _ _ (λ (c : Character). IsByte c.value) (λ f. byte_small (value 8 (digits 8 (take 3 (b ∷ bs))))) (λ f. simple_small b (h.0)))

character_small : (b : ℕ) (bs : List ℕ) → AreBytes (b ∷ bs) → IsByte (character (b ∷ bs)).value
character_small b bs h = cond_both (nat_eq b 92) _ _ (λ (c : Character). IsByte c.value) (λ e. escape_small bs (h.1)) (λ e. h.0)

characters_small : (k : ℕ) (bs : List ℕ) → AreBytes bs → AreValues (characters_from k bs)
characters_small k [] h = tt
characters_small zero (b ∷ bs) h = (character_small b bs h, characters_small _ bs (h.1))
characters_small (suc k) (b ∷ bs) h = characters_small k bs (h.1)

take_small : (n : ℕ) (bs : List ℕ) → AreBytes bs → AreBytes (take n bs)
take_small zero bs h = tt
take_small (suc n) [] h = tt
take_small (suc n) (b ∷ bs) h = (h.0, take_small n bs (h.1))

rest_small : (bs : List ℕ) → AreBytes bs → AreBytes (drop 1 bs)
rest_small [] h = tt
rest_small (b ∷ bs) h = h.1

inside_small : (bs : List ℕ) → AreBytes bs → AreBytes (inside bs)
inside_small bs h = take_small (length bs - 2) (drop 1 bs) (rest_small bs h)

constant_spells : (vs : List (Option ℕ)) (t : TokenKind) → AreValues vs → char_kind (constant vs) ≡ Some t → IsToken t
constant_spells [] t h e = absurd (none-some t e)
constant_spells (None ∷ []) t h e = absurd (none-some t e)
constant_spells (Some v ∷ []) t h e = of_same (token.Char v) t e (h.0)
constant_spells (v ∷ w ∷ vs) t h e = absurd (none-some t e)

first_small : (v : Option ℕ) (r : Option (List ℕ)) (all : List ℕ) → IsByte v → ((vs : List ℕ) → r ≡ Some vs → AreBytes vs) → with_first v r ≡ Some all → AreBytes all
first_small None r all h on e = absurd (none-some all e)
first_small (Some v) None all h on e = absurd (none-some all e)
first_small (Some v) (Some vs) all h on e = subst AreBytes (ap (λ o. unwrap_or o []) e) (h, on vs refl)

values_small : (vs : List (Option ℕ)) (all : List ℕ) → AreValues vs → all_values vs ≡ Some all → AreBytes all
values_small [] all h e = subst AreBytes (ap (λ o. unwrap_or o []) e) tt
values_small (v ∷ vs) all h e = first_small v (all_values vs) all (h.0) (λ ws f. values_small vs ws (h.1) f) e

str_spells : (r : Option (List ℕ)) (t : TokenKind) → ((vs : List ℕ) → r ≡ Some vs → AreBytes vs) → option_map (λ values. token.Str values) r ≡ Some t → IsToken t
str_spells None t h e = absurd (none-some t e)
str_spells (Some vs) t h e = of_same (token.Str vs) t e (h vs refl)

-- WORDS AND NUMBERS

word_spells : (k : Option Key) (p : Option ProbeWord) (w : List ℕ) (t : TokenKind) → key_of w ≡ k → probe_of w ≡ p → IsWord w → Some (word_kind k p w) ≡ Some t → IsToken t
word_spells (Some k) p w t no_key no_probe h e = of_same (token.Key k) t e tt
word_spells None (Some p) w t no_key no_probe h e = of_same (token.Probe p) t e tt
word_spells None None w t no_key no_probe h e = of_same (token.Word w) t e (h, no_key, no_probe)

ten_is_digit : (b : ℕ) → nat_lt (digit_of b) 10 ≡ true → is_digit b ≡ true
ten_is_digit b e = grind arith

first_digit : (set_is : Bool) (b n : ℕ) → is_in (Digit 10) b ≡ set_is → nat_lt 0 (cond set_is (suc n) 0) ≡ true → is_digit b ≡ true
first_digit true b n is some = ten_is_digit b is
first_digit false b n is some = absurd (false≢true some)

zero_digit : (b : ℕ) → nat_eq b 48 ≡ true → is_digit b ≡ true
zero_digit b e = grind arith

pub right_first : (b : ℕ) (bs : List ℕ) (zero_is : Bool) → nat_eq b 48 ≡ zero_is → is_right (b ∷ bs) ≡ true → is_digit b ≡ true
right_first b bs true is e = zero_digit b is
right_first b bs false is e =
    let ten : is_right_in 10 (b ∷ bs) ≡ true = sym (cond-false (nat_eq b 48) _ (is_right_in 10 (b ∷ bs)) is) ∙ e in
    first_digit (is_in (Digit 10) b) b (run (Digit 10) bs) refl ((and_parts (nat_lt 0 (run (Digit 10) (b ∷ bs))) _ ten).0)

pub point_or_digit : (b : ℕ) (next : Bool) → (is_digit b || (nat_eq b 46 && next)) ≡ true → is_in InNumber b ≡ true
point_or_digit b next e = grind arith

number_spells : (b : ℕ) (bs : List ℕ) → is_in InNumber b ≡ true → is_right (take (run InNumber (b ∷ bs)) (b ∷ bs)) ≡ true → IsNumber (take (run InNumber (b ∷ bs)) (b ∷ bs))
number_spells b bs first right =
    let one : run InNumber (b ∷ bs) ≡ suc (run InNumber bs) = ap (λ t. cond t (suc (run InNumber bs)) 0) first in
    let whole : is_right (b ∷ take (run InNumber bs) bs) ≡ true = sym (ap (λ n. is_right (take n (b ∷ bs))) one) ∙ right in
    subst (λ n. IsNumber (take n (b ∷ bs))) (sym one) (right_first b (take (run InNumber bs) bs) (nat_eq b 48) refl whole, run_bytes InNumber bs, whole)

-- THE FRONT

mark_spells : (text : List ℕ) (o : Option Mark) → Spells text (mark_piece o)
mark_spells text None = tt
mark_spells text (Some m) = λ t e. of_same (token.Mark m) t e tt

comment_spells : (text : List ℕ) (o : Option ℕ) → Spells text (comment_piece o)
comment_spells text None = tt
comment_spells text (Some n) = λ t e. absurd (none-some t e)

constant_piece_spells : (text : List ℕ) (n : ℕ) (k : Constant) → AreBytes text → Spells text (constant_piece n k)
constant_piece_spells text n (Value v) h = λ t e. constant_spells (characters (inside (take (n + 2) text))) t (characters_small 0 _ (inside_small _ (take_small (n + 2) text h))) e
constant_piece_spells text n BadEscape h = tt
constant_piece_spells text n NotOne h = tt

char_spells : (text bs : List ℕ) (o : Option ℕ) → AreBytes text → Spells text (char_piece bs o)
char_spells text bs None h = tt
char_spells text bs (Some n) h = constant_piece_spells text n (constant (characters (take n bs))) h

values_piece_spells : (text : List ℕ) (n : ℕ) (r : Option (List ℕ)) → AreBytes text → Spells text (values_piece n r)
values_piece_spells text n None h = tt
values_piece_spells text n (Some vs) h = λ t e.
    str_spells (all_values (characters (inside (take (n + 2) text)))) t
    (λ ws f. values_small _ ws (characters_small 0 _ (inside_small _ (take_small (n + 2) text h))) f) e

string_spells : (text bs : List ℕ) (o : Option ℕ) → AreBytes text → Spells text (str_piece bs o)
string_spells text bs None h = tt
string_spells text bs (Some n) h = values_piece_spells text n (all_values (characters (take n bs))) h

front_spells : (text : List ℕ) → AreBytes text → Spells text (front text)
front_spells [] h = tt
front_spells (b ∷ bs) h =
    let S : Front → Type 0 = Spells (b ∷ bs) in
    cond_both (nat_eq b 10) _ _ S (λ e. λ t f. absurd (none-some t f)) (λ e.
    cond_both (is_blank b) _ _ S (λ e. λ t f. absurd (none-some t f)) (λ e.
    cond_both (is_letter b) _ _ S (λ e. λ t f. word_spells _ _ (b ∷ take (run InWord bs) bs) t refl refl (e, run_bytes InWord bs) f) (λ e.
    cond_both (is_digit b || (nat_eq b 46 && begins_with_digit bs)) _ _ S
    (λ e. cond_both (is_right (take (run InNumber (b ∷ bs)) (b ∷ bs))) _ _ S
    (λ right. λ t f. of_same (token.Number (take (run InNumber (b ∷ bs)) (b ∷ bs))) t f (number_spells b bs (point_or_digit b (begins_with_digit bs) e) right))
    (λ wrong. tt)) (λ e.
    cond_both (nat_eq b 39) _ _ S (λ e. char_spells (b ∷ bs) bs (before_quote 39 false bs) h) (λ e.
    cond_both (nat_eq b 34) _ _ S (λ e. string_spells (b ∷ bs) bs (before_quote 34 false bs) h) (λ e.
    cond_both (nat_eq b 35) _ _ S (λ e. λ t f. absurd (none-some t f)) (λ e.
    cond_both (is_front (codes "/*") (b ∷ bs)) _ _ S (λ e. comment_spells (b ∷ bs) (comment_end false (drop 2 (b ∷ bs)))) (λ e.
    mark_spells (b ∷ bs) (mark_front (b ∷ bs))))))))))

pub piece_spells : (text : List ℕ) (c : Class) (n : ℕ) (t : TokenKind) → AreBytes text → front text ≡ Piece c n → kind c (take n text) ≡ Some t → IsToken t
piece_spells text c n t h e = subst (Spells text) e (front_spells text h) t

pub are_bytes : (text : List ℕ) → ((k : ℕ) → get_or text k 0 < 256) → AreBytes text
are_bytes [] h = tt
are_bytes (b ∷ bs) h = (h 0, are_bytes bs (λ k. h (suc k)))
