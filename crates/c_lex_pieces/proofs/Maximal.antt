-- The front is the longest: a front of the text that is one piece by itself has no more bytes.
use Rattle.std.proofs.Common.{◌≡◌, ℕ, zero, suc, ◌≤◌, List, [], ◌∷◌, take, drop, Option, Some, None, refl, ap, subst, sym, ◌∙◌, arith}
use Rattle.std.proofs.lemmas.Bool.{and_parts, and_from, eqb-true, false≢true, both_ways, or_parts}
use Rattle.std.proofs.lemmas.Option.{none-some}
use Rattle.std.specs.Prelude.{Bool, true, false, cond, nat_eq, not, ◌&&◌, ◌||◌, codes, unwrap_or}
use Rattle.c_syntax.specs.declared.token.Mark.{Mark}
use Rattle.c_lex_pieces.specs.declared.bytes.ByteSet.{ByteSet}
use Rattle.c_lex_pieces.specs.declared.bytes.ByteSet.TheVariants.{Blank, InWord, InNumber}
use Rattle.c_lex_pieces.specs.declared.front.Class.{Class}
use Rattle.c_lex_pieces.specs.declared.front.Class.TheVariants as class
use Rattle.c_lex_pieces.specs.declared.front.Front.{Front}
use Rattle.c_lex_pieces.specs.declared.front.Front.TheVariants.{Refused, Piece}
use Rattle.c_lex_pieces.specs.declared.quotes.Constant.{Constant}
use Rattle.c_lex_pieces.specs.declared.quotes.Constant.TheVariants.{Value, BadEscape, NotOne}
use Rattle.c_lex_pieces.specs.Bytes.{more, is_digit, is_letter, is_blank, is_in, run}
use Rattle.c_lex_pieces.specs.Numbers.{is_right}
use Rattle.c_lex_pieces.specs.Quotes.{before_quote, characters, constant, all_values}
use Rattle.c_lex_pieces.specs.Marks.{marks, mark_bytes, mark_front, first_in_front, is_front}
use Rattle.c_lex_pieces.specs.Front.{front, begins_with_digit, number_piece, char_piece, str_piece, constant_piece, values_piece, comment_piece, comment_end, mark_piece}
use Rattle.c_lex_pieces.proofs.Longest.{mark_longest}

-- where both are pieces, the second is no longer
abbrev AtMost : Front → Front → Type 0
AtMost (Refused r) g = Unit {0}
AtMost (Piece c n) (Refused r) = Unit {0}
AtMost (Piece c n) (Piece d m) = m ≤ n

both : (t : Bool) (f g h i : Front) → (t ≡ true → AtMost f h) → (t ≡ false → AtMost g i) → AtMost (cond t f g) (cond t h i)
both true f g h i on off = on refl
both false f g h i on off = off refl

refused_most : (f : Front) (r : ℕ) → AtMost f (Refused r)
refused_most (Refused s) r = tt
refused_most (Piece c n) r = tt

either : (t u : Bool) (f h : Front) → AtMost f h → AtMost (cond t f (Refused 5)) (cond u h (Refused 5))
either true true f h most = most
either true false f h most = refused_most f 5
either false u f h most = tt

run_by : (t : Bool) (a b : ℕ) → a ≤ b → cond t (suc a) 0 ≤ cond t (suc b) 0
run_by true a b h = omega (arith, h)
run_by false a b h = omega arith

run_most : (set : ByteSet) (k : ℕ) (bs : List ℕ) → run set (take k bs) ≤ run set bs
run_most set zero bs = omega arith
run_most set (suc k) [] = omega arith
run_most set (suc k) (b ∷ bs) = run_by (is_in set b) _ _ (run_most set k bs)

-- what is found in a front of the text is found in the text
abbrev Found : Option ℕ → Option ℕ → Type 0
Found o None = Unit {0}
Found o (Some n) = o ≡ Some n

found_more : (o p : Option ℕ) → Found o p → Found (more o) (more p)
found_more o None h = tt
found_more o (Some n) h = ap more h

found_by : (t : Bool) (o p q r : Option ℕ) → Found o q → Found p r → Found (cond t o p) (cond t q r)
found_by true o p q r h i = h
found_by false o p q r h i = i

found_same : (o : Option ℕ) → Found o o
found_same None = tt
found_same (Some n) = refl

quote_found : (q k : ℕ) (escaped : Bool) (bs : List ℕ) → Found (before_quote q escaped bs) (before_quote q escaped (take k bs))
quote_found q zero escaped bs = tt
quote_found q (suc k) escaped [] = tt
quote_found q (suc k) escaped (b ∷ bs) =
    let next : Bool = not escaped && nat_eq b 92 in
    found_by (nat_eq b 10) None _ None _ tt
    (found_by (not escaped && nat_eq b q) (Some 0) (more (before_quote q next bs)) (Some 0) (more (before_quote q next (take k bs))) refl
    (found_more (before_quote q next bs) (before_quote q next (take k bs)) (quote_found q k next bs)))

comment_found : (k : ℕ) (star : Bool) (bs : List ℕ) → Found (comment_end star bs) (comment_end star (take k bs))
comment_found zero star bs = tt
comment_found (suc k) star [] = tt
comment_found (suc k) star (b ∷ bs) =
    found_by (star && nat_eq b 47) (Some 1) (more (comment_end (nat_eq b 42) bs)) (Some 1) (more (comment_end (nat_eq b 42) (take k bs))) refl
    (found_more (comment_end (nat_eq b 42) bs) (comment_end (nat_eq b 42) (take k bs)) (comment_found k (nat_eq b 42) bs))

constants_most : (n : ℕ) (x y : Constant) → AtMost (constant_piece n x) (constant_piece n y)
constants_most n (Value v) (Value w) = omega arith
constants_most n (Value v) BadEscape = tt
constants_most n (Value v) NotOne = tt
constants_most n BadEscape y = tt
constants_most n NotOne y = tt

char_most : (bs cs : List ℕ) (o p : Option ℕ) → Found o p → AtMost (char_piece bs o) (char_piece cs p)
char_most bs cs o None h = refused_most _ 3
char_most bs cs None (Some n) h = tt
char_most bs cs (Some k) (Some n) h = subst (λ j. AtMost (char_piece bs (Some j)) (char_piece cs (Some n))) (sym (ap (λ x. unwrap_or x k) h)) (constants_most n (constant (characters (take n bs))) (constant (characters (take n cs))))

values_most : (n : ℕ) (x y : Option (List ℕ)) → AtMost (values_piece n x) (values_piece n y)
values_most n None y = tt
values_most n (Some vs) None = tt
values_most n (Some vs) (Some ws) = omega arith

str_most : (bs cs : List ℕ) (o p : Option ℕ) → Found o p → AtMost (str_piece bs o) (str_piece cs p)
str_most bs cs o None h = refused_most _ 3
str_most bs cs None (Some n) h = tt
str_most bs cs (Some k) (Some n) h = subst (λ j. AtMost (str_piece bs (Some j)) (str_piece cs (Some n))) (sym (ap (λ x. unwrap_or x k) h)) (values_most n (all_values (characters (take n bs))) (all_values (characters (take n cs))))

comment_most : (o p : Option ℕ) → Found o p → AtMost (comment_piece o) (comment_piece p)
comment_most o None h = refused_most _ 2
comment_most None (Some n) h = tt
comment_most (Some k) (Some n) h = omega (arith, ap (λ x. unwrap_or x k) h)

-- MARKS

front_of_front : (p : List ℕ) (k : ℕ) (text : List ℕ) → is_front p (take k text) ≡ true → is_front p text ≡ true
front_of_front [] k text e = refl
front_of_front (m ∷ ms) zero text e = absurd (false≢true e)
front_of_front (m ∷ ms) (suc k) [] e = absurd (false≢true e)
front_of_front (m ∷ ms) (suc k) (b ∷ bs) e =
    let parts = and_parts (nat_eq b m) (is_front ms (take k bs)) e in
    and_from (nat_eq b m) (is_front ms bs) (parts.0) (front_of_front ms k bs (parts.1))

first_by : (t : Bool) (k m : Mark) (text : List ℕ) (rest : Option Mark) → is_front (mark_bytes k) text ≡ t → (rest ≡ Some m → is_front (mark_bytes m) text ≡ true) → cond t (Some k) rest ≡ Some m → is_front (mark_bytes m) text ≡ true
first_by true k m text rest is on e = subst (λ x. is_front (mark_bytes x) text ≡ true) (ap (λ o. unwrap_or o k) e) is
first_by false k m text rest is on e = on e

pub first_is_front : (ms : List Mark) (text : List ℕ) (m : Mark) → first_in_front ms text ≡ Some m → is_front (mark_bytes m) text ≡ true
first_is_front [] text m e = absurd (none-some m e)
first_is_front (k ∷ ks) text m e = first_by (is_front (mark_bytes k) text) k m text (first_in_front ks text) refl (λ f. first_is_front ks text m f) e

marks_most : (k : ℕ) (text : List ℕ) (o p : Option Mark) → mark_front text ≡ o → mark_front (take k text) ≡ p → AtMost (mark_piece o) (mark_piece p)
marks_most k text None p e f = tt
marks_most k text (Some m) None e f = tt
marks_most k text (Some m) (Some l) e f = mark_longest text m l e (front_of_front (mark_bytes l) k text (first_is_front marks (take k text) l f))

-- ALL CLASSES

-- what is in front of a text that begins no blank, word or number
abbrev past_number : ℕ → List ℕ → Front
past_number b bs =
    cond (nat_eq b 39) (char_piece bs (before_quote 39 false bs))
    (cond (nat_eq b 34) (str_piece bs (before_quote 34 false bs))
    (cond (nat_eq b 35) (Piece class.Hash 1)
    (cond (is_front (codes "/*") (b ∷ bs)) (comment_piece (comment_end false (drop 2 (b ∷ bs))))
    (mark_piece (mark_front (b ∷ bs))))))

abbrev begins_number : ℕ → List ℕ → Bool
begins_number b bs = is_digit b || (nat_eq b 46 && begins_with_digit bs)

number_or_point : (t : Bool) (n : ℕ) → 1 ≤ n → AtMost (cond t (Piece class.Number n) (Refused 5)) (past_number 46 [])
number_or_point true n h = h
number_or_point false n h = tt

-- a point before a digit, of which only the point is taken
point_most : (k : ℕ) (bs : List ℕ) → begins_with_digit bs ≡ true → begins_with_digit (take k bs) ≡ false → AtMost (number_piece (46 ∷ bs) (run InNumber (46 ∷ bs))) (past_number 46 (take k bs))
point_most zero bs e f = number_or_point (is_right (take (run InNumber (46 ∷ bs)) (46 ∷ bs))) (run InNumber (46 ∷ bs)) (omega arith)
point_most (suc k) [] e f = absurd (false≢true e)
point_most (suc k) (b ∷ bs) e f = absurd (both_ways _ f e)

-- a comment, of which only the slash is taken
slash_most : (k : ℕ) (bs : List ℕ) (o : Option ℕ) → is_front (42 ∷ []) bs ≡ true → is_front (42 ∷ []) (take k bs) ≡ false → AtMost (comment_piece o) (mark_piece (mark_front (47 ∷ take k bs)))
slash_most k bs None e f = tt
slash_most zero bs (Some n) e f = omega arith
slash_most (suc k) [] (Some n) e f = absurd (false≢true e)
slash_most (suc k) (b ∷ bs) (Some n) e f = absurd (both_ways (nat_eq b 42 && true) f e)

digit_of_front : (k : ℕ) (bs : List ℕ) → begins_with_digit (take k bs) ≡ true → begins_with_digit bs ≡ true
digit_of_front zero bs e = absurd (false≢true e)
digit_of_front (suc k) [] e = absurd (false≢true e)
digit_of_front (suc k) (b ∷ bs) e = e

begins_of_front : (digit point : Bool) (k : ℕ) (bs : List ℕ) → (digit || (point && begins_with_digit (take k bs))) ≡ true → (digit || (point && begins_with_digit bs)) ≡ true
begins_of_front true point k bs e = refl
begins_of_front false true k bs e = digit_of_front k bs e
begins_of_front false false k bs e = e

comment_behind : (k : ℕ) (bs : List ℕ) → Found (comment_end false (drop 1 bs)) (comment_end false (drop 1 (take k bs)))
comment_behind zero bs = tt
comment_behind (suc k) [] = tt
comment_behind (suc k) (b ∷ bs) = comment_found k false bs

-- the same test comes out so for the text and for its front, or so only for the text
differ : (t u : Bool) (f g h i : Front) → (t ≡ true → u ≡ true → AtMost f h) → (t ≡ false → u ≡ false → AtMost g i) → (t ≡ true → u ≡ false → AtMost f i) → (u ≡ true → t ≡ true) → AtMost (cond t f g) (cond u h i)
differ true true f g h i on off apart same = on refl refl
differ true false f g h i on off apart same = apart refl refl
differ false true f g h i on off apart same = absurd (false≢true (same refl))
differ false false f g h i on off apart same = off refl refl

comment_apart : (k b : ℕ) (bs : List ℕ) (o : Option ℕ) → is_front (codes "/*") (b ∷ bs) ≡ true → is_front (codes "/*") (b ∷ take k bs) ≡ false → AtMost (comment_piece o) (mark_piece (mark_front (b ∷ take k bs)))
comment_apart k b bs o e f =
    let parts = and_parts (nat_eq b 47) (is_front (42 ∷ []) bs) e in
    let none : is_front (42 ∷ []) (take k bs) ≡ false = sym (ap (λ t. t && is_front (42 ∷ []) (take k bs)) (parts.0)) ∙ f in
    subst (λ x. AtMost (comment_piece o) (mark_piece (mark_front (x ∷ take k bs)))) (sym (eqb-true b 47 (parts.0))) (slash_most k bs o (parts.1) none)

number_apart : (k b : ℕ) (bs : List ℕ) → begins_number b bs ≡ true → begins_number b (take k bs) ≡ false → AtMost (number_piece (b ∷ bs) (run InNumber (b ∷ bs))) (past_number b (take k bs))
number_apart k b bs e f =
    let off = or_parts (is_digit b) (nat_eq b 46 && begins_with_digit (take k bs)) f in
    let on : (nat_eq b 46 && begins_with_digit bs) ≡ true = sym (ap (λ t. t || (nat_eq b 46 && begins_with_digit bs)) (off.0)) ∙ e in
    let parts = and_parts (nat_eq b 46) (begins_with_digit bs) on in
    let none : begins_with_digit (take k bs) ≡ false = sym (ap (λ t. t && begins_with_digit (take k bs)) (parts.0)) ∙ off.1 in
    subst (λ x. AtMost (number_piece (x ∷ bs) (run InNumber (x ∷ bs))) (past_number x (take k bs))) (sym (eqb-true b 46 (parts.0))) (point_most k bs (parts.1) none)

past_most : (k b : ℕ) (bs : List ℕ) → AtMost (past_number b bs) (past_number b (take k bs))
past_most k b bs =
    both (nat_eq b 39) _ _ _ _ (λ e. char_most bs (take k bs) _ _ (quote_found 39 k false bs)) (λ e.
    both (nat_eq b 34) _ _ _ _ (λ e. str_most bs (take k bs) _ _ (quote_found 34 k false bs)) (λ e.
    both (nat_eq b 35) (Piece class.Hash 1) _ (Piece class.Hash 1) _ (λ e. omega arith) (λ e.
    differ (is_front (codes "/*") (b ∷ bs)) (is_front (codes "/*") (b ∷ take k bs)) _ _ _ _
    (λ e f. comment_most _ _ (comment_behind k bs))
    (λ e f. marks_most (suc k) (b ∷ bs) _ _ refl refl)
    (λ e f. comment_apart k b bs _ e f)
    (λ e. front_of_front (codes "/*") (suc k) (b ∷ bs) e))))

front_most : (k b : ℕ) (bs : List ℕ) → AtMost (front (b ∷ bs)) (front (b ∷ take k bs))
front_most k b bs =
    both (nat_eq b 10) (Piece class.Newline 1) _ (Piece class.Newline 1) _ (λ e. omega arith) (λ e.
    both (is_blank b) (Piece class.Space (suc (run Blank bs))) _ (Piece class.Space (suc (run Blank (take k bs)))) _ (λ e. omega (arith, run_most Blank k bs)) (λ e.
    both (is_letter b) (Piece class.Word (suc (run InWord bs))) _ (Piece class.Word (suc (run InWord (take k bs)))) _ (λ e. omega (arith, run_most InWord k bs)) (λ e.
    differ (begins_number b bs) (begins_number b (take k bs)) (number_piece (b ∷ bs) (run InNumber (b ∷ bs))) (past_number b bs) (number_piece (b ∷ take k bs) (run InNumber (b ∷ take k bs))) (past_number b (take k bs))
    (λ e f. either (is_right (take (run InNumber (b ∷ bs)) (b ∷ bs))) (is_right (take (run InNumber (b ∷ take k bs)) (b ∷ take k bs))) (Piece class.Number (run InNumber (b ∷ bs))) (Piece class.Number (run InNumber (b ∷ take k bs))) (run_most InNumber (suc k) (b ∷ bs)))
    (λ e f. past_most k b bs)
    (λ e f. number_apart k b bs e f)
    (λ e. begins_of_front (is_digit b) (nat_eq b 46) k bs e))))

most_of_front : (k : ℕ) (text : List ℕ) → AtMost (front text) (front (take k text))
most_of_front k [] = tt
most_of_front zero (b ∷ bs) = refused_most (front (b ∷ bs)) 1
most_of_front (suc k) (b ∷ bs) = front_most k b bs

-- no longer front of the text is one piece
pub front_longest : (text : List ℕ) (c d : Class) (n m : ℕ) → front text ≡ Piece c n → front (take m text) ≡ Piece d m → m ≤ n
front_longest text c d n m e f = subst (λ x. AtMost x (Piece d m)) e (subst (AtMost (front text)) f (most_of_front m text))
