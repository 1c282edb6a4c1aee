-- A piece is the front of itself: the bytes of a piece, alone, are this piece.
use Rattle.std.proofs.Common.{◌≡◌, ℕ, zero, suc, ◌+◌, List, [], ◌∷◌, length, take, drop, Option, Some, None, refl, ap, subst, sym, ◌∙◌, arith}
use Rattle.std.proofs.lemmas.Bool.{and_right, cond_both, cond-true, cond-false, and_parts, eqb-true, ne_eqb, or_left, false≢true}
use Rattle.std.specs.Prelude.{Bool, true, false, cond, nat_eq, not, ◌&&◌, ◌||◌, codes}
use Rattle.c_syntax.specs.declared.token.Mark.{Mark}
use Rattle.c_syntax.specs.declared.token.Mark.TheVariants as mark
use Rattle.c_lex_pieces.specs.declared.bytes.ByteSet.{ByteSet}
use Rattle.c_lex_pieces.specs.declared.bytes.ByteSet.TheVariants.{Blank, InWord, InNumber}
use Rattle.c_lex_pieces.specs.declared.front.Class.{Class}
use Rattle.c_lex_pieces.specs.declared.front.Class.TheVariants as class
use Rattle.c_lex_pieces.specs.declared.front.Front.{Front}
use Rattle.c_lex_pieces.specs.declared.front.Front.TheVariants.{Refused, Piece}
use Rattle.c_lex_pieces.specs.declared.quotes.Constant.{Constant}
use Rattle.c_lex_pieces.specs.declared.quotes.Constant.TheVariants.{Value, BadEscape, NotOne}
use Rattle.c_lex_pieces.specs.Bytes.{more, is_digit, is_letter, is_blank, is_in, run}
use Rattle.c_lex_pieces.specs.Numbers.{is_right}
use Rattle.c_lex_pieces.specs.Quotes.{before_quote, characters, constant, all_values}
use Rattle.c_lex_pieces.specs.Marks.{marks, mark_bytes, mark_front, is_front}
use Rattle.c_lex_pieces.specs.Front.{front, begins_with_digit, number_piece, char_piece, str_piece, constant_piece, values_piece, comment_piece, comment_end, mark_piece}
use Rattle.c_lex_pieces.proofs.Maximal.{first_is_front}
use Rattle.c_lex_pieces.proofs.ReadBack.{third, digit_bounds, above_blanks, no_letter}
use Rattle.c_lex_pieces.proofs.Spelled.{right_first, point_or_digit}
use Rattle.c_lex_pieces.proofs.Whole.{take_less}

abbrev IsAlone : List ℕ → Front → Type 0
IsAlone text (Refused r) = Unit {0}
IsAlone text (Piece c n) = front (take n text) ≡ Piece c n

-- RUNS

run_by : (set : ByteSet) (b : ℕ) (bs : List ℕ) (t : Bool) → is_in set b ≡ t → run set (take (run set bs) bs) ≡ run set bs → run set (take (cond t (suc (run set bs)) 0) (b ∷ bs)) ≡ cond t (suc (run set bs)) 0
run_by set b bs true is on = ap (λ t. cond t (suc (run set (take (run set bs) bs))) 0) is ∙ ap suc on
run_by set b bs false is on = refl

run_alone : (set : ByteSet) (bs : List ℕ) → run set (take (run set bs) bs) ≡ run set bs
run_alone set [] = refl
run_alone set (b ∷ bs) = run_by set b bs (is_in set b) refl (run_alone set bs)

take_twice : (n : ℕ) (bs : List ℕ) → take n (take n bs) ≡ take n bs
take_twice zero bs = refl
take_twice (suc n) [] = refl
take_twice (suc n) (b ∷ bs) = ap (λ x. b ∷ x) (take_twice n bs)

number_alone : (b : ℕ) (bs : List ℕ) → is_in InNumber b ≡ true → is_right (take (run InNumber (b ∷ bs)) (b ∷ bs)) ≡ true → IsAlone (b ∷ bs) (Piece class.Number (run InNumber (b ∷ bs)))
number_alone b bs first right =
    let r = run InNumber bs in
    let one : run InNumber (b ∷ bs) ≡ suc r = ap (λ t. cond t (suc r) 0) first in
    let whole : is_right (b ∷ take r bs) ≡ true = sym (ap (λ n. is_right (take n (b ∷ bs))) one) ∙ right in
    let digit : is_digit b ≡ true = right_first b (take r bs) (nat_eq b 48) refl whole in
    let bounds = digit_bounds b digit in
    let runs : run InNumber (b ∷ take r bs) ≡ suc r = ap (λ t. cond t (suc (run InNumber (take r bs))) 0) first ∙ ap suc (run_alone InNumber bs) in
    subst (λ n. front (take n (b ∷ bs)) ≡ Piece class.Number n) (sym one)
    (cond-false (nat_eq b 10) _ _ (ne_eqb b 10 (λ e. omega (arith, e, bounds)))
    ∙ third (is_blank b) (is_letter b) _ _ _ _ _ (above_blanks b (omega (arith, bounds))) (no_letter b (omega (arith, bounds))) (or_left (is_digit b) _ digit)
    ∙ ap (number_piece (b ∷ take r bs)) runs
    ∙ ap (λ x. cond (is_right (b ∷ x)) (Piece class.Number (suc r)) (Refused 5)) (take_twice r bs)
    ∙ cond-true (is_right (b ∷ take r bs)) _ _ whole)

-- QUOTES AND COMMENTS: what is found stays where it was found

abbrev QuoteStays : ℕ → Bool → List ℕ → Option ℕ → Type 0
QuoteStays q escaped bs None = Unit {0}
QuoteStays q escaped bs (Some n) = before_quote q escaped (take (suc n) bs) ≡ Some n

quote_more : (q b : ℕ) (escaped : Bool) (bs : List ℕ) (o : Option ℕ) → nat_eq b 10 ≡ false → (not escaped && nat_eq b q) ≡ false → QuoteStays q (not escaped && nat_eq b 92) bs o → QuoteStays q escaped (b ∷ bs) (more o)
quote_more q b escaped bs None line quote h = tt
quote_more q b escaped bs (Some n) line quote h = cond-false (nat_eq b 10) _ _ line ∙ cond-false (not escaped && nat_eq b q) _ _ quote ∙ ap more h

quote_stays : (q : ℕ) (escaped : Bool) (bs : List ℕ) → QuoteStays q escaped bs (before_quote q escaped bs)
quote_stays q escaped [] = tt
quote_stays q escaped (b ∷ bs) =
    cond_both (nat_eq b 10) None _ (QuoteStays q escaped (b ∷ bs)) (λ line. tt) (λ line.
    cond_both (not escaped && nat_eq b q) (Some 0) (more (before_quote q (not escaped && nat_eq b 92) bs)) (QuoteStays q escaped (b ∷ bs))
    (λ quote. cond-false (nat_eq b 10) _ _ line ∙ cond-true (not escaped && nat_eq b q) _ _ quote)
    (λ quote. quote_more q b escaped bs (before_quote q (not escaped && nat_eq b 92) bs) line quote (quote_stays q (not escaped && nat_eq b 92) bs)))

abbrev CommentStays : Bool → List ℕ → Option ℕ → Type 0
CommentStays star bs None = Unit {0}
CommentStays star bs (Some n) = comment_end star (take n bs) ≡ Some n

comment_more : (star : Bool) (b : ℕ) (bs : List ℕ) (o : Option ℕ) → (star && nat_eq b 47) ≡ false → CommentStays (nat_eq b 42) bs o → CommentStays star (b ∷ bs) (more o)
comment_more star b bs None slash h = tt
comment_more star b bs (Some n) slash h = cond-false (star && nat_eq b 47) _ _ slash ∙ ap more h

comment_stays : (star : Bool) (bs : List ℕ) → CommentStays star bs (comment_end star bs)
comment_stays star [] = tt
comment_stays star (b ∷ bs) =
    cond_both (star && nat_eq b 47) (Some 1) (more (comment_end (nat_eq b 42) bs)) (CommentStays star (b ∷ bs))
    (λ slash. cond-true (star && nat_eq b 47) _ _ slash)
    (λ slash. comment_more star b bs (comment_end (nat_eq b 42) bs) slash (comment_stays (nat_eq b 42) bs))

plus_two : (n : ℕ) → n + 2 ≡ suc (suc n)
plus_two n = omega arith

constant_alone : (bs : List ℕ) (n : ℕ) (k : Constant) → before_quote 39 false (take (suc n) bs) ≡ Some n → constant (characters (take n bs)) ≡ k → IsAlone (39 ∷ bs) (constant_piece n k)
constant_alone bs n (Value v) h e =
    ap (λ j. front (take j (39 ∷ bs))) (plus_two n)
    ∙ ap (char_piece (take (suc n) bs)) h
    ∙ ap (λ w. constant_piece n (constant (characters w))) (take_less n bs)
    ∙ ap (constant_piece n) e
constant_alone bs n BadEscape h e = tt
constant_alone bs n NotOne h e = tt

char_alone : (bs : List ℕ) (o : Option ℕ) → QuoteStays 39 false bs o → IsAlone (39 ∷ bs) (char_piece bs o)
char_alone bs None h = tt
char_alone bs (Some n) h = constant_alone bs n (constant (characters (take n bs))) h refl

values_alone : (bs : List ℕ) (n : ℕ) (r : Option (List ℕ)) → before_quote 34 false (take (suc n) bs) ≡ Some n → all_values (characters (take n bs)) ≡ r → IsAlone (34 ∷ bs) (values_piece n r)
values_alone bs n None h e = tt
values_alone bs n (Some vs) h e =
    ap (λ j. front (take j (34 ∷ bs))) (plus_two n)
    ∙ ap (str_piece (take (suc n) bs)) h
    ∙ ap (λ w. values_piece n (all_values (characters w))) (take_less n bs)
    ∙ ap (values_piece n) e

str_alone : (bs : List ℕ) (o : Option ℕ) → QuoteStays 34 false bs o → IsAlone (34 ∷ bs) (str_piece bs o)
str_alone bs None h = tt
str_alone bs (Some n) h = values_alone bs n (all_values (characters (take n bs))) h refl

comment_alone : (bs : List ℕ) (o : Option ℕ) → CommentStays false bs o → IsAlone (47 ∷ 42 ∷ bs) (comment_piece o)
comment_alone bs None h = tt
comment_alone bs (Some n) h = ap (λ j. front (take j (47 ∷ 42 ∷ bs))) (plus_two n) ∙ ap comment_piece h

comment_first : (b : ℕ) (bs : List ℕ) → is_front (codes "/*") (b ∷ bs) ≡ true → IsAlone (b ∷ bs) (comment_piece (comment_end false (drop 2 (b ∷ bs))))
comment_first b [] e = absurd (false≢true (sym (and_right (nat_eq b 47) false refl) ∙ e))
comment_first b (c ∷ cs) e =
    let parts = and_parts (nat_eq b 47) (nat_eq c 42 && true) e in
    let star = (and_parts (nat_eq c 42) true (parts.1)).0 in
    subst (λ x. IsAlone (x ∷ c ∷ cs) (comment_piece (comment_end false cs))) (sym (eqb-true b 47 (parts.0)))
    (subst (λ y. IsAlone (47 ∷ y ∷ cs) (comment_piece (comment_end false cs))) (sym (eqb-true c 42 star)) (comment_alone cs (comment_end false cs) (comment_stays false cs)))

-- MARKS

mark_itself : (m : Mark) → front (mark_bytes m) ≡ Piece (class.Mark m) (length (mark_bytes m))
mark_itself mark.LeftBracket = refl
mark_itself m = refl

front_taken : (p text : List ℕ) → is_front p text ≡ true → take (length p) text ≡ p
front_taken [] text e = refl
front_taken (m ∷ ms) [] e = absurd (false≢true e)
front_taken (m ∷ ms) (b ∷ bs) e =
    let parts = and_parts (nat_eq b m) (is_front ms bs) e in
    ap (λ x. x ∷ take (length ms) bs) (eqb-true b m (parts.0)) ∙ ap (λ x. m ∷ x) (front_taken ms bs (parts.1))

mark_alone : (text : List ℕ) (o : Option Mark) → mark_front text ≡ o → IsAlone text (mark_piece o)
mark_alone text None e = tt
mark_alone text (Some m) e = ap front (front_taken (mark_bytes m) text (first_is_front marks text m e)) ∙ mark_itself m

-- ALL CLASSES

front_alone : (text : List ℕ) → IsAlone text (front text)
front_alone [] = tt
front_alone (b ∷ bs) =
    let A : Front → Type 0 = IsAlone (b ∷ bs) in
    cond_both (nat_eq b 10) _ _ A (λ e. cond-true (nat_eq b 10) _ _ e) (λ line.
    cond_both (is_blank b) _ _ A (λ e. cond-false (nat_eq b 10) _ _ line ∙ cond-true (is_blank b) _ _ e ∙ ap (λ n. Piece class.Space (suc n)) (run_alone Blank bs)) (λ blank.
    cond_both (is_letter b) _ _ A (λ e. third (nat_eq b 10) (is_blank b) (is_letter b) _ _ _ _ line blank e ∙ ap (λ n. Piece class.Word (suc n)) (run_alone InWord bs)) (λ letter.
    cond_both (is_digit b || (nat_eq b 46 && begins_with_digit bs)) _ _ A
    (λ e. cond_both (is_right (take (run InNumber (b ∷ bs)) (b ∷ bs))) _ _ A (λ right. number_alone b bs (point_or_digit b (begins_with_digit bs) e) right) (λ f. tt)) (λ e.
    cond_both (nat_eq b 39) _ _ A (λ e. subst (λ x. IsAlone (x ∷ bs) (char_piece bs (before_quote 39 false bs))) (sym (eqb-true b 39 e)) (char_alone bs _ (quote_stays 39 false bs))) (λ e.
    cond_both (nat_eq b 34) _ _ A (λ e. subst (λ x. IsAlone (x ∷ bs) (str_piece bs (before_quote 34 false bs))) (sym (eqb-true b 34 e)) (str_alone bs _ (quote_stays 34 false bs))) (λ e.
    cond_both (nat_eq b 35) _ _ A (λ e. subst (λ x. IsAlone (x ∷ bs) (Piece class.Hash 1)) (sym (eqb-true b 35 e)) refl) (λ e.
    cond_both (is_front (codes "/*") (b ∷ bs)) _ _ A (λ e. comment_first b bs e) (λ e.
    mark_alone (b ∷ bs) (mark_front (b ∷ bs)) refl))))))))

pub piece_alone : (text : List ℕ) (c : Class) (n : ℕ) → front text ≡ Piece c n → front (take n text) ≡ Piece c n
piece_alone text c n e = subst (IsAlone text) e (front_alone text)
