-- Each piece of a token's class spells a token.
use Rattle.std.proofs.Common.{◌≡◌, ℕ, zero, suc, ◌+◌, ◌<◌, ◌≤◌, List, [], ◌∷◌, length, take, drop, Option, Some, None, refl, ap, subst, ◌∙◌, arith}
use Rattle.std.proofs.lemmas.Bool.{cond_both}
use Rattle.std.specs.Prelude.{Bool, true, false, nat_eq, not, ◌&&◌, ◌||◌, codes, option_map, is_some}
use Rattle.c_syntax.specs.declared.token.Mark.{Mark}
use Rattle.c_syntax.specs.declared.token.TokenKind.TheVariants as token
use Rattle.c_lex_pieces.specs.declared.bytes.ByteSet.TheVariants.{InNumber}
use Rattle.c_lex_pieces.specs.declared.front.Class.{Class}
use Rattle.c_lex_pieces.specs.declared.front.Class.TheVariants as class
use Rattle.c_lex_pieces.specs.declared.front.Front.{Front}
use Rattle.c_lex_pieces.specs.declared.front.Front.TheVariants.{Refused, Piece}
use Rattle.c_lex_pieces.specs.declared.quotes.Constant.{Constant}
use Rattle.c_lex_pieces.specs.declared.quotes.Constant.TheVariants.{Value, BadEscape, NotOne}
use Rattle.c_lex_pieces.specs.Bytes.{more, is_digit, is_letter, is_blank, run}
use Rattle.c_lex_pieces.specs.Numbers.{is_right}
use Rattle.c_lex_pieces.specs.Quotes.{before_quote, characters, constant, all_values, inside}
use Rattle.c_lex_pieces.specs.Marks.{mark_front, is_front}
use Rattle.c_lex_pieces.specs.Front.{front, begins_with_digit, char_piece, str_piece, constant_piece, values_piece, comment_piece, comment_end, mark_piece}
use Rattle.c_lex_pieces.specs.Kinds.{kind, char_kind}

-- it is a blank, a line's end, a comment or `#`, or spells a token
abbrev pub IsWhole : List ℕ → Front → Type 0
IsWhole text (Refused r) = Unit {0}
IsWhole text (Piece class.Space n) = Unit {0}
IsWhole text (Piece class.Newline n) = Unit {0}
IsWhole text (Piece class.Comment n) = Unit {0}
IsWhole text (Piece class.Hash n) = Unit {0}
IsWhole text (Piece c n) = is_some (kind c (take n text)) ≡ true

-- the closing quote stands in the text
abbrev Ends : ℕ → Option ℕ → Type 0
Ends m None = Unit {0}
Ends m (Some n) = n < m

ends_more : (m : ℕ) (o : Option ℕ) → Ends m o → Ends (suc m) (more o)
ends_more m None h = tt
ends_more m (Some n) h = omega (arith, h)

quote_ends : (q : ℕ) (escaped : Bool) (bs : List ℕ) → Ends (length bs) (before_quote q escaped bs)
quote_ends q escaped [] = tt
quote_ends q escaped (b ∷ bs) =
    cond_both (nat_eq b 10) None _ (Ends (suc (length bs))) (λ e. tt)
    (λ e. cond_both (not escaped && nat_eq b q) (Some 0) (more (before_quote q (not escaped && nat_eq b 92) bs)) (Ends (suc (length bs))) (λ f. omega arith)
    (λ f. ends_more (length bs) (before_quote q (not escaped && nat_eq b 92) bs) (quote_ends q (not escaped && nat_eq b 92) bs)))

pub take_less : (n : ℕ) (bs : List ℕ) → take n (take (suc n) bs) ≡ take n bs
take_less zero bs = refl
take_less (suc n) [] = refl
take_less (suc n) (b ∷ bs) = ap (λ x. b ∷ x) (take_less n bs)

pub length_taken : (n : ℕ) (bs : List ℕ) → n ≤ length bs → length (take n bs) ≡ n
length_taken zero bs h = refl
length_taken (suc n) [] h = absurd (omega (arith, h))
length_taken (suc n) (b ∷ bs) h = ap suc (length_taken n bs (omega (arith, h)))

inside_piece : (n b : ℕ) (bs : List ℕ) → n < length bs → inside (take (n + 2) (b ∷ bs)) ≡ take n bs
inside_piece n b bs h =
    let two : n + 2 ≡ suc (suc n) = omega arith in
    ap (λ k. inside (take k (b ∷ bs))) two
    ∙ ap (λ k. take k (take (suc n) bs)) (omega (arith, length_taken (suc n) bs (omega (arith, h))))
    ∙ take_less n bs

constant_whole : (n b : ℕ) (bs : List ℕ) (k : Constant) → n < length bs → constant (characters (take n bs)) ≡ k → IsWhole (b ∷ bs) (constant_piece n k)
constant_whole n b bs (Value v) h e = ap (λ w. is_some (char_kind (constant (characters w)))) (inside_piece n b bs h) ∙ ap (λ k. is_some (char_kind k)) e
constant_whole n b bs BadEscape h e = tt
constant_whole n b bs NotOne h e = tt

char_whole : (b : ℕ) (bs : List ℕ) (o : Option ℕ) → Ends (length bs) o → IsWhole (b ∷ bs) (char_piece bs o)
char_whole b bs None h = tt
char_whole b bs (Some n) h = constant_whole n b bs (constant (characters (take n bs))) h refl

values_whole : (n b : ℕ) (bs : List ℕ) (r : Option (List ℕ)) → n < length bs → all_values (characters (take n bs)) ≡ r → IsWhole (b ∷ bs) (values_piece n r)
values_whole n b bs None h e = tt
values_whole n b bs (Some vs) h e =
    ap (λ w. is_some (option_map (λ values. token.Str values) (all_values (characters w)))) (inside_piece n b bs h)
    ∙ ap (λ r. is_some (option_map (λ values. token.Str values) r)) e

str_whole : (b : ℕ) (bs : List ℕ) (o : Option ℕ) → Ends (length bs) o → IsWhole (b ∷ bs) (str_piece bs o)
str_whole b bs None h = tt
str_whole b bs (Some n) h = values_whole n b bs (all_values (characters (take n bs))) h refl

comment_whole : (text : List ℕ) (o : Option ℕ) → IsWhole text (comment_piece o)
comment_whole text None = tt
comment_whole text (Some n) = tt

mark_whole : (text : List ℕ) (o : Option Mark) → IsWhole text (mark_piece o)
mark_whole text None = tt
mark_whole text (Some m) = refl

front_whole : (text : List ℕ) → IsWhole text (front text)
front_whole [] = tt
front_whole (b ∷ bs) =
    let W : Front → Type 0 = IsWhole (b ∷ bs) in
    cond_both (nat_eq b 10) _ _ W (λ e. tt) (λ e.
    cond_both (is_blank b) _ _ W (λ e. tt) (λ e.
    cond_both (is_letter b) _ _ W (λ e. refl) (λ e.
    cond_both (is_digit b || (nat_eq b 46 && begins_with_digit bs)) _ _ W
    (λ e. cond_both (is_right (take (run InNumber (b ∷ bs)) (b ∷ bs))) _ _ W (λ f. refl) (λ f. tt)) (λ e.
    cond_both (nat_eq b 39) _ _ W (λ e. char_whole b bs _ (quote_ends 39 false bs)) (λ e.
    cond_both (nat_eq b 34) _ _ W (λ e. str_whole b bs _ (quote_ends 34 false bs)) (λ e.
    cond_both (nat_eq b 35) _ _ W (λ e. tt) (λ e.
    cond_both (is_front (codes "/*") (b ∷ bs)) _ _ W (λ e. comment_whole (b ∷ bs) (comment_end false (drop 2 (b ∷ bs)))) (λ e.
    mark_whole (b ∷ bs) (mark_front (b ∷ bs))))))))))

pub piece_whole : (text : List ℕ) (c : Class) (n : ℕ) → front text ≡ Piece c n → IsWhole text (Piece c n)
piece_whole text c n e = subst (IsWhole text) e (front_whole text)
