-- The longest piece in front of a text (C89, 2.1.1.2 and 3.1).
use Rattle.std.specs.Prelude.{ℕ, suc, ◌+◌, ◌≤◌, ◌&&◌, ◌||◌, List, [], ◌∷◌, length, take, drop, Option, Some, None, Bool, false, nat_eq, cond, codes}
use Rattle.c_syntax.specs.declared.token.Mark.{Mark}
use Rattle.c_lex_pieces.specs.declared.bytes.ByteSet.TheVariants.{Blank, InWord, InNumber}
use Rattle.c_lex_pieces.specs.declared.quotes.Constant.{Constant}
use Rattle.c_lex_pieces.specs.declared.quotes.Constant.TheVariants.{Value, BadEscape, NotOne}
use Rattle.c_lex_pieces.specs.declared.front.Class.TheVariants as class
use Rattle.c_lex_pieces.specs.declared.front.Front.{Front}
use Rattle.c_lex_pieces.specs.declared.front.Front.TheVariants.{Refused, Piece}
use Rattle.c_lex_pieces.specs.Bytes.{is_blank, is_digit, is_letter, run, more}
use Rattle.c_lex_pieces.specs.Numbers.{is_right}
use Rattle.c_lex_pieces.specs.Quotes.{before_quote, characters, constant, all_values}
use Rattle.c_lex_pieces.specs.Marks.{mark_bytes, mark_front, is_front}

-- how many bytes up to the first `*/`, with it, where a `*` stood before or not
abbrev pub comment_end : Bool → List ℕ → Option ℕ
comment_end star [] = None
comment_end star (b ∷ bs) = cond (star && nat_eq b 47) (Some 1) (more (comment_end (nat_eq b 42) bs))

abbrev pub comment_piece : Option ℕ → Front
comment_piece None = Refused 2
comment_piece (Some n) = Piece class.Comment (n + 2)

abbrev pub begins_with_digit : List ℕ → Bool
begins_with_digit [] = false
begins_with_digit (b ∷ bs) = is_digit b

-- the run of a number
abbrev pub number_piece : List ℕ → ℕ → Front
number_piece text n = cond (is_right (take n text)) (Piece class.Number n) (Refused 5)

abbrev pub constant_piece : ℕ → Constant → Front
constant_piece n (Value v) = Piece class.Char (n + 2)
constant_piece n BadEscape = Refused 4
constant_piece n NotOne = Refused 3

-- a character constant, by what stands behind its first quote and the length between the quotes
abbrev pub char_piece : List ℕ → Option ℕ → Front
char_piece bs None = Refused 3
char_piece bs (Some n) = constant_piece n (constant (characters (take n bs)))

abbrev pub values_piece : ℕ → Option (List ℕ) → Front
values_piece n None = Refused 4
values_piece n (Some vs) = Piece class.Str (n + 2)

-- a string, in the same way
abbrev pub str_piece : List ℕ → Option ℕ → Front
str_piece bs None = Refused 3
str_piece bs (Some n) = values_piece n (all_values (characters (take n bs)))

abbrev pub mark_piece : Option Mark → Front
mark_piece None = Refused 1
mark_piece (Some m) = Piece (class.Mark m) (length (mark_bytes m))

-- the longest piece in front; byte 10 ends a line, 46 is `.`, 39 and 34 are the quotes, 35 is `#`
abbrev pub front : List ℕ → Front
front [] = Refused 1
front (b ∷ bs) =
    cond (nat_eq b 10) (Piece class.Newline 1)
    (cond (is_blank b) (Piece class.Space (suc (run Blank bs)))
    (cond (is_letter b) (Piece class.Word (suc (run InWord bs)))
    (cond (is_digit b || (nat_eq b 46 && begins_with_digit bs)) (number_piece (b ∷ bs) (run InNumber (b ∷ bs)))
    (cond (nat_eq b 39) (char_piece bs (before_quote 39 false bs))
    (cond (nat_eq b 34) (str_piece bs (before_quote 34 false bs))
    (cond (nat_eq b 35) (Piece class.Hash 1)
    (cond (is_front (codes "/*") (b ∷ bs)) (comment_piece (comment_end false (drop 2 (b ∷ bs))))
    (mark_piece (mark_front (b ∷ bs))))))))))

-- a piece has a byte, and no more than there are
abbrev pub HasLength : Front → ℕ → Type 0
HasLength (Refused r) m = Unit {0}
HasLength (Piece c n) m = (1 ≤ n) × (n ≤ m)
