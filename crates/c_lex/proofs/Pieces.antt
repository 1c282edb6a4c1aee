-- The pieces of a text join to it.
use Rattle.std.proofs.Common.{◌≡◌, ℕ, zero, suc, ◌<◌, ◌≤◌, List, [], ◌∷◌, ◌++◌, Option, Some, None, Bool, true, false, refl, sym, ap, subst, ◌∙◌, arith, cond, length, length-drop, take, drop, nat_eq, append-nil}
use Rattle.std.specs.Prelude.{flat_map, replicate, ◌==◌, ◌&&◌, ◌||◌, codes}
use Rattle.std.proofs.lemmas.Bool.{cond_both}
use Rattle.std.proofs.lemmas.Bool.Decides.{nat_tests}
use Rattle.c_syntax.specs.declared.token.Mark.{Mark}
use Rattle.c_lex_pieces.specs.declared.bytes.ByteSet.TheVariants.{InNumber}
use Rattle.c_lex_pieces.specs.declared.quotes.Constant.{Constant}
use Rattle.c_lex_pieces.specs.declared.quotes.Constant.TheVariants.{Value, BadEscape, NotOne}
use Rattle.c_lex_pieces.specs.declared.front.Class.{Class}
use Rattle.c_lex_pieces.specs.declared.front.Class.TheVariants as class
use Rattle.c_lex_pieces.specs.declared.front.Front.{Front}
use Rattle.c_lex_pieces.specs.declared.front.Front.TheVariants as front_is
use Rattle.c_lex_pieces.specs.Bytes.{is_letter, is_digit, is_blank, is_in, run}
use Rattle.c_lex_pieces.specs.Numbers.{is_right}
use Rattle.c_lex_pieces.specs.Quotes.{before_quote, characters, constant, all_values}
use Rattle.c_lex_pieces.specs.Marks.{mark_front, is_front}
use Rattle.c_lex_pieces.specs.Front.{front, comment_end, comment_piece, begins_with_digit, number_piece, constant_piece, char_piece, values_piece, str_piece, mark_piece}
use Rattle.c_lex_pieces.proofs.Spelled.{point_or_digit}
use Rattle.c_lex.specs.declared.lexer.TextKind.{TextKind}
use Rattle.c_lex.specs.Output.{Made}
use Rattle.c_lex.specs.Line.{LineCut, line_of}
use Rattle.c_lex.specs.Directive.{directive}
use Rattle.c_lex.specs.Expand.{expansion, all_given}
use Rattle.c_lex.specs.Scan.{Effect, leaves, at_hash, at_stop, at_name, effect, State, Taken, goes, refuses, obeyed, given_taken, token_taken, class_taken, taken}
use Rattle.c_lex.specs.Given.{begin}
use Rattle.c_lex.specs.Pieces.{piece_then, pieces_in, pieces}
use Rattle.c_lex.proofs.ReadBack.{mark_size}

-- A PIECE HAS A BYTE
abbrev pub HasByte : Front → Type 0
HasByte (front_is.Refused r) = Unit {0}
HasByte (front_is.Piece c n) = 1 ≤ n

number_by : (text : List ℕ) (n : ℕ) → 1 ≤ n → HasByte (number_piece text n)
number_by text n h = cond_both (is_right (take n text)) (front_is.Piece class.Number n) (front_is.Refused 5) HasByte (λ e. h) (λ e. tt)

number_run : (b : ℕ) (bs : List ℕ) → is_in InNumber b ≡ true → 1 ≤ run InNumber (b ∷ bs)
number_run b bs e = subst (λ (t : Bool). 1 ≤ cond t (suc (run InNumber bs)) 0) (sym e) (omega arith)

constant_by : (n : ℕ) (v : Constant) → HasByte (constant_piece n v)
constant_by n (Value v) = omega arith
constant_by n BadEscape = tt
constant_by n NotOne = tt

char_by : (bs : List ℕ) (o : Option ℕ) → HasByte (char_piece bs o)
char_by bs None = tt
char_by bs (Some n) = constant_by n (constant (characters (take n bs)))

values_by : (n : ℕ) (o : Option (List ℕ)) → HasByte (values_piece n o)
values_by n None = tt
values_by n (Some vs) = omega arith

str_by : (bs : List ℕ) (o : Option ℕ) → HasByte (str_piece bs o)
str_by bs None = tt
str_by bs (Some n) = values_by n (all_values (characters (take n bs)))

comment_by : (o : Option ℕ) → HasByte (comment_piece o)
comment_by None = tt
comment_by (Some n) = omega arith

mark_by : (o : Option Mark) → HasByte (mark_piece o)
mark_by None = tt
mark_by (Some m) = mark_size m

front_byte : (text : List ℕ) → HasByte (front text)
front_byte [] = tt
front_byte (b ∷ bs) =
    cond_both (nat_eq b 10) _ _ HasByte (λ e. omega arith) (λ e.
    cond_both (is_blank b) _ _ HasByte (λ e. omega arith) (λ e.
    cond_both (is_letter b) _ _ HasByte (λ e. omega arith) (λ e.
    cond_both (is_digit b || (nat_eq b 46 && begins_with_digit bs)) _ _ HasByte (λ e. number_by (b ∷ bs) (run InNumber (b ∷ bs)) (number_run b bs (point_or_digit b (begins_with_digit bs) e))) (λ e.
    cond_both (nat_eq b 39) _ _ HasByte (λ e. char_by bs (before_quote 39 false bs)) (λ e.
    cond_both (nat_eq b 34) _ _ HasByte (λ e. str_by bs (before_quote 34 false bs)) (λ e.
    cond_both (nat_eq b 35) _ _ HasByte (λ e. omega arith) (λ e.
    cond_both (is_front (codes "/*") (b ∷ bs)) _ _ HasByte (λ e. comment_by (comment_end false (drop 2 (b ∷ bs)))) (λ e.
    mark_by (mark_front (b ∷ bs))))))))))

-- and so it takes one
abbrev pub TakesByte : Taken → Type 0
TakesByte (goes n s) = 1 ≤ n
TakesByte (refuses r p) = Unit {0}

given_byte : (o : Option Made) (w : List ℕ) (s : State) → 1 ≤ length w → TakesByte (given_taken o w s)
given_byte None w s h = tt
given_byte (Some m) w s h = cond_both m.left_out _ _ TakesByte (λ e. tt) (λ e. h)

obeyed_byte : (f : Effect) (line : LineCut) (text : List ℕ) (s : State) → TakesByte (obeyed f line text s)
obeyed_byte (leaves T) line text s = omega arith
obeyed_byte at_hash line text s = tt
obeyed_byte (at_stop r) line text s = tt
obeyed_byte at_name line text s = tt

token_byte : (c : Class) (w : List ℕ) (s : State) → 1 ≤ length w → TakesByte (token_taken c w s)
token_byte c w s h = given_byte (all_given s.place s.made (expansion s.table (replicate (length s.table) false) ((c, w) ∷ []))) w s h

class_byte : (c : Class) (w text : List ℕ) (s : State) → 1 ≤ length w → TakesByte (class_taken c w text s)
class_byte class.Space w text s h = h
class_byte class.Newline w text s h = h
class_byte class.Comment w text s h = h
class_byte class.Hash w text s h = cond_both s.fresh _ _ TakesByte (λ e. obeyed_byte (effect (directive (line_of (drop 1 text)).pieces (line_of (drop 1 text)).end) s.table) (line_of (drop 1 text)) text s) (λ e. tt)
class_byte class.Word w text s h = token_byte class.Word w s h
class_byte class.Number w text s h = token_byte class.Number w s h
class_byte class.Char w text s h = token_byte class.Char w s h
class_byte class.Str w text s h = token_byte class.Str w s h
class_byte (class.Mark m) w text s h = token_byte (class.Mark m) w s h

some_taken : (n : ℕ) (text : List ℕ) → 1 ≤ n → 0 < length text → 1 ≤ length (take n text)
some_taken zero text h k = absurd (omega (arith, h))
some_taken (suc n) [] h k = absurd (omega (arith, k))
some_taken (suc n) (b ∷ bs) h k = omega arith

taken_byte : (f : Front) (text : List ℕ) (s : State) → HasByte f → 0 < length text → TakesByte (taken f text s)
taken_byte (front_is.Refused r) text s h k = tt
taken_byte (front_is.Piece c n) text s h k = class_byte c (take n text) text s (some_taken n text h k)

-- THE PIECES JOIN
split : (n : ℕ) (text : List ℕ) → take n text ++ drop n text ≡ text
split zero text = refl
split (suc n) [] = refl
split (suc n) (b ∷ bs) = ap (λ l. b ∷ l) (split n bs)

then_join : (k : ℕ) (t : Taken) (text : List ℕ) → TakesByte t → length text < suc k → 0 < length text → ((u : List ℕ) (s : State) → length u < k → flat_map (λ (p : List ℕ). p) (pieces_in k u s) ≡ u) → flat_map (λ (p : List ℕ). p) (piece_then (pieces_in k) t text) ≡ text
then_join k (goes n s) text h lt some f = ap (λ l. take n text ++ l) (f (drop n text) s (omega (arith, length-drop n text, h, lt, some))) ∙ split n text
then_join k (refuses r p) text h lt some f = append-nil text

nothing_left : (text : List ℕ) → (length text == 0) ≡ true → [] ≡ text
nothing_left [] e = refl
nothing_left (b ∷ bs) e = absurd (grind (arith, nat_tests))

something_left : (text : List ℕ) → (length text == 0) ≡ false → 0 < length text
something_left [] e = cc
something_left (b ∷ bs) e = omega arith

join_in : (k : ℕ) (text : List ℕ) (s : State) → length text < k → flat_map (λ (p : List ℕ). p) (pieces_in k text s) ≡ text
join_in zero text s lt = absurd (omega (arith, lt))
join_in (suc k) text s lt =
    cond_both (length text == 0) [] (piece_then (pieces_in k) (taken (front text) text s) text) (λ ps. flat_map (λ (p : List ℕ). p) ps ≡ text) (nothing_left text)
    (λ e. then_join k (taken (front text) text s) text (taken_byte (front text) text s (front_byte text) (something_left text e)) lt (something_left text e) (λ u g l. join_in k u g l))

pub pieces_join : (kind : TextKind) (text : List ℕ) → flat_map (λ (p : List ℕ). p) (pieces kind text) ≡ text
unfolding pieces
pieces_join kind text = join_in (suc (length text)) text (begin kind) (omega arith)
