-- The tokens of a text: its pieces, each the longest in front of the rest; directives obeyed, macros replaced (C89,
-- 2.1.1.2, 3.1 and 3.8).
use Rattle.std.specs.Prelude.{ℕ, zero, suc, ◌+◌, ◌<◌, ◌≡◌, ◌||◌, List, [], ◌∷◌, length, take, drop, replicate, bytes_eq, codes, Option, Some, None, Bool, true, false, ◌==◌, nat_eq, cond}
use Rattle.std.specs.List.{list_any}
use Rattle.std.specs.Cmp.Lexicographic.{pointwise}
use Rattle.c_base.specs.declared.place.Pos.{Pos}
use Rattle.c_syntax.specs.declared.token.Mark.TheVariants as mark
use Rattle.c_syntax.specs.declared.token.Token.{Token}
use Rattle.c_lex_pieces.specs.declared.front.Class.{Class}
use Rattle.c_lex_pieces.specs.declared.front.Class.TheVariants as class
use Rattle.c_lex_pieces.specs.declared.front.Front.{Front}
use Rattle.c_lex_pieces.specs.declared.front.Front.TheVariants as front_is
use Rattle.c_lex_pieces.specs.Front.{front}
use Rattle.c_lex.specs.declared.directive.Header.{Header}
use Rattle.c_lex.specs.declared.directive.Header.TheVariants as header
use Rattle.c_lex.specs.Macros.{Spelled, Row, found, set_row}
use Rattle.c_lex.specs.Places.{moved}
use Rattle.c_lex.specs.Output.{Made}
use Rattle.c_lex.specs.Expand.{expansion, all_given}
use Rattle.c_lex.specs.Line.{LineCut, line_of}
use Rattle.c_lex.specs.Directive.{Directive, nothing, defines, undefines, includes, unknown, stops, directive, is_gap}

-- WHAT A DIRECTIVE DOES to the table, or where it is refused: at its `#`, behind its pieces, or at its name
pub data Effect : Type 0 where
  leaves : List Row → Effect
  at_hash : Effect
  at_stop : ℕ → Effect
  at_name : Effect

abbrev pub same_spelling : List Spelled → List Spelled → Bool
same_spelling a b = pointwise (λ (p q : Spelled). bytes_eq p.1 q.1) a b

-- a second definition is right where it has the same tokens
abbrev pub defined : List Row → List ℕ → List Spelled → Option (ℕ × List Spelled) → Effect
defined T name body None = leaves (set_row name (Some body) T)
defined T name body (Some m) = cond (same_spelling m.1 body) (leaves T) at_name

abbrev pub null_body : List Spelled
null_body = (class.Number, codes "0") ∷ []

abbrev pub eof_body : List Spelled
eof_body = (class.Mark mark.LeftParen, codes "(") ∷ (class.Mark mark.Minus, codes "-") ∷ (class.Number, codes "1") ∷ (class.Mark mark.RightParen, codes ")") ∷ []

abbrev pub included : Header → List Row → List Row
included header.Stdio T = set_row (codes "NULL") (Some null_body) (set_row (codes "EOF") (Some eof_body) T)
included header.Stdlib T = set_row (codes "NULL") (Some null_body) T

abbrev pub effect : Directive → List Row → Effect
effect nothing T = leaves T
effect (defines name body) T = defined T name body (found name T)
effect (undefines name) T = leaves (set_row name None T)
effect (includes h) T = leaves (included h T)
effect unknown T = at_hash
effect (stops r) T = at_stop r

-- THE STATE before a piece: its place, whether its line has held blanks and comments alone, what names stand for, and
-- the tokens so far
pub record State : Type 0 where
  pub place : Pos
  pub fresh : Bool
  pub table : List Row
  pub made : Made

-- A piece takes so many bytes and leads to a state, or is refused at a place
pub data Taken : Type 0 where
  goes : ℕ → State → Taken
  refuses : ℕ → Pos → Taken

-- the place of the second token of a line
abbrev pub second_token : Bool → Pos → List Spelled → Pos
second_token seen p [] = p
second_token seen p (q ∷ qs) = cond (is_gap q.0) (second_token seen (moved p q.1) qs) (cond seen p (second_token true (moved p q.1) qs))

abbrev pub obeyed : Effect → LineCut → List ℕ → State → Taken
obeyed (leaves T) line text s = goes (line.size + 1) (record { place = moved s.place (take (line.size + 1) text); fresh = s.fresh; table = T; made = s.made })
obeyed at_hash line text s = refuses 6 s.place
obeyed (at_stop r) line text s = refuses r (moved s.place (take (line.size + 1) text))
obeyed at_name line text s = refuses 7 (second_token false (moved s.place (take 1 text)) line.pieces)

abbrev pub directive_taken : LineCut → List ℕ → State → Taken
directive_taken line text s = obeyed (effect (directive line.pieces line.end) s.table) line text s

-- a token: too many tokens, and then a left-out word among those that are given, are refused at its place
abbrev pub given_taken : Option Made → List ℕ → State → Taken
given_taken None bytes s = refuses 8 s.place
given_taken (Some m) bytes s = cond m.left_out (refuses 9 s.place) (goes (length bytes) (record { place = moved s.place bytes; fresh = false; table = s.table; made = m }))

abbrev pub token_taken : Class → List ℕ → State → Taken
token_taken c bytes s = given_taken (all_given s.place s.made (expansion s.table (replicate (length s.table) false) ((c, bytes) ∷ []))) bytes s

-- blanks and comments; a newline begins a line, in a comment too
abbrev pub gap_taken : Bool → List ℕ → State → Taken
gap_taken fresh bytes s = goes (length bytes) (record { place = moved s.place bytes; fresh = fresh; table = s.table; made = s.made })

abbrev pub class_taken : Class → List ℕ → List ℕ → State → Taken
class_taken class.Space bytes text s = gap_taken s.fresh bytes s
class_taken class.Newline bytes text s = gap_taken true bytes s
class_taken class.Comment bytes text s = gap_taken (s.fresh || list_any (λ b. nat_eq b 10) bytes) bytes s
class_taken class.Hash bytes text s = cond s.fresh (directive_taken (line_of (drop 1 text)) text s) (refuses 1 s.place)
class_taken class.Word bytes text s = token_taken class.Word bytes s
class_taken class.Number bytes text s = token_taken class.Number bytes s
class_taken class.Char bytes text s = token_taken class.Char bytes s
class_taken class.Str bytes text s = token_taken class.Str bytes s
class_taken (class.Mark m) bytes text s = token_taken (class.Mark m) bytes s

-- the piece in front of a text is taken
abbrev pub taken : Front → List ℕ → State → Taken
taken (front_is.Refused r) text s = refuses r s.place
taken (front_is.Piece c n) text s = class_taken c (take n text) text s

-- THE WHOLE
pub data Scanned : Type 0 where
  scanned : List Token → Scanned
  refused : ℕ → Pos → Scanned

abbrev pub behind : (List ℕ → State → Scanned) → Taken → List ℕ → Scanned
behind rec (goes n s) text = rec (drop n text) s
behind rec (refuses r p) text = refused r p

-- in so many steps; each takes a byte or more
abbrev pub scan_in : ℕ → List ℕ → State → Scanned
scan_in zero text s = scanned s.made.tokens
scan_in (suc k) text s = cond (length text == 0) (scanned s.made.tokens) (behind (scan_in k) (taken (front text) text s) text)

-- what the rest of a text comes to, with any number of steps above its length
pub record Scans (text : List ℕ) (s : State) (r : Scanned) : Type 0 where
  pub holds : (k : ℕ) → length text < k → scan_in k text s ≡ r
