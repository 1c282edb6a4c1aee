-- Tokens as they are given, and what limits them.
use Rattle.std.specs.Prelude.{◌&&◌, List, [], ◌∷◌, Option, Some, None, Bool, true, false}
use Rattle.c_base.specs.declared.place.Pos.{Pos}
use Rattle.c_syntax.specs.declared.token.Token.{Token}
use Rattle.c_syntax.specs.declared.token.TokenKind.{TokenKind}
use Rattle.c_lex_pieces.specs.declared.front.Class.{Class}
use Rattle.c_lex_pieces.specs.declared.front.Class.TheVariants as class
use Rattle.c_lex_pieces.specs.Kinds.{left_out}
use Rattle.c_lex.specs.declared.output.Room.{Room}
use Rattle.c_lex.specs.declared.output.Output.{Output}
use Rattle.c_lex.specs.Macros.{Spelled}

-- the tokens given so far, what may still come, and whether a left-out word is among them
pub record Made : Type 0 where
  pub tokens : List Token
  pub room : Room
  pub left_out : Bool

abbrev pub made_of : Output → Made
made_of o = record { tokens = o.tokens.items; room = o.room; left_out = o.left_out }

abbrev pub is_word : Class → Bool
is_word class.Space = false
is_word class.Newline = false
is_word class.Comment = false
is_word class.Word = true
is_word class.Number = false
is_word class.Char = false
is_word class.Str = false
is_word (class.Mark m) = false
is_word class.Hash = false

abbrev pub is_left_out : Spelled → Bool
is_left_out t = is_word t.0 && left_out t.1

abbrev pub tokens_at : Pos → Option TokenKind → List Token
tokens_at p None = []
tokens_at p (Some k) = record { kind = k; pos = p } ∷ []
