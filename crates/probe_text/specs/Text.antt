-- The text of a unit: its tokens as they are written; and the limits of a text with probes.
use Rattle.std.specs.Prelude.{ℕ, ◌≤◌, List, length, map}
use Rattle.c_syntax.specs.declared.token.Token.{Token}
use Rattle.c_syntax.specs.declared.token.TokenKind.{TokenKind}
use Rattle.c_syntax.specs.Shape.{UnitShape}
use Rattle.c_syntax.specs.Grammar.{tokens_of}
use Rattle.c_lex.specs.declared.lexer.TextKind.TheVariants.{Probed}
use Rattle.c_lex.specs.Macros.{bytes_of}
use Rattle.c_lex.specs.ReadBack.{spellings}
use Rattle.c_lex.specs.Given.{room_of}
use Rattle.c_lex.specs.Written.{written}

-- a token at line 1, column 1; how a token is written doesn't go by its place
abbrev pub placed : TokenKind → Token
placed k = record { kind = k; pos = record { line = 1; col = 1 } }

abbrev pub text_in : UnitShape → List ℕ
text_in u = written (map placed (tokens_of u))

-- at most 350,000 tokens, 67,108,864 bytes of all tokens, and 67,108,864 bytes of text
pub record Fits (u : UnitShape) : Type 0 where
  pub tokens : length (tokens_of u) ≤ (room_of Probed).tokens
  pub bytes : bytes_of (spellings (tokens_of u)) ≤ (room_of Probed).bytes
  pub text : length (text_in u) ≤ 67108864
