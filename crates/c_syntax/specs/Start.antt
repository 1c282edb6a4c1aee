-- Tokens that stand in no text.
use Rattle.std.specs.Prelude.{◌≡◌, List, All}
use Rattle.c_base.specs.declared.place.Pos.{Pos}
use Rattle.c_syntax.specs.declared.token.TokenKind.{TokenKind}
use Rattle.c_syntax.specs.declared.token.Token.{Token}

-- line 1, column 1
abbrev pub start : Pos
start = record { line = 1; col = 1 }

abbrev pub at_start : TokenKind → Token
at_start k = record { kind = k; pos = start }

-- each of these tokens stands at line 1, column 1
abbrev pub AllAtStart : List Token → Type 0
AllAtStart ts = All (λ t. t.pos ≡ start) ts
