-- Tokens written as a text.
use Rattle.std.specs.Prelude.{ℕ, List, [], ◌∷◌, ◌++◌, length, nat_eq, cond}
use Rattle.c_syntax.specs.declared.token.Mark.TheVariants as mark
use Rattle.c_syntax.specs.declared.token.Token.{Token}
use Rattle.c_syntax.specs.declared.token.TokenKind.{TokenKind}
use Rattle.c_syntax.specs.declared.token.TokenKind.TheVariants as kinds
use Rattle.c_lex_pieces.specs.Written.{token_bytes}

-- what stands behind a token, by how many tokens follow: a newline after `;`, `{`, `}` and at the end, else a space
abbrev pub end_byte : TokenKind → ℕ → ℕ
end_byte (kinds.Mark mark.Semicolon) n = 10
end_byte (kinds.Mark mark.LeftBrace) n = 10
end_byte (kinds.Mark mark.RightBrace) n = 10
end_byte k n = cond (nat_eq n 0) 10 32

abbrev pub lines : List Token → List ℕ
lines [] = []
lines (t ∷ ts) = (token_bytes t.kind ++ end_byte t.kind (length ts) ∷ []) ++ lines ts

abbrev pub written : List Token → List ℕ
written [] = 10 ∷ []
written (t ∷ ts) = lines (t ∷ ts)
