-- Tokens that a text can give: what is written is read back.
use Rattle.std.specs.Prelude.{◌≡◌, ◌≤◌, ◌&&◌, List, [], ◌∷◌, map, length, Bool, true, false, not, is_some}
use Rattle.std.specs.List.{list_any}
use Rattle.c_syntax.specs.declared.token.Token.{Token}
use Rattle.c_syntax.specs.declared.token.TokenKind.{TokenKind}
use Rattle.c_lex_pieces.specs.Written.{IsToken, class_of, token_bytes}
use Rattle.c_lex.specs.declared.lexer.TextKind.{TextKind}
use Rattle.c_lex.specs.Macros.{Spelled, bytes_of}
use Rattle.c_lex.specs.Output.{is_left_out}
use Rattle.c_lex.specs.Joined.{string_of}
use Rattle.c_lex.specs.Given.{room_of}

abbrev pub kinds_of : List Token → List TokenKind
kinds_of ts = map (λ t. t.kind) ts

abbrev pub AreTokens : List TokenKind → Type 0
AreTokens [] = Unit {0}
AreTokens (k ∷ ks) = IsToken k × AreTokens ks

-- tokens as they are written
abbrev pub spellings : List TokenKind → List Spelled
spellings [] = []
spellings (k ∷ ks) = (class_of k, token_bytes k) ∷ spellings ks

abbrev pub is_string_pair : TokenKind → List TokenKind → Bool
is_string_pair k [] = false
is_string_pair k (l ∷ ls) = is_some (string_of k) && is_some (string_of l)

-- no two strings are adjacent
abbrev pub are_apart : List TokenKind → Bool
are_apart [] = true
are_apart (k ∷ ks) = not (is_string_pair k ks) && are_apart ks

-- each is one that a piece can spell, no word is left out, no two strings are adjacent, and there aren't too many
pub record AreReadable (kind : TextKind) (ks : List TokenKind) : Type 0 where
  pub tokens : AreTokens ks
  pub kept : list_any is_left_out (spellings ks) ≡ false
  pub apart : are_apart ks ≡ true
  pub few : length ks ≤ (room_of kind).tokens
  pub short : bytes_of (spellings ks) ≤ (room_of kind).bytes

-- what every text gives: the same, but that its tokens may be longer as they are written than they were spelled
pub record AreSound (kind : TextKind) (ks : List TokenKind) : Type 0 where
  pub tokens : AreTokens ks
  pub kept : list_any is_left_out (spellings ks) ≡ false
  pub apart : are_apart ks ≡ true
  pub few : length ks ≤ (room_of kind).tokens
