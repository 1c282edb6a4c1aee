-- Tokens that some text gives, however many they are.
use Rattle.std.specs.Prelude.{◌≡◌, List, true, false}
use Rattle.std.specs.List.{list_any}
use Rattle.c_syntax.specs.declared.token.TokenKind.{TokenKind}
use Rattle.c_lex.specs.Output.{is_left_out}
use Rattle.c_lex.specs.ReadBack.{AreTokens, spellings, are_apart}

-- each is one that a piece can spell, no word is left out, and no two strings are adjacent
pub record AreLexed (ks : List TokenKind) : Type 0 where
  pub tokens : AreTokens ks
  pub kept : list_any is_left_out (spellings ks) ≡ false
  pub apart : are_apart ks ≡ true
