-- What a text of each kind gives: few tokens, which are lexed.
use Rattle.std.proofs.Common.{ℕ, ◌≤◌, List, arith}
use Rattle.c_syntax.specs.declared.token.TokenKind.{TokenKind}
use Rattle.c_lex.specs.declared.lexer.TextKind.{TextKind}
use Rattle.c_lex.specs.declared.lexer.TextKind.TheVariants.{Plain, Probed}
use Rattle.c_lex.specs.Given.{room_of}
use Rattle.c_lex.specs.ReadBack.{AreSound}
use Rattle.c_tree.specs.Lexed.{AreLexed}

pub few_enough : (kind : TextKind) (n : ℕ) → n ≤ (room_of kind).tokens → n ≤ 350000
few_enough Plain n h = omega (arith, h)
few_enough Probed n h = h

pub are_lexed : (kind : TextKind) (ks : List TokenKind) → AreSound kind ks → AreLexed ks
are_lexed kind ks h = record { tokens = h.tokens; kept = h.kept; apart = h.apart }
