use Rattle.std.proofs.Common.{◌≡◌, ◌++◌, drop, map}
use Rattle.c_lex.specs.Macros.{spelled}
use Rattle.c_lex.specs.Directive.{tokens_in}
use Rattle.c_lex.proofs.directive.without_gaps.Given as goal

abbrev pub invariant-loop-piece : goal.invariant-loop-piece
invariant-loop-piece l = map spelled l.tokens.items ++ tokens_in (map spelled (drop l.piece-index l.pieces)) ≡ tokens_in (map spelled l.pieces)
