use Rattle.std.proofs.Common.{◌≡◌, drop, map}
use Rattle.c_lex.specs.Macros.{spelled}
use Rattle.c_lex.specs.Directive.{behind_gaps}
use Rattle.c_lex.proofs.directive.skip_gaps.Given as goal

abbrev pub invariant-loop-i : goal.invariant-loop-i
invariant-loop-i l = behind_gaps (map spelled (drop l.i l.pieces)) ≡ behind_gaps (map spelled l.pieces)
