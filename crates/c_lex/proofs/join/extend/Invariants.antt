use Rattle.std.proofs.Common.{◌≡◌, ◌++◌, drop}
use Rattle.c_lex.proofs.join.extend.Given as goal

abbrev pub invariant-loop-b : goal.invariant-loop-b
invariant-loop-b l = l.text ++ drop l.b-index l.more ≡ l.fn.text ++ l.more
