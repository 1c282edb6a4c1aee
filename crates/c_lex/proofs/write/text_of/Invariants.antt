use Rattle.std.proofs.Common.{◌≡◌, ◌++◌, drop}
use Rattle.c_lex.specs.Written.{lines}
use Rattle.c_lex.proofs.write.text_of.Given as goal

abbrev pub invariant-loop-i : goal.invariant-loop-i
invariant-loop-i l = l.out.items ++ lines (drop l.i l.tokens) ≡ lines l.tokens
