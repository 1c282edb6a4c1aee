use Rattle.std.proofs.Common.{◌≡◌, ◌++◌, ◌-◌}
use Rattle.c_syntax.specs.Forms.{kinds}
use Rattle.c_syntax.specs.Grammar.{consts_form}
use Rattle.c_syntax.proofs.words.put_consts.Given as goal

abbrev pub invariant-loop : goal.invariant-loop
invariant-loop l = l.out ++ kinds (consts_form (l.count - l.counter)) ≡ l.initial.out ++ kinds (consts_form l.count)
