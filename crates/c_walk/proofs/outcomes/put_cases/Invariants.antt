use Rattle.std.proofs.Common.{◌≡◌, ◌++◌, drop}
use Rattle.c_walk.specs.Items.{case_labels}
use Rattle.c_walk.proofs.outcomes.put_cases.Given as goal

abbrev pub invariant-loop-value : goal.invariant-loop-value
invariant-loop-value l = l.out ++ case_labels l.number (drop l.value-index l.values) ≡ l.initial.out ++ case_labels 1 l.values
