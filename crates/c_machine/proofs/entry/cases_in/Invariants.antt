use Rattle.std.proofs.Common.{◌≡◌, ◌+◌, ◌≤◌, drop, map}
use Rattle.c_syntax.specs.View.{label_shape}
use Rattle.c_walk.specs.Stating.{case_count}
use Rattle.c_machine.proofs.entry.cases_in.Given as goal

abbrev pub invariant-loop-label : goal.invariant-loop-label
invariant-loop-label l = record {
  rest : l.count + case_count (map label_shape (drop l.label-index l.labels)) ≡ case_count (map label_shape l.labels);
  few : l.count ≤ l.label-index;
}
