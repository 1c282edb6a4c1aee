use Rattle.std.proofs.Common.{◌≡◌, drop}
use Rattle.probe_rules.specs.Marks.{constants_at}
use Rattle.probe_expr.proofs.Lists.{nodes_onto}
use Rattle.probe_expr.proofs.selects.constants_at.Given as goal

abbrev pub invariant-loop-value : goal.invariant-loop-value
invariant-loop-value l = nodes_onto l.constants.items (constants_at l.pos l.op (drop l.value-index l.values)) ≡ constants_at l.pos l.op l.values
