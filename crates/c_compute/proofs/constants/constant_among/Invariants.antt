use Rattle.std.proofs.Common.{◌≡◌, ◌+◌, drop, Some}
use Rattle.c_syntax.specs.View.{node_list}
use Rattle.c_meaning.specs.Constants.{select_constants, number_among}
use Rattle.c_compute.proofs.constants.constant_among.Given as goal

abbrev pub invariant-loop-node : goal.invariant-loop-node
invariant-loop-node l =
    l.passed + number_among l.value (select_constants (Some l.kind) (node_list (drop l.node-index l.constants))) ≡ number_among l.value (select_constants (Some l.kind) (node_list l.constants))
