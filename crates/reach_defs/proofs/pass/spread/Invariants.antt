use Rattle.std.proofs.Common.{◌≡◌}
use Rattle.reach_defs.specs.Passing.{Spread}
use Rattle.reach_defs.proofs.pass.spread.Given as goal

abbrev pub invariant-loop-to : goal.invariant-loop-to
invariant-loop-to l = record {
  spread : Spread l.rows l.marks l.from l.fn.held l.fn.worklist.queue l.held l.worklist.queue l.to-index;
  rows : l.worklist.rows ≡ l.fn.worklist.rows;
}
