use Rattle.std.proofs.Common.{suc, ◌-◌}
use Rattle.c_tables.specs.Tables.{TablesShape}
use Rattle.c_compute.specs.Sizes.{IsMeasured}
use Rattle.c_compute.proofs.layout.reach_size.Given as goal

abbrev pub invariant-loop-sizes : goal.invariant-loop-sizes
invariant-loop-sizes l = (t : TablesShape) → IsMeasured t l.fn.sizes.items → IsMeasured t l.sizes.items

abbrev pub decreases-loop-sizes : goal.decreases-loop-sizes
decreases-loop-sizes l = suc l.variable - l.sizes.len
