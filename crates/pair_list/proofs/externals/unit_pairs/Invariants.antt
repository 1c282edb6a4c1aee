use Rattle.c_syntax.specs.View.{unit_shape}
use Rattle.c_tables.specs.Tables.{tables_shape}
use Rattle.pair_list.specs.Runs.{AreSoFar}
use Rattle.pair_list.proofs.externals.unit_pairs.Given as goal

abbrev pub invariant-loop-k : goal.invariant-loop-k
invariant-loop-k l = AreSoFar (tables_shape l.tables) (unit_shape l.unit) l.sites l.k l.numbers l.pairs.items l.items
