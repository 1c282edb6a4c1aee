use Rattle.std.proofs.Common.{take, map}
use Rattle.c_syntax.specs.View.{external_shape}
use Rattle.c_tables.specs.Tables.{tables_shape}
use Rattle.flow_graph.proofs.Finding.{FoundIn}
use Rattle.flow_graph.proofs.programs.graph.Given as goal

abbrev pub invariant-loop-external : goal.invariant-loop-external
invariant-loop-external l = FoundIn (tables_shape l.tables) l.function l.numbers (map external_shape (take l.external-index l.external-items)) l.found
