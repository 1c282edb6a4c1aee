use Rattle.std.proofs.Common.{ℕ, take}
use Rattle.c_syntax.specs.View.{declarator_list}
use Rattle.c_tables.specs.Tables.{TablesShape}
use Rattle.c_walk.specs.Units.{define_declarators}
use Rattle.flow_rows.specs.Counts.{Counted}
use Rattle.flow_graph.proofs.counting.count_names.Given as goal

abbrev pub invariant-loop-name : goal.invariant-loop-name
invariant-loop-name l = (t : TablesShape) (f : ℕ) → Counted l.fn.numbers l.numbers (λ c w. define_declarators t f (declarator_list (take l.name-index l.names)) w)
