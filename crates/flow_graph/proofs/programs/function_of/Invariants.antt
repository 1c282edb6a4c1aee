use Rattle.std.proofs.Common.{◌≡◌, ◌+◌, drop}
use Rattle.c_tables.specs.Rows.{number_from}
use Rattle.c_tables.specs.Tables.{tables_shape}
use Rattle.c_walk.specs.Units.{has_body}
use Rattle.flow_graph.proofs.programs.function_of.Given as goal

-- the functions that are left decide
abbrev pub invariant-loop-i : goal.invariant-loop-i
invariant-loop-i l =
    number_from (has_body l.name) (l.i + 1) (drop l.i (tables_shape l.tables).functions) ≡ number_from (has_body l.name) 1 (tables_shape l.tables).functions
