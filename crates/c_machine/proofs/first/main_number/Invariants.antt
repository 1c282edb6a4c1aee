use Rattle.std.proofs.Common.{◌≡◌, ◌+◌, drop}
use Rattle.c_tables.specs.Tables.{tables_shape}
use Rattle.c_tables.specs.Rows.{number_from}
use Rattle.c_tree.specs.Units.{is_main}
use Rattle.c_machine.proofs.first.main_number.Given as goal

-- the functions that are left decide
abbrev pub invariant-loop-i : goal.invariant-loop-i
invariant-loop-i l = number_from is_main (l.i + 1) (drop l.i (tables_shape l.tables).functions) ≡ number_from is_main 1 (tables_shape l.tables).functions
