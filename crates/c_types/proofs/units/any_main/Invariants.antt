use Rattle.std.proofs.Common.{◌≡◌, drop}
use Rattle.c_tables.specs.Tables.{tables_shape}
use Rattle.c_tree.specs.Units.{any_main}
use Rattle.c_types.proofs.units.any_main.Given as goal

-- the functions that are left decide
abbrev pub invariant-loop-i : goal.invariant-loop-i
invariant-loop-i l = any_main (drop l.i (tables_shape l.tables).functions) ≡ any_main (tables_shape l.tables).functions
