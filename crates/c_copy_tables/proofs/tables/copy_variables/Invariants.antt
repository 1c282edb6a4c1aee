use Rattle.std.proofs.Common.{◌≡◌, take}
use Rattle.c_tables.specs.Tables.{tables_shape}
use Rattle.c_copy_tables.proofs.tables.copy_variables.Given as goal

abbrev pub invariant-loop-i : goal.invariant-loop-i
invariant-loop-i l = tables_shape l.into ≡ record (tables_shape l.initial.into) { variables = take l.i (tables_shape l.from).variables }
