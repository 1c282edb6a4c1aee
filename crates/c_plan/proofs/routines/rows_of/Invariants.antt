use Rattle.std.proofs.Common.{◌≡◌, ℕ, drop, map, None}
use Rattle.std.specs.Prelude.{get_or}
use Rattle.c_syntax.specs.View.{external_shape}
use Rattle.c_tables.specs.Tables.{tables_shape}
use Rattle.c_plan.specs.Routines.{row_or, row_from}
use Rattle.c_plan.proofs.routines.rows_of.Given as goal

abbrev pub invariant-loop-i : goal.invariant-loop-i
invariant-loop-i l = (f : ℕ) → row_or (get_or l.rows.items f None) (row_from (tables_shape l.tables) f l.i l.before (map external_shape (drop l.i l.externals))) ≡ row_from (tables_shape l.tables) f 0 0 (map external_shape l.externals)
