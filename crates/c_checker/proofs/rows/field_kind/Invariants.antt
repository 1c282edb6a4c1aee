use Rattle.std.proofs.Common.{◌≡◌, drop, map}
use Rattle.c_tree.specs.State.{field_type}
use Rattle.c_tables.specs.Tables.{field_shape}
use Rattle.c_checker.proofs.rows.field_kind.Given as goal

-- the fields that are left decide
abbrev pub invariant-loop-i : goal.invariant-loop-i
invariant-loop-i l = field_type l.name (map field_shape (drop l.i l.fields)) ≡ field_type l.name (map field_shape l.fields)
