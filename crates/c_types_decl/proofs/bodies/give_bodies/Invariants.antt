use Rattle.std.proofs.Common.{◌≡◌, length}
use Rattle.c_tables.specs.Tables.{tables_shape}
use Rattle.c_tree.specs.Declaring.{with_bodies}
use Rattle.c_types_decl.proofs.Named.{bodies_from}
use Rattle.c_types_decl.proofs.bodies.give_bodies.Given as goal

-- the functions that are left lead to the same
abbrev pub invariant-loop-i : goal.invariant-loop-i
invariant-loop-i l = record {
  same : bodies_from l.name l.i (tables_shape l.tables) ≡ with_bodies l.name (tables_shape l.fn.tables);
  count : length (tables_shape l.tables).functions ≡ l.i-end;
}
