use Rattle.std.proofs.Common.{◌≡◌, ◌+◌, drop, map}
use Rattle.c_syntax.specs.View.{type_of}
use Rattle.c_tree.specs.State.{is_function}
use Rattle.c_tables.specs.Rows.{number_from}
use Rattle.c_tables.specs.Tables.{tables_shape}
use Rattle.c_checker.proofs.functions.function_number.Given as goal

-- the functions that are left decide
abbrev pub invariant-loop-i : goal.invariant-loop-i
invariant-loop-i l =
    let test = is_function l.name (type_of l.gives) (map type_of l.params) in
    number_from test (l.i + 1) (drop l.i (tables_shape l.tables).functions) ≡ number_from test 1 (tables_shape l.tables).functions
