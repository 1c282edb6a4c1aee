use Rattle.std.proofs.Common.{◌≡◌}
use Rattle.c_scopes.specs.Rows.{rows_of}
use Rattle.c_tree.specs.Declaring.{with_constants}
use Rattle.c_types.proofs.functions.declare_constants.Given as goal

-- the names that are left decide
abbrev pub invariant-loop-name : goal.invariant-loop-name
invariant-loop-name l = with_constants (rows_of l.name-iterator) l.names ≡ with_constants l.fn.listed l.fn.names
