use Rattle.std.specs.Prelude.{is_some}
use Rattle.std.proofs.Common.{◌≡◌, take, map}
use Rattle.c_tables.specs.Tables.{tables_shape}
use Rattle.c_types.proofs.units.bodies.Given as goal

-- those so far are told
abbrev pub invariant-loop-i : goal.invariant-loop-i
invariant-loop-i l = l.bodies.items ≡ map (λ f. is_some f.defined) (take l.i (tables_shape l.tables).functions)
