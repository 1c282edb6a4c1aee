use Rattle.std.proofs.Common.{◌≡◌, take, map}
use Rattle.c_syntax.specs.View.{type_of}
use Rattle.c_tables.specs.Tables.{field_shape}
use Rattle.c_checker_parts.proofs.structures.kinds_of.Given as goal

-- those so far are copied
abbrev pub invariant-loop-i : goal.invariant-loop-i
invariant-loop-i l = map type_of l.kinds.items ≡ map (λ f. f.kind) (map field_shape (take l.i l.fields))
