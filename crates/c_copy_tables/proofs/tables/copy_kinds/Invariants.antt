use Rattle.std.proofs.Common.{◌≡◌, map, take}
use Rattle.c_syntax.specs.View.{type_of}
use Rattle.c_copy_tables.proofs.tables.copy_kinds.Given as goal

abbrev pub invariant-loop-kind : goal.invariant-loop-kind
invariant-loop-kind l = map type_of l.copies.items ≡ map type_of (take l.kind-index l.kinds)
