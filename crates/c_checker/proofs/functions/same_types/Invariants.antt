use Rattle.std.proofs.Common.{◌≡◌, drop, map}
use Rattle.c_syntax.specs.View.{type_of}
use Rattle.c_tree.specs.State.{same_types}
use Rattle.c_checker.proofs.functions.same_types.Given as goal

-- the types that are left decide
abbrev pub invariant-loop-i : goal.invariant-loop-i
invariant-loop-i l = same_types (map type_of (drop l.i l.a)) (map type_of (drop l.i l.b)) ≡ same_types (map type_of l.a) (map type_of l.b)
