use Rattle.std.proofs.Common.{◌≡◌, take, map}
use Rattle.c_syntax.specs.View.{type_of}
use Rattle.c_checker.proofs.functions.copies.Given as goal

-- those so far are copied
abbrev pub invariant-loop-i : goal.invariant-loop-i
invariant-loop-i l = map type_of l.all.items ≡ map type_of (take l.i l.kinds)
