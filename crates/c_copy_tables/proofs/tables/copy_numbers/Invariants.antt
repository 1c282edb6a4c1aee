use Rattle.std.proofs.Common.{◌≡◌, take}
use Rattle.c_copy_tables.proofs.tables.copy_numbers.Given as goal

abbrev pub invariant-loop-i : goal.invariant-loop-i
invariant-loop-i l = l.copied ≡ take l.i l.list
