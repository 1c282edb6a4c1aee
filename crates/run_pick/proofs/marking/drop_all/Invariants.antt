use Rattle.std.proofs.Common.{◌≡◌, ◌++◌, replicate, false}
use Rattle.run_pick.proofs.marking.drop_all.Given as goal

abbrev pub invariant-loop-i : goal.invariant-loop-i
invariant-loop-i l = l.marks.items ≡ l.fn.marks.items ++ replicate l._i false
