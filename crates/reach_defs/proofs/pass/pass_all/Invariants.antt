use Rattle.std.proofs.Common.{◌≡◌, ◌<◌, ◌≤◌, true, false, length}
use Rattle.reach_defs.specs.Held.{held_count}
use Rattle.reach_defs.specs.Passing.{Passed}
use Rattle.reach_defs.proofs.pass.pass_all.Given as goal

abbrev pub invariant-loop-i : goal.invariant-loop-i
invariant-loop-i l = record {
  height : l.held.height ≡ length l.rows;
  width : l.held.width ≡ length l.marks;
  pushed : Passed l.rows l.marks l.from l.to l.fn.held l.held l.i;
  count : held_count l.fn.held ≤ held_count l.held;
  more : l.grown ≡ true → held_count l.fn.held < held_count l.held;
  same : l.grown ≡ false → l.held ≡ l.fn.held;
}
