use Rattle.std.proofs.Common.{◌≡◌, ◌≤◌, take}
use Rattle.std.specs.List.{count_by}
use Rattle.run_pick.proofs.lines.count_kept.Given as goal

abbrev pub invariant-loop-i : goal.invariant-loop-i
invariant-loop-i l = record {
  counted : l.kept ≡ count_by (λ mark. mark) (take l.i l.picks);
  few : l.kept ≤ l.i;
}
