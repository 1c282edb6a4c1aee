use Rattle.std.proofs.Common.{◌≡◌, ◌≤◌, ℤ, true, length, map, drop}
use Rattle.std.specs.List.{list_any}
use Rattle.std.specs.Ordering.{int_eq}
use Rattle.c_tree.specs.Operators.{is_among, wrapped, differ}
use Rattle.c_checker.proofs.selects.differ.Given as goal

-- those behind differ, and they are what was seen
abbrev pub invariant-loop-left : goal.invariant-loop-left
invariant-loop-left l = record {
  within : l.left ≤ length l.values;
  apart : differ l.kind (drop l.left l.values) ≡ true;
  seen : (v : ℤ) → list_any (int_eq v) l.seen.keys ≡ is_among v (map (wrapped l.kind) (drop l.left l.values));
}

abbrev pub decreases-loop-left : goal.decreases-loop-left
decreases-loop-left l = l.left
