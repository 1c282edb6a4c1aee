use Rattle.std.proofs.Common.{◌≡◌, ◌-◌, ◌<◌, ◌≤◌, length, drop, None, map}
use Rattle.c_store.specs.Cells.{find, slot_of}
use Rattle.c_store.proofs.store.searched.Given as goal

abbrev pub invariant-loop-low : goal.invariant-loop-low
invariant-loop-low l = record {
  low_high : l.low ≤ l.high;
  within : l.high ≤ length l.instances;
  look : l.low < l.high → (l.low ≤ l.look) × (l.look < l.high);
  before : find l.number (map slot_of (drop l.low l.instances)) ≡ None → find l.number (map slot_of l.instances) ≡ None;
  after : find l.number (map slot_of (drop l.high l.instances)) ≡ None;
}

abbrev pub decreases-loop-low : goal.decreases-loop-low
decreases-loop-low l = l.high - l.low
