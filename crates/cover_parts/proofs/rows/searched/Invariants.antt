-- It stands between the two bounds, or nowhere.
use Rattle.std.proofs.Common.{◌≡◌, ◌-◌, ◌<◌, ◌≤◌, length, drop, None, map}
use Rattle.cover_parts.specs.Rows.{find, slot_of}
use Rattle.cover_parts.proofs.rows.searched.Given as goal

abbrev pub invariant-loop-low : goal.invariant-loop-low
invariant-loop-low l = record {
  low_high : l.low ≤ l.high;
  within : l.high ≤ length l.rows;
  look : l.low < l.high → (l.low ≤ l.look) × (l.look < l.high);
  before : find l.number (map slot_of (drop l.low l.rows)) ≡ None → find l.number (map slot_of l.rows) ≡ None;
  after : find l.number (map slot_of (drop l.high l.rows)) ≡ None;
}

abbrev pub decreases-loop-low : goal.decreases-loop-low
decreases-loop-low l = l.high - l.low
