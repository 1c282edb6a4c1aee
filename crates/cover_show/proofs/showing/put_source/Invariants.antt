use Rattle.std.proofs.Common.{◌≡◌, ◌+◌, ◌≤◌, ◌++◌, length, map}
use Rattle.std.specs.List.{All}
use Rattle.cover_show.specs.Shown.{lines_in, shown_behind}
use Rattle.cover_show.specs.Missed.{meant, IsPlaced, Rises}
use Rattle.cover_show.proofs.showing.put_source.Given as goal

abbrev pub invariant-loop-later : goal.invariant-loop-later
invariant-loop-later l = record {
  fits : l.number + length l.rest ≤ length l.text;
  rises : Rises (l.number + 1) l.later;
  placed : All (IsPlaced l.items) l.later;
  shown : l.out.items ++ shown_behind l.number (lines_in l.rest) (map (meant l.items) l.later) ≡ l.fn.out.items ++ shown_behind 0 (lines_in l.text) (map (meant l.items) l.missed);
}

abbrev pub decreases-loop-later : goal.decreases-loop-later
decreases-loop-later l = length l.rest
