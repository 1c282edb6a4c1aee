use Rattle.std.proofs.Common.{◌≡◌, ◌++◌, map, drop, string_bytes}
use Rattle.std.specs.List.{flat_map}
use Rattle.cover_show.specs.Shown.{shown_item}
use Rattle.cover_show.specs.Missed.{meant}
use Rattle.cover_show.proofs.showing.put_missed.Given as goal

abbrev pub invariant-loop-item : goal.invariant-loop-item
invariant-loop-item l = string_bytes l.words ++ flat_map shown_item (map (meant l.items) (drop l.item-index l.missed)) ≡ string_bytes l.fn.words ++ flat_map shown_item (map (meant l.items) l.missed)
