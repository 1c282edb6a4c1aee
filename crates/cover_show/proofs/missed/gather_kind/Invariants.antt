use Rattle.std.proofs.Common.{◌≡◌, ◌++◌, map, take}
use Rattle.std.specs.List.{All}
use Rattle.atac_facts.specs.Sets.{holds}
use Rattle.cover_report.specs.ItemTexts.{of_kind}
use Rattle.cover_show.specs.Shown.{uncovered}
use Rattle.cover_show.specs.Missed.{meant, IsPlaced}
use Rattle.cover_show.proofs.missed.gather_kind.Given as goal

abbrev pub invariant-loop-place : goal.invariant-loop-place
invariant-loop-place l = record {
  placed : All (IsPlaced l.items) l.missed.items;
  gathered : map (meant l.items) l.missed.items ≡ map (meant l.items) l.fn.missed.items ++ uncovered (holds l.facts) (take l.place (of_kind l.items l.kind));
}
