-- The sort keeps the items of each line.
use Rattle.std.proofs.lemmas.List.Sorted.{All-permutation}
use Rattle.cover_show.specs.Missed.{IsPlaced}
use Rattle.cover_show.proofs.Gathering.{by_line}
use Rattle.cover_show.proofs.missed.missed_by_line.Goals as goal

pub returns-clause-lines : goal.returns-clause-lines
returns-clause-lines c =
    let placed = c.in_ok-missed.ensures.placed in
    by_line _ _ _ _ placed (All-permutation (IsPlaced c.args.items.now) _ _ c.sort_by_line.ensures.moves placed) c.in_ok-missed.ensures.gathered c.in_ok-sort_by_line.ensures.keeps
