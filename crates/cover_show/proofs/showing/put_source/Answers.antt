-- Each line is put with the items on it.
use Rattle.std.proofs.Common.{arith}
use Rattle.cover_show.proofs.Steps.{placed_before, placed_behind, start, step}
use Rattle.cover_show.proofs.showing.put_source.Goals as goal

pub loop-later-init : goal.loop-later-init
loop-later-init c = record {
  fits = omega arith;
  rises = c.split_line.ensures.behind;
  placed = placed_behind _ _ _ _ c.split_line.ensures.parts c.requires.placed;
  shown = start _ _ _ _ _ _ c.requires.placed c.split_line.ensures.parts c.split_line.ensures.here;
}

pub put_line-requires : goal.put_line-requires
put_line-requires c = placed_before _ _ _ _ c.split_line-in-loop-later.ensures.parts c.loop-later.invariant.placed

pub loop-later-preserved : goal.loop-later-preserved
loop-later-preserved c =
    let parted = c.split_line-in-loop-later.ensures in
    let kept = c.loop-later.invariant in
    record {
      fits = omega (arith, c.cut_line.ensures.shorter, kept.fits);
      rises = parted.behind;
      placed = placed_behind _ _ _ _ parted.parts kept.placed;
      shown = step _ _ _ _ _ _ _ _ _ _ _ kept.placed parted.parts parted.here parted.behind c.cut_line.ensures.cut c.in_ok-put_line.ensures kept.shown;
    }
