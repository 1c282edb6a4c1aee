-- The lines, and then the totals.
use Rattle.cover_show.proofs.Steps.{whole}
use Rattle.cover_show.proofs.showing.show.Goals as goal

pub returns : goal.returns
returns c =
    whole _ _ _ _ _ _ _ _ _ _ _ _ c.new-out.ensures.items c.deref.ensures.value c.in_ok-missed.ensures.lines c.in_ok-put_source.ensures c.clear.ensures.bytes c.in_ok-put_totals.ensures c.as_bytes.ensures.value c.in_ok-extend_from_slice.ensures.items
