-- A text that has no list, and one that has.
use Rattle.std.proofs.Common.{refl}
use Rattle.atac_programs.proofs.Reading.{itemise_refused, itemise_given}
use Rattle.atac_programs.proofs.listing.list.Goals as goal

pub returns-in-Refuses : goal.returns-in-Refuses
returns-in-Refuses c = itemise_refused _ c.in-Refuses.said _ _ c.in-Refuses.is refl c.in_ok-said.ensures

pub returns : goal.returns
returns c =
    let h = itemise_given _ c.in-Has.field-0 c.in-Has.field-1 c.in-Has.items _ _ c.in-Has.is refl c.in_ok-said.ensures in
    record { accepted = h.sites.accepted; items = c.in-Has.items; has = h.has; text_is = c.in_ok-list_text-in-Has.ensures }
