-- A text that is not accepted; a program's items; and one whose pairs are too many.
use Rattle.atac_programs.specs.Programs.{not_accepted}
use Rattle.std.proofs.Common.{refl}
use Rattle.atac_programs.proofs.Reading.{check_refused, check_accepts, has_items, unlisted_of}
use Rattle.atac_programs.proofs.listing.itemise.Goals as goal

pub returns-in-Refuses : goal.returns-in-Refuses
returns-in-Refuses c = not_accepted (check_refused _ c.in-Refuses.said _ _ c.in-Refuses.is refl c.in_ok-said.ensures)

pub returns-in-Ok : goal.returns-in-Ok
returns-in-Ok c =
    let h = check_accepts _ c.in-Accepts.program c.in-Accepts.sites _ _ c.in-Accepts.is refl c.in_ok-said.ensures in
    record { sites = h; has = has_items _ c.in-Accepts.program c.in-Accepts.sites h c.in-Ok.items c.in-Ok.ensures.items c.in-Ok.ensures.misses_none }

pub returns-in-Err-TooManyPairs : goal.returns-in-Err-TooManyPairs
returns-in-Err-TooManyPairs c =
    let h = check_accepts _ c.in-Accepts.program c.in-Accepts.sites _ _ c.in-Accepts.is refl c.in_ok-said.ensures in
    unlisted_of _ _ c.in-Accepts.program c.in-Accepts.sites h (c.in-Err-TooManyPairs.ensures.more c.in-Err-TooManyPairs.field-0-is) c.in_ok-said-in-Err-TooManyPairs.ensures
