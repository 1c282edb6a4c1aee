-- A text that is no program; one without a program line; and one with it.
use Rattle.std.proofs.Common.{refl, sym}
use Rattle.c_meaning.specs.Sources.{source_of}
use Rattle.atac_programs.specs.Programs.{not_read, not_probed}
use Rattle.atac_programs.proofs.Reading.{unread, runnable, probed_owners}
use Rattle.atac_programs.proofs.recordable.read_to_record.Goals as goal

pub returns-in-Refuses : goal.returns-in-Refuses
returns-in-Refuses c = not_read (unread _ c.in-Refuses.said _ _ c.in-Refuses.is refl c.in_ok-said.ensures)

pub returns-in_default : goal.returns-in_default
returns-in_default c =
    not_probed (source_of c.in-Runs.program) (runnable _ c.in-Runs.program _ _ c.in-Runs.is refl c.in_ok-said.ensures) (sym c.in_default.ensures.digest) c.in_ok-said-2.ensures

pub returns : goal.returns
returns c =
    record {
      read = runnable _ c.in-Runs.program _ _ c.in-Runs.is refl c.in_ok-said.ensures;
      line = sym c.in-Some.ensures.digest;
      owners = probed_owners (source_of c.in-Runs.program) c.in_ok-owners.owners c.in_ok-owners.ensures.whole c.in_ok-owners.ensures.owners;
    }
