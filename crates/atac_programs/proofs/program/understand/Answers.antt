-- A text that is not accepted; and a program that is.
use Rattle.std.proofs.Common.{◌≡◌, ℕ, refl, subst}
use Rattle.c_events.specs.Owners.{owner_in}
use Rattle.c_syntax.specs.View.{unit_shape}
use Rattle.c_sites_probes.specs.Owned.{owned_in}
use Rattle.probe_rules.specs.Simulation.{Simulates}
use Rattle.probe_laws.specs.Owners.{owner_in_program}
use Rattle.c_meaning.specs.Calls.{Source}
use Rattle.c_meaning.specs.Sources.{source_of}
use Rattle.atac_programs.proofs.Reading.{itemise_refused, itemise_given, owned_by}
use Rattle.atac_programs.proofs.program.understand.Goals as goal

pub returns-in-Refuses : goal.returns-in-Refuses
returns-in-Refuses c = itemise_refused _ c.in-Refuses.said _ _ c.in-Refuses.is refl c.in_ok-said.ensures

pub returns : goal.returns
returns c =
    let h = itemise_given _ c.in-Has.program c.in-Has.sites c.in-Has.items _ _ c.in-Has.is refl c.in_ok-said.ensures in
    record {
      accepted = h.sites.accepted;
      holds = record {
        simulates = subst (λ (P : Source). Simulates (source_of c.in_ok-probed.probed) P) h.sites.program c.in_ok-probed.ensures.simulates;
        owners = subst (λ (P : Source). (n : ℕ) → owner_in c.in_ok-owners.owners n ≡ owner_in_program P n) h.sites.program (owned_by (source_of c.in-Has.program) c.in_ok-owners.owners (owned_in (unit_shape c.in_ok-probed.probed.unit)) h.sites.sites.clean c.in_ok-owners.ensures.whole c.in_ok-owners.ensures.owners c.in_ok-probed.ensures.owns);
      };
      has = h.has;
    }
