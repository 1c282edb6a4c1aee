-- A text that is not accepted; and a program that is.
use Rattle.std.proofs.Common.{refl, subst}
use Rattle.probe_rules.specs.Simulation.{Simulates}
use Rattle.c_meaning.specs.Calls.{Source}
use Rattle.c_meaning.specs.Sources.{source_of}
use Rattle.atac_programs.proofs.Reading.{check_refused, check_accepts}
use Rattle.atac_programs.proofs.program.read_to_watch.Goals as goal

pub returns-in-Refuses : goal.returns-in-Refuses
returns-in-Refuses c = check_refused _ c.in-Refuses.said _ _ c.in-Refuses.is refl c.in_ok-said.ensures

pub returns : goal.returns
returns c =
    let h = check_accepts _ c.in-Accepts.program c.in-Accepts.sites _ _ c.in-Accepts.is refl c.in_ok-said.ensures in
    record {
      accepted = h.accepted;
      simulates = subst (λ (P : Source). Simulates (source_of c.in_ok-probed.probed) P) h.program c.in_ok-probed.ensures.simulates;
    }
