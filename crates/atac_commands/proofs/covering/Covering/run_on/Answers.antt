-- The section of the run, and the facts with what it covered.
use Rattle.std.proofs.Common.{ap, ◌∙◌, ℕ}
use Rattle.std.specs.Prelude.{◌||◌}
use Rattle.c_events.specs.Owners.{owner_in}
use Rattle.atac_facts.specs.Sets.{holds}
use Rattle.c_meaning.specs.Sources.{source_of}
use Rattle.probe_laws.specs.Owners.{owner_in_program}
use Rattle.cover_law.specs.Covers.{covers}
use Rattle.atac_programs.proofs.Running.{same_section, same_log, collected}
use Rattle.atac_commands.proofs.covering.Covering.run_on.Goals as goal

pub returns-clause-section : goal.returns-clause-section
returns-clause-section c = λ P items has h.
    let w = c.in_ok-ended.ensures.run in
    c.in_ok-section.ensures ∙ same_section P (source_of c.args.self.now.probed) c.args.input.now c.args.limit c.in_ok-ended.ended w.0 h.simulates w.2 c.args.name.now

pub returns-clause-stands : goal.returns-clause-stands
returns-clause-stands c = λ P items has h.
    let w = c.in_ok-ended.ensures.run in
    let owners = λ (n : ℕ). ap (λ o. owner_in o n) (c.run.ensures.goes_by ∙ c.begin_run.ensures.owners) ∙ h.owners n in
    record {
      simulates = h.simulates;
      owners = owners;
      listed = h.listed;
      facts = λ f.
          c.in_ok-union_into.ensures.ok f
          ∙ ap (λ b. b || holds c.facts.result.now f) (h.facts f)
          ∙ ap (λ b. has f || b) (collected P _ w.0 _ f owners (c.facts.ensures w.0 (w.1 _ c.begin_run.ensures.stands) f) ∙ ap (λ l. covers (owner_in_program P) l f) (same_log P (source_of c.args.self.now.probed) c.args.input.now c.args.limit c.in_ok-ended.ended w.0 h.simulates w.2));
    }
