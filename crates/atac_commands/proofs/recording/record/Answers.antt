-- The run is added, by what the collector met.
use Rattle.std.proofs.Common.{ap, sym, ◌∙◌, ℕ, ◌+◌, min, if◌then◌else◌}
use Rattle.c_events.specs.Owners.{owner_in}
use Rattle.atac_facts.specs.Sums.{most}
use Rattle.atac_facts.specs.Tallies.{count_of}
use Rattle.c_meaning.specs.Sources.{source_of}
use Rattle.c_meaning.specs.Runs.{Outcome}
use Rattle.cover_law.specs.Covers.{covers}
use Rattle.atac_programs.specs.Programs.{owner_in_probed}
use Rattle.atac_programs.proofs.Running.{collected_by}
use Rattle.atac_commands.proofs.recording.record.Goals as goal

pub returns-clause-more : goal.returns-clause-more
returns-clause-more c = λ owned.
    let w = c.in_ok-ended.ensures.run in
    let P = source_of c.args.recordable.program in
    let owners = λ (n : ℕ). ap (λ o. owner_in o n) (c.run.ensures.goes_by ∙ c.new-collector.ensures.owners) ∙ owned n in
    let a = c.in_ok-add_run.ensures in
    record {
      digest = c.add_run.ensures.digest;
      runs = a.runs;
      old_runs = c.add_run.ensures.old_runs;
      counts = λ f fit.
          a.counts f fit
          ∙ ap (λ b. min (count_of c.args.trace.now.tally f + (if b then 1 else 0)) most)
          (collected_by (owner_in_probed P) _ w.0 _ f owners (c.facts.ensures w.0 (w.1 _ c.new-collector.ensures.stands) f) ∙ ap (λ l. covers (owner_in_probed P) l f) (sym (ap (λ (o : Outcome). o.log) w.2)));
      rows = a.rows;
    }
