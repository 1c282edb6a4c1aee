-- The facts of the run, beside those of the runs before it.
use Rattle.std.proofs.Common.{◌≡◌, ap, ◌∙◌, ℕ}
use Rattle.std.specs.Prelude.{◌||◌}
use Rattle.c_events.specs.Owners.{owner_in}
use Rattle.atac_facts.specs.declared.fact.Fact.{Fact}
use Rattle.atac_facts.specs.Sets.{holds}
use Rattle.c_meaning.specs.Sources.{source_of}
use Rattle.probe_laws.specs.Owners.{owner_in_program}
use Rattle.cover_law.specs.Covers.{covers}
use Rattle.atac_programs.specs.Programs.{shown, shown_by}
use Rattle.atac_programs.proofs.Running.{same_log, collected, shown_more}
use Rattle.atac_commands.proofs.Gathered.{are_shown_more}
use Rattle.atac_commands.proofs.picking.Gathering.run_on.Goals as goal

pub returns : goal.returns
returns c = λ P items all h.
    let w = c.in_ok-run.ensures.run in
    let owners = λ (n : ℕ). ap (λ o. owner_in o n) (c.run.ensures.goes_by ∙ c.begin_run.ensures.owners) ∙ h.owners n in
    let own : (f : Fact) → holds c.union_into.new.into f ≡ shown_by P c.args.limit c.args.input.now f =
    λ f. c.in_ok-union_into.ensures.ok f ∙ ap (λ b. b || holds c.facts.result.now f) (c.new-facts.ensures f)
    ∙ (collected P _ w.0 _ f owners (c.facts.ensures w.0 (w.1 _ c.begin_run.ensures.stands) f) ∙ ap (λ l. covers (owner_in_program P) l f) (same_log P (source_of c.args.self.now.probed) c.args.input.now c.args.limit _ w.0 h.simulates w.2)) in
    record {
      simulates = h.simulates;
      owners = owners;
      listed = h.listed;
      each = rw c.in_ok-push.ensures.items (are_shown_more P c.args.limit all _ c.args.input.now _ h.each own);
      all_show = λ f.
          c.in_ok-union_into-2.ensures.ok f
          ∙ ap (λ b. b || holds c.union_into.new.into f) (h.all_show f)
          ∙ ap (λ b. shown P c.args.limit all f || b) (own f)
          ∙ shown_more P c.args.limit all c.args.input.now f;
    }
