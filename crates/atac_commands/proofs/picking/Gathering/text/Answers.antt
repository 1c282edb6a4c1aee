-- Which runs are kept, by what each shows.
use Rattle.std.proofs.Common.{ap, ◌∙◌, subst, map}
use Rattle.std.specs.Prelude.{string_bytes}
use mathlib.Core.Path.{fun_ext}
use Rattle.atac_facts.specs.Sets.{holds}
use Rattle.atac_base.specs.Items.{ItemLists}
use Rattle.run_pick.specs.Kept.{facts_of, AreKept, AreEnough}
use Rattle.run_pick.specs.Lines.{pick_text}
use Rattle.atac_commands.proofs.picking.Gathering.text.Goals as goal

pub returns : goal.returns
returns c = λ P items limit all h.
    let k = c.in_ok-picks.ensures in
    let runs = c.as_slice.ensures.value in
    record {
      marks = c.in_ok-picks.picks;
      picked = record {
        runs = c.args.self.now.runs.items;
        shown = h.each;
        kept = subst (λ (i : ItemLists). AreKept (facts_of i) c.args.self.now.runs.items c.in_ok-picks.picks) h.listed (subst (λ r. AreKept (facts_of c.args.self.now.items) r c.in_ok-picks.picks) runs k.kept);
        enough = subst (λ (i : ItemLists). AreEnough (facts_of i) c.args.self.now.runs.items c.in_ok-picks.picks) h.listed (subst (λ r. AreEnough (facts_of c.args.self.now.items) r c.in_ok-picks.picks) runs k.enough);
      };
      is =
          c.in_ok-text.ensures
          ∙ ap (λ (i : ItemLists). pick_text c.in_ok-picks.picks (map string_bytes c.args.inputs.now) i (λ f. holds c.args.self.now.all f)) h.listed
          ∙ ap (pick_text c.in_ok-picks.picks (map string_bytes c.args.inputs.now) items) (fun_ext h.all_show);
    }
