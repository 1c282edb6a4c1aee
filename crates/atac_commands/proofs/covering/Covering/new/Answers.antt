-- A cover without a run.
use Rattle.std.proofs.Common.{refl, ap, ◌∙◌}
use Rattle.c_events.specs.Owners.{owner_in}
use Rattle.atac_commands.proofs.covering.Covering.new.Goals as goal

pub returns : goal.returns
returns c = λ P h. record {
  simulates = h.simulates;
  owners = λ n. ap (λ o. owner_in o n) c.new.ensures.owners ∙ h.owners n;
  listed = refl;
  facts = c.new-2.ensures;
}
