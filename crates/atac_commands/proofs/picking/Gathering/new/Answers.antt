-- No run was gathered yet.
use Rattle.std.proofs.Common.{refl, ap, ◌∙◌}
use Rattle.c_events.specs.Owners.{owner_in}
use Rattle.atac_commands.proofs.picking.Gathering.new.Goals as goal

pub returns : goal.returns
returns c = λ P limit h. record {
  simulates = h.simulates;
  owners = λ n. ap (λ o. owner_in o n) c.new.ensures.owners ∙ h.owners n;
  listed = refl;
  each = rw c.new-2.ensures.items tt;
  all_show = c.new-3.ensures;
}
