use Rattle.std.proofs.Common.{take, sym, subst}
use Rattle.c_sites_probes.specs.Owners.{AreOwners}
use Rattle.c_sites_probes.proofs.Rows.{more_taken}
use Rattle.c_sites_probes.proofs.owners.owners_of.Goals as goal

pub loop-owned-preserved : goal.loop-owned-preserved
loop-owned-preserved c =
    let at = c.loop-owned in
    let found = c.args.found.now in
    let next = c.put_owner.ensures.owners (take at.owned-index found) at.invariant.owners in
    record {
      whole = c.put_owner.ensures.count;
      owners = subst (λ l. AreOwners l c.put_owner.new.rows.items) (sym (more_taken found at.owned-index (0, 0) c.loop-owned-test.true)) next;
    }
