use Rattle.std.proofs.Common.{◌≡◌, ◌+◌, Some, refl, subst, arith}
use Rattle.std.specs.Prelude.{slice_get}
use Rattle.std.proofs.lemmas.Option.{slice_get_within}
use Rattle.pair_list.proofs.Rowing.{outcomes_more}
use Rattle.pair_list.proofs.kinds.put_outcomes.Goals as goal

pub loop-k-preserved : goal.loop-k-preserved
loop-k-preserved c =
    let decisions = c.args.sites.now.lists.decisions.items in
    let d = c.decision-decision.result.now in
    let at : slice_get decisions c.loop-k.k ≡ Some d = subst (λ n. slice_get decisions n ≡ Some d) (omega arith) c.decision-decision.ensures in
    let within = slice_get_within decisions c.loop-k.k d at in
    outcomes_more c.args.items.now c.loop-k.items c.put_labels.new.items decisions c.loop-k.k (c.loop-k.k + 1) d at (omega arith) refl c.loop-k.invariant c.in_ok-put_labels.ensures
