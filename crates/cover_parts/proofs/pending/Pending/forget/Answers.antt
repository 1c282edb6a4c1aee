-- What is left stands in order.
use Rattle.std.proofs.lemmas.List.Kept.{IsNonDecreasingBy-filter}
use Rattle.std.specs.Prelude.{not}
use Rattle.cover_parts.specs.declared.pending.Wait.{Wait}
use Rattle.cover_parts.specs.Waits.{is_for}
use Rattle.cover_parts.proofs.pending.Pending.forget.Goals as goal

pub invariant_of-self : goal.invariant_of-self
invariant_of-self c = rw c.forget_in.ensures (IsNonDecreasingBy-filter (λ (w : Wait). w.activation) (λ w. not (is_for c.args.decision c.args.activation w)) c.self.inside.waits.items c.self.invariant)
