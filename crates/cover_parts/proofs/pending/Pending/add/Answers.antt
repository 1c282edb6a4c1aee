-- The pair is put behind those of its activation.
use Rattle.std.proofs.Common.{◌≡◌, subst, List}
use Rattle.std.specs.Prelude.{◌↔◌, ◌⊎◌}
use Rattle.std.specs.List.{Contains}
use Rattle.cover_parts.specs.declared.pending.Wait.{Wait}
use Rattle.cover_parts.specs.Waits.{Bounds}
use Rattle.cover_parts.proofs.Order.{inserted, in_order_insert}
use Rattle.cover_parts.proofs.pending.Pending.add.Goals as goal
use Rattle.cover_parts.proofs.pending.Pending.add.Goals.{in-Ok, in-Err}

pub invariant_of-self : goal.invariant_of-self
invariant_of-self c = elim c.match-insert.branch [
  | in-Ok w ↦
      let b = subst (λ (l : List Wait). Bounds c.args.wait.activation l c.bounds-low.result.0 c.bounds-low.result.1) c.deref.ensures.value c.bounds-low.ensures in
      rw w.in-Ok.ensures.items (in_order_insert c.args.wait c.self.inside.waits.items c.bounds-low.result.0 c.bounds-low.result.1 b c.self.invariant)
  | in-Err w ↦ rw w.in-Err.ensures.items c.self.invariant
]

pub returns-clause-added : goal.returns-clause-added
returns-clause-added c = elim c.match-insert.branch [
  | in-Ok w ↦ rw w.result-is (λ y. subst (λ (l : List Wait). Contains c.insert.new.self.items y ↔ (Contains l y ⊎ (y ≡ c.args.wait))) c.self.view_is (inserted c.self.inside.waits.items c.insert.new.self.items c.bounds-low.result.1 c.args.wait w.in-Ok.ensures.items y))
  | in-Err w ↦ rw w.result-is tt
]
