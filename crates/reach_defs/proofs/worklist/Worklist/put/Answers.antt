use Rattle.std.proofs.Common.{◌<◌, inl, refl, subst, sym, arith, vec_len}
use Rattle.std.specs.Prelude.{Contains}
use Rattle.reach_defs.proofs.Putting.{waits_at}
use Rattle.reach_defs.proofs.worklist.Worklist.put.Goals as goal

pub returns-then-index-clause-queue : goal.returns-then-index-clause-queue
returns-then-index-clause-queue c =
    let lt : c.args.row < vec_len c.self.inside.waiting = subst (λ w. c.args.row < w.rows) (sym c.self.view_is) c.requires in
    inl (subst (λ w. Contains w.queue c.args.row) c.self.view_is (waits_at c.self.inside.queue.items c.self.inside.waiting.items c.args.row c.index.result.now c.self.invariant (omega (arith, lt, c.self.inside.waiting.ok)) c.index.ensures c.if-index.true), refl)
