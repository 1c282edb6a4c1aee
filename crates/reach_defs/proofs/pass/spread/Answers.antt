use Rattle.std.proofs.Common.{◌∙◌, ◌+◌, ◌<◌, List, ℕ, length, Contains, subst, sym, ap, get_or}
use Rattle.std.proofs.lemmas.List.Elements.{Contains-get_or}
use Rattle.reach_defs.specs.Passing.{Spread}
use Rattle.reach_defs.proofs.Spreading.{spread_same, spread_more}
use Rattle.reach_defs.proofs.pass.spread.Goals as goal
use Rattle.reach_defs.proofs.pass.spread.Goals.{then-pass_all+in_ok-put, else-pass_all}

pub pass_all-requires-clause-to : goal.pass_all-requires-clause-to
pass_all-requires-clause-to c = c.requires.in_range c.args.from (get_or c.args.next.now c.loop-to.to-index 0) (subst (λ l. Contains l (get_or c.args.next.now c.loop-to.to-index 0)) c.requires.next (Contains-get_or c.args.next.now c.loop-to.to-index 0 c.loop-to-test.true))

pub loop-to-preserved : goal.loop-to-preserved
loop-to-preserved c =
    let to = get_or c.args.next.now c.loop-to.to-index 0 in
    let at = ap (λ l. get_or l c.loop-to.to-index 0) c.requires.next in
    let lt : to < length c.args.rows.now = c.requires.in_range c.args.from to (subst (λ l. Contains l to) c.requires.next (Contains-get_or c.args.next.now c.loop-to.to-index 0 c.loop-to-test.true)) in
    let Now : List ℕ → Type 0 = λ l. Spread c.args.rows.now c.args.marks.now c.args.from c.args.held.now c.args.worklist.now.queue c.pass_all.new.held l (c.loop-to.to-index + 1) in
    elim c.if-pass_all.branch [
      | then-pass_all+in_ok-put w ↦ record {
        spread = subst Now (ap (λ x. x.queue) (sym w.worklist-is)) (spread_more c.args.rows.now c.args.marks.now c.args.from to c.loop-to.to-index c.args.held.now c.loop-to.held c.pass_all.new.held c.args.worklist.now.queue c.loop-to.worklist.queue w.put.new.self.queue at c.loop-to.invariant.spread c.pass_all.ensures.passed (c.pass_all.ensures.more w.if-pass_all.true) lt w.in_ok-put.ensures.queue);
        rows = ap (λ x. x.rows) w.worklist-is ∙ w.in_ok-put.ensures.rows ∙ c.loop-to.invariant.rows;
      }
      | else-pass_all w ↦ record {
        spread = subst Now (ap (λ x. x.queue) (sym w.worklist-is)) (spread_same c.args.rows.now c.args.marks.now c.args.from to c.loop-to.to-index c.args.held.now c.loop-to.held c.pass_all.new.held c.args.worklist.now.queue c.loop-to.worklist.queue at c.loop-to.invariant.spread c.pass_all.ensures.passed (c.pass_all.ensures.same w.if-pass_all.false));
        rows = ap (λ x. x.rows) w.worklist-is ∙ c.loop-to.invariant.rows;
      }
    ]

pub put-requires : goal.put-requires
put-requires c =
    let to = get_or c.args.next.now c.loop-to.to-index 0 in
    let lt : to < length c.args.rows.now = c.requires.in_range c.args.from to (subst (λ l. Contains l to) c.requires.next (Contains-get_or c.args.next.now c.loop-to.to-index 0 c.loop-to-test.true)) in
    subst (λ n. to < n) (sym (c.loop-to.invariant.rows ∙ c.requires.worklist)) lt
