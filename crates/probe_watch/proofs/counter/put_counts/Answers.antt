-- The lines of one number more, and of all.
use Rattle.std.proofs.Common.{◌++◌, ap, ◌∙◌, arith}
use Rattle.probe_watch.proofs.Fronts.{front_on}
use Rattle.probe_watch.proofs.Counting.{lines_past, line_with, line_without}
use Rattle.probe_watch.proofs.counter.put_counts.Goals.{then-n-gt0+in_ok-put_count, else-n-gt0}
use Rattle.probe_watch.proofs.counter.put_counts.Goals as goal

pub loop-k-preserved : goal.loop-k-preserved
loop-k-preserved c =
    let i = c.loop-k.invariant in
    elim c.if-n-gt0.branch [
      | then-n-gt0+in_ok-put_count w ↦ record {
        lines = λ h counts. line_with _ _ _ c.args.counts.now h c.loop-k.k counts w.if-n-gt0.true (i.lines h counts) (ap (λ v. v.items) w.text-is ∙ w.in_ok-put_count.ensures.whole);
        front = front_on _ _ _ i.front (rw w.text-is w.put_count.ensures.front);
      }
      | else-n-gt0 w ↦ record {
        lines = λ h counts. line_without _ _ c.args.counts.now h c.loop-k.k counts w.if-n-gt0.false (ap (λ v. v.items) w.text-is ∙ i.lines h counts);
        front = rw w.text-is i.front;
      }
    ]

pub returns-clause-whole : goal.returns-clause-whole
returns-clause-whole c h counts = c.loop-k.invariant.lines h counts ∙ ap (λ l. c.args.text.now.items ++ l) (lines_past h c.loop-k.k (let f = counts.far in omega arith))
