-- One record more.
use Rattle.trace_file.proofs.Loop.{checks_on, long_enough}
use Rattle.trace_file.specs.Layout.{size}
use Rattle.std.proofs.Common.{drop, subst, ap, ◌∙◌, ◌≤◌, ◌*◌, ◌-◌, ◌+◌, length, sym, List, ℕ}
use Rattle.trace_file.proofs.reading.end_of.Goals as goal

pub loop-preserved : goal.loop-preserved
loop-preserved c =
    let s = size c.args.counted c.args.kind in
    let rest-is = c.split_at.ensures.back ∙ ap (λ (n : ℕ). drop n c.loop.rest.now) c.size-size.ensures.value in
    record {
      checks = checks_on c.args.counted c.args.kind c.args.part.now.count c.loop.counter c.loop.rest.now c.args.low c.loop.low _ c.row-row.result c.is_sound.result c.rank_of-rank.result c.loop-test.true
          c.loop.invariant.checks c.row-row.ensures c.if-not-is_sound.false c.is_sound.ensures c.rank_of-rank.ensures.value c.if-rank-low.false c.rank_of-rank.ensures.small c.split_at.result.1.now c.size-size.result c.size-size.ensures.value c.split_at.ensures.back;
      long = subst (λ (x : List ℕ). (c.args.part.now.count - (c.loop.counter + 1)) * s ≤ length x) (sym rest-is) ((long_enough c.args.part.now.count c.loop.counter s c.loop.rest.now c.loop-test.true c.loop.invariant.long).1);
    }
