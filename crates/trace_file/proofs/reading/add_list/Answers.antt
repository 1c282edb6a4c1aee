-- One record more.
use Rattle.std.proofs.Common.{drop, subst, ap, ◌∙◌, ◌≤◌, ◌*◌, ◌-◌, ◌+◌, length, sym, List, ℕ}
use Rattle.trace_file.specs.Layout.{size}
use Rattle.trace_file.proofs.Loop.{long_enough}
use Rattle.trace_file.proofs.Gaining.{gains_on}
use Rattle.trace_file.proofs.reading.add_list.Goals as goal

pub loop-preserved : goal.loop-preserved
loop-preserved c =
    let s = size c.args.counted c.args.kind in
    let rest-is = c.split_at.ensures.back ∙ ap (λ (n : ℕ). drop n c.loop.rest.now) c.size-size.ensures.value in
    record {
      gaining = gains_on c.args.counted c.args.kind c.args.part.now.count c.loop.counter c.loop.rest.now _ c.loop.facts c.add.new.self _ c.row-row.result c.loop-test.true
          c.loop.invariant.gaining c.row-row.ensures c.in_ok-add.ensures.there c.in_ok-add.ensures.others c.split_at.result.1.now c.size-size.result c.size-size.ensures.value c.split_at.ensures.back;
      long = subst (λ (x : List ℕ). (c.args.part.now.count - (c.loop.counter + 1)) * s ≤ length x) (sym rest-is) ((long_enough c.args.part.now.count c.loop.counter s c.loop.rest.now c.loop-test.true c.loop.invariant.long).1);
    }
