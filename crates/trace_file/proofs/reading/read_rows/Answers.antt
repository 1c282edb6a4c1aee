-- One record more; or one at which the whole file stops.
use Rattle.trace_file.proofs.Loop.{stops, is_unsound, comes_too_early, keeps_on}
use Rattle.trace_file.proofs.reading.read_rows.Goals as goal

pub returns-then-not-is_sound-clause-err : goal.returns-then-not-is_sound-clause-err
returns-then-not-is_sound-clause-err c =
    stops c.args.counted c.args.kind c.args.part.now.count c.loop.counter c.loop.rest.now c.loop.tally _ c.loop-test.true c.loop.invariant.whole
    (is_unsound c.row-row.result _ c.is_sound.result c.loop.tally c.row-row.ensures c.if-not-is_sound.true c.is_sound.ensures)

pub returns-then-not-may_end_with-clause-err : goal.returns-then-not-may_end_with-clause-err
returns-then-not-may_end_with-clause-err c =
    stops c.args.counted c.args.kind c.args.part.now.count c.loop.counter c.loop.rest.now c.loop.tally _ c.loop-test.true c.loop.invariant.whole
    (comes_too_early c.row-row.result _ c.may_end_with.result c.loop.tally c.row-row.ensures c.if-not-may_end_with.true c.may_end_with.ensures)

pub loop-preserved : goal.loop-preserved
loop-preserved c =
    let kept = keeps_on c.args.counted c.args.kind c.args.part.now.count c.loop.counter c.loop.rest.now c.loop.tally c.row-row.result c.is_sound.result c.may_end_with.result
    c.row-row.ensures c.if-not-is_sound.false c.is_sound.ensures c.if-not-may_end_with.false c.may_end_with.ensures _ c.append.new.self _ c.split_at.result.1.now c.size-size.result c.loop-test.true c.loop.invariant.whole c.loop.invariant.orderly c.loop.invariant.long c.in_ok-append.ensures.ok c.size-size.ensures.value c.split_at.ensures.back in
    record { whole = kept.0; orderly = kept.1; long = kept.2 }
