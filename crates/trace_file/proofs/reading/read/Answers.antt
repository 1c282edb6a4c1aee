-- The ways out, in their order.
use Rattle.std.proofs.lemmas.Result.{err_from_is_err_and}
use Rattle.trace_file.specs.Reading.{all_seen, headed, rows_of}
use Rattle.trace_file.proofs.Steps.{Found, stopped, damaged, accepted_in}
use Rattle.trace_file.proofs.reading.read.Goals as goal

pub returns-in_err-head : goal.returns-in_err-head
returns-in_err-head c =
    let p = err_from_is_err_and c.from_residual-in_err-head.result c.from_residual-in_err-head.ensures.1 in
    let f : Found c.in_ok-counted.counted c.args.bytes.now (all_seen c.in-Some.parts) = record { right = c.in_ok-counted.ensures.ok.0; known = c.in_ok-counted.ensures.ok.1; long = c.in_ok-counted.ensures.ok.2; there = c.in-Some.ensures.value } in
    rw (p.1, p.2) (stopped c.in_ok-counted.counted c.args.bytes.now (all_seen c.in-Some.parts) c.in_err-head.field-0.0 f c.in_err-head.ensures.err)

pub returns-then-not-is_signed : goal.returns-then-not-is_signed
returns-then-not-is_signed c =
    let f : Found c.in_ok-counted.counted c.args.bytes.now (all_seen c.in-Some.parts) = record { right = c.in_ok-counted.ensures.ok.0; known = c.in_ok-counted.ensures.ok.1; long = c.in_ok-counted.ensures.ok.2; there = c.in-Some.ensures.value } in
    damaged c.in_ok-counted.counted c.args.bytes.now (all_seen c.in-Some.parts) (headed c.in_ok-head.head (rows_of c.in_ok-counted.counted (all_seen c.in-Some.parts))) c.is_signed.result f c.in_ok-head.ensures.ok c.if-not-is_signed.true c.is_signed.ensures

pub returns : goal.returns
returns c =
    let f : Found c.in_ok-counted.counted c.args.bytes.now (all_seen c.in-Some.parts) = record { right = c.in_ok-counted.ensures.ok.0; known = c.in_ok-counted.ensures.ok.1; long = c.in_ok-counted.ensures.ok.2; there = c.in-Some.ensures.value } in
    accepted_in c.in_ok-counted.counted c.args.bytes.now (all_seen c.in-Some.parts) c.in_ok-head.head c.is_signed.result f c.in_ok-head.ensures.ok c.if-not-is_signed.false c.is_signed.ensures
