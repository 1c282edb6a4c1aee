use Rattle.std.proofs.Common.{◌∙◌, ap, sym, Ok}
use Rattle.std.specs.Int.{w128}
use Rattle.std.proofs.lemmas.Int.{quot_is, rem_is}
use Rattle.c_arith.specs.Arith.{overflows}
use Rattle.c_arith.proofs.Results.{by_zero, remainder-over, remainder-held, div-fits}
use Rattle.c_arith.proofs.remainder.Goals as goal

pub returns-then-b-eq0 : goal.returns-then-b-eq0
returns-then-b-eq0 c = sym (by_zero c.args.kind c.args.a c.args.b c.ranges.b c.if-b-eq0.true).1

pub returns-then-overflows : goal.returns-then-overflows
returns-then-overflows c =
    let kind = c.args.kind in
    let quotient = quot_is w128 c.args.a c.args.b c.ranges.a c.ranges.b (div-fits kind c.args.a c.args.b c.requires.left) in
    sym (remainder-over kind c.args.a c.args.b c.if-b-eq0.false (sym (c.if-overflows.ensures ∙ ap (overflows kind) quotient)))

pub returns-else-overflows : goal.returns-else-overflows
returns-else-overflows c =
    let kind = c.args.kind in
    let quotient = quot_is w128 c.args.a c.args.b c.ranges.a c.ranges.b (div-fits kind c.args.a c.args.b c.requires.left) in
    ap Ok (rem_is w128 c.args.a c.args.b c.ranges.a c.ranges.b)
    ∙ sym (remainder-held kind c.args.a c.args.b c.if-b-eq0.false (sym (c.if-overflows.ensures ∙ ap (overflows kind) quotient)))
