use Rattle.std.proofs.Common.{◌∙◌, ap, sym}
use Rattle.std.specs.Int.{w128}
use Rattle.std.proofs.lemmas.Int.{quot_is}
use Rattle.c_arith.specs.Arith.{fitted}
use Rattle.c_arith.proofs.Results.{by_zero, divided, div-fits}
use Rattle.c_arith.proofs.quotient.Goals as goal

pub returns-then-b-eq0 : goal.returns-then-b-eq0
returns-then-b-eq0 c = sym (by_zero c.args.kind c.args.a c.args.b c.ranges.b c.if-b-eq0.true).0

pub returns-else-b-eq0 : goal.returns-else-b-eq0
returns-else-b-eq0 c =
    let kind = c.args.kind in
    c.fitted.ensures
    ∙ ap (fitted kind) (quot_is w128 c.args.a c.args.b c.ranges.a c.ranges.b (div-fits kind c.args.a c.args.b c.requires.left))
    ∙ sym (divided kind c.args.a c.args.b c.if-b-eq0.false)
