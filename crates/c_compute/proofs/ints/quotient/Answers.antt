use Rattle.std.proofs.Common.{◌∙◌, sym, ap}
use Rattle.c_base.specs.declared.place.IntKind.TheVariants.{Int}
use Rattle.c_arith.specs.Arith.{fitted}
use Rattle.c_meaning.specs.Operators.{integer}
use Rattle.c_compute.proofs.Integers.{zero_quotient, some_quotient, quotient_is}
use Rattle.c_compute.proofs.ints.quotient.Goals as goal

pub returns-then-b-eq0 : goal.returns-then-b-eq0
returns-then-b-eq0 c = sym (ap integer (zero_quotient c.args.a c.args.b c.ranges.b c.if-b-eq0.true))

pub returns-else-b-eq0 : goal.returns-else-b-eq0
returns-else-b-eq0 c =
    c.fitted.ensures
    ∙ ap (λ z. integer (fitted Int z)) (quotient_is c.args.a c.args.b c.from.result c.from-else-b-eq0.result c.ranges.a c.ranges.b c.from.ensures c.from-else-b-eq0.ensures)
    ∙ sym (ap integer (some_quotient c.args.a c.args.b c.ranges.b c.if-b-eq0.false))
