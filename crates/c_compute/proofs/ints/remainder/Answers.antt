use Rattle.std.proofs.Common.{◌∙◌, pos, int_lt, sym, ap}
use Rattle.std.specs.Int.{w128}
use Rattle.std.proofs.lemmas.Int.{to_z-of_z}
use Rattle.c_meaning.specs.Operators.{integer}
use Rattle.c_compute.specs.Narrow.{given}
use Rattle.c_compute.proofs.Integers.{zero_remainder, some_remainder, no_remainder, quotient_is, rest_is}
use Rattle.c_compute.proofs.ints.remainder.Goals as goal

pub returns-then-b-eq0 : goal.returns-then-b-eq0
returns-then-b-eq0 c = sym (ap integer (zero_remainder c.args.a c.args.b c.ranges.b c.if-b-eq0.true))

pub returns-then-a-b-gt2147483647 : goal.returns-then-a-b-gt2147483647
returns-then-a-b-gt2147483647 c =
    let q = quotient_is c.args.a c.args.b c.from-a.result c.from-b.result c.ranges.a c.ranges.b c.from-a.ensures c.from-b.ensures in
    sym (ap integer (no_remainder c.args.a c.args.b c.ranges.b c.if-b-eq0.false (sym (ap (int_lt (pos 2147483647)) q) ∙ c.if-a-b-gt2147483647.true)))

pub returns-else-a-b-gt2147483647 : goal.returns-else-a-b-gt2147483647
returns-else-a-b-gt2147483647 c =
    let q = quotient_is c.args.a c.args.b c.from-a.result c.from-b.result c.ranges.a c.ranges.b c.from-a.ensures c.from-b.ensures in
    let r = rest_is c.args.a c.args.b c.from-a.result c.from-b.result c.ranges.a c.ranges.b c.from-a.ensures c.from-b.ensures in
    ap given (to_z-of_z w128 c.from.result (record { sfits = c.from.type_inv }) ∙ c.from.ensures ∙ r)
    ∙ sym (ap integer (some_remainder c.args.a c.args.b c.ranges.a c.ranges.b c.if-b-eq0.false (sym (ap (int_lt (pos 2147483647)) q) ∙ c.if-a-b-gt2147483647.false)))
