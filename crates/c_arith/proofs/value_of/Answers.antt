use Rattle.std.proofs.Common.{arith}
use Rattle.std.proofs.lemmas.Int.{ints}
use Rattle.c_arith.proofs.Patterns.{bounds, value_of-low, value_of-high}
use Rattle.c_arith.proofs.value_of.Goals as goal

pub returns-then-value-greatest : goal.returns-then-value-greatest
returns-then-value-greatest c =
    let small = (bounds c.args.kind).small in
    omega (arith, ints, value_of-high c.args.kind c.args.bits (omega (arith, ints)))

pub returns-else-value-greatest : goal.returns-else-value-greatest
returns-else-value-greatest c =
    let small = (bounds c.args.kind).small in
    omega (arith, ints, value_of-low c.args.kind c.args.bits (omega (arith, ints)))
