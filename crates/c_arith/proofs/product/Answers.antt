use Rattle.std.proofs.Common.{◌∙◌, ap}
use Rattle.std.specs.Int.{w128}
use Rattle.std.proofs.lemmas.Int.{wrapping_mul_is}
use Rattle.c_arith.specs.Arith.{fitted}
use Rattle.c_arith.proofs.Results.{fitted-wrapped}
use Rattle.c_arith.proofs.product.Goals as goal

pub returns : goal.returns
returns c =
    let kind = c.args.kind in
    c.fitted.ensures
    ∙ ap (fitted kind) (wrapping_mul_is w128 c.args.a c.args.b c.ranges.a c.ranges.b)
    ∙ fitted-wrapped kind c.args.a c.args.b c.requires.left c.requires.right
