use Rattle.std.proofs.Common.{◌∙◌, sym, ap}
use Rattle.std.specs.Int.{w128}
use Rattle.std.proofs.lemmas.Int.{to_z-of_z}
use Rattle.c_base.specs.declared.place.IntKind.TheVariants.{Int}
use Rattle.c_arith.specs.Arith.{wrap}
use Rattle.c_compute.proofs.Integers.{wrap_held, int_test}
use Rattle.c_compute.proofs.operators.wrapped.Goals as goal

pub returns-in-Int : goal.returns-in-Int
returns-in-Int c =
    to_z-of_z w128 c.args.number c.ranges.number
    ∙ sym (wrap_held Int c.args.number (int_test c.args.number c.is_int.result c.ranges.number c.is_int.ensures.0 c.if-is_int.true))
    ∙ ap (λ k. wrap k c.args.number) (sym c.in-Int.is)
