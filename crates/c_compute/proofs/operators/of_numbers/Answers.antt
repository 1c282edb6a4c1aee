use Rattle.std.proofs.Common.{◌≡◌, ◌∙◌, to_z, of_z, sym, ap₂, arith}
use Rattle.std.specs.Int.{w32, w128}
use Rattle.std.proofs.lemmas.Int.{ints}
use Rattle.c_base.specs.declared.place.IntKind.TheVariants.{Int}
use Rattle.c_meaning.specs.Operators.{of_integers}
use Rattle.c_compute.proofs.Integers.{int_test, narrow_is}
use Rattle.c_compute.proofs.operators.of_numbers.Goals as goal

pub returns-then-is_int-2 : goal.returns-then-is_int-2
returns-then-is_int-2 c =
    let f = int_test c.args.a c.is_int.result c.ranges.a c.is_int.ensures.0 c.if-is_int.true in
    let g = int_test c.args.b c.is_int-then-is_int.result c.ranges.b c.is_int-then-is_int.ensures.0 c.if-is_int-2.true in
    let x : to_z w32 (of_z w32 (to_z w128 (of_z w128 c.args.a))) ≡ c.args.a = omega (arith, ints, f.at_least, f.at_most) in
    let y : to_z w32 (of_z w32 (to_z w128 (of_z w128 c.args.b))) ≡ c.args.b = omega (arith, ints, g.at_least, g.at_most) in
    c.of_ints.ensures ∙ ap₂ (of_integers c.args.op Int Int) x y
    ∙ narrow_is c.args.op c.args.left c.args.right c.args.a c.args.b (sym c.is_narrow.ensures ∙ c.if-is_narrow.true) (sym c.is_narrow-then-is_narrow.ensures ∙ c.if-is_narrow-2.true)
