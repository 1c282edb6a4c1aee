use Rattle.std.proofs.Common.{◌≡◌, ◌≤◌, ℕ, pos, ◌+ℤ◌, nat_abs, to_z, of_z, refl, arith}
use Rattle.std.proofs.lemmas.Int.{ints}
use Rattle.std.specs.Int.{w128}
use Rattle.c_store.specs.declared.value.Value.TheVariants.{At}
use Rattle.c_store.proofs.Places.{step_done}
use Rattle.c_compute.proofs.pointers.stepped_at.Goals as goal

pub returns : goal.returns
returns c =
    let k : ℕ = nat_abs (to_z w128 (of_z w128 (to_z w128 (of_z w128 c.from-index.result) +ℤ to_z w128 (of_z w128 c.args.by)))) in
    let q : (pos c.args.at.index +ℤ c.args.by) ≡ pos k = omega (arith, ints) in
    let h : k ≤ c.args.at.length = omega (arith, ints) in
    step_done (At c.args.at) c.args.at c.args.by k refl q h
