use Rattle.std.proofs.Common.{◌≡◌, ◌≤◌, ℕ, pos, ◌+ℤ◌, nat_abs, to_z, of_z, arith}
use Rattle.std.proofs.lemmas.Int.{ints}
use Rattle.std.specs.Int.{w128}
use Rattle.c_store.proofs.Places.{step_done}
use Rattle.c_store.proofs.store.Store.step_pointer.Goals as goal

pub returns : goal.returns
returns c =
    let k : ℕ = nat_abs (to_z w128 (of_z w128 (to_z w128 c.in-At.at.index +ℤ to_z w128 (of_z w128 c.args.by)))) in
    let q : (pos c.in-At.at.index +ℤ c.args.by) ≡ pos k = omega (arith, ints) in
    let h : k ≤ c.in-At.at.length = omega (arith, ints) in
    step_done c.args.from c.in-At.at c.args.by k c.in-At.is q h
