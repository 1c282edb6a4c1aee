-- The least bit from a place on.
use Rattle.std.proofs.Common.{◌<◌, ◌^◌, ◌/◌, refl, arith}
use Rattle.std.proofs.lemmas.Nat.{shr_le}
use Rattle.atac_facts.proofs.Least.{no_bit, least_bit}
use Rattle.atac_facts.proofs.facts.next_bit.Goals as goal

pub returns-then-rest-eq0-clause-none : goal.returns-then-rest-eq0-clause-none
returns-then-rest-eq0-clause-none c = no_bit c.args.bits c.args.place c.if-rest-eq0.true

pub returns-clause-some : goal.returns-clause-some
returns-clause-some c =
    let less = shr_le c.args.bits c.args.place in
    let small : c.args.bits < 2 ^ 64 = omega arith in
    let fits : c.args.bits / 2 ^ c.args.place < 2 ^ 64 = omega arith in
    let some : 0 < c.args.bits / 2 ^ c.args.place = omega arith in
    least_bit c.args.bits c.args.place (c.args.bits / 2 ^ c.args.place) small refl fits some
