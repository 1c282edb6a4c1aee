use Rattle.std.proofs.Common.{◌∙◌, arith, ap, sym, Ok, unsigned_abs}
use Rattle.std.specs.Int.{w128}
use Rattle.std.proofs.lemmas.Int.{ints, to_z-of_z}
use Rattle.c_arith.proofs.Results.{shift_count-below, shift_count-above, shift_count-held}
use Rattle.c_arith.proofs.shift_count.Goals as goal
use Rattle.c_arith.proofs.shift_count.Goals.{then-b-lt0, else-b-lt0}

pub returns-then-width-b-clause-value : goal.returns-then-width-b-clause-value
returns-then-width-b-clause-value c =
    let held = c.if-width-b.true in
    elim c.if-b-lt0.branch [
      | then-b-lt0 w ↦ (let t = w.if-b-lt0.true in sym (shift_count-below c.args.kind c.args.b (omega (arith, ints))))
      | else-b-lt0 w ↦ (let t = sym w.value-is ∙ held in sym (shift_count-above c.args.kind c.args.b (omega (arith, ints, w.width.ensures))))
    ]

pub returns-else-width-b-clause-value : goal.returns-else-width-b-clause-value
returns-else-width-b-clause-value c =
    let held = c.if-width-b.false in
    elim c.if-b-lt0.branch [
      | then-b-lt0 w ↦ (let t = w.if-b-lt0.true in let u = sym w.value-is ∙ held in cc)
      | else-b-lt0 w ↦ (
          let t = w.if-b-lt0.false in
          let u = sym w.value-is ∙ held in
          ap (λ z. Ok (unsigned_abs z)) (to_z-of_z w128 c.args.b c.ranges.b)
          ∙ sym (shift_count-held c.args.kind c.args.b (omega (arith, ints)) (omega (arith, ints, w.width.ensures))))
    ]
