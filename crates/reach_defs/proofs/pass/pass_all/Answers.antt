use Rattle.std.proofs.Common.{◌∙◌, arith, ap, sym}
use Rattle.reach_defs.specs.Held.{held_count}
use Rattle.reach_defs.proofs.pass.pass_all.Goals as goal
use Rattle.reach_defs.proofs.pass.pass_all.Goals.{then-pass_one, else-pass_one}

pub loop-i-preserved : goal.loop-i-preserved
loop-i-preserved c =
    let p = c.pass_one.ensures.step c.args.held.now c.loop-i.invariant.pushed in
    elim c.if-pass_one.branch [
      | then-pass_one w ↦ (let m = c.pass_one.ensures.more w.if-pass_one.true in record { height = p.height ∙ c.requires.height; width = p.width ∙ c.requires.width; pushed = p; count = omega arith; more = λ e. omega arith; same = λ e. absurd (cc) })
      | else-pass_one w ↦ (let s = c.pass_one.ensures.same w.if-pass_one.false in let n = ap held_count s in record { height = p.height ∙ c.requires.height; width = p.width ∙ c.requires.width; pushed = p; count = omega arith; more = λ e. let m = c.loop-i.invariant.more (sym w.grown-is ∙ e) in omega arith; same = λ e. s ∙ c.loop-i.invariant.same (sym w.grown-is ∙ e) })
    ]
