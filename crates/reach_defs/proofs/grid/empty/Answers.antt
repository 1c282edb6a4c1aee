use Rattle.std.proofs.Common.{◌≡◌, ap, ◌∙◌}
use Rattle.std.proofs.Math.ListN.{replicate}
use Rattle.reach_defs.specs.Held.{total}
use Rattle.reach_defs.proofs.Cells.{nothing_held, bit_in}
use Rattle.reach_defs.proofs.grid.empty.Goals as goal

pub returns-in-Ok-clause-count : goal.returns-in-Ok-clause-count
returns-in-Ok-clause-count c =
    let e : c.in-Ok.words.items ≡ replicate c.in-Some.size 0 = c.in-Ok.ensures.items_if_clones_equal (λ y same. same) in
    ap (λ words. total (λ row. total (bit_in words c.div_ceil-stride.result row) c.args.width) c.args.height) e ∙ nothing_held c.in-Some.size c.args.height c.args.width c.div_ceil-stride.result
