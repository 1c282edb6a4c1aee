-- A row behind all others.
use Rattle.std.proofs.Common.{◌∙◌, [], ◌∷◌, ◌++◌, List, ap}
use Rattle.atac_facts.specs.declared.tally.Counted.{Counted}
use Rattle.atac_facts.proofs.Counting.{appended}
use Rattle.atac_facts.proofs.tally.Tally.append.Goals as goal

pub invariant_of-self-2 : goal.invariant_of-self-2
invariant_of-self-2 c =
    let row : Counted = record { fact = c.args.fact; count = c.args.count } in
    appended c.self.inside.facts c.add.new.self c.self.inside.rows.items c.args.self.now c.push.new.self.items row c.self.invariant c.self.view_is c.requires.last c.requires.met c.ranges.count.fits
    c.in_ok-add.ensures.there c.in_ok-add.ensures.others (c.in-Ok.ensures.items ∙ ap (λ (rs : List Counted). rs ++ row ∷ []) c.in_ok-reserve.ensures.items)
