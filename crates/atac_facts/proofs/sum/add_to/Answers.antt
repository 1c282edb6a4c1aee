-- A row behind all others, and one among them.
use Rattle.std.proofs.Common.{◌≤◌, arith, sym, ◌∙◌}
use Rattle.std.proofs.lemmas.Bool.{leb-true}
use Rattle.atac_facts.specs.declared.tally.Counted.{Counted}
use Rattle.atac_facts.specs.Facts.{rank}
use Rattle.atac_facts.specs.Sums.{most}
use Rattle.atac_facts.specs.Tallies.{end_from}
use Rattle.atac_facts.proofs.Sums.{added_last, others_last}
use Rattle.atac_facts.proofs.sum.add_to.Goals as goal

pub returns-clause-there : goal.returns-clause-there
returns-clause-there c =
    let row : Counted = record { fact = c.args.fact; count = c.args.by } in
    let follows : end_from 0 c.args.tally.now ≤ rank c.args.fact = leb-true _ _ (sym c.may_end_with-is_last.ensures ∙ c.if-not-is_last.false) in
    let small : c.args.by ≤ most = omega arith in
    added_last c.args.tally.now c.append.new.self row c.rows-rows.ensures.ordered follows small c.in_ok-append.ensures.ok

pub returns-clause-others : goal.returns-clause-others
returns-clause-others c =
    others_last c.args.tally.now c.append.new.self (record { fact = c.args.fact; count = c.args.by }) c.in_ok-append.ensures.ok
