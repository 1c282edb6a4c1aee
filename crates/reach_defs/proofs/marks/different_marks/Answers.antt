use Rattle.std.proofs.Common.{◌∙◌, arith, subst, sym}
use Rattle.reach_defs.proofs.Listing.{Lists, lists_none, lists_more, gives_at, all_listed, fewest}
use Rattle.reach_defs.proofs.marks.different_marks.Goals as goal

pub loop-row-init : goal.loop-row-init
loop-row-init c = subst (λ l. Lists c.args.rows.now l 0) (sym c.new-marks.ensures.items) (lists_none c.args.rows.now)

pub loop-row-preserved : goal.loop-row-preserved
loop-row-preserved c = lists_more c.args.rows.now c.loop-row.marks.items c.add_marks.new.marks.items c.numbers.result.now c.loop-row.row-index (gives_at c.args.rows.now c.loop-row.row-index c.row-item.result c.loop-row-test.true c.row-item.is ∙ sym c.numbers.ensures) c.loop-row.invariant c.in_ok-add_marks.ensures

pub returns-clause-listed : goal.returns-clause-listed
returns-clause-listed c = all_listed c.args.rows.now c.loop-row.marks.items c.loop-row.row-index c.loop-row-test.false c.loop-row.invariant

pub returns-clause-fewest : goal.returns-clause-fewest
returns-clause-fewest c = λ others listed. omega (arith, c.loop-row.marks.ok, fewest c.args.rows.now c.loop-row.marks.items c.loop-row.row-index c.loop-row.invariant others listed)
