-- The marks are those of the rule.
use Rattle.std.proofs.Common.{List, Bool, sym, subst}
use Rattle.run_pick.specs.Kept.{facts_of, AreKept, AreEnough}
use Rattle.run_pick.proofs.Rule.{are_kept, are_enough}
use Rattle.run_pick.proofs.Halves.{picked}
use Rattle.run_pick.proofs.picks.pick.Goals as goal

pub returns-clause-kept : goal.returns-clause-kept
returns-clause-kept c =
    let facts = facts_of c.args.items.now in
    let runs = c.args.runs.now in
    let P : List Bool → Type 0 = λ marks. AreKept facts runs marks in
    subst P (sym (picked _ _ _ _ _ _ c.new-taken.ensures c.in_ok-fresh.ensures c.new-marks.ensures.items c.in_ok-mark.ensures.marks)) (are_kept facts runs)

pub returns-clause-enough : goal.returns-clause-enough
returns-clause-enough c =
    let facts = facts_of c.args.items.now in
    let runs = c.args.runs.now in
    let P : List Bool → Type 0 = λ marks. AreEnough facts runs marks in
    subst P (sym (picked _ _ _ _ _ _ c.new-taken.ensures c.in_ok-fresh.ensures c.new-marks.ensures.items c.in_ok-mark.ensures.marks)) (are_enough facts runs)
