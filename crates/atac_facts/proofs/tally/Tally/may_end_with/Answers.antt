-- The last row has the greatest rank.
use Rattle.std.proofs.Common.{◌≡◌, ◌∙◌, ◌-◌, List, length, Some, sym, subst}
use Rattle.std.specs.Prelude.{slice_get}
use Rattle.atac_facts.specs.declared.tally.Counted.{Counted}
use Rattle.atac_facts.specs.Facts.{rank}
use Rattle.atac_facts.proofs.Rows.{test_is}
use Rattle.atac_facts.proofs.tally.Tally.may_end_with.Goals as goal

pub returns-in-Some : goal.returns-in-Some
returns-in-Some c =
    let same : c.deref.result.now ≡ c.args.self.now = c.deref.ensures.value ∙ c.self.view_is in
    let P = λ (rows : List Counted). slice_get rows (length rows - 1) ≡ Some c.in-Some.row.now in
    c.is_before.ensures ∙ test_is c.args.self.now c.in-Some.row.now (rank c.args.fact) (subst P same (sym c.in-Some.ensures.value))
