-- What the search by halves finds.
use Rattle.std.proofs.Common.{◌≡◌, ◌∙◌, ℕ, List, IfOk, IfErr, rules, sym, subst}
use Rattle.std.proofs.lemmas.List.Sorted.{answers_always}
use Rattle.atac_facts.specs.Facts.{rank}
use Rattle.atac_facts.specs.Pairs.{IsAt, IsGapFor}
use Rattle.atac_facts.specs.Tallies.{AscendsFrom, pairs_of}
use Rattle.atac_facts.specs.declared.tally.Counted.{Counted}
use Rattle.atac_facts.proofs.Counting.{sorted_rows}
use Rattle.atac_facts.proofs.Found.{searched}
use Rattle.atac_facts.proofs.tally.Tally.search.Goals as goal

-- the closure gives a row's rank, and the slice is the rows
pub returns : goal.returns
returns c =
    let facts = c.binary_search_by_key.ensures in
    let by_key = facts.position (λ row. rank row.fact) (answers_always _ _ _ (λ f a r g called. search rules)) in
    let same : c.self.inside.rows.items ≡ c.args.self.now = c.self.view_is in
    let ordered : AscendsFrom 0 c.deref.result.now = subst (AscendsFrom 0) (sym c.deref.ensures.value) c.self.invariant.0 in
    let there = searched c.deref.result.now (sorted_rows 0 c.deref.result.now ordered) c.rank.result c.binary_search_by_key.result facts.bound by_key in
    let P = λ (rows : List Counted). IfOk c.binary_search_by_key.result (IsAt (pairs_of rows) c.rank.result) in
    let Q = λ (rows : List Counted). IfErr c.binary_search_by_key.result (IsGapFor (pairs_of rows) c.rank.result) in
    let F = λ (k : ℕ). IfOk c.binary_search_by_key.result (IsAt (pairs_of c.args.self.now) k) in
    let G = λ (k : ℕ). IfErr c.binary_search_by_key.result (IsGapFor (pairs_of c.args.self.now) k) in
    record {
      found = subst F c.rank.ensures (subst P (c.deref.ensures.value ∙ same) there.found);
      absent = subst G c.rank.ensures (subst Q (c.deref.ensures.value ∙ same) there.absent);
    }
