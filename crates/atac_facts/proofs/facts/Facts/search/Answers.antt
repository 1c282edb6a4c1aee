-- What the search by halves finds.
use Rattle.std.proofs.Common.{IfOk, IfErr, rules, subst}
use Rattle.std.proofs.lemmas.List.Sorted.{answers_always}
use Rattle.atac_facts.specs.Pairs.{IsAt, IsGapFor}
use Rattle.atac_facts.specs.Sets.{FactSet}
use Rattle.atac_facts.proofs.Place.{searched}
use Rattle.atac_facts.proofs.facts.Facts.search.Goals as goal

-- the closure gives a word's key, and the slice is the words
pub returns-clause-found : goal.returns-clause-found
returns-clause-found c =
    let facts = c.binary_search_by_key.ensures in
    let by_key = facts.position (λ word. word.0) (answers_always _ _ _ (λ f a r g called. search rules)) in
    let there = searched c.deref-2.result.now (rw c.deref-2.ensures.value c.self.invariant.0) c.args.key c.binary_search_by_key.result facts.bound by_key in
    let P = λ (s : FactSet). IfOk c.binary_search_by_key.result (IsAt s.words c.args.key) in
    subst P c.self.view_is (rw (← c.deref-2.ensures.value) there.found)

pub returns-clause-absent : goal.returns-clause-absent
returns-clause-absent c =
    let facts = c.binary_search_by_key.ensures in
    let by_key = facts.position (λ word. word.0) (answers_always _ _ _ (λ f a r g called. search rules)) in
    let there = searched c.deref-2.result.now (rw c.deref-2.ensures.value c.self.invariant.0) c.args.key c.binary_search_by_key.result facts.bound by_key in
    let P = λ (s : FactSet). IfErr c.binary_search_by_key.result (IsGapFor s.words c.args.key) in
    subst P c.self.view_is (rw (← c.deref-2.ensures.value) there.absent)
