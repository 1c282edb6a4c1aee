-- The least bit from a key and a place on: in its word, or in one behind it.
use Rattle.std.proofs.Common.{◌≡◌, ◌∙◌, ◌+◌, get_or, ap, subst}
use Rattle.atac_facts.specs.Pairs.{Pairs, IsStrictlySorted}
use Rattle.atac_facts.specs.Sets.{FactSet, AreKeys}
use Rattle.atac_facts.proofs.Least.{least_here, starts_in, starts_after, some_later, none_at_all}
use Rattle.atac_facts.proofs.facts.Facts.least_from.Goals as goal

pub returns-in-Some-clause-some : goal.returns-in-Some-clause-some
returns-in-Some-clause-some c =
    let same : c.self.inside.words.items ≡ c.args.self.now.words = ap (λ (s : FactSet). s.words) c.self.view_is in
    least_here c.args.self.now.words (subst IsStrictlySorted same c.self.invariant.0) c.args.key c.args.place c.in-Ok.at c.in-Some.bit c.index.result.now c.requires (subst AreKeys same c.self.invariant.1) c.in-Ok.ensures.found
    (subst (λ (ws : Pairs). c.index.result.now ≡ get_or ws c.in-Ok.at c.index.result.now) same c.index.ensures) c.in-Some.ensures.some

pub returns-in-None-clause-some : goal.returns-in-None-clause-some
returns-in-None-clause-some c =
    let same : c.self.inside.words.items ≡ c.args.self.now.words = ap (λ (s : FactSet). s.words) c.self.view_is in
    let sorted = subst IsStrictlySorted same c.self.invariant.0 in
    some_later c.args.self.now.words c.deref.result.now sorted c.args.key c.args.place (c.in-Ok.at + 1) c.first_bit.result (subst AreKeys same c.self.invariant.1) (c.deref.ensures.value ∙ same)
    (starts_after c.args.self.now.words sorted c.args.key c.args.place c.in-Ok.at c.index.result.now c.requires c.in-Ok.ensures.found (subst (λ (ws : Pairs). c.index.result.now ≡ get_or ws c.in-Ok.at c.index.result.now) same c.index.ensures) c.in-None.ensures.none)
    c.first_bit.ensures.some

pub returns-in-None-clause-none : goal.returns-in-None-clause-none
returns-in-None-clause-none c =
    let same : c.self.inside.words.items ≡ c.args.self.now.words = ap (λ (s : FactSet). s.words) c.self.view_is in
    let sorted = subst IsStrictlySorted same c.self.invariant.0 in
    none_at_all c.args.self.now.words c.deref.result.now sorted c.args.key c.args.place (c.in-Ok.at + 1) c.first_bit.result (c.deref.ensures.value ∙ same)
    (starts_after c.args.self.now.words sorted c.args.key c.args.place c.in-Ok.at c.index.result.now c.requires c.in-Ok.ensures.found (subst (λ (ws : Pairs). c.index.result.now ≡ get_or ws c.in-Ok.at c.index.result.now) same c.index.ensures) c.in-None.ensures.none)
    c.first_bit.ensures.none

pub returns-in-Err-clause-some : goal.returns-in-Err-clause-some
returns-in-Err-clause-some c =
    let same : c.self.inside.words.items ≡ c.args.self.now.words = ap (λ (s : FactSet). s.words) c.self.view_is in
    let sorted = subst IsStrictlySorted same c.self.invariant.0 in
    some_later c.args.self.now.words c.deref-in-Err.result.now sorted c.args.key c.args.place c.in-Err.at c.first_bit-in-Err.result (subst AreKeys same c.self.invariant.1) (c.deref-in-Err.ensures.value ∙ same)
    (starts_in c.args.self.now.words sorted c.args.key c.args.place c.in-Err.at c.requires c.in-Err.ensures.absent) c.first_bit-in-Err.ensures.some

pub returns-in-Err-clause-none : goal.returns-in-Err-clause-none
returns-in-Err-clause-none c =
    let same : c.self.inside.words.items ≡ c.args.self.now.words = ap (λ (s : FactSet). s.words) c.self.view_is in
    let sorted = subst IsStrictlySorted same c.self.invariant.0 in
    none_at_all c.args.self.now.words c.deref-in-Err.result.now sorted c.args.key c.args.place c.in-Err.at c.first_bit-in-Err.result (c.deref-in-Err.ensures.value ∙ same)
    (starts_in c.args.self.now.words sorted c.args.key c.args.place c.in-Err.at c.requires c.in-Err.ensures.absent) c.first_bit-in-Err.ensures.none
