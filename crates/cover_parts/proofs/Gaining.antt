-- What a set of facts says of the facts that it has.
use Rattle.std.proofs.Common.{◌≡◌, ◌≢◌, Bool, true, Result, Ok, Err, sym, subst, ap, ◌∙◌, inl, inr}
use Rattle.std.specs.Prelude.{IsTrue, ◌↔◌, ◌⊎◌, nat_eq, OnOk, OnErr}
use Rattle.std.proofs.lemmas.Bool.{eqb-true, eqb-false}
use Rattle.c_base.specs.declared.place.NoMemory.{NoMemory}
use Rattle.atac_facts.specs.declared.fact.Fact.{Fact}
use Rattle.atac_facts.specs.Facts.{key_of, place_of, fits}
use Rattle.atac_facts.specs.Sets.{FactSet, holds}
use Rattle.atac_facts.proofs.Bits.{and_both, in_range, one_fact}
use Rattle.cover_parts.specs.Gaining.{Has, Gains, Same}
use Rattle.cover_parts.proofs.Cases.{either, by_test}

pub has_test : (s : FactSet) (f : Fact) (b : Bool) → b ≡ holds s f → IsTrue b ↔ Has s f
unfolding Has
has_test s f b e = (λ h. sym e ∙ h, λ h. e ∙ h)

pub same_has : (s t : FactSet) → ((f : Fact) → holds t f ≡ holds s f) → Same s t
unfolding Has
same_has s t e f = (λ h. sym (e f) ∙ h, λ h. e f ∙ h)

-- a fact of the set fits into a word
fitting : (s : FactSet) (f : Fact) → holds s f ≡ true → fits f ≡ true
fitting s f h = (and_both (fits f) _ h).0

same_or_other : (f g : Fact) → fits f ≡ true → fits g ≡ true → (g ≡ f) ⊎ (g ≢ f)
same_or_other f g r s = by_test (nat_eq (key_of g) (key_of f))
    (λ k. by_test (nat_eq (place_of g) (place_of f)) (λ p. inl (one_fact g f (in_range g s) (in_range f r) (eqb-true _ _ k) (eqb-true _ _ p))) (λ p. inr (λ e. eqb-false _ _ p (ap place_of e))))
    (λ k. inr (λ e. eqb-false _ _ k (ap key_of e)))

-- one fact is there now, and every other one is as before
pub one_gained : (s t : FactSet) (f : Fact) → holds t f ≡ true → ((g : Fact) → g ≢ f → holds t g ≡ holds s g) → Gains s t (λ g. g ≡ f)
unfolding Has
one_gained s t f there others g =
    let here : g ≡ f → holds t g ≡ true = λ e. subst (λ x. holds t x ≡ true) (sym e) there in
    let r : fits f ≡ true = fitting t f there in
    (λ h. either (λ e. inr e) (λ ne. inl (sym (others g ne) ∙ h)) (same_or_other f g r (fitting t g h)), λ w. either (λ h. either here (λ ne. others g ne ∙ h) (same_or_other f g r (fitting s g h))) here w)

-- the same of what an addition answers
pub add_gains : (r : Result (Unit {0}) NoMemory) (s t : FactSet) (f : Fact) → OnOk r (holds t f ≡ true) → ((g : Fact) → g ≢ f → holds t g ≡ holds s g) → OnOk r (Gains s t (λ g. g ≡ f))
add_gains (Ok x) s t f there others = one_gained s t f there others
add_gains (Err e) s t f there others = tt

pub add_same : (r : Result (Unit {0}) NoMemory) (s t : FactSet) → OnErr r ((f : Fact) → holds t f ≡ holds s f) → OnErr r (Same s t)
add_same (Ok x) s t e = tt
add_same (Err e) s t h = same_has s t h
