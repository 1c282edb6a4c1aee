-- The outcomes that a run covers are listed of their decisions.
use Rattle.std.proofs.Common.{ℕ, zero, suc, ◌⊎◌, inl, inr, List, [], ◌∷◌, ◌++◌, ◌≡◌, refl, ap, sym, subst, ◌∙◌, arith, slice_get, Some, None, Bool, true, false}
use Rattle.std.specs.Prelude.{Contains, nat_eq, if◌then◌else◌}
use Rattle.std.proofs.lemmas.Bool.{true≢false}
use Rattle.std.proofs.lemmas.List.Elements.{All-contains, Contains-append_right}
use Rattle.c_events.specs.declared.events.Event.{Event}
use Rattle.c_events.specs.declared.events.Event.TheVariants as event
use Rattle.c_meaning.specs.State.{Act, begins, makes, tells, repeats, Deed}
use Rattle.c_meaning.specs.Deeds.{told, own}
use Rattle.c_meaning.specs.Calls.{Source}
use Rattle.c_meaning.specs.Runs.{run_heard}
use Rattle.c_meaning.proofs.Apart.{own_append}
use Rattle.flow_walks.specs.declared.action.Action.TheVariants.{Test, Kill}
use Rattle.flow_calls.specs.Readings.{action_of, readings}
use Rattle.flow_calls.specs.Walking.{IsWalking}
use Rattle.flow_calls.proofs.Laws.{each_call_walks}
use Rattle.flow_calls.specs.Placing.{At}
use Rattle.flow_calls.proofs.Told.{deed, cut}
use Rattle.flow_places.proofs.Laws.{runs_are_in_place}
use Rattle.flow_parts.specs.Parts.{HasParts, parts_of}
use Rattle.flow_parts.proofs.Laws.{parts_are_sites}
use Rattle.flow_parts.specs.Sites.{all_sites, HasOutcome, CoveredOutcomesAreListed, CoveredPUsesHaveOutcomes}
use Rattle.flow_parts.proofs.Lists.{none_there}
use Rattle.flow_parts.proofs.Walks.{walks_stand}
use Rattle.flow_parts.proofs.Before.{IsByCall, tests_by_calls}

-- ---- in lists

record Split (es : List Event) (x : Event) : Type 0 where
  pre : List Event
  rest : List Event
  is : es ≡ pre ++ x ∷ rest

no_event : (x : Event) → None ≡ Some x → ⊥
no_event x e = cc

some_event : (x y : Event) → Some x ≡ Some y → x ≡ y
some_event x y e = cc

split : (es : List Event) (i : ℕ) (x : Event) → slice_get es i ≡ Some x → Split es x
split [] i x e = absurd (no_event x e)
split (y ∷ es) zero x e = record { pre = []; rest = es; is = ap (λ z. z ∷ es) (some_event y x e) }
split (y ∷ es) (suc i) x e = let s = split es i x e in record { pre = y ∷ s.pre; rest = s.rest; is = ap (λ l. y ∷ l) s.is }

one_more : {A : Type 0} (y : A) (xs : List A) (x : A) → Contains xs x → Contains (y ∷ xs) x
one_more y xs x c = Contains-append_right (y ∷ []) xs x c

-- what is told is read
read_there : (acts : List Act) (e : Event) → Contains acts (tells e) → Contains (readings acts) (action_of e)
read_there [] e c = absurd (none_there (tells e) c)
read_there (begins f ∷ acts) e (zero, l, s) = cc
read_there (makes x j ∷ acts) e (zero, l, s) = cc
read_there (repeats b ∷ acts) e (zero, l, s) = cc
read_there (tells b ∷ acts) e (zero, l, s) = (0, omega arith, (let same : b ≡ e = cc in ap action_of same))
read_there (begins f ∷ acts) e (suc k, l, s) = read_there acts e (k, omega (arith, l), s)
read_there (makes x j ∷ acts) e (suc k, l, s) = one_more (Kill x) (readings acts) (action_of e) (read_there acts e (k, omega (arith, l), s))
read_there (repeats b ∷ acts) e (suc k, l, s) = read_there acts e (k, omega (arith, l), s)
read_there (tells b ∷ acts) e (suc k, l, s) = one_more (action_of b) (readings acts) (action_of e) (read_there acts e (k, omega (arith, l), s))

behind_begin : (f : ℕ) (acts : List Act) (e : Event) → Contains (begins f ∷ acts) (tells e) → Contains acts (tells e)
behind_begin f acts e (zero, l, s) = cc
behind_begin f acts e (suc k, l, s) = (k, omega (arith, l), s)

first_if : (b : Bool) (x : Act) (xs : List Act) → b ≡ true → Contains (if b then x ∷ xs else xs) x
first_if true x xs e = (0, omega arith, refl)
first_if false x xs e = absurd (true≢false (sym e))

same_eq : (a : ℕ) → nat_eq a a ≡ true
same_eq a = grind arith

own_has : (front rest : List Deed) (a : ℕ) (act : Act) → Contains (own a (front ++ deed a act ∷ rest)) act
own_has front rest a act = subst (λ l. Contains l act) (sym (own_append a front (deed a act ∷ rest))) (Contains-append_right (own a front) (own a (deed a act ∷ rest)) act (first_if (nat_eq a a) act (own a rest) (same_eq a)))

-- ---- a test of a run

module _ (P : Source) (has : HasParts P) (input : List ℕ) (limit : ℕ) where
  abbrev ds : List Deed
  ds = (run_heard P input limit).deeds

  walking : (k o a by : ℕ) → Contains (own by ds) (tells (event.Test k o a)) → (own by ds ≡ []) ⊎ IsWalking P ds by → HasOutcome (all_sites P).decisions k o
  walking k o a by c (inl none) = absurd (none_there (tells (event.Test k o a)) (subst (λ l. Contains l (tells (event.Test k o a))) none c))
  walking k o a by c (inr w) =
      walks_stand P w.function (readings w.acts) (Test k o) w.walk (read_there w.acts (event.Test k o a) (behind_begin w.function w.acts (event.Test k o a) (subst (λ l. Contains l (tells (event.Test k o a))) w.own_is c)))

  by_call : (k o a by : ℕ) (front rest : List Deed) → ds ≡ front ++ deed by (tells (event.Test k o a)) ∷ rest → IsByCall (deed by (tells (event.Test k o a))) → HasOutcome (all_sites P).decisions k o
  by_call k o a by front rest is (inl h) = absurd h
  by_call k o a by front rest is (inr le) =
      walking k o a by (subst (λ (l : List Deed). Contains (own by l) (tells (event.Test k o a))) (sym is) (own_has front rest by (tells (event.Test k o a)))) (each_call_walks P has.orderly input limit by le)

  there : (front rest : List Deed) (d : Deed) → ds ≡ front ++ d ∷ rest → Contains ds d
  there front rest d is = subst (λ l. Contains l d) (sym is) (Contains-append_right front (d ∷ rest) d (0, omega arith, refl))

  tested : (k o a i : ℕ) → slice_get (told ds) i ≡ Some (event.Test k o a) → HasOutcome (all_sites P).decisions k o
  tested k o a i at =
      let t = event.Test k o a in
      let s = split (told ds) i t at in
      let c = cut ds s.pre s.rest t s.is in
      elim c.way [
        | inl e ↦ (let is : ds ≡ c.front ++ deed c.by (tells t) ∷ c.rest = c.is ∙ ap (λ b. c.front ++ deed c.by b ∷ c.rest) e in
            by_call k o a c.by c.front c.rest is (All-contains IsByCall ds (deed c.by (tells t)) (tests_by_calls P input limit) (there c.front c.rest (deed c.by (tells t)) is)))
        | inr e ↦ absurd (subst (λ b. At (parts_of P) c.front c.by b) e ((runs_are_in_place P (parts_of P) (parts_are_sites P has) input limit).0 c.front c.rest (deed c.by c.act) c.is))
      ]

pub covered_outcomes_are_listed : CoveredOutcomesAreListed
covered_outcomes_are_listed P has owner input limit k o c = tested P has input limit k o c.1 c.0 c.2

pub covered_p_uses_have_outcomes : CoveredPUsesHaveOutcomes
covered_p_uses_have_outcomes P has owner input limit d u k o own c = subst (λ (n : ℕ). HasOutcome (all_sites P).decisions n o) (same_number c.0 k (sym c.1 ∙ own)) (tested P has input limit c.0 o c.2.1 c.2.4 c.2.7)
  where
    same_number : (m n : ℕ) → Some m ≡ Some n → m ≡ n
    same_number m n e = cc
