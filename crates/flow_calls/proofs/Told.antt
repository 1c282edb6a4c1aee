-- From events to what was done: where events are cut, deeds are; and from the readings of an activation to its acts.
use Rattle.std.proofs.Common.{ℕ, List, [], ◌∷◌, ◌++◌, ◌≡◌, ◌⊎◌, inl, inr, refl, ap, ◌∙◌, Some, None, Option, Bool, true, false}
use Rattle.std.specs.Prelude.{nat_eq, if◌then◌else◌}
use Rattle.c_events.specs.declared.events.Cell.{Cell}
use Rattle.c_events.specs.declared.events.Event.{Event}
use Rattle.c_events.specs.declared.events.Event.TheVariants as event
use Rattle.c_meaning.specs.State.{Act, begins, makes, tells, repeats, Deed}
use Rattle.c_meaning.specs.Deeds.{told_by, told, own}
use Rattle.flow_walks.specs.declared.action.Action.{Action}
use Rattle.flow_walks.specs.declared.action.Action.TheVariants.{Define, Use, Block, Test, Kill}
use Rattle.flow_calls.specs.Readings.{action_of, read_as, readings}
use Rattle.flow_calls.proofs.Lists.{heads, tails, longer, some_not, some_is, are_equal}

abbrev pub deed : ℕ → Act → Deed
deed a act = record { activation = a; act = act }

-- ---- events

-- the event is told there, as one or as a further one
pub record Cut (ds : List Deed) (p : List Event) (e : Event) (q : List Event) : Type 0 where
  pub front : List Deed
  pub rest : List Deed
  pub by : ℕ
  pub act : Act
  pub way : (act ≡ tells e) ⊎ (act ≡ repeats e)
  pub is : ds ≡ front ++ deed by act ∷ rest
  pub before : told front ≡ p
  pub behind : told rest ≡ q

cut_step : (n : ℕ) (act : Act) (ds : List Deed) (p q : List Event) (e : Event) → ((p : List Event) → told ds ≡ p ++ e ∷ q → Cut ds p e q) → told_by act (told ds) ≡ p ++ e ∷ q → Cut (deed n act ∷ ds) p e q
cut_step n (begins f) ds p q e ih h = let c = ih p h in record { front = deed n (begins f) ∷ c.front; rest = c.rest; by = c.by; act = c.act; way = c.way; is = ap (λ z. deed n (begins f) ∷ z) c.is; before = c.before; behind = c.behind }
cut_step n (makes x j) ds p q e ih h = let c = ih p h in record { front = deed n (makes x j) ∷ c.front; rest = c.rest; by = c.by; act = c.act; way = c.way; is = ap (λ z. deed n (makes x j) ∷ z) c.is; before = c.before; behind = c.behind }
cut_step n (tells t) ds [] q e ih h = record { front = []; rest = ds; by = n; act = tells t; way = inl (ap tells (heads t e (told ds) q h)); is = refl; before = refl; behind = tails t e (told ds) q h }
cut_step n (tells t) ds (y ∷ p) q e ih h =
    let c = ih p (tails t y (told ds) (p ++ e ∷ q) h) in
    record { front = deed n (tells t) ∷ c.front; rest = c.rest; by = c.by; act = c.act; way = c.way; is = ap (λ z. deed n (tells t) ∷ z) c.is; before = ap (λ z. t ∷ z) c.before ∙ ap (λ z. z ∷ p) (heads t y (told ds) (p ++ e ∷ q) h); behind = c.behind }
cut_step n (repeats t) ds [] q e ih h = record { front = []; rest = ds; by = n; act = repeats t; way = inr (ap repeats (heads t e (told ds) q h)); is = refl; before = refl; behind = tails t e (told ds) q h }
cut_step n (repeats t) ds (y ∷ p) q e ih h =
    let c = ih p (tails t y (told ds) (p ++ e ∷ q) h) in
    record { front = deed n (repeats t) ∷ c.front; rest = c.rest; by = c.by; act = c.act; way = c.way; is = ap (λ z. deed n (repeats t) ∷ z) c.is; before = ap (λ z. t ∷ z) c.before ∙ ap (λ z. z ∷ p) (heads t y (told ds) (p ++ e ∷ q) h); behind = c.behind }

pub cut : (ds : List Deed) (p q : List Event) (e : Event) → told ds ≡ p ++ e ∷ q → Cut ds p e q
cut [] p q e h = absurd (longer p q e h)
cut (d ∷ ds) p q e h = cut_step d.activation d.act ds p q e (λ p k. cut ds p q e k) h

-- ---- actions

pub record Acted (acts : List Act) (a : Action) : Type 0 where
  pub front : List Act
  pub rest : List Act
  pub act : Act
  pub is : acts ≡ front ++ act ∷ rest
  pub gives : read_as act [] ≡ a ∷ []

acted_more : (x : Act) (acts : List Act) (a : Action) → Acted acts a → Acted (x ∷ acts) a
acted_more x acts a h = record { front = x ∷ h.front; rest = h.rest; act = h.act; is = ap (λ z. x ∷ z) h.is; gives = h.gives }

-- an action among the readings is one of an act
pub actions_there : (acts : List Act) (p q : List Action) (a : Action) → readings acts ≡ p ++ a ∷ q → Acted acts a
actions_there [] p q a e = absurd (longer p q a e)
actions_there (begins f ∷ acts) p q a e = acted_more (begins f) acts a (actions_there acts p q a e)
actions_there (repeats t ∷ acts) p q a e = acted_more (repeats t) acts a (actions_there acts p q a e)
actions_there (makes x j ∷ acts) [] q a e = record { front = []; rest = acts; act = makes x j; is = refl; gives = ap (λ z. z ∷ []) (heads (Kill x) a (readings acts) q e) }
actions_there (makes x j ∷ acts) (y ∷ p) q a e = acted_more (makes x j) acts a (actions_there acts p q a (tails (Kill x) y (readings acts) (p ++ a ∷ q) e))
actions_there (tells t ∷ acts) [] q a e = record { front = []; rest = acts; act = tells t; is = refl; gives = ap (λ z. z ∷ []) (heads (action_of t) a (readings acts) q e) }
actions_there (tells t ∷ acts) (y ∷ p) q a e = acted_more (tells t) acts a (actions_there acts p q a (tails (action_of t) y (readings acts) (p ++ a ∷ q) e))

if_cases : (b : Bool) (xs ys zs : List Act) → (if b then xs else ys) ≡ zs → ((b ≡ true) × (xs ≡ zs)) ⊎ (ys ≡ zs)
if_cases true xs ys zs e = inl (refl, e)
if_cases false xs ys zs e = inr e

pub record There (ds : List Deed) (a : ℕ) (act : Act) : Type 0 where
  pub front : List Deed
  pub rest : List Deed
  pub is : ds ≡ front ++ deed a act ∷ rest

there_more : (d : Deed) (ds : List Deed) (a : ℕ) (act : Act) → There ds a act → There (d ∷ ds) a act
there_more d ds a act h = record { front = d ∷ h.front; rest = h.rest; is = ap (λ z. d ∷ z) h.is }

deed_is : (d : Deed) (a : ℕ) (act : Act) → d.activation ≡ a → d.act ≡ act → d ≡ deed a act
deed_is d a act e h = ap (λ n. record { activation = n; act = d.act }) e ∙ ap (λ n. record { activation = a; act = n }) h

-- an act of an activation by itself is one of its deeds
pub own_there : (a : ℕ) (ds : List Deed) (p q : List Act) (act : Act) → own a ds ≡ p ++ act ∷ q → There ds a act
own_there a [] p q act e = absurd (longer p q act e)
own_there a (d ∷ ds) [] q act e = elim (if_cases (nat_eq d.activation a) (d.act ∷ own a ds) (own a ds) (act ∷ q) e) [
  | inl s ↦ record { front = []; rest = ds; is = ap (λ z. z ∷ ds) (deed_is d a act (are_equal d.activation a s.0) (heads d.act act (own a ds) q s.1)) }
  | inr s ↦ there_more d ds a act (own_there a ds [] q act s)
]
own_there a (d ∷ ds) (y ∷ p) q act e = elim (if_cases (nat_eq d.activation a) (d.act ∷ own a ds) (own a ds) (y ∷ p ++ act ∷ q) e) [
  | inl s ↦ there_more d ds a act (own_there a ds p q act (tails d.act y (own a ds) (p ++ act ∷ q) s.1))
  | inr s ↦ there_more d ds a act (own_there a ds (y ∷ p) q act s)
]

-- ---- which act gives an action

abbrev killed : Action → Option ℕ
killed (Kill x) = Some x
killed a = None

abbrev defined_by : Action → Option ℕ
defined_by (Define d) = Some d
defined_by a = None

one_is : (x a : Action) → x ∷ [] ≡ a ∷ [] → x ≡ a
one_is x a e = heads x a [] [] e

pub kill_is : (act : Act) (x : ℕ) → read_as act [] ≡ Kill x ∷ [] → (j : ℕ) × (act ≡ makes x j)
kill_is (begins f) x e = absurd (longer [] [] (Kill x) e)
kill_is (repeats t) x e = absurd (longer [] [] (Kill x) e)
kill_is (makes y j) x e = (j, ap (λ z. makes z j) (some_is y x (ap killed (one_is (Kill y) (Kill x) e))))
kill_is (tells (event.Block i)) x e = absurd (some_not x (ap killed (one_is (Block i) (Kill x) e)))
kill_is (tells (event.Test d o a)) x e = absurd (some_not x (ap killed (one_is (Test d o) (Kill x) e)))
kill_is (tells (event.Def d c)) x e = absurd (some_not x (ap killed (one_is (Define d) (Kill x) e)))
kill_is (tells (event.Use u c a)) x e = absurd (some_not x (ap killed (one_is (Use u) (Kill x) e)))

pub define_is : (act : Act) (d : ℕ) → read_as act [] ≡ Define d ∷ [] → (c : Cell) × (act ≡ tells (event.Def d c))
define_is (begins f) d e = absurd (longer [] [] (Define d) e)
define_is (repeats t) d e = absurd (longer [] [] (Define d) e)
define_is (makes y j) d e = absurd (some_not d (ap defined_by (one_is (Kill y) (Define d) e)))
define_is (tells (event.Block i)) d e = absurd (some_not d (ap defined_by (one_is (Block i) (Define d) e)))
define_is (tells (event.Test k o a)) d e = absurd (some_not d (ap defined_by (one_is (Test k o) (Define d) e)))
define_is (tells (event.Def k c)) d e = (c, ap (λ z. tells (event.Def z c)) (some_is k d (ap defined_by (one_is (Define k) (Define d) e))))
define_is (tells (event.Use u c a)) d e = absurd (some_not d (ap defined_by (one_is (Use u) (Define d) e)))
