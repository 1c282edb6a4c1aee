-- Pairs of a definition and a use: those that a run makes, and those that walks allow.
use Rattle.std.specs.Prelude.{◌≡◌, ◌⊎◌, ◌≤◌, ◌++◌, ℕ, Contains, List, [], ◌∷◌, Some}
use Rattle.c_events.specs.declared.events.Cell.{Cell}
use Rattle.c_events.specs.declared.events.Event.{Event}
use Rattle.c_events.specs.declared.events.Event.TheVariants.{Def, Use}
use Rattle.c_syntax.specs.declared.text.Text.{Text}
use Rattle.c_meaning.specs.State.{Deed}
use Rattle.c_meaning.specs.Deeds.{told}
use Rattle.c_meaning.specs.Calls.{Source}
use Rattle.flow_walks.specs.declared.action.Action.{Action}
use Rattle.flow_walks.specs.declared.action.Action.TheVariants as action
use Rattle.flow_walks.specs.Walks.{Walk}
use Rattle.flow_calls.specs.Walking.{IsWalking}
use Rattle.c_meaning.specs.Deeds.{own}
use Rattle.flow_calls.specs.Placing.{Local, Sites, AreInPlace, IsStrong, AreFinished}

-- in these events a cell is defined at d, and then used at u, and not defined between
pub record HasPair (events : List Event) (d u : ℕ) : Type 0 where
  pub cell : Cell
  pub user : ℕ
  pub pre : List Event
  pub mid : List Event
  pub post : List Event
  pub is : events ≡ pre ++ Def d cell ∷ (mid ++ Use u cell user ∷ post)
  pub none : (p q : List Event) (e : ℕ) → mid ≡ p ++ Def e cell ∷ q → ⊥

-- some walk of the function has d and later u, with neither the making of the variable nor a definition of a strong name of both between
pub record IsListed (P : Source) (S : Sites) (f d : ℕ) (v : Local) (u : ℕ) (r : Local) : Type 0 where
  pub before : List Action
  pub between : List Action
  pub behind : List Action
  pub walk : Walk P.tables P.unit f (before ++ action.Define d ∷ (between ++ action.Use u ∷ behind))
  pub name : Text
  pub in_definition : Contains v.names name
  pub in_use : Contains r.names name
  pub no_kill : (p q : List Action) → between ≡ p ++ action.Kill r.variable ∷ q → ⊥
  pub no_define : (p q : List Action) (e : ℕ) (l : Local) → between ≡ p ++ action.Define e ∷ q → S.defined e ≡ Some l → l.variable ≡ r.variable → Contains l.names name → IsStrong S r.variable name → ⊥

-- where each definition and use is in place, each definition defines all that it must, and each call is a walk, each pair of direct sites of one
-- local variable is listed
abbrev pub PairsAreListed : Type 0
PairsAreListed = (P : Source) (S : Sites) (ds : List Deed) → AreInPlace S ds → AreFinished S ds → ((a : ℕ) → 1 ≤ a → (own a ds ≡ []) ⊎ IsWalking P ds a)
    → (d u : ℕ) (v r : Local) → S.defined d ≡ Some v → S.used u ≡ Some r → v.variable ≡ r.variable → HasPair (told ds) d u → (f : ℕ) × IsListed P S f d v u r
