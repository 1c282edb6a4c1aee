-- What an activation did last.
use Rattle.std.proofs.Common.{ℕ, List, [], ◌∷◌, ◌++◌, ◌≡◌, ap, ◌∙◌, append-nil}
use Rattle.c_events.specs.declared.events.Event.{Event}
use Rattle.c_meaning.specs.State.{Act, tells, repeats, Deed, State, activation, did}
use Rattle.c_meaning.specs.Deeds.{own}
use Rattle.c_meaning.proofs.Apart.{own_append}
use Rattle.flow_walks.specs.declared.action.Action.{Action}
use Rattle.flow_calls.specs.Readings.{action_of, readings}
use Rattle.flow_calls.proofs.Own.{own_here, readings_append}
use Rattle.flow_places.proofs.Bound.{deed}

told_end : (a : ℕ) (b : Act) (ds : List Deed) → readings (own a (ds ++ deed a b ∷ [])) ≡ readings (own a ds) ++ readings (b ∷ [])
told_end a b ds = ap readings (own_append a ds _ ∙ ap (λ x. own a ds ++ x) (own_here a b)) ∙ readings_append (own a ds) (b ∷ [])

-- the last action of the active call
abbrev pub EndsWith : Action → State → Type 0
EndsWith a s = (before : List Action) × (readings (own (activation s) s.deeds) ≡ before ++ a ∷ [])

pub ends_told : (e : Event) (s : State) → EndsWith (action_of e) (did (tells e) s)
ends_told e s = (readings (own (activation s) s.deeds), told_end (activation s) (tells e) s.deeds)

pub ends_again : (a : Action) (e : Event) (s : State) → EndsWith a s → EndsWith a (did (repeats e) s)
ends_again a e s h = (h.0, told_end (activation s) (repeats e) s.deeds ∙ append-nil (readings (own (activation s) s.deeds)) ∙ h.1)
