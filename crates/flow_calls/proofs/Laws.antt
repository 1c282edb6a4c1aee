-- Each call of a run is a walk of its function.
use Rattle.std.proofs.Common.{◌≡◌, ◌⊎◌, ◌≤◌, ◌<◌, ℕ, ℤ, suc, List, [], refl, sym, ap, subst, inl, inr, append-nil, arith, Option, Some, None, Bool, true, false}
use Rattle.std.proofs.lemmas.Bool.{true≢false}
use Rattle.c_store.specs.declared.value.Value.{Value}
use Rattle.c_meaning.specs.declared.end.End.{End}
use Rattle.c_meaning.specs.declared.end.End.TheVariants as end
use Rattle.c_meaning.specs.declared.end.Stop.{Stop}
use Rattle.c_meaning.specs.declared.end.Stop.TheVariants as stop
use Rattle.c_meaning.specs.declared.end.Flow.{Flow}
use Rattle.c_meaning.specs.State.{Bound, Deed, State, start, activation, activation_in}
use Rattle.c_meaning.specs.Deeds.{own}
use Rattle.c_meaning.specs.Results.{Got, Gives, Stops, then_do, present}
use Rattle.c_meaning.specs.Calls.{Source, knot, calls}
use Rattle.c_meaning.specs.Runs.{Outcome, main_number, all_made, outcome_at, outcome, stopped_end, run_heard, audible}
use Rattle.c_tables.specs.Tables.{TablesShape}
use Rattle.c_walk.specs.Units as units
use Rattle.flow_walks.specs.Walks.{Goes}
use Rattle.flow_calls.specs.Orderly.{IsOrderlyProgram, AreOrderlyExternals}
use Rattle.flow_calls.specs.Walking.{IsWalking, IsLeaving, EachCallWalks, EachCallLeaves}
use Rattle.flow_calls.proofs.Adding.{split, cut, IsCall, Ok, Kept, SilentBy}
use Rattle.flow_calls.proofs.Early.{Early, EarlyAt, made_early}
use Rattle.flow_calls.proofs.Routines.{knotted}

is_returned : End → Bool
is_returned (end.Returned z) = true
is_returned e = false

not_returned : (t : TablesShape) (why : Stop) (s : State) (z : ℤ) → stopped_end t why s ≡ end.Returned z → ⊥
unfolding is_returned
not_returned t (stop.Fault f) s z e = true≢false (sym (ap is_returned e))
not_returned t (stop.Exited x) s z e = true≢false (sym (ap is_returned e))
not_returned t stop.Turns s z e = true≢false (sym (ap is_returned e))
not_returned t stop.Depth s z e = true≢false (sym (ap is_returned e))
not_returned t stop.Room s z e = true≢false (sym (ap is_returned e))

module _ (P : Source) where
  cut_walking : (F : List Bound) (ds : List Deed) (a : ℕ) → IsCall P F false ds a → IsWalking P ds a
  cut_walking F ds a c = record { function = c.f; acts = c.acts; own_is = c.own_is; walk = (c.walk, subst (Goes P.tables P.unit c.f) (append-nil c.walk) c.goes, c.reads) }

  to_walking : (F : List Bound) (b : Bool) (ds : List Deed) (a : ℕ) → IsCall P F b ds a → IsWalking P ds a
  to_walking F true ds a c = cut_walking F ds a (cut P F false a ds c)
  to_walking F false ds a c = cut_walking F ds a c

  to_leaving : (F : List Bound) (ds : List Deed) (a : ℕ) → IsCall P F true ds a → IsLeaving P ds a
  to_leaving F ds a c = record { function = c.f; acts = c.acts; own_is = c.own_is; walk = c.walk; leaves = c.goes; reads = c.reads }

  -- of a run that ends so
  pub record Result (o : Outcome) : Type 0 where
    pub walks : (a : ℕ) → 1 ≤ a → (own a o.deeds ≡ []) ⊎ IsWalking P o.deeds a
    pub leaves : (a : ℕ) (status : ℤ) → 1 ≤ a → o.end ≡ end.Returned status → (own a o.deeds ≡ []) ⊎ IsLeaving P o.deeds a

  early_result : (limit : ℕ) (e : End) (s : State) → Early s → Result (outcome_at limit e s)
  early_result limit e s h = record { walks = λ a le. inl (h.none a le); leaves = λ a z le r. inl (h.none a le) }

  module _ (F : List Bound) (s : State) (e : Early s) where
    call_in : (b : Bool) (t : State) → Kept P F b s [] t → (a : ℕ) → 1 ≤ a → (a ≤ t.last) ⊎ (t.last < a) → (own a t.deeds ≡ []) ⊎ IsCall P F b t.deeds a
    call_in b t k a le (inl here) = inr (k.new a (let l = e.last in omega (arith, l, le)) here)
    call_in b t k a le (inr beyond) = inl (k.beyond a beyond)

    walking_in : (b : Bool) (t : State) → Kept P F b s [] t → (a : ℕ) → 1 ≤ a → (own a t.deeds ≡ []) ⊎ IsWalking P t.deeds a
    walking_in b t k a le = elim (call_in b t k a le (split a t.last)) [ inl none ↦ inl none | inr c ↦ inr (to_walking F b t.deeds a c) ]

    leaving_in : (t : State) → Kept P F true s [] t → (a : ℕ) → 1 ≤ a → (own a t.deeds ≡ []) ⊎ IsLeaving P t.deeds a
    leaving_in t k a le = elim (call_in true t k a le (split a t.last)) [ inl none ↦ inl none | inr c ↦ inr (to_leaving F t.deeds a c) ]

    call_result : (limit : ℕ) (r : Got (Option Value)) → SilentBy P F s r → Result (outcome P.tables limit r)
    call_result limit (Gives v t) k = record { walks = λ a le. walking_in true t k.0 a le; leaves = λ a z le r. leaving_in t k.0 a le }
    call_result limit (Stops why t) k = record { walks = λ a le. walking_in false t k a le; leaves = λ a z le r. absurd (not_returned P.tables why t z r) }

  early_ok : (s : State) → Early s → Ok P s.file s
  early_ok s e = record {
    active = (let z : activation s ≡ 0 = ap activation_in e.calls in omega (arith, z));
    beyond = λ a lt. e.none a (let l = e.last in omega (arith, l, lt));
    file = refl;
  }

  number_result : (limit : ℕ) (o : Option ℕ) (s : State) → Early s → AreOrderlyExternals P.tables s.file P.unit.externals units.no_items → Result (outcome P.tables limit (then_do (present o s) (λ f. (calls P audible).call f [])))
  unfolding calls
  number_result limit None s e o = early_result limit _ s e
  number_result limit (Some f) s e o = call_result s.file s e limit ((knot P audible (suc s.turns)).call f [] s) (((knotted P s.file o (suc s.turns)).calling f [] s).by (early_ok s e))

  main_result : (limit : ℕ) (r : Got Flow) → EarlyAt r → ((f : Flow) (s : State) → r ≡ Gives f s → AreOrderlyExternals P.tables s.file P.unit.externals units.no_items) → Result (outcome P.tables limit (then_do r (λ f s. then_do (present (main_number P.tables) s) (λ f. (calls P audible).call f []))))
  main_result limit (Gives f s) e o = number_result limit (main_number P.tables) s e (o f s refl)
  main_result limit (Stops why s) e o = early_result limit _ s e

  start_early : (input : List ℕ) (limit : ℕ) → Early (start input limit)
  start_early input limit = record { calls = refl; last = refl; none = λ a le. refl }

  run_result : IsOrderlyProgram P → (input : List ℕ) (limit : ℕ) → Result (run_heard P input limit)
  run_result o input limit = main_result limit (all_made P audible (start input limit)) (made_early P audible (start input limit) (start_early input limit)) (λ f s e. o input limit f s e)

pub each_call_walks : EachCallWalks
each_call_walks P o input limit a le = (run_result P o input limit).walks a le

pub each_call_leaves : EachCallLeaves
each_call_leaves P o input limit a z le r = (run_result P o input limit).leaves a z le r
