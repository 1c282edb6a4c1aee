-- Each definition and use of a run is in place, and its pairs are listed.
use Rattle.std.proofs.Common.{ℕ, suc, List, [], ◌≡◌, refl, sym, subst, arith, Option, Some, None}
use Rattle.c_store.specs.declared.value.Value.{Value}
use Rattle.c_walk.specs.Units as units
use Rattle.c_meaning.specs.declared.end.Flow.{Flow}
use Rattle.c_meaning.specs.State.{Bound, State, start}
use Rattle.c_meaning.specs.Results.{Got, Gives, Stops, then_do, present}
use Rattle.c_meaning.specs.Calls.{Source, knot, calls}
use Rattle.c_meaning.specs.Runs.{main_number, all_made, outcome, audible, run_heard}
use Rattle.flow_calls.proofs.Laws as walking
use Rattle.flow_calls.specs.Placing.{Sites}
use Rattle.flow_calls.proofs.Lists.{longer}
use Rattle.flow_calls.proofs.Pairs as pairs
use Rattle.flow_places.specs.Declared.{AreSitesOf, AreSitedExternals}
use Rattle.flow_places.specs.Laws.{RunsAreInPlace, RunPairsAreListed}
use Rattle.flow_places.proofs.Bound.{Falling, AllBound, newest_at}
use Rattle.flow_places.proofs.Finished.{AreRight, none_finished}
use Rattle.flow_places.proofs.Good.{Good}
use Rattle.flow_places.proofs.Safe.{Any, GoodAt}
use Rattle.flow_places.proofs.Early.{Early, EarlyAt, made_early}
use Rattle.flow_places.proofs.Routines.{knotted}

module _ (S : Sites) (P : Source) where
  early_good : (s : State) → Early S s → Good S s.file s
  early_good s e = record {
    right = e.right;
    counted = newest_at S 1 (suc s.store.count) s.deeds (omega arith) e.counted;
    bound = subst (AllBound S s.deeds) (sym e.calls) tt;
    falling = subst (Falling (suc s.last)) (sym e.calls) tt;
    file = refl;
  }

  call_placed : (F : List Bound) (limit : ℕ) (s : State) (r : Got (Option Value)) → GoodAt S F s r Any → AreRight S (outcome P.tables limit r).deeds
  call_placed F limit s (Gives v t) h = h.0.right
  call_placed F limit s (Stops why t) h = h

  number_placed : (limit : ℕ) (o : Option ℕ) (s : State) → Early S s → AreSitedExternals S s.file P.tables P.unit.externals units.no_items → AreRight S (outcome P.tables limit (then_do (present o s) (λ f. (calls P audible).call f []))).deeds
  unfolding calls
  number_placed limit None s e o = e.right
  number_placed limit (Some f) s e o = call_placed s.file limit s ((knot P audible (suc s.turns)).call f [] s) (((knotted S s.file P o (suc s.turns)).over f [] s).by (early_good s e))

  main_placed : (limit : ℕ) (r : Got Flow) → EarlyAt S r → ((f : Flow) (s : State) → r ≡ Gives f s → AreSitedExternals S s.file P.tables P.unit.externals units.no_items)
      → AreRight S (outcome P.tables limit (then_do r (λ f s. then_do (present (main_number P.tables) s) (λ f. (calls P audible).call f [])))).deeds
  main_placed limit (Gives f s) e o = number_placed limit (main_number P.tables) s e (o f s refl)
  main_placed limit (Stops why s) e o = e.right

  start_early : (input : List ℕ) (limit : ℕ) → Early S (start input limit)
  start_early input limit = record { calls = refl; right = (λ p q d e. absurd (longer p q d e), none_finished S); counted = λ p q d e. absurd (longer p q d e) }

  run_placed : AreSitesOf P S → (input : List ℕ) (limit : ℕ) → AreRight S (run_heard P input limit).deeds
  run_placed h input limit = main_placed limit (all_made P audible (start input limit)) (made_early S P units.no_items (start input limit) h.outside (start_early input limit)) (λ f s e. h.inside input limit f s e)

pub runs_are_in_place : RunsAreInPlace
runs_are_in_place P S h input limit = run_placed S P h input limit

pub run_pairs_are_listed : RunPairsAreListed
run_pairs_are_listed P S orderly h input limit d u v r dv ur same pair =
    let right = run_placed S P h input limit in
    pairs.pairs_are_listed P S _ right.0 right.1 (λ a le. walking.each_call_walks P orderly input limit a le) d u v r dv ur same pair
