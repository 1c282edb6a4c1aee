-- The parts of a run, one behind the other.
use Rattle.std.proofs.Common.{◌≡◌, ℕ, ◌-◌, List, [], Option, Some, None, refl, sym, ap, subst, ◌∙◌}
use Rattle.c_events.specs.declared.events.Event.{Event}
use Rattle.c_store.specs.declared.value.Value.{Value}
use Rattle.c_tables.specs.Tables.{TablesShape, tables_shape}
use Rattle.c_tree.specs.declared.program.Program.{Program}
use Rattle.c_meaning.specs.declared.end.Stop.{Stop}
use Rattle.c_meaning.specs.declared.end.Flow.{Flow}
use Rattle.c_meaning.specs.declared.end.Flow.TheVariants.{Next}
use Rattle.c_meaning.specs.declared.end.End.{End}
use Rattle.c_meaning.specs.State.{State, start}
use Rattle.c_meaning.specs.Results.{Got, Gives, Stops, then_do, untyped, present}
use Rattle.c_meaning.specs.Knot.{Knot}
use Rattle.c_meaning.specs.Calls.{Source, calls}
use Rattle.c_meaning.specs.Lasting.{IsFront, IsLater, Lasted}
use Rattle.c_meaning.specs.Runs.{all_made, main_number, main_called, silent, outcome, outcome_at, run}
use Rattle.c_meaning.proofs.SteadyRuns.{later_lasts, calls_later}
use Rattle.c_meaning.proofs.Steadily.{at_rest}
use Rattle.c_world.specs.World.{answered}
use Rattle.c_eval.specs.Advance.{Grown, log_of}
use Rattle.c_meaning.specs.Sources.{source_of}
use Rattle.c_machine.specs.Todo.{knot_of}
use Rattle.c_eval.proofs.Advanced.{grown_then}
use Rattle.c_machine.specs.declared.running.Ended.{Ended}
use Rattle.c_machine.specs.declared.running.Ended.TheVariants as ended
use Rattle.c_machine.specs.Run.{ended_as, end_as}

-- ---- a front of a log

same_front : {A : Type 0} (l : List Event) (r q : Got A) → r ≡ q → Grown l q → Grown l r
same_front l r q e g = subst (λ r. Grown l r) (sym e) g

answered_front : (l : List Event) (r : Option Stop) (s : State) → IsFront l s.log → Grown l (answered r s)
answered_front l None s f = record { front = f }
answered_front l (Some why) s f = record { front = f }

pub answered_grown : (l : List Event) (q : Got Flow) (r : Option Stop) (s : State) → q ≡ answered r s → IsFront l s.log → Grown l q
answered_grown l q r s e f = same_front l q (answered r s) e (answered_front l r s f)

pub same_grown : {A : Type 0} (l : List Event) (r q : Got A) → r ≡ q → Grown l q → Grown l r
same_grown l r q e g = same_front l r q e g

-- ---- main

module _ (P : Source) (k : Knot) (s u : State) where
  pub main_stops : (why : Stop) → all_made P silent s ≡ Stops why u → main_called P silent k s ≡ Stops why u
  main_stops why e = ap (λ r. then_do r (λ f s. then_do (present (main_number P.tables) s) (λ f. k.call f []))) e

  pub main_none : all_made P silent s ≡ Gives Next u → None ≡ main_number P.tables → main_called P silent k s ≡ untyped u
  main_none e n = ap (λ r. then_do r (λ f s. then_do (present (main_number P.tables) s) (λ f. k.call f []))) e ∙ ap (λ m. then_do (present m u) (λ f. k.call f [])) (sym n)

  pub main_goes : (f : ℕ) → all_made P silent s ≡ Gives Next u → Some f ≡ main_number P.tables → main_called P silent k s ≡ k.call f [] u
  main_goes f e n = ap (λ r. then_do r (λ f s. then_do (present (main_number P.tables) s) (λ f. k.call f []))) e ∙ ap (λ m. then_do (present m u) (λ f. k.call f [])) (sym n)

main_part : (P : Source) (s : State) (n : Option ℕ) → Lasted IsLater IsLater s (then_do (present n s) (λ f. (calls P silent).call f []))
main_part P s None = at_rest IsLater IsLater IsLater IsLater later_lasts _ _ (later_lasts.same s)
main_part P s (Some f) = (calls_later P silent).call_keeps f [] s

-- what was logged while all was made is a front of the whole run's log
pub main_grown : (P : Source) (l : List Event) (s : State) → Grown l (all_made P silent s) → Grown l (main_called P silent (calls P silent) s)
main_grown P l s g = grown_then l (all_made P silent s) (λ f s. then_do (present (main_number P.tables) s) (λ f. (calls P silent).call f [])) g (λ f s. main_part P s (main_number P.tables))

-- ---- the outcome

pub outcome_ended : (t : TablesShape) (limit : ℕ) (e : Ended) (s : State) → outcome t limit (ended_as e s) ≡ outcome_at limit (end_as t e s) s
outcome_ended t limit (ended.Returned v) s = refl
outcome_ended t limit (ended.Stopped why) s = refl

outcome_log : (t : TablesShape) (limit : ℕ) (r : Got (Option Value)) → (outcome t limit r).log ≡ log_of r
outcome_log t limit (Gives v s) = refl
outcome_log t limit (Stops why s) = refl

ended_front : (l : List Event) (e : Ended) (u : State) → IsFront l u.log → Grown l (ended_as e u)
ended_front l (ended.Returned v) u f = record { front = f }
ended_front l (ended.Stopped why) u f = record { front = f }

pub ended_grown : (l : List Event) (q : Got (Option Value)) (e : Ended) (u : State) → q ≡ ended_as e u → IsFront l u.log → Grown l q
ended_grown l q e u is f = same_front l q (ended_as e u) is (ended_front l e u f)

module _ (p q : Program) (input : List ℕ) (limit : ℕ) (s : State) (same : q ≡ p) (begins : s ≡ start input limit) where
  called_same : main_called (source_of p) silent (knot_of p) (start input limit) ≡ main_called (source_of q) silent (knot_of q) s
  called_same = sym (ap (λ p. main_called (source_of p) silent (knot_of p) s) same ∙ ap (main_called (source_of p) silent (knot_of p)) begins)

  pub run_front : (l : List Event) → Grown l (main_called (source_of q) silent (knot_of q) s) → IsFront l (run (source_of p) input limit).log
  run_front l g = subst (λ log. IsFront l log) (sym (outcome_log (tables_shape p.tables) limit (main_called (source_of p) silent (knot_of p) (start input limit)))) (same_front l _ _ called_same g).front

  pub run_is : (e : Ended) (u : State) → main_called (source_of q) silent (knot_of q) s ≡ ended_as e u → run (source_of p) input limit ≡ outcome_at limit (end_as (tables_shape p.tables) e u) u
  run_is e u is = ap (outcome (tables_shape p.tables) limit) (called_same ∙ is) ∙ outcome_ended (tables_shape p.tables) limit e u

pub outcome_is : (limit n : ℕ) (a e : End) (u : State) (out : List ℕ) (l : List Event) → out ≡ u.output → n ≡ limit - u.turns → e ≡ a → u.deeds ≡ [] → u.log ≡ l → outcome_at limit a u ≡ record { output = out; turns = n; end = e; deeds = []; log = l }
outcome_is limit n a e u out l o t i d g = rw (o, t, i, sym d, sym g) refl
