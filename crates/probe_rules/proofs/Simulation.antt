-- A run of a program with its probes is the program's own run, and its log is what is told of that.
use Rattle.std.proofs.Common.{◌≡◌, ℕ, zero, suc, ◌+◌, ◌<◌, List, [], ◌∷◌, Option, false, ◌∙◌, refl, ap}
use Rattle.c_syntax.specs.declared.text.Text.{Text}
use Rattle.c_syntax.specs.declared.tree.Named.{Named}
use Rattle.c_syntax.specs.Shape.{TypeOf, decl, DeclaratorShape, declarator, DeclaratorShapes, no_declarators, more_declarators, arrays, function, MaybeInit, braces, ExternalShape, defined, declared}
use Rattle.c_store.specs.declared.value.Value.{Value}
use Rattle.c_store.specs.Cells.{made, literal_cells}
use Rattle.c_tables.specs.Tables.{TablesShape}
use Rattle.c_tables.specs.Rows.{first_place, name_pos}
use Rattle.c_walk.specs.Walked.{Walked}
use Rattle.c_walk.specs.Stating.{whole, with_variable}
use Rattle.c_walk.specs.Units.{define_declarator, define_declarators, in_function, walk_external, walk_externals, no_items}
use Rattle.c_meaning.specs.declared.end.Stop.TheVariants as stop
use Rattle.c_meaning.specs.State.{State, start}
use Rattle.c_meaning.specs.Results.{Got, Gives, Stops}
use Rattle.c_meaning.specs.Layout.{variable_kind}
use Rattle.c_meaning.specs.Firsts.{quiet, heard}
use Rattle.c_walk.specs.Counted.{def_count}
use Rattle.c_meaning.specs.Declarations.{bind_file, file_cells, file_variable, file_name, file_names}
use Rattle.c_meaning.specs.Calls.{Source, knot, calls}
use Rattle.c_meaning.specs.Runs.{literals_made, external_made, externals_made, all_made, main_number, main_called, outcome, silent, audible}
use Rattle.c_meaning.proofs.Walks.{externals_on}
use Rattle.probe_rules.specs.Marks.{defined_name}
use Rattle.probe_rules.specs.Instrumented.{defined_declarator, defined_declarators, probed_external, probed_externals, instrumented}
use Rattle.probe_rules.specs.Fitting.{HasFewItems}
use Rattle.probe_rules.proofs.Ready.{IsNamed, IsDefined, AreDefined, IsReadyExternal, AreReadyExternals, IsReadyUnit}
use Rattle.probe_rules.specs.Simulation.{as_logged, all_walked, InstrumentedSimulates}
use Rattle.probe_rules.proofs.Few.{few_before, few_defs}
use Rattle.probe_rules.proofs.ReadyUnits.{unit_ready}
use Rattle.probe_rules.proofs.Told.{as_log, with_log, sim_then, sim_present, new_sim, make_sim, whole_sim}
use Rattle.probe_rules.proofs.Loops.{Follows}
use Rattle.probe_rules.proofs.SimStatements.{loop_sim}
use Rattle.probe_rules.proofs.SimCalls.{defined_after, all_defined_before, external_after, found_sim}

-- ---- the knot

module _ (digest : Text) (P : Source) (clean : IsReadyUnit P.unit) (few : HasFewItems (all_walked P)) where
  knots_follow : (n : ℕ) → Follows P.tables (knot (instrumented digest P) silent n) (knot P audible n)
  knots_follow zero = record { call_follows = λ f vs s. refl; again_follows = λ h is s. refl }
  knots_follow (suc n) =
      let ih = knots_follow n in
      let k = knot (instrumented digest P) silent n in
      let l = knot P audible n in
      record {
        call_follows = λ f vs s. found_sim P.tables k l ih f P.unit.externals (in_function 0) no_items vs s clean few;
        again_follows = λ h is s. loop_sim P.tables k l ih h is s;
      }

  calls_follow : Follows P.tables (calls (instrumented digest P) silent) (calls P audible)
  unfolding calls
  calls_follow = record {
    call_follows = λ f vs s. (knots_follow (suc s.turns)).call_follows f vs s;
    again_follows = λ h is s. (knots_follow (suc s.turns)).again_follows h is s;
  }

-- ---- before main

literals_sim : (xs : List Text) (s : State) → literals_made xs (as_log s) ≡ with_log (literals_made xs s)
literals_sim [] s = refl
literals_sim (x ∷ xs) s = sim_then _ _ _ _ (new_sim (made s.store false (literal_cells x)) s) (λ j s. literals_sim xs s)

variable_sim : (t : TablesShape) (x : Option Named) (init : MaybeInit) (w : Walked) (k : TypeOf) (s : State) → IsNamed x → def_count w.items < 16383 → file_variable t (defined_name x (with_variable w)) init (quiet w.variables) k (as_log s) ≡ with_log (file_variable t x init (heard (in_function 0) w) k s)
variable_sim t x init w k s named below = sim_then _ _ _ _ (make_sim t k s) (λ j s.
    let z = bind_file (suc w.variables) j s in
    whole_sim t k x (w.variables + 1) (in_function 0) (with_variable w) j (file_cells t z.file k init) z named below)

name_sim : (t : TablesShape) (d : DeclaratorShape) (w : Walked) (s : State) → IsDefined d → HasFewItems (define_declarator t 0 d w) → file_name t (defined_declarator t 0 d w) (quiet w.variables) (as_log s) ≡ with_log (file_name t d (heard (in_function 0) w) s)
name_sim t (declarator stars x (arrays ls) init) w s clean few =
    sim_then _ _ _ _ (sim_present (variable_kind t (suc w.variables)) s) (λ k s. variable_sim t x init w k s clean (few_defs (name_pos first_place x) 0 (whole t (with_variable w).variables) (with_variable w) few))
name_sim t (declarator stars x (function ps) init) w s clean few = refl

names_sim : (t : TablesShape) (ds : DeclaratorShapes) (w : Walked) (s : State) → AreDefined ds → HasFewItems (define_declarators t 0 ds w) → file_names t (defined_declarators t 0 ds w) (quiet w.variables) (as_log s) ≡ with_log (file_names t ds (heard (in_function 0) w) s)
names_sim t no_declarators w s clean few = refl
names_sim t (more_declarators d rest) w s clean few =
    let v = define_declarator t 0 d w in
    sim_then _ _ _ _ (name_sim t d w s clean.0 (few_before (all_defined_before t 0 rest v) few)) (λ f s.
    ap (λ z. file_names t (defined_declarators t 0 rest v) z (as_log s)) (defined_after t 0 d w) ∙ names_sim t rest v s clean.1 few)

external_sim : (t : TablesShape) (e : ExternalShape) (w : Walked) (s : State) → IsReadyExternal e → HasFewItems (walk_external t e w) → external_made t (probed_external t e w) (quiet w.variables) (as_log s) ≡ with_log (external_made t e (heard (in_function 0) w) s)
external_sim t (declared (decl p specs names)) w s clean few = names_sim t names w s clean few
external_sim t (defined specs (declarator stars x d i) ms (braces p ds items)) w s clean few = refl

externals_sim : (t : TablesShape) (es : List ExternalShape) (w : Walked) (s : State) → AreReadyExternals es → HasFewItems (walk_externals t es w) → externals_made t (probed_externals t es w) (quiet w.variables) (as_log s) ≡ with_log (externals_made t es (heard (in_function 0) w) s)
externals_sim t [] w s clean few = refl
externals_sim t (e ∷ rest) w s clean few =
    let v = walk_external t e w in
    sim_then _ _ _ _ (external_sim t e w s clean.0 (few_before (externals_on t rest v) few)) (λ f s.
    ap (λ z. externals_made t (probed_externals t rest v) z (as_log s)) (external_after t e w) ∙ externals_sim t rest v s clean.1 few)

all_made_sim : (digest : Text) (P : Source) (s : State) → IsReadyUnit P.unit → HasFewItems (all_walked P) → all_made (instrumented digest P) silent (as_log s) ≡ with_log (all_made P audible s)
all_made_sim digest P s clean few = sim_then _ _ _ _ (literals_sim P.tables.literals s) (λ f s. externals_sim P.tables P.unit.externals no_items s clean few)

-- ---- runs

outcome_sim : (t : TablesShape) (limit : ℕ) (r : Got (Option Value)) → outcome t limit (with_log r) ≡ as_logged (outcome t limit r)
outcome_sim t limit (Gives v s) = refl
outcome_sim t limit (Stops (stop.Fault why) s) = refl
outcome_sim t limit (Stops (stop.Exited z) s) = refl
outcome_sim t limit (Stops stop.Turns s) = refl
outcome_sim t limit (Stops stop.Depth s) = refl
outcome_sim t limit (Stops stop.Room s) = refl

main_sim : (digest : Text) (P : Source) (s : State) → IsReadyUnit P.unit → HasFewItems (all_walked P) → main_called (instrumented digest P) silent (calls (instrumented digest P) silent) (as_log s) ≡ with_log (main_called P audible (calls P audible) s)
main_sim digest P s clean few =
    sim_then _ _ _ _ (all_made_sim digest P s clean few) (λ f s. sim_then _ _ _ _ (sim_present (main_number P.tables) s) (λ f s. (calls_follow digest P clean few).call_follows f [] s))

-- a program with its probes prints, ends and faults as the program does, in as many turns, and logs the program's events
pub simulates : InstrumentedSimulates
simulates digest P plain fit few input limit =
    let clean = unit_ready P.unit plain fit in
    ap (outcome P.tables limit) (main_sim digest P (start input limit) clean few) ∙ outcome_sim P.tables limit (main_called P audible (calls P audible) (start input limit))
