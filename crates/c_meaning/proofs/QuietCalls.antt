-- The same of calls and runs.
use Rattle.std.proofs.Common.{◌≡◌, ℕ, zero, suc, ◌+◌, List, [], ◌∷◌, length, map, Option, Some, None, Bool, true, false, ◌∙◌, refl, sym, ap}
use Rattle.std.specs.Prelude.{nat_lt, nat_eq, option_map, if◌then◌else◌}
use Rattle.c_syntax.specs.declared.text.Text.{Text}
use Rattle.c_syntax.specs.declared.tree.Named.{Named}
use Rattle.c_syntax.specs.declared.tree.ProbeMark.{ProbeMark}
use Rattle.c_syntax.specs.Shape.{TypeOf, DeclShape, decl, DeclShapes, no_decls, more_decls, DeclaratorShape, declarator, DeclaratorShapes, no_declarators, more_declarators, DeclFormShape, arrays, function, ParamsShape, empty, void, params, MaybeInit, CompoundShape, braces, ExternalShape, defined, declared}
use Rattle.c_store.specs.declared.value.Value.{Value}
use Rattle.c_store.specs.Cells.{made, literal_cells}
use Rattle.c_tables.specs.Tables.{TablesShape}
use Rattle.c_tables.specs.Rows.{row, text_of}
use Rattle.c_walk.specs.Units.{function_of}
use Rattle.c_meaning.specs.declared.end.Flow.{Flow}
use Rattle.c_meaning.specs.declared.end.Flow.TheVariants.{Next, Break, Continue, Return}
use Rattle.c_meaning.specs.declared.end.Stop.TheVariants as stop
use Rattle.c_meaning.specs.State.{State, start}
use Rattle.c_meaning.specs.Results.{Got, Gives, Stops, present}
use Rattle.c_meaning.specs.Layout.{variable_kind}
use Rattle.c_meaning.specs.Firsts.{First, quiet, heard, noted_block, noted_begun, at_block}
use Rattle.c_meaning.specs.Counts.{past_name, past_defined, past_param, past_external}
use Rattle.c_meaning.specs.Knot.{Knot}
use Rattle.c_meaning.specs.Expressions.{log_block}
use Rattle.c_meaning.specs.Declarations.{bind, bind_file, next_variable, file_cells, file_variable, file_name, file_names}
use Rattle.c_meaning.specs.Statements.{compound_flow}
use Rattle.c_meaning.specs.Calls.{Source, Routine, inside_function, routine_in, routine, given_variable, given, given_params, given_all, activated, entered, past_signature, body_flow, result_in, returned, called_found, knot, calls}
use Rattle.c_meaning.specs.Runs.{literals_made, external_made, externals_made, all_made, main_number, main_called, Outcome, outcome, silent, audible, run_heard, run}
use Rattle.c_meaning.proofs.Declared.{defined_count, param_count, params_count, external_count}
use Rattle.c_meaning.proofs.Hushed.{hush, hushed, hush_then, hush_turn, hush_if, hush_present, hush_logs, new_hush, make_hush, whole_hush, scalar_hush}
use Rattle.c_meaning.proofs.Quiet.{quieted, Follows}
use Rattle.c_meaning.proofs.QuietRuns.{block_before, noted_at, compound_quiet, loop_quiet}

-- ---- what stands before a part, quietly

param_before : (t : TablesShape) (d : DeclShape) (i : First) → past_param t d (quieted i) ≡ quieted (past_param t d i)
param_before t d (quiet n) = refl
param_before t d (heard c w) = ap quiet (sym (param_count t c.function d w))

signature_before : (t : TablesShape) (d : DeclFormShape) (i : First) → past_signature t d (quieted i) ≡ quieted (past_signature t d i)
signature_before t (function ps) (quiet n) = refl
signature_before t (function ps) (heard c w) = ap quiet (sym (params_count t c.function ps w))
signature_before t (arrays ls) i = refl

external_before : (t : TablesShape) (e : ExternalShape) (i : First) → past_external t e (quieted i) ≡ quieted (past_external t e i)
external_before t e (quiet n) = refl
external_before t e (heard c w) = ap quiet (sym (external_count t e w))

defined_before : (t : TablesShape) (d : DeclaratorShape) (i : First) → past_defined t d (quieted i) ≡ quieted (past_defined t d i)
defined_before t d (quiet n) = refl
defined_before t d (heard c w) = ap quiet (sym (defined_count t c.function d w))

inside_before : (f : ℕ) (i : First) → inside_function f (quieted i) ≡ quieted (inside_function f i)
inside_before f (quiet n) = refl
inside_before f (heard c w) = refl

-- ---- routines

abbrev pub quiet_routine : Routine → Routine
quiet_routine r = record r { first = quieted r.first }

pick_routine : (b : Bool) (r q : Option Routine) (r' q' : Option Routine) → r ≡ option_map quiet_routine r' → q ≡ option_map quiet_routine q' → (if b then r else q) ≡ option_map quiet_routine (if b then r' else q')
pick_routine true r q r' q' d e = d
pick_routine false r q r' q' d e = e

abbrev routine_of : DeclFormShape → List ProbeMark → CompoundShape → First → Option Routine
routine_of d ms c i = Some (record { params = d; marks = ms; body = c; first = i })

routines_quiet : (t : TablesShape) (f : ℕ) (i : First) (es : List ExternalShape) → routine_in t f (quieted i) es ≡ option_map quiet_routine (routine_in t f i es)
routines_quiet t f i [] = refl
routines_quiet t f i (declared d ∷ rest) = ap (λ z. routine_in t f z rest) (external_before t (declared d) i) ∙ routines_quiet t f (past_external t (declared d) i) rest
routines_quiet t f i (defined specs (declarator stars x d e) ms c ∷ rest) =
    pick_routine (nat_eq (function_of t (text_of x)) f) _ _ (routine_of d ms c (inside_function f i)) (routine_in t f (past_external t (defined specs (declarator stars x d e) ms c) i) rest)
    (ap (routine_of d ms c) (inside_before f i))
    (ap (λ z. routine_in t f z rest) (external_before t (defined specs (declarator stars x d e) ms c) i) ∙ routines_quiet t f (past_external t (defined specs (declarator stars x d e) ms c) i) rest)

-- ---- calls

param_quiet : (t : TablesShape) (d : DeclShape) (i : First) (v : Value) (y : TypeOf) (s : State) → given_variable t d (quieted i) v y (hush s) ≡ hushed (given_variable t d i v y s)
param_quiet t (decl p specs (more_declarators (declarator stars x (arrays ls) e) no_declarators)) (quiet n) v y s =
    hush_then _ _ _ _ (make_hush t y s) (λ j s. scalar_hush x (n + 1) (past_name (quiet n)) j v (bind (suc n) j s))
param_quiet t (decl p specs (more_declarators (declarator stars x (arrays ls) e) no_declarators)) (heard c w) v y s =
    hush_then _ _ _ _ (make_hush t y s) (λ j s. scalar_hush x (w.variables + 1) (past_name (heard c w)) j v (bind (suc w.variables) j s))
param_quiet t (decl p specs no_declarators) i v y s = refl
param_quiet t (decl p specs (more_declarators (declarator stars x (function ps) e) no_declarators)) i v y s = refl
param_quiet t (decl p specs (more_declarators (declarator stars x (arrays ls) e) (more_declarators d rest))) i v y s = refl
param_quiet t (decl p specs (more_declarators (declarator stars x (function ps) e) (more_declarators d rest))) i v y s = refl

kind_at : (t : TablesShape) (i : First) (s : State) → present (variable_kind t (next_variable (quieted i))) (hush s) ≡ hushed (present (variable_kind t (next_variable i)) s)
kind_at t (quiet n) s = hush_present (variable_kind t (suc n)) s
kind_at t (heard c w) s = hush_present (variable_kind t (suc w.variables)) s

given_quiet : (t : TablesShape) (ds : DeclShapes) (i : First) (vs : List Value) (s : State) → given t ds (quieted i) vs (hush s) ≡ hushed (given t ds i vs s)
given_quiet t no_decls i [] s = refl
given_quiet t no_decls i (v ∷ vs) s = refl
given_quiet t (more_decls d rest) i [] s = refl
given_quiet t (more_decls d rest) i (v ∷ vs) s =
    hush_then _ (present (variable_kind t (next_variable i)) s) _ _ (kind_at t i s) (λ y s.
    hush_then _ (given_variable t d i v y s) _ _ (param_quiet t d i v y s) (λ f s. ap (λ z. given t rest z vs (hush s)) (param_before t d i) ∙ given_quiet t rest (past_param t d i) vs s))

params_quiet : (t : TablesShape) (ps : ParamsShape) (i : First) (vs : List Value) (s : State) → given_params t ps (quieted i) vs (hush s) ≡ hushed (given_params t ps i vs s)
params_quiet t (params ds) i vs s = given_quiet t ds i vs s
params_quiet t empty i [] s = refl
params_quiet t empty i (v ∷ vs) s = refl
params_quiet t void i [] s = refl
params_quiet t void i (v ∷ vs) s = refl

all_quiet : (t : TablesShape) (d : DeclFormShape) (i : First) (vs : List Value) (s : State) → given_all t d (quieted i) vs (hush s) ≡ hushed (given_all t d i vs s)
all_quiet t (function ps) i vs s = params_quiet t ps i vs s
all_quiet t (arrays ls) i vs s = refl

begun_at : (i : First) (f : ℕ) (s : State) → noted_begun (quieted i) f (hush s) ≡ hush (noted_begun i f s)
begun_at (quiet n) f s = refl
begun_at (heard c w) f s = refl

entered_quiet : (t : TablesShape) (f : ℕ) (r : Routine) (vs : List Value) (s : State) → entered t f (quiet_routine r) vs (hush s) ≡ hushed (entered t f r vs s)
entered_quiet t f r vs s =
    hush_if (nat_lt (length s.calls) 4000) _ (given_all t r.params r.first vs (noted_begun r.first f (activated f s))) _ (Stops stop.Depth s)
    (ap (given_all t r.params (quieted r.first) vs) (begun_at r.first f (activated f s)) ∙ all_quiet t r.params r.first vs (noted_begun r.first f (activated f s))) refl

returned_quiet : (y : TypeOf) (f : Flow) (s : State) → returned y f (hush s) ≡ hushed (returned y f s)
returned_quiet y (Return (Some v)) s = refl
returned_quiet y (Return None) s = refl
returned_quiet y Next s = refl
returned_quiet y Break s = refl
returned_quiet y Continue s = refl

body_flow_quiet : (t : TablesShape) (k l : Knot) → Follows k l → (ms : List ProbeMark) (c : CompoundShape) (i : First) (s : State) → body_flow t k ms c (quieted i) (hush s) ≡ hushed (body_flow t l ms c i s)
body_flow_quiet t k l follows ms (braces p ds items) i s =
    hush_logs log_block (map (λ m. m.number) ms) (noted_block true (quieted i) (hush s)) (noted_block true i s) _ _ (λ m s. refl) (noted_at true i s) (λ s.
    hush_turn s _ _ (λ s. ap (λ z. compound_flow t k (braces p ds items) z (hush s)) (block_before true p i) ∙ compound_quiet t k l follows (braces p ds items) (at_block true p i) s))

found_quiet : (t : TablesShape) (k l : Knot) → Follows k l → (f : ℕ) (r : Option Routine) (vs : List Value) (s : State) → called_found t k f (option_map quiet_routine r) vs (hush s) ≡ hushed (called_found t l f r vs s)
found_quiet t k l follows f None vs s = refl
found_quiet t k l follows f (Some r) vs s =
    hush_then _ (entered t f r vs s) _ _ (entered_quiet t f r vs s) (λ g s.
    hush_then _ (body_flow t l r.marks r.body (past_signature t r.params r.first) s) _ _
    (ap (λ z. body_flow t k r.marks r.body z (hush s)) (signature_before t r.params r.first) ∙ body_flow_quiet t k l follows r.marks r.body (past_signature t r.params r.first) s)
    (λ g s. returned_quiet (result_in (row t.functions f)) g s))

-- ---- the knot

knots_follow : (P : Source) (i : First) (n : ℕ) → Follows (knot P (quieted i) n) (knot P i n)
knots_follow P i zero = record { call_follows = λ f vs s. refl; again_follows = λ lp s. refl }
knots_follow P i (suc n) =
    let ih = knots_follow P i n in
    record {
      call_follows = λ f vs s.
          ap (λ z. called_found P.tables (knot P (quieted i) n) f z vs (hush s)) (routines_quiet P.tables f i P.unit.externals) ∙ found_quiet P.tables (knot P (quieted i) n) (knot P i n) ih f (routine P i f) vs s;
      again_follows = λ lp s. loop_quiet P.tables (knot P (quieted i) n) (knot P i n) ih lp s;
    }

pub calls_follow : (P : Source) (i : First) → Follows (calls P (quieted i)) (calls P i)
unfolding calls
calls_follow P i = record {
  call_follows = λ f vs s. (knots_follow P i (suc s.turns)).call_follows f vs s;
  again_follows = λ lp s. (knots_follow P i (suc s.turns)).again_follows lp s;
}

-- ---- before main

literals_quiet : (xs : List Text) (s : State) → literals_made xs (hush s) ≡ hushed (literals_made xs s)
literals_quiet [] s = refl
literals_quiet (x ∷ xs) s = hush_then _ _ _ _ (new_hush (made s.store false (literal_cells x)) s) (λ j s. literals_quiet xs s)

file_variable_quiet : (t : TablesShape) (x : Option Named) (init : MaybeInit) (i : First) (k : TypeOf) (s : State) → file_variable t x init (quieted i) k (hush s) ≡ hushed (file_variable t x init i k s)
file_variable_quiet t x init (quiet n) k s = hush_then _ _ _ _ (make_hush t k s) (λ j s. whole_hush t k x (n + 1) (past_name (quiet n)) j (file_cells t (bind_file (suc n) j s).file k init) (bind_file (suc n) j s))
file_variable_quiet t x init (heard c w) k s = hush_then _ _ _ _ (make_hush t k s) (λ j s. whole_hush t k x (w.variables + 1) (past_name (heard c w)) j (file_cells t (bind_file (suc w.variables) j s).file k init) (bind_file (suc w.variables) j s))

file_name_quiet : (t : TablesShape) (d : DeclaratorShape) (i : First) (s : State) → file_name t d (quieted i) (hush s) ≡ hushed (file_name t d i s)
file_name_quiet t (declarator stars x (arrays ls) init) i s = hush_then _ (present (variable_kind t (next_variable i)) s) _ _ (kind_at t i s) (λ k s. file_variable_quiet t x init i k s)
file_name_quiet t (declarator stars x (function ps) init) i s = refl

file_names_quiet : (t : TablesShape) (ds : DeclaratorShapes) (i : First) (s : State) → file_names t ds (quieted i) (hush s) ≡ hushed (file_names t ds i s)
file_names_quiet t no_declarators i s = refl
file_names_quiet t (more_declarators d rest) i s =
    hush_then _ (file_name t d i s) _ _ (file_name_quiet t d i s) (λ f s. ap (λ z. file_names t rest z (hush s)) (defined_before t d i) ∙ file_names_quiet t rest (past_defined t d i) s)

external_quiet : (t : TablesShape) (e : ExternalShape) (i : First) (s : State) → external_made t e (quieted i) (hush s) ≡ hushed (external_made t e i s)
external_quiet t (declared (decl p specs names)) i s = file_names_quiet t names i s
external_quiet t (defined specs d ms c) i s = refl

externals_quiet : (t : TablesShape) (es : List ExternalShape) (i : First) (s : State) → externals_made t es (quieted i) (hush s) ≡ hushed (externals_made t es i s)
externals_quiet t [] i s = refl
externals_quiet t (e ∷ rest) i s =
    hush_then _ (external_made t e i s) _ _ (external_quiet t e i s) (λ f s. ap (λ z. externals_made t rest z (hush s)) (external_before t e i) ∙ externals_quiet t rest (past_external t e i) s)

all_made_quiet : (P : Source) (i : First) (s : State) → all_made P (quieted i) (hush s) ≡ hushed (all_made P i s)
all_made_quiet P i s = hush_then _ _ _ _ (literals_quiet P.tables.literals s) (λ f s. externals_quiet P.tables P.unit.externals i s)

-- ---- runs

main_quiet : (P : Source) (i : First) (k l : Knot) → Follows k l → (s : State) → main_called P (quieted i) k (hush s) ≡ hushed (main_called P i l s)
main_quiet P i k l follows s = hush_then _ (all_made P i s) _ _ (all_made_quiet P i s) (λ f s. hush_then _ (present (main_number P.tables) s) _ _ (hush_present (main_number P.tables) s) (λ f s. follows.call_follows f [] s))

-- nothing is said of what was done
abbrev pub without_deeds : Outcome → Outcome
without_deeds o = record o { deeds = [] }

outcome_quiet : (t : TablesShape) (limit : ℕ) (r : Got (Option Value)) → outcome t limit (hushed r) ≡ without_deeds (outcome t limit r)
outcome_quiet t limit (Gives v s) = refl
outcome_quiet t limit (Stops (stop.Fault why) s) = refl
outcome_quiet t limit (Stops (stop.Exited z) s) = refl
outcome_quiet t limit (Stops stop.Turns s) = refl
outcome_quiet t limit (Stops stop.Depth s) = refl
outcome_quiet t limit (Stops stop.Room s) = refl

-- but for its deeds a run that is heard is the run
pub run_is_quiet : (P : Source) (input : List ℕ) (limit : ℕ) → run P input limit ≡ without_deeds (run_heard P input limit)
run_is_quiet P input limit =
    ap (outcome P.tables limit) (main_quiet P audible (calls P silent) (calls P audible) (calls_follow P audible) (start input limit))
    ∙ outcome_quiet P.tables limit (main_called P audible (calls P audible) (start input limit))
