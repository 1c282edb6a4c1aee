-- Each call, from its parameters to its return, is a walk of its function; and the knot, as often as it is tied.
use Rattle.std.proofs.Common.{ℕ, zero, suc, List, [], ◌∷◌, ◌++◌, ◌≡◌, refl, sym, subst, inl, inr, append-nil, length, map, Option, Some, None, Bool, true, false, arith}
use Rattle.std.specs.Prelude.{nat_eq, nat_lt, if◌then◌else◌}
use Rattle.std.proofs.lemmas.Bool.Decides.{nat_tests}
use Rattle.c_syntax.specs.declared.tree.ProbeMark.{ProbeMark}
use Rattle.c_syntax.specs.Shape.{TypeOf, DeclShape, decl, DeclShapes, no_decls, more_decls, DeclaratorShape, declarator, DeclaratorShapes, no_declarators, more_declarators, DeclFormShape, arrays, function, ParamsShape, empty, void, params, CompoundShape, braces, ExternalShape, defined, declared}
use Rattle.c_store.specs.declared.value.Value.{Value}
use Rattle.c_tables.specs.Rows.{row, text_of}
use Rattle.c_walk.specs.declared.around.Around.{Around}
use Rattle.c_walk.specs.Walked.{Walked, with_block}
use Rattle.c_walk.specs.Counted.{next_block}
use Rattle.c_walk.specs.Stating.{with_variable}
use Rattle.c_walk.specs.Units.{function_of, in_function, define_decl, define_parameters, walk_external}
use Rattle.c_meaning.specs.declared.end.Flow.{Flow}
use Rattle.c_meaning.specs.declared.end.Flow.TheVariants.{Next, Break, Continue, Return}
use Rattle.c_meaning.specs.declared.end.Stop.TheVariants as stop
use Rattle.c_meaning.specs.State.{Bound, State, tail_of, with_bound}
use Rattle.c_meaning.specs.Results.{Got, Gives, Stops, then_do, present}
use Rattle.c_meaning.specs.Layout.{variable_kind}
use Rattle.c_meaning.specs.Firsts.{heard, noted_block}
use Rattle.c_meaning.specs.Lasting.{activations}
use Rattle.c_meaning.specs.Knot.{Knot}
use Rattle.c_meaning.specs.Expressions.{log_block}
use Rattle.c_meaning.specs.Declarations.{bind}
use Rattle.c_meaning.specs.Calls.{Source, Routine, given_variable, given, given_params, given_all, past_signature, body_flow, left, result_in, returned, called_found, routine_in, knot}
use Rattle.c_meaning.specs.Runs.{audible}
use Rattle.c_walk.specs.Units as units
use Rattle.flow_walks.specs.declared.action.Action.TheVariants.{Block}
use Rattle.flow_walks.specs.Comes.{Met, act, leave, Comes, ends, emit}
use Rattle.flow_walks.specs.Statements.{compound_goes}
use Rattle.flow_walks.specs.Walks.{parameter_goes, parameters_of, parameter_line, parameter_lines, parameters_go, body_exits, function_goes, externals_go, Goes}
use Rattle.flow_walks.proofs.More.{In}
use Rattle.flow_calls.specs.Orderly.{IsOrderlyFunction, AreOrderlyExternals}
use Rattle.flow_calls.proofs.Nils.{NilExits, compound_nil}
use Rattle.flow_calls.proofs.Adding.{in_call_activations, back_activations, Ok, Kept, Onward, AddsBy, Adds, kept_cut, adds_still, stops_none, adds_from, adds_then, adds_turn, begun, begun_ok, call_kept, kept_left, SilentBy, Silent, silent_stops}
use Rattle.flow_calls.proofs.Parts.{adds_present, adds_make, adds_logs, adds_block}
use Rattle.flow_calls.proofs.Nodes.{Calling}
use Rattle.flow_calls.proofs.Declarations.{scalar_adds}
use Rattle.flow_calls.proofs.Flows.{exit, Turning, compound_adds, turn_adds}

nil_body : NilExits body_exits
nil_body = record { next_nil = tt; broken_nil = tt; continued_nil = tt; returned_nil = tt }

then_assoc : {A B C : Type 0} (r : Got A) (go : A → State → Got B) (on : B → State → Got C) → then_do (then_do r go) on ≡ then_do r (λ a s. then_do (go a s) on)
then_assoc (Gives a s) go on = refl
then_assoc (Stops why s) go on = refl

same_number : (m n : ℕ) → nat_eq m n ≡ true → m ≡ n
same_number m n e = grind (arith, nat_tests)

module _ (P : Source) (F : List Bound) where
  -- ---- parameters

  parameter_nil : (f : ℕ) (d : DeclaratorShape) (w : Walked) (k : Comes) → k [] → parameter_goes P.tables f d w k []
  parameter_nil f (declarator stars x (arrays ls) i) w k h = tt
  parameter_nil f (declarator stars x (function ps) i) w k h = h

  parameters_nil : (f : ℕ) (ds : DeclaratorShapes) (w : Walked) (k : Comes) → k [] → parameters_of P.tables f ds w k []
  parameters_nil f no_declarators w k h = h
  parameters_nil f (more_declarators d rest) w k h = parameter_nil f d w _ (parameters_nil f rest (units.define_declarator P.tables f d w) k h)

  line_nil : (f : ℕ) (d : DeclShape) (w : Walked) (k : Comes) → k [] → parameter_line P.tables f d w k []
  line_nil f (decl p specs names) w k h = parameters_nil f names w k h

  lines_nil : (f : ℕ) (ds : DeclShapes) (w : Walked) (k : Comes) → k [] → parameter_lines P.tables f ds w k []
  lines_nil f no_decls w k h = h
  lines_nil f (more_decls d rest) w k h = line_nil f d w _ (lines_nil f rest (define_decl P.tables f d w) k h)

  param_adds : (d : DeclShape) (c : Around) (w : Walked) (v : Value) (y : TypeOf) (k : Comes) (s : State) → k [] → Adds P F (parameter_line P.tables c.function d w k) s (given_variable P.tables d (heard c w) v y s) (λ f. k)
  param_adds (decl p specs (more_declarators (declarator stars x (arrays ls) e) no_declarators)) c w v y k s h = adds_then P F _ s _ _ _ _ (adds_make P F P.tables y _ s tt) (λ j s.
      let b = bind (suc w.variables) j s in
      adds_from P F _ s b _ _ (record { deeds = refl; last = refl; calls = in_call_activations (with_bound (record { variable = suc w.variables; instance = j })) s.calls; file = refl }) (scalar_adds P F x c (with_variable w) j v k b h))
  param_adds (decl p specs no_declarators) c w v y k s h = stops_none P F _ _ s _ h
  param_adds (decl p specs (more_declarators (declarator stars x (function ps) e) no_declarators)) c w v y k s h = stops_none P F _ _ s _ h
  param_adds (decl p specs (more_declarators (declarator stars x (arrays ls) e) (more_declarators d rest))) c w v y k s h = stops_none P F _ _ s _ tt
  param_adds (decl p specs (more_declarators (declarator stars x (function ps) e) (more_declarators d rest))) c w v y k s h = stops_none P F _ _ s _ (parameters_nil c.function (more_declarators d rest) w k h)

  given_adds : (ds : DeclShapes) (c : Around) (w : Walked) (vs : List Value) (k : Comes) (s : State) → k [] → Adds P F (parameter_lines P.tables c.function ds w k) s (given P.tables ds (heard c w) vs s) (λ f. k)
  given_adds no_decls c w [] k s h = adds_still P F k s _ _ (λ w p. p)
  given_adds no_decls c w (v ∷ vs) k s h = stops_none P F _ k s _ h
  given_adds (more_decls d rest) c w [] k s h = stops_none P F _ _ s _ (lines_nil c.function (more_decls d rest) w k h)
  given_adds (more_decls d rest) c w (v ∷ vs) k s h =
      let all = parameter_lines P.tables c.function (more_decls d rest) w k in
      let u = define_decl P.tables c.function d w in
      adds_then P F all s (present (variable_kind P.tables (suc w.variables)) s) _ (λ y. all) _ (adds_present P F (variable_kind P.tables (suc w.variables)) all s (lines_nil c.function (more_decls d rest) w k h)) (λ y s.
      adds_then P F all s _ _ _ _ (param_adds d c w v y (parameter_lines P.tables c.function rest u k) s (lines_nil c.function rest u k h)) (λ f s. given_adds rest c u vs k s h))

  params_adds : (ps : ParamsShape) (c : Around) (w : Walked) (vs : List Value) (k : Comes) (s : State) → k [] → Adds P F (parameters_go P.tables c.function (function ps) w k) s (given_params P.tables ps (heard c w) vs s) (λ f. k)
  params_adds (params ds) c w vs k s h = given_adds ds c w vs k s h
  params_adds empty c w [] k s h = adds_still P F k s _ _ (λ w p. p)
  params_adds empty c w (v ∷ vs) k s h = stops_none P F _ k s _ h
  params_adds void c w [] k s h = adds_still P F k s _ _ (λ w p. p)
  params_adds void c w (v ∷ vs) k s h = stops_none P F _ k s _ h

  signature_adds : (d : DeclFormShape) (c : Around) (w : Walked) (vs : List Value) (k : Comes) (s : State) → k [] → Adds P F (parameters_go P.tables c.function d w k) s (given_all P.tables d (heard c w) vs s) (λ f. k)
  signature_adds (function ps) c w vs k s h = params_adds ps c w vs k s h
  signature_adds (arrays ls) c w vs k s h = stops_none P F _ k s _ h

  -- ---- a call and its end

  whole_by : (f : ℕ) (s t : State) (j : Comes) → In j (Goes P.tables P.unit f) → Ok P F s → Onward P F j (begun P F f s) t (emit leave ends) → Kept P F true s [] (left t) × (activations (left t).calls ≡ activations s.calls)
  whole_by f s t j g o h = (
    kept_left P F true s t [] (call_kept P F true f s t h.acts h.met o h.kept h.reads (g (h.met ++ leave ∷ []) (h.on (leave ∷ []) (refl, tt)))),
    back_activations tail_of t.calls (suc s.last) (activations s.calls) h.calls,
  )

  cut_by : (f : ℕ) (s t : State) (j : Comes) → In j (Goes P.tables P.unit f) → Ok P F s → Onward P F j (begun P F f s) t ends → Kept P F false s [] t
  cut_by f s t j g o h = call_kept P F false f s t h.acts h.met o (kept_cut P F (begun P F f s) t h.acts h.kept) h.reads (g (h.met ++ []) (h.on [] tt))

  back_by : (f : ℕ) (s : State) (y : TypeOf) (j : Comes) → In j (Goes P.tables P.unit f) → (r : Got Flow) → Ok P F s → AddsBy P F j (begun P F f s) r (exit body_exits) → SilentBy P F s (then_do r (returned y))
  back_by f s y j g (Gives (Return (Some v)) t) o h = whole_by f s t j g o h
  back_by f s y j g (Gives (Return None) t) o h = whole_by f s t j g o h
  back_by f s y j g (Gives Next t) o h = whole_by f s t j g o h
  back_by f s y j g (Gives Break t) o h = cut_by f s t j g o h
  back_by f s y j g (Gives Continue t) o h = cut_by f s t j g o h
  back_by f s y j g (Stops why t) o h = call_kept P F false f s t h.acts h.met o h.kept h.reads (subst (Goes P.tables P.unit f) (sym (append-nil h.met)) (g h.met h.allowed))

  -- where too many calls are active the run stops
  deep_by : (f : ℕ) (s : State) (y : TypeOf) (j : Comes) → In j (Goes P.tables P.unit f) → (b : Bool) (r : Got Flow) (go : Flow → State → Got Flow) → Adds P F j (begun P F f s) (then_do r go) (exit body_exits) → Silent P F s (then_do (if b then r else Stops stop.Depth s) (λ g s. then_do (go g s) (returned y)))
  deep_by f s y j g true r go h = record { by = λ o. subst (SilentBy P F s) (then_assoc r go (returned y)) (back_by f s y j g (then_do r go) o (h.by (begun_ok P F f s o))) }
  deep_by f s y j g false r go h = silent_stops P F _ s

  past_is : (d : DeclFormShape) (c : Around) (w : Walked) → past_signature P.tables d (heard c w) ≡ heard c (define_parameters P.tables c.function d w)
  past_is (function (params ds)) c w = refl
  past_is (function empty) c w = refl
  past_is (function void) c w = refl
  past_is (arrays ls) c w = refl

  module _ (kn : Knot) (calling : Calling P F kn) (n : ℕ) (turning : Turning P F kn n) where
    body_adds : (ms : List ProbeMark) (b : CompoundShape) (f : ℕ) (d : DeclFormShape) (w : Walked) → IsOrderlyFunction P.tables F f d b w → (vs : List Value) (s : State)
        → Adds P F (function_goes P.tables f d b w) s (then_do (given_all P.tables d (heard (in_function f) w) vs s) (λ g s. body_flow P.tables kn ms b (past_signature P.tables d (heard (in_function f) w)) s)) (exit body_exits)
    body_adds ms (braces p ds items) f d w o vs s =
        let c = in_function f in
        let j = define_parameters P.tables f d w in
        let u = with_block p j in
        let inner = compound_goes P.tables c (braces p ds items) u body_exits in
        let nil = compound_nil P.tables c (braces p ds items) u body_exits nil_body in
        adds_then P F _ s _ _ _ _ (signature_adds d c w vs (emit (act (Block (next_block j))) inner) s tt) (λ g s.
        subst (λ i. Adds P F (emit (act (Block (next_block j))) inner) s (body_flow P.tables kn ms (braces p ds items) i s) (exit body_exits)) (sym (past_is d c w))
        (adds_block P F true c j _ s _ _
        (adds_logs P F log_block (map (λ m. m.number) ms) inner (noted_block true (heard c j) s) _ _ (λ m s. record { deeds = refl; last = refl; calls = refl; file = refl }) nil (λ s.
        adds_turn P F inner s _ _ nil (λ s. compound_adds P F kn calling n turning (braces p ds items) c u o body_exits nil_body s)))))

    found_silent : (ms : List ProbeMark) (b : CompoundShape) (f : ℕ) (d : DeclFormShape) (w : Walked) → IsOrderlyFunction P.tables F f d b w → In (function_goes P.tables f d b w) (Goes P.tables P.unit f) → (vs : List Value) (s : State)
        → Silent P F s (called_found P.tables kn f (Some (record { params = d; marks = ms; body = b; first = heard (in_function f) w })) vs s)
    found_silent ms b f d w o g vs s =
        let i = heard (in_function f) w in
        deep_by f s (result_in (row P.tables.functions f)) (function_goes P.tables f d b w) g (nat_lt (length s.calls) 4000) (given_all P.tables d i vs (begun P F f s)) (λ g s. body_flow P.tables kn ms b (past_signature P.tables d i) s) (body_adds ms b f d w o vs (begun P F f s))

    one_silent : (f g : ℕ) (b : Bool) → nat_eq g f ≡ b → (ms : List ProbeMark) (a : CompoundShape) (d : DeclFormShape) (w : Walked) → IsOrderlyFunction P.tables F g d a w → ((v : List Met) → (g ≡ f) → function_goes P.tables f d a w v → Goes P.tables P.unit f v) → (o : Option Routine) (vs : List Value) (s : State)
        → Silent P F s (called_found P.tables kn f o vs s) → Silent P F s (called_found P.tables kn f (if b then Some (record { params = d; marks = ms; body = a; first = heard (in_function f) w }) else o) vs s)
    one_silent f g true e ms a d w og j o vs s h = let same = same_number g f e in found_silent ms a f d w (subst (λ n. IsOrderlyFunction P.tables F n d a w) same og) (λ v p. j v same p) vs s
    one_silent f g false e ms a d w og j o vs s h = h

    -- the function of that number among external declarations
    routine_silent : (c : Around) (es : List ExternalShape) (w : Walked) → AreOrderlyExternals P.tables F es w → (f : ℕ) → In (externals_go P.tables f es w) (Goes P.tables P.unit f) → (vs : List Value) (s : State) → Silent P F s (called_found P.tables kn f (routine_in P.tables f (heard c w) es) vs s)
    routine_silent c [] w o f g vs s = silent_stops P F _ s
    routine_silent c (declared d ∷ rest) w o f g vs s = routine_silent c rest (walk_external P.tables (declared d) w) o f (λ v p. g v (inr p)) vs s
    routine_silent c (defined specs (declarator stars x d e) ms b ∷ rest) w o f g vs s =
        let u = walk_external P.tables (defined specs (declarator stars x d e) ms b) w in
        let n = function_of P.tables (text_of x) in
        one_silent f n (nat_eq n f) refl ms b d w o.0 (λ v same p. g v (inl (same, p))) (routine_in P.tables f (heard c u) rest) vs s (routine_silent c rest u o.1 f (λ v p. g v (inr p)) vs s)

  pub record Knotted (n : ℕ) : Type 1 where
    pub turning : Turning P F (knot P audible n) n
    pub calling : Calling P F (knot P audible n)

  pub knotted : AreOrderlyExternals P.tables F P.unit.externals units.no_items → (n : ℕ) → Knotted n
  knotted o zero = record { turning = λ c f v a w g u of oa og x h s. stops_none P F _ ends s _ tt; calling = λ f vs s. silent_stops P F _ s }
  knotted o (suc n) =
      let k = knotted o n in
      record {
        turning = λ c f v a w g u of oa og x h s. turn_adds P F (knot P audible n) k.calling n k.turning c f v a w g u of oa og x h s;
        calling = λ f vs s. routine_silent (knot P audible n) k.calling n k.turning (in_function 0) P.unit.externals units.no_items o f (λ v p. p) vs s;
      }
