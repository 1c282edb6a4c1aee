-- Calls in a program with its probes do what the calls in the program do, and log what they tell.
use Rattle.std.proofs.Common.{◌≡◌, ℕ, suc, ◌+◌, List, [], ◌∷◌, length, Option, Some, None, Bool, true, false, ◌∙◌, refl, sym, ap, ap₂, subst, arith}
use Rattle.std.specs.Prelude.{nat_lt, nat_eq, if◌then◌else◌}
use Rattle.c_base.specs.declared.place.Pos.{Pos}
use Rattle.c_syntax.specs.Shape.{TypeOf, DeclShape, decl, DeclShapes, no_decls, more_decls, DeclaratorShape, declarator, DeclaratorShapes, no_declarators, more_declarators, DeclFormShape, arrays, function, ParamsShape, empty, void, params, CompoundShape, braces, ItemShapes, ExternalShape, defined, declared}
use Rattle.c_store.specs.declared.value.Value.{Value}
use Rattle.c_tables.specs.Tables.{TablesShape}
use Rattle.c_tables.specs.Rows.{row, first_place, name_pos, text_of}
use Rattle.c_walk.specs.declared.around.Around.{Around}
use Rattle.c_walk.specs.Walked.{Walked, with_block}
use Rattle.c_walk.specs.Stating.{whole, with_variable, walk_compound}
use Rattle.c_walk.specs.Units.{define_declarator, define_declarators, define_decl, define_decls, define_params, define_parameters, function_of, in_function, walk_function, walk_external, walk_externals}
use Rattle.c_meaning.specs.declared.end.Flow.{Flow}
use Rattle.c_meaning.specs.declared.end.Flow.TheVariants.{Next, Break, Continue, Return}
use Rattle.c_meaning.specs.declared.end.Stop.TheVariants as stop
use Rattle.c_meaning.specs.State.{State}
use Rattle.c_meaning.specs.Results.{Stops}
use Rattle.c_meaning.specs.Layout.{variable_kind}
use Rattle.c_meaning.specs.Firsts.{quiet, heard, noted_begun}
use Rattle.c_meaning.specs.Counts.{IsBefore, variables_of, variables_among, decl_variables, decls_variables, params_variables, signature_variables, external_variables, past_param, past_external}
use Rattle.c_meaning.specs.Knot.{Knot}
use Rattle.c_meaning.specs.Declarations.{bind}
use Rattle.c_meaning.specs.Calls.{Routine, routine_in, given_variable, given, given_params, given_all, activated, past_signature, body_flow, result_in, returned, called_routine, called_found}
use Rattle.c_meaning.proofs.Declared.{defined_count, param_count, params_count, external_count}
use Rattle.c_meaning.proofs.Walks.{on_further, block_on, defined_on, param_on, compound_on, externals_on}
use Rattle.probe_rules.specs.Marks.{mark_at}
use Rattle.c_walk.specs.Counted.{next_block}
use Rattle.probe_rules.specs.ProbedStatements.{probed_compound}
use Rattle.probe_rules.specs.Instrumented.{defined_declarator, defined_declarators, defined_decl, defined_decls, defined_params, defined_signature, probed_external, probed_externals}
use Rattle.probe_rules.specs.Fitting.{HasFewItems}
use Rattle.probe_rules.proofs.Ready.{IsDefining, AreDefining, AreReadyParams, IsReadySignature, IsReadyCompound, AreReadyExternals}
use Rattle.probe_rules.proofs.Few.{few_before, few_defs, same_before}
use Rattle.probe_rules.proofs.Told.{as_log, with_log, sim_then, sim_turn, sim_if, sim_present, begun_told, make_sim, scalar_sim}
use Rattle.probe_rules.proofs.Loops.{Follows}
use Rattle.probe_rules.proofs.SameCounts.{compound_same}
use Rattle.probe_rules.proofs.SimStatements.{mark_sim, compound_sim}

-- ---- how many variables are declared

pub defined_same : (t : TablesShape) (f : ℕ) (d : DeclaratorShape) (w : Walked) → variables_of (defined_declarator t f d w) ≡ variables_of d
defined_same t f (declarator stars x (arrays ls) i) w = refl
defined_same t f (declarator stars x (function ps) i) w = refl

all_defined_same : (t : TablesShape) (f : ℕ) (ds : DeclaratorShapes) (w : Walked) → variables_among (defined_declarators t f ds w) ≡ variables_among ds
all_defined_same t f no_declarators w = refl
all_defined_same t f (more_declarators d rest) w = ap₂ (λ m n. m + n) (defined_same t f d w) (all_defined_same t f rest (define_declarator t f d w))

defining_same : (t : TablesShape) (f : ℕ) (d : DeclShape) (w : Walked) → decl_variables (defined_decl t f d w) ≡ decl_variables d
defining_same t f (decl p specs names) w = all_defined_same t f names w

all_defining_same : (t : TablesShape) (f : ℕ) (ds : DeclShapes) (w : Walked) → decls_variables (defined_decls t f ds w) ≡ decls_variables ds
all_defining_same t f no_decls w = refl
all_defining_same t f (more_decls d rest) w = ap₂ (λ m n. m + n) (defining_same t f d w) (all_defining_same t f rest (define_decl t f d w))

params_same : (t : TablesShape) (f : ℕ) (ps : ParamsShape) (w : Walked) → params_variables (defined_params t f ps w) ≡ params_variables ps
params_same t f (params ds) w = all_defining_same t f ds w
params_same t f empty w = refl
params_same t f void w = refl

signature_same : (t : TablesShape) (f : ℕ) (d : DeclFormShape) (w : Walked) → signature_variables (defined_signature t f d w) ≡ signature_variables d
signature_same t f (function ps) w = params_same t f ps w
signature_same t f (arrays ls) w = refl

external_same : (t : TablesShape) (e : ExternalShape) (w : Walked) → external_variables (probed_external t e w) ≡ external_variables e
external_same t (declared d) w = defining_same t 0 d w
external_same t (defined specs (declarator stars x d i) ms (braces p ds items)) w =
    let f = function_of t (text_of x) in
    ap₂ (λ m n. m + n) (signature_same t f d w) (compound_same t (in_function f) (braces p ds items) (with_block p (define_parameters t f d w)))

-- ---- what stands before

pub defined_after : (t : TablesShape) (f : ℕ) (d : DeclaratorShape) (w : Walked) → quiet (w.variables + variables_of (defined_declarator t f d w)) ≡ quiet (define_declarator t f d w).variables
defined_after t f d w = ap quiet (ap (λ m. w.variables + m) (defined_same t f d w) ∙ sym (defined_count t f d w))

param_after : (t : TablesShape) (f : ℕ) (d : DeclShape) (w : Walked) → past_param t (defined_decl t f d w) (quiet w.variables) ≡ quiet (define_decl t f d w).variables
param_after t f d w = ap quiet (ap (λ m. w.variables + m) (defining_same t f d w) ∙ sym (param_count t f d w))

signature_after : (t : TablesShape) (f : ℕ) (d : DeclFormShape) (w : Walked) → past_signature t (defined_signature t f d w) (quiet w.variables) ≡ quiet (define_parameters t f d w).variables
signature_after t f (function ps) w = ap quiet (ap (λ m. w.variables + m) (params_same t f ps w) ∙ sym (params_count t f ps w))
signature_after t f (arrays ls) w = refl

signature_heard : (t : TablesShape) (f : ℕ) (d : DeclFormShape) (w : Walked) → past_signature t d (heard (in_function f) w) ≡ heard (in_function f) (define_parameters t f d w)
signature_heard t f (function ps) w = refl
signature_heard t f (arrays ls) w = refl

pub external_after : (t : TablesShape) (e : ExternalShape) (w : Walked) → past_external t (probed_external t e w) (quiet w.variables) ≡ quiet (walk_external t e w).variables
external_after t e w = ap quiet (ap (λ m. w.variables + m) (external_same t e w) ∙ sym (external_count t e w))

pub all_defined_before : (t : TablesShape) (f : ℕ) (ds : DeclaratorShapes) (w : Walked) → IsBefore w (define_declarators t f ds w)
all_defined_before t f no_declarators w = same_before w
all_defined_before t f (more_declarators d rest) w = let v = define_declarator t f d w in on_further w v (define_declarators t f rest v) (defined_on t f d w) (all_defined_before t f rest v)

defining_before : (t : TablesShape) (f : ℕ) (ds : DeclShapes) (w : Walked) → IsBefore w (define_decls t f ds w)
defining_before t f no_decls w = same_before w
defining_before t f (more_decls d rest) w = let v = define_decl t f d w in on_further w v (define_decls t f rest v) (param_on t f d w) (defining_before t f rest v)

-- ---- parameters

param_sim : (t : TablesShape) (f : ℕ) (d : DeclShape) (w : Walked) (v : Value) (y : TypeOf) (s : State) → IsDefining d → HasFewItems (define_decl t f d w) → given_variable t (defined_decl t f d w) (quiet w.variables) v y (as_log s) ≡ with_log (given_variable t d (heard (in_function f) w) v y s)
param_sim t f (decl p specs (more_declarators (declarator stars x (arrays ls) e) no_declarators)) w v y s clean few =
    sim_then _ _ _ _ (make_sim t y s) (λ j s. scalar_sim x (w.variables + 1) (in_function f) (with_variable w) j v (bind (suc w.variables) j s) clean.0 (few_defs (name_pos first_place x) f (whole t (with_variable w).variables) (with_variable w) few))
param_sim t f (decl p specs no_declarators) w v y s clean few = refl
param_sim t f (decl p specs (more_declarators (declarator stars x (function ps) e) no_declarators)) w v y s clean few = refl
param_sim t f (decl p specs (more_declarators (declarator stars x (arrays ls) e) (more_declarators d rest))) w v y s clean few = refl
param_sim t f (decl p specs (more_declarators (declarator stars x (function ps) e) (more_declarators d rest))) w v y s clean few = refl

given_sim : (t : TablesShape) (f : ℕ) (ds : DeclShapes) (w : Walked) (vs : List Value) (s : State) → AreDefining ds → HasFewItems (define_decls t f ds w) → given t (defined_decls t f ds w) (quiet w.variables) vs (as_log s) ≡ with_log (given t ds (heard (in_function f) w) vs s)
given_sim t f no_decls w [] s clean few = refl
given_sim t f no_decls w (v ∷ vs) s clean few = refl
given_sim t f (more_decls d rest) w [] s clean few = refl
given_sim t f (more_decls d rest) w (v ∷ vs) s clean few =
    let u = define_decl t f d w in
    sim_then _ _ _ _ (sim_present (variable_kind t (suc w.variables)) s) (λ y s.
    sim_then _ _ _ _ (param_sim t f d w v y s clean.0 (few_before (defining_before t f rest u) few)) (λ g s.
    ap (λ z. given t (defined_decls t f rest u) z vs (as_log s)) (param_after t f d w) ∙ given_sim t f rest u vs s clean.1 few))

params_sim : (t : TablesShape) (f : ℕ) (ps : ParamsShape) (w : Walked) (vs : List Value) (s : State) → AreReadyParams ps → HasFewItems (define_params t f ps w) → given_params t (defined_params t f ps w) (quiet w.variables) vs (as_log s) ≡ with_log (given_params t ps (heard (in_function f) w) vs s)
params_sim t f (params ds) w vs s clean few = given_sim t f ds w vs s clean few
params_sim t f empty w [] s clean few = refl
params_sim t f empty w (v ∷ vs) s clean few = refl
params_sim t f void w [] s clean few = refl
params_sim t f void w (v ∷ vs) s clean few = refl

all_sim : (t : TablesShape) (f : ℕ) (d : DeclFormShape) (w : Walked) (vs : List Value) (s : State) → IsReadySignature d → HasFewItems (define_parameters t f d w) → given_all t (defined_signature t f d w) (quiet w.variables) vs (as_log s) ≡ with_log (given_all t d (heard (in_function f) w) vs s)
all_sim t f (function ps) w vs s clean few = params_sim t f ps w vs s clean few
all_sim t f (arrays ls) w vs s clean few = refl

returned_sim : (y : TypeOf) (f : Flow) (s : State) → returned y f (as_log s) ≡ with_log (returned y f s)
returned_sim y (Return (Some v)) s = refl
returned_sim y (Return None) s = refl
returned_sim y Next s = refl
returned_sim y Break s = refl
returned_sim y Continue s = refl

-- ---- functions

-- a function, and the same with its probes
abbrev plain_routine : ℕ → DeclFormShape → CompoundShape → Walked → Routine
plain_routine f d c w = record { params = d; marks = []; body = c; first = heard (in_function f) w }

abbrev probed_routine : TablesShape → ℕ → DeclFormShape → CompoundShape → Walked → Routine
probed_routine t f d (braces p ds items) w =
    let v = define_parameters t f d w in
    record { params = defined_signature t f d w; marks = mark_at p (next_block v) ∷ []; body = probed_compound t (in_function f) (braces p ds items) (with_block p v); first = quiet w.variables }

module _ (t : TablesShape) (k l : Knot) (follows : Follows t k l) where
  body_flow_sim : (c : Around) (p : Pos) (ds : DeclShapes) (items : ItemShapes) (w : Walked) (s : State) → IsReadyCompound (braces p ds items) → HasFewItems (walk_compound t c (braces p ds items) (with_block p w)) → body_flow t k (mark_at p (next_block w) ∷ []) (probed_compound t c (braces p ds items) (with_block p w)) (quiet w.variables) (as_log s) ≡ with_log (body_flow t l [] (braces p ds items) (heard c w) s)
  body_flow_sim c p ds items w s clean few =
      let v = with_block p w in
      mark_sim true p c w s _ _ (few_before (compound_on t c (braces p ds items) v) few) (λ s. sim_turn s _ _ (λ s. compound_sim t k l follows (braces p ds items) c v s clean few))

  routine_sim : (f : ℕ) (d : DeclFormShape) (c : CompoundShape) (w : Walked) (vs : List Value) (s : State) → IsReadySignature d → IsReadyCompound c → HasFewItems (walk_function t f d c w) → called_routine t k f (probed_routine t f d c w) vs (as_log s) ≡ with_log (called_routine t l f (plain_routine f d c w) vs s)
  routine_sim f d (braces p ds items) w vs s clean body few =
      let v = define_parameters t f d w in
      let b = braces p ds items in
      let few_v : HasFewItems v = few_before (block_on p v) (few_before (compound_on t (in_function f) b (with_block p v)) few) in
      sim_then _ _ _ _
      (sim_if (nat_lt (length s.calls) 4000) _ _ (Stops stop.Depth (as_log s)) (Stops stop.Depth s)
      (ap (given_all t (defined_signature t f d w) (quiet w.variables) vs) (begun_told (in_function f) w f (activated f s)) ∙ all_sim t f d w vs (noted_begun (heard (in_function f) w) f (activated f s)) clean few_v) refl) (λ g s.
      sim_then _ _ _ _
      (ap (λ z. body_flow t k (mark_at p (next_block v) ∷ []) (probed_compound t (in_function f) b (with_block p v)) z (as_log s)) (signature_after t f d w)
      ∙ (body_flow_sim (in_function f) p ds items v s body few ∙ ap (λ z. with_log (body_flow t l [] b z s)) (sym (signature_heard t f d w))))
      (λ g s. returned_sim (result_in (row t.functions f)) g s))

  pick_sim : (f n : ℕ) (b : Bool) (d : DeclFormShape) (c : CompoundShape) (w : Walked) (q' q : Option Routine) (vs : List Value) (s : State) → nat_eq n f ≡ b → IsReadySignature d → IsReadyCompound c → HasFewItems (walk_function t n d c w) → called_found t k f q' vs (as_log s) ≡ with_log (called_found t l f q vs s) → called_found t k f (if b then Some (probed_routine t n d c w) else q') vs (as_log s) ≡ with_log (called_found t l f (if b then Some (plain_routine f d c w) else q) vs s)
  pick_sim f n true d c w q' q vs s is clean body few go =
      let same : n ≡ f = grind (arith, is) in
      ap (λ z. called_routine t k f (probed_routine t z d c w) vs (as_log s)) same ∙ routine_sim f d c w vs s clean body (subst (λ z. HasFewItems (walk_function t z d c w)) same few)
  pick_sim f n false d c w q' q vs s is clean body few go = go

  -- the function of that number, if there is one
  pub found_sim : (f : ℕ) (es : List ExternalShape) (c : Around) (w : Walked) (vs : List Value) (s : State) → AreReadyExternals es → HasFewItems (walk_externals t es w) → called_found t k f (routine_in t f (quiet w.variables) (probed_externals t es w)) vs (as_log s) ≡ with_log (called_found t l f (routine_in t f (heard c w) es) vs s)
  found_sim f [] c w vs s clean few = refl
  found_sim f (declared d ∷ rest) c w vs s clean few =
      let u = walk_external t (declared d) w in
      ap (λ z. called_found t k f (routine_in t f z (probed_externals t rest u)) vs (as_log s)) (external_after t (declared d) w) ∙ found_sim f rest c u vs s clean.1 few
  found_sim f (defined specs (declarator stars x d i) (m ∷ ms) b ∷ rest) c w vs s clean few = absurd clean.0.1
  found_sim f (defined specs (declarator stars x d i) [] (braces p ds items) ∷ rest) c w vs s clean few =
      let e = defined specs (declarator stars x d i) [] (braces p ds items) in
      let u = walk_external t e w in
      let n = function_of t (text_of x) in
      pick_sim f n (nat_eq n f) d (braces p ds items) w _ _ vs s refl clean.0.0 clean.0.2 (few_before (externals_on t rest u) few)
      (ap (λ z. called_found t k f (routine_in t f z (probed_externals t rest u)) vs (as_log s)) (external_after t e w) ∙ found_sim f rest c u vs s clean.1 few)
