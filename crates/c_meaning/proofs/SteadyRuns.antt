-- What each step of a run keeps, statements, calls and runs keep.
use Rattle.std.proofs.Common.{◌≡◌, ℕ, zero, suc, ◌≤◌, List, [], ◌∷◌, ◌++◌, length, map, Option, Some, None, Bool, true, false, ◌∙◌, refl, sym, ap, append-nil, append_assoc, arith}
use Rattle.std.specs.Prelude.{nat_lt, ◌||◌, if◌then◌else◌}
use Rattle.c_syntax.specs.declared.text.Text.{Text}
use Rattle.c_syntax.specs.declared.tree.Named.{Named}
use Rattle.c_syntax.specs.declared.tree.ProbeMark.{ProbeMark}
use Rattle.c_syntax.specs.Shape.{TypeOf, int, pointer, array, structure, nothing, NodeShape, MaybeNode, no_node, one_node, DeclShape, decl, DeclShapes, no_decls, more_decls, DeclaratorShape, declarator, DeclaratorShapes, no_declarators, more_declarators, DeclFormShape, arrays, function, ParamsShape, empty, void, params, MaybeInit, no_init, one_init, one, listed, StmtShape, stmt, FormShape, compound, simply, when, either, while, do_while, for, switch, break, continue, return, CompoundShape, braces, ItemShapes, no_items, more_items, ExternalShape, defined, declared}
use Rattle.c_store.specs.declared.value.Value.{Value}
use Rattle.c_store.specs.Cells.{Cells, literal_cells, ended}
use Rattle.c_tables.specs.Tables.{TablesShape}
use Rattle.c_tables.specs.Rows.{row}
use Rattle.c_walk.specs.Stating.{splits, is_labelled}
use Rattle.c_meaning.specs.declared.end.Flow.{Flow}
use Rattle.c_meaning.specs.declared.end.Flow.TheVariants.{Next, Break, Continue, Return}
use Rattle.c_meaning.specs.declared.end.Stop.TheVariants as stop
use Rattle.c_meaning.specs.State.{Bound, State, in_call, opened, tail_of, top_within, with_bound, activation}
use Rattle.c_meaning.specs.Results.{Got, Gives, Stops, then_do, present, needed}
use Rattle.c_meaning.specs.Layout.{cells, variable_kind}
use Rattle.c_meaning.specs.Operators.{converted}
use Rattle.c_meaning.specs.Firsts.{First, in_expression, noted_block, noted_outcome, noted_made, noted_begun, at_block}
use Rattle.c_meaning.specs.Constants.{one_cells, init_cells}
use Rattle.c_meaning.specs.Counts.{past_name, past_def, past_declarator, past_decl, past_decls, past_stmt, past_defined, past_param, past_external}
use Rattle.c_meaning.specs.Knot.{Loop, Knot}
use Rattle.c_meaning.specs.Expressions.{meaning, tested, log_block}
use Rattle.c_meaning.specs.Declarations.{bind, bind_file, next_variable, scalar_written, one_value, initialised, bound_variable, made_variable, declared_variable, declared_name, declared_names, declared_decl, declared_all, file_cells, file_variable, file_name, file_names}
use Rattle.c_meaning.specs.Statements.{Entry, here, ended_all, scope_opened, scope_closed, out_of_switch, after_one, discarded, step_flow, after_body, loop_test, case_number, chosen_entry, flow, form_flow, compound_flow, items_flow, loop_turn, is_reached, passed, while_loop, do_loop}
use Rattle.c_meaning.specs.Calls.{Source, Routine, routine, given_variable, given, given_params, given_all, activated, past_signature, body_flow, result_in, returned, called_found, knot, calls}
use Rattle.c_meaning.specs.Runs.{literals_made, external_made, externals_made, all_made, main_number, main_called}
use Rattle.c_meaning.specs.Lasting.{Lasts, Lasted, Keeps, Steady, IsFront, IsLater}
use Rattle.c_meaning.proofs.Steadily.{at_rest, behind_step, then_kept, call_kept, if_kept, turn_kept, turns_kept, present_kept, needed_kept, logs_kept, block_kept, outcome_kept, made_kept, begun_kept, new_kept, make_kept, whole_kept, scalar_kept}
use Rattle.c_meaning.proofs.SteadyNodes.{node_steady, tested_kept, arm_kept}

-- the instances that end are no new ones
ended_count : (bs : List Bound) (c : Cells) → (ended_all bs c).count ≡ c.count
ended_count [] c = refl
ended_count (b ∷ bs) c = ended_count bs (ended c b.instance)

module _ (R C Q S : State → State → Type 0) (lasts : Lasts R C Q S) where
  closed_kept : (s : State) → R s (scope_closed s)
  closed_kept s =
      let t = record s { store = ended_all (top_within s.calls) s.store } in
      lasts.further s t (scope_closed s) (lasts.kept_in s (ended_all (top_within s.calls) s.store) (omega (arith, ended_count (top_within s.calls) s.store))) (lasts.scoped t tail_of)

  out_kept : (f : Flow) (s : State) → Lasted R Q s (out_of_switch f s)
  out_kept Break s = at_rest R C Q S lasts _ _ (lasts.same s)
  out_kept Next s = at_rest R C Q S lasts _ _ (lasts.same s)
  out_kept Continue s = at_rest R C Q S lasts _ _ (lasts.same s)
  out_kept (Return v) s = at_rest R C Q S lasts _ _ (lasts.same s)

  after_kept : (g : State → Got Flow) (f : Flow) (s : State) → ((s : State) → Lasted R Q s (g s)) → Lasted R Q s (after_one g f s)
  after_kept g Next s go = go s
  after_kept g Break s go = at_rest R C Q S lasts _ _ (lasts.same s)
  after_kept g Continue s go = at_rest R C Q S lasts _ _ (lasts.same s)
  after_kept g (Return v) s go = at_rest R C Q S lasts _ _ (lasts.same s)

  -- a call is left, or its run stops there
  returned_kept : (s : State) (n : ℕ) (y : TypeOf) (f : Flow) (t : State) → R (activated n s) t → Lasted C S s (returned y f t)
  returned_kept s n y (Return (Some v)) t p = record { holds = lasts.whole s n t p }
  returned_kept s n y (Return None) t p = record { holds = lasts.whole s n t p }
  returned_kept s n y Next t p = record { holds = lasts.whole s n t p }
  returned_kept s n y Break t p = record { holds = lasts.call_stop s n t (lasts.stopped (activated n s) t p) }
  returned_kept s n y Continue t p = record { holds = lasts.call_stop s n t (lasts.stopped (activated n s) t p) }

  -- behind its parameters and its body
  back_kept : (s : State) (n : ℕ) (y : TypeOf) (r : Got Flow) → Lasted R Q (activated n s) r → Lasted C S s (then_do r (returned y))
  back_kept s n y (Gives f t) p = returned_kept s n y f t p.holds
  back_kept s n y (Stops why t) p = record { holds = lasts.call_stop s n t p.holds }

  inside_kept : (s : State) (n : ℕ) (y : TypeOf) (r : Got Flow) (g : State → Got Flow) → Lasted R Q (activated n s) r → ((t : State) → Lasted R Q t (g t)) → Lasted C S s (then_do r (λ f t. then_do (g t) (returned y)))
  inside_kept s n y (Gives f t) g p go = back_kept s n y (g t) (behind_step R C Q S lasts (activated n s) t (g t) p.holds (go t))
  inside_kept s n y (Stops why t) g p go = record { holds = lasts.call_stop s n t p.holds }

  -- where too many calls are active the run stops
  deep_kept : (s : State) (n : ℕ) (y : TypeOf) (b : Bool) (r : Got Flow) (g : State → Got Flow) → Lasted R Q (activated n s) r → ((t : State) → Lasted R Q t (g t)) → Lasted C S s (then_do (if b then r else Stops stop.Depth s) (λ f t. then_do (g t) (returned y)))
  deep_kept s n y true r g p go = inside_kept s n y r g p go
  deep_kept s n y false r g p go = record { holds = lasts.not_begun s }

module _ (R C Q S : State → State → Type 0) (lasts : Lasts R C Q S) (t : TablesShape) (k : Knot) (keeps : Keeps R C Q S k) where
  -- ---- declarations

  value_kept : (y : TypeOf) (x : Option Named) (i : First) (j : ℕ) (a : NodeShape) (s : State) → Lasted R Q s (then_do (needed ((meaning t k a).value (in_expression (past_def t x i)) s)) (λ v. scalar_written x i j (converted y v)))
  value_kept y x i j a s = then_kept R C Q S lasts s _ _ (needed_kept R C Q S lasts s _ ((node_steady R C Q S lasts t k keeps a).value_steady (in_expression (past_def t x i)) s)) (λ v s. scalar_kept R C Q S lasts x i j (converted y v) s)

  one_kept : (y : TypeOf) (x : Option Named) (i : First) (j : ℕ) (a : NodeShape) (s : State) → Lasted R Q s (one_value t k y x i j a s)
  one_kept (array y n) x i j a s = whole_kept R C Q S lasts t (array y n) x i j (one_cells t s.file (array y n) a) s
  one_kept (int y) x i j a s = value_kept (int y) x i j a s
  one_kept (pointer y) x i j a s = value_kept (pointer y) x i j a s
  one_kept (structure n) x i j a s = value_kept (structure n) x i j a s
  one_kept nothing x i j a s = value_kept nothing x i j a s

  init_kept : (y : TypeOf) (x : Option Named) (i : First) (j : ℕ) (init : MaybeInit) (s : State) → Lasted R Q s (initialised t k y x i j init s)
  init_kept y x i j no_init s = at_rest R C Q S lasts _ _ (lasts.same s)
  init_kept y x i j (one_init (one a)) s = one_kept y x i j a s
  init_kept y x i j (one_init (listed p items last)) s = whole_kept R C Q S lasts t y x i j (init_cells t s.file y (listed p items last)) s

  bound_kept : (x : Option Named) (init : MaybeInit) (i : First) (y : TypeOf) (j : ℕ) (s : State) → Lasted R Q s (bound_variable t k x init i y j s)
  bound_kept x init i y j s =
      let b = bind (next_variable i) j s in
      behind_step R C Q S lasts s b _ (lasts.scoped s (with_bound (record { variable = next_variable i; instance = j })))
      (behind_step R C Q S lasts b (noted_made i (next_variable i) b) _ (made_kept R C Q S lasts i (next_variable i) b) (init_kept y x (past_name i) j init (noted_made i (next_variable i) b)))

  variable_kept : (x : Option Named) (init : MaybeInit) (i : First) (y : TypeOf) (s : State) → Lasted R Q s (declared_variable t k x init i y s)
  variable_kept x init i y s = turns_kept R C Q S lasts (cells t y) s (made_variable t k x init i y) (λ s. then_kept R C Q S lasts s _ (bound_variable t k x init i y) (make_kept R C Q S lasts t y s) (λ j s. bound_kept x init i y j s))

  name_kept : (d : DeclaratorShape) (i : First) (s : State) → Lasted R Q s (declared_name t k d i s)
  name_kept (declarator stars x (arrays ls) init) i s = then_kept R C Q S lasts s (present (variable_kind t (next_variable i)) s) _ (present_kept R C Q S lasts (variable_kind t (next_variable i)) s) (λ y s. variable_kept x init i y s)
  name_kept (declarator stars x (function ps) init) i s = at_rest R C Q S lasts _ _ (lasts.same s)

  names_kept : (ds : DeclaratorShapes) (i : First) (s : State) → Lasted R Q s (declared_names t k ds i s)
  names_kept no_declarators i s = at_rest R C Q S lasts _ _ (lasts.same s)
  names_kept (more_declarators d rest) i s = then_kept R C Q S lasts s _ _ (name_kept d i s) (λ f s. names_kept rest (past_declarator t d i) s)

  decl_kept : (d : DeclShape) (i : First) (s : State) → Lasted R Q s (declared_decl t k d i s)
  decl_kept (decl p specs names) i s = names_kept names i s

  decls_kept : (ds : DeclShapes) (i : First) (s : State) → Lasted R Q s (declared_all t k ds i s)
  decls_kept no_decls i s = at_rest R C Q S lasts _ _ (lasts.same s)
  decls_kept (more_decls d rest) i s = then_kept R C Q S lasts s _ _ (decl_kept d i s) (λ f s. decls_kept rest (past_decl t d i) s)

  -- ---- statements

  discarded_kept : (e : MaybeNode) (i : First) (s : State) → Lasted R Q s (discarded t k e i s)
  discarded_kept no_node i s = at_rest R C Q S lasts _ _ (lasts.same s)
  discarded_kept (one_node e) i s = then_kept R C Q S lasts s _ _ ((node_steady R C Q S lasts t k keeps e).value_steady (in_expression i) s) (λ v s. at_rest R C Q S lasts _ _ (lasts.same s))

  step_kept : (e : MaybeNode) (i : First) (s : State) → Lasted R Q s (step_flow t k e i s)
  step_kept no_node i s = at_rest R C Q S lasts _ _ (lasts.same s)
  step_kept (one_node e) i s = then_kept R C Q S lasts s _ _ (arm_kept R C Q S lasts e (in_expression i) s (meaning t k e).value (λ j s. (node_steady R C Q S lasts t k keeps e).value_steady j s)) (λ v s. at_rest R C Q S lasts _ _ (lasts.same s))

  body_kept : (lp : Loop) (f : Flow) (s : State) → Lasted R Q s (after_body t k lp f s)
  body_kept lp Next s = then_kept R C Q S lasts s _ _ (step_kept lp.step lp.at_step s) (λ f s. keeps.again_keeps lp s)
  body_kept lp Continue s = then_kept R C Q S lasts s _ _ (step_kept lp.step lp.at_step s) (λ f s. keeps.again_keeps lp s)
  body_kept lp Break s = at_rest R C Q S lasts _ _ (lasts.same s)
  body_kept lp (Return v) s = at_rest R C Q S lasts _ _ (lasts.same s)

  mutual
    pub flow_kept : (b : Bool) (a : StmtShape) (i : First) (s : State) → Lasted R Q s (flow t k b a i s)
    flow_kept b (stmt p ms q f) i s =
        behind_step R C Q S lasts s (noted_block b i s) _ (block_kept R C Q S lasts b i s)
        (logs_kept R C Q S lasts log_block (map (λ m. m.number) ms) (noted_block b i s) _ (λ m s n. lasts.told s _ n) (λ s. turn_kept R C Q S lasts s _ (λ s. form_kept f (at_block b p i) s)))

    form_kept : (f : FormShape) (i : First) (s : State) → Lasted R Q s (form_flow t k f i s)
    form_kept (compound c) i s =
        behind_step R C Q S lasts s (scope_opened s) _ (lasts.scoped s opened) (then_kept R C Q S lasts (scope_opened s) _ _ (compound_kept c i (scope_opened s)) (λ f s. at_rest R C Q S lasts _ _ (closed_kept R C Q S lasts s)))
    form_kept (simply e) i s = discarded_kept e i s
    form_kept (when e a) i s = then_kept R C Q S lasts s _ _ (tested_kept R C Q S lasts e _ (node_steady R C Q S lasts t k keeps e) (in_expression i) s) (λ x s. if_kept R C Q S lasts s x _ (Gives Next s) (flow_kept true a _ s) (at_rest R C Q S lasts _ _ (lasts.same s)))
    form_kept (either e a b) i s = then_kept R C Q S lasts s _ _ (tested_kept R C Q S lasts e _ (node_steady R C Q S lasts t k keeps e) (in_expression i) s) (λ x s. if_kept R C Q S lasts s x _ _ (flow_kept true a _ s) (flow_kept true b _ s))
    form_kept (while e a) i s = keeps.again_keeps (while_loop t e a i) s
    form_kept (do_while a e) i s = then_kept R C Q S lasts s _ _ (flow_kept true a i s) (λ f s. body_kept (do_loop t a e i) f s)
    form_kept (for e f g a) i s = then_kept R C Q S lasts s _ _ (discarded_kept e i s) (λ v s. keeps.again_keeps _ s)
    form_kept (switch e items) i s = then_kept R C Q S lasts s _ _ (needed_kept R C Q S lasts s _ ((node_steady R C Q S lasts t k keeps e).value_steady _ s)) (λ v s.
        behind_step R C Q S lasts s (noted_outcome i (case_number e items v) s) _ (outcome_kept R C Q S lasts i (case_number e items v) s)
        (then_kept R C Q S lasts (noted_outcome i (case_number e items v) s) _ _ (items_kept (chosen_entry e items v) false items _ (noted_outcome i (case_number e items v) s)) (λ f s. out_kept R C Q S lasts f s)))
    form_kept break i s = at_rest R C Q S lasts _ _ (lasts.same s)
    form_kept continue i s = at_rest R C Q S lasts _ _ (lasts.same s)
    form_kept (return no_node) i s = at_rest R C Q S lasts _ _ (lasts.same s)
    form_kept (return (one_node e)) i s = then_kept R C Q S lasts s _ _ (needed_kept R C Q S lasts s _ ((node_steady R C Q S lasts t k keeps e).value_steady (in_expression i) s)) (λ v s. at_rest R C Q S lasts _ _ (lasts.same s))

    pub compound_kept : (c : CompoundShape) (i : First) (s : State) → Lasted R Q s (compound_flow t k c i s)
    compound_kept (braces p ds items) i s = then_kept R C Q S lasts s _ _ (decls_kept ds i s) (λ f s. items_kept here false items (past_decls t ds i) s)

    items_kept : (entry : Entry) (after : Bool) (items : ItemShapes) (i : First) (s : State) → Lasted R Q s (items_flow t k entry after items i s)
    items_kept entry after no_items i s = at_rest R C Q S lasts _ _ (lasts.same s)
    items_kept entry after (more_items labels a rest) i s =
        let b = after || is_labelled labels in
        if_kept R C Q S lasts s (is_reached entry labels) _ _
        (then_kept R C Q S lasts s _ _ (flow_kept b a i s) (λ f s. after_kept R C Q S lasts _ f s (λ s. items_kept here (splits a) rest (past_stmt t b a i) s)))
        (items_kept (passed entry labels) (splits a) rest (past_stmt t b a i) s)

  loop_test_kept : (e : MaybeNode) (i : First) (s : State) → Lasted R Q s (loop_test t k e i s)
  loop_test_kept no_node i s = at_rest R C Q S lasts _ _ (lasts.same s)
  loop_test_kept (one_node e) i s = arm_kept R C Q S lasts e (in_expression i) s (tested e (meaning t k e)) (λ j s. tested_kept R C Q S lasts e _ (node_steady R C Q S lasts t k keeps e) j s)

  loop_kept : (lp : Loop) (s : State) → Lasted R Q s (loop_turn t k lp s)
  loop_kept lp s = then_kept R C Q S lasts s _ _ (loop_test_kept lp.test lp.at_test s) (λ x s.
      if_kept R C Q S lasts s x _ (Gives Next s) (then_kept R C Q S lasts s _ _ (flow_kept true lp.body lp.at_body s) (λ f s. body_kept lp f s)) (at_rest R C Q S lasts _ _ (lasts.same s)))

  body_flow_kept : (ms : List ProbeMark) (c : CompoundShape) (i : First) (s : State) → Lasted R Q s (body_flow t k ms c i s)
  body_flow_kept ms (braces p ds items) i s =
      behind_step R C Q S lasts s (noted_block true i s) _ (block_kept R C Q S lasts true i s)
      (logs_kept R C Q S lasts log_block (map (λ m. m.number) ms) (noted_block true i s) _ (λ m s n. lasts.told s _ n) (λ s. turn_kept R C Q S lasts s _ (λ s. compound_kept (braces p ds items) (at_block true p i) s)))

-- ---- calls

module _ (R C Q S : State → State → Type 0) (lasts : Lasts R C Q S) (t : TablesShape) where
  param_kept : (d : DeclShape) (i : First) (v : Value) (y : TypeOf) (s : State) → Lasted R Q s (given_variable t d i v y s)
  param_kept (decl p specs (more_declarators (declarator stars x (arrays ls) e) no_declarators)) i v y s = then_kept R C Q S lasts s _ _ (make_kept R C Q S lasts t y s) (λ j s.
      behind_step R C Q S lasts s (bind (next_variable i) j s) _ (lasts.scoped s (with_bound (record { variable = next_variable i; instance = j }))) (scalar_kept R C Q S lasts x (past_name i) j v (bind (next_variable i) j s)))
  param_kept (decl p specs no_declarators) i v y s = at_rest R C Q S lasts _ _ (lasts.same s)
  param_kept (decl p specs (more_declarators (declarator stars x (function ps) e) no_declarators)) i v y s = at_rest R C Q S lasts _ _ (lasts.same s)
  param_kept (decl p specs (more_declarators (declarator stars x (arrays ls) e) (more_declarators d rest))) i v y s = at_rest R C Q S lasts _ _ (lasts.same s)
  param_kept (decl p specs (more_declarators (declarator stars x (function ps) e) (more_declarators d rest))) i v y s = at_rest R C Q S lasts _ _ (lasts.same s)

  given_kept : (ds : DeclShapes) (i : First) (vs : List Value) (s : State) → Lasted R Q s (given t ds i vs s)
  given_kept no_decls i [] s = at_rest R C Q S lasts _ _ (lasts.same s)
  given_kept no_decls i (v ∷ vs) s = at_rest R C Q S lasts _ _ (lasts.same s)
  given_kept (more_decls d rest) i [] s = at_rest R C Q S lasts _ _ (lasts.same s)
  given_kept (more_decls d rest) i (v ∷ vs) s =
      then_kept R C Q S lasts s (present (variable_kind t (next_variable i)) s) _ (present_kept R C Q S lasts (variable_kind t (next_variable i)) s) (λ y s.
      then_kept R C Q S lasts s (given_variable t d i v y s) _ (param_kept d i v y s) (λ f s. given_kept rest (past_param t d i) vs s))

  params_kept : (ps : ParamsShape) (i : First) (vs : List Value) (s : State) → Lasted R Q s (given_params t ps i vs s)
  params_kept (params ds) i vs s = given_kept ds i vs s
  params_kept empty i [] s = at_rest R C Q S lasts _ _ (lasts.same s)
  params_kept empty i (v ∷ vs) s = at_rest R C Q S lasts _ _ (lasts.same s)
  params_kept void i [] s = at_rest R C Q S lasts _ _ (lasts.same s)
  params_kept void i (v ∷ vs) s = at_rest R C Q S lasts _ _ (lasts.same s)

  all_kept : (d : DeclFormShape) (i : First) (vs : List Value) (s : State) → Lasted R Q s (given_all t d i vs s)
  all_kept (function ps) i vs s = params_kept ps i vs s
  all_kept (arrays ls) i vs s = at_rest R C Q S lasts _ _ (lasts.same s)

  found_kept : (k : Knot) → Keeps R C Q S k → (f : ℕ) (r : Option Routine) (vs : List Value) (s : State) → Lasted C S s (called_found t k f r vs s)
  found_kept k keeps f None vs s = record { holds = lasts.not_begun s }
  found_kept k keeps f (Some r) vs s =
      let b = noted_begun r.first f (activated f s) in
      deep_kept R C Q S lasts s f (result_in (row t.functions f)) (nat_lt (length s.calls) 4000) (given_all t r.params r.first vs b) (body_flow t k r.marks r.body (past_signature t r.params r.first))
      (behind_step R C Q S lasts (activated f s) b _ (begun_kept R C Q S lasts r.first f (activated f s)) (all_kept r.params r.first vs b)) (λ s. body_flow_kept R C Q S lasts t k keeps r.marks r.body (past_signature t r.params r.first) s)

-- ---- the knot, and runs

module _ (R C Q S : State → State → Type 0) (lasts : Lasts R C Q S) (P : Source) (i : First) where
  knot_keeps : (n : ℕ) → Keeps R C Q S (knot P i n)
  knot_keeps zero = record { call_keeps = λ f vs s. record { holds = lasts.not_begun s }; again_keeps = λ lp s. at_rest R C Q S lasts _ _ (lasts.same s) }
  knot_keeps (suc n) = record {
    call_keeps = λ f vs s. found_kept R C Q S lasts P.tables (knot P i n) (knot_keeps n) f (routine P i f) vs s;
    again_keeps = λ lp s. loop_kept R C Q S lasts P.tables (knot P i n) (knot_keeps n) lp s;
  }

  pub calls_keep : Keeps R C Q S (calls P i)
  unfolding calls
  calls_keep = record { call_keeps = λ f vs s. (knot_keeps (suc s.turns)).call_keeps f vs s; again_keeps = λ lp s. (knot_keeps (suc s.turns)).again_keeps lp s }

  literals_kept : (xs : List Text) (s : State) → Lasted R Q s (literals_made xs s)
  literals_kept [] s = at_rest R C Q S lasts _ _ (lasts.same s)
  literals_kept (x ∷ xs) s = then_kept R C Q S lasts s _ _ (new_kept R C Q S lasts false (literal_cells x) s) (λ j s. literals_kept xs s)

  file_variable_kept : (x : Option Named) (init : MaybeInit) (j : First) (y : TypeOf) (s : State) → Lasted R Q s (file_variable P.tables x init j y s)
  file_variable_kept x init j y s = then_kept R C Q S lasts s _ _ (make_kept R C Q S lasts P.tables y s) (λ n s.
      let b = bind_file (next_variable j) n s in
      behind_step R C Q S lasts s b _ (lasts.named s (record { variable = next_variable j; instance = n } ∷ s.file)) (whole_kept R C Q S lasts P.tables y x (past_name j) n (file_cells P.tables b.file y init) b))

  file_name_kept : (d : DeclaratorShape) (j : First) (s : State) → Lasted R Q s (file_name P.tables d j s)
  file_name_kept (declarator stars x (arrays ls) init) j s =
      then_kept R C Q S lasts s (present (variable_kind P.tables (next_variable j)) s) _ (present_kept R C Q S lasts (variable_kind P.tables (next_variable j)) s) (λ y s. file_variable_kept x init j y s)
  file_name_kept (declarator stars x (function ps) init) j s = at_rest R C Q S lasts _ _ (lasts.same s)

  file_names_kept : (ds : DeclaratorShapes) (j : First) (s : State) → Lasted R Q s (file_names P.tables ds j s)
  file_names_kept no_declarators j s = at_rest R C Q S lasts _ _ (lasts.same s)
  file_names_kept (more_declarators d rest) j s = then_kept R C Q S lasts s (file_name P.tables d j s) _ (file_name_kept d j s) (λ f s. file_names_kept rest (past_defined P.tables d j) s)

  external_kept : (e : ExternalShape) (j : First) (s : State) → Lasted R Q s (external_made P.tables e j s)
  external_kept (declared (decl p specs names)) j s = file_names_kept names j s
  external_kept (defined specs d ms c) j s = at_rest R C Q S lasts _ _ (lasts.same s)

  externals_kept : (es : List ExternalShape) (j : First) (s : State) → Lasted R Q s (externals_made P.tables es j s)
  externals_kept [] j s = at_rest R C Q S lasts _ _ (lasts.same s)
  externals_kept (e ∷ rest) j s = then_kept R C Q S lasts s (external_made P.tables e j s) _ (external_kept e j s) (λ f s. externals_kept rest (past_external P.tables e j) s)

  pub all_made_kept : (s : State) → Lasted R Q s (all_made P i s)
  all_made_kept s = then_kept R C Q S lasts s _ _ (literals_kept P.tables.literals s) (λ f s. externals_kept P.unit.externals i s)

  pub main_kept : (k : Knot) → Keeps R C Q S k → (s : State) → Lasted R Q s (main_called P i k s)
  main_kept k keeps s = then_kept R C Q S lasts s (all_made P i s) _ (all_made_kept s) (λ f s.
      then_kept R C Q S lasts s (present (main_number P.tables) s) _ (present_kept R C Q S lasts (main_number P.tables) s) (λ f s. call_kept R C Q S lasts s _ (keeps.call_keeps f [] s)))

-- ---- a later state

front_same : {A : Type 0} (xs : List A) → IsFront xs xs
front_same xs = record { rest = []; is = append-nil xs }

front_of : {A : Type 0} (xs ys : List A) → IsFront xs (xs ++ ys)
front_of xs ys = record { rest = ys; is = refl }

front_further : {A : Type 0} (xs ys zs : List A) → IsFront xs ys → IsFront ys zs → IsFront xs zs
front_further xs ys zs f g = record { rest = f.rest ++ g.rest; is = sym (append_assoc xs f.rest g.rest) ∙ ap (λ l. l ++ g.rest) f.is ∙ g.is }

alike : (s t : State) → s.output ≡ t.output → s.deeds ≡ t.deeds → s.log ≡ t.log → t.turns ≤ s.turns → s.store.count ≤ t.store.count → s.last ≤ t.last → IsLater s t
alike s t a b c turns made last = record {
  output = record { rest = []; is = append-nil s.output ∙ a };
  deeds = record { rest = []; is = append-nil s.deeds ∙ b };
  log = record { rest = []; is = append-nil s.log ∙ c };
  turns = turns;
  made = made;
  last = last;
}

later_further : (s t u : State) → IsLater s t → IsLater t u → IsLater s u
later_further s t u p q = record {
  output = front_further s.output t.output u.output p.output q.output;
  deeds = front_further s.deeds t.deeds u.deeds p.deeds q.deeds;
  log = front_further s.log t.log u.log p.log q.log;
  turns = omega (arith, p.turns, q.turns);
  made = omega (arith, p.made, q.made);
  last = omega (arith, p.last, q.last);
}

-- time goes on in each step
pub later_lasts : Lasts IsLater IsLater IsLater IsLater
later_lasts = record {
  same = λ s. alike s s refl refl refl (omega arith) (omega arith) (omega arith);
  further = later_further;
  turned = λ s n le. alike s (record s { turns = n }) refl refl refl le (omega arith) (omega arith);
  kept_in = λ s c le. alike s (record s { store = c }) refl refl refl (omega arith) le (omega arith);
  read = λ s bs. alike s (record s { input = bs }) refl refl refl (omega arith) (omega arith) (omega arith);
  put = λ s bs. record { output = front_of s.output bs; deeds = front_same s.deeds; log = front_same s.log; turns = omega arith; made = omega arith; last = omega arith };
  done = λ s a. record { output = front_same s.output; deeds = front_of s.deeds (record { activation = activation s; act = a } ∷ []); log = front_same s.log; turns = omega arith; made = omega arith; last = omega arith };
  told = λ s e n. record { output = front_same s.output; deeds = front_same s.deeds; log = front_of s.log (e ∷ []); turns = omega arith; made = omega arith; last = omega arith };
  named = λ s bs. alike s (record s { file = bs }) refl refl refl (omega arith) (omega arith) (omega arith);
  scoped = λ s f. alike s (record s { calls = in_call f s.calls }) refl refl refl (omega arith) (omega arith) (omega arith);
  whole = λ s f t p. record {
    output = p.output;
    deeds = p.deeds;
    log = p.log;
    turns = p.turns;
    made = omega (arith, p.made, ended_count (top_within t.calls) t.store);
    last = omega (arith, p.last);
  };
  called = λ s t p. p;
  stopped = λ s t p. p;
  further_stop = later_further;
  call_stop = λ s f t p. record { output = p.output; deeds = p.deeds; log = p.log; turns = p.turns; made = p.made; last = omega (arith, p.last) };
  not_begun = λ s. alike s s refl refl refl (omega arith) (omega arith) (omega arith);
  inside_stop = λ s t p. p;
}

-- nothing that an expression, a statement, a call or a loop did is taken back
pub node_later : (P : Source) (i : First) (e : NodeShape) → Steady IsLater IsLater (meaning P.tables (calls P i) e)
node_later P i e = node_steady IsLater IsLater IsLater IsLater later_lasts P.tables (calls P i) (calls_keep IsLater IsLater IsLater IsLater later_lasts P i) e

pub flow_later : (P : Source) (i : First) (b : Bool) (a : StmtShape) (j : First) (s : State) → Lasted IsLater IsLater s (flow P.tables (calls P i) b a j s)
flow_later P i b a j s = flow_kept IsLater IsLater IsLater IsLater later_lasts P.tables (calls P i) (calls_keep IsLater IsLater IsLater IsLater later_lasts P i) b a j s

pub calls_later : (P : Source) (i : First) → Keeps IsLater IsLater IsLater IsLater (calls P i)
calls_later P i = calls_keep IsLater IsLater IsLater IsLater later_lasts P i

pub main_later : (P : Source) (i : First) (s : State) → Lasted IsLater IsLater s (main_called P i (calls P i) s)
main_later P i s = main_kept IsLater IsLater IsLater IsLater later_lasts P i (calls P i) (calls_later P i) s
