-- What names stand for is the same behind each call of a program.
use Rattle.std.proofs.Common.{◌≡◌, subst, ℕ, zero, suc, List, [], ◌∷◌, length, map, Option, Some, None, Bool, true, false, ◌∙◌, refl, ap}
use Rattle.std.specs.Prelude.{nat_lt, ◌||◌, if◌then◌else◌}
use Rattle.c_syntax.specs.declared.tree.Named.{Named}
use Rattle.c_syntax.specs.declared.tree.ProbeMark.{ProbeMark}
use Rattle.c_syntax.specs.Shape.{TypeOf, int, pointer, array, structure, nothing, NodeShape, MaybeNode, no_node, one_node, DeclShape, decl, DeclShapes, no_decls, more_decls, DeclaratorShape, declarator, DeclaratorShapes, no_declarators, more_declarators, DeclFormShape, arrays, function, ParamsShape, empty, void, params, MaybeInit, no_init, one_init, one, listed, StmtShape, stmt, FormShape, compound, simply, when, either, while, do_while, for, switch, break, continue, return, CompoundShape, braces, ItemShapes, no_items, more_items}
use Rattle.c_store.specs.declared.value.Value.{Value}
use Rattle.c_tables.specs.Tables.{TablesShape}
use Rattle.c_tables.specs.Rows.{row}
use Rattle.c_walk.specs.Stating.{splits, is_labelled}
use Rattle.c_meaning.specs.declared.end.Flow.{Flow}
use Rattle.c_meaning.specs.declared.end.Flow.TheVariants.{Next, Break, Continue, Return}
use Rattle.c_meaning.specs.declared.end.Stop.TheVariants as stop
use Rattle.c_meaning.specs.State.{Bound, Call, State, in_call, opened, tail_of, top_within, with_bound}
use Rattle.c_meaning.specs.Results.{Got, Gives, Stops, then_do, present, needed}
use Rattle.c_meaning.specs.Layout.{cells, variable_kind}
use Rattle.c_meaning.specs.Operators.{converted}
use Rattle.c_meaning.specs.Firsts.{First, in_expression, noted_block, noted_outcome, noted_made, noted_begun, at_block}
use Rattle.c_meaning.specs.Constants.{one_cells, init_cells}
use Rattle.c_meaning.specs.Counts.{past_name, past_def, past_declarator, past_decl, past_decls, past_stmt, past_param}
use Rattle.c_meaning.specs.Knot.{Loop, Knot}
use Rattle.c_meaning.specs.Expressions.{meaning, tested, log_block}
use Rattle.c_meaning.specs.Declarations.{bind, next_variable, scalar_written, one_value, initialised, bound_variable, made_variable, declared_variable, declared_name, declared_names, declared_decl, declared_all}
use Rattle.c_meaning.specs.Statements.{Entry, here, ended_all, scope_opened, scope_closed, out_of_switch, after_one, discarded, step_flow, after_body, loop_test, case_number, chosen_entry, flow, form_flow, compound_flow, items_flow, loop_turn, is_reached, passed, while_loop, do_loop}
use Rattle.c_meaning.specs.Calls.{left, Source, Routine, routine, given_variable, given, given_params, given_all, activated, past_signature, body_flow, result_in, returned, called_found, knot, calls}
use Rattle.flow_names.specs.Keeping.{HasSameNames, KeepsNames, CallsKeepNames, ExpressionsKeepNames}
use Rattle.flow_names.proofs.Steps.{names_follow, state_in, Leaves, Follows, stays, same, at_rest, behind_step, then_kept, if_kept, turn_kept, turns_kept, present_kept, needed_kept, logs_kept, block_kept, outcome_kept, made_kept, begun_kept, make_kept, whole_kept, scalar_kept}
use Rattle.flow_names.proofs.Nodes.{Keeping, node_steady, tested_kept, arm_kept}

-- ---- inside a call

-- the calls round it are as they were, and so are the variables of file scope
pub record HasSameAround (s u : State) : Type 0 where
  pub calls : tail_of u.calls ≡ tail_of s.calls
  pub file : u.file ≡ s.file

around : (s u : State) → HasSameNames s u → HasSameAround s u
around s u h = record { calls = ap tail_of h.calls; file = h.file }

around_follow : Follows HasSameAround
around_follow = record { unmoved = around; further = λ s t u p q. record { calls = q.calls ∙ p.calls; file = q.file ∙ p.file } }

tail_in : (f : List (List Bound) → List (List Bound)) (cs : List Call) → tail_of (in_call f cs) ≡ tail_of cs
tail_in f [] = refl
tail_in f (c ∷ cs) = refl

scoped : (s : State) (f : List (List Bound) → List (List Bound)) → HasSameAround s (record s { calls = in_call f s.calls })
scoped s f = record { calls = tail_in f s.calls; file = refl }

left_names : (s : State) (n : ℕ) (t : State) → HasSameAround (activated n s) t → HasSameNames s (left t)
left_names s n t h = record { calls = tail_in tail_of t.calls ∙ h.calls; file = h.file }

pub record Knotted (k : Knot) : Type 0 where
  pub call_keeps : (f : ℕ) (vs : List Value) (s : State) → Leaves HasSameNames s (k.call f vs s)
  pub again_keeps : (l : Loop) (s : State) → Leaves HasSameAround s (k.again l s)

to_around : {A : Type 0} (s : State) (r : Got A) → Leaves HasSameNames s r → Leaves HasSameAround s r
to_around s (Gives a u) h = record { holds = around s u h.holds }
to_around s (Stops why u) h = record { holds = tt }

to_keeping : (k : Knot) → Knotted k → Keeping HasSameAround k
to_keeping k h = record { call_keeps = λ f vs s. to_around s _ (h.call_keeps f vs s) }

-- ---- statements

closed_kept : (s : State) → HasSameAround s (scope_closed s)
closed_kept s =
    let t = record s { store = ended_all (top_within s.calls) s.store } in
    around_follow.further s t (scope_closed s) (stays HasSameAround around_follow s t refl refl) (scoped t tail_of)

out_kept : (f : Flow) (s : State) → Leaves HasSameAround s (out_of_switch f s)
out_kept Break s = at_rest HasSameAround around_follow _ _ (same HasSameAround around_follow s)
out_kept Next s = at_rest HasSameAround around_follow _ _ (same HasSameAround around_follow s)
out_kept Continue s = at_rest HasSameAround around_follow _ _ (same HasSameAround around_follow s)
out_kept (Return v) s = at_rest HasSameAround around_follow _ _ (same HasSameAround around_follow s)

after_kept : (g : State → Got Flow) (f : Flow) (s : State) → ((s : State) → Leaves HasSameAround s (g s)) → Leaves HasSameAround s (after_one g f s)
after_kept g Next s go = go s
after_kept g Break s go = at_rest HasSameAround around_follow _ _ (same HasSameAround around_follow s)
after_kept g Continue s go = at_rest HasSameAround around_follow _ _ (same HasSameAround around_follow s)
after_kept g (Return v) s go = at_rest HasSameAround around_follow _ _ (same HasSameAround around_follow s)

-- a call is left, or its run stops there
returned_kept : (s : State) (n : ℕ) (y : TypeOf) (f : Flow) (t : State) → HasSameAround (activated n s) t → Leaves HasSameNames s (returned y f t)
returned_kept s n y (Return (Some v)) t p = record { holds = left_names s n t p }
returned_kept s n y (Return None) t p = record { holds = left_names s n t p }
returned_kept s n y Next t p = record { holds = left_names s n t p }
returned_kept s n y Break t p = record { holds = tt }
returned_kept s n y Continue t p = record { holds = tt }

-- behind its parameters and its body
back_kept : (s : State) (n : ℕ) (y : TypeOf) (r : Got Flow) → Leaves HasSameAround (activated n s) r → Leaves HasSameNames s (then_do r (returned y))
back_kept s n y (Gives f t) p = returned_kept s n y f t p.holds
back_kept s n y (Stops why t) p = record { holds = tt }

inside_kept : (s : State) (n : ℕ) (y : TypeOf) (r : Got Flow) (g : State → Got Flow) → Leaves HasSameAround (activated n s) r → ((t : State) → Leaves HasSameAround t (g t)) → Leaves HasSameNames s (then_do r (λ f t. then_do (g t) (returned y)))
inside_kept s n y (Gives f t) g p go = back_kept s n y (g t) (behind_step HasSameAround around_follow (activated n s) t (g t) p.holds (go t))
inside_kept s n y (Stops why t) g p go = record { holds = tt }

-- where too many calls are active the run stops
deep_kept : (s : State) (n : ℕ) (y : TypeOf) (b : Bool) (r : Got Flow) (g : State → Got Flow) → Leaves HasSameAround (activated n s) r → ((t : State) → Leaves HasSameAround t (g t)) → Leaves HasSameNames s (then_do (if b then r else Stops stop.Depth s) (λ f t. then_do (g t) (returned y)))
deep_kept s n y true r g p go = inside_kept s n y r g p go
deep_kept s n y false r g p go = record { holds = tt }

module _ (t : TablesShape) (k : Knot) (keeps : Knotted k) where
  -- ---- declarations

  value_kept : (y : TypeOf) (x : Option Named) (i : First) (j : ℕ) (a : NodeShape) (s : State) → Leaves HasSameAround s (then_do (needed ((meaning t k a).value (in_expression (past_def t x i)) s)) (λ v. scalar_written x i j (converted y v)))
  value_kept y x i j a s = then_kept HasSameAround around_follow s _ _ (needed_kept HasSameAround around_follow s _ ((node_steady HasSameAround around_follow t k (to_keeping k keeps) a).value_steady (in_expression (past_def t x i)) s)) (λ v s. scalar_kept HasSameAround around_follow x i j (converted y v) s)

  one_kept : (y : TypeOf) (x : Option Named) (i : First) (j : ℕ) (a : NodeShape) (s : State) → Leaves HasSameAround s (one_value t k y x i j a s)
  one_kept (array y n) x i j a s = whole_kept HasSameAround around_follow t (array y n) x i j (one_cells t s.file (array y n) a) s
  one_kept (int y) x i j a s = value_kept (int y) x i j a s
  one_kept (pointer y) x i j a s = value_kept (pointer y) x i j a s
  one_kept (structure n) x i j a s = value_kept (structure n) x i j a s
  one_kept nothing x i j a s = value_kept nothing x i j a s

  init_kept : (y : TypeOf) (x : Option Named) (i : First) (j : ℕ) (init : MaybeInit) (s : State) → Leaves HasSameAround s (initialised t k y x i j init s)
  init_kept y x i j no_init s = at_rest HasSameAround around_follow _ _ (same HasSameAround around_follow s)
  init_kept y x i j (one_init (one a)) s = one_kept y x i j a s
  init_kept y x i j (one_init (listed p items last)) s = whole_kept HasSameAround around_follow t y x i j (init_cells t s.file y (listed p items last)) s

  bound_kept : (x : Option Named) (init : MaybeInit) (i : First) (y : TypeOf) (j : ℕ) (s : State) → Leaves HasSameAround s (bound_variable t k x init i y j s)
  bound_kept x init i y j s =
      let b = bind (next_variable i) j s in
      behind_step HasSameAround around_follow s b _ (scoped s (with_bound (record { variable = next_variable i; instance = j })))
      (behind_step HasSameAround around_follow b (noted_made i (next_variable i) b) _ (made_kept HasSameAround around_follow i (next_variable i) b) (init_kept y x (past_name i) j init (noted_made i (next_variable i) b)))

  variable_kept : (x : Option Named) (init : MaybeInit) (i : First) (y : TypeOf) (s : State) → Leaves HasSameAround s (declared_variable t k x init i y s)
  variable_kept x init i y s = turns_kept HasSameAround around_follow (cells t y) s (made_variable t k x init i y) (λ s. then_kept HasSameAround around_follow s _ (bound_variable t k x init i y) (make_kept HasSameAround around_follow t y s) (λ j s. bound_kept x init i y j s))

  name_kept : (d : DeclaratorShape) (i : First) (s : State) → Leaves HasSameAround s (declared_name t k d i s)
  name_kept (declarator stars x (arrays ls) init) i s = then_kept HasSameAround around_follow s (present (variable_kind t (next_variable i)) s) _ (present_kept HasSameAround around_follow (variable_kind t (next_variable i)) s) (λ y s. variable_kept x init i y s)
  name_kept (declarator stars x (function ps) init) i s = at_rest HasSameAround around_follow _ _ (same HasSameAround around_follow s)

  names_kept : (ds : DeclaratorShapes) (i : First) (s : State) → Leaves HasSameAround s (declared_names t k ds i s)
  names_kept no_declarators i s = at_rest HasSameAround around_follow _ _ (same HasSameAround around_follow s)
  names_kept (more_declarators d rest) i s = then_kept HasSameAround around_follow s _ _ (name_kept d i s) (λ f s. names_kept rest (past_declarator t d i) s)

  decl_kept : (d : DeclShape) (i : First) (s : State) → Leaves HasSameAround s (declared_decl t k d i s)
  decl_kept (decl p specs names) i s = names_kept names i s

  decls_kept : (ds : DeclShapes) (i : First) (s : State) → Leaves HasSameAround s (declared_all t k ds i s)
  decls_kept no_decls i s = at_rest HasSameAround around_follow _ _ (same HasSameAround around_follow s)
  decls_kept (more_decls d rest) i s = then_kept HasSameAround around_follow s _ _ (decl_kept d i s) (λ f s. decls_kept rest (past_decl t d i) s)

  -- ---- statements

  discarded_kept : (e : MaybeNode) (i : First) (s : State) → Leaves HasSameAround s (discarded t k e i s)
  discarded_kept no_node i s = at_rest HasSameAround around_follow _ _ (same HasSameAround around_follow s)
  discarded_kept (one_node e) i s = then_kept HasSameAround around_follow s _ _ ((node_steady HasSameAround around_follow t k (to_keeping k keeps) e).value_steady (in_expression i) s) (λ v s. at_rest HasSameAround around_follow _ _ (same HasSameAround around_follow s))

  step_kept : (e : MaybeNode) (i : First) (s : State) → Leaves HasSameAround s (step_flow t k e i s)
  step_kept no_node i s = at_rest HasSameAround around_follow _ _ (same HasSameAround around_follow s)
  step_kept (one_node e) i s = then_kept HasSameAround around_follow s _ _ (arm_kept HasSameAround around_follow e (in_expression i) s (meaning t k e).value (λ j s. (node_steady HasSameAround around_follow t k (to_keeping k keeps) e).value_steady j s)) (λ v s. at_rest HasSameAround around_follow _ _ (same HasSameAround around_follow s))

  body_kept : (lp : Loop) (f : Flow) (s : State) → Leaves HasSameAround s (after_body t k lp f s)
  body_kept lp Next s = then_kept HasSameAround around_follow s _ _ (step_kept lp.step lp.at_step s) (λ f s. keeps.again_keeps lp s)
  body_kept lp Continue s = then_kept HasSameAround around_follow s _ _ (step_kept lp.step lp.at_step s) (λ f s. keeps.again_keeps lp s)
  body_kept lp Break s = at_rest HasSameAround around_follow _ _ (same HasSameAround around_follow s)
  body_kept lp (Return v) s = at_rest HasSameAround around_follow _ _ (same HasSameAround around_follow s)

  mutual
    pub flow_kept : (b : Bool) (a : StmtShape) (i : First) (s : State) → Leaves HasSameAround s (flow t k b a i s)
    flow_kept b (stmt p ms q f) i s =
        behind_step HasSameAround around_follow s (noted_block b i s) _ (block_kept HasSameAround around_follow b i s)
        (logs_kept HasSameAround around_follow log_block (map (λ m. m.number) ms) (noted_block b i s) _ (λ m s. stays HasSameAround around_follow s _ refl refl) (λ s. turn_kept HasSameAround around_follow s _ (λ s. form_kept f (at_block b p i) s)))

    form_kept : (f : FormShape) (i : First) (s : State) → Leaves HasSameAround s (form_flow t k f i s)
    form_kept (compound c) i s =
        behind_step HasSameAround around_follow s (scope_opened s) _ (scoped s opened) (then_kept HasSameAround around_follow (scope_opened s) _ _ (compound_kept c i (scope_opened s)) (λ f s. at_rest HasSameAround around_follow _ _ (closed_kept s)))
    form_kept (simply e) i s = discarded_kept e i s
    form_kept (when e a) i s = then_kept HasSameAround around_follow s _ _ (tested_kept HasSameAround around_follow e _ (node_steady HasSameAround around_follow t k (to_keeping k keeps) e) (in_expression i) s) (λ x s. if_kept HasSameAround around_follow s x _ (Gives Next s) (flow_kept true a _ s) (at_rest HasSameAround around_follow _ _ (same HasSameAround around_follow s)))
    form_kept (either e a b) i s = then_kept HasSameAround around_follow s _ _ (tested_kept HasSameAround around_follow e _ (node_steady HasSameAround around_follow t k (to_keeping k keeps) e) (in_expression i) s) (λ x s. if_kept HasSameAround around_follow s x _ _ (flow_kept true a _ s) (flow_kept true b _ s))
    form_kept (while e a) i s = keeps.again_keeps (while_loop t e a i) s
    form_kept (do_while a e) i s = then_kept HasSameAround around_follow s _ _ (flow_kept true a i s) (λ f s. body_kept (do_loop t a e i) f s)
    form_kept (for e f g a) i s = then_kept HasSameAround around_follow s _ _ (discarded_kept e i s) (λ v s. keeps.again_keeps _ s)
    form_kept (switch e items) i s = then_kept HasSameAround around_follow s _ _ (needed_kept HasSameAround around_follow s _ ((node_steady HasSameAround around_follow t k (to_keeping k keeps) e).value_steady _ s)) (λ v s.
        behind_step HasSameAround around_follow s (noted_outcome i (case_number e items v) s) _ (outcome_kept HasSameAround around_follow i (case_number e items v) s)
        (then_kept HasSameAround around_follow (noted_outcome i (case_number e items v) s) _ _ (items_kept (chosen_entry e items v) false items _ (noted_outcome i (case_number e items v) s)) (λ f s. out_kept f s)))
    form_kept break i s = at_rest HasSameAround around_follow _ _ (same HasSameAround around_follow s)
    form_kept continue i s = at_rest HasSameAround around_follow _ _ (same HasSameAround around_follow s)
    form_kept (return no_node) i s = at_rest HasSameAround around_follow _ _ (same HasSameAround around_follow s)
    form_kept (return (one_node e)) i s = then_kept HasSameAround around_follow s _ _ (needed_kept HasSameAround around_follow s _ ((node_steady HasSameAround around_follow t k (to_keeping k keeps) e).value_steady (in_expression i) s)) (λ v s. at_rest HasSameAround around_follow _ _ (same HasSameAround around_follow s))

    pub compound_kept : (c : CompoundShape) (i : First) (s : State) → Leaves HasSameAround s (compound_flow t k c i s)
    compound_kept (braces p ds items) i s = then_kept HasSameAround around_follow s _ _ (decls_kept ds i s) (λ f s. items_kept here false items (past_decls t ds i) s)

    items_kept : (entry : Entry) (after : Bool) (items : ItemShapes) (i : First) (s : State) → Leaves HasSameAround s (items_flow t k entry after items i s)
    items_kept entry after no_items i s = at_rest HasSameAround around_follow _ _ (same HasSameAround around_follow s)
    items_kept entry after (more_items labels a rest) i s =
        let b = after || is_labelled labels in
        if_kept HasSameAround around_follow s (is_reached entry labels) _ _
        (then_kept HasSameAround around_follow s _ _ (flow_kept b a i s) (λ f s. after_kept _ f s (λ s. items_kept here (splits a) rest (past_stmt t b a i) s)))
        (items_kept (passed entry labels) (splits a) rest (past_stmt t b a i) s)

  loop_test_kept : (e : MaybeNode) (i : First) (s : State) → Leaves HasSameAround s (loop_test t k e i s)
  loop_test_kept no_node i s = at_rest HasSameAround around_follow _ _ (same HasSameAround around_follow s)
  loop_test_kept (one_node e) i s = arm_kept HasSameAround around_follow e (in_expression i) s (tested e (meaning t k e)) (λ j s. tested_kept HasSameAround around_follow e _ (node_steady HasSameAround around_follow t k (to_keeping k keeps) e) j s)

  loop_kept : (lp : Loop) (s : State) → Leaves HasSameAround s (loop_turn t k lp s)
  loop_kept lp s = then_kept HasSameAround around_follow s _ _ (loop_test_kept lp.test lp.at_test s) (λ x s.
      if_kept HasSameAround around_follow s x _ (Gives Next s) (then_kept HasSameAround around_follow s _ _ (flow_kept true lp.body lp.at_body s) (λ f s. body_kept lp f s)) (at_rest HasSameAround around_follow _ _ (same HasSameAround around_follow s)))

  body_flow_kept : (ms : List ProbeMark) (c : CompoundShape) (i : First) (s : State) → Leaves HasSameAround s (body_flow t k ms c i s)
  body_flow_kept ms (braces p ds items) i s =
      behind_step HasSameAround around_follow s (noted_block true i s) _ (block_kept HasSameAround around_follow true i s)
      (logs_kept HasSameAround around_follow log_block (map (λ m. m.number) ms) (noted_block true i s) _ (λ m s. stays HasSameAround around_follow s _ refl refl) (λ s. turn_kept HasSameAround around_follow s _ (λ s. compound_kept (braces p ds items) (at_block true p i) s)))

-- ---- calls

module _ (t : TablesShape) where
  param_kept : (d : DeclShape) (i : First) (v : Value) (y : TypeOf) (s : State) → Leaves HasSameAround s (given_variable t d i v y s)
  param_kept (decl p specs (more_declarators (declarator stars x (arrays ls) e) no_declarators)) i v y s = then_kept HasSameAround around_follow s _ _ (make_kept HasSameAround around_follow t y s) (λ j s.
      behind_step HasSameAround around_follow s (bind (next_variable i) j s) _ (scoped s (with_bound (record { variable = next_variable i; instance = j }))) (scalar_kept HasSameAround around_follow x (past_name i) j v (bind (next_variable i) j s)))
  param_kept (decl p specs no_declarators) i v y s = at_rest HasSameAround around_follow _ _ (same HasSameAround around_follow s)
  param_kept (decl p specs (more_declarators (declarator stars x (function ps) e) no_declarators)) i v y s = at_rest HasSameAround around_follow _ _ (same HasSameAround around_follow s)
  param_kept (decl p specs (more_declarators (declarator stars x (arrays ls) e) (more_declarators d rest))) i v y s = at_rest HasSameAround around_follow _ _ (same HasSameAround around_follow s)
  param_kept (decl p specs (more_declarators (declarator stars x (function ps) e) (more_declarators d rest))) i v y s = at_rest HasSameAround around_follow _ _ (same HasSameAround around_follow s)

  given_kept : (ds : DeclShapes) (i : First) (vs : List Value) (s : State) → Leaves HasSameAround s (given t ds i vs s)
  given_kept no_decls i [] s = at_rest HasSameAround around_follow _ _ (same HasSameAround around_follow s)
  given_kept no_decls i (v ∷ vs) s = at_rest HasSameAround around_follow _ _ (same HasSameAround around_follow s)
  given_kept (more_decls d rest) i [] s = at_rest HasSameAround around_follow _ _ (same HasSameAround around_follow s)
  given_kept (more_decls d rest) i (v ∷ vs) s =
      then_kept HasSameAround around_follow s (present (variable_kind t (next_variable i)) s) _ (present_kept HasSameAround around_follow (variable_kind t (next_variable i)) s) (λ y s.
      then_kept HasSameAround around_follow s (given_variable t d i v y s) _ (param_kept d i v y s) (λ f s. given_kept rest (past_param t d i) vs s))

  params_kept : (ps : ParamsShape) (i : First) (vs : List Value) (s : State) → Leaves HasSameAround s (given_params t ps i vs s)
  params_kept (params ds) i vs s = given_kept ds i vs s
  params_kept empty i [] s = at_rest HasSameAround around_follow _ _ (same HasSameAround around_follow s)
  params_kept empty i (v ∷ vs) s = at_rest HasSameAround around_follow _ _ (same HasSameAround around_follow s)
  params_kept void i [] s = at_rest HasSameAround around_follow _ _ (same HasSameAround around_follow s)
  params_kept void i (v ∷ vs) s = at_rest HasSameAround around_follow _ _ (same HasSameAround around_follow s)

  all_kept : (d : DeclFormShape) (i : First) (vs : List Value) (s : State) → Leaves HasSameAround s (given_all t d i vs s)
  all_kept (function ps) i vs s = params_kept ps i vs s
  all_kept (arrays ls) i vs s = at_rest HasSameAround around_follow _ _ (same HasSameAround around_follow s)

  found_kept : (k : Knot) → Knotted k → (f : ℕ) (r : Option Routine) (vs : List Value) (s : State) → Leaves HasSameNames s (called_found t k f r vs s)
  found_kept k keeps f None vs s = record { holds = tt }
  found_kept k keeps f (Some r) vs s =
      let b = noted_begun r.first f (activated f s) in
      deep_kept s f (result_in (row t.functions f)) (nat_lt (length s.calls) 4000) (given_all t r.params r.first vs b) (body_flow t k r.marks r.body (past_signature t r.params r.first))
      (behind_step HasSameAround around_follow (activated f s) b _ (begun_kept HasSameAround around_follow r.first f (activated f s)) (all_kept r.params r.first vs b)) (λ s. body_flow_kept t k keeps r.marks r.body (past_signature t r.params r.first) s)

-- ---- the knot, and runs

module _ (P : Source) (i : First) where
  knot_keeps : (n : ℕ) → Knotted (knot P i n)
  knot_keeps zero = record { call_keeps = λ f vs s. record { holds = tt }; again_keeps = λ lp s. at_rest HasSameAround around_follow _ _ (same HasSameAround around_follow s) }
  knot_keeps (suc n) = record {
    call_keeps = λ f vs s. found_kept P.tables (knot P i n) (knot_keeps n) f (routine P i f) vs s;
    again_keeps = λ lp s. loop_kept P.tables (knot P i n) (knot_keeps n) lp s;
  }

  pub calls_keep : Knotted (calls P i)
  unfolding calls
  calls_keep = record { call_keeps = λ f vs s. (knot_keeps (suc s.turns)).call_keeps f vs s; again_keeps = λ lp s. (knot_keeps (suc s.turns)).again_keeps lp s }

-- ---- the laws

pub given_names : {A : Type 0} (s u : State) (r : Got A) (a : A) → Leaves HasSameNames s r → r ≡ Gives a u → HasSameNames s u
given_names s u (Gives b t) a h e = let same : t ≡ u = ap (λ r. state_in r) e in subst (HasSameNames s) same h.holds
given_names s u (Stops why t) a h e = cc

left_if : {A : Type 0} (s : State) (r : Got A) → ((a : A) (u : State) → r ≡ Gives a u → HasSameNames s u) → Leaves HasSameNames s r
left_if s (Gives a u) f = record { holds = f a u refl }
left_if s (Stops why u) f = record { holds = tt }

pub keeping : (k : Knot) → KeepsNames k → Keeping HasSameNames k
keeping k h = record { call_keeps = λ f vs s. left_if s (k.call f vs s) (λ v u e. h.by f vs s u v e) }

-- of a program, within so many turns
pub knots_keep_names : (P : Source) (i : First) (n : ℕ) → KeepsNames (knot P i n)
knots_keep_names P i n = record { by = λ f vs s u v e. given_names s u _ v ((knot_keeps P i n).call_keeps f vs s) e }

pub calls_keep_names : CallsKeepNames
calls_keep_names P i = record { by = λ f vs s u v e. given_names s u _ v ((calls_keep P i).call_keeps f vs s) e }

pub expressions_keep_names : ExpressionsKeepNames
expressions_keep_names t k keeps a =
    let h = node_steady HasSameNames names_follow t k (keeping k keeps) a in
    (λ i s u v e. given_names s u _ v (h.value_steady i s) e, λ r i s u q e. given_names s u _ q (h.place_steady r i s) e)
