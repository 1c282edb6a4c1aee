-- The knot is tied: what a call or a loop's further turns do doesn't depend on the bound, once it passes the turns that are left.
use Rattle.std.proofs.Common.{◌≡◌, ℕ, zero, suc, ◌<◌, ◌≤◌, List, [], ◌∷◌, length, map, Option, Some, None, Bool, true, false, refl, sym, arith}
use Rattle.std.specs.Prelude.{nat_lt, ◌||◌, if◌then◌else◌}
use Rattle.c_syntax.specs.declared.tree.Named.{Named}
use Rattle.c_syntax.specs.declared.tree.ProbeMark.{ProbeMark}
use Rattle.c_syntax.specs.Shape.{TypeOf, int, pointer, array, structure, nothing, NodeShape, MaybeNode, no_node, one_node, DeclShape, decl, DeclShapes, no_decls, more_decls, DeclaratorShape, declarator, DeclaratorShapes, no_declarators, more_declarators, DeclFormShape, arrays, function, ParamsShape, empty, void, params, MaybeInit, no_init, one_init, one, listed, StmtShape, stmt, FormShape, compound, simply, when, either, while, do_while, for, switch, break, continue, return, CompoundShape, braces, ItemShapes, no_items, more_items}
use Rattle.c_store.specs.declared.value.Value.{Value}
use Rattle.c_tables.specs.Tables.{TablesShape}
use Rattle.c_walk.specs.Stating.{splits, is_labelled}
use Rattle.c_meaning.specs.declared.end.Flow.{Flow}
use Rattle.c_meaning.specs.declared.end.Flow.TheVariants.{Next, Break, Continue, Return}
use Rattle.c_meaning.specs.State.{State}
use Rattle.c_meaning.specs.Results.{Got, Gives, Stops, then_do, present, needed}
use Rattle.c_meaning.specs.Layout.{cells, variable_kind}
use Rattle.c_meaning.specs.Operators.{converted}
use Rattle.c_meaning.specs.Firsts.{First, in_expression, quiet, heard, noted_block, noted_outcome, noted_made, noted_begun, behind_test, behind_choice, at_block}
use Rattle.c_meaning.specs.Constants.{one_cells, init_cells}
use Rattle.c_meaning.specs.Counts.{past_name, past_def, past_declarator, past_decl, past_decls, past_stmt, past_param}
use Rattle.c_meaning.specs.Knot.{Loop, Knot}
use Rattle.c_meaning.specs.Expressions.{meaning, log_block}
use Rattle.c_meaning.specs.Declarations.{make, bind, next_variable, scalar_written, one_value, initialised, declared_variable, declared_name, declared_names, declared_decl, declared_all}
use Rattle.c_meaning.specs.Statements.{Entry, here, out_of_switch, after_one, discarded, step_flow, after_body, loop_test, case_number, chosen_entry, flow, form_flow, compound_flow, items_flow, loop_turn, is_reached, passed, while_loop, do_loop}
use Rattle.c_meaning.specs.Calls.{Source, Routine, routine, given_variable, given, given_params, given_all, activated, entered, body_flow, returned, called_found, knot, calls}
use Rattle.c_meaning.proofs.Alike.{Left, Alike, alike_same, left_then, then_left, alike_then, if_alike, if_left, alike_turn, alike_turns, present_left, needed_alike, logs_alike, block_turns}
use Rattle.c_meaning.proofs.Fewer.{make_left, whole_left, scalar_left}
use Rattle.c_meaning.proofs.Twice.{Same, node_twice, tested_alike, arm_alike, outcome_turns}

made_turns : (i : First) (v : ℕ) (s : State) → (noted_made i v s).turns ≡ s.turns
made_turns (quiet m) v s = refl
made_turns (heard c w) v s = refl

begun_turns : (i : First) (f : ℕ) (s : State) → (noted_begun i f s).turns ≡ s.turns
begun_turns (quiet m) f s = refl
begun_turns (heard c w) f s = refl

out_left : (n : ℕ) (f : Flow) (s : State) → s.turns < n → Left n (out_of_switch f s)
out_left n Break s lt = lt
out_left n Next s lt = lt
out_left n Continue s lt = lt
out_left n (Return v) s lt = lt

after_alike : (n : ℕ) (g h : State → Got Flow) (f : Flow) (s : State) → s.turns < n → ((s : State) → s.turns < n → Alike n (g s) (h s)) → Alike n (after_one g f s) (after_one h f s)
after_alike n g h Next s lt go = go s lt
after_alike n g h Break s lt go = alike_same n _ lt
after_alike n g h Continue s lt go = alike_same n _ lt
after_alike n g h (Return v) s lt go = alike_same n _ lt

module _ (t : TablesShape) (n : ℕ) (k l : Knot) (same : Same n k l) where
  -- ---- declarations

  value_alike : (y : TypeOf) (x : Option Named) (i : First) (j : ℕ) (a : NodeShape) (s : State) → s.turns < n → Alike n (then_do (needed ((meaning t k a).value (in_expression (past_def t x i)) s)) (λ v. scalar_written x i j (converted y v))) (then_do (needed ((meaning t l a).value (in_expression (past_def t x i)) s)) (λ v. scalar_written x i j (converted y v)))
  value_alike y x i j a s lt = alike_then n _ _ _ _ (needed_alike n _ _ ((node_twice t n k l same a).value_alike (in_expression (past_def t x i)) s (omega arith))) (λ v s lt. alike_same n _ (scalar_left n x i j (converted y v) s lt))

  one_alike : (y : TypeOf) (x : Option Named) (i : First) (j : ℕ) (a : NodeShape) (s : State) → s.turns < n → Alike n (one_value t k y x i j a s) (one_value t l y x i j a s)
  one_alike (array y m) x i j a s lt = alike_same n _ (whole_left t n (array y m) x i j (one_cells t s.file (array y m) a) s lt)
  one_alike (int y) x i j a s lt = value_alike (int y) x i j a s lt
  one_alike (pointer y) x i j a s lt = value_alike (pointer y) x i j a s lt
  one_alike (structure m) x i j a s lt = value_alike (structure m) x i j a s lt
  one_alike nothing x i j a s lt = value_alike nothing x i j a s lt

  init_alike : (y : TypeOf) (x : Option Named) (i : First) (j : ℕ) (init : MaybeInit) (s : State) → s.turns < n → Alike n (initialised t k y x i j init s) (initialised t l y x i j init s)
  init_alike y x i j no_init s lt = alike_same n _ lt
  init_alike y x i j (one_init (one a)) s lt = one_alike y x i j a s lt
  init_alike y x i j (one_init (listed p items last)) s lt = alike_same n _ (whole_left t n y x i j (init_cells t s.file y (listed p items last)) s lt)

  variable_alike : (x : Option Named) (init : MaybeInit) (i : First) (y : TypeOf) (s : State) → s.turns < n → Alike n (declared_variable t k x init i y s) (declared_variable t l x init i y s)
  variable_alike x init i y s lt = alike_turns n (cells t y) s _ _ lt (λ s lt. then_left n n (make t y s) _ _ (make_left t n y s lt) (λ j s lt.
      init_alike y x (past_name i) j init (noted_made i (next_variable i) (bind (next_variable i) j s)) (omega (arith, made_turns i (next_variable i) (bind (next_variable i) j s)))))

  name_alike : (d : DeclaratorShape) (i : First) (s : State) → s.turns < n → Alike n (declared_name t k d i s) (declared_name t l d i s)
  name_alike (declarator stars x (arrays ls) init) i s lt = then_left n n (present (variable_kind t (next_variable i)) s) _ _ (present_left n (variable_kind t (next_variable i)) s lt) (λ y s lt. variable_alike x init i y s lt)
  name_alike (declarator stars x (function ps) init) i s lt = alike_same n _ lt

  names_alike : (ds : DeclaratorShapes) (i : First) (s : State) → s.turns < n → Alike n (declared_names t k ds i s) (declared_names t l ds i s)
  names_alike no_declarators i s lt = alike_same n _ lt
  names_alike (more_declarators d rest) i s lt = alike_then n _ _ _ _ (name_alike d i s lt) (λ f s lt. names_alike rest (past_declarator t d i) s lt)

  decl_alike : (d : DeclShape) (i : First) (s : State) → s.turns < n → Alike n (declared_decl t k d i s) (declared_decl t l d i s)
  decl_alike (decl p specs names) i s lt = names_alike names i s lt

  decls_alike : (ds : DeclShapes) (i : First) (s : State) → s.turns < n → Alike n (declared_all t k ds i s) (declared_all t l ds i s)
  decls_alike no_decls i s lt = alike_same n _ lt
  decls_alike (more_decls d rest) i s lt = alike_then n _ _ _ _ (decl_alike d i s lt) (λ f s lt. decls_alike rest (past_decl t d i) s lt)

  -- ---- statements

  discarded_alike : (e : MaybeNode) (i : First) (s : State) → s.turns < n → Alike n (discarded t k e i s) (discarded t l e i s)
  discarded_alike no_node i s lt = alike_same n _ lt
  discarded_alike (one_node e) i s lt = alike_then n _ _ _ _ ((node_twice t n k l same e).value_alike (in_expression i) s (omega arith)) (λ v s lt. alike_same n _ lt)

  step_alike : (e : MaybeNode) (i : First) (s : State) → s.turns < n → Alike n (step_flow t k e i s) (step_flow t l e i s)
  step_alike no_node i s lt = alike_same n _ lt
  step_alike (one_node e) i s lt =
      alike_then n _ _ _ _ (arm_alike n (suc n) e (in_expression i) s (meaning t k e).value (meaning t l e).value (omega arith) (λ j s lt. (node_twice t n k l same e).value_alike j s lt)) (λ v s lt. alike_same n _ lt)

  body_alike : (lp : Loop) (f : Flow) (s : State) → s.turns < n → Alike n (after_body t k lp f s) (after_body t l lp f s)
  body_alike lp Next s lt = alike_then n _ _ _ _ (step_alike lp.step lp.at_step s lt) (λ f s lt. same.again_same lp s lt)
  body_alike lp Continue s lt = alike_then n _ _ _ _ (step_alike lp.step lp.at_step s lt) (λ f s lt. same.again_same lp s lt)
  body_alike lp Break s lt = alike_same n _ lt
  body_alike lp (Return v) s lt = alike_same n _ lt

  mutual
    pub flow_alike : (b : Bool) (a : StmtShape) (i : First) (s : State) → s.turns < suc n → Alike n (flow t k b a i s) (flow t l b a i s)
    flow_alike b (stmt p ms q f) i s lt =
        logs_alike n (suc n) log_block (map (λ m. m.number) ms) (noted_block b i s) _ _ (λ m s. refl) (omega (arith, block_turns b i s)) (λ s lt. alike_turn n s _ _ lt (λ s lt. form_alike f (at_block b p i) s lt))

    form_alike : (f : FormShape) (i : First) (s : State) → s.turns < n → Alike n (form_flow t k f i s) (form_flow t l f i s)
    form_alike (compound c) i s lt = alike_then n _ _ _ _ (compound_alike c i _ lt) (λ f s lt. alike_same n _ lt)
    form_alike (simply e) i s lt = discarded_alike e i s lt
    form_alike (when e a) i s lt =
        alike_then n _ _ _ _ (tested_alike n e _ _ (node_twice t n k l same e) (in_expression i) s (omega arith)) (λ x s lt.
        if_alike n x _ _ (Gives Next s) (Gives Next s) (flow_alike true a (behind_test e i) s (omega arith)) (alike_same n _ lt))
    form_alike (either e a b) i s lt =
        alike_then n _ _ _ _ (tested_alike n e _ _ (node_twice t n k l same e) (in_expression i) s (omega arith)) (λ x s lt.
        if_alike n x _ _ _ _ (flow_alike true a (behind_test e i) s (omega arith)) (flow_alike true b (past_stmt t true a (behind_test e i)) s (omega arith)))
    form_alike (while e a) i s lt = same.again_same (while_loop t e a i) s lt
    form_alike (do_while a e) i s lt = alike_then n _ _ _ _ (flow_alike true a i s (omega arith)) (λ f s lt. body_alike (do_loop t a e i) f s lt)
    form_alike (for e f g a) i s lt = alike_then n _ _ _ _ (discarded_alike e i s lt) (λ v s lt. same.again_same _ s lt)
    form_alike (switch e items) i s lt =
        alike_then n _ _ _ _ (needed_alike n _ _ ((node_twice t n k l same e).value_alike _ s (omega arith))) (λ v s lt.
        alike_then n _ _ _ _ (items_alike (chosen_entry e items v) false items (behind_choice e items i) (noted_outcome i (case_number e items v) s) (omega (arith, outcome_turns i (case_number e items v) s))) (λ f s lt. alike_same n _ (out_left n f s lt)))
    form_alike break i s lt = alike_same n _ lt
    form_alike continue i s lt = alike_same n _ lt
    form_alike (return no_node) i s lt = alike_same n _ lt
    form_alike (return (one_node e)) i s lt = alike_then n _ _ _ _ (needed_alike n _ _ ((node_twice t n k l same e).value_alike (in_expression i) s (omega arith))) (λ v s lt. alike_same n _ lt)

    compound_alike : (c : CompoundShape) (i : First) (s : State) → s.turns < n → Alike n (compound_flow t k c i s) (compound_flow t l c i s)
    compound_alike (braces p ds items) i s lt = alike_then n _ _ _ _ (decls_alike ds i s lt) (λ f s lt. items_alike here false items (past_decls t ds i) s lt)

    items_alike : (entry : Entry) (after : Bool) (items : ItemShapes) (i : First) (s : State) → s.turns < n → Alike n (items_flow t k entry after items i s) (items_flow t l entry after items i s)
    items_alike entry after no_items i s lt = alike_same n _ lt
    items_alike entry after (more_items labels a rest) i s lt =
        let b = after || is_labelled labels in
        if_alike n (is_reached entry labels) _ _ _ _
        (alike_then n _ _ _ _ (flow_alike b a i s (omega arith)) (λ f s lt. after_alike n _ _ f s lt (λ s lt. items_alike here (splits a) rest (past_stmt t b a i) s lt)))
        (items_alike (passed entry labels) (splits a) rest (past_stmt t b a i) s lt)

  -- ---- loops

  from_test : (m : MaybeNode) (i : First) (lp : Loop) (s : State) → s.turns < suc n → Alike n (then_do (loop_test t k m i s) (λ x s. if x then then_do (flow t k true lp.body lp.at_body s) (after_body t k lp) else Gives Next s)) (then_do (loop_test t l m i s) (λ x s. if x then then_do (flow t l true lp.body lp.at_body s) (after_body t l lp) else Gives Next s))
  from_test no_node i lp s lt = alike_then n _ _ _ _ (flow_alike true lp.body lp.at_body s lt) (λ f s lt. body_alike lp f s lt)
  from_test (one_node e) i lp s lt =
      alike_then n _ _ _ _ (arm_alike n (suc n) e (in_expression i) s _ _ lt (λ j s lt. tested_alike n e (meaning t k e) (meaning t l e) (node_twice t n k l same e) j s lt)) (λ x s lt.
      if_alike n x _ _ (Gives Next s) (Gives Next s) (alike_then n _ _ _ _ (flow_alike true lp.body lp.at_body s (omega arith)) (λ f s lt. body_alike lp f s lt)) (alike_same n _ lt))

  pub loop_alike : (lp : Loop) (s : State) → s.turns < suc n → Alike n (loop_turn t k lp s) (loop_turn t l lp s)
  loop_alike lp s lt = from_test lp.test lp.at_test lp s lt

-- ---- calls

param_left : (t : TablesShape) (n : ℕ) (d : DeclShape) (i : First) (v : Value) (y : TypeOf) (s : State) → s.turns < n → Left n (given_variable t d i v y s)
param_left t n (decl p specs (more_declarators (declarator stars x (arrays ls) e) no_declarators)) i v y s lt =
    left_then n _ _ (make_left t n y s lt) (λ j s lt. scalar_left n x (past_name i) j v (bind (next_variable i) j s) lt)
param_left t n (decl p specs no_declarators) i v y s lt = tt
param_left t n (decl p specs (more_declarators (declarator stars x (function ps) e) no_declarators)) i v y s lt = tt
param_left t n (decl p specs (more_declarators (declarator stars x (arrays ls) e) (more_declarators d rest))) i v y s lt = tt
param_left t n (decl p specs (more_declarators (declarator stars x (function ps) e) (more_declarators d rest))) i v y s lt = tt

given_left : (t : TablesShape) (n : ℕ) (ds : DeclShapes) (i : First) (vs : List Value) (s : State) → s.turns < n → Left n (given t ds i vs s)
given_left t n no_decls i [] s lt = lt
given_left t n no_decls i (v ∷ vs) s lt = tt
given_left t n (more_decls d rest) i [] s lt = tt
given_left t n (more_decls d rest) i (v ∷ vs) s lt =
    left_then n (present (variable_kind t (next_variable i)) s) _ (present_left n (variable_kind t (next_variable i)) s lt) (λ y s lt.
    left_then n (given_variable t d i v y s) _ (param_left t n d i v y s lt) (λ f s lt. given_left t n rest (past_param t d i) vs s lt))

params_left : (t : TablesShape) (n : ℕ) (ps : ParamsShape) (i : First) (vs : List Value) (s : State) → s.turns < n → Left n (given_params t ps i vs s)
params_left t n (params ds) i vs s lt = given_left t n ds i vs s lt
params_left t n empty i [] s lt = lt
params_left t n empty i (v ∷ vs) s lt = tt
params_left t n void i [] s lt = lt
params_left t n void i (v ∷ vs) s lt = tt

all_left : (t : TablesShape) (n : ℕ) (d : DeclFormShape) (i : First) (vs : List Value) (s : State) → s.turns < n → Left n (given_all t d i vs s)
all_left t n (function ps) i vs s lt = params_left t n ps i vs s lt
all_left t n (arrays ls) i vs s lt = tt

entered_left : (t : TablesShape) (n : ℕ) (f : ℕ) (r : Routine) (vs : List Value) (s : State) → s.turns < n → Left n (entered t f r vs s)
entered_left t n f r vs s lt =
    if_left n (nat_lt (length s.calls) 4000) _ _ (all_left t n r.params r.first vs (noted_begun r.first f (activated f s)) (omega (arith, begun_turns r.first f (activated f s)))) tt

returned_left : (n : ℕ) (y : TypeOf) (f : Flow) (s : State) → s.turns < n → Left n (returned y f s)
returned_left n y (Return (Some v)) s lt = lt
returned_left n y (Return None) s lt = lt
returned_left n y Next s lt = lt
returned_left n y Break s lt = tt
returned_left n y Continue s lt = tt

routine_body_alike : (t : TablesShape) (n : ℕ) (k l : Knot) → Same n k l → (ms : List ProbeMark) (c : CompoundShape) (i : First) (s : State) → s.turns < suc n → Alike n (body_flow t k ms c i s) (body_flow t l ms c i s)
routine_body_alike t n k l same ms (braces p ds items) i s lt =
    logs_alike n (suc n) log_block (map (λ m. m.number) ms) (noted_block true i s) _ _ (λ m s. refl) (omega (arith, block_turns true i s)) (λ s lt. alike_turn n s _ _ lt (λ s lt. compound_alike t n k l same (braces p ds items) (at_block true p i) s lt))

found_alike : (t : TablesShape) (n : ℕ) (k l : Knot) → Same n k l → (f : ℕ) (r : Option Routine) (vs : List Value) (s : State) → s.turns < suc n → Alike n (called_found t k f r vs s) (called_found t l f r vs s)
found_alike t n k l same f None vs s lt = alike_same n _ tt
found_alike t n k l same f (Some r) vs s lt =
    then_left n (suc n) (entered t f r vs s) _ _ (entered_left t (suc n) f r vs s lt) (λ g s lt.
    alike_then n _ _ _ _ (routine_body_alike t n k l same r.marks r.body _ s lt) (λ g s lt. alike_same n _ (returned_left n _ g s lt)))

-- ---- the knot

wider : {A : Type 0} (n : ℕ) (r : Got A) → Left n r → Left (suc n) r
wider n (Gives a s) l = omega arith
wider n (Stops why s) l = tt

alike_wider : {A : Type 0} (n : ℕ) (r q : Got A) → Alike n r q → Alike (suc n) r q
alike_wider n r q al = record { same = al.same; left = wider n r al.left }

knots_same : (P : Source) (i : First) (n m : ℕ) → n ≤ m → Same n (knot P i n) (knot P i m)
knots_same P i zero m le = record { call_same = λ f vs s lt. absurd (omega arith); again_same = λ lp s lt. absurd (omega arith) }
knots_same P i (suc n) zero le = absurd (omega arith)
knots_same P i (suc n) (suc m) le =
    let ih = knots_same P i n m (omega arith) in
    record {
      call_same = λ f vs s lt. alike_wider n _ _ (found_alike P.tables n (knot P i n) (knot P i m) ih f (routine P i f) vs s lt);
      again_same = λ lp s lt. alike_wider n _ _ (loop_alike P.tables n (knot P i n) (knot P i m) ih lp s lt);
    }

pub below_calls : (P : Source) (i : First) (n : ℕ) → Same n (knot P i n) (calls P i)
unfolding calls
below_calls P i n = record {
  call_same = λ f vs s lt.
      let all = (knots_same P i n n (omega arith)).call_same f vs s lt in
      let low = (knots_same P i (suc s.turns) n (omega arith)).call_same f vs s (omega arith) in
      record { same = sym low.same; left = all.left };
  again_same = λ lp s lt.
      let all = (knots_same P i n n (omega arith)).again_same lp s lt in
      let low = (knots_same P i (suc s.turns) n (omega arith)).again_same lp s (omega arith) in
      record { same = sym low.same; left = all.left };
}

-- a call is the function's parameters, body and result
pub call_is : (P : Source) (i : First) (f : ℕ) (vs : List Value) (s : State) → (calls P i).call f vs s ≡ called_found P.tables (calls P i) f (routine P i f) vs s
unfolding calls
call_is P i f vs s = (found_alike P.tables s.turns (knot P i s.turns) (calls P i) (below_calls P i s.turns) f (routine P i f) vs s (omega arith)).same

-- a loop's further turns are one turn and further turns
pub again_is : (P : Source) (i : First) (lp : Loop) (s : State) → (calls P i).again lp s ≡ loop_turn P.tables (calls P i) lp s
unfolding calls
again_is P i lp s = (loop_alike P.tables s.turns (knot P i s.turns) (calls P i) (below_calls P i s.turns) lp s (omega arith)).same
