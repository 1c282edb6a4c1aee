-- The same of statements, calls and runs.
use Rattle.std.proofs.Common.{◌≡◌, ℕ, suc, ◌+◌, map, Option, Bool, true, false, ◌∙◌, refl, sym, ap}
use Rattle.std.specs.Prelude.{◌||◌}
use Rattle.c_base.specs.declared.place.Pos.{Pos}
use Rattle.c_syntax.specs.declared.tree.Named.{Named}
use Rattle.c_syntax.specs.Shape.{TypeOf, int, pointer, array, structure, nothing, NodeShape, MaybeNode, no_node, one_node, DeclShape, decl, DeclShapes, no_decls, more_decls, DeclaratorShape, declarator, DeclaratorShapes, no_declarators, more_declarators, arrays, function, MaybeInit, no_init, one_init, one, listed, StmtShape, stmt, FormShape, compound, simply, when, either, while, do_while, for, switch, break, continue, return, CompoundShape, braces, ItemShapes, no_items, more_items}
use Rattle.c_tables.specs.Tables.{TablesShape}
use Rattle.c_walk.specs.Walked.{with_block_if}
use Rattle.c_walk.specs.Stating.{splits, is_labelled, pos_of_stmt}
use Rattle.c_meaning.specs.declared.end.Flow.{Flow}
use Rattle.c_meaning.specs.declared.end.Flow.TheVariants.{Next, Break, Continue, Return}
use Rattle.c_meaning.specs.State.{State}
use Rattle.c_meaning.specs.Results.{Got, Gives, then_do, needed}
use Rattle.c_meaning.specs.Layout.{cells, variable_kind}
use Rattle.c_meaning.specs.Operators.{converted}
use Rattle.c_meaning.specs.Firsts.{First, in_expression, quiet, heard, noted_block, noted_outcome, noted_made, behind_test, at_choice, behind_choice, at_block}
use Rattle.c_meaning.specs.Constants.{one_cells, init_cells}
use Rattle.c_meaning.specs.Counts.{stmt_variables, past_name, past_def, past_declarator, past_decl, past_decls, past_stmt, behind_maybe, behind_maybe_test, behind_step}
use Rattle.c_meaning.specs.Knot.{Loop, Knot}
use Rattle.c_meaning.specs.Expressions.{meaning, tested, arm, log_block}
use Rattle.c_meaning.specs.Declarations.{bind, next_variable, scalar_written, one_value, initialised, bound_variable, made_variable, declared_variable, declared_name, declared_names, declared_decl, declared_all}
use Rattle.c_meaning.specs.Statements.{Entry, here, out_of_switch, after_one, discarded, step_flow, after_body, loop_test, case_number, chosen_entry, scope_opened, flow, form_flow, compound_flow, items_flow, loop_turn, is_reached, passed, while_loop, do_loop, for_loop}
use Rattle.c_meaning.proofs.Declared.{test_node_count, maybe_count, maybe_test_count, step_count, choice_count, block_count, declarator_count, decl_count, decls_count, stmt_count}
use Rattle.c_meaning.proofs.Hushed.{hush, hushed, hush_then, hush_turn, hush_if, hush_turns, hush_present, hush_needed, hush_logs, block_hush, make_hush, whole_hush, scalar_hush}
use Rattle.c_meaning.proofs.Quiet.{quieted, quiet_loop, Follows, node_quiets, tested_quiet, arm_quiet}

-- ---- what stands before a node, quietly

test_before : (e : NodeShape) (i : First) → behind_test e (quieted i) ≡ quieted (behind_test e i)
test_before e (quiet n) = refl
test_before e (heard c w) = ap quiet (sym (test_node_count c e w))

maybe_before : (e : MaybeNode) (i : First) → behind_maybe e (quieted i) ≡ quieted (behind_maybe e i)
maybe_before e (quiet n) = refl
maybe_before e (heard c w) = ap quiet (sym (maybe_count c e w))

maybe_test_before : (e : MaybeNode) (i : First) → behind_maybe_test e (quieted i) ≡ quieted (behind_maybe_test e i)
maybe_test_before e (quiet n) = refl
maybe_test_before e (heard c w) = ap quiet (sym (maybe_test_count c e w))

step_before : (e : MaybeNode) (i : First) → behind_step e (quieted i) ≡ quieted (behind_step e i)
step_before e (quiet n) = refl
step_before e (heard c w) = ap quiet (sym (step_count c e w))

choice_before : (e : NodeShape) (items : ItemShapes) (i : First) → behind_choice e items (quieted i) ≡ quieted (behind_choice e items i)
choice_before e items (quiet n) = refl
choice_before e items (heard c w) = ap quiet (sym (choice_count c e items w))

pub block_before : (b : Bool) (p : Pos) (i : First) → at_block b p (quieted i) ≡ quieted (at_block b p i)
block_before b p (quiet n) = refl
block_before b p (heard c w) = ap quiet (sym (block_count b p w))

declarator_before : (t : TablesShape) (d : DeclaratorShape) (i : First) → past_declarator t d (quieted i) ≡ quieted (past_declarator t d i)
declarator_before t d (quiet n) = refl
declarator_before t d (heard c w) = ap quiet (sym (declarator_count t c d w))

decl_before : (t : TablesShape) (d : DeclShape) (i : First) → past_decl t d (quieted i) ≡ quieted (past_decl t d i)
decl_before t d (quiet n) = refl
decl_before t d (heard c w) = ap quiet (sym (decl_count t c d w))

decls_before : (t : TablesShape) (ds : DeclShapes) (i : First) → past_decls t ds (quieted i) ≡ quieted (past_decls t ds i)
decls_before t ds (quiet n) = refl
decls_before t ds (heard c w) = ap quiet (sym (decls_count t c ds w))

stmt_before : (t : TablesShape) (b : Bool) (a : StmtShape) (i : First) → past_stmt t b a (quieted i) ≡ quieted (past_stmt t b a i)
stmt_before t b a (quiet n) = refl
stmt_before t b a (heard c w) = ap quiet (sym (stmt_count t c a (with_block_if b (pos_of_stmt a) w) ∙ ap (λ m. m + stmt_variables a) (block_count b (pos_of_stmt a) w)))

name_before : (i : First) → past_name (quieted i) ≡ quieted (past_name i)
name_before (quiet n) = refl
name_before (heard c w) = refl

same_variable : (i : First) → next_variable (quieted i) ≡ next_variable i
same_variable (quiet n) = refl
same_variable (heard c w) = refl

-- an expression is quiet wherever it stands
value_at : (t : TablesShape) (k l : Knot) → Follows k l → (e : NodeShape) (i j : First) (s : State) → (meaning t k e).value (in_expression (quieted i)) (hush s) ≡ hushed ((meaning t l e).value j s)
value_at t k l follows e (quiet n) j s = (node_quiets t k l follows e).value_quiet 0 j s
value_at t k l follows e (heard c w) j s = (node_quiets t k l follows e).value_quiet 0 j s

tested_at : (t : TablesShape) (k l : Knot) → Follows k l → (e : NodeShape) (i : First) (s : State) → tested e (meaning t k e) (in_expression (quieted i)) (hush s) ≡ hushed (tested e (meaning t l e) (in_expression i) s)
tested_at t k l follows e (quiet n) s = tested_quiet e _ _ (node_quiets t k l follows e) 0 (quiet 0) s
tested_at t k l follows e (heard c w) s = tested_quiet e _ _ (node_quiets t k l follows e) 0 (heard c w) s

arm_at : {A : Type 0} (e : NodeShape) (i : First) (s : State) (g h : First → State → Got A) → ((m : ℕ) (j : First) (s : State) → g (quiet m) (hush s) ≡ hushed (h j s)) → arm e (in_expression (quieted i)) (hush s) g ≡ hushed (arm e (in_expression i) s h)
arm_at e (quiet n) s g h go = arm_quiet e 0 (quiet 0) s g h (go 0)
arm_at e (heard c w) s g h go = arm_quiet e 0 (heard c w) s g h (go 0)

pub noted_at : (b : Bool) (i : First) (s : State) → noted_block b (quieted i) (hush s) ≡ hush (noted_block b i s)
noted_at b (quiet n) s = refl
noted_at b (heard c w) s = block_hush b (heard c w) s

outcome_at : (i : First) (o : ℕ) (s : State) → noted_outcome (quieted i) o (hush s) ≡ hush (noted_outcome i o s)
outcome_at (quiet n) o s = refl
outcome_at (heard c w) o s = refl

-- ---- loops, quietly

while_before : (t : TablesShape) (e : NodeShape) (a : StmtShape) (i : First) → while_loop t e a (quieted i) ≡ quiet_loop (while_loop t e a i)
while_before t e a i =
    let f : First → Loop = λ z. record { test = one_node e; at_test = quieted i; body = a; at_body = z; step = no_node; at_step = quieted i } in
    ap f (maybe_test_before (one_node e) i)

do_before : (t : TablesShape) (a : StmtShape) (e : NodeShape) (i : First) → do_loop t a e (quieted i) ≡ quiet_loop (do_loop t a e i)
do_before t a e i =
    let f : First → Loop = λ z. record { test = one_node e; at_test = z; body = a; at_body = quieted i; step = no_node; at_step = quieted i } in
    ap f (stmt_before t true a i)

for_before : (t : TablesShape) (f g : MaybeNode) (a : StmtShape) (i : First) → for_loop t f g a (quieted i) ≡ quiet_loop (for_loop t f g a i)
for_before t f g a i =
    let h : First → First → Loop = λ y z. record { test = f; at_test = quieted i; body = a; at_body = y; step = g; at_step = z } in
    ap (λ z. h (behind_step g z) z) (maybe_test_before f i) ∙ ap (λ y. h y (quieted (behind_maybe_test f i))) (step_before g (behind_maybe_test f i))

out_quiet : (f : Flow) (s : State) → out_of_switch f (hush s) ≡ hushed (out_of_switch f s)
out_quiet Break s = refl
out_quiet Next s = refl
out_quiet Continue s = refl
out_quiet (Return v) s = refl

after_quiet : (g h : State → Got Flow) (f : Flow) (s : State) → ((s : State) → g (hush s) ≡ hushed (h s)) → after_one g f (hush s) ≡ hushed (after_one h f s)
after_quiet g h Next s go = go s
after_quiet g h Break s go = refl
after_quiet g h Continue s go = refl
after_quiet g h (Return v) s go = refl

module _ (t : TablesShape) (k l : Knot) (follows : Follows k l) where
  -- ---- declarations

  value_quiet : (y : TypeOf) (x : Option Named) (m : ℕ) (i : First) (j : ℕ) (a : NodeShape) (s : State) → then_do (needed ((meaning t k a).value (in_expression (past_def t x (quiet m))) (hush s))) (λ v. scalar_written x (quiet m) j (converted y v)) ≡ hushed (then_do (needed ((meaning t l a).value (in_expression (past_def t x i)) s)) (λ v. scalar_written x i j (converted y v)))
  value_quiet y x m i j a s = hush_then _ _ _ _ (hush_needed _ _ ((node_quiets t k l follows a).value_quiet 0 (in_expression (past_def t x i)) s)) (λ v s. scalar_hush x m i j (converted y v) s)

  one_quiet : (y : TypeOf) (x : Option Named) (m : ℕ) (i : First) (j : ℕ) (a : NodeShape) (s : State) → one_value t k y x (quiet m) j a (hush s) ≡ hushed (one_value t l y x i j a s)
  one_quiet (array y n) x m i j a s = whole_hush t (array y n) x m i j (one_cells t s.file (array y n) a) s
  one_quiet (int y) x m i j a s = value_quiet (int y) x m i j a s
  one_quiet (pointer y) x m i j a s = value_quiet (pointer y) x m i j a s
  one_quiet (structure n) x m i j a s = value_quiet (structure n) x m i j a s
  one_quiet nothing x m i j a s = value_quiet nothing x m i j a s

  init_quiet : (y : TypeOf) (x : Option Named) (m : ℕ) (i : First) (j : ℕ) (init : MaybeInit) (s : State) → initialised t k y x (quiet m) j init (hush s) ≡ hushed (initialised t l y x i j init s)
  init_quiet y x m i j no_init s = refl
  init_quiet y x m i j (one_init (one a)) s = one_quiet y x m i j a s
  init_quiet y x m i j (one_init (listed p items last)) s = whole_hush t y x m i j (init_cells t s.file y (listed p items last)) s

  bound_quiet : (x : Option Named) (init : MaybeInit) (i : First) (y : TypeOf) (j : ℕ) (s : State) → bound_variable t k x init (quieted i) y j (hush s) ≡ hushed (bound_variable t l x init i y j s)
  bound_quiet x init (quiet n) y j s = init_quiet y x (n + 1) (past_name (quiet n)) j init (noted_made (quiet n) (suc n) (bind (suc n) j s))
  bound_quiet x init (heard c w) y j s = init_quiet y x (w.variables + 1) (past_name (heard c w)) j init (noted_made (heard c w) (suc w.variables) (bind (suc w.variables) j s))

  variable_quiet : (x : Option Named) (init : MaybeInit) (i : First) (y : TypeOf) (s : State) → declared_variable t k x init (quieted i) y (hush s) ≡ hushed (declared_variable t l x init i y s)
  variable_quiet x init i y s =
      hush_turns (cells t y) s (made_variable t k x init (quieted i) y) (made_variable t l x init i y) (λ s.
      hush_then _ _ (bound_variable t k x init (quieted i) y) (bound_variable t l x init i y) (make_hush t y s) (λ j s. bound_quiet x init i y j s))

  name_quiet : (d : DeclaratorShape) (i : First) (s : State) → declared_name t k d (quieted i) (hush s) ≡ hushed (declared_name t l d i s)
  name_quiet (declarator stars x (arrays ls) init) (quiet n) s = hush_then _ _ _ _ (hush_present (variable_kind t (suc n)) s) (λ y s. variable_quiet x init (quiet n) y s)
  name_quiet (declarator stars x (arrays ls) init) (heard c w) s = hush_then _ _ _ _ (hush_present (variable_kind t (suc w.variables)) s) (λ y s. variable_quiet x init (heard c w) y s)
  name_quiet (declarator stars x (function ps) init) i s = refl

  names_quiet : (ds : DeclaratorShapes) (i : First) (s : State) → declared_names t k ds (quieted i) (hush s) ≡ hushed (declared_names t l ds i s)
  names_quiet no_declarators i s = refl
  names_quiet (more_declarators d rest) i s = hush_then _ _ _ _ (name_quiet d i s) (λ f s. ap (λ z. declared_names t k rest z (hush s)) (declarator_before t d i) ∙ names_quiet rest (past_declarator t d i) s)

  decl_quiet : (d : DeclShape) (i : First) (s : State) → declared_decl t k d (quieted i) (hush s) ≡ hushed (declared_decl t l d i s)
  decl_quiet (decl p specs names) i s = names_quiet names i s

  decls_quiet : (ds : DeclShapes) (i : First) (s : State) → declared_all t k ds (quieted i) (hush s) ≡ hushed (declared_all t l ds i s)
  decls_quiet no_decls i s = refl
  decls_quiet (more_decls d rest) i s = hush_then _ _ _ _ (decl_quiet d i s) (λ f s. ap (λ z. declared_all t k rest z (hush s)) (decl_before t d i) ∙ decls_quiet rest (past_decl t d i) s)

  -- ---- statements

  discarded_quiet : (e : MaybeNode) (i : First) (s : State) → discarded t k e (quieted i) (hush s) ≡ hushed (discarded t l e i s)
  discarded_quiet no_node i s = refl
  discarded_quiet (one_node e) i s = hush_then _ _ _ _ (value_at t k l follows e i (in_expression i) s) (λ v s. refl)

  step_quiet : (e : MaybeNode) (i : First) (s : State) → step_flow t k e (quieted i) (hush s) ≡ hushed (step_flow t l e i s)
  step_quiet no_node i s = refl
  step_quiet (one_node e) i s = hush_then _ _ _ _ (arm_at e i s (meaning t k e).value (meaning t l e).value (λ m j s. (node_quiets t k l follows e).value_quiet m j s)) (λ v s. refl)

  body_quiet : (lp : Loop) (f : Flow) (s : State) → after_body t k (quiet_loop lp) f (hush s) ≡ hushed (after_body t l lp f s)
  body_quiet lp Next s = hush_then _ _ _ _ (step_quiet lp.step lp.at_step s) (λ f s. follows.again_follows lp s)
  body_quiet lp Continue s = hush_then _ _ _ _ (step_quiet lp.step lp.at_step s) (λ f s. follows.again_follows lp s)
  body_quiet lp Break s = refl
  body_quiet lp (Return v) s = refl

  choice_at : (e : NodeShape) (items : ItemShapes) (i : First) (s : State) → (meaning t k e).value (in_expression (at_choice e items (quieted i))) (hush s) ≡ hushed ((meaning t l e).value (in_expression (at_choice e items i)) s)
  choice_at e items (quiet n) s = (node_quiets t k l follows e).value_quiet 0 (quiet 0) s
  choice_at e items (heard c w) s = (node_quiets t k l follows e).value_quiet 0 (in_expression (at_choice e items (heard c w))) s

  mutual
    pub flow_quiet : (b : Bool) (a : StmtShape) (i : First) (s : State) → flow t k b a (quieted i) (hush s) ≡ hushed (flow t l b a i s)
    flow_quiet b (stmt p ms q f) i s =
        hush_logs log_block (map (λ m. m.number) ms) (noted_block b (quieted i) (hush s)) (noted_block b i s) _ _ (λ m s. refl) (noted_at b i s) (λ s.
        hush_turn s _ _ (λ s. ap (λ z. form_flow t k f z (hush s)) (block_before b p i) ∙ form_quiet f (at_block b p i) s))

    form_quiet : (f : FormShape) (i : First) (s : State) → form_flow t k f (quieted i) (hush s) ≡ hushed (form_flow t l f i s)
    form_quiet (compound c) i s = hush_then _ _ _ _ (compound_quiet c i (scope_opened s)) (λ f s. refl)
    form_quiet (simply e) i s = discarded_quiet e i s
    form_quiet (when e a) i s = hush_then _ _ _ _ (tested_at t k l follows e i s) (λ x s.
        hush_if x _ _ (Gives Next (hush s)) (Gives Next s) (ap (λ z. flow t k true a z (hush s)) (test_before e i) ∙ flow_quiet true a (behind_test e i) s) refl)
    form_quiet (either e a b) i s = hush_then _ _ _ _ (tested_at t k l follows e i s) (λ x s.
        hush_if x _ _ _ _ (ap (λ z. flow t k true a z (hush s)) (test_before e i) ∙ flow_quiet true a (behind_test e i) s)
        (ap (λ z. flow t k true b z (hush s)) (ap (past_stmt t true a) (test_before e i) ∙ stmt_before t true a (behind_test e i)) ∙ flow_quiet true b (past_stmt t true a (behind_test e i)) s))
    form_quiet (while e a) i s = ap (λ z. k.again z (hush s)) (while_before t e a i) ∙ follows.again_follows (while_loop t e a i) s
    form_quiet (do_while a e) i s = hush_then _ _ _ _ (flow_quiet true a i s) (λ f s. ap (λ z. after_body t k z f (hush s)) (do_before t a e i) ∙ body_quiet (do_loop t a e i) f s)
    form_quiet (for e f g a) i s = hush_then _ _ _ _ (discarded_quiet e i s) (λ v s.
        ap (λ z. k.again z (hush s)) (ap (for_loop t f g a) (maybe_before e i) ∙ for_before t f g a (behind_maybe e i)) ∙ follows.again_follows (for_loop t f g a (behind_maybe e i)) s)
    form_quiet (switch e items) i s = hush_then _ _ _ _ (hush_needed _ _ (choice_at e items i s)) (λ v s.
        hush_then _ _ _ _
        (ap (λ z. items_flow t k (chosen_entry e items v) false items z (noted_outcome (quieted i) (case_number e items v) (hush s))) (choice_before e items i)
        ∙ (ap (items_flow t k (chosen_entry e items v) false items (quieted (behind_choice e items i))) (outcome_at i (case_number e items v) s)
        ∙ items_quiet (chosen_entry e items v) false items (behind_choice e items i) (noted_outcome i (case_number e items v) s)))
        (λ f s. out_quiet f s))
    form_quiet break i s = refl
    form_quiet continue i s = refl
    form_quiet (return no_node) i s = refl
    form_quiet (return (one_node e)) i s = hush_then _ _ _ _ (hush_needed _ _ (value_at t k l follows e i (in_expression i) s)) (λ v s. refl)

    pub compound_quiet : (c : CompoundShape) (i : First) (s : State) → compound_flow t k c (quieted i) (hush s) ≡ hushed (compound_flow t l c i s)
    compound_quiet (braces p ds items) i s = hush_then _ _ _ _ (decls_quiet ds i s) (λ f s.
        ap (λ z. items_flow t k here false items z (hush s)) (decls_before t ds i) ∙ items_quiet here false items (past_decls t ds i) s)

    items_quiet : (entry : Entry) (after : Bool) (items : ItemShapes) (i : First) (s : State) → items_flow t k entry after items (quieted i) (hush s) ≡ hushed (items_flow t l entry after items i s)
    items_quiet entry after no_items i s = refl
    items_quiet entry after (more_items labels a rest) i s =
        let b = after || is_labelled labels in
        hush_if (is_reached entry labels) _ _ _ _
        (hush_then _ _ _ _ (flow_quiet b a i s) (λ f s. after_quiet _ _ f s (λ s. ap (λ z. items_flow t k here (splits a) rest z (hush s)) (stmt_before t b a i) ∙ items_quiet here (splits a) rest (past_stmt t b a i) s)))
        (ap (λ z. items_flow t k (passed entry labels) (splits a) rest z (hush s)) (stmt_before t b a i) ∙ items_quiet (passed entry labels) (splits a) rest (past_stmt t b a i) s)

  -- ---- loops

  loop_test_quiet : (e : MaybeNode) (i : First) (s : State) → loop_test t k e (quieted i) (hush s) ≡ hushed (loop_test t l e i s)
  loop_test_quiet no_node i s = refl
  loop_test_quiet (one_node e) i s = arm_at e i s (tested e (meaning t k e)) (tested e (meaning t l e)) (λ m j s. tested_quiet e _ _ (node_quiets t k l follows e) m j s)

  pub loop_quiet : (lp : Loop) (s : State) → loop_turn t k (quiet_loop lp) (hush s) ≡ hushed (loop_turn t l lp s)
  loop_quiet lp s = hush_then _ _ _ _ (loop_test_quiet lp.test lp.at_test s) (λ x s.
      hush_if x _ _ (Gives Next (hush s)) (Gives Next s) (hush_then _ _ _ _ (flow_quiet true lp.body lp.at_body s) (λ f s. body_quiet lp f s)) refl)
