-- Declarations and statements do the same without their places, where nothing is told.
use Rattle.std.proofs.Common.{◌≡◌, ℕ, suc, ◌+◌, List, map, length, Option, option_map, Bool, true, false, if◌then◌else◌, refl, ap, ap₂, ◌∙◌}
use Rattle.std.specs.Prelude.{◌-◌, ◌||◌, nat_le}
use Rattle.c_syntax.specs.declared.tree.Named.{Named}
use Rattle.c_syntax.specs.declared.tree.ProbeMark.{ProbeMark}
use Rattle.c_syntax.specs.Shape.{TypeOf, int, pointer, array, structure, nothing, NodeShape, MaybeNode, no_node, one_node, DeclShape, decl, DeclShapes, no_decls, more_decls, DeclaratorShape, declarator, DeclaratorShapes, no_declarators, more_declarators, arrays, function, MaybeInit, no_init, one_init, one, listed, LabelShape, StmtShape, stmt, FormShape, compound, simply, when, either, while, do_while, for, switch, break, continue, return, CompoundShape, braces, ItemShapes, no_items, more_items}
use Rattle.c_store.specs.declared.value.Value.{Value}
use Rattle.c_tables.specs.Tables.{TablesShape}
use Rattle.c_placing.specs.Unplaced.{unplaced_mark, unplaced_named, unplaced_node, unplaced_maybe, unplaced_decl, unplaced_decls, unplaced_name, unplaced_names, unplaced_maybe_init, unplaced_label, unplaced_stmt, unplaced_body, unplaced_compound, unplaced_items}
use Rattle.c_walk.specs.Stating.{splits, is_labelled}
use Rattle.c_walk.specs.Tests.{choosing}
use Rattle.c_meaning.specs.State.{tells, State}
use Rattle.c_meaning.specs.declared.end.Flow.{Flow}
use Rattle.c_meaning.specs.declared.end.Flow.TheVariants.{Next, Break, Continue, Return}
use Rattle.c_meaning.specs.Results.{Got, Gives, then_do, present, needed}
use Rattle.c_meaning.specs.Layout.{cells, variable_kind}
use Rattle.c_meaning.specs.Operators.{converted}
use Rattle.c_meaning.specs.Constants.{case_constants, chosen_among}
use Rattle.c_meaning.specs.Firsts.{quiet}
use Rattle.c_meaning.specs.Declarations.{bind, bind_file, filled, filled_whole, scalar_written, one_value, initialised, declared_variable, declared_name, declared_names, declared_decl, declared_all, file_cells, file_name, file_names, file_decl, make}
use Rattle.c_meaning.specs.Places.{whole, first_cell, stored, logs}
use Rattle.c_meaning.specs.Knot.{Knot}
use Rattle.c_meaning.specs.Expressions.{log_block, meaning, tested}
use Rattle.c_meaning.specs.Statements.{scope_opened, Entry, here, at_case, at_default, is_reached, passed, entry_at, after_one, discarded, step_flow, after_body, loop_test, marks_log, chosen_entry, flow, form_flow, compound_flow, items_flow, loop_turn}
use Rattle.c_meaning.specs.Counts.{stmt_variables}
use Rattle.c_unplaced_runs.proofs.Same.{choosing_same, numbers_same, name_marks_same, cases_same, case_count_same, default_same, variable_count, decl_count, decls_count, stmt_count, one_same, cells_same}
use Rattle.c_unplaced_runs.proofs.Results.{then_same, both, turned, chosen, many_turned, logged_all}
use Rattle.c_unplaced_runs.proofs.Expressions.{loop_at, Follows, needed_both, value_alike, is_tested}

-- ---- declarations

whole_filled : (t : TablesShape) (y : TypeOf) (x : Option Named) (i j : ℕ) (vs ws : List (Option Value)) (s : State) → vs ≡ ws → filled_whole t y (option_map unplaced_named x) (quiet i) j vs s ≡ filled_whole t y x (quiet i) j ws s
whole_filled t y x i j vs ws s e = ap₂ (λ xs zs. filled tells xs (quiet i) (first_cell j (cells t y)) zs s) (name_marks_same x) e

pub scalar_alike : (x : Option Named) (i j : ℕ) (v : Value) (s : State) → scalar_written (option_map unplaced_named x) (quiet i) j v s ≡ scalar_written x (quiet i) j v s
scalar_alike x i j v s = ap (λ xs. then_do (stored tells xs (quiet i) (whole j 1) v s) (λ v. Gives Next)) (name_marks_same x)

module _ (t : TablesShape) (k l : Knot) (follows : Follows k l) where
  value_given : (y : TypeOf) (x : Option Named) (i j : ℕ) (a : NodeShape) (s : State) → then_do (needed ((meaning t k (unplaced_node a)).value (quiet 0) s)) (λ v. scalar_written (option_map unplaced_named x) (quiet i) j (converted y v)) ≡ then_do (needed ((meaning t l a).value (quiet 0) s)) (λ v. scalar_written x (quiet i) j (converted y v))
  value_given y x i j a s = needed_both _ _ _ _ (value_alike t k l follows a 0 s) (λ v s. scalar_alike x i j (converted y v) s)

  one_alike : (y : TypeOf) (x : Option Named) (i j : ℕ) (a : NodeShape) (s : State) → one_value t k y (option_map unplaced_named x) (quiet i) j (unplaced_node a) s ≡ one_value t l y x (quiet i) j a s
  one_alike (array e n) x i j a s = whole_filled t (array e n) x i j _ _ s (one_same t s.file (array e n) a)
  one_alike (int y) x i j a s = value_given (int y) x i j a s
  one_alike (pointer y) x i j a s = value_given (pointer y) x i j a s
  one_alike (structure n) x i j a s = value_given (structure n) x i j a s
  one_alike nothing x i j a s = value_given nothing x i j a s

  initialised_alike : (y : TypeOf) (x : Option Named) (i j : ℕ) (init : MaybeInit) (s : State) → initialised t k y (option_map unplaced_named x) (quiet i) j (unplaced_maybe_init init) s ≡ initialised t l y x (quiet i) j init s
  initialised_alike y x i j no_init s = refl
  initialised_alike y x i j (one_init (one a)) s = one_alike y x i j a s
  initialised_alike y x i j (one_init (listed p items last)) s = whole_filled t y x i j _ _ s (cells_same t s.file y (listed p items last))

  variable_alike : (x : Option Named) (init : MaybeInit) (i : ℕ) (y : TypeOf) (s : State) → declared_variable t k (option_map unplaced_named x) (unplaced_maybe_init init) (quiet i) y s ≡ declared_variable t l x init (quiet i) y s
  variable_alike x init i y s = many_turned (cells t y) s _ _ (λ s. then_same (make t y s) _ _ (λ j s. initialised_alike y x (i + 1) j init (bind (suc i) j s)))

  name_alike : (d : DeclaratorShape) (i : ℕ) (s : State) → declared_name t k (unplaced_name d) (quiet i) s ≡ declared_name t l d (quiet i) s
  name_alike (declarator stars x (arrays ls) init) i s = then_same (present (variable_kind t (suc i)) s) _ _ (λ y s. variable_alike x init i y s)
  name_alike (declarator stars x (function ps) init) i s = refl

  names_alike : (ds : DeclaratorShapes) (i : ℕ) (s : State) → declared_names t k (unplaced_names ds) (quiet i) s ≡ declared_names t l ds (quiet i) s
  names_alike no_declarators i s = refl
  names_alike (more_declarators d rest) i s = both _ _ _ _ (name_alike d i s) (λ f s. ap (λ n. declared_names t k (unplaced_names rest) (quiet (i + n)) s) (variable_count d) ∙ names_alike rest _ s)

  decl_alike : (d : DeclShape) (i : ℕ) (s : State) → declared_decl t k (unplaced_decl d) (quiet i) s ≡ declared_decl t l d (quiet i) s
  decl_alike (decl p specs names) i s = names_alike names i s

  decls_alike : (ds : DeclShapes) (i : ℕ) (s : State) → declared_all t k (unplaced_decls ds) (quiet i) s ≡ declared_all t l ds (quiet i) s
  decls_alike no_decls i s = refl
  decls_alike (more_decls d rest) i s = both _ _ _ _ (decl_alike d i s) (λ f s. ap (λ n. declared_all t k (unplaced_decls rest) (quiet (i + n)) s) (decl_count d) ∙ decls_alike rest _ s)

-- ---- declarations of file scope

cells_given : (t : TablesShape) (s : State) (y : TypeOf) (init : MaybeInit) → file_cells t s.file y (unplaced_maybe_init init) ≡ file_cells t s.file y init
cells_given t s y no_init = refl
cells_given t s y (one_init i) = cells_same t s.file y i

file_name_alike : (t : TablesShape) (d : DeclaratorShape) (i : ℕ) (s : State) → file_name t (unplaced_name d) (quiet i) s ≡ file_name t d (quiet i) s
file_name_alike t (declarator stars x (arrays ls) init) i s = then_same (present (variable_kind t (suc i)) s) _ _ (λ y s. then_same (make t y s) _ _ (λ j s. let z = bind_file (suc i) j s in whole_filled t y x (i + 1) j _ _ z (cells_given t z y init)))
file_name_alike t (declarator stars x (function ps) init) i s = refl

file_names_alike : (t : TablesShape) (ds : DeclaratorShapes) (i : ℕ) (s : State) → file_names t (unplaced_names ds) (quiet i) s ≡ file_names t ds (quiet i) s
file_names_alike t no_declarators i s = refl
file_names_alike t (more_declarators d rest) i s = both _ _ _ _ (file_name_alike t d i s) (λ f s. ap (λ n. file_names t (unplaced_names rest) (quiet (i + n)) s) (variable_count d) ∙ file_names_alike t rest _ s)

pub file_alike : (t : TablesShape) (d : DeclShape) (i : ℕ) (s : State) → file_decl t (unplaced_decl d) (quiet i) s ≡ file_decl t d (quiet i) s
file_alike t (decl p specs names) i s = file_names_alike t names i s

-- ---- labels

reached_same : (entry : Entry) (ls : List LabelShape) → is_reached entry (map unplaced_label ls) ≡ is_reached entry ls
reached_same here ls = refl
reached_same (at_case n) ls = ap (nat_le n) (case_count_same ls)
reached_same at_default ls = default_same ls

passed_same : (entry : Entry) (ls : List LabelShape) → passed entry (map unplaced_label ls) ≡ passed entry ls
passed_same here ls = refl
passed_same (at_case n) ls = ap (λ c. at_case (n - c)) (case_count_same ls)
passed_same at_default ls = refl

entry_same : (e : NodeShape) (items : ItemShapes) (v : Value) → chosen_entry (unplaced_node e) (unplaced_items items) v ≡ chosen_entry e items v
entry_same e items v =
    ap (λ c. entry_at (chosen_among c v (case_constants c (unplaced_items items))) (length (case_constants c (unplaced_items items)))) (choosing_same e)
    ∙ ap (λ cs. entry_at (chosen_among (choosing e) v cs) (length cs)) (cases_same (choosing e) items)

-- ---- statements

module _ (t : TablesShape) (k l : Knot) (follows : Follows k l) where
  discarded_alike : (e : MaybeNode) (i : ℕ) (s : State) → discarded t k (unplaced_maybe e) (quiet i) s ≡ discarded t l e (quiet i) s
  discarded_alike no_node i s = refl
  discarded_alike (one_node e) i s = both _ _ _ _ (value_alike t k l follows e 0 s) (λ v s. refl)

  step_alike : (e : MaybeNode) (i : ℕ) (s : State) → step_flow t k (unplaced_maybe e) (quiet i) s ≡ step_flow t l e (quiet i) s
  step_alike no_node i s = refl
  step_alike (one_node e) i s = both _ _ _ _ (value_alike t k l follows e 0 s) (λ v s. refl)

  loop_test_alike : (e : MaybeNode) (i : ℕ) (s : State) → loop_test t k (unplaced_maybe e) (quiet i) s ≡ loop_test t l e (quiet i) s
  loop_test_alike no_node i s = refl
  loop_test_alike (one_node e) i s = is_tested t k l follows e (value_alike t k l follows e) 0 s

  after_alike : (e : MaybeNode) (n : ℕ) (a : StmtShape) (m : ℕ) (g : MaybeNode) (j : ℕ) (f : Flow) (s : State) → after_body t k (loop_at (unplaced_maybe e) n (unplaced_stmt a) m (unplaced_maybe g) j) f s ≡ after_body t l (loop_at e n a m g j) f s
  after_alike e n a m g j Next s = both _ _ _ _ (step_alike g j s) (λ f s. follows.again e n a m g j s)
  after_alike e n a m g j Continue s = both _ _ _ _ (step_alike g j s) (λ f s. follows.again e n a m g j s)
  after_alike e n a m g j Break s = refl
  after_alike e n a m g j (Return v) s = refl

  pub marks_alike : (ms : List ProbeMark) (s : State) (f g : State → Got Flow) → ((s : State) → f s ≡ g s) → marks_log (map unplaced_mark ms) s f ≡ marks_log ms s g
  marks_alike ms s f g h = ap (λ xs. logs log_block xs s f) (numbers_same ms) ∙ logged_all log_block (map (λ m. m.number) ms) s f g h

  tested_alike : (e : NodeShape) (s : State) → tested (unplaced_node e) (meaning t k (unplaced_node e)) (quiet 0) s ≡ tested e (meaning t l e) (quiet 0) s
  tested_alike e s = is_tested t k l follows e (value_alike t k l follows e) 0 s

  after_one_alike : (f : Flow) (g h : State → Got Flow) (s : State) → ((s : State) → g s ≡ h s) → after_one g f s ≡ after_one h f s
  after_one_alike Next g h s same = same s
  after_one_alike Break g h s same = refl
  after_one_alike Continue g h s same = refl
  after_one_alike (Return v) g h s same = refl

  mutual
    pub flow_alike : (b c : Bool) (a : StmtShape) (i : ℕ) (s : State) → flow t k b (unplaced_stmt a) (quiet i) s ≡ flow t l c a (quiet i) s
    flow_alike b c (stmt p ms q f) i s = marks_alike ms s _ _ (λ s. turned s _ _ (λ s. form_flow_alike f i s))

    form_flow_alike : (f : FormShape) (i : ℕ) (s : State) → form_flow t k (unplaced_body f) (quiet i) s ≡ form_flow t l f (quiet i) s
    form_flow_alike (compound c) i s = both _ _ _ _ (compound_alike c i (scope_opened s)) (λ f s. refl)
    form_flow_alike (simply e) i s = discarded_alike e i s
    form_flow_alike (when e a) i s = both _ _ _ _ (tested_alike e s) (λ x s. chosen x _ _ _ _ (flow_alike true true a i s) refl)
    form_flow_alike (either e a b) i s = both _ _ _ _ (tested_alike e s) (λ x s. chosen x _ _ _ _ (flow_alike true true a i s)
        (ap (λ n. flow t k true (unplaced_stmt b) (quiet (i + n)) s) (stmt_count a) ∙ flow_alike true true b _ s))
    form_flow_alike (while e a) i s = follows.again (one_node e) i a i no_node i s
    form_flow_alike (do_while a e) i s = both _ _ _ _ (flow_alike true true a i s) (λ f s.
        ap (λ n. after_body t k (loop_at (one_node (unplaced_node e)) (i + n) (unplaced_stmt a) i no_node i) f s) (stmt_count a) ∙ after_alike (one_node e) _ a i no_node i f s)
    form_flow_alike (for e f g a) i s = both _ _ _ _ (discarded_alike e i s) (λ v s. follows.again f i a i g i s)
    form_flow_alike (switch e items) i s = needed_both _ _ _ _ (value_alike t k l follows e 0 s) (λ v s.
        both _ _ _ _ (ap (λ entry. items_flow t k entry false (unplaced_items items) (quiet i) s) (entry_same e items v) ∙ items_alike (chosen_entry e items v) false false items i s) (λ f s. refl))
    form_flow_alike break i s = refl
    form_flow_alike continue i s = refl
    form_flow_alike (return no_node) i s = refl
    form_flow_alike (return (one_node e)) i s = needed_both _ _ _ _ (value_alike t k l follows e 0 s) (λ v s. refl)

    pub compound_alike : (c : CompoundShape) (i : ℕ) (s : State) → compound_flow t k (unplaced_compound c) (quiet i) s ≡ compound_flow t l c (quiet i) s
    compound_alike (braces p ds items) i s = both _ _ _ _ (decls_alike t k l follows ds i s) (λ f s.
        ap (λ n. items_flow t k here false (unplaced_items items) (quiet (i + n)) s) (decls_count ds) ∙ items_alike here false false items _ s)

    items_alike : (entry : Entry) (b c : Bool) (items : ItemShapes) (i : ℕ) (s : State) → items_flow t k entry b (unplaced_items items) (quiet i) s ≡ items_flow t l entry c items (quiet i) s
    items_alike entry b c no_items i s = refl
    items_alike entry b c (more_items labels a rest) i s =
        ap (λ r. if r then then_do (flow t k (b || is_labelled (map unplaced_label labels)) (unplaced_stmt a) (quiet i) s) (after_one (items_flow t k here (splits (unplaced_stmt a)) (unplaced_items rest) (quiet (i + stmt_variables (unplaced_stmt a))))) else items_flow t k (passed entry (map unplaced_label labels)) (splits (unplaced_stmt a)) (unplaced_items rest) (quiet (i + stmt_variables (unplaced_stmt a))) s) (reached_same entry labels)
        ∙ chosen (is_reached entry labels) _ _ _ _
        (both _ _ _ _ (flow_alike _ _ a i s) (λ f s. after_one_alike f _ _ s (λ s. ap (λ n. items_flow t k here (splits (unplaced_stmt a)) (unplaced_items rest) (quiet (i + n)) s) (stmt_count a) ∙ items_alike here _ _ rest _ s)))
        (ap₂ (λ u n. items_flow t k u (splits (unplaced_stmt a)) (unplaced_items rest) (quiet (i + n)) s) (passed_same entry labels) (stmt_count a) ∙ items_alike (passed entry labels) _ _ rest _ s)

  pub loop_alike : (e : MaybeNode) (n : ℕ) (a : StmtShape) (m : ℕ) (g : MaybeNode) (j : ℕ) (s : State) → loop_turn t k (loop_at (unplaced_maybe e) n (unplaced_stmt a) m (unplaced_maybe g) j) s ≡ loop_turn t l (loop_at e n a m g j) s
  loop_alike e n a m g j s = both _ _ _ _ (loop_test_alike e n s) (λ x s. chosen x _ _ _ _ (both _ _ _ _ (flow_alike true true a m s) (λ f s. after_alike e n a m g j f s)) refl)
