-- Declarations with their probes do what the declarations do, and log what they tell.
use Rattle.std.proofs.Common.{◌≡◌, ℕ, suc, ◌+◌, ◌<◌, List, Option, ◌∙◌, refl, sym, ap}
use Rattle.c_syntax.specs.declared.tree.Named.{Named}
use Rattle.c_syntax.specs.declared.tree.Star.{Star}
use Rattle.c_syntax.specs.Shape.{TypeOf, int, pointer, array, structure, nothing, NodeShape, DeclShape, decl, DeclShapes, no_decls, more_decls, DeclaratorShape, declarator, DeclaratorShapes, no_declarators, more_declarators, LengthShapes, arrays, function, MaybeInit, no_init, one_init, InitShape, one, listed}
use Rattle.c_tables.specs.Tables.{TablesShape}
use Rattle.c_walk.specs.declared.around.Around.{Around}
use Rattle.c_walk.specs.declared.around.Taken.TheVariants.{Read}
use Rattle.c_walk.specs.Walked.{Walked}
use Rattle.c_walk.specs.Walking.{walk_node}
use Rattle.c_walk.specs.Stating.{whole, with_variable, with_whole_def, walk_init, walk_maybe_init, walk_declarator, walk_declarators, walk_decl, walk_decls}
use Rattle.c_tables.specs.Rows.{name_pos, first_place}
use Rattle.c_meaning.specs.declared.end.Flow.TheVariants.{Next}
use Rattle.c_meaning.specs.State.{State}
use Rattle.c_meaning.specs.Results.{Gives, then_do, needed}
use Rattle.c_meaning.specs.Layout.{cells, variable_kind}
use Rattle.c_meaning.specs.Operators.{converted}
use Rattle.c_meaning.specs.Firsts.{quiet, heard, noted_made}
use Rattle.c_walk.specs.Counted.{def_count}
use Rattle.c_meaning.specs.Constants.{one_cells, init_cells}
use Rattle.c_meaning.specs.Counts.{past_declarator, past_decl, past_decls}
use Rattle.c_meaning.specs.Knot.{Knot}
use Rattle.c_meaning.specs.Expressions.{meaning}
use Rattle.c_meaning.specs.Declarations.{bind, scalar_written, filled_whole, one_value, initialised, bound_variable, made_variable, declared_name, declared_names, declared_decl, declared_all}
use Rattle.c_meaning.proofs.Declared.{declarator_count, decl_count, decls_count}
use Rattle.c_meaning.proofs.Walks.{on_further, node_on, declarator_on, decls_on}
use Rattle.c_meaning.specs.Counts.{IsBefore}
use Rattle.probe_rules.specs.Marks.{defined_name}
use Rattle.probe_rules.specs.ProbedExpressions.{probed_node}
use Rattle.probe_rules.specs.ProbedStatements.{probed_init, probed_variable, probed_declarator, probed_declarators, probed_decl, probed_decls}
use Rattle.probe_rules.specs.Fitting.{HasFewItems}
use Rattle.probe_rules.proofs.Ready.{IsReady, IsNamed, IsReadyInit, IsReadyVariable, IsReadyDeclarator, AreReadyDeclarators, IsReadyDecl, AreReadyDecls}
use Rattle.probe_rules.proofs.Few.{few_before, few_defs, same_before}
use Rattle.probe_rules.proofs.Told.{as_log, with_log, sim_then, sim_turns, sim_present, sim_needed, made_told, make_sim, whole_sim, scalar_sim}
use Rattle.probe_rules.proofs.Loops.{Follows}
use Rattle.probe_rules.proofs.SimNodes.{value_sim}
use Rattle.probe_rules.proofs.SameInitials.{same_cells}
use Rattle.probe_rules.proofs.SameCounts.{declarator_same, decl_same, decls_same}

-- ---- what is counted before

pub declarators_before : (t : TablesShape) (c : Around) (ds : DeclaratorShapes) (w : Walked) → IsBefore w (walk_declarators t c ds w)
declarators_before t c no_declarators w = same_before w
declarators_before t c (more_declarators d rest) w = let v = walk_declarator t c d w in on_further w v (walk_declarators t c rest v) (declarator_on t c d w) (declarators_before t c rest v)

few_name : (t : TablesShape) (c : Around) (x : Option Named) (i : InitShape) (w : Walked) → HasFewItems (walk_init c i (with_whole_def t c.function x w)) → HasFewItems (with_whole_def t c.function x w)
few_name t c x (one a) w few = few_before (node_on c Read a (with_whole_def t c.function x w)) few
few_name t c x (listed p items last) w few = few

declarator_after : (t : TablesShape) (c : Around) (d : DeclaratorShape) (w : Walked) → past_declarator t (probed_declarator t c d w) (quiet w.variables) ≡ quiet (walk_declarator t c d w).variables
declarator_after t c d w = ap quiet (ap (λ m. w.variables + m) (declarator_same t c d w) ∙ sym (declarator_count t c d w))

decl_after : (t : TablesShape) (c : Around) (d : DeclShape) (w : Walked) → past_decl t (probed_decl t c d w) (quiet w.variables) ≡ quiet (walk_decl t c d w).variables
decl_after t c d w = ap quiet (ap (λ m. w.variables + m) (decl_same t c d w) ∙ sym (decl_count t c d w))

pub decls_after : (t : TablesShape) (c : Around) (ds : DeclShapes) (w : Walked) → past_decls t (probed_decls t c ds w) (quiet w.variables) ≡ quiet (walk_decls t c ds w).variables
decls_after t c ds w = ap quiet (ap (λ m. w.variables + m) (decls_same t c ds w) ∙ sym (decls_count t c ds w))

module _ (t : TablesShape) (k l : Knot) (follows : Follows t k l) where
  -- ---- initialisers

  value_written : (y : TypeOf) (x : Option Named) (m : ℕ) (c : Around) (w : Walked) (j : ℕ) (a : NodeShape) (s : State) → IsNamed x → IsReady Read a → (let v = with_whole_def t c.function x w in HasFewItems (walk_node c Read a v)) → def_count w.items < 16383 → (let v = with_whole_def t c.function x w in then_do (needed ((meaning t k (probed_node c Read a v)).value (quiet 0) (as_log s))) (λ z. scalar_written (defined_name x w) (quiet m) j (converted y z)) ≡ with_log (then_do (needed ((meaning t l a).value (heard c v) s)) (λ z. scalar_written x (heard c w) j (converted y z))))
  value_written y x m c w j a s named clean few below =
      sim_then _ _ _ _ (sim_needed _ _ (value_sim t k l follows c a (with_whole_def t c.function x w) clean few 0 s)) (λ z s. scalar_sim x m c w j (converted y z) s named below)

  one_sim : (y : TypeOf) (x : Option Named) (m : ℕ) (c : Around) (w : Walked) (j : ℕ) (a : NodeShape) (s : State) → IsNamed x → IsReady Read a → (let v = with_whole_def t c.function x w in HasFewItems (walk_node c Read a v)) → def_count w.items < 16383 → one_value t k y (defined_name x w) (quiet m) j (probed_node c Read a (with_whole_def t c.function x w)) (as_log s) ≡ with_log (one_value t l y x (heard c w) j a s)
  one_sim (array y n) x m c w j a s named clean few below =
      ap (λ z. filled_whole t (array y n) (defined_name x w) (quiet m) j z (as_log s)) (same_cells t s.file y n c a (with_whole_def t c.function x w) clean) ∙ whole_sim t (array y n) x m c w j (one_cells t s.file (array y n) a) s named below
  one_sim (int y) x m c w j a s named clean few below = value_written (int y) x m c w j a s named clean few below
  one_sim (pointer y) x m c w j a s named clean few below = value_written (pointer y) x m c w j a s named clean few below
  one_sim (structure n) x m c w j a s named clean few below = value_written (structure n) x m c w j a s named clean few below
  one_sim nothing x m c w j a s named clean few below = value_written nothing x m c w j a s named clean few below

  init_sim : (y : TypeOf) (x : Option Named) (m : ℕ) (c : Around) (w : Walked) (j : ℕ) (i : InitShape) (s : State) → IsNamed x → IsReadyInit i → HasFewItems (walk_init c i (with_whole_def t c.function x w)) → def_count w.items < 16383 → initialised t k y (defined_name x w) (quiet m) j (one_init (probed_init c i (with_whole_def t c.function x w))) (as_log s) ≡ with_log (initialised t l y x (heard c w) j (one_init i) s)
  init_sim y x m c w j (one a) s named clean few below = one_sim y x m c w j a s named clean few below
  init_sim y x m c w j (listed p items last) s named clean few below = whole_sim t y x m c w j (init_cells t s.file y (listed p items last)) s named below

  -- ---- variables

  bound_sim : (x : Option Named) (i : InitShape) (c : Around) (w : Walked) (y : TypeOf) (j : ℕ) (s : State) → IsReadyVariable x (one_init i) → HasFewItems (walk_maybe_init t c x (one_init i) (with_variable w)) → (let v = with_variable w in bound_variable t k (defined_name x v) (one_init (probed_init c i (with_whole_def t c.function x v))) (quiet w.variables) y j (as_log s) ≡ with_log (bound_variable t l x (one_init i) (heard c w) y j s))
  bound_sim x i c w y j s clean few =
      let v = with_variable w in
      let z = bind (suc w.variables) j s in
      ap (initialised t k y (defined_name x v) (quiet (w.variables + 1)) j (one_init (probed_init c i (with_whole_def t c.function x v)))) (made_told c w (suc w.variables) z)
      ∙ init_sim y x (w.variables + 1) c v j i (noted_made (heard c w) (suc w.variables) z) clean.0 clean.1 few (few_defs (name_pos first_place x) c.function (whole t v.variables) v (few_name t c x i v few))

  declared_sim : (stars : List Star) (x : Option Named) (ls : LengthShapes) (i : MaybeInit) (c : Around) (w : Walked) (s : State) → IsReadyVariable x i → HasFewItems (walk_maybe_init t c x i (with_variable w)) → declared_name t k (probed_variable t c stars x ls i (with_variable w)) (quiet w.variables) (as_log s) ≡ with_log (declared_name t l (declarator stars x (arrays ls) i) (heard c w) s)
  declared_sim stars x ls no_init c w s clean few =
      sim_then _ _ _ _ (sim_present (variable_kind t (suc w.variables)) s) (λ y s.
      sim_turns (cells t y) s (made_variable t k x no_init (quiet w.variables) y) (made_variable t l x no_init (heard c w) y) (λ s.
      sim_then _ _ _ _ (make_sim t y s) (λ j s. ap (Gives Next) (made_told c w (suc w.variables) (bind (suc w.variables) j s)))))
  declared_sim stars x ls (one_init i) c w s clean few =
      let v = with_variable w in
      let x' = defined_name x v in
      let i' = one_init (probed_init c i (with_whole_def t c.function x v)) in
      sim_then _ _ _ _ (sim_present (variable_kind t (suc w.variables)) s) (λ y s.
      sim_turns (cells t y) s (made_variable t k x' i' (quiet w.variables) y) (made_variable t l x (one_init i) (heard c w) y) (λ s.
      sim_then _ _ (bound_variable t k x' i' (quiet w.variables) y) (bound_variable t l x (one_init i) (heard c w) y) (make_sim t y s) (λ j s. bound_sim x i c w y j s clean few)))

  name_sim : (d : DeclaratorShape) (c : Around) (w : Walked) (s : State) → IsReadyDeclarator d → HasFewItems (walk_declarator t c d w) → declared_name t k (probed_declarator t c d w) (quiet w.variables) (as_log s) ≡ with_log (declared_name t l d (heard c w) s)
  name_sim (declarator stars x (arrays ls) i) c w s clean few = declared_sim stars x ls i c w s clean few
  name_sim (declarator stars x (function ps) i) c w s clean few = refl

  names_sim : (ds : DeclaratorShapes) (c : Around) (w : Walked) (s : State) → AreReadyDeclarators ds → HasFewItems (walk_declarators t c ds w) → declared_names t k (probed_declarators t c ds w) (quiet w.variables) (as_log s) ≡ with_log (declared_names t l ds (heard c w) s)
  names_sim no_declarators c w s clean few = refl
  names_sim (more_declarators d rest) c w s clean few =
      let v = walk_declarator t c d w in
      sim_then _ _ _ _ (name_sim d c w s clean.0 (few_before (declarators_before t c rest v) few)) (λ f s.
      ap (λ z. declared_names t k (probed_declarators t c rest v) z (as_log s)) (declarator_after t c d w) ∙ names_sim rest c v s clean.1 few)

  decl_sim : (d : DeclShape) (c : Around) (w : Walked) (s : State) → IsReadyDecl d → HasFewItems (walk_decl t c d w) → declared_decl t k (probed_decl t c d w) (quiet w.variables) (as_log s) ≡ with_log (declared_decl t l d (heard c w) s)
  decl_sim (decl p specs names) c w s clean few = names_sim names c w s clean few

  pub decls_sim : (ds : DeclShapes) (c : Around) (w : Walked) (s : State) → AreReadyDecls ds → HasFewItems (walk_decls t c ds w) → declared_all t k (probed_decls t c ds w) (quiet w.variables) (as_log s) ≡ with_log (declared_all t l ds (heard c w) s)
  decls_sim no_decls c w s clean few = refl
  decls_sim (more_decls d rest) c w s clean few =
      let v = walk_decl t c d w in
      sim_then _ _ _ _ (decl_sim d c w s clean.0 (few_before (decls_on t c rest v) few)) (λ f s.
      ap (λ z. declared_all t k (probed_decls t c rest v) z (as_log s)) (decl_after t c d w) ∙ decls_sim rest c v s clean.1 few)
