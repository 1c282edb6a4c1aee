-- What a declaration adds is a beginning of a walk of it.
use Rattle.std.proofs.Common.{ℕ, suc, List, [], ◌∷◌, refl, sym, subst, arith, Option, Some, None}
use Rattle.c_syntax.specs.declared.text.Text.{Text}
use Rattle.c_syntax.specs.declared.tree.Named.{Named}
use Rattle.c_syntax.specs.Shape.{TypeOf, int, pointer, array, structure, nothing, number, char, str, name, NodeShape, node, leaf, paren, call, prefix, size_of_type, cast, suffix, two, choose, probe, DeclShape, decl, DeclShapes, no_decls, more_decls, DeclaratorShape, declarator, DeclaratorShapes, no_declarators, more_declarators, arrays, function, MaybeInit, no_init, one_init, one, listed}
use Rattle.c_store.specs.declared.value.Value.{Value}
use Rattle.c_store.specs.declared.value.Pointer.{Pointer}
use Rattle.c_walk.specs.declared.around.Around.{Around}
use Rattle.c_walk.specs.Walked.{Walked}
use Rattle.c_walk.specs.Counted.{next_def}
use Rattle.c_walk.specs.Stating.{with_variable, with_whole_def, walk_declarator, walk_decl}
use Rattle.c_meaning.specs.State.{makes, tells, repeats, Bound, State, with_bound}
use Rattle.c_meaning.specs.Results.{then_do, present, needed}
use Rattle.c_meaning.specs.Layout.{cells, variable_kind}
use Rattle.c_meaning.specs.Operators.{converted}
use Rattle.c_meaning.specs.Firsts.{heard, noted_made}
use Rattle.c_meaning.specs.Places.{whole, first_cell, next_cell}
use Rattle.c_meaning.specs.Constants.{one_cells, init_cells}
use Rattle.c_meaning.specs.Knot.{Knot}
use Rattle.c_meaning.specs.Expressions.{meaning}
use Rattle.c_meaning.specs.Declarations.{bind, name_marks, filled, scalar_written, one_value, initialised, bound_variable, made_variable, declared_variable, declared_name, declared_names, declared_decl, declared_all}
use Rattle.c_meaning.specs.Calls.{Source}
use Rattle.flow_walks.specs.declared.action.Action.TheVariants.{Define, Kill}
use Rattle.flow_walks.specs.Comes.{act, Comes, emit, value}
use Rattle.flow_walks.specs.Statements.{init_goes, maybe_init_goes, declarator_goes, declarators_go, decl_goes, decls_go}
use Rattle.flow_calls.specs.Orderly.{IsOrderly, HasValue, IsString, IsOrderlyVariable, IsOrderlyDeclarator, AreOrderlyDeclarators, IsOrderlyDecl, AreOrderlyDecls}
use Rattle.flow_calls.proofs.Nils.{nil_value, declarators_nil, decls_nil}
use Rattle.flow_calls.proofs.Adding.{Adds, in_call_activations, adds_still, stops_none, adds_from, adds_then, adds_did, adds_ok}
use Rattle.flow_calls.proofs.Parts.{adds_wanted, adds_turns, adds_stored, adds_stored_again, adds_make}
use Rattle.flow_calls.proofs.Nodes.{Calling, value_adds}

module _ (P : Source) (F : List Bound) where
  -- ---- cells

  filled_again : (xs : List Text) (c : Around) (w : Walked) (q : Pointer) (vs : List (Option Value)) (k : Comes) (s : State) → k [] → Adds P F k s (filled repeats xs (heard c w) q vs s) (λ f. k)
  filled_again xs c w q [] k s h = adds_still P F k s _ _ (λ w p. p)
  filled_again xs c w q (None ∷ vs) k s h = filled_again xs c w (next_cell q) vs k s h
  filled_again xs c w q (Some v ∷ vs) k s h = adds_then P F k s _ _ _ _ (adds_stored_again P F xs c w q v k s h) (λ v s. filled_again xs c w (next_cell q) vs k s h)

  -- the first of them is told, and is the definition
  filled_adds : (xs : List Text) (c : Around) (w : Walked) (q : Pointer) (vs : List (Option Value)) → HasValue vs → (k : Comes) (s : State) → k [] → Adds P F (emit (act (Define (next_def w))) k) s (filled tells xs (heard c w) q vs s) (λ f. k)
  filled_adds xs c w q [] g k s h = absurd g
  filled_adds xs c w q (None ∷ vs) g k s h = filled_adds xs c w (next_cell q) vs g k s h
  filled_adds xs c w q (Some v ∷ vs) g k s h = adds_then P F _ s _ _ _ _ (adds_stored P F xs c w q v k s h) (λ v s. filled_again xs c w (next_cell q) vs k s h)

  pub scalar_adds : (x : Option Named) (c : Around) (w : Walked) (j : ℕ) (v : Value) (k : Comes) (s : State) → k [] → Adds P F (emit (act (Define (next_def w))) k) s (scalar_written x (heard c w) j v s) (λ f. k)
  scalar_adds x c w j v k s h = adds_then P F _ s _ _ _ _ (adds_stored P F (name_marks x) c w (whole j 1) v k s h) (λ v s. adds_still P F k s _ _ (λ w p. p))

  module _ (kn : Knot) (calling : Calling P F kn) where
    -- ---- initialisers

    string_adds : (y : TypeOf) (n : ℕ) (x : Option Named) (a : NodeShape) → IsString a → HasValue (one_cells P.tables F (array y n) a) → (c : Around) (w : Walked) (j : ℕ) (k : Comes) (s : State) → k []
        → Adds P F (init_goes P.tables c x (one a) w k) s (one_value P.tables kn (array y n) x (heard c w) j a s) (λ f. k)
    string_adds y n x (node p o m (leaf (str z))) g v c w j k s h = adds_ok P F _ s _ _ (λ e.
        filled_adds (name_marks x) c w (first_cell j (cells P.tables (array y n))) (one_cells P.tables s.file (array y n) (node p o m (leaf (str z)))) (subst (λ b. HasValue (one_cells P.tables b (array y n) (node p o m (leaf (str z))))) (sym e) v) k s h)
    string_adds y n x (node p o m (leaf (number z))) g v c w j k s h = absurd g
    string_adds y n x (node p o m (leaf (char z))) g v c w j k s h = absurd g
    string_adds y n x (node p o m (leaf (name z))) g v c w j k s h = absurd g
    string_adds y n x (node p o m (paren a)) g v c w j k s h = absurd g
    string_adds y n x (node p o m (call a b)) g v c w j k s h = absurd g
    string_adds y n x (node p o m (prefix a b)) g v c w j k s h = absurd g
    string_adds y n x (node p o m (size_of_type a)) g v c w j k s h = absurd g
    string_adds y n x (node p o m (cast a b)) g v c w j k s h = absurd g
    string_adds y n x (node p o m (suffix a b)) g v c w j k s h = absurd g
    string_adds y n x (node p o m (two u a b)) g v c w j k s h = absurd g
    string_adds y n x (node p o m (choose a b d)) g v c w j k s h = absurd g
    string_adds y n x (node p o m (probe u a)) g v c w j k s h = absurd g

    -- of a scalar
    expression_adds : (y : TypeOf) (x : Option Named) (a : NodeShape) → IsOrderly a → (c : Around) (w : Walked) (j : ℕ) (k : Comes) (s : State) → k []
        → Adds P F (init_goes P.tables c x (one a) w k) s (then_do (needed ((meaning P.tables kn a).value (heard c (with_whole_def P.tables c.function x w)) s)) (λ v. scalar_written x (heard c w) j (converted y v))) (λ f. k)
    expression_adds y x a g c w j k s h =
        let u = with_whole_def P.tables c.function x w in
        let rest = emit (act (Define (next_def w))) k in
        adds_then P F _ s _ _ _ _ (adds_wanted P F _ s _ rest tt (value_adds P F kn calling a g c u (value rest) (nil_value rest tt) s)) (λ v s. scalar_adds x c w j (converted y v) k s h)

    init_adds : (y : TypeOf) (x : Option Named) (init : MaybeInit) → IsOrderlyVariable P.tables F (Some y) init → (c : Around) (w : Walked) (j : ℕ) (k : Comes) (s : State) → k []
        → Adds P F (maybe_init_goes P.tables c x init w k) s (initialised P.tables kn y x (heard c w) j init s) (λ f. k)
    init_adds y x no_init g c w j k s h = adds_still P F k s _ _ (λ w p. p)
    init_adds (array y n) x (one_init (one a)) g c w j k s h = string_adds y n x a g.0 g.1 c w j k s h
    init_adds (int y) x (one_init (one a)) g c w j k s h = expression_adds (int y) x a g c w j k s h
    init_adds (pointer y) x (one_init (one a)) g c w j k s h = expression_adds (pointer y) x a g c w j k s h
    init_adds (structure n) x (one_init (one a)) g c w j k s h = absurd g
    init_adds nothing x (one_init (one a)) g c w j k s h = absurd g
    init_adds y x (one_init (listed p items last)) g c w j k s h = adds_ok P F _ s _ _ (λ e.
        filled_adds (name_marks x) c w (first_cell j (cells P.tables y)) (init_cells P.tables s.file y (listed p items last)) (subst (λ b. HasValue (init_cells P.tables b y (listed p items last))) (sym e) g) k s h)

    -- ---- declarators

    bound_adds : (x : Option Named) (init : MaybeInit) (y : TypeOf) → IsOrderlyVariable P.tables F (Some y) init → (c : Around) (w : Walked) (j : ℕ) (k : Comes) (s : State) → k []
        → Adds P F (emit (act (Kill (suc w.variables))) (maybe_init_goes P.tables c x init (with_variable w) k)) s (bound_variable P.tables kn x init (heard c w) y j s) (λ f. k)
    bound_adds x init y g c w j k s h =
        let b = bind (suc w.variables) j s in
        let i = maybe_init_goes P.tables c x init (with_variable w) k in
        let t = noted_made (heard c w) (suc w.variables) b in
        adds_from P F _ s b _ _ (record { deeds = refl; last = refl; calls = in_call_activations (with_bound (record { variable = suc w.variables; instance = j })) s.calls; file = refl })
        (adds_did P F (makes (suc w.variables) b.store.count) (act (Kill (suc w.variables)) ∷ []) _ i b t _ _ (record { deeds = refl; last = refl; calls = refl; file = refl }) refl (λ w p. (refl, p))
        (init_adds y x init g c (with_variable w) j k t h))

    variable_adds : (x : Option Named) (init : MaybeInit) (o : Option TypeOf) → IsOrderlyVariable P.tables F o init → (c : Around) (w : Walked) (k : Comes) (s : State) → k []
        → Adds P F (emit (act (Kill (suc w.variables))) (maybe_init_goes P.tables c x init (with_variable w) k)) s (then_do (present o s) (declared_variable P.tables kn x init (heard c w))) (λ f. k)
    variable_adds x init None g c w k s h = stops_none P F _ _ s _ tt
    variable_adds x init (Some y) g c w k s h = adds_turns P F (cells P.tables y) _ s (made_variable P.tables kn x init (heard c w) y) _ tt (λ s.
        adds_then P F _ s _ _ _ _ (adds_make P F P.tables y _ s tt) (λ j s. bound_adds x init y g c w j k s h))

    name_adds : (d : DeclaratorShape) (c : Around) (w : Walked) → IsOrderlyDeclarator P.tables F d w → (k : Comes) (s : State) → k [] → Adds P F (declarator_goes P.tables c d w k) s (declared_name P.tables kn d (heard c w) s) (λ f. k)
    name_adds (declarator stars x (arrays ls) init) c w g k s h =
        subst (λ (n : ℕ). Adds P F (emit (act (Kill n)) (maybe_init_goes P.tables c x init (with_variable w) k)) s (then_do (present (variable_kind P.tables (suc w.variables)) s) (declared_variable P.tables kn x init (heard c w))) (λ f. k)) (omega arith)
        (variable_adds x init (variable_kind P.tables (suc w.variables)) g c w k s h)
    name_adds (declarator stars x (function ps) init) c w g k s h = adds_still P F k s _ _ (λ w p. p)

    names_adds : (ds : DeclaratorShapes) (c : Around) (w : Walked) → AreOrderlyDeclarators P.tables F c ds w → (k : Comes) (s : State) → k [] → Adds P F (declarators_go P.tables c ds w k) s (declared_names P.tables kn ds (heard c w) s) (λ f. k)
    names_adds no_declarators c w g k s h = adds_still P F k s _ _ (λ w p. p)
    names_adds (more_declarators d rest) c w g k s h =
        let u = walk_declarator P.tables c d w in
        adds_then P F _ s _ _ _ _ (name_adds d c w g.0 _ s (declarators_nil P.tables c rest u k h)) (λ f s. names_adds rest c u g.1 k s h)

    decl_adds : (d : DeclShape) (c : Around) (w : Walked) → IsOrderlyDecl P.tables F c d w → (k : Comes) (s : State) → k [] → Adds P F (decl_goes P.tables c d w k) s (declared_decl P.tables kn d (heard c w) s) (λ f. k)
    decl_adds (decl p specs names) c w g k s h = names_adds names c w g k s h

    pub decls_adds : (ds : DeclShapes) (c : Around) (w : Walked) → AreOrderlyDecls P.tables F c ds w → (k : Comes) (s : State) → k [] → Adds P F (decls_go P.tables c ds w k) s (declared_all P.tables kn ds (heard c w) s) (λ f. k)
    decls_adds no_decls c w g k s h = adds_still P F k s _ _ (λ w p. p)
    decls_adds (more_decls d rest) c w g k s h =
        let u = walk_decl P.tables c d w in
        adds_then P F _ s _ _ _ _ (decl_adds d c w g.0 _ s (decls_nil P.tables c rest u k h)) (λ f s. decls_adds rest c u g.1 k s h)
