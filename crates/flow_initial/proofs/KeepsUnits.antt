-- What types, variables and scopes keep, typing a unit keeps.
use Rattle.std.proofs.Common.{ℕ, List, [], ◌∷◌, Option, Some, None, Bool, true, false}
use Rattle.std.specs.List.{AllByRecursion}
use Rattle.std.specs.Prelude.{nat_eq, ◌||◌}
use Rattle.c_base.specs.declared.place.Pos.{Pos}
use Rattle.c_syntax.specs.declared.text.Text.{Text}
use Rattle.c_syntax.specs.declared.tree.Named.{Named}
use Rattle.c_syntax.specs.declared.tree.Star.{Star}
use Rattle.c_syntax.specs.Shape.{TypeOf, LengthShapes, SpecShapes, decl, DeclShape, DeclShapes, no_decls, more_decls, DeclaratorShape, declarator, DeclaratorShapes, no_declarators, more_declarators, arrays, function, ParamsShape, empty, void, params, MaybeInit, StmtShape, stmt, FormShape, compound, simply, when, either, while, do_while, for, switch, break, continue, return, CompoundShape, braces, ItemShapes, no_items, more_items, ExternalShape, defined, declared}
use Rattle.c_scopes.specs.Scoping.{find_here}
use Rattle.c_type_rules.specs.Verdicts.{result_type}
use Rattle.c_tree.specs.declared.meaning.Entity.{Entity}
use Rattle.c_tree.specs.State.{State, step, steps, complain}
use Rattle.c_tables.specs.Rows.{first_place, text_of, name_pos}
use Rattle.c_tree.specs.Rulings.{by, rule, kind_at}
use Rattle.c_tree.specs.Sorts.{pos_in}
use Rattle.c_tree.specs.Parts.{unspelled, spelled_rule, star_tokens, pointed}
use Rattle.c_tree.specs.Typing.{type_node, type_specs, type_lengths}
use Rattle.c_tree.specs.Initialisers.{lengths_with}
use Rattle.c_tree.specs.Declaring.{name_tokens, claim_name, token_of_name, with_variable, variable_at, declare_variable, variable_rule, has_init, type_variable, type_param, type_param_list, type_params, opened_scope, closed_scope, type_function, type_declarator, type_declarators, none_declared, semicolon, type_decl, type_decls}
use Rattle.c_tree.specs.Stating.{Surroundings, in_loop, in_switch, Labels, no_labels, tested, switched, type_maybe, type_test, type_marks, type_labels, type_stmt, type_body, type_compound, type_items}
use Rattle.c_tree.specs.Units.{specs_place, with_variables, variable_of, begun_function, type_external, type_externals}
use Rattle.c_syntax.specs.Shaped.{ShapedInitOf, ShapedDecl, ShapedDecls, ShapedDeclarator, ShapedDeclarators, ShapedStmt, ShapedForm, ShapedCompound, ShapedItems, ShapedExternal, ShapedExternals, in_names}
use Rattle.flow_initial.proofs.Filling.{Filled, lengths_counted, with_counted, pointed_filled, specs_filled, variable_filled, parameter_filled}
use Rattle.flow_initial.proofs.Cores.{Core, core, KeptByAll, KeptByUnits, ◌▸◌}
use Rattle.flow_initial.proofs.KeepsNodes as nodes
use Rattle.flow_initial.proofs.KeepsParts as parts

-- ---- what parameters are

abbrev pub AreGiven : List (Text × Option TypeOf) → Type 0
AreGiven xs = AllByRecursion (λ (x : Text × Option TypeOf). Filled x.1) xs

list_given : (defining : Bool) (ds : DeclShapes) (s : State) → AreGiven (type_param_list defining ds s).given
list_given defining no_decls s = tt
list_given defining (more_decls (decl p specs no_declarators) rest) s = list_given defining rest (step (complain 33 s.at first_place s))
list_given defining (more_decls (decl p specs (more_declarators (declarator stars x (arrays ls) i) no_declarators)) rest) s =
    let t = type_specs false specs unspelled s in
    let r = spelled_rule t.spelled in
    let l = type_lengths [] ls (steps (name_tokens x) (claim_name defining x (steps (star_tokens stars) (rule r s.at p t.state)))) in
    (parameter_filled l.state.rooms l.counts (pointed stars (kind_at r)), list_given defining rest (step (type_param defining p specs stars x ls i s).state))
list_given defining (more_decls (decl p specs (more_declarators (declarator stars x (function ps) i) no_declarators)) rest) s = list_given defining rest (step (complain 33 s.at first_place s))
list_given defining (more_decls (decl p specs (more_declarators (declarator stars x (arrays ls) i) (more_declarators d more))) rest) s = list_given defining rest (step (complain 33 s.at first_place s))
list_given defining (more_decls (decl p specs (more_declarators (declarator stars x (function ps) i) (more_declarators d more))) rest) s = list_given defining rest (step (complain 33 s.at first_place s))

params_given : (defining : Bool) (ps : ParamsShape) (s : State) → AreGiven (type_params defining ps s).given
params_given defining empty s = tt
params_given defining void s = tt
params_given defining (params ds) s = list_given defining ds (step (record s { params = [] }))

pub function_given : (defining : Bool) (k : Option TypeOf) (stars : List Star) (x : Option Named) (ps : ParamsShape) (i : MaybeInit) (s : State) → AreGiven (type_function defining k stars x ps i s).given
function_given defining k stars x ps i s =
    let b = steps (star_tokens stars) s in
    params_given defining ps (record (opened_scope (steps (name_tokens x) (claim_name false x b))) { file = false })

module _ (J : Core → Type 0) (kept : KeptByAll J) where
  abbrev pub Keeps : State → State → Type 0
  Keeps s t = J (core s) → J (core t)

  as_it_was : (s : State) → Keeps s s
  as_it_was s = λ h. h

  -- ---- declared names

  with_variable_keeps : (x : Text) (k : Option TypeOf) (s : State) → Filled k → Keeps s (with_variable x k s)
  with_variable_keeps x None s g = as_it_was s
  with_variable_keeps x (Some t) s g = kept.declaring x t s g

  pub variable_at_keeps : (token : ℕ) (p : Pos) (x : Text) (k : Option TypeOf) (e : Option Entity) (s : State) → Filled k → Keeps s (variable_at token p x k e s)
  variable_at_keeps token p x k None s g = with_variable_keeps x k s g
  variable_at_keeps token p x k (Some e) s g = nodes.complain_keeps J kept.types 31 token p s

  pub variable_keeps : (may : Bool) (k : Option TypeOf) (stars : List Star) (x : Option Named) (ls : LengthShapes) (i : MaybeInit) (s : State) → ShapedInitOf may i → Filled k → Keeps s (type_variable k stars x ls i s).state
  variable_keeps may k stars x ls i s is g =
      let b = steps (star_tokens stars) s in
      let fit = nat_eq s.function 0 || has_init i in
      let v = steps (name_tokens x) (claim_name fit x b) in
      let l = type_lengths [] ls v in
      let token = token_of_name b.at x b in
      let p = name_pos first_place x in
      let r = variable_rule l.state.rooms (lengths_with i l.counts) (pointed stars k) in
      let u = rule r token p l.state in
      let d = declare_variable token p (text_of x) (kind_at r) u in
      let filled = variable_filled l.state.rooms (lengths_with i l.counts) (pointed stars k) (with_counted may i l.counts is (lengths_counted [] ls v tt)) (pointed_filled stars k g) in
      parts.name_keeps J kept.types fit x b ▸ nodes.lengths_keep J kept.types [] ls v ▸ nodes.rule_keeps J kept.types r token p l.state ▸ variable_at_keeps token p (text_of x) (kind_at r) (find_here (text_of x) u.names) u filled ▸ parts.maybe_init_keeps J kept.types (nat_eq s.function 0) (kind_at r) i d

  pub declarator_keeps : (k : Option TypeOf) (d : DeclaratorShape) (s : State) → ShapedDeclarator in_names d → Filled k → Keeps s (type_declarator k d s).state
  declarator_keeps k (declarator stars x (arrays ls) i) s is g = variable_keeps true k stars x ls i s is.2 g
  declarator_keeps k (declarator stars x (function ps) i) s is g = parts.function_keeps J kept.types false k stars x ps i s

  pub declarators_keep : (k : Option TypeOf) (ds : DeclaratorShapes) (s : State) → ShapedDeclarators in_names ds → Filled k → Keeps s (type_declarators k ds s).state
  declarators_keep k no_declarators s is g = as_it_was s
  declarators_keep k (more_declarators d rest) s is g = let t = type_declarator k d s in declarator_keeps k d s is.0 g ▸ declarators_keep k rest (step t.state) is.1 g

  names_shaped : (p : Pos) (specs : SpecShapes) (names : DeclaratorShapes) → ShapedDecl in_names (decl p specs names) → ShapedDeclarators in_names names
  names_shaped p specs no_declarators is = tt
  names_shaped p specs (more_declarators d rest) is = (is.1, is.2)

  pub decl_keeps : (d : DeclShape) (s : State) → ShapedDecl in_names d → Keeps s (type_decl d s).state
  decl_keeps (decl p specs names) s is =
      let t = type_specs (none_declared names) specs unspelled s in
      let r = spelled_rule t.spelled in
      let v = rule r s.at p t.state in
      nodes.specs_keep J kept.types (none_declared names) specs unspelled s ▸ nodes.rule_keeps J kept.types r s.at p t.state ▸ declarators_keep (kind_at r) names (steps (semicolon names) v) (names_shaped p specs names is) (specs_filled (none_declared names) specs s)

  pub decls_keep : (ds : DeclShapes) (s : State) → ShapedDecls in_names ds → Keeps s (type_decls ds s).state
  decls_keep no_decls s is = as_it_was s
  decls_keep (more_decls d rest) s is = decl_keeps d s is.0 ▸ decls_keep rest (type_decl d s).state is.1

  -- ---- statements

  mutual
    pub stmt_keeps : (c : Surroundings) (a : StmtShape) (s : State) → ShapedStmt a → Keeps s (type_stmt c a s).state
    stmt_keeps c (stmt p ms q f) s is = parts.marks_keep J kept.types ms s ▸ body_keeps c q f (type_marks ms s) is

    pub body_keeps : (c : Surroundings) (p : Pos) (f : FormShape) (s : State) → ShapedForm f → Keeps s (type_body c p f s).state
    body_keeps c p (compound b) s is = kept.types.entering s ▸ compound_keeps c b (opened_scope s) is ▸ kept.types.leaving (type_compound c b (opened_scope s)).state
    body_keeps c p (simply e) s is = parts.maybe_keeps J kept.types e s
    body_keeps c p (when e a) s is = parts.test_keeps J kept.types (steps 2 s).at e (steps 2 s) ▸ stmt_keeps c a (step (tested (steps 2 s).at (type_node e (steps 2 s)))) is.1
    body_keeps c p (either e a b) s is =
        let v = type_stmt c a (step (tested (steps 2 s).at (type_node e (steps 2 s)))) in
        parts.test_keeps J kept.types (steps 2 s).at e (steps 2 s) ▸ stmt_keeps c a (step (tested (steps 2 s).at (type_node e (steps 2 s)))) is.1 ▸ stmt_keeps c b (step v.state) is.3
    body_keeps c p (while e a) s is = parts.test_keeps J kept.types (steps 2 s).at e (steps 2 s) ▸ stmt_keeps (in_loop c) a (step (tested (steps 2 s).at (type_node e (steps 2 s)))) is.1
    body_keeps c p (do_while a e) s is =
        let v = type_stmt (in_loop c) a (step s) in
        stmt_keeps (in_loop c) a (step s) is.0 ▸ parts.test_keeps J kept.types (steps 2 v.state).at e (steps 2 v.state)
    body_keeps c p (for e f g a) s is =
        let t = type_maybe e (steps 2 s) in
        let v = type_test f (step t.state) in
        let w = type_maybe g (step v.state) in
        parts.maybe_keeps J kept.types e (steps 2 s) ▸ parts.maybe_test_keeps J kept.types f (step t.state) ▸ parts.maybe_keeps J kept.types g (step v.state) ▸ stmt_keeps (in_loop c) a (step w.state) is.3
    body_keeps c p (switch e items) s is =
        let t = type_node e (steps 2 s) in
        let r = switched t in
        let v = rule r (steps 2 s).at (pos_in t.node) t.state in
        nodes.node_keeps J kept.types e (steps 2 s) ▸ nodes.rule_keeps J kept.types r (steps 2 s).at (pos_in t.node) t.state ▸ items_keep (in_switch c) (Some (no_labels r)) items (steps 2 v) is.1
    body_keeps c p break s is = nodes.demand_keeps J kept.types c.breakable 37 s.at p s
    body_keeps c p continue s is = nodes.demand_keeps J kept.types c.loop 37 s.at p s
    body_keeps c p (return e) s is = parts.result_keeps J kept.types s.at p c.result e (step s)

    pub compound_keeps : (c : Surroundings) (b : CompoundShape) (s : State) → ShapedCompound b → Keeps s (type_compound c b s).state
    compound_keeps c (braces p ds items) s is = decls_keep ds (step s) is.0 ▸ items_keep c None items (type_decls ds (step s)).state is.1

    pub items_keep : (c : Surroundings) (o : Option Labels) (items : ItemShapes) (s : State) → ShapedItems items → Keeps s (type_items c o items s).state
    items_keep c o no_items s is = as_it_was s
    items_keep c o (more_items labels a rest) s is =
        let l = type_labels o labels s in
        let t = type_stmt c a l.state in
        parts.labels_keep J kept.types o labels s ▸ stmt_keeps c a l.state is.1 ▸ items_keep c l.so_far rest t.state is.2

  -- ---- units

  variable_of_keeps : (x : Text) (k : Option TypeOf) (e : Option Entity) (s : State) → Filled k → Keeps s (variable_of x k e s)
  variable_of_keeps x k None s g = with_variable_keeps x k s g
  variable_of_keeps x k (Some e) s g = as_it_was s

  pub variables_keep : (xs : List (Text × Option TypeOf)) (s : State) → AreGiven xs → Keeps s (with_variables xs s)
  variables_keep [] s g = as_it_was s
  variables_keep ((x, k) ∷ rest) s g = variable_of_keeps x k (find_here x s.names) s g.0 ▸ variables_keep rest (variable_of x k (find_here x s.names) s) g.1

module _ (J : Core → Type 0) (whole : KeptByUnits J) where
  pub external_keeps : (e : ExternalShape) (s : State) → ShapedExternal e → Keeps J whole.all s (type_external e s).state
  external_keeps (declared d) s is = decl_keeps J whole.all d s is
  external_keeps (defined specs (declarator stars x (function ps) i) ms c) s is =
      let kept = whole.all in
      let t = type_specs false specs unspelled s in
      let r = spelled_rule t.spelled in
      let q = specs_place specs in
      let v = rule r s.at q t.state in
      let f = type_function true (kind_at r) stars x ps i v in
      let b = begun_function f f.state in
      let w = type_marks ms b in
      let e : Surroundings = record { loop = false; breakable = false; result = kind_at (by 33 (result_type (pointed stars (kind_at r)))) } in
      nodes.specs_keep J kept.types false specs unspelled s ▸ nodes.rule_keeps J kept.types r s.at q t.state ▸ parts.function_keeps J kept.types true (kind_at r) stars x ps i v ▸ whole.turning f.number f.state
      ▸ variables_keep J kept f.given _ (function_given true (kind_at r) stars x ps i v) ▸ parts.marks_keep J kept.types ms b ▸ compound_keeps J kept e c w is.3 ▸ kept.types.leaving (type_compound e c w).state ▸ whole.turning 0 (closed_scope (type_compound e c w).state)
  external_keeps (defined specs (declarator stars x (arrays ls) i) ms c) s is = nodes.complain_keeps J whole.all.types 33 s.at first_place s

  pub externals_keep : (es : List ExternalShape) (s : State) → ShapedExternals es → Keeps J whole.all s (type_externals es s).state
  externals_keep [] s is = λ h. h
  externals_keep (e ∷ rest) s is = external_keeps e s is.0 ▸ externals_keep rest (type_external e s).state is.1
