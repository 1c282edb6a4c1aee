-- Typing a unit adds only variables in whose types no structure lies in itself.
use Rattle.std.proofs.Common.{◌≡◌, ℕ, List, [], ◌∷◌, Bool, true, false, Option, Some, None, refl, sym, subst}
use Rattle.std.specs.Prelude.{nat_eq, ◌||◌}
use Rattle.c_base.specs.declared.place.Pos.{Pos}
use Rattle.c_syntax.specs.declared.text.Text.{Text}
use Rattle.c_syntax.specs.declared.tree.Named.{Named}
use Rattle.c_syntax.specs.declared.tree.Star.{Star}
use Rattle.c_syntax.specs.Shape.{TypeOf, NodeShape, LengthShapes, SpecShapes, ParamsShape, decl, DeclShape, DeclShapes, no_decls, more_decls, DeclaratorShape, declarator, DeclaratorShapes, no_declarators, more_declarators, arrays, function, MaybeInit, StmtShape, stmt, FormShape, compound, simply, when, either, while, do_while, for, switch, break, continue, return, CompoundShape, braces, ItemShapes, no_items, more_items, ExternalShape, defined, declared}
use Rattle.c_syntax.specs.Shaped.{ShapedInitOf, ShapedDecl, ShapedDecls, ShapedDeclarator, ShapedDeclarators, ShapedStmt, ShapedForm, ShapedCompound, ShapedItems, ShapedExternal, ShapedExternals, in_names}
use Rattle.c_scopes.specs.Scoping.{find_here, entered}
use Rattle.c_type_rules.specs.Layouts.{Extent, Measure, known, incomplete, too_large, measure}
use Rattle.c_type_rules.specs.Verdicts.{result_type}
use Rattle.c_tables.specs.Rows.{first_place, text_of, name_pos}
use Rattle.c_tables.specs.Tables.{TablesShape, with_definition}
use Rattle.c_tree.specs.declared.meaning.Entity.{Entity}
use Rattle.c_tree.specs.State.{State, step, steps}
use Rattle.c_tree.specs.Rulings.{Ruled, allowed, unsettled, refused, by, by_room, of_kind, rule, kind_at}
use Rattle.c_tree.specs.Sorts.{pos_in}
use Rattle.c_tree.specs.Parts.{Length, unspelled, spelled_rule, star_tokens, pointed}
use Rattle.c_tree.specs.Typing.{type_node, type_specs, type_lengths}
use Rattle.c_tree.specs.Initialisers.{lengths_with}
use Rattle.c_tree.specs.Declaring.{name_tokens, claim_name, token_of_name, next_variable, variable_at, declare_variable, with_lengths, room_rule, variable_rule, has_init, type_maybe_init, type_variable, opened_scope, closed_scope, with_constants, type_function, type_declarator, type_declarators, none_declared, semicolon, type_decl, type_decls}
use Rattle.c_tree.specs.Stating.{Surroundings, in_loop, in_switch, Labels, no_labels, tested, switched, type_maybe, type_test, type_marks, type_labels, type_stmt, type_body, type_compound, type_items}
use Rattle.c_tree.specs.Units.{specs_place, numbers_from, with_variables, begun_function, ended_function, type_external, type_externals}
use Rattle.flow_initial.proofs.Filling.{Filled, lengths_counted, with_counted, pointed_filled, specs_filled, variable_filled}
use Rattle.flow_initial.proofs.Cores.{Core, core, KeptByUnits, ◌▸◌}
use Rattle.flow_initial.proofs.KeepsNodes as nodes
use Rattle.flow_initial.proofs.KeepsParts as parts
use Rattle.flow_initial.proofs.KeepsUnits as units
use Rattle.flow_values.proofs.Reaching.{Variables, none_added}
use Rattle.flow_values.proofs.Ending.{IsFine, EndsIn, earlier, known_room}
use Rattle.flow_accepted.proofs.Depths.{AreNested}
use Rattle.flow_accepted.proofs.Steps.{Step, ◌▹◌, stays, adds_none, turns}
use Rattle.flow_accepted.proofs.Parameters.{Nested, at_nested, function_flat, variables_nested}

-- ---- the room of a variable's type is known

abbrev IsRoomy : List Measure → Option TypeOf → Type 0
IsRoomy rooms None = Unit {0}
IsRoomy rooms (Some k) = (e : Extent) × (measure rooms k ≡ known e)

by_roomy : (rooms : List Measure) (m : Measure) (k : TypeOf) → measure rooms k ≡ m → IsRoomy rooms (kind_at (by_room m k))
by_roomy rooms (known e) k h = (e, h)
by_roomy rooms incomplete k h = tt
by_roomy rooms too_large k h = tt

room_roomy : (rooms : List Measure) (r : Ruled) → IsRoomy rooms (kind_at (room_rule rooms r))
room_roomy rooms (allowed k) = by_roomy rooms (measure rooms k) k refl
room_roomy rooms unsettled = tt
room_roomy rooms (refused n) = tt

variable_roomy : (rooms : List Measure) (ls : List Length) (k : Option TypeOf) → IsRoomy rooms (kind_at (variable_rule rooms ls k))
variable_roomy rooms ls k = room_roomy rooms (of_kind k (with_lengths ls))

module _ (t : TablesShape) where
  -- to another token
  moves : (s u : State) → ((J : Core → Type 0) → J (core s) → J (core u)) → Step t s u
  moves s u f = adds_none t s u (λ J kept. f J)

  room_nested : (s : State) (k : Option TypeOf) → IsFine (core s) → EndsIn t (core s) → IsRoomy s.rooms k → Nested t k
  room_nested s None fine ends h = tt
  room_nested s (Some k) fine ends h = (known_room t s k h.0 fine ends h.1).0

  -- ---- declarations

  declared_step : (r : Ruled) (token : ℕ) (p : Pos) (x : Text) (o : Option Entity) (s : State) → Filled (kind_at r) → IsRoomy s.rooms (kind_at r) → Step t s (variable_at token p x (kind_at r) o (rule r token p s))
  declared_step r token p x o s filled roomy =
      let u = rule r token p s in
      let vs = s.tables.variables in
      let passing : (J : Core → Type 0) → KeptByUnits J → J (core s) → J (core (variable_at token p x (kind_at r) o u)) = λ J kept. nodes.rule_keeps J kept.all.types r token p s ▸ units.variable_at_keeps J kept.all token p x (kind_at r) o u filled in
      record {
        passing = passing;
        nested = λ fine ends h. at_nested t token p x (kind_at r) o u (room_nested s (kind_at r) fine (earlier t s (variable_at token p x (kind_at r) o u) passing fine ends) roomy) (subst (AreNested t) (sym (nodes.rule_keeps (Variables vs) (none_added vs) r token p s refl)) h);
      }

  variable_step : (may : Bool) (k : Option TypeOf) (stars : List Star) (x : Option Named) (ls : LengthShapes) (i : MaybeInit) (s : State) → ShapedInitOf may i → Filled k → Step t s (type_variable k stars x ls i s).state
  variable_step may k stars x ls i s is g =
      let b = steps (star_tokens stars) s in
      let fit = nat_eq s.function 0 || has_init i in
      let v = steps (name_tokens x) (claim_name fit x b) in
      let l = type_lengths [] ls v in
      let token = token_of_name b.at x b in
      let p = name_pos first_place x in
      let counts = lengths_with i l.counts in
      let r = variable_rule l.state.rooms counts (pointed stars k) in
      let u = rule r token p l.state in
      let d = declare_variable token p (text_of x) (kind_at r) u in
      let f = nat_eq s.function 0 in
      let filled = variable_filled l.state.rooms counts (pointed stars k) (with_counted may i l.counts is (lengths_counted [] ls v tt)) (pointed_filled stars k g) in
      adds_none t s l.state (λ J kept. parts.name_keeps J kept fit x b ▸ nodes.lengths_keep J kept [] ls v)
      ▹ declared_step r token p (text_of x) (find_here (text_of x) u.names) l.state filled (variable_roomy l.state.rooms counts (pointed stars k))
      ▹ adds_none t d (type_maybe_init f (kind_at r) i d).state (λ J kept. parts.maybe_init_keeps J kept f (kind_at r) i d)

  declarator_step : (k : Option TypeOf) (d : DeclaratorShape) (s : State) → ShapedDeclarator in_names d → Filled k → Step t s (type_declarator k d s).state
  declarator_step k (declarator stars x (arrays ls) i) s is g = variable_step true k stars x ls i s is.2 g
  declarator_step k (declarator stars x (function ps) i) s is g = adds_none t s (type_function false k stars x ps i s).state (λ J kept. parts.function_keeps J kept false k stars x ps i s)

  declarators_step : (k : Option TypeOf) (ds : DeclaratorShapes) (s : State) → ShapedDeclarators in_names ds → Filled k → Step t s (type_declarators k ds s).state
  declarators_step k no_declarators s is g = stays t s
  declarators_step k (more_declarators d rest) s is g =
      let y = type_declarator k d s in
      declarator_step k d s is.0 g ▹ moves y.state (step y.state) (λ J h. h) ▹ declarators_step k rest (step y.state) is.1 g

  names_shaped : (p : Pos) (specs : SpecShapes) (names : DeclaratorShapes) → ShapedDecl in_names (decl p specs names) → ShapedDeclarators in_names names
  names_shaped p specs no_declarators is = tt
  names_shaped p specs (more_declarators d rest) is = (is.1, is.2)

  decl_step : (d : DeclShape) (s : State) → ShapedDecl in_names d → Step t s (type_decl d s).state
  decl_step (decl p specs names) s is =
      let y = type_specs (none_declared names) specs unspelled s in
      let r = spelled_rule y.spelled in
      let v = steps (semicolon names) (rule r s.at p y.state) in
      adds_none t s v (λ J kept. nodes.specs_keep J kept (none_declared names) specs unspelled s ▸ nodes.rule_keeps J kept r s.at p y.state)
      ▹ declarators_step (kind_at r) names v (names_shaped p specs names is) (specs_filled (none_declared names) specs s)

  decls_step : (ds : DeclShapes) (s : State) → ShapedDecls in_names ds → Step t s (type_decls ds s).state
  decls_step no_decls s is = stays t s
  decls_step (more_decls d rest) s is = decl_step d s is.0 ▹ decls_step rest (type_decl d s).state is.1

  -- ---- statements

  -- up to the token behind the parenthesis
  test_step : (x : NodeShape) (s : State) → Step t s (step (tested (steps 2 s).at (type_node x (steps 2 s))))
  test_step x s = adds_none t s (step (tested (steps 2 s).at (type_node x (steps 2 s)))) (λ J kept. parts.test_keeps J kept (steps 2 s).at x (steps 2 s))

  mutual
    stmt_step : (c : Surroundings) (a : StmtShape) (s : State) → ShapedStmt a → Step t s (type_stmt c a s).state
    stmt_step c (stmt p ms q f) s is = adds_none t s (type_marks ms s) (λ J kept. parts.marks_keep J kept ms s) ▹ body_step c q f (type_marks ms s) is

    body_step : (c : Surroundings) (p : Pos) (f : FormShape) (s : State) → ShapedForm f → Step t s (type_body c p f s).state
    body_step c p (compound b) s is =
        let y = (type_compound c b (opened_scope s)).state in
        adds_none t s (opened_scope s) (λ J kept. kept.entering s) ▹ compound_step c b (opened_scope s) is ▹ adds_none t y (closed_scope y) (λ J kept. kept.leaving y)
    body_step c p (simply e) s is = adds_none t s (type_body c p (simply e) s).state (λ J kept. parts.maybe_keeps J kept e s)
    body_step c p (when e a) s is = let u = steps 2 s in test_step e s ▹ stmt_step c a (step (tested u.at (type_node e u))) is.1
    body_step c p (either e a b) s is =
        let u = steps 2 s in
        let v = step (tested u.at (type_node e u)) in
        let y = (type_stmt c a v).state in
        test_step e s ▹ stmt_step c a v is.1 ▹ moves y (step y) (λ J h. h) ▹ stmt_step c b (step y) is.3
    body_step c p (while e a) s is = let u = steps 2 s in test_step e s ▹ stmt_step (in_loop c) a (step (tested u.at (type_node e u))) is.1
    body_step c p (do_while a e) s is =
        let y = (type_stmt (in_loop c) a (step s)).state in
        let v = steps 2 y in
        moves s (step s) (λ J h. h) ▹ stmt_step (in_loop c) a (step s) is.0 ▹ adds_none t y (type_body c p (do_while a e) s).state (λ J kept. parts.test_keeps J kept v.at e v)
    body_step c p (for e f g a) s is =
        let u = steps 2 s in
        let v = step (type_maybe e u).state in
        let w = step (type_test f v).state in
        let z = step (type_maybe g w).state in
        adds_none t s z (λ J kept. parts.maybe_keeps J kept e u ▸ parts.maybe_test_keeps J kept f v ▸ parts.maybe_keeps J kept g w) ▹ stmt_step (in_loop c) a z is.3
    body_step c p (switch e items) s is =
        let u = steps 2 s in
        let y = type_node e u in
        let r = switched y in
        let v = steps 2 (rule r u.at (pos_in y.node) y.state) in
        let z = (type_items (in_switch c) (Some (no_labels r)) items v).state in
        adds_none t s v (λ J kept. nodes.node_keeps J kept e u ▸ nodes.rule_keeps J kept r u.at (pos_in y.node) y.state) ▹ items_step (in_switch c) (Some (no_labels r)) items v is.1 ▹ moves z (step z) (λ J h. h)
    body_step c p break s is = adds_none t s (type_body c p break s).state (λ J kept. nodes.demand_keeps J kept c.breakable 37 s.at p s)
    body_step c p continue s is = adds_none t s (type_body c p continue s).state (λ J kept. nodes.demand_keeps J kept c.loop 37 s.at p s)
    body_step c p (return e) s is = adds_none t s (type_body c p (return e) s).state (λ J kept. parts.result_keeps J kept s.at p c.result e (step s))

    compound_step : (c : Surroundings) (b : CompoundShape) (s : State) → ShapedCompound b → Step t s (type_compound c b s).state
    compound_step c (braces p ds items) s is =
        let v = (type_decls ds (step s)).state in
        let z = (type_items c None items v).state in
        moves s (step s) (λ J h. h) ▹ decls_step ds (step s) is.0 ▹ items_step c None items v is.1 ▹ moves z (step z) (λ J h. h)

    items_step : (c : Surroundings) (o : Option Labels) (items : ItemShapes) (s : State) → ShapedItems items → Step t s (type_items c o items s).state
    items_step c o no_items s is = stays t s
    items_step c o (more_items labels a rest) s is =
        let l = type_labels o labels s in
        let y = type_stmt c a l.state in
        adds_none t s l.state (λ J kept. parts.labels_keep J kept o labels s) ▹ stmt_step c a l.state is.1 ▹ items_step c l.so_far rest y.state is.2

  -- ---- units

  parameters_step : (k : Option TypeOf) (stars : List Star) (x : Option Named) (ps : ParamsShape) (i : MaybeInit) (v s : State) → Step t s (with_variables (type_function true k stars x ps i v).given s)
  parameters_step k stars x ps i v s = record {
    passing = λ J kept. units.variables_keep J kept.all (type_function true k stars x ps i v).given s (units.function_given true k stars x ps i v);
    nested = λ fine ends h. variables_nested t (type_function true k stars x ps i v).given s (function_flat t true k stars x ps i v) h;
  }

  external_step : (e : ExternalShape) (s : State) → ShapedExternal e → Step t s (type_external e s).state
  external_step (declared d) s is = decl_step d s is
  external_step (defined specs (declarator stars x (function ps) i) ms c) s is =
      let y = type_specs false specs unspelled s in
      let r = spelled_rule y.spelled in
      let q = specs_place specs in
      let v = rule r s.at q y.state in
      let f = type_function true (kind_at r) stars x ps i v in
      let n : State = record f.state {
        names = with_constants f.state.listed (entered f.state.names);
        tables = with_definition f.number (numbers_from (next_variable f.state) f.given) f.state.tables;
        function = f.number;
        file = false;
      } in
      let b = begun_function f f.state in
      let w = type_marks ms b in
      let e : Surroundings = record { loop = false; breakable = false; result = kind_at (by 33 (result_type (pointed stars (kind_at r)))) } in
      let z = (type_compound e c w).state in
      adds_none t s f.state (λ J kept. nodes.specs_keep J kept false specs unspelled s ▸ nodes.rule_keeps J kept r s.at q y.state ▸ parts.function_keeps J kept true (kind_at r) stars x ps i v)
      ▹ turns t f.number f.state n refl ▹ parameters_step (kind_at r) stars x ps i v n ▹ adds_none t b w (λ J kept. parts.marks_keep J kept ms b) ▹ compound_step e c w is.3 ▹ adds_none t z (closed_scope z) (λ J kept. kept.leaving z) ▹ turns t 0 (closed_scope z) (ended_function z) refl
  external_step (defined specs (declarator stars x (arrays ls) i) ms c) s is = adds_none t s (type_external (defined specs (declarator stars x (arrays ls) i) ms c) s).state (λ J kept. nodes.complain_keeps J kept 33 s.at first_place s)

  pub externals_step : (es : List ExternalShape) (s : State) → ShapedExternals es → Step t s (type_externals es s).state
  externals_step [] s is = stays t s
  externals_step (e ∷ rest) s is = external_step e s is.0 ▹ externals_step rest (type_external e s).state is.1
