-- In a typed unit each name of a variable is the variable's own.
use Rattle.std.proofs.Common.{◌≡◌, ◌∙◌, ℕ, ◌-◌, sym, subst, refl, append-nil, List, [], ◌∷◌, Option, Some, None, Bool, true, false}
use Rattle.std.specs.Prelude.{nat_eq, is_some, ◌||◌}
use Rattle.c_base.specs.declared.place.Pos.{Pos}
use Rattle.c_syntax.specs.declared.text.Text.{Text}
use Rattle.c_syntax.specs.declared.tree.Named.{Named}
use Rattle.c_syntax.specs.declared.tree.Star.{Star}
use Rattle.c_syntax.specs.Shape.{TypeOf, LengthShapes, decl, DeclShape, DeclShapes, no_decls, more_decls, DeclaratorShape, declarator, DeclaratorShapes, no_declarators, more_declarators, arrays, function, MaybeInit, StmtShape, stmt, FormShape, compound, simply, when, either, while, do_while, for, switch, break, continue, return, CompoundShape, braces, ItemShapes, no_items, more_items, ExternalShape, defined, declared, UnitShape}
use Rattle.c_scopes.specs.Scoping.{find_here, entered}
use Rattle.c_type_rules.specs.Verdicts.{result_type}
use Rattle.c_tree.specs.declared.meaning.Entity.{Entity}
use Rattle.c_tree.specs.declared.meaning.Entity.TheVariants as entity
use Rattle.c_syntax.specs.declared.tree.ProgramLine.{ProgramLine}
use Rattle.c_constants.specs.Probes.{digest_of}
use Rattle.c_scopes.specs.Rows.{Scope, Scoped}
use Rattle.c_tables.specs.Tables.{VariableShape, with_definition}
use Rattle.c_tree.specs.State.{State, step, steps}
use Rattle.c_tables.specs.Rows.{first_place, text_of, name_pos}
use Rattle.c_tree.specs.Rulings.{by, rule, kind_at}
use Rattle.c_tree.specs.Sorts.{pos_in}
use Rattle.c_tree.specs.Parts.{unspelled, spelled_rule, star_tokens, pointed}
use Rattle.c_tree.specs.Typing.{type_node, type_specs, type_lengths}
use Rattle.c_tree.specs.Initialisers.{lengths_with}
use Rattle.c_tree.specs.Declaring.{next_variable, TypedFunction, declared_again, with_constants, name_tokens, claim_name, token_of_name, with_variable, variable_at, declare_variable, variable_rule, has_init, type_variable, opened_scope, type_function, type_declarator, type_declarators, none_declared, semicolon, type_decl, type_decls}
use Rattle.c_tree.specs.Stating.{Surroundings, in_loop, in_switch, Labels, no_labels, tested, switched, type_maybe, type_test, type_marks, type_labels, type_stmt, type_body, type_compound, type_items}
use Rattle.c_tree.specs.Units.{specs_place, with_variables, variable_of, numbers_from, begun_function, type_external, type_externals, start, type_line, any_main, type_unit, bodies, typed_unit}
use Rattle.c_syntax.specs.Shaped.{ShapedExternal, ShapedExternals}
use Rattle.flow_owned.specs.Own.{IsOwnDeclarator, AreOwnDeclarators, IsOwnDecl, AreOwnDecls, IsOwnStmt, IsOwnBody, IsOwnCompound, AreOwnItems, IsOwnExternal, AreOwnExternals}
use Rattle.flow_owned.proofs.OwnStates.{Holds, declared_holds, entered_holds, begins_same, Goes, Keeps, as_it_was, ◌▸◌, ◌◂◌, both_own, forget, naming_keeps, row_keeps, entering_keeps, leaving_keeps}
use Rattle.flow_owned.proofs.OwnNodes.{complain_keeps, demand_keeps, rule_keeps, node_own, lengths_keep, specs_keep}
use Rattle.flow_owned.proofs.OwnParts.{maybe_init_own, name_keeps, function_keeps, maybe_own, test_own, maybe_test_own, result_own, marks_keep, labels_keep}

-- ---- declared names

with_variable_keeps : (x : Text) (k : Option TypeOf) (s : State) → Keeps s (with_variable x k s)
with_variable_keeps x None s = naming_keeps x entity.Unknown s tt
with_variable_keeps x (Some t) s = row_keeps x t s

variable_at_keeps : (token : ℕ) (p : Pos) (x : Text) (k : Option TypeOf) (e : Option Entity) (s : State) → Keeps s (variable_at token p x k e s)
variable_at_keeps token p x k None s = with_variable_keeps x k s
variable_at_keeps token p x k (Some e) s = complain_keeps 31 token p s

variable_own : (k : Option TypeOf) (stars : List Star) (x : Option Named) (ls : LengthShapes) (i : MaybeInit) (s : State) → Goes s (type_variable k stars x ls i s).state (λ R. IsOwnDeclarator R (type_variable k stars x ls i s).name)
variable_own k stars x ls i s =
    let b = steps (star_tokens stars) s in
    let fit = nat_eq s.function 0 || has_init i in
    let v = steps (name_tokens x) (claim_name fit x b) in
    let l = type_lengths [] ls v in
    let token = token_of_name b.at x b in
    let p = name_pos first_place x in
    let r = variable_rule l.state.rooms (lengths_with i l.counts) (pointed stars k) in
    let u = rule r token p l.state in
    let d = declare_variable token p (text_of x) (kind_at r) u in
    name_keeps fit x b ▸ lengths_keep [] ls v ▸ rule_keeps r token p l.state ▸ variable_at_keeps token p (text_of x) (kind_at r) (find_here (text_of x) u.names) u ▸ maybe_init_own (nat_eq s.function 0) (kind_at r) i d

declarator_own : (k : Option TypeOf) (d : DeclaratorShape) (s : State) → Goes s (type_declarator k d s).state (λ R. IsOwnDeclarator R (type_declarator k d s).name)
declarator_own k (declarator stars x (arrays ls) i) s = variable_own k stars x ls i s
declarator_own k (declarator stars x (function ps) i) s = function_keeps false k stars x ps i s

declarators_own : (k : Option TypeOf) (ds : DeclaratorShapes) (s : State) → Goes s (type_declarators k ds s).state (λ R. AreOwnDeclarators R (type_declarators k ds s).names)
declarators_own k no_declarators s = as_it_was s
declarators_own k (more_declarators d rest) s = let t = type_declarator k d s in both_own (declarator_own k d s) (declarators_own k rest (step t.state))

decl_own : (d : DeclShape) (s : State) → Goes s (type_decl d s).state (λ R. IsOwnDecl R (type_decl d s).decl)
decl_own (decl p specs names) s =
    let t = type_specs (none_declared names) specs unspelled s in
    let r = spelled_rule t.spelled in
    let v = rule r s.at p t.state in
    specs_keep (none_declared names) specs unspelled s ▸ rule_keeps r s.at p t.state ▸ declarators_own (kind_at r) names (steps (semicolon names) v)

decls_own : (ds : DeclShapes) (s : State) → Goes s (type_decls ds s).state (λ R. AreOwnDecls R (type_decls ds s).decls)
decls_own no_decls s = as_it_was s
decls_own (more_decls d rest) s = both_own (decl_own d s) (decls_own rest (type_decl d s).state)

-- ---- statements

mutual
  stmt_own : (c : Surroundings) (a : StmtShape) (s : State) → Goes s (type_stmt c a s).state (λ R. IsOwnStmt R (type_stmt c a s).stmt)
  stmt_own c (stmt p ms q f) s = marks_keep ms s ▸ body_own c q f (type_marks ms s)

  body_own : (c : Surroundings) (p : Pos) (f : FormShape) (s : State) → Goes s (type_body c p f s).state (λ R. IsOwnBody R (type_body c p f s).form)
  body_own c p (compound b) s = entering_keeps s ▸ compound_own c b (opened_scope s) ◂ leaving_keeps (type_compound c b (opened_scope s)).state
  body_own c p (simply e) s = maybe_own e s
  body_own c p (when e a) s = both_own (test_own (steps 2 s).at e (steps 2 s)) (stmt_own c a (step (tested (steps 2 s).at (type_node e (steps 2 s)))))
  body_own c p (either e a b) s =
      let v = type_stmt c a (step (tested (steps 2 s).at (type_node e (steps 2 s)))) in
      both_own (test_own (steps 2 s).at e (steps 2 s)) (both_own (stmt_own c a (step (tested (steps 2 s).at (type_node e (steps 2 s))))) (stmt_own c b (step v.state)))
  body_own c p (while e a) s = both_own (test_own (steps 2 s).at e (steps 2 s)) (stmt_own (in_loop c) a (step (tested (steps 2 s).at (type_node e (steps 2 s)))))
  body_own c p (do_while a e) s =
      let v = type_stmt (in_loop c) a (step s) in
      both_own (stmt_own (in_loop c) a (step s)) (test_own (steps 2 v.state).at e (steps 2 v.state))
  body_own c p (for e f g a) s =
      let t = type_maybe e (steps 2 s) in
      let v = type_test f (step t.state) in
      let w = type_maybe g (step v.state) in
      both_own (maybe_own e (steps 2 s)) (both_own (maybe_test_own f (step t.state)) (both_own (maybe_own g (step v.state)) (stmt_own (in_loop c) a (step w.state))))
  body_own c p (switch e items) s =
      let t = type_node e (steps 2 s) in
      let r = switched t in
      let v = rule r (steps 2 s).at (pos_in t.node) t.state in
      both_own (node_own e (steps 2 s) ◂ rule_keeps r (steps 2 s).at (pos_in t.node) t.state) (items_own (in_switch c) (Some (no_labels r)) items (steps 2 v))
  body_own c p break s = demand_keeps c.breakable 37 s.at p s
  body_own c p continue s = demand_keeps c.loop 37 s.at p s
  body_own c p (return e) s = result_own s.at p c.result e (step s)

  compound_own : (c : Surroundings) (b : CompoundShape) (s : State) → Goes s (type_compound c b s).state (λ R. IsOwnCompound R (type_compound c b s).compound)
  compound_own c (braces p ds items) s = both_own (decls_own ds (step s)) (items_own c None items (type_decls ds (step s)).state)

  items_own : (c : Surroundings) (o : Option Labels) (items : ItemShapes) (s : State) → Goes s (type_items c o items s).state (λ R. AreOwnItems R (type_items c o items s).items)
  items_own c o no_items s = as_it_was s
  items_own c o (more_items labels a rest) s =
      let l = type_labels o labels s in
      let t = type_stmt c a l.state in
      labels_keep o labels s ▸ both_own (stmt_own c a l.state) (items_own c l.so_far rest t.state)

-- ---- units

variable_of_keeps : (x : Text) (k : Option TypeOf) (e : Option Entity) (s : State) → Keeps s (variable_of x k e s)
variable_of_keeps x k None s = with_variable_keeps x k s
variable_of_keeps x k (Some e) s = as_it_was s

variables_keep : (xs : List (Text × Option TypeOf)) (s : State) → Keeps s (with_variables xs s)
variables_keep [] s = as_it_was s
variables_keep ((x, k) ∷ rest) s = variable_of_keeps x k (find_here x s.names) s ▸ variables_keep rest (variable_of x k (find_here x s.names) s)

again_holds : (R : List VariableShape) (x : Text) (e : Entity) (o : Option Entity) (s : Scoped Entity) → Holds R s → Holds R (declared_again x e o s)
again_holds R x (entity.Constant v) None s h = declared_holds R x (entity.Constant v) s tt h
again_holds R x (entity.Constant v) (Some o) s h = h
again_holds R x (entity.Variable k) o s h = h
again_holds R x (entity.Parameter k) o s h = h
again_holds R x (entity.Function k) o s h = h
again_holds R x (entity.Builtin b) o s h = h
again_holds R x entity.Unknown o s h = h

constants_hold : (R : List VariableShape) (rows : Scope Entity) (s : Scoped Entity) → Holds R s → Holds R (with_constants rows s)
constants_hold R [] s h = h
constants_hold R ((x, e) ∷ rest) s h = constants_hold R rest (declared_again x e (find_here x s) s) (again_holds R x e (find_here x s) s h)

begun_names : (rows : Scope Entity) (s : State) (t : State) → t.names ≡ with_constants rows (entered s.names) → t.tables.variables ≡ s.tables.variables → Keeps s t
begun_names rows s t e q h = record {
  good = subst (λ R. Holds R t.names) (sym q) (subst (Holds s.tables.variables) (sym e) (constants_hold s.tables.variables rows (entered s.names) (entered_holds s.tables.variables s.names h)));
  more = ([], q ∙ sym (append-nil s.tables.variables));
  own = λ R b. tt;
}

begun_keeps : (f : TypedFunction) (s : State) → Keeps s (begun_function f s)
begun_keeps f s =
    let v = record s { names = with_constants s.listed (entered s.names); tables = with_definition f.number (numbers_from (next_variable s) f.given) s.tables; function = f.number; file = false } in
    begun_names s.listed s v refl refl ▸ variables_keep f.given v

external_own : (e : ExternalShape) (s : State) → ShapedExternal e → Goes s (type_external e s).state (λ R. IsOwnExternal R (type_external e s).external)
external_own (declared d) s is = forget (decl_own d s)
external_own (defined specs (declarator stars x (function ps) i) ms c) s is =
    let t = type_specs false specs unspelled s in
    let r = spelled_rule t.spelled in
    let q = specs_place specs in
    let v = rule r s.at q t.state in
    let f = type_function true (kind_at r) stars x ps i v in
    let b = begun_function f f.state in
    let w = type_marks ms b in
    let e : Surroundings = record { loop = false; breakable = false; result = kind_at (by 33 (result_type (pointed stars (kind_at r)))) } in
    specs_keep false specs unspelled s ▸ rule_keeps r s.at q t.state ▸ function_keeps true (kind_at r) stars x ps i v ▸ begun_keeps f f.state ▸ marks_keep ms b ▸ compound_own e c w ◂ leaving_keeps (type_compound e c w).state
external_own (defined specs (declarator stars x (arrays ls) i) ms c) s is = absurd is.1

externals_own : (es : List ExternalShape) (s : State) → ShapedExternals es → Goes s (type_externals es s).state (λ R. AreOwnExternals R (type_externals es s).externals)
externals_own [] s is = as_it_was s
externals_own (e ∷ rest) s is = both_own (external_own e s is.0) (externals_own rest (type_external e s).state is.1)

line_keeps : (l : Option ProgramLine) (s : State) → Keeps s (type_line l s)
line_keeps None s = as_it_was s
line_keeps (Some l) s = demand_keeps (is_some (digest_of l.digest)) 37 s.at l.pos s

unit_own : (known : Option (List Bool)) (u : UnitShape) → ShapedExternals u.externals → Goes (start known) (type_unit known u).state (λ R. AreOwnExternals R (type_unit known u).unit.externals)
unit_own known u is =
    let v = type_line u.line (start known) in
    let t = type_externals u.externals v in
    line_keeps u.line (start known) ▸ externals_own u.externals v is ◂ demand_keeps (any_main t.state.tables.functions) 38 (t.state.at - 1) u.last t.state

-- of the variables that a unit has in the end
pub typed_own : (u : UnitShape) → ShapedExternals u.externals → AreOwnExternals (typed_unit u).state.tables.variables (typed_unit u).unit.externals
typed_own u is = (unit_own (Some (bodies u)) u is (tt, (tt, (tt, (tt, tt))))).own (typed_unit u).state.tables.variables (begins_same (typed_unit u).state.tables.variables)
