-- Typing notes in declarations the types of the rows.
use Rattle.std.proofs.Common.{ℕ, List, [], Bool, true, Option, Some, None}
use Rattle.std.specs.Prelude.{nat_eq, ◌||◌}
use Rattle.c_base.specs.declared.place.Pos.{Pos}
use Rattle.c_syntax.specs.declared.tree.Named.{Named}
use Rattle.c_syntax.specs.declared.tree.Star.{Star}
use Rattle.c_syntax.specs.Shape.{TypeOf, str, NodeShape, node, leaf, LengthShapes, SpecShapes, DeclShape, decl, DeclShapes, no_decls, more_decls, DeclaratorShape, declarator, DeclaratorShapes, no_declarators, more_declarators, arrays, function, MaybeInit, no_init, one_init, one, listed}
use Rattle.c_syntax.specs.Shaped.{in_names, ShapedInitOf, ShapedDecl, ShapedDecls, ShapedDeclarator, ShapedDeclarators}
use Rattle.c_scopes.specs.Scoping.{find_here}
use Rattle.c_tables.specs.Tables.{TablesShape}
use Rattle.c_tables.specs.Rows.{first_place, text_of, name_pos}
use Rattle.c_tree.specs.State.{State, step, steps}
use Rattle.c_tree.specs.Rulings.{kind_at, rule}
use Rattle.c_tree.specs.Sorts.{pos_in}
use Rattle.c_tree.specs.Parts.{unspelled, spelled_rule, star_tokens, pointed}
use Rattle.c_tree.specs.Typing.{type_node, type_specs, type_lengths}
use Rattle.c_tree.specs.Initialisers.{form_in, chars_of, filled, constant_init, fits, value_init, one_init_of, lengths_with}
use Rattle.c_tree.specs.Declaring.{name_tokens, claim_name, token_of_name, declare_variable, variable_rule, has_init, type_maybe_init, type_variable, type_declarator, type_declarators, none_declared, semicolon, type_decl, type_decls}
use Rattle.flow_initial.proofs.Filling.{Filled, lengths_counted, with_counted, pointed_filled, specs_filled, variable_filled}
use Rattle.flow_initial.proofs.Cores.{Core, core, KeptByAll, ◌▸◌}
use Rattle.flow_initial.proofs.KeepsNodes as nodes
use Rattle.flow_initial.proofs.KeepsParts as parts
use Rattle.flow_initial.proofs.KeepsUnits as units
use Rattle.flow_leaves.specs.Kinded.{IsKinded}
use Rattle.flow_leaves.specs.KindedPrograms.{IsKindedInit, IsKindedMaybeInit, IsKindedDeclarator, AreKindedDeclarators, IsKindedDecl, AreKindedDecls}
use Rattle.flow_accepted.proofs.Along.{Along, up_to, onward}
use Rattle.flow_accepted.proofs.KindedNodes.{node_kinded}

names_shaped : (p : Pos) (specs : SpecShapes) (names : DeclaratorShapes) → ShapedDecl in_names (decl p specs names) → ShapedDeclarators in_names names
names_shaped p specs no_declarators is = tt
names_shaped p specs (more_declarators d rest) is = (is.1, is.2)

module _ (t : TablesShape) where
  -- ---- initialisers

  value_kinded : (c : Bool) (k : Option TypeOf) (a : NodeShape) (s : State) → Along t s (value_init c k s.at (pos_in a) (type_node a s)).state → IsKinded t (type_node a s).node
  value_kinded c k a s g =
      let y = type_node a s in
      node_kinded t a s (up_to t s y.state (value_init c k s.at (pos_in a) y).state (λ J kept. nodes.node_keeps J kept.types a s)
      (λ J kept. nodes.rule_keeps J kept.types (fits k y.sort) s.at (pos_in a) y.state ▸ nodes.rule_keeps J kept.types (constant_init c y.sort) s.at (pos_in a) (rule (fits k y.sort) s.at (pos_in a) y.state)) g)

  -- no place stands in a string
  one_kinded : (c : Bool) (k : Option TypeOf) (n : Option ℕ) (a : NodeShape) (s : State) → Along t s (one_init_of (filled n (form_in a)) c k a s).state → IsKindedInit t (one_init_of (filled n (form_in a)) c k a s).init
  one_kinded c k None a s g = value_kinded c k a s g
  one_kinded c k (Some n) (node p o m (leaf (str x))) s g = (tt, tt)
  one_kinded c k (Some n) (node p o m f) s g = value_kinded c k (node p o m f) s g

  maybe_init_kinded : (c : Bool) (k : Option TypeOf) (i : MaybeInit) (s : State) → Along t s (type_maybe_init c k i s).state → IsKindedMaybeInit t (type_maybe_init c k i s).init
  maybe_init_kinded c k no_init s g = tt
  maybe_init_kinded c k (one_init (one a)) s g = one_kinded c k (chars_of k) a (step s) g
  maybe_init_kinded c k (one_init (listed p items last)) s g = tt

  -- ---- declarations

  variable_kinded : (may : Bool) (k : Option TypeOf) (stars : List Star) (x : Option Named) (ls : LengthShapes) (i : MaybeInit) (s : State) → ShapedInitOf may i → Filled k → Along t s (type_variable k stars x ls i s).state
      → IsKindedDeclarator t (type_variable k stars x ls i s).name
  variable_kinded may k stars x ls i s is full g =
      let b = steps (star_tokens stars) s in
      let fit = nat_eq s.function 0 || has_init i in
      let v = steps (name_tokens x) (claim_name fit x b) in
      let l = type_lengths [] ls v in
      let token = token_of_name b.at x b in
      let p = name_pos first_place x in
      let r = variable_rule l.state.rooms (lengths_with i l.counts) (pointed stars k) in
      let u = rule r token p l.state in
      let d = declare_variable token p (text_of x) (kind_at r) u in
      let shape = variable_filled l.state.rooms (lengths_with i l.counts) (pointed stars k) (with_counted may i l.counts is (lengths_counted [] ls v tt)) (pointed_filled stars k full) in
      maybe_init_kinded (nat_eq s.function 0) (kind_at r) i d (onward t s d (type_variable k stars x ls i s).state
      (λ J kept. parts.name_keeps J kept.types fit x b ▸ nodes.lengths_keep J kept.types [] ls v ▸ nodes.rule_keeps J kept.types r token p l.state ▸ units.variable_at_keeps J kept token p (text_of x) (kind_at r) (find_here (text_of x) u.names) u shape) g)

  declarator_kinded : (k : Option TypeOf) (d : DeclaratorShape) (s : State) → ShapedDeclarator in_names d → Filled k → Along t s (type_declarator k d s).state → IsKindedDeclarator t (type_declarator k d s).name
  declarator_kinded k (declarator stars x (arrays ls) i) s is full g = variable_kinded true k stars x ls i s is.2 full g
  declarator_kinded k (declarator stars x (function ps) i) s is full g = tt

  declarators_kinded : (k : Option TypeOf) (ds : DeclaratorShapes) (s : State) → ShapedDeclarators in_names ds → Filled k → Along t s (type_declarators k ds s).state → AreKindedDeclarators t (type_declarators k ds s).names
  declarators_kinded k no_declarators s is full g = tt
  declarators_kinded k (more_declarators d rest) s is full g =
      let y = type_declarator k d s in
      let u = step y.state in
      let end = (type_declarators k rest u).state in
      let first : (J : Core → Type 0) → KeptByAll J → J (core s) → J (core u) = λ J kept. units.declarator_keeps J kept k d s is.0 full in
      (declarator_kinded k d s is.0 full (up_to t s u end first (λ J kept. units.declarators_keep J kept k rest u is.1 full) g), declarators_kinded k rest u is.1 full (onward t s u end first g))

  pub decl_kinded : (d : DeclShape) (s : State) → ShapedDecl in_names d → Along t s (type_decl d s).state → IsKindedDecl t (type_decl d s).decl
  decl_kinded (decl p specs names) s is g =
      let y = type_specs (none_declared names) specs unspelled s in
      let r = spelled_rule y.spelled in
      let v = steps (semicolon names) (rule r s.at p y.state) in
      declarators_kinded (kind_at r) names v (names_shaped p specs names is) (specs_filled (none_declared names) specs s)
      (onward t s v (type_decl (decl p specs names) s).state (λ J kept. nodes.specs_keep J kept.types (none_declared names) specs unspelled s ▸ nodes.rule_keeps J kept.types r s.at p y.state) g)

  pub decls_kinded : (ds : DeclShapes) (s : State) → ShapedDecls in_names ds → Along t s (type_decls ds s).state → AreKindedDecls t (type_decls ds s).decls
  decls_kinded no_decls s is g = tt
  decls_kinded (more_decls d rest) s is g =
      let u = (type_decl d s).state in
      let end = (type_decls rest u).state in
      let first : (J : Core → Type 0) → KeptByAll J → J (core s) → J (core u) = λ J kept. units.decl_keeps J kept d s is.0 in
      (decl_kinded d s is.0 (up_to t s u end first (λ J kept. units.decls_keep J kept rest u is.1) g), decls_kinded rest u is.1 (onward t s u end first g))
