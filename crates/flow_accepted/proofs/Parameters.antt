-- Parameters are scalars, and so in the type of none lies a structure.
use Rattle.std.proofs.Common.{◌≡◌, ℕ, suc, List, [], ◌∷◌, length, Option, Some, None, Bool, true, false, refl, sym, subst}
use Rattle.std.specs.List.{AllByRecursion}
use Rattle.c_base.specs.declared.place.Pos.{Pos}
use Rattle.c_scopes.specs.Scoping.{find_here}
use Rattle.c_syntax.specs.declared.text.Text.{Text}
use Rattle.c_syntax.specs.declared.tree.Named.{Named}
use Rattle.c_syntax.specs.declared.tree.Star.{Star}
use Rattle.c_syntax.specs.Shape.{TypeOf, int, pointer, array, structure, nothing, decl, DeclShapes, no_decls, more_decls, declarator, no_declarators, more_declarators, arrays, function, ParamsShape, empty, void, params, MaybeInit}
use Rattle.c_type_rules.specs.Kinds.{is_scalar, decay}
use Rattle.c_type_rules.specs.Layouts.{Measure}
use Rattle.c_type_rules.specs.Verdicts.{fine_if}
use Rattle.c_tables.specs.Rows.{first_place}
use Rattle.c_tables.specs.Tables.{TablesShape}
use Rattle.c_tree.specs.declared.meaning.Entity.{Entity}
use Rattle.c_tree.specs.State.{State, step, steps, complain}
use Rattle.c_tree.specs.Rulings.{Ruled, allowed, unsettled, refused, by, rule, kind_at, of_kind}
use Rattle.c_tree.specs.Parts.{Length, unspelled, spelled_rule, star_tokens, pointed}
use Rattle.c_tree.specs.Typing.{type_specs, type_lengths}
use Rattle.c_tree.specs.Declaring.{name_tokens, claim_name, with_variable, variable_at, element_lengths, scalar_rule, parameter_rule, type_param, type_param_list, type_params, opened_scope, type_function}
use Rattle.c_tree.specs.Units.{with_variables, variable_of}
use Rattle.flow_initial.proofs.KeepsNodes as nodes
use Rattle.flow_values.proofs.Reaching.{Variables, none_added}
use Rattle.flow_values.specs.Made.{IsNested}
use Rattle.flow_accepted.proofs.Depths.{AreNested}
use Rattle.flow_accepted.proofs.Steps.{one_more}

module _ (t : TablesShape) where
  -- a type, if there is one
  abbrev pub Nested : Option TypeOf → Type 0
  Nested None = Unit {0}
  Nested (Some k) = IsNested (suc (length t.structures)) t.structures k

  -- ---- what is declared

  with_nested : (x : Text) (k : Option TypeOf) (s : State) → Nested k → AreNested t s.tables.variables → AreNested t (with_variable x k s).tables.variables
  with_nested x None s g h = h
  with_nested x (Some k) s g h = one_more t s.tables.variables (record { name = x; kind = k; function = s.function }) h (g, tt)

  pub at_nested : (token : ℕ) (p : Pos) (x : Text) (k : Option TypeOf) (o : Option Entity) (s : State) → Nested k → AreNested t s.tables.variables → AreNested t (variable_at token p x k o s).tables.variables
  at_nested token p x k None s g h = with_nested x k s g h
  at_nested token p x k (Some e) s g h = subst (AreNested t) (sym (nodes.complain_keeps (Variables s.tables.variables) (none_added s.tables.variables) 31 token p s refl)) h

  -- ---- parameters

  abbrev pub AreFlat : List (Text × Option TypeOf) → Type 0
  AreFlat xs = AllByRecursion (λ (x : Text × Option TypeOf). Nested x.1) xs

  fine_nested : (b : Bool) (k : TypeOf) → is_scalar k ≡ b → Nested (kind_at (by 33 (fine_if b k)))
  fine_nested true (int k) e = tt
  fine_nested true (pointer k) e = tt
  fine_nested true (array k n) e = cc
  fine_nested true (structure n) e = cc
  fine_nested true nothing e = cc
  fine_nested false k e = tt

  scalar_nested : (r : Ruled) → Nested (kind_at (scalar_rule r))
  scalar_nested (allowed k) = fine_nested (is_scalar (decay k)) (decay k) refl
  scalar_nested unsettled = tt
  scalar_nested (refused n) = tt

  parameter_nested : (rooms : List Measure) (ls : List Length) (k : Option TypeOf) → Nested (kind_at (parameter_rule rooms ls k))
  parameter_nested rooms ls k = scalar_nested (of_kind k (element_lengths rooms ls))

  list_flat : (defining : Bool) (ds : DeclShapes) (s : State) → AreFlat (type_param_list defining ds s).given
  list_flat defining no_decls s = tt
  list_flat defining (more_decls (decl p specs no_declarators) rest) s = list_flat defining rest (step (complain 33 s.at first_place s))
  list_flat defining (more_decls (decl p specs (more_declarators (declarator stars x (arrays ls) i) no_declarators)) rest) s =
      let y = type_specs false specs unspelled s in
      let r = spelled_rule y.spelled in
      let l = type_lengths [] ls (steps (name_tokens x) (claim_name defining x (steps (star_tokens stars) (rule r s.at p y.state)))) in
      (parameter_nested l.state.rooms l.counts (pointed stars (kind_at r)), list_flat defining rest (step (type_param defining p specs stars x ls i s).state))
  list_flat defining (more_decls (decl p specs (more_declarators (declarator stars x (function ps) i) no_declarators)) rest) s = list_flat defining rest (step (complain 33 s.at first_place s))
  list_flat defining (more_decls (decl p specs (more_declarators (declarator stars x (arrays ls) i) (more_declarators d more))) rest) s = list_flat defining rest (step (complain 33 s.at first_place s))
  list_flat defining (more_decls (decl p specs (more_declarators (declarator stars x (function ps) i) (more_declarators d more))) rest) s = list_flat defining rest (step (complain 33 s.at first_place s))

  params_flat : (defining : Bool) (ps : ParamsShape) (s : State) → AreFlat (type_params defining ps s).given
  params_flat defining empty s = tt
  params_flat defining void s = tt
  params_flat defining (params ds) s = list_flat defining ds (step (record s { params = [] }))

  pub function_flat : (defining : Bool) (k : Option TypeOf) (stars : List Star) (x : Option Named) (ps : ParamsShape) (i : MaybeInit) (s : State) → AreFlat (type_function defining k stars x ps i s).given
  function_flat defining k stars x ps i s =
      let b = steps (star_tokens stars) s in
      params_flat defining ps (record (opened_scope (steps (name_tokens x) (claim_name false x b))) { file = false })

  of_nested : (x : Text) (k : Option TypeOf) (o : Option Entity) (s : State) → Nested k → AreNested t s.tables.variables → AreNested t (variable_of x k o s).tables.variables
  of_nested x k None s g h = with_nested x k s g h
  of_nested x k (Some e) s g h = h

  pub variables_nested : (xs : List (Text × Option TypeOf)) (s : State) → AreFlat xs → AreNested t s.tables.variables → AreNested t (with_variables xs s).tables.variables
  variables_nested [] s g h = h
  variables_nested ((x, k) ∷ rest) s g h = variables_nested rest (variable_of x k (find_here x s.names) s) g.1 (of_nested x k (find_here x s.names) s g.0 h)
