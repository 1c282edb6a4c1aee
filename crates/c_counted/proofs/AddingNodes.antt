-- How many rows typing adds to the tables: expressions, and the types that they name.
use Rattle.std.proofs.Common.{ℕ, ℤ, ◌+◌, ◌≤◌, List, [], ◌∷◌, ◌++◌, length, Option, Some, None, Bool, true, false, arith, length-append}
use Rattle.std.specs.Prelude.{pos, not}
use Rattle.c_base.specs.declared.place.Pos.{Pos}
use Rattle.c_syntax.specs.declared.text.Text.{Text}
use Rattle.c_syntax.specs.declared.tree.Named.{Named}
use Rattle.c_syntax.specs.Grammar.{node_form, expr_form, nodes_form, led_nodes_form, lengths_form, type_form as type_as, specs_form, members_form, rows_form, enumers_form, led_enumers_form, value_form, decls_form, declarators_form, led_declarators_form}
use Rattle.c_syntax.specs.Shape.{TypeOf, number, char, str, name, unary, before, size_of, test, NodeShape, node, ExprShape, leaf, paren, call, prefix, size_of_type, cast, suffix, two, choose, probe, index, field, behind, simple, select, NodeShapes, no_nodes, more_nodes, MaybeNode, no_node, one_node, LengthShapes, no_lengths, more_lengths, TypeShape, type_name, SpecShapes, no_specs, more_specs, word, struct, enum, MaybeDecls, no_members, members, MaybeEnumers, no_rows, rows, EnumerShapes, no_enumers, more_enumers, DeclShapes, decl, no_decls, more_decls, DeclaratorShapes, declarator, no_declarators, more_declarators, arrays, function}
use Rattle.c_scopes.specs.Scoping.{find, find_here}
use Rattle.c_tables.specs.Tables.{FieldShape}
use Rattle.c_tables.specs.Rows.{text_of, name_pos}
use Rattle.c_constants.specs.Constants as constants
use Rattle.c_constants.specs.Numbers.{number_of}
use Rattle.c_type_rules.specs.Verdicts.{cast_type}
use Rattle.c_tree.specs.State.{State, step, steps, complain, demand, is_clean, field_type}
use Rattle.c_tree.specs.Rulings.{by, rule, kind_at, of_kind, whole, sized}
use Rattle.c_tree.specs.Sorts.{pos_in, changeable}
use Rattle.c_tree.specs.Operators.{has_value, string_type, with_literal, called, Given, given_at, hushed, heard, left_of, right_of, sided, entering, unary_rule, place_rule, step_rule, element_rule, holder, field_rule, choice_rule, claim, probe_rule, select_rule, constant_rule}
use Rattle.c_tree.specs.Typing.{opening, type_node, type_form, type_arguments, type_cases, type_type, type_lengths, type_specs, type_struct, type_lines, type_fields, type_enum, rows_types, type_value}
use Rattle.c_tree.specs.Parts.{Length, length_rule, value_rule, passes, Spelled, unspelled, with_word, with_tagged, spelled_rule, star_tokens, left_out, length_of, judged_length, judged_constant, opened, begun_at, within, tag_tokens, field_state, is_free, with_field, arrays_of, pointed, declare, entity_of, after, enumeration, static_fits}
use Rattle.c_counted.specs.Sizes.{row_count}
use Rattle.c_counted.proofs.Adding.{count, Adds, none, demand_adds, rule_adds, entity_adds, literal_adds, called_adds, typed_call_adds, two_rules, infix_adds, claim_adds, opened_adds, begun_adds, closed_adds, field_adds, declared_adds, enumeration_adds}

-- ---- lists with one separator for each of their parts

led_nodes : (es : NodeShapes) → count (led_nodes_form es) ≤ count (nodes_form es) + 1
led_nodes no_nodes = omega arith
led_nodes (more_nodes a rest) = omega arith

led_enumers : (es : EnumerShapes) → count (led_enumers_form es) ≤ count (enumers_form es) + 1
led_enumers no_enumers = omega arith
led_enumers (more_enumers x v rest) = omega arith

pub led_declarators : (ds : DeclaratorShapes) → count (led_declarators_form ds) ≤ count (declarators_form ds) + 1
led_declarators no_declarators = omega arith
led_declarators (more_declarators d rest) = omega arith

-- ---- fields

field_added : (free : Bool) (x : Text) (k : Option TypeOf) (fields : List FieldShape) → length (with_field free x k fields) ≤ length fields + 1
field_added true x None fields = omega arith
field_added true x (Some t) fields = omega (arith, length-append fields (record { name = x; kind = t } ∷ []))
field_added false x k fields = omega arith

-- ---- expressions and types

mutual
  pub node_adds : (a : NodeShape) (s : State) → Adds (count (node_form a)) s (type_node a s).state
  node_adds (node p o n f) s = form_adds p o f (entering f s)

  form_adds : (p o : Pos) (f : ExprShape) (s : State) → Adds (count (expr_form o f)) s (type_form p o f s).state
  form_adds p o (leaf (number t)) s = omega (arith, demand_adds (has_value (number_of t)) 33 s.at p s)
  form_adds p o (leaf (char c)) s = omega arith
  form_adds p o (leaf (str t)) s = omega (arith, literal_adds s.quiet t s, rule_adds (whole s.rooms (string_type t)) s.at p (with_literal t s))
  form_adds p o (leaf (name x)) s = omega (arith, entity_adds p (find x s.names) s)
  form_adds p o (paren a) s = omega (arith, node_adds a (step s))
  form_adds p o (call x args) s =
      let c = called p x s in
      let t = type_arguments [] args (steps (opening args) c.state) in
      omega (arith, called_adds p (find x s.names) s, led_nodes args, arguments_add [] args (steps (opening args) c.state), typed_call_adds p s.at (is_clean c.state t.state) c.function t.given t.state)
  form_adds p o (prefix (unary u) a) s =
      let t = type_node a (step s) in
      omega (arith, node_adds a (step s), two_rules (unary_rule u t.state.rooms t.sort) (place_rule u t.sort) s.at o (step s).at (pos_in a) t.state)
  form_adds p o (prefix (before u) a) s =
      let t = type_node a (step s) in
      omega (arith, node_adds a (step s), two_rules (step_rule t.state.rooms t.sort) (changeable t.sort) s.at o (step s).at (pos_in a) t.state)
  form_adds p o (prefix size_of a) s =
      let t = type_node a (hushed (step s)) in
      omega (arith, node_adds a (hushed (step s)), rule_adds (of_kind t.sort.kind (sized t.state.rooms)) s.at o (heard s.quiet t.state))
  form_adds p o (size_of_type y) s =
      let t = type_type y (steps 2 s) in
      omega (arith, type_adds y (steps 2 s), rule_adds (of_kind t.kind (whole t.state.rooms)) s.at o (step t.state))
  form_adds p o (cast y a) s =
      let k = type_type y (step s) in
      let t = type_node a (step k.state) in
      omega (arith, type_adds y (step s), node_adds a (step k.state), rule_adds (by 33 (cast_type k.kind t.sort.kind)) s.at o t.state)
  form_adds p o (suffix a (index b)) s =
      let t = type_node a s in
      let v = type_node b (step t.state) in
      omega (arith, node_adds a s, node_adds b (step t.state), rule_adds (element_rule v.state.rooms t.sort v.sort) t.state.at o v.state)
  form_adds p o (suffix a (field h x q)) s =
      let t = type_node a s in
      let r = holder h t.state.rooms t.sort.kind in
      let v = step (rule r t.state.at o t.state) in
      omega (arith, node_adds a s, rule_adds r t.state.at o t.state, rule_adds (of_kind (kind_at r) (field_rule x t.state)) v.at q v)
  form_adds p o (suffix a (behind u)) s =
      let t = type_node a s in
      omega (arith, node_adds a s, two_rules (step_rule t.state.rooms t.sort) (changeable t.sort) t.state.at o s.at (pos_in a) (step t.state))
  form_adds p o (two u a b) s =
      let t = type_node a (sided (left_of u) s) in
      let r = sided (right_of u t.sort.kind) (step t.state) in
      let v = type_node b r in
      omega (arith, node_adds a (sided (left_of u) s), node_adds b r, infix_adds t.state.at o s.at (pos_in a) u t.sort v.sort v.state)
  form_adds p o (choose a b c) s =
      let t = type_node a s in
      let v = type_node b (step t.state) in
      let w = type_node c (step v.state) in
      omega (arith, node_adds a s, node_adds b (step t.state), node_adds c (step v.state), rule_adds (choice_rule t.sort v.sort w.sort) t.state.at o w.state)
  form_adds p o (probe (simple u x) a) s =
      let v = steps 4 (claim u x s.at p s) in
      let t = type_node a v in
      omega (arith, claim_adds u x s.at p s, node_adds a v, rule_adds (probe_rule u s.side t.sort) s.at p t.state)
  form_adds p o (probe (select x cs) a) s =
      let c = steps 3 (claim test x s.at p s) in
      let t = type_cases [] cs c in
      let v = type_node a (step t.state) in
      omega (arith, claim_adds test x s.at p s, cases_add [] cs c, node_adds a (step t.state), rule_adds (select_rule (is_clean c v.state) t.values v.sort) s.at p v.state)

  arguments_add : (gs : List Given) (es : NodeShapes) (s : State) → Adds (count (led_nodes_form es)) s (type_arguments gs es s).state
  arguments_add gs no_nodes s = none s
  arguments_add gs (more_nodes a rest) s =
      let t = type_node a (step s) in
      omega (arith, node_adds a (step s), arguments_add (gs ++ given_at (step s).at (pos_in a) t.sort ∷ []) rest t.state)

  cases_add : (vs : List (Option ℤ)) (es : NodeShapes) (s : State) → Adds (count (led_nodes_form es)) s (type_cases vs es s).state
  cases_add vs no_nodes s = none s
  cases_add vs (more_nodes a rest) s =
      let t = type_node a (step s) in
      let v = judged_constant (step s).at (pos_in a) t.sort t.state in
      omega (arith, node_adds a (step s), rule_adds (constant_rule t.sort) (step s).at (pos_in a) t.state, cases_add (vs ++ constants.value t.sort.constant ∷ []) rest v)

  pub type_adds : (y : TypeShape) (s : State) → Adds (count (type_as y)) s (type_type y s).state
  type_adds (type_name p specs stars ls) s =
      let t = type_specs false specs unspelled s in
      let r = spelled_rule t.spelled in
      omega (arith, specs_add false specs unspelled s, rule_adds r s.at p t.state, lengths_add [] ls (steps (star_tokens stars) (rule r s.at p t.state)))

  pub lengths_add : (ks : List Length) (l : LengthShapes) (s : State) → Adds (count (lengths_form l)) s (type_lengths ks l s).state
  lengths_add ks no_lengths s = none s
  lengths_add ks (more_lengths no_node rest) s = omega (arith, lengths_add (ks ++ left_out ∷ []) rest (steps 2 s))
  lengths_add ks (more_lengths (one_node a) rest) s =
      let t = type_node a (step s) in
      let v = judged_length (step s).at (pos_in a) t.sort t.state in
      omega (arith, node_adds a (step s), rule_adds (length_rule t.sort) (step s).at (pos_in a) t.state, lengths_add (ks ++ length_of t.sort ∷ []) rest (step v))

  pub specs_add : (alone : Bool) (x : SpecShapes) (a : Spelled) (s : State) → Adds (count (specs_form x)) s (type_specs alone x a s).state
  specs_add alone no_specs a s = none s
  specs_add alone (more_specs p (word k) rest) a s =
      let v = demand (static_fits k s.file) 37 s.at p s in
      omega (arith, demand_adds (static_fits k s.file) 37 s.at p s, specs_add alone rest (with_word k a) (step v))
  specs_add alone (more_specs p (struct t ds) rest) a s =
      let r = type_struct alone t ds (step s) in
      omega (arith, struct_adds alone t ds (step s), specs_add alone rest (with_tagged r.kind a) r.state)
  specs_add alone (more_specs p (enum t es) rest) a s =
      let r = type_enum t es (step s) in
      omega (arith, enum_adds t es (step s), specs_add alone rest (with_tagged r.kind a) r.state)

  -- the key of a structure is one more token
  struct_adds : (alone : Bool) (t : Option Named) (ds : MaybeDecls) (s : State) → Adds (count (members_form ds) + 1) s (type_struct alone t ds s).state
  struct_adds alone t no_members s = opened_adds alone false t s
  struct_adds alone t (members ds) s =
      let o = opened alone true t s in
      let b = step (steps (tag_tokens t) (begun_at o.number o.state)) in
      let r = type_lines ds [] (within b) in
      omega (arith, opened_adds alone true t s, begun_adds o.number o.state, lines_add ds [] (within b), closed_adds o.number r.fields r.state)

  lines_add : (ds : DeclShapes) (fields : List FieldShape) (s : State) → row_count (type_lines ds fields s).state.tables + length (type_lines ds fields s).fields ≤ row_count s.tables + length fields + count (decls_form ds)
  lines_add no_decls fields s = omega arith
  lines_add (more_decls (decl p specs names) rest) fields s =
      let t = type_specs false specs unspelled s in
      let r = spelled_rule t.spelled in
      let v = rule r s.at p t.state in
      let n = type_fields p (kind_at r) names fields v in
      omega (arith, specs_add false specs unspelled s, rule_adds r s.at p t.state, fields_add p (kind_at r) names fields v, led_declarators names, lines_add rest n.fields n.state)

  fields_add : (p : Pos) (k : Option TypeOf) (names : DeclaratorShapes) (fields : List FieldShape) (s : State) → row_count (type_fields p k names fields s).state.tables + length (type_fields p k names fields s).fields ≤ row_count s.tables + length fields + count (led_declarators_form names)
  fields_add p k no_declarators fields s = omega arith
  fields_add p k (more_declarators (declarator stars x (arrays ls) i) rest) fields s =
      let b = steps (star_tokens stars) s in
      let l = type_lengths [] ls (step b) in
      let t = arrays_of l.counts (pointed stars k) in
      let free = is_free (field_type (text_of x) fields) in
      let v = field_state b.at (name_pos p x) free t l.state in
      let more = with_field free (text_of x) t fields in
      omega (arith, lengths_add [] ls (step b), field_adds b.at (name_pos p x) free t l.state, field_added free (text_of x) t fields, fields_add p k rest more (step v))
  fields_add p k (more_declarators (declarator stars x (function ps) i) rest) fields s =
      let b = steps (star_tokens stars) s in
      omega (arith, fields_add p k rest fields (complain 33 b.at (name_pos p x) (step b)))

  enum_adds : (t : Option Named) (es : MaybeEnumers) (s : State) → Adds (count (rows_form es)) s (type_enum t es s).state
  enum_adds t no_rows s = enumeration_adds false t s
  enum_adds t (rows es) s =
      omega (arith, enumeration_adds true t s, led_enumers es, rows_add (Some (pos 0)) es (step (steps (tag_tokens t) (enumeration true t s))))

  rows_add : (next : Option ℤ) (es : EnumerShapes) (s : State) → Adds (count (led_enumers_form es)) s (rows_types next es s).state
  rows_add next no_enumers s = none s
  rows_add next (more_enumers x v rest) s =
      let r = type_value s.at x.pos next v (step s) in
      let d = declare s.at x.pos x.text (entity_of r.value) r.state in
      omega (arith, value_adds s.at x.pos next v (step s), declared_adds s.at x.pos x.text (entity_of r.value) (find_here x.text r.state.names) r.state, rows_add (after r.value) rest (step d))

  value_adds : (token : ℕ) (p : Pos) (next : Option ℤ) (v : MaybeNode) (s : State) → Adds (count (value_form v)) s (type_value token p next v s).state
  value_adds token p next no_node s = demand_adds (not (passes next)) 35 token p s
  value_adds token p next (one_node a) s =
      let t = type_node a (step s) in
      omega (arith, node_adds a (step s), rule_adds (value_rule t.sort) (step s).at (pos_in a) t.state)
