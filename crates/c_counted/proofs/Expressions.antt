-- How typing counts: expressions, and the types that they name.
use Rattle.std.proofs.Common.{◌≡◌, ℕ, ℤ, ◌+◌, ◌≤◌, List, [], ◌∷◌, ◌++◌, Option, Some, None, Bool, true, false, refl, ap, arith}
use Rattle.std.proofs.lemmas.Bool.{false≢true}
use Rattle.std.specs.Prelude.{pos, not, is_none, ◌||◌}
use Rattle.c_base.specs.declared.place.Pos.{Pos}
use Rattle.c_syntax.specs.declared.tree.Named.{Named}
use Rattle.c_syntax.specs.declared.token.Mark.TheVariants as m
use Rattle.c_syntax.specs.Forms.{Form, ◌▷◌, mark, mark_at}
use Rattle.c_syntax.specs.Grammar.{infix_mark, suffix_form, named_form, maybe_named_form, stars_form, node_form, expr_form, led_nodes_form, lengths_form, type_form as type_as, specs_form, spec_form, members_form, rows_form, led_enumers_form, value_form, decls_form, declarators_form, led_declarators_form, declarator_form}
use Rattle.c_syntax.specs.Shape.{TypeOf, number, char, str, name, unary, before, size_of, test, NodeShape, node, ExprShape, leaf, paren, call, prefix, size_of_type, cast, suffix, two, choose, probe, index, field, behind as stepping, simple, select, NodeShapes, no_nodes, more_nodes, MaybeNode, no_node, one_node, LengthShapes, no_lengths, more_lengths, TypeShape, type_name, SpecShape, SpecShapes, no_specs, more_specs, word, struct, enum, MaybeDecls, no_members, members, MaybeEnumers, no_rows, rows, EnumerShapes, no_enumers, more_enumers, decl, DeclShapes, no_decls, more_decls, declarator, DeclaratorShapes, no_declarators, more_declarators, arrays, function, no_init, one_init}
use Rattle.c_syntax.specs.Shaped.{Shaped, ShapedExpr, ShapedNodes, ShapedLengths, ShapedType, SomeSpecs, AllSpecs, ShapedMembers, ShapedRows, ShapedMaybe, ShapedEnumers, ShapedDecls, ShapedDeclarators, unprobed, in_members}
use Rattle.c_scopes.specs.Scoping.{find}
use Rattle.c_tables.specs.Tables.{FieldShape}
use Rattle.c_constants.specs.Constants as constants
use Rattle.c_constants.specs.Numbers.{number_of}
use Rattle.c_type_rules.specs.Verdicts.{cast_type}
use Rattle.c_tree.specs.State.{State, step, steps, demand, is_clean, field_type}
use Rattle.c_tree.specs.Rulings.{by, rule, kind_at, of_kind, whole, sized}
use Rattle.c_tree.specs.Sorts.{pos_in}
use Rattle.c_tree.specs.Operators.{has_value, string_type, with_literal, called, Given, given_at, hushed, heard, left_of, right_of, sided, entering, element_rule, holder, field_rule, field_constant, choice_rule, claim, probe_rule, select_rule, constant_rule}
use Rattle.c_tree.specs.Typing.{type_node, type_form, type_arguments, type_cases, type_type, type_lengths, type_specs, type_struct, type_lines, type_fields, type_enum, rows_types, type_value}
use Rattle.c_tree.specs.Parts.{Length, length_rule, value_rule, passes, Spelled, unspelled, with_word, with_tagged, spelled_rule, star_tokens, left_out, length_of, judged_length, judged_constant, opened, begun_at, within, tag_tokens, field_state, is_free, with_field, arrays_of, pointed, declare, entity_of, after, enumeration, static_fits}
use Rattle.c_counted.proofs.Counting.{behind, kept, Stands, begins, some_tokens, Held, same, moved_to, here, stepped, stepped2, stepped3, stepped4, demanded, ruled}
use Rattle.c_counted.proofs.Judging.{entity_held, with_literal_held, called_held, AllGiven, given_snoc, typed_call_held, unary_held, step_held, infix_held, held_field_held, claim_held, opened_held, begun_held, closed_held, field_held, declare_held, enumeration_held}
use Rattle.c_counted.proofs.Naming.{stars_held, plain_at, plain_held, tag_at, tag_held}

-- ---- the places at which expressions and types begin

mutual
  pub node_begins : (a : NodeShape) → begins (node_form a) ≡ true
  node_begins (node p o n f) = form_begins o f

  form_begins : (o : Pos) (f : ExprShape) → begins (expr_form o f) ≡ true
  form_begins o (leaf l) = refl
  form_begins o (paren a) = refl
  form_begins o (call x args) = refl
  form_begins o (prefix u a) = refl
  form_begins o (size_of_type t) = refl
  form_begins o (cast t a) = refl
  form_begins o (suffix a s) = ap (λ b. b || begins (suffix_form o s)) (node_begins a)
  form_begins o (two u a b) = ap (λ c. c || begins (mark_at o (infix_mark u) ▷ node_form b)) (node_begins a)
  form_begins o (choose a b c) = ap (λ d. d || begins (mark_at o m.Question ▷ node_form b ▷ mark m.Colon ▷ node_form c)) (node_begins a)
  form_begins o (probe (simple u x) a) = refl
  form_begins o (probe (select x cs) a) = refl

pub node_at : {P : ℕ → Pos → Type 0} (a : NodeShape) (s : State) {n : ℕ} → Stands P n (node_form a) → Held P n s → P s.at (pos_in a)
node_at (node p o t f) s {n} w h = here h (w.0 (some_tokens n (expr_form o f) (form_begins o f)))

pub spec_begins : (s : SpecShape) → begins (spec_form s) ≡ true
spec_begins (word k) = refl
spec_begins (struct t ds) = refl
spec_begins (enum t es) = refl

pub specs_begin : (x : SpecShapes) → SomeSpecs x → begins (specs_form x) ≡ true
specs_begin no_specs e = absurd e
specs_begin (more_specs p s rest) e = ap (λ b. b || begins (specs_form rest)) (spec_begins s)

pub all_specs : (x : SpecShapes) → SomeSpecs x → AllSpecs x
all_specs no_specs e = absurd e
all_specs (more_specs p s rest) e = e

-- where specifiers stand in front of something
pub begun_at_specs : {P : ℕ → Pos → Type 0} (p : Pos) (x : SpecShapes) (f : Form) (s : State) {n : ℕ} → SomeSpecs x → (n + 1 ≤ behind n (specs_form x ▷ f) → P (kept n) p) → Held P n s → P s.at p
begun_at_specs p x f s {n} e w h = here h (w (some_tokens n (specs_form x ▷ f) (ap (λ b. b || begins f) (specs_begin x e))))

-- ---- lists of declarators, with the comma or semicolon behind each

abbrev names_end : ℕ → DeclaratorShapes → ℕ
names_end n no_declarators = n
names_end n (more_declarators d rest) = behind n (declarators_form (more_declarators d rest)) + 1

led_end : (n : ℕ) (rest : DeclaratorShapes) → names_end (n + 1) rest ≡ behind n (led_declarators_form rest) + 1
led_end n no_declarators = refl
led_end n (more_declarators d rest) = refl

led_stands : (P : ℕ → Pos → Type 0) (n : ℕ) (rest : DeclaratorShapes) → Stands P n (led_declarators_form rest) → Stands P (n + 1) (declarators_form rest)
led_stands P n no_declarators w = tt
led_stands P n (more_declarators d rest) w = w.1

-- ---- expressions and types

mutual
  pub node_held : {P : ℕ → Pos → Type 0} (a : NodeShape) (s : State) {n : ℕ} → Shaped a → Stands P n (node_form a) → Held P n s → Held P (behind n (node_form a)) (type_node a s).state
  node_held (node p o t f) s {n} e w h = form_held p o f (entering f s) e.1 (w.0 (some_tokens n (expr_form o f) (form_begins o f))) w.1 (same h refl refl)

  -- a form whose first token stands at p
  form_held : {P : ℕ → Pos → Type 0} (p o : Pos) (f : ExprShape) (s : State) {n : ℕ} → ShapedExpr f → P (kept n) p → Stands P n (expr_form o f) → Held P n s → Held P (behind n (expr_form o f)) (type_form p o f s).state
  form_held p o (leaf (number t)) s e x w h = stepped (demanded (has_value (number_of t)) 33 s.at p s (here h x) h)
  form_held p o (leaf (char c)) s e x w h = stepped h
  form_held p o (leaf (str t)) s e x w h = stepped (ruled (whole s.rooms (string_type t)) s.at p (with_literal t s) (here h x) (with_literal_held t s h))
  form_held p o (leaf (name y)) s e x w h = entity_held p (find y s.names) s (here h x) h
  form_held p o (paren a) s e x w h = stepped (node_held a (step s) e w.1.0 (stepped h))
  form_held p o (call y no_nodes) s e x w h =
      let c = called p y s in
      let v = steps 2 c.state in
      typed_call_held p s.at (is_clean c.state v) c.function [] v (here h x) tt (stepped2 (called_held p (find y s.names) s (here h x) h))
  form_held p o (call y (more_nodes a rest)) s {n} e x w h =
      let c = called p y s in
      let r = step c.state in
      let t = type_arguments [] (more_nodes a rest) r in
      let i = arguments_held [] (more_nodes a rest) r {n = n + 1} e tt (tt, w.1.1.0) (stepped (called_held p (find y s.names) s (here h x) h)) in
      typed_call_held p s.at (is_clean c.state t.state) c.function t.given t.state (here h x) i.0 i.1
  form_held p o (prefix (unary u) a) s e x w h =
      let t = type_node a (step s) in
      unary_held s.at o (step s).at (pos_in a) u t.sort t.state (here h w.0) (node_at a (step s) w.1 (stepped h)) (node_held a (step s) e.1 w.1 (stepped h))
  form_held p o (prefix (before u) a) s e x w h =
      let t = type_node a (step s) in
      step_held s.at o (step s).at (pos_in a) t.sort t.state (here h w.0) (node_at a (step s) w.1 (stepped h)) (node_held a (step s) e.1 w.1 (stepped h))
  form_held p o (prefix size_of a) s e x w h =
      let v = hushed (step s) in
      let t = type_node a v in
      let u = heard s.quiet t.state in
      ruled (of_kind t.sort.kind (sized u.rooms)) s.at o u (here h w.0) (same (node_held a v e.1 w.1 (same (stepped h) refl refl)) refl refl)
  form_held p o (size_of_type y) s e x w h =
      let t = type_type y (steps 2 s) in
      ruled (of_kind t.kind (whole t.state.rooms)) s.at o (step t.state) (here h w.0) (stepped (type_held y (steps 2 s) e w.1.1.0 (stepped2 h)))
  form_held p o (cast y a) s e x w h =
      let k = type_type y (step s) in
      let t = type_node a (step k.state) in
      ruled (by 33 (cast_type k.kind t.sort.kind)) s.at o t.state (here h w.0) (node_held a (step k.state) e.2 w.1.1.1 (stepped (type_held y (step s) e.0 w.1.0 (stepped h))))
  form_held p o (suffix a (index b)) s e x w h =
      let t = type_node a s in
      let v = type_node b (step t.state) in
      let i = node_held a s e.1 w.0 h in
      stepped (ruled (element_rule v.state.rooms t.sort v.sort) t.state.at o v.state (here i w.1.0) (node_held b (step t.state) e.2 w.1.1.0 (stepped i)))
  form_held p o (suffix a (field d y q)) s e x w h =
      let t = type_node a s in
      let i = node_held a s e.1 w.0 h in
      let r = holder d t.state.rooms t.sort.kind in
      let u = step (rule r t.state.at o t.state) in
      let j = stepped (ruled r t.state.at o t.state (here i w.1.0) i) in
      held_field_held q (of_kind (kind_at r) (field_rule y t.state)) (field_constant d t.sort.constant) u (here j w.1.1) j
  form_held p o (suffix a (stepping u)) s e x w h =
      let t = type_node a s in
      let i = node_held a s e.1 w.0 h in
      step_held t.state.at o s.at (pos_in a) t.sort (step t.state) (here i w.1) (node_at a s w.0 h) (stepped i)
  form_held p o (two u a b) s e x w h =
      let q = sided (left_of u) s in
      let t = type_node a q in
      let i = node_held a q e.2 w.0 (same h refl refl) in
      let r = sided (right_of u t.sort.kind) (step t.state) in
      let v = type_node b r in
      infix_held t.state.at o s.at (pos_in a) u t.sort v.sort v.state (here i w.1.0) (node_at a s w.0 h) (node_held b r e.4 w.1.1 (same (stepped i) refl refl))
  form_held p o (choose a b c) s e x w h =
      let t = type_node a s in
      let v = type_node b (step t.state) in
      let z = type_node c (step v.state) in
      let i = node_held a s e.1 w.0 h in
      let j = node_held b (step t.state) e.2 w.1.1.0 (stepped i) in
      ruled (choice_rule t.sort v.sort z.sort) t.state.at o z.state (here i w.1.0) (node_held c (step v.state) e.4 w.1.1.1.1 (stepped j))
  form_held p o (probe (simple u y) a) s e x w h =
      let v = steps 4 (claim u y s.at p s) in
      let t = type_node a v in
      stepped (ruled (probe_rule u s.side t.sort) s.at p t.state (here h x) (node_held a v e.1 w.1.1.0.1.1 (stepped4 (claim_held u y s.at p s (here h x) h))))
  form_held p o (probe (select y cs) a) s e x w h =
      let c = steps 3 (claim test y s.at p s) in
      let t = type_cases [] cs c in
      let v = type_node a (step t.state) in
      let i = cases_held [] cs c e.0 w.1.1.0.1.0 (stepped3 (claim_held test y s.at p s (here h x) h)) in
      stepped (ruled (select_rule (is_clean c v.state) t.values v.sort) s.at p v.state (here h x) (node_held a (step t.state) e.1 w.1.1.0.1.1.1 (stepped i)))

  -- arguments, each with a comma or parenthesis before it
  arguments_held : {P : ℕ → Pos → Type 0} (gs : List Given) (es : NodeShapes) (s : State) {n : ℕ} → ShapedNodes 1 es → AllGiven P gs → Stands P n (led_nodes_form es) → Held P n s → AllGiven P (type_arguments gs es s).given × Held P (behind n (led_nodes_form es)) (type_arguments gs es s).state
  arguments_held gs no_nodes s e x w h = (x, h)
  arguments_held {P} gs (more_nodes a rest) s e x w h =
      let t = type_node a (step s) in
      let g = given_at (step s).at (pos_in a) t.sort in
      arguments_held (gs ++ g ∷ []) rest t.state e.2 (given_snoc P gs g x (node_at a (step s) w.1.0 (stepped h))) w.1.1 (node_held a (step s) e.1 w.1.0 (stepped h))

  cases_held : {P : ℕ → Pos → Type 0} (vs : List (Option ℤ)) (es : NodeShapes) (s : State) {n : ℕ} → ShapedNodes 2 es → Stands P n (led_nodes_form es) → Held P n s → Held P (behind n (led_nodes_form es)) (type_cases vs es s).state
  cases_held vs no_nodes s e w h = h
  cases_held vs (more_nodes a rest) s e w h =
      let t = type_node a (step s) in
      let i = node_held a (step s) e.1 w.1.0 (stepped h) in
      let u = judged_constant (step s).at (pos_in a) t.sort t.state in
      cases_held (vs ++ constants.value t.sort.constant ∷ []) rest u e.2 w.1.1 (ruled (constant_rule t.sort) (step s).at (pos_in a) t.state (node_at a (step s) w.1.0 (stepped h)) i)

  pub type_held : {P : ℕ → Pos → Type 0} (y : TypeShape) (s : State) {n : ℕ} → ShapedType y → Stands P n (type_as y) → Held P n s → Held P (behind n (type_as y)) (type_type y s).state
  type_held (type_name p specs stars ls) s e w h =
      let t = type_specs false specs unspelled s in
      let r = spelled_rule t.spelled in
      let v = rule r s.at p t.state in
      let i = specs_held false specs unspelled s (all_specs specs e.0) w.1.0 h in
      let j = stars_held stars v (ruled r s.at p t.state (begun_at_specs p specs (stars_form stars ▷ lengths_form ls) s e.0 w.0 h) i) in
      lengths_held false [] ls (steps (star_tokens stars) v) e.1 w.1.1.1 j

  pub lengths_held : {P : ℕ → Pos → Type 0} (free : Bool) (ks : List Length) (l : LengthShapes) (s : State) {n : ℕ} → ShapedLengths free l → Stands P n (lengths_form l) → Held P n s → Held P (behind n (lengths_form l)) (type_lengths ks l s).state
  lengths_held free ks no_lengths s e w h = h
  lengths_held free ks (more_lengths no_node rest) s e w h = lengths_held free (ks ++ left_out ∷ []) rest (steps 2 s) e.1 w.1.1.1 (stepped2 h)
  lengths_held free ks (more_lengths (one_node a) rest) s e w h =
      let t = type_node a (step s) in
      let i = node_held a (step s) e.1 w.1.0 (stepped h) in
      let v = judged_length (step s).at (pos_in a) t.sort t.state in
      let j = ruled (length_rule t.sort) (step s).at (pos_in a) t.state (node_at a (step s) w.1.0 (stepped h)) i in
      lengths_held free (ks ++ length_of t.sort ∷ []) rest (step v) e.2 w.1.1.1 (stepped j)

  pub specs_held : {P : ℕ → Pos → Type 0} (alone : Bool) (x : SpecShapes) (a : Spelled) (s : State) {n : ℕ} → AllSpecs x → Stands P n (specs_form x) → Held P n s → Held P (behind n (specs_form x)) (type_specs alone x a s).state
  specs_held alone no_specs a s e w h = h
  specs_held alone (more_specs p (word k) rest) a s e w h =
      let v = demand (static_fits k s.file) 37 s.at p s in
      specs_held alone rest (with_word k a) (step v) e.1 w.1 (stepped (demanded (static_fits k s.file) 37 s.at p s (here h (w.0.0 (omega arith))) h))
  specs_held alone (more_specs p (struct t ds) rest) a s e w h =
      let r = type_struct alone t ds (step s) in
      specs_held alone rest (with_tagged r.kind a) r.state e.1 w.1 (struct_held alone t ds (step s) e.0.0 e.0.2 w.0.1.1.0 w.0.1.1.1 (stepped h))
  specs_held alone (more_specs p (enum t es) rest) a s e w h =
      let r = type_enum t es (step s) in
      specs_held alone rest (with_tagged r.kind a) r.state e.1 w.1 (enum_held t es (step s) e.0.0 e.0.2 w.0.1.1.0 w.0.1.1.1 (stepped h))

  -- a tag, and a member list
  struct_held : {P : ℕ → Pos → Type 0} (alone : Bool) (t : Option Named) (ds : MaybeDecls) (s : State) {n : ℕ} → unprobed t ≡ true → ShapedMembers ds → Stands P n (maybe_named_form t) → Stands P (behind n (maybe_named_form t)) (members_form ds) → Held P n s → Held P (behind (behind n (maybe_named_form t)) (members_form ds)) (type_struct alone t ds s).state
  struct_held alone t no_members s e d w v h =
      let o = opened alone false t s in
      tag_held t o.state e (opened_held alone false t s (tag_at t s e w h) h)
  struct_held alone t (members no_decls) s e d w v h = absurd d
  struct_held alone t (members (more_decls l rest)) s e d w v h =
      let o = opened alone true t s in
      let b = step (steps (tag_tokens t) (begun_at o.number o.state)) in
      let g = stepped (tag_held t (begun_at o.number o.state) e (begun_held o.number o.state (opened_held alone true t s (tag_at t s e w h) h))) in
      let r = type_lines (more_decls l rest) [] (within b) in
      let i = lines_held (more_decls l rest) [] (within b) d v.1.0 (same g refl refl) in
      stepped (same (closed_held o.number r.fields r.state i) refl refl)

  lines_held : {P : ℕ → Pos → Type 0} (ds : DeclShapes) (fields : List FieldShape) (s : State) {n : ℕ} → ShapedDecls in_members ds → Stands P n (decls_form ds) → Held P n s → Held P (behind n (decls_form ds)) (type_lines ds fields s).state
  lines_held no_decls fields s e w h = h
  lines_held (more_decls (decl p specs no_declarators) rest) fields s e w h = absurd (false≢true e.0.0)
  lines_held (more_decls (decl p specs (more_declarators d names)) rest) fields s e w h =
      let t = type_specs false specs unspelled s in
      let r = spelled_rule t.spelled in
      let v = rule r s.at p t.state in
      let i = specs_held false specs unspelled s (all_specs specs e.0.0) w.0.1.0 h in
      let x = begun_at_specs p specs (declarators_form (more_declarators d names) ▷ mark m.Semicolon) s e.0.0 w.0.0 h in
      let l = type_fields p (kind_at r) (more_declarators d names) fields v in
      let j = fields_held p (kind_at r) (more_declarators d names) fields v (e.0.1, e.0.2) w.0.1.1.0 (ruled r s.at p t.state x i) in
      lines_held rest l.fields l.state e.1 w.1 j

  -- the fields of a line, with the semicolon behind them
  fields_held : {P : ℕ → Pos → Type 0} (p : Pos) (k : Option TypeOf) (names : DeclaratorShapes) (fields : List FieldShape) (s : State) {n : ℕ} → ShapedDeclarators in_members names → Stands P n (declarators_form names) → Held P n s → Held P (names_end n names) (type_fields p k names fields s).state
  fields_held p k no_declarators fields s e w h = h
  fields_held p k (more_declarators (declarator stars None f i) rest) fields s e w h = absurd (false≢true e.0.0)
  fields_held p k (more_declarators (declarator stars (Some x) (function ps) i) rest) fields s e w h = absurd (false≢true e.0.1.0)
  fields_held p k (more_declarators (declarator stars (Some x) (arrays ls) (one_init i)) rest) fields s e w h = absurd (false≢true e.0.2.0)
  fields_held {P} p k (more_declarators (declarator stars (Some x) (arrays ls) no_init) rest) fields s {n} e w h =
      let b = steps (star_tokens stars) s in
      let g = stars_held stars s h in
      let l = type_lengths [] ls (step b) in
      let i = lengths_held false [] ls (step b) e.0.1 w.0.1.1.0 (plain_held x b e.0.0 g) in
      let t = arrays_of l.counts (pointed stars k) in
      let free = is_free (field_type x.text fields) in
      let v = field_state b.at x.pos free t l.state in
      let j = stepped (field_held b.at x.pos free t l.state (plain_at x b e.0.0 w.0.1.0 g) i) in
      let m = behind n (declarator_form (declarator stars (Some x) (arrays ls) no_init)) in
      moved_to (led_end m rest) (fields_held p k rest (with_field free x.text t fields) (step v) {n = m + 1} e.1 (led_stands P m rest w.1) j)

  -- a tag, and enumerators
  enum_held : {P : ℕ → Pos → Type 0} (t : Option Named) (es : MaybeEnumers) (s : State) {n : ℕ} → unprobed t ≡ true → ShapedRows es → Stands P n (maybe_named_form t) → Stands P (behind n (maybe_named_form t)) (rows_form es) → Held P n s → Held P (behind (behind n (maybe_named_form t)) (rows_form es)) (type_enum t es s).state
  enum_held t no_rows s e d w v h =
      let o = enumeration false t s in
      tag_held t o e (enumeration_held false t s (tag_at t s e w h) h)
  enum_held t (rows no_enumers) s e d w v h = absurd d
  enum_held t (rows (more_enumers x a rest)) s {n} e d w v h =
      let o = enumeration true t s in
      let b = step (steps (tag_tokens t) o) in
      let g = stepped (tag_held t o e (enumeration_held true t s (tag_at t s e w h) h)) in
      let r = type_value b.at x.pos (Some (pos 0)) a (step b) in
      let y = plain_at x b (ap is_none d.0) v.1.0.0 g in
      let i = value_held b.at x.pos (Some (pos 0)) a (step b) d.1 y v.1.0.1.0 (plain_held x b (ap is_none d.0) g) in
      let k = declare b.at x.pos x.text (entity_of r.value) r.state in
      let m = behind n (maybe_named_form t) + 1 in
      rows_held (after r.value) rest (step k) (behind (behind m (named_form x)) (value_form a)) d.2 v.1.0.1.1 (stepped (declare_held b.at x.pos x.text (entity_of r.value) r.state y i))

  -- enumerators behind a comma or brace
  rows_held : {P : ℕ → Pos → Type 0} (next : Option ℤ) (rest : EnumerShapes) (s : State) (n : ℕ) → ShapedEnumers rest → Stands P n (led_enumers_form rest) → Held P (n + 1) s → Held P (behind n (led_enumers_form rest) + 1) (rows_types next rest s).state
  rows_held next no_enumers s n e w h = h
  rows_held next (more_enumers x v rest) s n e w h =
      let r = type_value s.at x.pos next v (step s) in
      let y = plain_at x s (ap is_none e.0) w.1.0 h in
      let i = value_held s.at x.pos next v (step s) e.1 y w.1.1.0 (plain_held x s (ap is_none e.0) h) in
      let d = declare s.at x.pos x.text (entity_of r.value) r.state in
      rows_held (after r.value) rest (step d) (behind (behind (n + 1) (named_form x)) (value_form v)) e.2 w.1.1.1 (stepped (declare_held s.at x.pos x.text (entity_of r.value) r.state y i))

  value_held : {P : ℕ → Pos → Type 0} (token : ℕ) (p : Pos) (next : Option ℤ) (v : MaybeNode) (s : State) {n : ℕ} → ShapedMaybe 2 v → P token p → Stands P n (value_form v) → Held P n s → Held P (behind n (value_form v)) (type_value token p next v s).state
  value_held token p next no_node s e x w h = demanded (not (passes next)) 35 token p s x h
  value_held token p next (one_node a) s e x w h =
      let t = type_node a (step s) in
      ruled (value_rule t.sort) (step s).at (pos_in a) t.state (node_at a (step s) w.1 (stepped h)) (node_held a (step s) e.1 w.1 (stepped h))
