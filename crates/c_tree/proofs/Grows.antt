-- Typing takes no complaint back: expressions, and the types that they name.
use Rattle.std.proofs.Common.{ℕ, ℤ, ◌≤◌, List, [], ◌∷◌, ◌++◌, length, Option, Some, None, Bool, true, false, arith, length-append}
use Rattle.std.specs.Prelude.{pos, nat_eq, not, ◌&&◌, if◌then◌else◌}
use Rattle.c_base.specs.declared.place.Pos.{Pos}
use Rattle.c_syntax.specs.declared.text.Text.{Text}
use Rattle.c_syntax.specs.declared.tree.Named.{Named}
use Rattle.c_syntax.specs.Shape.{TypeOf, number, char, str, name, unary, before, size_of, Infix, plain, and, or, assign, comma, Probing, test, NodeShape, node, ExprShape, leaf, paren, call, prefix, size_of_type, cast, suffix, two, choose, probe, index, field, behind, simple, select, NodeShapes, no_nodes, more_nodes, MaybeNode, no_node, one_node, LengthShapes, no_lengths, more_lengths, TypeShape, type_name, SpecShapes, no_specs, more_specs, word, struct, enum, MaybeDecls, no_members, members, MaybeEnumers, no_rows, rows, EnumerShapes, no_enumers, more_enumers, decl, DeclShapes, no_decls, more_decls, declarator, DeclaratorShapes, no_declarators, more_declarators, arrays, function}
use Rattle.c_tables.specs.Tables.{FunctionShape, VariableShape, FieldShape}
use Rattle.c_tree.specs.declared.meaning.Entity.{Entity}
use Rattle.c_tree.specs.declared.meaning.Entity.TheVariants as entity
use Rattle.c_tree.specs.declared.meaning.Tag.{Tag}
use Rattle.c_tree.specs.declared.meaning.Tag.TheVariants as tag
use Rattle.c_type_rules.specs.Verdicts.{fits_type}
use Rattle.c_constants.specs.Probes.{probe_number_of}
use Rattle.c_scopes.specs.Scoping.{named, find_here, find}
use Rattle.c_tables.specs.Builtins.{builtin_name, builtin_result, builtin_params}
use Rattle.c_tree.specs.State.{State, step, steps, complain, demand, counts, is_set, is_clean, field_type, function_number, numbered_or, pushed_function}
use Rattle.c_tables.specs.Rows.{row, text_of, name_pos}
use Rattle.c_tree.specs.Rulings.{Ruled, allowed, unsettled, refused, by, rule, kind_at, of_kind, whole}
use Rattle.c_constants.specs.Constants as constants
use Rattle.c_tree.specs.Sorts.{Sort, pos_in, changeable}
use Rattle.c_tree.specs.Operators.{named_variable, named_parameter, named_entity, called_entity, called, Given, given_at, fit_all, call_of, typed_call, typed_infix, with_literal, left_side, place_rule, holder, constant_rule, seen_of, claimed, claim, hushed, heard, left_of, right_of, sided, entering}
use Rattle.c_tree.specs.Typing.{opening, type_node, type_form, type_arguments, type_cases, type_type, type_lengths, type_specs, type_struct, type_lines, type_fields, type_enum, rows_types, type_value}
use Rattle.c_tree.specs.Parts.{Length, length_rule, value_rule, passes, Spelled, unspelled, with_word, with_tagged, spelled_rule, star_tokens, left_out, length_of, judged_length, judged_constant, known_structure, listed_structure, Opened, opened, begun_at, closed, within, tag_tokens, field_state, is_free, with_field, arrays_of, pointed, declared_at, declare, entity_of, after, enumeration, known_enumeration, listed_enumeration, static_fits}

abbrev pub Grows : State → State → Type 0
Grows s t = length s.complaints ≤ length t.complaints

infixl 5 ◌▸◌
pub ◌▸◌ : {a b c : ℕ} → a ≤ b → b ≤ c → a ≤ c
p ▸ q = omega (arith, p, q)

pub as_it_was : (s : State) → Grows s s
as_it_was s = omega arith

-- ---- complaints

pub complain_grows : (n token : ℕ) (p : Pos) (s : State) → Grows s (complain n token p s)
complain_grows n token p s = omega (arith, length-append s.complaints (record { token = token; number = n; pos = p } ∷ []))

pub demand_grows : (b : Bool) (n token : ℕ) (p : Pos) (s : State) → Grows s (demand b n token p s)
demand_grows true n token p s = as_it_was s
demand_grows false n token p s = complain_grows n token p s

pub rule_grows : (r : Ruled) (token : ℕ) (p : Pos) (s : State) → Grows s (rule r token p s)
rule_grows (allowed t) token p s = as_it_was s
rule_grows unsettled token p s = as_it_was s
rule_grows (refused n) token p s = complain_grows n token p s

-- ---- names, calls and strings

variable_grows : (p : Pos) (n : ℕ) (v : Option VariableShape) (s : State) → Grows s (named_variable p n v s).state
variable_grows p n None s = complain_grows 30 s.at p s
variable_grows p n (Some v) s = as_it_was s

parameter_grows : (p : Pos) (k : Option TypeOf) (s : State) → Grows s (named_parameter p k s).state
parameter_grows p None s = complain_grows 30 s.at p s
parameter_grows p (Some t) s = as_it_was s

entity_grows : (p : Pos) (e : Option Entity) (s : State) → Grows s (named_entity p e s).state
entity_grows p (Some (entity.Variable n)) s = variable_grows p n (row s.tables.variables n) s
entity_grows p (Some (entity.Parameter n)) s = parameter_grows p (row s.params n) s
entity_grows p (Some (entity.Constant v)) s = as_it_was s
entity_grows p (Some entity.Unknown) s = as_it_was s
entity_grows p (Some (entity.Function n)) s = complain_grows 30 s.at p s
entity_grows p (Some (entity.Builtin b)) s = complain_grows 30 s.at p s
entity_grows p None s = complain_grows 30 s.at p s

pub mention_grows : (x : Text) (k : TypeOf) (ks : List TypeOf) (n : Option ℕ) (s : State) → Grows s (numbered_or n s (pushed_function x k ks s)).state
mention_grows x k ks (Some n) s = as_it_was s
mention_grows x k ks None s = as_it_was s

called_grows : (p : Pos) (e : Option Entity) (s : State) → Grows s (called_entity p e s).state
called_grows p (Some (entity.Function n)) s = demand_grows (counts s.known n) 40 s.at p s
called_grows p (Some (entity.Builtin b)) s = mention_grows (builtin_name b) (builtin_result b) (builtin_params b) (function_number (builtin_name b) (builtin_result b) (builtin_params b) s.tables.functions) s
called_grows p (Some entity.Unknown) s = as_it_was s
called_grows p (Some (entity.Variable n)) s = complain_grows 30 s.at p s
called_grows p (Some (entity.Parameter n)) s = complain_grows 30 s.at p s
called_grows p (Some (entity.Constant v)) s = complain_grows 30 s.at p s
called_grows p None s = complain_grows 30 s.at p s

fit_grows : (ts : List TypeOf) (gs : List Given) (s : State) → Grows s (fit_all ts gs s)
fit_grows [] gs s = as_it_was s
fit_grows (t ∷ ts) [] s = as_it_was s
fit_grows (t ∷ ts) (g ∷ gs) s = let r = by 33 (fits_type (Some t) g.kind g.null) in rule_grows r g.token g.pos s ▸ fit_grows ts gs (rule r g.token g.pos s)

pick_grows : (b : Bool) (s t u : State) → Grows s t → Grows s u → Grows s (if b then t else u)
pick_grows true s t u p q = p
pick_grows false s t u p q = q

call_grows : (p : Pos) (token : ℕ) (clean : Bool) (n : ℕ) (f : Option FunctionShape) (gs : List Given) (s : State) → Grows s (call_of p token clean n f gs s).state
call_grows p token clean n None gs s = as_it_was s
call_grows p token clean n (Some f) gs s = pick_grows (clean && not (nat_eq (length f.params) (length gs))) s _ _ (complain_grows 34 token p s) (fit_grows f.params gs s)

pub typed_call_grows : (p : Pos) (token : ℕ) (clean : Bool) (f : Option ℕ) (gs : List Given) (s : State) → Grows s (typed_call p token clean f gs s).state
typed_call_grows p token clean None gs s = as_it_was s
typed_call_grows p token clean (Some n) gs s = call_grows p token clean n (row s.tables.functions n) gs s

literal_grows : (b : Bool) (x : Text) (s : State) → Grows s (if b then s else record s { tables = record s.tables { literals = s.tables.literals ++ x ∷ [] } })
literal_grows true x s = as_it_was s
literal_grows false x s = as_it_was s

pub infix_grows : (token : ℕ) (o : Pos) (head : ℕ) (p : Pos) (u : Infix) (a b : Sort) (s : State) → Grows s (typed_infix token o head p u a b s).state
infix_grows token o head p (plain u) a b s = rule_grows _ token o s
infix_grows token o head p and a b s = rule_grows _ token o s
infix_grows token o head p or a b s = rule_grows _ token o s
infix_grows token o head p (assign u) a b s = rule_grows (left_side a b) head p s ▸ rule_grows _ token o (rule (left_side a b) head p s)
infix_grows token o head p comma a b s = as_it_was s

claimed_grows : (u : Probing) (x : Text) (token : ℕ) (p : Pos) (n m : Option ℕ) (s : State) → Grows s (claimed u x token p n m s)
claimed_grows u x token p (Some n) None s = as_it_was s
claimed_grows u x token p (Some n) (Some m) s = complain_grows 37 token p s
claimed_grows u x token p None m s = complain_grows 37 token p s

pub claim_grows : (u : Probing) (x : Text) (token : ℕ) (p : Pos) (s : State) → Grows s (claim u x token p s)
claim_grows u x token p s = claimed_grows u x token p (probe_number_of x) (named x (seen_of u s.seen)) s

-- ---- tags, fields and enumerators

known_grows : (p : Pos) (x : Text) (t : Option Tag) (s : State) → Grows s (known_structure p x t s).state
known_grows p x None s = as_it_was s
known_grows p x (Some (tag.Structure n)) s = as_it_was s
known_grows p x (Some tag.Enumeration) s = complain_grows 31 s.at p s

pick_opened : (b : Bool) (s : State) (x y : Opened) → Grows s x.state → Grows s y.state → Grows s (if b then x else y).state
pick_opened true s x y p q = p
pick_opened false s x y p q = q

listed_grows : (p : Pos) (x : Text) (t : Option Tag) (s : State) → Grows s (listed_structure p x t s).state
listed_grows p x None s = as_it_was s
listed_grows p x (Some (tag.Structure n)) s = pick_opened (is_set (row s.begun n)) s _ (record { number = Some n; state = s }) (complain_grows 31 s.at p s) (as_it_was s)
listed_grows p x (Some tag.Enumeration) s = complain_grows 31 s.at p s

pub opened_grows : (alone list : Bool) (x : Option Named) (s : State) → Grows s (opened alone list x s).state
opened_grows alone true None s = as_it_was s
opened_grows alone true (Some x) s = listed_grows x.pos x.text (find_here x.text s.tags) s
opened_grows alone false None s = as_it_was s
opened_grows alone false (Some x) s = known_grows x.pos x.text (if alone then find_here x.text s.tags else find x.text s.tags) s

pub begun_grows : (n : Option ℕ) (s : State) → Grows s (begun_at n s)
begun_grows None s = as_it_was s
begun_grows (Some n) s = as_it_was s

pub closed_grows : (n : Option ℕ) (fields : List FieldShape) (s : State) → Grows s (closed n fields s)
closed_grows None fields s = as_it_was s
closed_grows (Some n) fields s = as_it_was s

pub field_grows : (token : ℕ) (p : Pos) (free : Bool) (k : Option TypeOf) (s : State) → Grows s (field_state token p free k s)
field_grows token p free k s = demand_grows free 31 token p s ▸ rule_grows (of_kind k (whole s.rooms)) token p (demand free 31 token p s)

pub declared_grows : (token : ℕ) (p : Pos) (x : Text) (e : Entity) (o : Option Entity) (s : State) → Grows s (declared_at token p x e o s)
declared_grows token p x e None s = as_it_was s
declared_grows token p x e (Some other) s = complain_grows 31 token p s

listed_enum_grows : (p : Pos) (x : Text) (t : Option Tag) (s : State) → Grows s (listed_enumeration p x t s)
listed_enum_grows p x None s = as_it_was s
listed_enum_grows p x (Some t) s = complain_grows 31 s.at p s

known_enum_grows : (p : Pos) (t : Option Tag) (s : State) → Grows s (known_enumeration p t s)
known_enum_grows p (Some tag.Enumeration) s = as_it_was s
known_enum_grows p (Some (tag.Structure n)) s = complain_grows 31 s.at p s
known_enum_grows p None s = complain_grows 30 s.at p s

pub enumeration_grows : (list : Bool) (x : Option Named) (s : State) → Grows s (enumeration list x s)
enumeration_grows true None s = as_it_was s
enumeration_grows false None s = as_it_was s
enumeration_grows true (Some x) s = listed_enum_grows x.pos x.text (find_here x.text s.tags) s
enumeration_grows false (Some x) s = known_enum_grows x.pos (find x.text s.tags) s

-- ---- expressions and types

mutual
  pub node_grows : (a : NodeShape) (s : State) → Grows s (type_node a s).state
  node_grows (node p o n f) s = form_grows p o f (entering f s)

  pub form_grows : (p o : Pos) (f : ExprShape) (s : State) → Grows s (type_form p o f s).state
  form_grows p o (leaf (number t)) s = demand_grows _ 33 s.at p s
  form_grows p o (leaf (char c)) s = as_it_was s
  form_grows p o (leaf (str t)) s = literal_grows s.quiet t s ▸ rule_grows _ s.at p (with_literal t s)
  form_grows p o (leaf (name x)) s = entity_grows p (find x s.names) s
  form_grows p o (paren a) s = node_grows a (step s)
  form_grows p o (call x args) s =
      let c = called p x s in
      let t = type_arguments [] args (steps (opening args) c.state) in
      called_grows p (find x s.names) s ▸ arguments_grows [] args (steps (opening args) c.state) ▸ typed_call_grows p s.at (is_clean c.state t.state) c.function t.given t.state
  form_grows p o (prefix (unary u) a) s =
      let t = type_node a (step s) in
      node_grows a (step s) ▸ rule_grows (place_rule u t.sort) (step s).at (pos_in a) t.state ▸ rule_grows _ s.at o (rule (place_rule u t.sort) (step s).at (pos_in a) t.state)
  form_grows p o (prefix (before u) a) s =
      let t = type_node a (step s) in
      node_grows a (step s) ▸ rule_grows (changeable t.sort) (step s).at (pos_in a) t.state ▸ rule_grows _ s.at o (rule (changeable t.sort) (step s).at (pos_in a) t.state)
  form_grows p o (prefix size_of a) s =
      let t = type_node a (hushed (step s)) in
      node_grows a (hushed (step s)) ▸ rule_grows _ s.at o (heard s.quiet t.state)
  form_grows p o (size_of_type y) s =
      let t = type_type y (steps 2 s) in
      type_grows y (steps 2 s) ▸ rule_grows _ s.at o (step t.state)
  form_grows p o (cast y a) s =
      let k = type_type y (step s) in
      let t = type_node a (step k.state) in
      type_grows y (step s) ▸ node_grows a (step k.state) ▸ rule_grows _ s.at o t.state
  form_grows p o (suffix a (index b)) s =
      let t = type_node a s in
      let v = type_node b (step t.state) in
      node_grows a s ▸ node_grows b (step t.state) ▸ rule_grows _ t.state.at o v.state
  form_grows p o (suffix a (field h x q)) s =
      let t = type_node a s in
      let v = step (rule (holder h t.state.rooms t.sort.kind) t.state.at o t.state) in
      node_grows a s ▸ rule_grows (holder h t.state.rooms t.sort.kind) t.state.at o t.state ▸ rule_grows _ v.at q v
  form_grows p o (suffix a (behind u)) s =
      let t = type_node a s in
      node_grows a s ▸ rule_grows (changeable t.sort) s.at (pos_in a) (step t.state) ▸ rule_grows _ t.state.at o (rule (changeable t.sort) s.at (pos_in a) (step t.state))
  form_grows p o (two u a b) s =
      let t = type_node a (sided (left_of u) s) in
      let r = sided (right_of u t.sort.kind) (step t.state) in
      let v = type_node b r in
      node_grows a (sided (left_of u) s) ▸ node_grows b r ▸ infix_grows t.state.at o s.at (pos_in a) u t.sort v.sort v.state
  form_grows p o (choose a b c) s =
      let t = type_node a s in
      let v = type_node b (step t.state) in
      let w = type_node c (step v.state) in
      node_grows a s ▸ node_grows b (step t.state) ▸ node_grows c (step v.state) ▸ rule_grows _ t.state.at o w.state
  form_grows p o (probe (simple u x) a) s =
      let v = steps 4 (claim u x s.at p s) in
      claim_grows u x s.at p s ▸ node_grows a v ▸ rule_grows _ s.at p (type_node a v).state
  form_grows p o (probe (select x cs) a) s =
      let v = steps 3 (claim test x s.at p s) in
      let t = type_cases [] cs v in
      claim_grows test x s.at p s ▸ cases_grow [] cs v ▸ node_grows a (step t.state) ▸ rule_grows _ s.at p (type_node a (step t.state)).state

  pub arguments_grows : (gs : List Given) (es : NodeShapes) (s : State) → Grows s (type_arguments gs es s).state
  arguments_grows gs no_nodes s = as_it_was s
  arguments_grows gs (more_nodes a rest) s =
      let t = type_node a (step s) in
      node_grows a (step s) ▸ arguments_grows (gs ++ given_at (step s).at (pos_in a) t.sort ∷ []) rest t.state

  pub cases_grow : (vs : List (Option ℤ)) (es : NodeShapes) (s : State) → Grows s (type_cases vs es s).state
  cases_grow vs no_nodes s = as_it_was s
  cases_grow vs (more_nodes a rest) s =
      let t = type_node a (step s) in
      let v = judged_constant (step s).at (pos_in a) t.sort t.state in
      node_grows a (step s) ▸ rule_grows (constant_rule t.sort) (step s).at (pos_in a) t.state ▸ cases_grow (vs ++ constants.value t.sort.constant ∷ []) rest v

  pub type_grows : (y : TypeShape) (s : State) → Grows s (type_type y s).state
  type_grows (type_name p specs stars ls) s =
      let t = type_specs false specs unspelled s in
      let r = spelled_rule t.spelled in
      specs_grow false specs unspelled s ▸ rule_grows r s.at p t.state ▸ lengths_grow [] ls (steps (star_tokens stars) (rule r s.at p t.state))

  pub lengths_grow : (ls : List Length) (l : LengthShapes) (s : State) → Grows s (type_lengths ls l s).state
  lengths_grow ls no_lengths s = as_it_was s
  lengths_grow ls (more_lengths no_node rest) s = lengths_grow (ls ++ left_out ∷ []) rest (steps 2 s)
  lengths_grow ls (more_lengths (one_node a) rest) s =
      let t = type_node a (step s) in
      let v = judged_length (step s).at (pos_in a) t.sort t.state in
      node_grows a (step s) ▸ rule_grows (length_rule t.sort) (step s).at (pos_in a) t.state ▸ lengths_grow (ls ++ length_of t.sort ∷ []) rest (step v)

  pub specs_grow : (alone : Bool) (x : SpecShapes) (a : Spelled) (s : State) → Grows s (type_specs alone x a s).state
  specs_grow alone no_specs a s = as_it_was s
  specs_grow alone (more_specs p (word k) rest) a s =
      let v = demand (static_fits k s.file) 37 s.at p s in
      demand_grows (static_fits k s.file) 37 s.at p s ▸ specs_grow alone rest (with_word k a) (step v)
  specs_grow alone (more_specs p (struct t ds) rest) a s = let r = type_struct alone t ds (step s) in struct_grows alone t ds (step s) ▸ specs_grow alone rest (with_tagged r.kind a) r.state
  specs_grow alone (more_specs p (enum t es) rest) a s = let r = type_enum t es (step s) in enum_grows t es (step s) ▸ specs_grow alone rest (with_tagged r.kind a) r.state

  struct_grows : (alone : Bool) (t : Option Named) (ds : MaybeDecls) (s : State) → Grows s (type_struct alone t ds s).state
  struct_grows alone t no_members s = opened_grows alone false t s
  struct_grows alone t (members ds) s =
      let o = opened alone true t s in
      let b = step (steps (tag_tokens t) (begun_at o.number o.state)) in
      let r = type_lines ds [] (within b) in
      opened_grows alone true t s ▸ begun_grows o.number o.state ▸ lines_grow ds [] (within b) ▸ closed_grows o.number r.fields r.state

  pub lines_grow : (ds : DeclShapes) (fields : List FieldShape) (s : State) → Grows s (type_lines ds fields s).state
  lines_grow no_decls fields s = as_it_was s
  lines_grow (more_decls (decl p specs names) rest) fields s =
      let t = type_specs false specs unspelled s in
      let r = spelled_rule t.spelled in
      let v = rule r s.at p t.state in
      let n = type_fields p (kind_at r) names fields v in
      specs_grow false specs unspelled s ▸ rule_grows r s.at p t.state ▸ fields_grow p (kind_at r) names fields v ▸ lines_grow rest n.fields n.state

  pub fields_grow : (p : Pos) (k : Option TypeOf) (names : DeclaratorShapes) (fields : List FieldShape) (s : State) → Grows s (type_fields p k names fields s).state
  fields_grow p k no_declarators fields s = as_it_was s
  fields_grow p k (more_declarators (declarator stars x (arrays ls) i) rest) fields s =
      let b = steps (star_tokens stars) s in
      let l = type_lengths [] ls (step b) in
      let t = arrays_of l.counts (pointed stars k) in
      let free = is_free (field_type (text_of x) fields) in
      let v = field_state b.at (name_pos p x) free t l.state in
      lengths_grow [] ls (step b) ▸ field_grows b.at (name_pos p x) free t l.state ▸ fields_grow p k rest (with_field free (text_of x) t fields) (step v)
  fields_grow p k (more_declarators (declarator stars x (function ps) i) rest) fields s =
      let b = steps (star_tokens stars) s in
      complain_grows 33 b.at (name_pos p x) (step b) ▸ fields_grow p k rest fields (complain 33 b.at (name_pos p x) (step b))

  enum_grows : (t : Option Named) (es : MaybeEnumers) (s : State) → Grows s (type_enum t es s).state
  enum_grows t no_rows s = enumeration_grows false t s
  enum_grows t (rows es) s = enumeration_grows true t s ▸ rows_grow (Some (pos 0)) es (step (steps (tag_tokens t) (enumeration true t s)))

  pub rows_grow : (next : Option ℤ) (es : EnumerShapes) (s : State) → Grows s (rows_types next es s).state
  rows_grow next no_enumers s = as_it_was s
  rows_grow next (more_enumers x v rest) s =
      let r = type_value s.at x.pos next v (step s) in
      let d = declare s.at x.pos x.text (entity_of r.value) r.state in
      value_grows s.at x.pos next v (step s) ▸ declared_grows s.at x.pos x.text (entity_of r.value) (find_here x.text r.state.names) r.state ▸ rows_grow (after r.value) rest (step d)

  value_grows : (token : ℕ) (p : Pos) (next : Option ℤ) (v : MaybeNode) (s : State) → Grows s (type_value token p next v s).state
  value_grows token p next no_node s = demand_grows (not (passes next)) 35 token p s
  value_grows token p next (one_node a) s = let t = type_node a (step s) in node_grows a (step s) ▸ rule_grows (value_rule t.sort) (step s).at (pos_in a) t.state
