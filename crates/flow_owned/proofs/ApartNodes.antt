-- Where fields have names of their own, they do so behind an expression.
use Rattle.std.proofs.Common.{ℕ, zero, suc, ◌-◌, ℤ, List, [], ◌∷◌, ◌++◌, length, Option, Some, None, Bool, true, false}
use Rattle.std.specs.List.{AllByRecursion}
use Rattle.std.specs.Prelude.{pos, nat_eq, not, ◌&&◌, if◌then◌else◌}
use Rattle.c_base.specs.declared.place.Pos.{Pos}
use Rattle.c_syntax.specs.declared.text.Text.{Text}
use Rattle.c_syntax.specs.declared.tree.Named.{Named}
use Rattle.c_syntax.specs.Grammar as written
use Rattle.c_syntax.specs.Grammar.{node_form, expr_form, led_nodes_form, lengths_form, specs_form, members_form, rows_form, led_enumers_form, value_form, decls_form, led_declarators_form}
use Rattle.c_syntax.specs.Shape.{TypeOf, number, char, str, name, unary, before, size_of, Infix, plain, and, or, assign, comma, Probing, test, NodeShape, node, ExprShape, leaf, paren, call, prefix, size_of_type, cast, suffix, two, choose, probe, index, field, behind, simple, select, NodeShapes, no_nodes, more_nodes, MaybeNode, no_node, one_node, LengthShapes, no_lengths, more_lengths, TypeShape, type_name, SpecShapes, no_specs, more_specs, word, struct, enum, MaybeDecls, no_members, members, MaybeEnumers, no_rows, rows, EnumerShapes, no_enumers, more_enumers, decl, DeclShapes, no_decls, more_decls, declarator, DeclaratorShapes, no_declarators, more_declarators, arrays, function}
use Rattle.c_tables.specs.Tables.{FunctionShape, VariableShape, FieldShape, StructShape, changed_at}
use Rattle.c_tree.specs.declared.meaning.Entity.{Entity}
use Rattle.c_tree.specs.declared.meaning.Entity.TheVariants as entity
use Rattle.c_tree.specs.declared.meaning.Tag.{Tag}
use Rattle.c_tree.specs.declared.meaning.Tag.TheVariants as tag
use Rattle.c_type_rules.specs.Verdicts.{fits_type}
use Rattle.c_constants.specs.Probes.{probe_number_of}
use Rattle.c_scopes.specs.Scoping.{named, find_here, find}
use Rattle.c_tables.specs.Builtins.{builtin_name, builtin_result, builtin_params}
use Rattle.c_tree.specs.State.{State, is_set, step, steps, complain, demand, counts, is_clean, field_type, function_number, numbered_or, pushed_function}
use Rattle.c_tables.specs.Rows.{row, text_of, name_pos}
use Rattle.c_tree.specs.Rulings.{Ruled, allowed, unsettled, refused, by, rule, kind_at, of_kind, whole}
use Rattle.c_constants.specs.Constants as constants
use Rattle.c_tree.specs.Sorts.{Sort, pos_in, changeable}
use Rattle.c_tree.specs.Operators.{named_variable, named_parameter, named_entity, called_entity, called, Given, given_at, fit_all, call_of, typed_call, typed_infix, with_literal, left_side, place_rule, holder, constant_rule, seen_of, claimed, claim, hushed, heard, left_of, right_of, sided, entering}
use Rattle.c_tree.specs.Typing.{opening, type_node, type_form, type_arguments, type_cases, type_type, type_lengths, type_specs, type_struct, type_lines, type_fields, type_enum, rows_types, type_value}
use Rattle.c_tree.specs.Parts.{Length, length_rule, value_rule, passes, Spelled, unspelled, with_word, with_tagged, spelled_rule, star_tokens, left_out, length_of, judged_length, judged_constant, opened, begun_at, within, closed, with_structure, known_structure, listed_structure, twice, Opened, listed_enumeration, tag_tokens, field_state, is_free, with_field, arrays_of, pointed, declared_at, declare, entity_of, after, enumeration, known_enumeration, static_fits}
use Rattle.flow_owned.specs.Fields.{AreApart}
use Rattle.flow_owned.proofs.Words.{HasPlainWords, led_nodes, led_enumers, led_declarators}
use Rattle.flow_owned.proofs.Lines.{lines_apart}

-- ---- structures whose fields have names of their own

abbrev pub HasApart : StructShape → Type 0
HasApart r = AreApart r.fields

abbrev pub AllApart : List StructShape → Type 0
AllApart rs = AllByRecursion HasApart rs

abbrev pub Keeps : State → State → Type 0
Keeps s t = AllApart s.tables.structures → AllApart t.tables.structures

pub as_it_was : (s : State) → Keeps s s
as_it_was s = λ h. h

infixl 5 ◌▸◌
pub ◌▸◌ : {A B C : Type 0} → (A → B) → (B → C) → A → C
(f ▸ g) h = g (f h)

one_more : (t : Option Text) (rs : List StructShape) → AllApart rs → AllApart (rs ++ record { tag = t; fields = [] } ∷ [])
one_more t [] h = (tt, tt)
one_more t (r ∷ rs) h = (h.0, one_more t rs h.1)

changed_apart : (fields : List FieldShape) → AreApart fields → (i : ℕ) (rs : List StructShape) → AllApart rs → AllApart (changed_at (λ r. record r { fields = fields }) i rs)
changed_apart fields a i [] h = h
changed_apart fields a zero (r ∷ rs) h = (a, h.1)
changed_apart fields a (suc i) (r ∷ rs) h = (h.0, changed_apart fields a i rs h.1)

-- ---- complaints

pub complain_keeps : (n token : ℕ) (p : Pos) (s : State) → Keeps s (complain n token p s)
complain_keeps n token p s = as_it_was s

pub demand_keeps : (b : Bool) (n token : ℕ) (p : Pos) (s : State) → Keeps s (demand b n token p s)
demand_keeps true n token p s = as_it_was s
demand_keeps false n token p s = complain_keeps n token p s

pub rule_keeps : (r : Ruled) (token : ℕ) (p : Pos) (s : State) → Keeps s (rule r token p s)
rule_keeps (allowed t) token p s = as_it_was s
rule_keeps unsettled token p s = as_it_was s
rule_keeps (refused n) token p s = complain_keeps n token p s

-- ---- names, calls and strings

variable_keeps : (p : Pos) (n : ℕ) (v : Option VariableShape) (s : State) → Keeps s (named_variable p n v s).state
variable_keeps p n None s = complain_keeps 30 s.at p s
variable_keeps p n (Some v) s = as_it_was s

parameter_keeps : (p : Pos) (k : Option TypeOf) (s : State) → Keeps s (named_parameter p k s).state
parameter_keeps p None s = complain_keeps 30 s.at p s
parameter_keeps p (Some t) s = as_it_was s

entity_keeps : (p : Pos) (e : Option Entity) (s : State) → Keeps s (named_entity p e s).state
entity_keeps p (Some (entity.Variable n)) s = variable_keeps p n (row s.tables.variables n) s
entity_keeps p (Some (entity.Parameter n)) s = parameter_keeps p (row s.params n) s
entity_keeps p (Some (entity.Constant v)) s = as_it_was s
entity_keeps p (Some entity.Unknown) s = as_it_was s
entity_keeps p (Some (entity.Function n)) s = complain_keeps 30 s.at p s
entity_keeps p (Some (entity.Builtin b)) s = complain_keeps 30 s.at p s
entity_keeps p None s = complain_keeps 30 s.at p s

pub mention_keeps : (x : Text) (k : TypeOf) (ks : List TypeOf) (n : Option ℕ) (s : State) → Keeps s (numbered_or n s (pushed_function x k ks s)).state
mention_keeps x k ks (Some n) s = as_it_was s
mention_keeps x k ks None s = as_it_was s

called_keeps : (p : Pos) (e : Option Entity) (s : State) → Keeps s (called_entity p e s).state
called_keeps p (Some (entity.Function n)) s = demand_keeps (counts s.known n) 40 s.at p s
called_keeps p (Some (entity.Builtin b)) s = mention_keeps (builtin_name b) (builtin_result b) (builtin_params b) (function_number (builtin_name b) (builtin_result b) (builtin_params b) s.tables.functions) s
called_keeps p (Some entity.Unknown) s = as_it_was s
called_keeps p (Some (entity.Variable n)) s = complain_keeps 30 s.at p s
called_keeps p (Some (entity.Parameter n)) s = complain_keeps 30 s.at p s
called_keeps p (Some (entity.Constant v)) s = complain_keeps 30 s.at p s
called_keeps p None s = complain_keeps 30 s.at p s

fit_keeps : (ts : List TypeOf) (gs : List Given) (s : State) → Keeps s (fit_all ts gs s)
fit_keeps [] gs s = as_it_was s
fit_keeps (t ∷ ts) [] s = as_it_was s
fit_keeps (t ∷ ts) (g ∷ gs) s = let r = by 33 (fits_type (Some t) g.kind g.null) in rule_keeps r g.token g.pos s ▸ fit_keeps ts gs (rule r g.token g.pos s)

pick_keeps : (b : Bool) (s t u : State) → Keeps s t → Keeps s u → Keeps s (if b then t else u)
pick_keeps true s t u p q = p
pick_keeps false s t u p q = q

call_keeps : (p : Pos) (token : ℕ) (clean : Bool) (n : ℕ) (f : Option FunctionShape) (gs : List Given) (s : State) → Keeps s (call_of p token clean n f gs s).state
call_keeps p token clean n None gs s = as_it_was s
call_keeps p token clean n (Some f) gs s = pick_keeps (clean && not (nat_eq (length f.params) (length gs))) s _ _ (complain_keeps 34 token p s) (fit_keeps f.params gs s)

typed_call_keeps : (p : Pos) (token : ℕ) (clean : Bool) (f : Option ℕ) (gs : List Given) (s : State) → Keeps s (typed_call p token clean f gs s).state
typed_call_keeps p token clean None gs s = as_it_was s
typed_call_keeps p token clean (Some n) gs s = call_keeps p token clean n (row s.tables.functions n) gs s

literal_keeps : (b : Bool) (x : Text) (s : State) → Keeps s (if b then s else record s { tables = record s.tables { literals = s.tables.literals ++ x ∷ [] } })
literal_keeps true x s = as_it_was s
literal_keeps false x s = as_it_was s

infix_keeps : (token : ℕ) (o : Pos) (head : ℕ) (p : Pos) (u : Infix) (a b : Sort) (s : State) → Keeps s (typed_infix token o head p u a b s).state
infix_keeps token o head p (plain u) a b s = rule_keeps _ token o s
infix_keeps token o head p and a b s = rule_keeps _ token o s
infix_keeps token o head p or a b s = rule_keeps _ token o s
infix_keeps token o head p (assign u) a b s = rule_keeps (left_side a b) head p s ▸ rule_keeps _ token o (rule (left_side a b) head p s)
infix_keeps token o head p comma a b s = as_it_was s

claimed_keeps : (u : Probing) (x : Text) (token : ℕ) (p : Pos) (n m : Option ℕ) (s : State) → Keeps s (claimed u x token p n m s)
claimed_keeps u x token p (Some n) None s = as_it_was s
claimed_keeps u x token p (Some n) (Some m) s = complain_keeps 37 token p s
claimed_keeps u x token p None m s = complain_keeps 37 token p s

pub claim_keeps : (u : Probing) (x : Text) (token : ℕ) (p : Pos) (s : State) → Keeps s (claim u x token p s)
claim_keeps u x token p s = claimed_keeps u x token p (probe_number_of x) (named x (seen_of u s.seen)) s

-- ---- tags, fields and enumerators

field_keeps : (token : ℕ) (p : Pos) (free : Bool) (k : Option TypeOf) (s : State) → Keeps s (field_state token p free k s)
field_keeps token p free k s = demand_keeps free 31 token p s ▸ rule_keeps (of_kind k (whole s.rooms)) token p (demand free 31 token p s)

declared_keeps : (token : ℕ) (p : Pos) (x : Text) (e : Entity) (o : Option Entity) (s : State) → Keeps s (declared_at token p x e o s)
declared_keeps token p x e None s = as_it_was s
declared_keeps token p x e (Some other) s = complain_keeps 31 token p s

listing_keeps : (p : Pos) (x : Text) (t : Option Tag) (s : State) → Keeps s (listed_enumeration p x t s)
listing_keeps p x None s = as_it_was s
listing_keeps p x (Some t) s = complain_keeps 31 s.at p s

known_enum_keeps : (p : Pos) (t : Option Tag) (s : State) → Keeps s (known_enumeration p t s)
known_enum_keeps p (Some tag.Enumeration) s = as_it_was s
known_enum_keeps p (Some (tag.Structure n)) s = complain_keeps 31 s.at p s
known_enum_keeps p None s = complain_keeps 30 s.at p s

enumeration_keeps : (list : Bool) (x : Option Named) (s : State) → Keeps s (enumeration list x s)
enumeration_keeps true None s = as_it_was s
enumeration_keeps false None s = as_it_was s
enumeration_keeps true (Some x) s = listing_keeps x.pos x.text (find_here x.text s.tags) s
enumeration_keeps false (Some x) s = known_enum_keeps x.pos (find x.text s.tags) s

begun_keeps : (n : Option ℕ) (s : State) → Keeps s (begun_at n s)
begun_keeps None s = as_it_was s
begun_keeps (Some n) s = as_it_was s

closed_keeps : (n : Option ℕ) (fields : List FieldShape) (s : State) → AreApart fields → Keeps s (closed n fields s)
closed_keeps None fields s a = as_it_was s
closed_keeps (Some n) fields s a = changed_apart fields a (n - 1) s.tables.structures

new_keeps : (t : Option Text) (s : State) → Keeps s (with_structure t s)
new_keeps t s = one_more t s.tables.structures

known_structure_keeps : (p : Pos) (x : Text) (t : Option Tag) (s : State) → Keeps s (known_structure p x t s).state
known_structure_keeps p x None s = new_keeps (Some x) s
known_structure_keeps p x (Some (tag.Structure n)) s = as_it_was s
known_structure_keeps p x (Some tag.Enumeration) s = as_it_was s

either_keeps : (b : Bool) (s : State) (y z : Opened) → Keeps s y.state → Keeps s z.state → Keeps s (if b then y else z).state
either_keeps true s y z h g = h
either_keeps false s y z h g = g

listed_structure_keeps : (p : Pos) (x : Text) (t : Option Tag) (s : State) → Keeps s (listed_structure p x t s).state
listed_structure_keeps p x None s = new_keeps (Some x) s
listed_structure_keeps p x (Some (tag.Structure n)) s = either_keeps (is_set (row s.begun n)) s (twice p s) (record { number = Some n; state = s }) (as_it_was s) (as_it_was s)
listed_structure_keeps p x (Some tag.Enumeration) s = as_it_was s

opened_keeps : (alone list : Bool) (x : Option Named) (s : State) → Keeps s (opened alone list x s).state
opened_keeps alone true None s = new_keeps None s
opened_keeps alone true (Some x) s = listed_structure_keeps x.pos x.text (find_here x.text s.tags) s
opened_keeps alone false None s = as_it_was s
opened_keeps alone false (Some x) s = known_structure_keeps x.pos x.text (if alone then find_here x.text s.tags else find x.text s.tags) s

-- ---- expressions and types, where each word is a plain name

mutual
  pub node_keeps : (a : NodeShape) (s : State) → HasPlainWords (node_form a) → Keeps s (type_node a s).state
  node_keeps (node p o n f) s w = form_keeps p o f (entering f s) w

  form_keeps : (p o : Pos) (f : ExprShape) (s : State) → HasPlainWords (expr_form o f) → Keeps s (type_form p o f s).state
  form_keeps p o (leaf (number t)) s w = demand_keeps _ 33 s.at p s
  form_keeps p o (leaf (char c)) s w = as_it_was s
  form_keeps p o (leaf (str t)) s w = literal_keeps s.quiet t s ▸ rule_keeps _ s.at p (with_literal t s)
  form_keeps p o (leaf (name x)) s w = entity_keeps p (find x s.names) s
  form_keeps p o (paren a) s w = node_keeps a (step s) w.1.0
  form_keeps p o (call x args) s w =
      let c = called p x s in
      let t = type_arguments [] args (steps (opening args) c.state) in
      called_keeps p (find x s.names) s ▸ arguments_keep [] args (steps (opening args) c.state) (led_nodes args w.1.1.0) ▸ typed_call_keeps p s.at (is_clean c.state t.state) c.function t.given t.state
  form_keeps p o (prefix (unary u) a) s w =
      let t = type_node a (step s) in
      node_keeps a (step s) w.1 ▸ rule_keeps (place_rule u t.sort) (step s).at (pos_in a) t.state ▸ rule_keeps _ s.at o (rule (place_rule u t.sort) (step s).at (pos_in a) t.state)
  form_keeps p o (prefix (before u) a) s w =
      let t = type_node a (step s) in
      node_keeps a (step s) w.1 ▸ rule_keeps (changeable t.sort) (step s).at (pos_in a) t.state ▸ rule_keeps _ s.at o (rule (changeable t.sort) (step s).at (pos_in a) t.state)
  form_keeps p o (prefix size_of a) s w =
      let t = type_node a (hushed (step s)) in
      node_keeps a (hushed (step s)) w.1 ▸ rule_keeps _ s.at o (heard s.quiet t.state)
  form_keeps p o (size_of_type y) s w =
      let t = type_type y (steps 2 s) in
      type_keeps y (steps 2 s) w.1.1.0 ▸ rule_keeps _ s.at o (step t.state)
  form_keeps p o (cast y a) s w =
      let k = type_type y (step s) in
      let t = type_node a (step k.state) in
      type_keeps y (step s) w.1.0 ▸ node_keeps a (step k.state) w.1.1.1 ▸ rule_keeps _ s.at o t.state
  form_keeps p o (suffix a (index b)) s w =
      let t = type_node a s in
      let v = type_node b (step t.state) in
      node_keeps a s w.0 ▸ node_keeps b (step t.state) w.1.1.0 ▸ rule_keeps _ t.state.at o v.state
  form_keeps p o (suffix a (field h x q)) s w =
      let t = type_node a s in
      let v = step (rule (holder h t.state.rooms t.sort.kind) t.state.at o t.state) in
      node_keeps a s w.0 ▸ rule_keeps (holder h t.state.rooms t.sort.kind) t.state.at o t.state ▸ rule_keeps _ v.at q v
  form_keeps p o (suffix a (behind u)) s w =
      let t = type_node a s in
      node_keeps a s w.0 ▸ rule_keeps (changeable t.sort) s.at (pos_in a) (step t.state) ▸ rule_keeps _ t.state.at o (rule (changeable t.sort) s.at (pos_in a) (step t.state))
  form_keeps p o (two u a b) s w =
      let t = type_node a (sided (left_of u) s) in
      let r = sided (right_of u t.sort.kind) (step t.state) in
      let v = type_node b r in
      node_keeps a (sided (left_of u) s) w.0 ▸ node_keeps b r w.1.1 ▸ infix_keeps t.state.at o s.at (pos_in a) u t.sort v.sort v.state
  form_keeps p o (choose a b c) s w =
      let t = type_node a s in
      let v = type_node b (step t.state) in
      let x = type_node c (step v.state) in
      node_keeps a s w.0 ▸ node_keeps b (step t.state) w.1.1.0 ▸ node_keeps c (step v.state) w.1.1.1.1 ▸ rule_keeps _ t.state.at o x.state
  form_keeps p o (probe (simple u x) a) s w =
      let v = steps 4 (claim u x s.at p s) in
      claim_keeps u x s.at p s ▸ node_keeps a v w.1.1.0.1.1 ▸ rule_keeps _ s.at p (type_node a v).state
  form_keeps p o (probe (select x cs) a) s w =
      let v = steps 3 (claim test x s.at p s) in
      let t = type_cases [] cs v in
      claim_keeps test x s.at p s ▸ cases_keep [] cs v w.1.1.0.1.0 ▸ node_keeps a (step t.state) w.1.1.0.1.1.1 ▸ rule_keeps _ s.at p (type_node a (step t.state)).state

  arguments_keep : (gs : List Given) (es : NodeShapes) (s : State) → HasPlainWords (led_nodes_form es) → Keeps s (type_arguments gs es s).state
  arguments_keep gs no_nodes s w = as_it_was s
  arguments_keep gs (more_nodes a rest) s w =
      let t = type_node a (step s) in
      node_keeps a (step s) w.1.0 ▸ arguments_keep (gs ++ given_at (step s).at (pos_in a) t.sort ∷ []) rest t.state w.1.1

  cases_keep : (vs : List (Option ℤ)) (es : NodeShapes) (s : State) → HasPlainWords (led_nodes_form es) → Keeps s (type_cases vs es s).state
  cases_keep vs no_nodes s w = as_it_was s
  cases_keep vs (more_nodes a rest) s w =
      let t = type_node a (step s) in
      let v = judged_constant (step s).at (pos_in a) t.sort t.state in
      node_keeps a (step s) w.1.0 ▸ rule_keeps (constant_rule t.sort) (step s).at (pos_in a) t.state ▸ cases_keep (vs ++ constants.value t.sort.constant ∷ []) rest v w.1.1

  type_keeps : (y : TypeShape) (s : State) → HasPlainWords (written.type_form y) → Keeps s (type_type y s).state
  type_keeps (type_name p specs stars ls) s w =
      let t = type_specs false specs unspelled s in
      let r = spelled_rule t.spelled in
      specs_keep false specs unspelled s w.0 ▸ rule_keeps r s.at p t.state ▸ lengths_keep [] ls (steps (star_tokens stars) (rule r s.at p t.state)) w.1.1

  pub lengths_keep : (ls : List Length) (l : LengthShapes) (s : State) → HasPlainWords (lengths_form l) → Keeps s (type_lengths ls l s).state
  lengths_keep ls no_lengths s w = as_it_was s
  lengths_keep ls (more_lengths no_node rest) s w = lengths_keep (ls ++ left_out ∷ []) rest (steps 2 s) w.1.1.1
  lengths_keep ls (more_lengths (one_node a) rest) s w =
      let t = type_node a (step s) in
      let v = judged_length (step s).at (pos_in a) t.sort t.state in
      node_keeps a (step s) w.1.0 ▸ rule_keeps (length_rule t.sort) (step s).at (pos_in a) t.state ▸ lengths_keep (ls ++ length_of t.sort ∷ []) rest (step v) w.1.1.1

  pub specs_keep : (alone : Bool) (x : SpecShapes) (a : Spelled) (s : State) → HasPlainWords (specs_form x) → Keeps s (type_specs alone x a s).state
  specs_keep alone no_specs a s w = as_it_was s
  specs_keep alone (more_specs p (word k) rest) a s w =
      let v = demand (static_fits k s.file) 37 s.at p s in
      demand_keeps (static_fits k s.file) 37 s.at p s ▸ specs_keep alone rest (with_word k a) (step v) w.1
  specs_keep alone (more_specs p (struct t ds) rest) a s w = let r = type_struct alone t ds (step s) in struct_keeps alone t ds (step s) w.0.1.1 ▸ specs_keep alone rest (with_tagged r.kind a) r.state w.1
  specs_keep alone (more_specs p (enum t es) rest) a s w = let r = type_enum t es (step s) in enum_keeps t es (step s) w.0.1.1 ▸ specs_keep alone rest (with_tagged r.kind a) r.state w.1

  struct_keeps : (alone : Bool) (t : Option Named) (ds : MaybeDecls) (s : State) → HasPlainWords (members_form ds) → Keeps s (type_struct alone t ds s).state
  struct_keeps alone t no_members s w = opened_keeps alone false t s
  struct_keeps alone t (members ds) s w =
      let o = opened alone true t s in
      let b = step (steps (tag_tokens t) (begun_at o.number o.state)) in
      let l = type_lines ds [] (within b) in
      opened_keeps alone true t s ▸ begun_keeps o.number o.state ▸ lines_keep ds [] (within b) w.1.0 ▸ closed_keeps o.number l.fields l.state (lines_apart ds [] (within b) w.1.0 tt)

  lines_keep : (ds : DeclShapes) (fields : List FieldShape) (s : State) → HasPlainWords (decls_form ds) → Keeps s (type_lines ds fields s).state
  lines_keep no_decls fields s w = as_it_was s
  lines_keep (more_decls (decl p specs names) rest) fields s w =
      let t = type_specs false specs unspelled s in
      let r = spelled_rule t.spelled in
      let v = rule r s.at p t.state in
      let n = type_fields p (kind_at r) names fields v in
      specs_keep false specs unspelled s w.0.0 ▸ rule_keeps r s.at p t.state ▸ fields_keep p (kind_at r) names fields v (led_declarators names w.0.1.0) ▸ lines_keep rest n.fields n.state w.1

  fields_keep : (p : Pos) (k : Option TypeOf) (names : DeclaratorShapes) (fields : List FieldShape) (s : State) → HasPlainWords (led_declarators_form names) → Keeps s (type_fields p k names fields s).state
  fields_keep p k no_declarators fields s w = as_it_was s
  fields_keep p k (more_declarators (declarator stars x (arrays ls) i) rest) fields s w =
      let b = steps (star_tokens stars) s in
      let l = type_lengths [] ls (step b) in
      let t = arrays_of l.counts (pointed stars k) in
      let free = is_free (field_type (text_of x) fields) in
      let v = field_state b.at (name_pos p x) free t l.state in
      lengths_keep [] ls (step b) w.1.0.1.1.0 ▸ field_keeps b.at (name_pos p x) free t l.state ▸ fields_keep p k rest (with_field free (text_of x) t fields) (step v) w.1.1
  fields_keep p k (more_declarators (declarator stars x (function ps) i) rest) fields s w =
      let b = steps (star_tokens stars) s in
      complain_keeps 33 b.at (name_pos p x) (step b) ▸ fields_keep p k rest fields (complain 33 b.at (name_pos p x) (step b)) w.1.1

  enum_keeps : (t : Option Named) (es : MaybeEnumers) (s : State) → HasPlainWords (rows_form es) → Keeps s (type_enum t es s).state
  enum_keeps t no_rows s w = enumeration_keeps false t s
  enum_keeps t (rows es) s w = enumeration_keeps true t s ▸ rows_keep (Some (pos 0)) es (step (steps (tag_tokens t) (enumeration true t s))) (led_enumers es w.1.0)

  rows_keep : (next : Option ℤ) (es : EnumerShapes) (s : State) → HasPlainWords (led_enumers_form es) → Keeps s (rows_types next es s).state
  rows_keep next no_enumers s w = as_it_was s
  rows_keep next (more_enumers x v rest) s w =
      let r = type_value s.at x.pos next v (step s) in
      let d = declare s.at x.pos x.text (entity_of r.value) r.state in
      value_keeps s.at x.pos next v (step s) w.1.1.0 ▸ declared_keeps s.at x.pos x.text (entity_of r.value) (find_here x.text r.state.names) r.state ▸ rows_keep (after r.value) rest (step d) w.1.1.1

  value_keeps : (token : ℕ) (p : Pos) (next : Option ℤ) (v : MaybeNode) (s : State) → HasPlainWords (value_form v) → Keeps s (type_value token p next v s).state
  value_keeps token p next no_node s w = demand_keeps (not (passes next)) 35 token p s
  value_keeps token p next (one_node a) s w = let t = type_node a (step s) in node_keeps a (step s) w.1 ▸ rule_keeps (value_rule t.sort) (step s).at (pos_in a) t.state
