-- In which function a part of a program stands is the same behind it: expressions, and the types that they name.
use Rattle.std.proofs.Common.{◌≡◌, ℕ, ℤ, List, [], ◌∷◌, ◌++◌, length, Option, Some, None, Bool, true, false, refl, ◌∙◌}
use Rattle.std.specs.Prelude.{pos, nat_eq, not, ◌&&◌, if◌then◌else◌}
use Rattle.c_base.specs.declared.place.Pos.{Pos}
use Rattle.c_syntax.specs.declared.text.Text.{Text}
use Rattle.c_syntax.specs.declared.tree.Named.{Named}
use Rattle.c_syntax.specs.Shape.{TypeOf, number, char, str, name, unary, before, size_of, Infix, plain, and, or, assign, comma, Probing, test, NodeShape, node, ExprShape, leaf, paren, call, prefix, size_of_type, cast, suffix, two, choose, probe, index, field, behind, simple, select, NodeShapes, no_nodes, more_nodes, MaybeNode, no_node, one_node, LengthShapes, no_lengths, more_lengths, TypeShape, type_name, SpecShapes, no_specs, more_specs, word, struct, enum, MaybeDecls, no_members, members, MaybeEnumers, no_rows, rows, EnumerShapes, no_enumers, more_enumers, decl, DeclShapes, no_decls, more_decls, declarator, DeclaratorShapes, no_declarators, more_declarators, arrays, function}
use Rattle.c_tables.specs.Tables.{FunctionShape, VariableShape, FieldShape}
use Rattle.c_tree.specs.declared.meaning.Entity.{Entity}
use Rattle.c_tree.specs.declared.meaning.Entity.TheVariants as entity
use Rattle.c_tree.specs.declared.meaning.Tag.{Tag}
use Rattle.c_tree.specs.declared.meaning.Tag.TheVariants as tag
use Rattle.c_type_rules.specs.Verdicts.{fits_type}
use Rattle.c_constants.specs.Probes.{probe_number_of}
use Rattle.c_scopes.specs.Scoping.{named, find_here, find}
use Rattle.c_tables.specs.Builtins.{builtin_name, builtin_result, builtin_params}
use Rattle.c_tree.specs.State.{State, step, steps, complain, demand, counts, is_set, is_clean, field_type, function_number, numbered_or, pushed_function}
use Rattle.c_tables.specs.Rows.{row, text_of, name_pos}
use Rattle.c_tree.specs.Rulings.{Ruled, allowed, unsettled, refused, by, rule, kind_at, of_kind, whole}
use Rattle.c_constants.specs.Constants as constants
use Rattle.c_tree.specs.Sorts.{Sort, pos_in, changeable}
use Rattle.c_tree.specs.Operators.{named_variable, named_parameter, named_entity, called_entity, called, Given, given_at, fit_all, call_of, typed_call, typed_infix, with_literal, left_side, place_rule, holder, constant_rule, seen_of, claimed, claim, hushed, heard, left_of, right_of, sided, entering}
use Rattle.c_tree.specs.Typing.{opening, type_node, type_form, type_arguments, type_cases, type_type, type_lengths, type_specs, type_struct, type_lines, type_fields, type_enum, rows_types, type_value}
use Rattle.c_tree.specs.Parts.{Length, length_rule, value_rule, passes, Spelled, unspelled, with_word, with_tagged, spelled_rule, star_tokens, left_out, length_of, judged_length, judged_constant, known_structure, listed_structure, Opened, opened, begun_at, closed, within, tag_tokens, field_state, is_free, with_field, arrays_of, pointed, declared_at, declare, entity_of, after, enumeration, known_enumeration, listed_enumeration, static_fits}

abbrev pub Keeps : State → State → Type 0
Keeps s t = s.function ≡ t.function

infixl 5 ◌▸◌
pub ◌▸◌ : {a b c : ℕ} → a ≡ b → b ≡ c → a ≡ c
p ▸ q = p ∙ q

-- ---- complaints

pub complain_kept : (n token : ℕ) (p : Pos) (s : State) → Keeps s (complain n token p s)
complain_kept n token p s = refl

pub demand_kept : (b : Bool) (n token : ℕ) (p : Pos) (s : State) → Keeps s (demand b n token p s)
demand_kept true n token p s = refl
demand_kept false n token p s = complain_kept n token p s

pub rule_kept : (r : Ruled) (token : ℕ) (p : Pos) (s : State) → Keeps s (rule r token p s)
rule_kept (allowed t) token p s = refl
rule_kept unsettled token p s = refl
rule_kept (refused n) token p s = complain_kept n token p s

-- ---- names, calls and strings

variable_kept : (p : Pos) (n : ℕ) (v : Option VariableShape) (s : State) → Keeps s (named_variable p n v s).state
variable_kept p n None s = complain_kept 30 s.at p s
variable_kept p n (Some v) s = refl

parameter_kept : (p : Pos) (k : Option TypeOf) (s : State) → Keeps s (named_parameter p k s).state
parameter_kept p None s = complain_kept 30 s.at p s
parameter_kept p (Some t) s = refl

entity_kept : (p : Pos) (e : Option Entity) (s : State) → Keeps s (named_entity p e s).state
entity_kept p (Some (entity.Variable n)) s = variable_kept p n (row s.tables.variables n) s
entity_kept p (Some (entity.Parameter n)) s = parameter_kept p (row s.params n) s
entity_kept p (Some (entity.Constant v)) s = refl
entity_kept p (Some entity.Unknown) s = refl
entity_kept p (Some (entity.Function n)) s = complain_kept 30 s.at p s
entity_kept p (Some (entity.Builtin b)) s = complain_kept 30 s.at p s
entity_kept p None s = complain_kept 30 s.at p s

pub mention_kept : (x : Text) (k : TypeOf) (ks : List TypeOf) (n : Option ℕ) (s : State) → Keeps s (numbered_or n s (pushed_function x k ks s)).state
mention_kept x k ks (Some n) s = refl
mention_kept x k ks None s = refl

called_kept : (p : Pos) (e : Option Entity) (s : State) → Keeps s (called_entity p e s).state
called_kept p (Some (entity.Function n)) s = demand_kept (counts s.known n) 40 s.at p s
called_kept p (Some (entity.Builtin b)) s = mention_kept (builtin_name b) (builtin_result b) (builtin_params b) (function_number (builtin_name b) (builtin_result b) (builtin_params b) s.tables.functions) s
called_kept p (Some entity.Unknown) s = refl
called_kept p (Some (entity.Variable n)) s = complain_kept 30 s.at p s
called_kept p (Some (entity.Parameter n)) s = complain_kept 30 s.at p s
called_kept p (Some (entity.Constant v)) s = complain_kept 30 s.at p s
called_kept p None s = complain_kept 30 s.at p s

fit_kept : (ts : List TypeOf) (gs : List Given) (s : State) → Keeps s (fit_all ts gs s)
fit_kept [] gs s = refl
fit_kept (t ∷ ts) [] s = refl
fit_kept (t ∷ ts) (g ∷ gs) s = let r = by 33 (fits_type (Some t) g.kind g.null) in rule_kept r g.token g.pos s ▸ fit_kept ts gs (rule r g.token g.pos s)

pick_kept : (b : Bool) (s t u : State) → Keeps s t → Keeps s u → Keeps s (if b then t else u)
pick_kept true s t u p q = p
pick_kept false s t u p q = q

call_kept : (p : Pos) (token : ℕ) (clean : Bool) (n : ℕ) (f : Option FunctionShape) (gs : List Given) (s : State) → Keeps s (call_of p token clean n f gs s).state
call_kept p token clean n None gs s = refl
call_kept p token clean n (Some f) gs s = pick_kept (clean && not (nat_eq (length f.params) (length gs))) s _ _ (complain_kept 34 token p s) (fit_kept f.params gs s)

pub typed_call_kept : (p : Pos) (token : ℕ) (clean : Bool) (f : Option ℕ) (gs : List Given) (s : State) → Keeps s (typed_call p token clean f gs s).state
typed_call_kept p token clean None gs s = refl
typed_call_kept p token clean (Some n) gs s = call_kept p token clean n (row s.tables.functions n) gs s

literal_kept : (b : Bool) (x : Text) (s : State) → Keeps s (if b then s else record s { tables = record s.tables { literals = s.tables.literals ++ x ∷ [] } })
literal_kept true x s = refl
literal_kept false x s = refl

pub infix_kept : (token : ℕ) (o : Pos) (head : ℕ) (p : Pos) (u : Infix) (a b : Sort) (s : State) → Keeps s (typed_infix token o head p u a b s).state
infix_kept token o head p (plain u) a b s = rule_kept _ token o s
infix_kept token o head p and a b s = rule_kept _ token o s
infix_kept token o head p or a b s = rule_kept _ token o s
infix_kept token o head p (assign u) a b s = rule_kept (left_side a b) head p s ▸ rule_kept _ token o (rule (left_side a b) head p s)
infix_kept token o head p comma a b s = refl

claimed_kept : (u : Probing) (x : Text) (token : ℕ) (p : Pos) (n m : Option ℕ) (s : State) → Keeps s (claimed u x token p n m s)
claimed_kept u x token p (Some n) None s = refl
claimed_kept u x token p (Some n) (Some m) s = complain_kept 37 token p s
claimed_kept u x token p None m s = complain_kept 37 token p s

pub claim_kept : (u : Probing) (x : Text) (token : ℕ) (p : Pos) (s : State) → Keeps s (claim u x token p s)
claim_kept u x token p s = claimed_kept u x token p (probe_number_of x) (named x (seen_of u s.seen)) s

-- ---- tags, fields and enumerators

known_kept : (p : Pos) (x : Text) (t : Option Tag) (s : State) → Keeps s (known_structure p x t s).state
known_kept p x None s = refl
known_kept p x (Some (tag.Structure n)) s = refl
known_kept p x (Some tag.Enumeration) s = complain_kept 31 s.at p s

pick_opened : (b : Bool) (s : State) (x y : Opened) → Keeps s x.state → Keeps s y.state → Keeps s (if b then x else y).state
pick_opened true s x y p q = p
pick_opened false s x y p q = q

listed_kept : (p : Pos) (x : Text) (t : Option Tag) (s : State) → Keeps s (listed_structure p x t s).state
listed_kept p x None s = refl
listed_kept p x (Some (tag.Structure n)) s = pick_opened (is_set (row s.begun n)) s _ (record { number = Some n; state = s }) (complain_kept 31 s.at p s) (refl)
listed_kept p x (Some tag.Enumeration) s = complain_kept 31 s.at p s

pub opened_kept : (alone list : Bool) (x : Option Named) (s : State) → Keeps s (opened alone list x s).state
opened_kept alone true None s = refl
opened_kept alone true (Some x) s = listed_kept x.pos x.text (find_here x.text s.tags) s
opened_kept alone false None s = refl
opened_kept alone false (Some x) s = known_kept x.pos x.text (if alone then find_here x.text s.tags else find x.text s.tags) s

pub begun_kept : (n : Option ℕ) (s : State) → Keeps s (begun_at n s)
begun_kept None s = refl
begun_kept (Some n) s = refl

pub closed_kept : (n : Option ℕ) (fields : List FieldShape) (s : State) → Keeps s (closed n fields s)
closed_kept None fields s = refl
closed_kept (Some n) fields s = refl

pub field_kept : (token : ℕ) (p : Pos) (free : Bool) (k : Option TypeOf) (s : State) → Keeps s (field_state token p free k s)
field_kept token p free k s = demand_kept free 31 token p s ▸ rule_kept (of_kind k (whole s.rooms)) token p (demand free 31 token p s)

pub declared_kept : (token : ℕ) (p : Pos) (x : Text) (e : Entity) (o : Option Entity) (s : State) → Keeps s (declared_at token p x e o s)
declared_kept token p x e None s = refl
declared_kept token p x e (Some other) s = complain_kept 31 token p s

listed_enum_kept : (p : Pos) (x : Text) (t : Option Tag) (s : State) → Keeps s (listed_enumeration p x t s)
listed_enum_kept p x None s = refl
listed_enum_kept p x (Some t) s = complain_kept 31 s.at p s

known_enum_kept : (p : Pos) (t : Option Tag) (s : State) → Keeps s (known_enumeration p t s)
known_enum_kept p (Some tag.Enumeration) s = refl
known_enum_kept p (Some (tag.Structure n)) s = complain_kept 31 s.at p s
known_enum_kept p None s = complain_kept 30 s.at p s

pub enumeration_kept : (list : Bool) (x : Option Named) (s : State) → Keeps s (enumeration list x s)
enumeration_kept true None s = refl
enumeration_kept false None s = refl
enumeration_kept true (Some x) s = listed_enum_kept x.pos x.text (find_here x.text s.tags) s
enumeration_kept false (Some x) s = known_enum_kept x.pos (find x.text s.tags) s

-- ---- expressions and types

mutual
  pub node_kept : (a : NodeShape) (s : State) → Keeps s (type_node a s).state
  node_kept (node p o n f) s = form_kept p o f (entering f s)

  pub form_kept : (p o : Pos) (f : ExprShape) (s : State) → Keeps s (type_form p o f s).state
  form_kept p o (leaf (number t)) s = demand_kept _ 33 s.at p s
  form_kept p o (leaf (char c)) s = refl
  form_kept p o (leaf (str t)) s = literal_kept s.quiet t s ▸ rule_kept _ s.at p (with_literal t s)
  form_kept p o (leaf (name x)) s = entity_kept p (find x s.names) s
  form_kept p o (paren a) s = node_kept a (step s)
  form_kept p o (call x args) s =
      let c = called p x s in
      let t = type_arguments [] args (steps (opening args) c.state) in
      called_kept p (find x s.names) s ▸ arguments_kept [] args (steps (opening args) c.state) ▸ typed_call_kept p s.at (is_clean c.state t.state) c.function t.given t.state
  form_kept p o (prefix (unary u) a) s =
      let t = type_node a (step s) in
      node_kept a (step s) ▸ rule_kept (place_rule u t.sort) (step s).at (pos_in a) t.state ▸ rule_kept _ s.at o (rule (place_rule u t.sort) (step s).at (pos_in a) t.state)
  form_kept p o (prefix (before u) a) s =
      let t = type_node a (step s) in
      node_kept a (step s) ▸ rule_kept (changeable t.sort) (step s).at (pos_in a) t.state ▸ rule_kept _ s.at o (rule (changeable t.sort) (step s).at (pos_in a) t.state)
  form_kept p o (prefix size_of a) s =
      let t = type_node a (hushed (step s)) in
      node_kept a (hushed (step s)) ▸ rule_kept _ s.at o (heard s.quiet t.state)
  form_kept p o (size_of_type y) s =
      let t = type_type y (steps 2 s) in
      type_kept y (steps 2 s) ▸ rule_kept _ s.at o (step t.state)
  form_kept p o (cast y a) s =
      let k = type_type y (step s) in
      let t = type_node a (step k.state) in
      type_kept y (step s) ▸ node_kept a (step k.state) ▸ rule_kept _ s.at o t.state
  form_kept p o (suffix a (index b)) s =
      let t = type_node a s in
      let v = type_node b (step t.state) in
      node_kept a s ▸ node_kept b (step t.state) ▸ rule_kept _ t.state.at o v.state
  form_kept p o (suffix a (field h x q)) s =
      let t = type_node a s in
      let v = step (rule (holder h t.state.rooms t.sort.kind) t.state.at o t.state) in
      node_kept a s ▸ rule_kept (holder h t.state.rooms t.sort.kind) t.state.at o t.state ▸ rule_kept _ v.at q v
  form_kept p o (suffix a (behind u)) s =
      let t = type_node a s in
      node_kept a s ▸ rule_kept (changeable t.sort) s.at (pos_in a) (step t.state) ▸ rule_kept _ t.state.at o (rule (changeable t.sort) s.at (pos_in a) (step t.state))
  form_kept p o (two u a b) s =
      let t = type_node a (sided (left_of u) s) in
      let r = sided (right_of u t.sort.kind) (step t.state) in
      let v = type_node b r in
      node_kept a (sided (left_of u) s) ▸ node_kept b r ▸ infix_kept t.state.at o s.at (pos_in a) u t.sort v.sort v.state
  form_kept p o (choose a b c) s =
      let t = type_node a s in
      let v = type_node b (step t.state) in
      let w = type_node c (step v.state) in
      node_kept a s ▸ node_kept b (step t.state) ▸ node_kept c (step v.state) ▸ rule_kept _ t.state.at o w.state
  form_kept p o (probe (simple u x) a) s =
      let v = steps 4 (claim u x s.at p s) in
      claim_kept u x s.at p s ▸ node_kept a v ▸ rule_kept _ s.at p (type_node a v).state
  form_kept p o (probe (select x cs) a) s =
      let v = steps 3 (claim test x s.at p s) in
      let t = type_cases [] cs v in
      claim_kept test x s.at p s ▸ cases_kept [] cs v ▸ node_kept a (step t.state) ▸ rule_kept _ s.at p (type_node a (step t.state)).state

  pub arguments_kept : (gs : List Given) (es : NodeShapes) (s : State) → Keeps s (type_arguments gs es s).state
  arguments_kept gs no_nodes s = refl
  arguments_kept gs (more_nodes a rest) s =
      let t = type_node a (step s) in
      node_kept a (step s) ▸ arguments_kept (gs ++ given_at (step s).at (pos_in a) t.sort ∷ []) rest t.state

  pub cases_kept : (vs : List (Option ℤ)) (es : NodeShapes) (s : State) → Keeps s (type_cases vs es s).state
  cases_kept vs no_nodes s = refl
  cases_kept vs (more_nodes a rest) s =
      let t = type_node a (step s) in
      let v = judged_constant (step s).at (pos_in a) t.sort t.state in
      node_kept a (step s) ▸ rule_kept (constant_rule t.sort) (step s).at (pos_in a) t.state ▸ cases_kept (vs ++ constants.value t.sort.constant ∷ []) rest v

  pub type_kept : (y : TypeShape) (s : State) → Keeps s (type_type y s).state
  type_kept (type_name p specs stars ls) s =
      let t = type_specs false specs unspelled s in
      let r = spelled_rule t.spelled in
      specs_kept false specs unspelled s ▸ rule_kept r s.at p t.state ▸ lengths_kept [] ls (steps (star_tokens stars) (rule r s.at p t.state))

  pub lengths_kept : (ls : List Length) (l : LengthShapes) (s : State) → Keeps s (type_lengths ls l s).state
  lengths_kept ls no_lengths s = refl
  lengths_kept ls (more_lengths no_node rest) s = lengths_kept (ls ++ left_out ∷ []) rest (steps 2 s)
  lengths_kept ls (more_lengths (one_node a) rest) s =
      let t = type_node a (step s) in
      let v = judged_length (step s).at (pos_in a) t.sort t.state in
      node_kept a (step s) ▸ rule_kept (length_rule t.sort) (step s).at (pos_in a) t.state ▸ lengths_kept (ls ++ length_of t.sort ∷ []) rest (step v)

  pub specs_kept : (alone : Bool) (x : SpecShapes) (a : Spelled) (s : State) → Keeps s (type_specs alone x a s).state
  specs_kept alone no_specs a s = refl
  specs_kept alone (more_specs p (word k) rest) a s =
      let v = demand (static_fits k s.file) 37 s.at p s in
      demand_kept (static_fits k s.file) 37 s.at p s ▸ specs_kept alone rest (with_word k a) (step v)
  specs_kept alone (more_specs p (struct t ds) rest) a s = let r = type_struct alone t ds (step s) in struct_kept alone t ds (step s) ▸ specs_kept alone rest (with_tagged r.kind a) r.state
  specs_kept alone (more_specs p (enum t es) rest) a s = let r = type_enum t es (step s) in enum_kept t es (step s) ▸ specs_kept alone rest (with_tagged r.kind a) r.state

  struct_kept : (alone : Bool) (t : Option Named) (ds : MaybeDecls) (s : State) → Keeps s (type_struct alone t ds s).state
  struct_kept alone t no_members s = opened_kept alone false t s
  struct_kept alone t (members ds) s =
      let o = opened alone true t s in
      let b = step (steps (tag_tokens t) (begun_at o.number o.state)) in
      let r = type_lines ds [] (within b) in
      opened_kept alone true t s ▸ begun_kept o.number o.state ▸ lines_kept ds [] (within b) ▸ closed_kept o.number r.fields r.state

  pub lines_kept : (ds : DeclShapes) (fields : List FieldShape) (s : State) → Keeps s (type_lines ds fields s).state
  lines_kept no_decls fields s = refl
  lines_kept (more_decls (decl p specs names) rest) fields s =
      let t = type_specs false specs unspelled s in
      let r = spelled_rule t.spelled in
      let v = rule r s.at p t.state in
      let n = type_fields p (kind_at r) names fields v in
      specs_kept false specs unspelled s ▸ rule_kept r s.at p t.state ▸ fields_kept p (kind_at r) names fields v ▸ lines_kept rest n.fields n.state

  pub fields_kept : (p : Pos) (k : Option TypeOf) (names : DeclaratorShapes) (fields : List FieldShape) (s : State) → Keeps s (type_fields p k names fields s).state
  fields_kept p k no_declarators fields s = refl
  fields_kept p k (more_declarators (declarator stars x (arrays ls) i) rest) fields s =
      let b = steps (star_tokens stars) s in
      let l = type_lengths [] ls (step b) in
      let t = arrays_of l.counts (pointed stars k) in
      let free = is_free (field_type (text_of x) fields) in
      let v = field_state b.at (name_pos p x) free t l.state in
      lengths_kept [] ls (step b) ▸ field_kept b.at (name_pos p x) free t l.state ▸ fields_kept p k rest (with_field free (text_of x) t fields) (step v)
  fields_kept p k (more_declarators (declarator stars x (function ps) i) rest) fields s =
      let b = steps (star_tokens stars) s in
      complain_kept 33 b.at (name_pos p x) (step b) ▸ fields_kept p k rest fields (complain 33 b.at (name_pos p x) (step b))

  enum_kept : (t : Option Named) (es : MaybeEnumers) (s : State) → Keeps s (type_enum t es s).state
  enum_kept t no_rows s = enumeration_kept false t s
  enum_kept t (rows es) s = enumeration_kept true t s ▸ rows_kept (Some (pos 0)) es (step (steps (tag_tokens t) (enumeration true t s)))

  pub rows_kept : (next : Option ℤ) (es : EnumerShapes) (s : State) → Keeps s (rows_types next es s).state
  rows_kept next no_enumers s = refl
  rows_kept next (more_enumers x v rest) s =
      let r = type_value s.at x.pos next v (step s) in
      let d = declare s.at x.pos x.text (entity_of r.value) r.state in
      value_kept s.at x.pos next v (step s) ▸ declared_kept s.at x.pos x.text (entity_of r.value) (find_here x.text r.state.names) r.state ▸ rows_kept (after r.value) rest (step d)

  value_kept : (token : ℕ) (p : Pos) (next : Option ℤ) (v : MaybeNode) (s : State) → Keeps s (type_value token p next v s).state
  value_kept token p next no_node s = demand_kept (not (passes next)) 35 token p s
  value_kept token p next (one_node a) s = let t = type_node a (step s) in node_kept a (step s) ▸ rule_kept (value_rule t.sort) (step s).at (pos_in a) t.state
