-- In a typed expression each name of a variable is the variable's own.
use Rattle.std.proofs.Common.{◌≡◌, ℕ, ℤ, List, [], ◌∷◌, ◌++◌, length, Option, Some, None, Bool, true, false}
use Rattle.std.specs.Prelude.{pos, nat_eq, not, ◌&&◌, if◌then◌else◌}
use Rattle.c_base.specs.declared.place.Pos.{Pos}
use Rattle.c_syntax.specs.declared.text.Text.{Text}
use Rattle.c_syntax.specs.declared.tree.Named.{Named}
use Rattle.c_syntax.specs.Shape.{TypeOf, number, char, str, name, unary, before, size_of, Infix, plain, and, or, assign, comma, Probing, test, NodeShape, node, ExprShape, leaf, paren, call, prefix, size_of_type, cast, suffix, two, choose, probe, index, field, behind, simple, select, NodeShapes, no_nodes, more_nodes, MaybeNode, no_node, one_node, LengthShapes, no_lengths, more_lengths, TypeShape, type_name, SpecShapes, no_specs, more_specs, word, struct, enum, MaybeDecls, no_members, members, MaybeEnumers, no_rows, rows, EnumerShapes, no_enumers, more_enumers, decl, DeclShapes, no_decls, more_decls, declarator, DeclaratorShapes, no_declarators, more_declarators, arrays, function}
use Rattle.c_tables.specs.Tables.{FunctionShape, VariableShape, FieldShape}
use Rattle.c_tree.specs.declared.meaning.Entity.{Entity}
use Rattle.c_tree.specs.declared.meaning.Entity.TheVariants as entity
use Rattle.c_tree.specs.declared.meaning.Tag.{Tag}
use Rattle.c_tree.specs.declared.meaning.Tag.TheVariants as tag
use Rattle.c_type_rules.specs.Verdicts.{fits_type}
use Rattle.c_constants.specs.Probes.{probe_number_of}
use Rattle.c_scopes.specs.Scoping.{named, find_here, find}
use Rattle.c_tables.specs.Builtins.{builtin_name, builtin_result, builtin_params}
use Rattle.c_tree.specs.State.{State, is_set, step, steps, complain, demand, counts, is_clean, field_type, function_number, numbered_or, pushed_function}
use Rattle.c_tables.specs.Rows.{row, text_of, name_pos}
use Rattle.c_tree.specs.Rulings.{Ruled, allowed, unsettled, refused, by, rule, kind_at, of_kind, whole}
use Rattle.c_constants.specs.Constants as constants
use Rattle.c_tree.specs.Sorts.{Sort, value_note, note_of, cleared, pos_in, changeable}
use Rattle.c_tree.specs.Operators.{named_variable, named_parameter, named_entity, typed_name, called_entity, called, Given, given_at, fit_all, call_of, typed_call, typed_infix, with_literal, left_side, place_rule, holder, constant_rule, seen_of, claimed, claim, hushed, heard, left_of, right_of, sided, entering}
use Rattle.c_tree.specs.Typing.{opening, type_node, type_form, type_arguments, type_cases, type_type, type_lengths, type_specs, type_struct, type_lines, type_fields, type_enum, rows_types, type_value}
use Rattle.c_tree.specs.Parts.{Length, length_rule, value_rule, passes, Spelled, unspelled, with_word, with_tagged, spelled_rule, star_tokens, left_out, length_of, judged_length, judged_constant, opened, begun_at, within, tag_tokens, field_state, is_free, with_field, arrays_of, pointed, declared_at, declare, entity_of, after, enumeration, known_enumeration, listed_enumeration, static_fits, closed, known_structure, listed_structure, twice, Opened}
use Rattle.c_constants.specs.declared.constants.Constant.{Constant}
use Rattle.c_constants.specs.declared.constants.Constant.TheVariants as constant
use Rattle.flow_owned.specs.Own.{name_in, IsOwn, IsOwnNode, HasOwnNames, AreOwnNodes}
use Rattle.flow_owned.proofs.OwnStates.{Names, Begins, begins_on, Found, all_found, entry_later, Goes, Keeps, as_it_was, ◌▸◌, ◌◂◌, both_own, forget, naming_keeps}

-- ---- complaints

pub complain_keeps : (n token : ℕ) (p : Pos) (s : State) → Keeps s (complain n token p s)
complain_keeps n token p s = as_it_was s

pub demand_keeps : (b : Bool) (n token : ℕ) (p : Pos) (s : State) → Keeps s (demand b n token p s)
demand_keeps true n token p s = as_it_was s
demand_keeps false n token p s = complain_keeps n token p s

pub rule_keeps : (r : Ruled) (token : ℕ) (p : Pos) (s : State) → Keeps s (rule r token p s)
rule_keeps (allowed t) token p s = as_it_was s
rule_keeps unsettled token p s = as_it_was s
rule_keeps (refused n) token p s = complain_keeps n token p s

-- ---- names, calls and strings

variable_keeps : (p : Pos) (n : ℕ) (v : Option VariableShape) (s : State) → Keeps s (named_variable p n v s).state
variable_keeps p n None s = complain_keeps 30 s.at p s
variable_keeps p n (Some v) s = as_it_was s

parameter_keeps : (p : Pos) (k : Option TypeOf) (s : State) → Keeps s (named_parameter p k s).state
parameter_keeps p None s = complain_keeps 30 s.at p s
parameter_keeps p (Some t) s = as_it_was s

entity_keeps : (p : Pos) (e : Option Entity) (s : State) → Keeps s (named_entity p e s).state
entity_keeps p (Some (entity.Variable n)) s = variable_keeps p n (row s.tables.variables n) s
entity_keeps p (Some (entity.Parameter n)) s = parameter_keeps p (row s.params n) s
entity_keeps p (Some (entity.Constant v)) s = as_it_was s
entity_keeps p (Some entity.Unknown) s = as_it_was s
entity_keeps p (Some (entity.Function n)) s = complain_keeps 30 s.at p s
entity_keeps p (Some (entity.Builtin b)) s = complain_keeps 30 s.at p s
entity_keeps p None s = complain_keeps 30 s.at p s

pub mention_keeps : (x : Text) (k : TypeOf) (ks : List TypeOf) (n : Option ℕ) (s : State) → Keeps s (numbered_or n s (pushed_function x k ks s)).state
mention_keeps x k ks (Some n) s = as_it_was s
mention_keeps x k ks None s = as_it_was s

called_keeps : (p : Pos) (e : Option Entity) (s : State) → Keeps s (called_entity p e s).state
called_keeps p (Some (entity.Function n)) s = demand_keeps (counts s.known n) 40 s.at p s
called_keeps p (Some (entity.Builtin b)) s = mention_keeps (builtin_name b) (builtin_result b) (builtin_params b) (function_number (builtin_name b) (builtin_result b) (builtin_params b) s.tables.functions) s
called_keeps p (Some entity.Unknown) s = as_it_was s
called_keeps p (Some (entity.Variable n)) s = complain_keeps 30 s.at p s
called_keeps p (Some (entity.Parameter n)) s = complain_keeps 30 s.at p s
called_keeps p (Some (entity.Constant v)) s = complain_keeps 30 s.at p s
called_keeps p None s = complain_keeps 30 s.at p s

fit_keeps : (ts : List TypeOf) (gs : List Given) (s : State) → Keeps s (fit_all ts gs s)
fit_keeps [] gs s = as_it_was s
fit_keeps (t ∷ ts) [] s = as_it_was s
fit_keeps (t ∷ ts) (g ∷ gs) s = let r = by 33 (fits_type (Some t) g.kind g.null) in rule_keeps r g.token g.pos s ▸ fit_keeps ts gs (rule r g.token g.pos s)

pick_keeps : (b : Bool) (s t u : State) → Keeps s t → Keeps s u → Keeps s (if b then t else u)
pick_keeps true s t u p q = p
pick_keeps false s t u p q = q

call_keeps : (p : Pos) (token : ℕ) (clean : Bool) (n : ℕ) (f : Option FunctionShape) (gs : List Given) (s : State) → Keeps s (call_of p token clean n f gs s).state
call_keeps p token clean n None gs s = as_it_was s
call_keeps p token clean n (Some f) gs s = pick_keeps (clean && not (nat_eq (length f.params) (length gs))) s _ _ (complain_keeps 34 token p s) (fit_keeps f.params gs s)

pub typed_call_keeps : (p : Pos) (token : ℕ) (clean : Bool) (f : Option ℕ) (gs : List Given) (s : State) → Keeps s (typed_call p token clean f gs s).state
typed_call_keeps p token clean None gs s = as_it_was s
typed_call_keeps p token clean (Some n) gs s = call_keeps p token clean n (row s.tables.functions n) gs s

literal_keeps : (b : Bool) (x : Text) (s : State) → Keeps s (if b then s else record s { tables = record s.tables { literals = s.tables.literals ++ x ∷ [] } })
literal_keeps true x s = as_it_was s
literal_keeps false x s = as_it_was s

pub infix_keeps : (token : ℕ) (o : Pos) (head : ℕ) (p : Pos) (u : Infix) (a b : Sort) (s : State) → Keeps s (typed_infix token o head p u a b s).state
infix_keeps token o head p (plain u) a b s = rule_keeps _ token o s
infix_keeps token o head p and a b s = rule_keeps _ token o s
infix_keeps token o head p or a b s = rule_keeps _ token o s
infix_keeps token o head p (assign u) a b s = rule_keeps (left_side a b) head p s ▸ rule_keeps _ token o (rule (left_side a b) head p s)
infix_keeps token o head p comma a b s = as_it_was s

claimed_keeps : (u : Probing) (x : Text) (token : ℕ) (p : Pos) (n m : Option ℕ) (s : State) → Keeps s (claimed u x token p n m s)
claimed_keeps u x token p (Some n) None s = as_it_was s
claimed_keeps u x token p (Some n) (Some m) s = complain_keeps 37 token p s
claimed_keeps u x token p None m s = complain_keeps 37 token p s

pub claim_keeps : (u : Probing) (x : Text) (token : ℕ) (p : Pos) (s : State) → Keeps s (claim u x token p s)
claim_keeps u x token p s = claimed_keeps u x token p (probe_number_of x) (named x (seen_of u s.seen)) s

-- ---- the note of a name

plain_note : (R : List VariableShape) (x : Text) (k : Option TypeOf) (c : Constant) → IsOwn R (note_of k c None false) x
plain_note R x None c = tt
plain_note R x (Some t) c = tt

value_own : (R : List VariableShape) (x : Text) (t : TypeOf) (c : Constant) → IsOwn R (value_note t c) x
value_own R x t (constant.Known k v) = tt
value_own R x t constant.No = tt
value_own R x t (constant.Faulty k) = tt
value_own R x t constant.Variable = tt
value_own R x t constant.Part = tt
value_own R x t constant.Address = tt
value_own R x t constant.Literal = tt

known_note : (R : List VariableShape) (x : Text) (k : Option TypeOf) (c : Constant) → IsOwn R (note_of k c None true) x
known_note R x None c = tt
known_note R x (Some t) c = value_own R x t c

number_note : (R : List VariableShape) (x : Text) (k : Option TypeOf) (c : Constant) (n : ℕ) → name_in (row R n) ≡ x → IsOwn R (note_of k c (Some n) false) x
number_note R x None c n e = tt
number_note R x (Some t) c n e = e

variable_own : (R : List VariableShape) (x : Text) (p : Pos) (n : ℕ) (v : Option VariableShape) (s : State) (k : Option TypeOf) → name_in (row R n) ≡ x → (let t = (named_variable p n v s).typing in IsOwn R (note_of k t.sort.constant t.names t.valued) x)
variable_own R x p n None s k e = plain_note R x k _
variable_own R x p n (Some v) s k e = number_note R x k _ n e

parameter_own : (R : List VariableShape) (x : Text) (p : Pos) (y : Option TypeOf) (s : State) (k : Option TypeOf) → (let t = (named_parameter p y s).typing in IsOwn R (note_of k t.sort.constant t.names t.valued) x)
parameter_own R x p None s k = plain_note R x k _
parameter_own R x p (Some y) s k = plain_note R x k _

entity_own : (R : List VariableShape) (x : Text) (p : Pos) (e : Option Entity) (s : State) (k : Option TypeOf) → Begins s.tables.variables R → Found s.tables.variables x e → (let t = (named_entity p e s).typing in IsOwn R (note_of k t.sort.constant t.names t.valued) x)
entity_own R x p (Some (entity.Variable n)) s k b h = variable_own R x p n (row s.tables.variables n) s k (entry_later s.tables.variables R x n b h)
entity_own R x p (Some (entity.Parameter n)) s k b h = parameter_own R x p (row s.params n) s k
entity_own R x p (Some (entity.Constant v)) s k b h = known_note R x k _
entity_own R x p (Some entity.Unknown) s k b h = plain_note R x k _
entity_own R x p (Some (entity.Function n)) s k b h = plain_note R x k _
entity_own R x p (Some (entity.Builtin u)) s k b h = plain_note R x k _
entity_own R x p None s k b h = plain_note R x k _

name_own : (p : Pos) (x : Text) (s : State) (k : Option TypeOf) → (let t = typed_name p x s in Goes s t.state (λ R. IsOwn R (note_of k t.typing.sort.constant t.typing.names t.typing.valued) x))
name_own p x s k h =
    let e = find x s.names in
    let w = entity_keeps p e s h in
    record { good = w.good; more = w.more; own = λ R b. entity_own R x p e s k (begins_on s.tables.variables (named_entity p e s).state.tables.variables R w.more b) (all_found s.tables.variables x s.names h) }

-- ---- tags, fields and enumerators

pub field_keeps : (token : ℕ) (p : Pos) (free : Bool) (k : Option TypeOf) (s : State) → Keeps s (field_state token p free k s)
field_keeps token p free k s = demand_keeps free 31 token p s ▸ rule_keeps (of_kind k (whole s.rooms)) token p (demand free 31 token p s)

declared_keeps : (token : ℕ) (p : Pos) (x : Text) (e : Entity) (o : Option Entity) (s : State) → Names s.tables.variables x e → Keeps s (declared_at token p x e o s)
declared_keeps token p x e None s n = naming_keeps x e s n
declared_keeps token p x e (Some other) s n = complain_keeps 31 token p s

listing_keeps : (p : Pos) (x : Text) (t : Option Tag) (s : State) → Keeps s (listed_enumeration p x t s)
listing_keeps p x None s = as_it_was s
listing_keeps p x (Some t) s = complain_keeps 31 s.at p s

begun_keeps : (n : Option ℕ) (s : State) → Keeps s (begun_at n s)
begun_keeps None s = as_it_was s
begun_keeps (Some n) s = as_it_was s

closed_keeps : (n : Option ℕ) (fields : List FieldShape) (s : State) → Keeps s (closed n fields s)
closed_keeps None fields s = as_it_was s
closed_keeps (Some n) fields s = as_it_was s

known_structure_keeps : (p : Pos) (x : Text) (t : Option Tag) (s : State) → Keeps s (known_structure p x t s).state
known_structure_keeps p x None s = as_it_was s
known_structure_keeps p x (Some (tag.Structure n)) s = as_it_was s
known_structure_keeps p x (Some tag.Enumeration) s = as_it_was s

either_keeps : (b : Bool) (s : State) (y z : Opened) → Keeps s y.state → Keeps s z.state → Keeps s (if b then y else z).state
either_keeps true s y z h g = h
either_keeps false s y z h g = g

listed_structure_keeps : (p : Pos) (x : Text) (t : Option Tag) (s : State) → Keeps s (listed_structure p x t s).state
listed_structure_keeps p x None s = as_it_was s
listed_structure_keeps p x (Some (tag.Structure n)) s = either_keeps (is_set (row s.begun n)) s (twice p s) (record { number = Some n; state = s }) (as_it_was s) (as_it_was s)
listed_structure_keeps p x (Some tag.Enumeration) s = as_it_was s

opened_keeps : (alone list : Bool) (x : Option Named) (s : State) → Keeps s (opened alone list x s).state
opened_keeps alone true None s = as_it_was s
opened_keeps alone true (Some x) s = listed_structure_keeps x.pos x.text (find_here x.text s.tags) s
opened_keeps alone false None s = as_it_was s
opened_keeps alone false (Some x) s = known_structure_keeps x.pos x.text (if alone then find_here x.text s.tags else find x.text s.tags) s

entity_names : (R : List VariableShape) (x : Text) (v : Option ℤ) → Names R x (entity_of v)
entity_names R x None = tt
entity_names R x (Some v) = tt

known_enum_keeps : (p : Pos) (t : Option Tag) (s : State) → Keeps s (known_enumeration p t s)
known_enum_keeps p (Some tag.Enumeration) s = as_it_was s
known_enum_keeps p (Some (tag.Structure n)) s = complain_keeps 31 s.at p s
known_enum_keeps p None s = complain_keeps 30 s.at p s

pub enumeration_keeps : (list : Bool) (x : Option Named) (s : State) → Keeps s (enumeration list x s)
enumeration_keeps true None s = as_it_was s
enumeration_keeps false None s = as_it_was s
enumeration_keeps true (Some x) s = listing_keeps x.pos x.text (find_here x.text s.tags) s
enumeration_keeps false (Some x) s = known_enum_keeps x.pos (find x.text s.tags) s

-- ---- expressions and types

mutual
  pub node_own : (a : NodeShape) (s : State) → Goes s (type_node a s).state (λ R. IsOwnNode R (type_node a s).node)
  node_own (node p o n f) s = let t = type_form p o f (entering f s) in form_own p o f (entering f s) (cleared (is_clean s t.state) t.typing.sort).kind

  form_own : (p o : Pos) (f : ExprShape) (s : State) (k : Option TypeOf) → (let t = type_form p o f s in Goes s t.state (λ R. HasOwnNames R (note_of k t.typing.sort.constant t.typing.names t.typing.valued) t.form))
  form_own p o (leaf (number t)) s k = demand_keeps _ 33 s.at p s
  form_own p o (leaf (char c)) s k = as_it_was s
  form_own p o (leaf (str t)) s k = literal_keeps s.quiet t s ▸ rule_keeps _ s.at p (with_literal t s)
  form_own p o (leaf (name x)) s k = name_own p x s k
  form_own p o (paren a) s k = node_own a (step s)
  form_own p o (call x args) s k =
      let c = called p x s in
      let t = type_arguments [] args (steps (opening args) c.state) in
      called_keeps p (find x s.names) s ▸ arguments_own [] args (steps (opening args) c.state) ◂ typed_call_keeps p s.at (is_clean c.state t.state) c.function t.given t.state
  form_own p o (prefix (unary u) a) s k =
      let t = type_node a (step s) in
      node_own a (step s) ◂ rule_keeps (place_rule u t.sort) (step s).at (pos_in a) t.state ◂ rule_keeps _ s.at o (rule (place_rule u t.sort) (step s).at (pos_in a) t.state)
  form_own p o (prefix (before u) a) s k =
      let t = type_node a (step s) in
      node_own a (step s) ◂ rule_keeps (changeable t.sort) (step s).at (pos_in a) t.state ◂ rule_keeps _ s.at o (rule (changeable t.sort) (step s).at (pos_in a) t.state)
  form_own p o (prefix size_of a) s k =
      let t = type_node a (hushed (step s)) in
      forget (node_own a (hushed (step s))) ▸ rule_keeps _ s.at o (heard s.quiet t.state)
  form_own p o (size_of_type y) s k =
      let t = type_type y (steps 2 s) in
      type_keeps y (steps 2 s) ▸ rule_keeps _ s.at o (step t.state)
  form_own p o (cast y a) s k =
      let j = type_type y (step s) in
      let t = type_node a (step j.state) in
      type_keeps y (step s) ▸ node_own a (step j.state) ◂ rule_keeps _ s.at o t.state
  form_own p o (suffix a (index b)) s k =
      let t = type_node a s in
      let v = type_node b (step t.state) in
      both_own (node_own a s) (node_own b (step t.state)) ◂ rule_keeps _ t.state.at o v.state
  form_own p o (suffix a (field h x q)) s k =
      let t = type_node a s in
      let v = step (rule (holder h t.state.rooms t.sort.kind) t.state.at o t.state) in
      node_own a s ◂ rule_keeps (holder h t.state.rooms t.sort.kind) t.state.at o t.state ◂ rule_keeps _ v.at q v
  form_own p o (suffix a (behind u)) s k =
      let t = type_node a s in
      node_own a s ◂ rule_keeps (changeable t.sort) s.at (pos_in a) (step t.state) ◂ rule_keeps _ t.state.at o (rule (changeable t.sort) s.at (pos_in a) (step t.state))
  form_own p o (two u a b) s k =
      let t = type_node a (sided (left_of u) s) in
      let r = sided (right_of u t.sort.kind) (step t.state) in
      let v = type_node b r in
      both_own (node_own a (sided (left_of u) s)) (node_own b r) ◂ infix_keeps t.state.at o s.at (pos_in a) u t.sort v.sort v.state
  form_own p o (choose a b c) s k =
      let t = type_node a s in
      let v = type_node b (step t.state) in
      let w = type_node c (step v.state) in
      both_own (node_own a s) (both_own (node_own b (step t.state)) (node_own c (step v.state))) ◂ rule_keeps _ t.state.at o w.state
  form_own p o (probe (simple u x) a) s k =
      let v = steps 4 (claim u x s.at p s) in
      claim_keeps u x s.at p s ▸ node_own a v ◂ rule_keeps _ s.at p (type_node a v).state
  form_own p o (probe (select x cs) a) s k =
      let v = steps 3 (claim test x s.at p s) in
      let t = type_cases [] cs v in
      claim_keeps test x s.at p s ▸ cases_keep [] cs v ▸ node_own a (step t.state) ◂ rule_keeps _ s.at p (type_node a (step t.state)).state

  arguments_own : (gs : List Given) (es : NodeShapes) (s : State) → Goes s (type_arguments gs es s).state (λ R. AreOwnNodes R (type_arguments gs es s).nodes)
  arguments_own gs no_nodes s = as_it_was s
  arguments_own gs (more_nodes a rest) s =
      let t = type_node a (step s) in
      both_own (node_own a (step s)) (arguments_own (gs ++ given_at (step s).at (pos_in a) t.sort ∷ []) rest t.state)

  pub cases_keep : (vs : List (Option ℤ)) (es : NodeShapes) (s : State) → Keeps s (type_cases vs es s).state
  cases_keep vs no_nodes s = as_it_was s
  cases_keep vs (more_nodes a rest) s =
      let t = type_node a (step s) in
      let v = judged_constant (step s).at (pos_in a) t.sort t.state in
      forget (node_own a (step s)) ▸ rule_keeps (constant_rule t.sort) (step s).at (pos_in a) t.state ▸ cases_keep (vs ++ constants.value t.sort.constant ∷ []) rest v

  pub type_keeps : (y : TypeShape) (s : State) → Keeps s (type_type y s).state
  type_keeps (type_name p specs stars ls) s =
      let t = type_specs false specs unspelled s in
      let r = spelled_rule t.spelled in
      specs_keep false specs unspelled s ▸ rule_keeps r s.at p t.state ▸ lengths_keep [] ls (steps (star_tokens stars) (rule r s.at p t.state))

  pub lengths_keep : (ls : List Length) (l : LengthShapes) (s : State) → Keeps s (type_lengths ls l s).state
  lengths_keep ls no_lengths s = as_it_was s
  lengths_keep ls (more_lengths no_node rest) s = lengths_keep (ls ++ left_out ∷ []) rest (steps 2 s)
  lengths_keep ls (more_lengths (one_node a) rest) s =
      let t = type_node a (step s) in
      let v = judged_length (step s).at (pos_in a) t.sort t.state in
      forget (node_own a (step s)) ▸ rule_keeps (length_rule t.sort) (step s).at (pos_in a) t.state ▸ lengths_keep (ls ++ length_of t.sort ∷ []) rest (step v)

  pub specs_keep : (alone : Bool) (x : SpecShapes) (a : Spelled) (s : State) → Keeps s (type_specs alone x a s).state
  specs_keep alone no_specs a s = as_it_was s
  specs_keep alone (more_specs p (word k) rest) a s =
      let v = demand (static_fits k s.file) 37 s.at p s in
      demand_keeps (static_fits k s.file) 37 s.at p s ▸ specs_keep alone rest (with_word k a) (step v)
  specs_keep alone (more_specs p (struct t ds) rest) a s = let r = type_struct alone t ds (step s) in struct_keeps alone t ds (step s) ▸ specs_keep alone rest (with_tagged r.kind a) r.state
  specs_keep alone (more_specs p (enum t es) rest) a s = let r = type_enum t es (step s) in enum_keeps t es (step s) ▸ specs_keep alone rest (with_tagged r.kind a) r.state

  struct_keeps : (alone : Bool) (t : Option Named) (ds : MaybeDecls) (s : State) → Keeps s (type_struct alone t ds s).state
  struct_keeps alone t no_members s = opened_keeps alone false t s
  struct_keeps alone t (members ds) s =
      let o = opened alone true t s in
      let b = step (steps (tag_tokens t) (begun_at o.number o.state)) in
      let l = type_lines ds [] (within b) in
      opened_keeps alone true t s ▸ begun_keeps o.number o.state ▸ lines_keep ds [] (within b) ▸ closed_keeps o.number l.fields l.state

  pub lines_keep : (ds : DeclShapes) (fields : List FieldShape) (s : State) → Keeps s (type_lines ds fields s).state
  lines_keep no_decls fields s = as_it_was s
  lines_keep (more_decls (decl p specs names) rest) fields s =
      let t = type_specs false specs unspelled s in
      let r = spelled_rule t.spelled in
      let v = rule r s.at p t.state in
      let n = type_fields p (kind_at r) names fields v in
      specs_keep false specs unspelled s ▸ rule_keeps r s.at p t.state ▸ fields_keep p (kind_at r) names fields v ▸ lines_keep rest n.fields n.state

  pub fields_keep : (p : Pos) (k : Option TypeOf) (names : DeclaratorShapes) (fields : List FieldShape) (s : State) → Keeps s (type_fields p k names fields s).state
  fields_keep p k no_declarators fields s = as_it_was s
  fields_keep p k (more_declarators (declarator stars x (arrays ls) i) rest) fields s =
      let b = steps (star_tokens stars) s in
      let l = type_lengths [] ls (step b) in
      let t = arrays_of l.counts (pointed stars k) in
      let free = is_free (field_type (text_of x) fields) in
      let v = field_state b.at (name_pos p x) free t l.state in
      lengths_keep [] ls (step b) ▸ field_keeps b.at (name_pos p x) free t l.state ▸ fields_keep p k rest (with_field free (text_of x) t fields) (step v)
  fields_keep p k (more_declarators (declarator stars x (function ps) i) rest) fields s =
      let b = steps (star_tokens stars) s in
      complain_keeps 33 b.at (name_pos p x) (step b) ▸ fields_keep p k rest fields (complain 33 b.at (name_pos p x) (step b))

  enum_keeps : (t : Option Named) (es : MaybeEnumers) (s : State) → Keeps s (type_enum t es s).state
  enum_keeps t no_rows s = enumeration_keeps false t s
  enum_keeps t (rows es) s = enumeration_keeps true t s ▸ rows_keep (Some (pos 0)) es (step (steps (tag_tokens t) (enumeration true t s)))

  pub rows_keep : (next : Option ℤ) (es : EnumerShapes) (s : State) → Keeps s (rows_types next es s).state
  rows_keep next no_enumers s = as_it_was s
  rows_keep next (more_enumers x v rest) s =
      let r = type_value s.at x.pos next v (step s) in
      let d = declare s.at x.pos x.text (entity_of r.value) r.state in
      value_keeps s.at x.pos next v (step s) ▸ declared_keeps s.at x.pos x.text (entity_of r.value) (find_here x.text r.state.names) r.state (entity_names r.state.tables.variables x.text r.value) ▸ rows_keep (after r.value) rest (step d)

  value_keeps : (token : ℕ) (p : Pos) (next : Option ℤ) (v : MaybeNode) (s : State) → Keeps s (type_value token p next v s).state
  value_keeps token p next no_node s = demand_keeps (not (passes next)) 35 token p s
  value_keeps token p next (one_node a) s = let t = type_node a (step s) in forget (node_own a (step s)) ▸ rule_keeps (value_rule t.sort) (step s).at (pos_in a) t.state

pub node_keeps : (a : NodeShape) (s : State) → Keeps s (type_node a s).state
node_keeps a s = forget (node_own a s)
