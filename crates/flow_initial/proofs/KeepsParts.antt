-- What types keep, typing initialisers, parameters and functions keeps.
use Rattle.std.proofs.Common.{ℕ, ℤ, List, [], ◌∷◌, Option, Some, None, Bool, true, false}
use Rattle.c_base.specs.declared.place.Pos.{Pos}
use Rattle.c_syntax.specs.declared.text.Text.{Text}
use Rattle.c_syntax.specs.declared.tree.Named.{Named}
use Rattle.c_syntax.specs.declared.tree.Star.{Star}
use Rattle.c_syntax.specs.declared.tree.ProbeMark.{ProbeMark}
use Rattle.c_syntax.specs.Shape.{TypeOf, block, NodeShape, MaybeNode, no_node, one_node, ParamsShape, MaybeInit, no_init, one_init, InitShape, one, listed, InitShapes, no_inits, more_inits, LabelShape, case, default}
use Rattle.c_constants.specs.Constants as constants
use Rattle.c_scopes.specs.Scoping.{find_here}
use Rattle.c_type_rules.specs.Verdicts.{result_type}
use Rattle.c_tree.specs.declared.meaning.Entity.{Entity}
use Rattle.c_tree.specs.State.{State, step, steps, mention, function_number}
use Rattle.c_tables.specs.Rows.{first_place, text_of, name_pos}
use Rattle.c_tree.specs.Rulings.{by, rule, kind_at, of_kind}
use Rattle.c_tree.specs.Sorts.{pos_in}
use Rattle.c_tree.specs.Operators.{claim, constant_rule, hushed, heard}
use Rattle.c_tree.specs.Parts.{star_tokens, pointed}
use Rattle.c_tree.specs.Typing.{type_node}
use Rattle.c_tree.specs.Initialisers.{form_in, chars_of, filled, constant_init, fits, one_init_of, list_rule, slots, Slots, slot, slot_rule, further, init_pos, type_init, type_inits}
use Rattle.c_tree.specs.Declaring.{name_tokens, claim_name, token_of_name, type_maybe_init, type_params, opened_scope, closed_params, all_kinds, signature_of, Signature, function_at, unclear_at, bodied, function_entity, declare_function, type_function}
use Rattle.c_tree.specs.Stating.{Labels, tested, result_rule, type_maybe, type_test, type_result, type_marks, case_state, default_state, case_labels, default_labels, type_labels}
use Rattle.flow_initial.proofs.Cores.{Core, core, Kept, inside, ◌▸◌}
use Rattle.flow_initial.proofs.KeepsNodes as nodes
use Rattle.flow_initial.proofs.KeepsParameters as lists

module _ (J : Core → Type 0) (kept : Kept J) where
  abbrev pub Keeps : State → State → Type 0
  Keeps s t = J (core s) → J (core t)

  as_it_was : (s : State) → Keeps s s
  as_it_was s = λ h. h

  -- ---- initialisers

  pub value_keeps : (c : Bool) (k : Option TypeOf) (o : Option (ℕ × ℕ)) (a : NodeShape) (s : State) → Keeps s (one_init_of o c k a s).state
  value_keeps c k (Some (bytes, elements)) a s = kept.hushing s (type_node a (hushed s)).state (nodes.node_keeps J kept a (hushed s)) ▸ nodes.rule_keeps J kept _ s.at (pos_in a) (heard s.quiet (type_node a (hushed s)).state)
  value_keeps c k None a s =
      let t = type_node a s in
      nodes.node_keeps J kept a s ▸ nodes.rule_keeps J kept (fits k t.sort) s.at (pos_in a) t.state ▸ nodes.rule_keeps J kept (constant_init c t.sort) s.at (pos_in a) (rule (fits k t.sort) s.at (pos_in a) t.state)

  mutual
    pub init_keeps : (c : Bool) (k : Option TypeOf) (i : InitShape) (s : State) → Keeps s (type_init c k i s).state
    init_keeps c k (one a) s = value_keeps c k (filled (chars_of k) (form_in a)) a s
    init_keeps c k (listed p items last) s =
        let v = rule (of_kind k list_rule) s.at p s in
        nodes.rule_keeps J kept (of_kind k list_rule) s.at p s ▸ inits_keep (slots k s) items (step v)

    pub inits_keep : (l : Slots) (is : InitShapes) (s : State) → Keeps s (type_inits l is s).state
    inits_keep l no_inits s = as_it_was s
    inits_keep l (more_inits i rest) s =
        let v = rule (slot_rule l) s.at (init_pos i) s in
        let t = type_init true (slot l) i v in
        nodes.rule_keeps J kept (slot_rule l) s.at (init_pos i) s ▸ init_keeps true (slot l) i v ▸ inits_keep (further l) rest (step t.state)

  pub maybe_init_keeps : (c : Bool) (k : Option TypeOf) (i : MaybeInit) (s : State) → Keeps s (type_maybe_init c k i s).state
  maybe_init_keeps c k no_init s = as_it_was s
  maybe_init_keeps c k (one_init i) s = init_keeps c k i (step s)

  -- ---- declared names

  pub name_keeps : (fit : Bool) (x : Option Named) (s : State) → Keeps s (claim_name fit x s)
  name_keeps = lists.name_keeps (λ c names. J c) (inside J kept)

  pub params_keep : (defining : Bool) (ps : ParamsShape) (s : State) → Keeps s (type_params defining ps s).state
  params_keep = lists.params_keep (λ c names. J c) (inside J kept)

  pub function_at_keeps : (defining : Bool) (token : ℕ) (p : Pos) (x : Text) (e : Entity) (o : Option Entity) (s : State) → Keeps s (function_at defining token p x e o s)
  function_at_keeps defining token p x e None s = as_it_was s
  function_at_keeps defining token p x e (Some o) s = nodes.demand_keeps J kept _ 31 token p s

  pub unclear_keeps : (defining : Bool) (token : ℕ) (p : Pos) (x : Text) (o : Option Entity) (s : State) → Keeps s (unclear_at defining token p x o s)
  unclear_keeps defining token p x None s = as_it_was s
  unclear_keeps defining token p x (Some o) s = nodes.demand_keeps J kept _ 31 token p s

  pub bodied_keeps : (defining : Bool) (x : Text) (s : State) → Keeps s (bodied defining x s)
  bodied_keeps true x s = as_it_was s
  bodied_keeps false x s = as_it_was s

  pub declared_keeps : (defining : Bool) (token : ℕ) (p : Pos) (x : Text) (f : Option Signature) (s : State) → Keeps s (declare_function defining token p x f s).state
  declared_keeps defining token p x None s = unclear_keeps defining token p x (find_here x s.names) s ▸ bodied_keeps defining x (unclear_at defining token p x (find_here x s.names) s)
  declared_keeps defining token p x (Some f) s =
      let m = mention x f.result f.params s in
      nodes.mention_keeps J kept x f.result f.params (function_number x f.result f.params s.tables.functions) s ▸ function_at_keeps defining token p x (function_entity x f m.number) (find_here x m.state.names) m.state

  pub closed_params_keeps : (defining : Bool) (s : State) → Keeps s (closed_params defining s)
  closed_params_keeps true s = as_it_was s
  closed_params_keeps false s = kept.leaving s

  pub function_keeps : (defining : Bool) (k : Option TypeOf) (stars : List Star) (x : Option Named) (ps : ParamsShape) (i : MaybeInit) (s : State) → Keeps s (type_function defining k stars x ps i s).state
  function_keeps defining k stars x ps i s =
      let b = steps (star_tokens stars) s in
      let token = token_of_name b.at x b in
      let p = name_pos first_place x in
      let r = by 33 (result_type (pointed stars k)) in
      let v = record (opened_scope (steps (name_tokens x) (claim_name false x b))) { file = false } in
      let q = type_params defining ps v in
      let f = signature_of (kind_at r) (all_kinds q.given) in
      let c = closed_params defining q.state in
      name_keeps false x b ▸ kept.entering (steps (name_tokens x) (claim_name false x b)) ▸ params_keep defining ps v ▸ closed_params_keeps defining q.state ▸ nodes.rule_keeps J kept r token p c ▸ declared_keeps defining token p (text_of x) f (record (rule r token p c) { file = s.file })

  -- ---- statements

  pub maybe_keeps : (e : MaybeNode) (s : State) → Keeps s (type_maybe e s).state
  maybe_keeps no_node s = as_it_was s
  maybe_keeps (one_node a) s = nodes.node_keeps J kept a s

  pub test_keeps : (first : ℕ) (a : NodeShape) (s : State) → Keeps s (tested first (type_node a s))
  test_keeps first a s = let t = type_node a s in nodes.node_keeps J kept a s ▸ nodes.rule_keeps J kept _ first (pos_in t.node) t.state

  pub maybe_test_keeps : (e : MaybeNode) (s : State) → Keeps s (type_test e s).state
  maybe_test_keeps no_node s = as_it_was s
  maybe_test_keeps (one_node a) s = test_keeps s.at a s

  pub result_keeps : (token : ℕ) (p : Pos) (k : Option TypeOf) (e : MaybeNode) (s : State) → Keeps s (type_result token p k e s).state
  result_keeps token p k no_node s = as_it_was s
  result_keeps token p k (one_node a) s = let t = type_node a s in nodes.node_keeps J kept a s ▸ nodes.rule_keeps J kept (result_rule k t.sort) token p t.state

  pub marks_keep : (ms : List ProbeMark) (s : State) → Keeps s (type_marks ms s)
  marks_keep [] s = as_it_was s
  marks_keep (m ∷ ms) s = let v = claim block m.number s.at m.pos s in nodes.claim_keeps J kept block m.number s.at m.pos s ▸ marks_keep ms (steps 5 v)

  pub case_keeps : (token : ℕ) (p : Pos) (o : Option Labels) (v : Option ℤ) (s : State) → Keeps s (case_state token p o v s)
  case_keeps token p None v s = nodes.complain_keeps J kept 37 token p s
  case_keeps token p (Some l) v s = nodes.demand_keeps J kept _ 36 token p s

  pub default_keeps : (token : ℕ) (p : Pos) (o : Option Labels) (s : State) → Keeps s (default_state token p o s)
  default_keeps token p None s = nodes.complain_keeps J kept 37 token p s
  default_keeps token p (Some l) s = nodes.demand_keeps J kept _ 36 token p s

  pub labels_keep : (o : Option Labels) (ls : List LabelShape) (s : State) → Keeps s (type_labels o ls s).state
  labels_keep o [] s = as_it_was s
  labels_keep o (case p a ∷ rest) s =
      let t = type_node a (step s) in
      let v = constants.value t.sort.constant in
      let u = rule (constant_rule t.sort) (step s).at (pos_in a) t.state in
      nodes.node_keeps J kept a (step s) ▸ nodes.rule_keeps J kept (constant_rule t.sort) (step s).at (pos_in a) t.state ▸ case_keeps s.at p o v u ▸ labels_keep (case_labels o v) rest (step (case_state s.at p o v u))
  labels_keep o (default p ∷ rest) s = default_keeps s.at p o s ▸ labels_keep (default_labels o) rest (steps 2 (default_state s.at p o s))
