-- What the types in expressions keep, typing a list of parameters keeps.
use Rattle.std.proofs.Common.{◌≡◌, ℕ, ◌+◌, List, [], ◌∷◌, ◌++◌, length, Option, Some, None, Bool, true, false, refl}
use Rattle.c_base.specs.declared.place.Pos.{Pos}
use Rattle.c_syntax.specs.declared.text.Text.{Text}
use Rattle.c_syntax.specs.declared.tree.Named.{Named}
use Rattle.c_syntax.specs.declared.tree.ProbeMark.{ProbeMark}
use Rattle.c_syntax.specs.declared.tree.Star.{Star}
use Rattle.c_syntax.specs.Shape.{TypeOf, def, LengthShapes, SpecShapes, decl, DeclShapes, no_decls, more_decls, declarator, no_declarators, more_declarators, arrays, function, ParamsShape, empty, void, params, MaybeInit}
use Rattle.c_scopes.specs.Rows.{Scope}
use Rattle.c_scopes.specs.Scoping.{find_here}
use Rattle.c_tables.specs.Rows.{first_place, name_pos}
use Rattle.c_tree.specs.declared.meaning.Entity.{Entity}
use Rattle.c_tree.specs.declared.meaning.Entity.TheVariants as entity
use Rattle.c_tree.specs.State.{State, step, steps, complain}
use Rattle.c_tree.specs.Rulings.{rule, kind_at}
use Rattle.c_tree.specs.Operators.{claim}
use Rattle.c_tree.specs.Parts.{unspelled, spelled_rule, star_tokens, pointed}
use Rattle.c_tree.specs.Typing.{type_specs, type_lengths}
use Rattle.c_tree.specs.Declaring.{name_tokens, claim_mark, claim_name, token_of_name, with_parameter, parameter_at, declare_parameter, parameter_rule, name_demand, type_param, type_param_list, type_params}
use Rattle.flow_initial.proofs.Cores.{Core, At, KeptInside, ◌▸◌}
use Rattle.flow_initial.proofs.KeepsInside as nodes

-- the state in which the name of a parameter is declared: behind its type, and what is complained of that
abbrev pub typed_before : Bool → Pos → SpecShapes → List Star → Option Named → LengthShapes → State → State
typed_before defining p specs stars x ls s =
    let t = type_specs false specs unspelled s in
    let r = spelled_rule t.spelled in
    let b = steps (star_tokens stars) (rule r s.at p t.state) in
    let l = type_lengths [] ls (steps (name_tokens x) (claim_name defining x b)) in
    let k = parameter_rule l.state.rooms l.counts (pointed stars (kind_at r)) in
    rule k (token_of_name s.at x b) (name_pos p x) (name_demand defining x s.at p l.state)

module _ (J : Core → Scope Entity → Type 0) (kept : KeptInside J) where
  abbrev Keeps : State → State → Type 0
  Keeps s t = At J s → At J t

  mark_keeps : (fit : Bool) (m : Option ProbeMark) (s : State) → Keeps s (claim_mark fit m s)
  mark_keeps fit None s = λ h. h
  mark_keeps fit (Some m) s = nodes.claim_keeps J kept def m.number s.at m.pos s ▸ nodes.demand_keeps J kept fit 37 s.at m.pos (claim def m.number s.at m.pos s)

  pub name_keeps : (fit : Bool) (x : Option Named) (s : State) → Keeps s (claim_name fit x s)
  name_keeps fit None s = λ h. h
  name_keeps fit (Some x) s = mark_keeps fit x.probe s

  name_demand_keeps : (defining : Bool) (x : Option Named) (token : ℕ) (p : Pos) (s : State) → Keeps s (name_demand defining x token p s)
  name_demand_keeps true None token p s = λ h. h
  name_demand_keeps true (Some x) token p s = λ h. h
  name_demand_keeps false x token p s = λ h. h

  pub typed_keeps : (defining : Bool) (p : Pos) (specs : SpecShapes) (stars : List Star) (x : Option Named) (ls : LengthShapes) (s : State) → Keeps s (typed_before defining p specs stars x ls s)
  typed_keeps defining p specs stars x ls s =
      let t = type_specs false specs unspelled s in
      let r = spelled_rule t.spelled in
      let b = steps (star_tokens stars) (rule r s.at p t.state) in
      let v = steps (name_tokens x) (claim_name defining x b) in
      let l = type_lengths [] ls v in
      let k = parameter_rule l.state.rooms l.counts (pointed stars (kind_at r)) in
      nodes.specs_keep J kept false specs unspelled s ▸ nodes.rule_keeps J kept r s.at p t.state ▸ name_keeps defining x b ▸ nodes.lengths_keep J kept [] ls v ▸ name_demand_keeps defining x s.at p l.state
      ▸ nodes.rule_keeps J kept k (token_of_name s.at x b) (name_pos p x) (name_demand defining x s.at p l.state)

  with_parameter_keeps : (x : Text) (k : Option TypeOf) (s : State) → find_here x s.names ≡ None → Keeps s (with_parameter x k s)
  with_parameter_keeps x None s free = kept.naming x entity.Unknown s free
  with_parameter_keeps x (Some t) s free = kept.naming x (entity.Parameter (length s.params + 1)) (record s { params = s.params ++ t ∷ [] }) free

  parameter_at_keeps : (token : ℕ) (p : Pos) (x : Text) (k : Option TypeOf) (e : Option Entity) (s : State) → find_here x s.names ≡ e → Keeps s (parameter_at token p x k e s)
  parameter_at_keeps token p x k None s free = with_parameter_keeps x k s free
  parameter_at_keeps token p x k (Some e) s free = λ h. h

  parameter_keeps : (token : ℕ) (x : Option Named) (k : Option TypeOf) (s : State) → Keeps s (declare_parameter token x k s)
  parameter_keeps token None k s = λ h. h
  parameter_keeps token (Some x) k s = parameter_at_keeps token x.pos x.text k (find_here x.text s.names) s refl

  pub param_keeps : (defining : Bool) (p : Pos) (specs : SpecShapes) (stars : List Star) (x : Option Named) (ls : LengthShapes) (i : MaybeInit) (s : State) → Keeps s (type_param defining p specs stars x ls i s).state
  param_keeps defining p specs stars x ls i s = typed_keeps defining p specs stars x ls s ▸ parameter_keeps _ x (type_param defining p specs stars x ls i s).kind (typed_before defining p specs stars x ls s)

  pub list_keeps : (defining : Bool) (ds : DeclShapes) (s : State) → Keeps s (type_param_list defining ds s).state
  list_keeps defining no_decls s = λ h. h
  list_keeps defining (more_decls (decl p specs no_declarators) rest) s = list_keeps defining rest (step (complain 33 s.at first_place s))
  list_keeps defining (more_decls (decl p specs (more_declarators (declarator stars x (arrays ls) i) no_declarators)) rest) s =
      let a = type_param defining p specs stars x ls i s in
      param_keeps defining p specs stars x ls i s ▸ list_keeps defining rest (step a.state)
  list_keeps defining (more_decls (decl p specs (more_declarators (declarator stars x (function ps) i) no_declarators)) rest) s = list_keeps defining rest (step (complain 33 s.at first_place s))
  list_keeps defining (more_decls (decl p specs (more_declarators (declarator stars x (arrays ls) i) (more_declarators d more))) rest) s = list_keeps defining rest (step (complain 33 s.at first_place s))
  list_keeps defining (more_decls (decl p specs (more_declarators (declarator stars x (function ps) i) (more_declarators d more))) rest) s = list_keeps defining rest (step (complain 33 s.at first_place s))

  pub params_keep : (defining : Bool) (ps : ParamsShape) (s : State) → Keeps s (type_params defining ps s).state
  params_keep defining empty s = λ h. h
  params_keep defining void s = λ h. h
  params_keep defining (params ds) s = list_keeps defining ds (step (record s { params = [] }))
