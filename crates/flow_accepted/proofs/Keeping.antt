-- What types keep, typing calls, arguments and the names of types keeps.
use Rattle.std.proofs.Common.{ℕ, ℤ, List, [], ◌∷◌, ◌++◌, Bool, true, false, Option, Some, None}
use Rattle.std.specs.Prelude.{length, nat_eq, not, ◌&&◌, if◌then◌else◌}
use Rattle.c_base.specs.declared.place.Pos.{Pos}
use Rattle.c_syntax.specs.Shape.{TypeOf, Infix, plain, and, or, assign, comma, NodeShapes, no_nodes, more_nodes, TypeShape, type_name}
use Rattle.c_type_rules.specs.Verdicts.{fits_type}
use Rattle.c_constants.specs.Constants as constants
use Rattle.c_tables.specs.Tables.{FunctionShape}
use Rattle.c_tables.specs.Rows.{row}
use Rattle.c_tables.specs.Builtins.{builtin_name, builtin_result, builtin_params}
use Rattle.c_tree.specs.declared.meaning.Entity.{Entity}
use Rattle.c_tree.specs.declared.meaning.Entity.TheVariants as entity
use Rattle.c_tree.specs.State.{State, step, steps, function_number, counts}
use Rattle.c_tree.specs.Rulings.{by, rule}
use Rattle.c_tree.specs.Sorts.{Sort, pos_in}
use Rattle.c_tree.specs.Operators.{called_entity, Given, given_at, fit_all, call_of, typed_call, typed_infix, left_side, constant_rule}
use Rattle.c_tree.specs.Parts.{judged_constant, unspelled, spelled_rule, star_tokens}
use Rattle.c_tree.specs.Typing.{type_node, type_arguments, type_cases, type_type, type_specs}
use Rattle.flow_initial.proofs.Cores.{Core, core, Kept, ◌▸◌}
use Rattle.flow_initial.proofs.KeepsNodes as nodes

module _ (J : Core → Type 0) (kept : Kept J) where
  abbrev Keeps : State → State → Type 0
  Keeps s t = J (core s) → J (core t)

  as_it_was : (s : State) → Keeps s s
  as_it_was s = λ h. h

  pub called_keeps : (p : Pos) (e : Option Entity) (s : State) → Keeps s (called_entity p e s).state
  called_keeps p (Some (entity.Function n)) s = nodes.demand_keeps J kept (counts s.known n) 40 s.at p s
  called_keeps p (Some (entity.Builtin b)) s = nodes.mention_keeps J kept (builtin_name b) (builtin_result b) (builtin_params b) (function_number (builtin_name b) (builtin_result b) (builtin_params b) s.tables.functions) s
  called_keeps p (Some entity.Unknown) s = as_it_was s
  called_keeps p (Some (entity.Variable n)) s = nodes.complain_keeps J kept 30 s.at p s
  called_keeps p (Some (entity.Parameter n)) s = nodes.complain_keeps J kept 30 s.at p s
  called_keeps p (Some (entity.Constant v)) s = nodes.complain_keeps J kept 30 s.at p s
  called_keeps p None s = nodes.complain_keeps J kept 30 s.at p s

  fit_keeps : (ts : List TypeOf) (gs : List Given) (s : State) → Keeps s (fit_all ts gs s)
  fit_keeps [] gs s = as_it_was s
  fit_keeps (t ∷ ts) [] s = as_it_was s
  fit_keeps (t ∷ ts) (g ∷ gs) s = let r = by 33 (fits_type (Some t) g.kind g.null) in nodes.rule_keeps J kept r g.token g.pos s ▸ fit_keeps ts gs (rule r g.token g.pos s)

  pick_keeps : (b : Bool) (s t u : State) → Keeps s t → Keeps s u → Keeps s (if b then t else u)
  pick_keeps true s t u p q = p
  pick_keeps false s t u p q = q

  call_keeps : (p : Pos) (token : ℕ) (clean : Bool) (n : ℕ) (f : Option FunctionShape) (gs : List Given) (s : State) → Keeps s (call_of p token clean n f gs s).state
  call_keeps p token clean n None gs s = as_it_was s
  call_keeps p token clean n (Some f) gs s = pick_keeps (clean && not (nat_eq (length f.params) (length gs))) s _ _ (nodes.complain_keeps J kept 34 token p s) (fit_keeps f.params gs s)

  pub typed_call_keeps : (p : Pos) (token : ℕ) (clean : Bool) (f : Option ℕ) (gs : List Given) (s : State) → Keeps s (typed_call p token clean f gs s).state
  typed_call_keeps p token clean None gs s = as_it_was s
  typed_call_keeps p token clean (Some n) gs s = call_keeps p token clean n (row s.tables.functions n) gs s

  pub infix_keeps : (token : ℕ) (o : Pos) (head : ℕ) (p : Pos) (u : Infix) (a b : Sort) (s : State) → Keeps s (typed_infix token o head p u a b s).state
  infix_keeps token o head p (plain u) a b s = nodes.rule_keeps J kept _ token o s
  infix_keeps token o head p and a b s = nodes.rule_keeps J kept _ token o s
  infix_keeps token o head p or a b s = nodes.rule_keeps J kept _ token o s
  infix_keeps token o head p (assign u) a b s = nodes.rule_keeps J kept (left_side a b) head p s ▸ nodes.rule_keeps J kept _ token o (rule (left_side a b) head p s)
  infix_keeps token o head p comma a b s = as_it_was s

  pub arguments_keep : (gs : List Given) (es : NodeShapes) (s : State) → Keeps s (type_arguments gs es s).state
  arguments_keep gs no_nodes s = as_it_was s
  arguments_keep gs (more_nodes a rest) s =
      let t = type_node a (step s) in
      nodes.node_keeps J kept a (step s) ▸ arguments_keep (gs ++ given_at (step s).at (pos_in a) t.sort ∷ []) rest t.state

  pub cases_keep : (vs : List (Option ℤ)) (es : NodeShapes) (s : State) → Keeps s (type_cases vs es s).state
  cases_keep vs no_nodes s = as_it_was s
  cases_keep vs (more_nodes a rest) s =
      let t = type_node a (step s) in
      let v = judged_constant (step s).at (pos_in a) t.sort t.state in
      nodes.node_keeps J kept a (step s) ▸ nodes.rule_keeps J kept (constant_rule t.sort) (step s).at (pos_in a) t.state ▸ cases_keep (vs ++ constants.value t.sort.constant ∷ []) rest v

  pub type_keeps : (y : TypeShape) (s : State) → Keeps s (type_type y s).state
  type_keeps (type_name p specs stars ls) s =
      let t = type_specs false specs unspelled s in
      let r = spelled_rule t.spelled in
      nodes.specs_keep J kept false specs unspelled s ▸ nodes.rule_keeps J kept r s.at p t.state ▸ nodes.lengths_keep J kept [] ls (steps (star_tokens stars) (rule r s.at p t.state))
