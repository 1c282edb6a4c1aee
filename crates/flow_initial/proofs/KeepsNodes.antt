-- What types keep, typing an expression keeps.
use Rattle.std.specs.Prelude.{ℕ, List, Option, Bool}
use Rattle.c_base.specs.declared.place.Pos.{Pos}
use Rattle.c_syntax.specs.declared.text.Text.{Text}
use Rattle.c_syntax.specs.Shape.{TypeOf, Probing, NodeShape, ExprShape, LengthShapes, SpecShapes, DeclShapes}
use Rattle.c_tables.specs.Tables.{FieldShape}
use Rattle.c_tree.specs.State.{State, complain, demand, numbered_or, pushed_function}
use Rattle.c_tree.specs.Rulings.{Ruled, rule}
use Rattle.c_tree.specs.Operators.{claim}
use Rattle.c_tree.specs.Typing.{type_node, type_form, type_lengths, type_specs, type_lines}
use Rattle.c_tree.specs.Parts.{Length, Spelled}
use Rattle.flow_initial.proofs.Cores.{Core, core, Kept, inside}
use Rattle.flow_initial.proofs.KeepsInside as within

module _ (J : Core → Type 0) (kept : Kept J) where
  abbrev pub Keeps : State → State → Type 0
  Keeps s t = J (core s) → J (core t)

  pub complain_keeps : (n token : ℕ) (p : Pos) (s : State) → Keeps s (complain n token p s)
  complain_keeps = within.complain_keeps (λ c names. J c) (inside J kept)

  pub demand_keeps : (b : Bool) (n token : ℕ) (p : Pos) (s : State) → Keeps s (demand b n token p s)
  demand_keeps = within.demand_keeps (λ c names. J c) (inside J kept)

  pub rule_keeps : (r : Ruled) (token : ℕ) (p : Pos) (s : State) → Keeps s (rule r token p s)
  rule_keeps = within.rule_keeps (λ c names. J c) (inside J kept)

  pub mention_keeps : (x : Text) (k : TypeOf) (ks : List TypeOf) (n : Option ℕ) (s : State) → Keeps s (numbered_or n s (pushed_function x k ks s)).state
  mention_keeps = within.mention_keeps (λ c names. J c) (inside J kept)

  pub claim_keeps : (u : Probing) (x : Text) (token : ℕ) (p : Pos) (s : State) → Keeps s (claim u x token p s)
  claim_keeps = within.claim_keeps (λ c names. J c) (inside J kept)

  pub node_keeps : (a : NodeShape) (s : State) → Keeps s (type_node a s).state
  node_keeps = within.node_keeps (λ c names. J c) (inside J kept)

  pub form_keeps : (p o : Pos) (f : ExprShape) (s : State) → Keeps s (type_form p o f s).state
  form_keeps = within.form_keeps (λ c names. J c) (inside J kept)

  pub lengths_keep : (ls : List Length) (l : LengthShapes) (s : State) → Keeps s (type_lengths ls l s).state
  lengths_keep = within.lengths_keep (λ c names. J c) (inside J kept)

  pub specs_keep : (alone : Bool) (x : SpecShapes) (a : Spelled) (s : State) → Keeps s (type_specs alone x a s).state
  specs_keep = within.specs_keep (λ c names. J c) (inside J kept)

  pub lines_keep : (ds : DeclShapes) (fields : List FieldShape) (s : State) → Keeps s (type_lines ds fields s).state
  lines_keep = within.lines_keep (λ c names. J c) (inside J kept)
