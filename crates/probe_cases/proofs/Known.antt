-- What typing knows of the value of an expression without probes is read of its tree, where nothing is complained of.
use Rattle.std.proofs.Common.{◌≡◌, [], length, None, refl, sym, ap, subst}
use Rattle.c_base.specs.declared.place.Pos.{Pos}
use Rattle.c_syntax.specs.Shape.{number, char, str, name, unary, before, size_of, NodeShape, node, ExprShape, leaf, paren, call, prefix, size_of_type, cast, suffix, two, choose, probe, index, field, behind, simple, select}
use Rattle.c_type_rules.specs.Verdicts.{cast_type}
use Rattle.c_constants.specs.Numbers.{number_of}
use Rattle.c_scopes.specs.Scoping.{find}
use Rattle.c_sites_probes.specs.Marked.{first, node_mark, form_mark, type_mark}
use Rattle.c_tree.specs.Complaints.{wrong_type}
use Rattle.c_tree.specs.State.{State, step, steps, is_clean}
use Rattle.c_tree.specs.Rulings.{by, rule}
use Rattle.c_tree.specs.Sorts.{pos_in, note_of, cleared}
use Rattle.c_tree.specs.Operators.{called, hushed, heard, unary_rule, place_rule, choice_rule, entering, left_of, right_of, sided}
use Rattle.c_tree.specs.Typing.{opening, type_node, type_form, type_arguments, type_type}
use Rattle.c_tree.proofs.Grows.{◌▸◌, rule_grows, infix_grows, node_grows, form_grows}
use Rattle.probe_rules.proofs.ReadyUnits.{some_none, none_first, none_second}
use Rattle.probe_laws.proofs.Settled.{IsClean}
use Rattle.probe_laws.proofs.Rules.{back}
use Rattle.probe_laws.proofs.KnownParts.{is_still_clean}
use Rattle.probe_cases.specs.Cases.{ValuesAreRead}
use Rattle.probe_cases.proofs.Alike.{alike_same, element_none, field_none}
use Rattle.probe_cases.proofs.Operators.{IsRead, IsReadNode, alike_noted, read_none, number_read, entity_read, call_read, unary_read, size_read, type_size_read, cast_read, infix_read, choice_read}

mutual
  pub node_read : (a : NodeShape) (s : State) → node_mark (type_node a s).node ≡ None → IsClean (type_node a s).state → IsReadNode (type_node a s).node (type_node a s).sort
  node_read (node p o n f) s none c =
      let v = entering f s in
      let t = type_form p o f v in
      let r = form_read p o f v none c in
      subst (λ b. IsReadNode (node p o (note_of (cleared b t.typing.sort).kind t.typing.sort.constant t.typing.names t.typing.valued) t.form) (cleared b t.typing.sort))
      (sym (is_still_clean s t.state (back (form_grows p o f v) c) c)) (record { grounded = r.grounded; alike = r.alike })

  form_read : (p o : Pos) (f : ExprShape) (s : State) → form_mark p (type_form p o f s).form ≡ None → IsClean (type_form p o f s).state → IsRead (type_form p o f s).form (type_form p o f s).typing
  form_read p o (leaf (number t)) s none c = let r = number_read t p (number_of t) in record { grounded = r.0; alike = r.1 }
  form_read p o (leaf (char x)) s none c = record { grounded = tt; alike = alike_same refl }
  form_read p o (leaf (str t)) s none c = let x = (type_form p o (leaf (str t)) s).typing in read_none (leaf (str t)) x.sort x.names (λ n. refl) refl
  form_read p o (leaf (name x)) s none c = entity_read p x (find x s.names) s
  form_read p o (paren a) s none c =
      let r = node_read a (step s) none c in
      let t = type_node a (step s) in
      record { grounded = r.grounded; alike = alike_noted t.sort.kind t.sort.constant None r.alike }
  form_read p o (call x args) s none c =
      let f = called p x s in
      let t = type_arguments [] args (steps (opening args) f.state) in
      call_read p x t.nodes s.at (is_clean f.state t.state) f.function t.given t.state
  form_read p o (prefix (unary u) a) s none c =
      let t = type_node a (step s) in
      let v = rule (place_rule u t.sort) (step s).at (pos_in a) t.state in
      let late = back (rule_grows (place_rule u t.sort) (step s).at (pos_in a) t.state ▸ rule_grows (unary_rule u t.state.rooms t.sort) s.at o v) c in
      unary_read u t.node t.sort s.at o (step s).at (pos_in a) t.state (node_read a (step s) none late) c
  form_read p o (prefix (before u) a) s none c = let t = type_node a (step s) in let x = (type_form p o (prefix (before u) a) s).typing in read_none (prefix (before u) t.node) x.sort None (λ n. refl) refl
  form_read p o (prefix size_of a) s none c = let t = type_node a (hushed (step s)) in size_read (prefix size_of t.node) (λ n. refl) s.at o t.sort.kind (heard s.quiet t.state) c
  form_read p o (size_of_type y) s none c = let t = type_type y (steps 2 s) in type_size_read (size_of_type t.type) (λ n. refl) s.at o t.kind t.state c
  form_read p o (cast y a) s none c =
      let k = type_type y (step s) in
      let t = type_node a (step k.state) in
      let late = back (rule_grows (by wrong_type (cast_type k.kind t.sort.kind)) s.at o t.state) c in
      cast_read k.type t.node k.kind t.sort s.at o t.state (node_read a (step k.state) (none_second (type_mark k.type) (node_mark t.node) none) late) c
  form_read p o (suffix a (index b)) s none c =
      let t = type_node a s in
      let v = type_node b (step t.state) in
      let x = (type_form p o (suffix a (index b)) s).typing in
      read_none (suffix t.node (index v.node)) x.sort None (λ n. refl) (element_none t.sort.kind t.sort.constant v.sort.kind v.sort.constant)
  form_read p o (suffix a (field h q i)) s none c =
      let t = type_node a s in
      let x = (type_form p o (suffix a (field h q i)) s).typing in
      read_none (suffix t.node (field h q i)) x.sort None (λ n. refl) (field_none h t.sort.constant)
  form_read p o (suffix a (behind u)) s none c =
      let t = type_node a s in
      let x = (type_form p o (suffix a (behind u)) s).typing in
      read_none (suffix t.node (behind u)) x.sort None (λ n. refl) refl
  form_read p o (two u a b) s none c =
      let l = sided (left_of u) s in
      let t = type_node a l in
      let r = sided (right_of u t.sort.kind) (step t.state) in
      let v = type_node b r in
      let late = back (infix_grows t.state.at o s.at (pos_in a) u t.sort v.sort v.state) c in
      infix_read t.state.at o s.at (pos_in a) u t.node v.node t.sort v.sort v.state
      (node_read a l (none_first (node_mark t.node) (node_mark v.node) none) (back (node_grows b r) late)) (node_read b r (none_second (node_mark t.node) (node_mark v.node) none) late) c
  form_read p o (choose a b e) s none c =
      let t = type_node a s in
      let v = type_node b (step t.state) in
      let w = type_node e (step v.state) in
      let late = back (rule_grows (choice_rule t.sort v.sort w.sort) t.state.at o w.state) c in
      let mid = back (node_grows e (step v.state)) late in
      let rest = none_second (node_mark t.node) (first (node_mark v.node) (node_mark w.node)) none in
      choice_read t.node v.node w.node t.sort v.sort w.sort t.state.at o w.state
      (node_read a s (none_first (node_mark t.node) (first (node_mark v.node) (node_mark w.node)) none) (back (node_grows b (step t.state)) mid))
      (node_read b (step t.state) (none_first (node_mark v.node) (node_mark w.node) rest) mid)
      (node_read e (step v.state) (none_second (node_mark v.node) (node_mark w.node) rest) late) c
  form_read p o (probe (simple u x) a) s none c = absurd (some_none p none)
  form_read p o (probe (select x cs) a) s none c = absurd (some_none p none)

pub values_are_read : ValuesAreRead
values_are_read a s none c = let r = node_read a s none (ap length c) in (r.alike.kinds, r.alike.values)
