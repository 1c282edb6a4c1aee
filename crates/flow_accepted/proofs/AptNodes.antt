-- In a plain expression in which nothing is complained of, the operands of `&` and `.` are no used places.
use Rattle.std.proofs.Common.{◌≡◌, ℕ, ◌++◌, List, [], ◌∷◌, length, Bool, true, false, Option, Some, None, refl, sym, ap, ◌∙◌, subst}
use Rattle.std.specs.Prelude.{if◌then◌else◌}
use Rattle.std.proofs.lemmas.Bool.{true≢false}
use Rattle.c_base.specs.declared.place.Pos.{Pos}
use Rattle.c_syntax.specs.declared.tree.UnaryOp.{UnaryOp}
use Rattle.c_syntax.specs.declared.tree.UnaryOp.TheVariants as front
use Rattle.c_syntax.specs.Shape.{TypeOf, int, pointer, array, structure, nothing, number, char, str, name, unary, before, size_of, plain, and, or, assign, comma, Access, dot, arrow, NodeShape, node, ExprShape, leaf, paren, call, prefix, size_of_type, cast, suffix, two, choose, probe, index, field, behind, simple, select, NodeShapes, no_nodes, more_nodes}
use Rattle.c_syntax.specs.Shaped.{Shaped, ShapedExpr, ShapedNodes}
use Rattle.c_type_rules.specs.Verdicts.{structure_type, cast_type}
use Rattle.c_type_rules.specs.Kinds.{decay}
use Rattle.c_constants.specs.declared.constants.Constant.{Constant}
use Rattle.c_constants.specs.declared.constants.Constant.TheVariants as constant
use Rattle.c_scopes.specs.Scoping.{find}
use Rattle.c_tree.specs.declared.meaning.Side.TheVariants.{Neither}
use Rattle.c_tree.specs.State.{State, step, steps, is_clean}
use Rattle.c_tree.specs.Rulings.{by, rule, kind_at, of_kind, allowed_if, comma_kind}
use Rattle.c_tree.specs.Sorts.{Sort, note_of, cleared, pos_in, changeable}
use Rattle.c_tree.specs.Operators.{called, Given, given_at, typed_call, typed_infix, left_of, right_of, sided, entering, unary_rule, place_rule, step_rule, choice_rule, element_rule, holder, field_rule}
use Rattle.c_tree.specs.Typing.{opening, type_node, type_form, type_arguments, type_type}
use Rattle.c_walk.specs.declared.around.Taken.TheVariants.{Read, Addressed}
use Rattle.c_walk.specs.Places.{is_place, has_scalar}
use Rattle.c_sites_probes.specs.Marked.{first, node_mark, form_mark, nodes_mark, type_mark}
use Rattle.probe_rules.proofs.ReadyUnits.{some_none, none_first, none_second}
use Rattle.c_tree.proofs.Grows.{rule_grows, typed_call_grows, infix_grows, node_grows, form_grows, arguments_grows}
use Rattle.probe_laws.proofs.Settled.{IsThere, IsClean, IsStructure, dot_held, structure_there}
use Rattle.probe_laws.proofs.Rules.{back, changeable_there, infix_there}
use Rattle.probe_laws.proofs.Known.{Knows, find_sure}
use Rattle.probe_laws.proofs.KnownParts.{called_knows}
use Rattle.probe_laws.proofs.KnownNodes.{node_knows, type_knows}
use Rattle.flow_calls.specs.Orderly.{is_used, form_is_used}
use Rattle.flow_accepted.proofs.Copies.{copies_apt}
use Rattle.flow_accepted.proofs.Apt.{Unused, Unread, IsApt, HasAptParts, AreApt}

-- ---- what is a place by its typing isn't used where its address is taken

if_place : (b : Bool) (t : TypeOf) → IsThere (kind_at (allowed_if b 32 t)) → b ≡ true
if_place true t h = refl
if_place false t h = absurd h

is_placed : (k : Option TypeOf) (b : Bool) → IsThere (kind_at (of_kind k (allowed_if b 32))) → b ≡ true
is_placed None b h = absurd h
is_placed (Some t) b h = if_place b t h

cleared_place : (b : Bool) (a : Sort) → (cleared b a).place ≡ true → a.place ≡ true
cleared_place true a e = e
cleared_place false a e = absurd (true≢false (sym e))

cleared_kind : (b : Bool) (a : Sort) (n : ℕ) → (cleared b a).kind ≡ Some (structure n) → a.kind ≡ Some (structure n)
cleared_kind true a n e = e
cleared_kind false a n e = cc

mutual
  unaddressed : (a : NodeShape) (s : State) → (type_node a s).sort.place ≡ true → is_used Addressed (type_node a s).node ≡ false
  unaddressed (node p o n f) s e = let t = type_form p o f (entering f s) in form_unaddressed p o f (entering f s) _ (cleared_place (is_clean s t.state) t.typing.sort e)

  form_unaddressed : (p o : Pos) (f : ExprShape) (s : State) (n : _) → (type_form p o f s).typing.sort.place ≡ true → form_is_used Addressed n (type_form p o f s).form ≡ false
  form_unaddressed p o (paren a) s n e = unaddressed a (step s) e
  form_unaddressed p o (two comma a b) s n e = absurd (true≢false (sym e))
  form_unaddressed p o (two (plain u) a b) s n e = refl
  form_unaddressed p o (two and a b) s n e = refl
  form_unaddressed p o (two or a b) s n e = refl
  form_unaddressed p o (two (assign u) a b) s n e = refl
  form_unaddressed p o (leaf (number x)) s n e = refl
  form_unaddressed p o (leaf (char x)) s n e = refl
  form_unaddressed p o (leaf (str x)) s n e = refl
  form_unaddressed p o (leaf (name x)) s n e = refl
  form_unaddressed p o (call x args) s n e = refl
  form_unaddressed p o (prefix (unary u) a) s n e = refl
  form_unaddressed p o (prefix (before u) a) s n e = refl
  form_unaddressed p o (prefix size_of a) s n e = refl
  form_unaddressed p o (size_of_type y) s n e = refl
  form_unaddressed p o (cast y a) s n e = refl
  form_unaddressed p o (suffix a (index b)) s n e = refl
  form_unaddressed p o (suffix a (field h x q)) s n e = refl
  form_unaddressed p o (suffix a (behind u)) s n e = refl
  form_unaddressed p o (choose a b d) s n e = refl
  form_unaddressed p o (probe (simple u x) a) s n e = refl
  form_unaddressed p o (probe (select x cs) a) s n e = refl

-- ---- a structure isn't read

unscalar : (b : Bool) (k : Option TypeOf) (c : Constant) (m : Option ℕ) (v : Bool) (n : ℕ) → k ≡ Some (structure n) → (if b then has_scalar (note_of k c m v) else false) ≡ false
unscalar false k c m v n e = refl
unscalar true None c m v n e = cc
unscalar true (Some (structure n)) (constant.Known k z) m true j e = refl
unscalar true (Some (structure n)) constant.No m true j e = refl
unscalar true (Some (structure n)) c m true j e = refl
unscalar true (Some (structure n)) c m false j e = refl
unscalar true (Some (int k)) c m v n e = cc
unscalar true (Some (pointer t)) c m v n e = cc
unscalar true (Some (array t k)) c m v n e = cc
unscalar true (Some nothing) c m v n e = cc

decay_structure : (u : TypeOf) (n : ℕ) → Some (decay u) ≡ Some (structure n) → Some u ≡ Some (structure n)
decay_structure (array t k) n e = cc
decay_structure (int k) n e = e
decay_structure (pointer t) n e = e
decay_structure (structure k) n e = e
decay_structure nothing n e = e

comma_structure : (a b : Option TypeOf) (n : ℕ) → kind_at (comma_kind a b) ≡ Some (structure n) → b ≡ Some (structure n)
comma_structure None b n e = cc
comma_structure (Some t) None n e = e
comma_structure (Some t) (Some u) n e = decay_structure u n e

mutual
  unread : (a : NodeShape) (s : State) (n : ℕ) → (type_node a s).sort.kind ≡ Some (structure n) → is_used Read (type_node a s).node ≡ false
  unread (node p o m f) s n e =
      let t = type_form p o f (entering f s) in
      form_unread p o f (entering f s) n (cleared (is_clean s t.state) t.typing.sort).kind e (cleared_kind (is_clean s t.state) t.typing.sort n e)

  form_unread : (p o : Pos) (f : ExprShape) (s : State) (n : ℕ) (k : Option TypeOf) → k ≡ Some (structure n) → (type_form p o f s).typing.sort.kind ≡ Some (structure n)
      → (let t = type_form p o f s in form_is_used Read (note_of k t.typing.sort.constant t.typing.names t.typing.valued) t.form ≡ false)
  form_unread p o (paren a) s n k e h = unread a (step s) n h
  form_unread p o (two comma a b) s n k e h = let t = type_node a (sided Neither s) in let v = type_node b (sided Neither (step t.state)) in unread b (sided Neither (step t.state)) n (comma_structure t.sort.kind v.sort.kind n h)
  form_unread p o (leaf (number x)) s n k e h = refl
  form_unread p o (leaf (char x)) s n k e h = refl
  form_unread p o (leaf (str x)) s n k e h = refl
  form_unread p o (leaf (name x)) s n k e h = unscalar true k _ _ _ n e
  form_unread p o (call x args) s n k e h = refl
  form_unread p o (prefix (unary front.Deref) a) s n k e h = unscalar true k _ _ _ n e
  form_unread p o (prefix (unary front.AddressOf) a) s n k e h = refl
  form_unread p o (prefix (unary front.Plus) a) s n k e h = refl
  form_unread p o (prefix (unary front.Minus) a) s n k e h = refl
  form_unread p o (prefix (unary front.Flip) a) s n k e h = refl
  form_unread p o (prefix (unary front.Not) a) s n k e h = refl
  form_unread p o (prefix (before u) a) s n k e h = refl
  form_unread p o (prefix size_of a) s n k e h = refl
  form_unread p o (size_of_type y) s n k e h = refl
  form_unread p o (cast y a) s n k e h = refl
  form_unread p o (suffix a (index b)) s n k e h = unscalar true k _ _ _ n e
  form_unread p o (suffix a (field g x q)) s n k e h = unscalar true k _ _ _ n e
  form_unread p o (suffix a (behind u)) s n k e h = refl
  form_unread p o (two (plain u) a b) s n k e h = refl
  form_unread p o (two and a b) s n k e h = refl
  form_unread p o (two or a b) s n k e h = refl
  form_unread p o (two (assign u) a b) s n k e h = refl
  form_unread p o (choose a b d) s n k e h = refl
  form_unread p o (probe (simple u x) a) s n k e h = refl
  form_unread p o (probe (select x cs) a) s n k e h = refl

-- ---- operands

operand_unused : (u : UnaryOp) (a : NodeShape) (s : State) (token : ℕ) (o : Pos) (head : ℕ) (p : Pos) → (let t = type_node a s in IsThere t.sort.kind → IsClean (rule (unary_rule u t.state.rooms t.sort) token o (rule (place_rule u t.sort) head p t.state)) → Unused u t.node)
operand_unused front.AddressOf a s token o head p is c =
    let t = type_node a s in
    unaddressed a s (is_placed t.sort.kind t.sort.place (changeable_there (unary_rule front.AddressOf t.state.rooms t.sort) t.sort token o head p t.state is c))
operand_unused front.Deref a s token o head p is c = tt
operand_unused front.Plus a s token o head p is c = tt
operand_unused front.Minus a s token o head p is c = tt
operand_unused front.Flip a s token o head p is c = tt
operand_unused front.Not a s token o head p is c = tt

structure_of : (k : Option TypeOf) → IsStructure (kind_at (by 33 (structure_type k))) → (n : ℕ) × (k ≡ Some (structure n))
structure_of None h = absurd h
structure_of (Some (structure n)) h = (n, refl)
structure_of (Some (int k)) h = absurd h
structure_of (Some (pointer t)) h = absurd h
structure_of (Some (array t n)) h = absurd h
structure_of (Some nothing) h = absurd h

holder_unread : (g : Access) (a : NodeShape) (s : State) (token : ℕ) (o : Pos) → (let t = type_node a s in IsThere t.sort.kind → IsClean (rule (holder g t.state.rooms t.sort.kind) token o t.state) → Unread g t.node)
holder_unread arrow a s token o is c = tt
holder_unread dot a s token o is c =
    let t = type_node a s in
    let k = structure_of t.sort.kind (structure_there (holder dot t.state.rooms t.sort.kind) token o t.state (dot_held t.sort.kind is) c) in
    unread a s k.0 k.1

-- ---- expressions

mutual
  pub node_apt : (a : NodeShape) (s : State) → Shaped a → node_mark (type_node a s).node ≡ None → Knows false s → IsClean (type_node a s).state → IsApt (type_node a s).node
  node_apt (node p o n f) s is m h c = form_apt p o f (entering f s) is.1 m h c

  form_apt : (p o : Pos) (f : ExprShape) (s : State) → ShapedExpr f → form_mark p (type_form p o f s).form ≡ None → Knows false s → IsClean (type_form p o f s).state → HasAptParts (type_form p o f s).form
  form_apt p o (leaf (number t)) s is m h c = tt
  form_apt p o (leaf (char x)) s is m h c = tt
  form_apt p o (leaf (str t)) s is m h c = tt
  form_apt p o (leaf (name x)) s is m h c = tt
  form_apt p o (paren a) s is m h c = node_apt a (step s) is m h c
  form_apt p o (call x args) s is m h c =
      let f = called p x s in
      let t = type_arguments [] args (steps (opening args) f.state) in
      let late = back (typed_call_grows p s.at (is_clean f.state t.state) f.function t.given t.state) c in
      let early = back (arguments_grows [] args (steps (opening args) f.state)) late in
      let one = called_knows false p (find x s.names) s (find_sure false (length s.tables.functions) x s.names h) h early in
      arguments_apt [] args (steps (opening args) f.state) is m one.0.0 late
  form_apt p o (prefix (unary u) a) s is m h c =
      let t = type_node a (step s) in
      let v = rule (place_rule u t.sort) (step s).at (pos_in a) t.state in
      let q = unary_rule u t.state.rooms t.sort in
      let late = back (rule_grows (place_rule u t.sort) (step s).at (pos_in a) t.state) (back (rule_grows q s.at o v) c) in
      let one = node_knows a (step s) is.1 h late in
      (node_apt a (step s) is.1 m h late, operand_unused u a (step s) s.at o (step s).at (pos_in a) one.0 c)
  form_apt p o (prefix (before u) a) s is m h c =
      let t = type_node a (step s) in
      let v = rule (changeable t.sort) (step s).at (pos_in a) t.state in
      let q = step_rule t.state.rooms t.sort in
      node_apt a (step s) is.1 m h (back (rule_grows (changeable t.sort) (step s).at (pos_in a) t.state) (back (rule_grows q s.at o v) c))
  form_apt p o (prefix size_of a) s is m h c = tt
  form_apt p o (size_of_type y) s is m h c = tt
  form_apt p o (cast y a) s is m h c =
      let k = type_type y (step s) in
      let t = type_node a (step k.state) in
      let late = back (rule_grows (by 33 (cast_type k.kind t.sort.kind)) s.at o t.state) c in
      let one = type_knows y (step s) is.0 h (back (node_grows a (step k.state)) late) in
      node_apt a (step k.state) is.2 (none_second (type_mark k.type) (node_mark t.node) m) one.1.0 late
  form_apt p o (suffix a (index e)) s is m h c =
      let t = type_node a s in
      let v = type_node e (step t.state) in
      let q = element_rule v.state.rooms t.sort v.sort in
      let late = back (rule_grows q t.state.at o v.state) c in
      let early = back (node_grows e (step t.state)) late in
      let one = node_knows a s is.1 h early in
      (node_apt a s is.1 (none_first (node_mark t.node) (node_mark v.node) m) h early, node_apt e (step t.state) is.2 (none_second (node_mark t.node) (node_mark v.node) m) one.1.0 late)
  form_apt p o (suffix a (field g x q)) s is m h c =
      let t = type_node a s in
      let d = holder g t.state.rooms t.sort.kind in
      let v = step (rule d t.state.at o t.state) in
      let f = of_kind (kind_at d) (field_rule x t.state) in
      let ruled = back (rule_grows f v.at q v) c in
      let late = back (rule_grows d t.state.at o t.state) ruled in
      let one = node_knows a s is.1 h late in
      (node_apt a s is.1 (none_first (node_mark t.node) None m) h late, holder_unread g a s t.state.at o one.0 ruled)
  form_apt p o (suffix a (behind u)) s is m h c =
      let t = type_node a s in
      let v = rule (changeable t.sort) s.at (pos_in a) (step t.state) in
      let q = step_rule t.state.rooms t.sort in
      node_apt a s is.1 (none_first (node_mark t.node) None m) h (back (rule_grows (changeable t.sort) s.at (pos_in a) (step t.state)) (back (rule_grows q t.state.at o v) c))
  form_apt p o (two u a e) s is m h c =
      let t = type_node a (sided (left_of u) s) in
      let w = sided (right_of u t.sort.kind) (step t.state) in
      let v = type_node e w in
      let late = back (infix_grows t.state.at o s.at (pos_in a) u t.sort v.sort v.state) c in
      let early = back (node_grows e w) late in
      let one = node_knows a (sided (left_of u) s) is.2 h early in
      let front = none_first (node_mark t.node) (node_mark v.node) m in
      let behind = none_second (node_mark t.node) (node_mark v.node) m in
      let other = node_knows e w is.4 one.1.0 late in (
        node_apt a (sided (left_of u) s) is.2 front h early,
        node_apt e w is.4 behind one.1.0 late,
        copies_apt u a e (sided (left_of u) s) w v.state.rooms front behind
            (λ z. infix_there t.state.at o s.at (pos_in a) (assign None) t.sort v.sort v.state one.0 other.0 (subst (λ y. IsClean (typed_infix t.state.at o s.at (pos_in a) y t.sort v.sort v.state).state) z c)),
      )
  form_apt p o (choose a e g) s is m h c =
      let t = type_node a s in
      let v = type_node e (step t.state) in
      let w = type_node g (step v.state) in
      let late = back (rule_grows (choice_rule t.sort v.sort w.sort) t.state.at o w.state) c in
      let mid = back (node_grows g (step v.state)) late in
      let early = back (node_grows e (step t.state)) mid in
      let one = node_knows a s is.1 h early in
      let other = node_knows e (step t.state) is.2 one.1.0 mid in
      let rest = none_second (node_mark t.node) (first (node_mark v.node) (node_mark w.node)) m in (
        node_apt a s is.1 (none_first (node_mark t.node) (first (node_mark v.node) (node_mark w.node)) m) h early,
        node_apt e (step t.state) is.2 (none_first (node_mark v.node) (node_mark w.node) rest) one.1.0 mid,
        node_apt g (step v.state) is.4 (none_second (node_mark v.node) (node_mark w.node) rest) other.1.0 late,
      )
  form_apt p o (probe (simple u x) a) s is m h c = absurd (some_none p m)
  form_apt p o (probe (select x cs) a) s is m h c = absurd (some_none p m)

  arguments_apt : (gs : List Given) (es : NodeShapes) (s : State) → ShapedNodes 1 es → nodes_mark (type_arguments gs es s).nodes ≡ None → Knows false s → IsClean (type_arguments gs es s).state → AreApt (type_arguments gs es s).nodes
  arguments_apt gs no_nodes s is m h c = tt
  arguments_apt gs (more_nodes a rest) s is m h c =
      let t = type_node a (step s) in
      let gs = gs ++ given_at (step s).at (pos_in a) t.sort ∷ [] in
      let y = type_arguments gs rest t.state in
      let early = back (arguments_grows gs rest t.state) c in
      let one = node_knows a (step s) is.1 h early in
      (node_apt a (step s) is.1 (none_first (node_mark t.node) (nodes_mark y.nodes) m) h early, arguments_apt gs rest t.state is.2 (none_second (node_mark t.node) (nodes_mark y.nodes) m) one.1.0 c)
