-- Typing notes in each expression the types of the rows.
use Rattle.std.proofs.Common.{List, [], ◌∷◌, ◌++◌, Bool, ◌∙◌}
use Rattle.c_base.specs.declared.place.Pos.{Pos}
use Rattle.c_syntax.specs.Shape.{number, char, str, name, unary, before, size_of, dot, arrow, NodeShape, node, ExprShape, leaf, paren, call, prefix, size_of_type, cast, suffix, two, choose, probe, index, field, behind, simple, select, test, NodeShapes, no_nodes, more_nodes}
use Rattle.c_scopes.specs.Scoping.{find}
use Rattle.c_tables.specs.Tables.{TablesShape}
use Rattle.c_tree.specs.State.{State, step, steps, is_clean}
use Rattle.c_tree.specs.Rulings.{rule}
use Rattle.c_tree.specs.Sorts.{note_of, cleared, pos_in, changeable}
use Rattle.c_tree.specs.Operators.{called, Given, given_at, left_of, right_of, sided, entering, place_rule, choice_rule, holder, claim}
use Rattle.c_tree.specs.Typing.{opening, type_node, type_form, type_arguments, type_type, type_cases}
use Rattle.c_walk.specs.Places.{has_array}
use Rattle.flow_initial.proofs.Cores.{Core, core, KeptByAll, ◌▸◌}
use Rattle.flow_initial.proofs.KeepsNodes as nodes
use Rattle.flow_leaves.specs.Kinded.{kind_of, element_in, HasKind, IsKinded, HasKindedParts, AreKinded}
use Rattle.flow_accepted.proofs.Along.{Along, up_to, onward}
use Rattle.flow_accepted.proofs.Keeping as keeping
use Rattle.flow_accepted.proofs.Notes.{sort_noted, typed_if, either_typed, name_there, left_element, right_element, field_there}

module _ (t : TablesShape) where
  -- ---- notes

  abbrev IsNoted : Pos → Pos → ExprShape → State → Bool → Type 0
  IsNoted p o f s b = let y = type_form p o f s in HasKind t (note_of (cleared b y.typing.sort).kind y.typing.sort.constant y.typing.names y.typing.valued) y.form

  kinded : (p o : Pos) (f : ExprShape) (s : State) (b : Bool) → ((J : Core → Type 0) → KeptByAll J → J (core s) → J (core (type_form p o f s).state)) → Along t s (type_form p o f s).state → IsNoted p o f s b
  kinded p o (leaf (name x)) s b all g = let r = up_to t s s (type_form p o (leaf (name x)) s).state (λ J kept h. h) all g in name_there t b p (find x s.names) s r.1
  kinded p o (paren a) s b all g = let y = type_node a (step s) in typed_if b y.sort y.sort.constant (kind_of y.node) (λ k e. sort_noted a (step s) ∙ e)
  kinded p o (suffix a (field dot x q)) s b all g =
      let y = type_node a s in
      let l = (type_form p o (suffix a (field dot x q)) s).typing.sort in
      let d = holder dot y.state.rooms y.sort.kind in
      let v = step (rule d y.state.at o y.state) in
      let u = (type_form p o (suffix a (field dot x q)) s).state in
      let typed : (J : Core → Type 0) → KeptByAll J → J (core s) → J (core y.state) = λ J kept. nodes.node_keeps J kept.types a s in
      let h = onward t s y.state y.state typed (up_to t s y.state u typed (λ J kept. nodes.rule_keeps J kept.types d y.state.at o y.state ▸ nodes.rule_keeps J kept.types _ v.at q v) g) in
      typed_if b l l.constant _ (λ k e. field_there t x y.state y.node y.sort.kind k (sort_noted a s) h.0 h.1 e)
  kinded p o (suffix a (index e)) s b all g =
      let y = type_node a s in
      let v = type_node e (step y.state) in
      let l = (type_form p o (suffix a (index e)) s).typing.sort in
      either_typed _ (has_array y.node) (has_array v.node) (element_in (kind_of y.node)) (element_in (kind_of v.node))
      (λ is. typed_if b l l.constant _ (λ k h. left_element v.state.rooms y.node y.sort.kind v.sort.kind k (sort_noted a s) is h))
      (λ is. typed_if b l l.constant _ (λ k h. right_element v.state.rooms y.sort.kind v.node v.sort.kind k (sort_noted e (step y.state)) is h))
  kinded p o (suffix a (field arrow x q)) s b all g = tt
  kinded p o (leaf (number x)) s b all g = tt
  kinded p o (leaf (char x)) s b all g = tt
  kinded p o (leaf (str x)) s b all g = tt
  kinded p o (call x args) s b all g = tt
  kinded p o (prefix (unary u) a) s b all g = tt
  kinded p o (prefix (before u) a) s b all g = tt
  kinded p o (prefix size_of a) s b all g = tt
  kinded p o (size_of_type y) s b all g = tt
  kinded p o (cast y a) s b all g = tt
  kinded p o (suffix a (behind u)) s b all g = tt
  kinded p o (two u a e) s b all g = tt
  kinded p o (choose a e d) s b all g = tt
  kinded p o (probe (simple u x) a) s b all g = tt
  kinded p o (probe (select x cs) a) s b all g = tt

  -- ---- expressions

  mutual
    pub node_kinded : (a : NodeShape) (s : State) → Along t s (type_node a s).state → IsKinded t (type_node a s).node
    node_kinded (node p o n f) s g =
        let v = entering f s in
        (kinded p o f v (is_clean s (type_form p o f v).state) (λ J kept. nodes.node_keeps J kept.types (node p o n f) s) g, parts_kinded p o f v g)

    parts_kinded : (p o : Pos) (f : ExprShape) (s : State) → Along t s (type_form p o f s).state → HasKindedParts t (type_form p o f s).form
    parts_kinded p o (leaf (number x)) s g = tt
    parts_kinded p o (leaf (char x)) s g = tt
    parts_kinded p o (leaf (str x)) s g = tt
    parts_kinded p o (leaf (name x)) s g = tt
    parts_kinded p o (paren a) s g = node_kinded a (step s) g
    parts_kinded p o (call x args) s g =
        let c = called p x s in
        let u = steps (opening args) c.state in
        let y = type_arguments [] args u in
        let end = (type_form p o (call x args) s).state in
        let h = onward t s u end (λ J kept. keeping.called_keeps J kept.types p (find x s.names) s) g in
        arguments_kinded [] args u (up_to t u y.state end (λ J kept. keeping.arguments_keep J kept.types [] args u) (λ J kept. keeping.typed_call_keeps J kept.types p s.at (is_clean c.state y.state) c.function y.given y.state) h)
    parts_kinded p o (prefix (unary u) a) s g =
        let y = type_node a (step s) in
        let v = rule (place_rule u y.sort) (step s).at (pos_in a) y.state in
        node_kinded a (step s) (up_to t s y.state (type_form p o (prefix (unary u) a) s).state (λ J kept. nodes.node_keeps J kept.types a (step s)) (λ J kept. nodes.rule_keeps J kept.types (place_rule u y.sort) (step s).at (pos_in a) y.state ▸ nodes.rule_keeps J kept.types _ s.at o v) g)
    parts_kinded p o (prefix (before u) a) s g =
        let y = type_node a (step s) in
        let v = rule (changeable y.sort) (step s).at (pos_in a) y.state in
        node_kinded a (step s) (up_to t s y.state (type_form p o (prefix (before u) a) s).state (λ J kept. nodes.node_keeps J kept.types a (step s)) (λ J kept. nodes.rule_keeps J kept.types (changeable y.sort) (step s).at (pos_in a) y.state ▸ nodes.rule_keeps J kept.types _ s.at o v) g)
    parts_kinded p o (prefix size_of a) s g = tt
    parts_kinded p o (size_of_type y) s g = tt
    parts_kinded p o (cast k a) s g =
        let z = type_type k (step s) in
        let y = type_node a (step z.state) in
        let end = (type_form p o (cast k a) s).state in
        let h = onward t s z.state end (λ J kept. keeping.type_keeps J kept.types k (step s)) g in
        node_kinded a (step z.state) (up_to t z.state y.state end (λ J kept. nodes.node_keeps J kept.types a (step z.state)) (λ J kept. nodes.rule_keeps J kept.types _ s.at o y.state) h)
    parts_kinded p o (suffix a (index e)) s g =
        let y = type_node a s in
        let v = type_node e (step y.state) in
        let end = (type_form p o (suffix a (index e)) s).state in
        let h = up_to t s v.state end (λ J kept. nodes.node_keeps J kept.types a s ▸ nodes.node_keeps J kept.types e (step y.state)) (λ J kept. nodes.rule_keeps J kept.types _ y.state.at o v.state) g in (
          node_kinded a s (up_to t s y.state v.state (λ J kept. nodes.node_keeps J kept.types a s) (λ J kept. nodes.node_keeps J kept.types e (step y.state)) h),
          node_kinded e (step y.state) (onward t s y.state v.state (λ J kept. nodes.node_keeps J kept.types a s) h),
        )
    parts_kinded p o (suffix a (field k x q)) s g =
        let y = type_node a s in
        let d = holder k y.state.rooms y.sort.kind in
        let v = step (rule d y.state.at o y.state) in
        node_kinded a s (up_to t s y.state (type_form p o (suffix a (field k x q)) s).state (λ J kept. nodes.node_keeps J kept.types a s) (λ J kept. nodes.rule_keeps J kept.types d y.state.at o y.state ▸ nodes.rule_keeps J kept.types _ v.at q v) g)
    parts_kinded p o (suffix a (behind u)) s g =
        let y = type_node a s in
        let v = rule (changeable y.sort) s.at (pos_in a) (step y.state) in
        node_kinded a s (up_to t s y.state (type_form p o (suffix a (behind u)) s).state (λ J kept. nodes.node_keeps J kept.types a s) (λ J kept. nodes.rule_keeps J kept.types (changeable y.sort) s.at (pos_in a) (step y.state) ▸ nodes.rule_keeps J kept.types _ y.state.at o v) g)
    parts_kinded p o (two u a e) s g =
        let l = sided (left_of u) s in
        let y = type_node a l in
        let r = sided (right_of u y.sort.kind) (step y.state) in
        let v = type_node e r in
        let end = (type_form p o (two u a e) s).state in
        let h = up_to t l v.state end (λ J kept. nodes.node_keeps J kept.types a l ▸ nodes.node_keeps J kept.types e r) (λ J kept. keeping.infix_keeps J kept.types y.state.at o s.at (pos_in a) u y.sort v.sort v.state) g in
        (node_kinded a l (up_to t l y.state v.state (λ J kept. nodes.node_keeps J kept.types a l) (λ J kept. nodes.node_keeps J kept.types e r) h), node_kinded e r (onward t l y.state v.state (λ J kept. nodes.node_keeps J kept.types a l) h))
    parts_kinded p o (choose a e d) s g =
        let y = type_node a s in
        let v = type_node e (step y.state) in
        let w = type_node d (step v.state) in
        let end = (type_form p o (choose a e d) s).state in
        let h = up_to t s w.state end (λ J kept. nodes.node_keeps J kept.types a s ▸ nodes.node_keeps J kept.types e (step y.state) ▸ nodes.node_keeps J kept.types d (step v.state)) (λ J kept. nodes.rule_keeps J kept.types (choice_rule y.sort v.sort w.sort) y.state.at o w.state) g in
        let l = onward t s y.state w.state (λ J kept. nodes.node_keeps J kept.types a s) h in (
          node_kinded a s (up_to t s y.state w.state (λ J kept. nodes.node_keeps J kept.types a s) (λ J kept. nodes.node_keeps J kept.types e (step y.state) ▸ nodes.node_keeps J kept.types d (step v.state)) h),
          node_kinded e (step y.state) (up_to t y.state v.state w.state (λ J kept. nodes.node_keeps J kept.types e (step y.state)) (λ J kept. nodes.node_keeps J kept.types d (step v.state)) l),
          node_kinded d (step v.state) (onward t y.state v.state w.state (λ J kept. nodes.node_keeps J kept.types e (step y.state)) l),
        )
    parts_kinded p o (probe (simple u x) a) s g =
        let v = steps 4 (claim u x s.at p s) in
        let y = type_node a v in
        let end = (type_form p o (probe (simple u x) a) s).state in
        let h = onward t s v end (λ J kept. nodes.claim_keeps J kept.types u x s.at p s) g in
        node_kinded a v (up_to t v y.state end (λ J kept. nodes.node_keeps J kept.types a v) (λ J kept. nodes.rule_keeps J kept.types _ s.at p y.state) h)
    parts_kinded p o (probe (select x cs) a) s g =
        let v = steps 3 (claim test x s.at p s) in
        let z = type_cases [] cs v in
        let y = type_node a (step z.state) in
        let end = (type_form p o (probe (select x cs) a) s).state in
        let h = onward t s z.state end (λ J kept. nodes.claim_keeps J kept.types test x s.at p s ▸ keeping.cases_keep J kept.types [] cs v) g in
        node_kinded a (step z.state) (up_to t z.state y.state end (λ J kept. nodes.node_keeps J kept.types a (step z.state)) (λ J kept. nodes.rule_keeps J kept.types _ s.at p y.state) h)

    arguments_kinded : (gs : List Given) (es : NodeShapes) (s : State) → Along t s (type_arguments gs es s).state → AreKinded t (type_arguments gs es s).nodes
    arguments_kinded gs no_nodes s g = tt
    arguments_kinded gs (more_nodes a rest) s g =
        let y = type_node a (step s) in
        let gs = gs ++ given_at (step s).at (pos_in a) y.sort ∷ [] in
        let end = (type_arguments gs rest y.state).state in
        let typed : (J : Core → Type 0) → KeptByAll J → J (core s) → J (core y.state) = λ J kept. nodes.node_keeps J kept.types a (step s) in
        (node_kinded a (step s) (up_to t s y.state end typed (λ J kept. keeping.arguments_keep J kept.types gs rest y.state) g), arguments_kinded gs rest y.state (onward t s y.state end typed g))
