-- Labels, and expressions of statements, are typed alike from states that are alike.
use Rattle.std.proofs.Common.{◌≡◌, ℕ, ℤ, List, [], ◌∷◌, Option, Some, None, refl, sym, ap, ap₂, subst}
use Rattle.std.specs.Prelude.{not}
use Rattle.c_base.specs.declared.place.Pos.{Pos}
use Rattle.c_syntax.specs.Shape.{TypeOf, MaybeNode, no_node, one_node, LabelShape, case, default}
use Rattle.c_constants.specs.Constants as constants
use Rattle.c_type_rules.specs.Verdicts.{truth_type, promoted_type}
use Rattle.c_tree.specs.State.{Seen, State, step}
use Rattle.c_tree.specs.Rulings.{Ruled, by, rule}
use Rattle.c_tree.specs.Sorts.{Sort, TypedNode, pos_in}
use Rattle.c_tree.specs.Operators.{constant_rule}
use Rattle.c_tree.specs.Typing.{type_node}
use Rattle.c_tree.specs.Stating.{Labels, tested, switched, TypedMaybe, type_maybe, type_test, result_rule, type_result, comes_twice, as_kind, case_state, default_state, case_labels, default_labels, TypedLabels, type_labels}
use Rattle.c_sites_probes.specs.Marked.{node_mark, maybe_mark, labels_mark}
use Rattle.probe_rules.proofs.ReadyUnits.{none_first, none_second}
use Rattle.probe_rules.proofs.Moved.{Alike, steps_alike, complain_alike, demand_alike, rule_alike, judged_by}
use Rattle.probe_rules.proofs.MovedNodes.{node_alike}

module _ (n m : ℕ) (seen : Seen) where
  -- ---- expressions in statements

  pub record AlikeMaybe (x y : TypedMaybe) : Type 0 where
    pub node : y.node ≡ x.node
    pub state : Alike n m seen x.state y.state

  -- a rule that is the same, wherever it is complained of
  pub ruled_there : (r r' : Ruled) (token token' : ℕ) (p q : Pos) → r' ≡ r → {s t : State} → Alike n m seen s t → Alike n m seen (rule r token p s) (rule r' token' q t)
  ruled_there r r' token token' p q e {s} {t} al = subst (λ z. Alike n m seen (rule r token p s) (rule z token' q t)) (sym e) (rule_alike n m seen r token token' p q al)

  -- tests of the same truth, in trees that may differ by probes
  pub tested_alike : (head head' : ℕ) (x y : TypedNode) → truth_type y.sort.kind ≡ truth_type x.sort.kind → Alike n m seen x.state y.state → Alike n m seen (tested head x) (tested head' y)
  tested_alike head head' x y e al = ruled_there _ _ head head' (pos_in x.node) (pos_in y.node) (ap (by 33) e) al

  pub switched_same : (x y : TypedNode) → promoted_type y.sort.kind ≡ promoted_type x.sort.kind → switched y ≡ switched x
  switched_same x y e = ap (by 33) e

  pub switched_alike : (head head' : ℕ) (x y : TypedNode) → promoted_type y.sort.kind ≡ promoted_type x.sort.kind → Alike n m seen x.state y.state →
      Alike n m seen (rule (switched x) head (pos_in x.node) x.state) (rule (switched y) head' (pos_in y.node) y.state)
  switched_alike head head' x y e al = ruled_there _ _ head head' (pos_in x.node) (pos_in y.node) (switched_same x y e) al

  pub maybe_alike : (e : MaybeNode) → maybe_mark e ≡ None → {s t : State} → Alike n m seen s t → AlikeMaybe (type_maybe e s) (type_maybe e t)
  maybe_alike no_node none al = record { node = refl; state = al }
  maybe_alike (one_node a) none al =
      let i = node_alike n m seen a none al in
      record { node = ap one_node i.node; state = i.state }

  pub test_alike : (e : MaybeNode) → maybe_mark e ≡ None → {s t : State} → Alike n m seen s t → AlikeMaybe (type_test e s) (type_test e t)
  test_alike no_node none al = record { node = refl; state = al }
  test_alike (one_node a) none {s} {t} al =
      let i = node_alike n m seen a none al in
      record { node = ap one_node i.node; state = tested_alike s.at t.at (type_node a s) (type_node a t) (ap (λ (z : Sort). truth_type z.kind) i.sort) i.state }

  pub result_alike : (token token' : ℕ) (p : Pos) (k : Option TypeOf) (e : MaybeNode) → maybe_mark e ≡ None → {s t : State} → Alike n m seen s t → AlikeMaybe (type_result token p k e s) (type_result token' p k e t)
  result_alike token token' p k no_node none al = record { node = refl; state = al }
  result_alike token token' p k (one_node a) none {s} {t} al =
      let i = node_alike n m seen a none al in
      record { node = ap one_node i.node; state = judged_by n m seen (result_rule k) (type_node a s) (type_node a t) token token' p i }

  -- ---- labels

  pub record AlikeLabels (x y : TypedLabels) : Type 0 where
    pub labels : y.labels ≡ x.labels
    pub so_far : y.so_far ≡ x.so_far
    pub state : Alike n m seen x.state y.state

  same_case : (token token' : ℕ) (p : Pos) (o : Option Labels) (v : Option ℤ) {s t : State} → Alike n m seen s t → Alike n m seen (case_state token p o v s) (case_state token' p o v t)
  same_case token token' p None v al = complain_alike n m seen 37 token token' p p al
  same_case token token' p (Some l) v al = demand_alike n m seen (not (comes_twice l.kind (as_kind l.kind v) l.values)) 36 token token' p al

  pub case_state_alike : (token token' : ℕ) (p : Pos) (o o' : Option Labels) (v v' : Option ℤ) → o' ≡ o → v' ≡ v → {s t : State} → Alike n m seen s t → Alike n m seen (case_state token p o v s) (case_state token' p o' v' t)
  case_state_alike token token' p o o' v v' e d {s} {t} al =
      subst (λ y. Alike n m seen (case_state token p o v s) (case_state token' p y v' t)) (sym e) (subst (λ z. Alike n m seen (case_state token p o v s) (case_state token' p o z t)) (sym d) (same_case token token' p o v al))

  same_default : (token token' : ℕ) (p : Pos) (o : Option Labels) {s t : State} → Alike n m seen s t → Alike n m seen (default_state token p o s) (default_state token' p o t)
  same_default token token' p None al = complain_alike n m seen 37 token token' p p al
  same_default token token' p (Some l) al = demand_alike n m seen (not l.default) 36 token token' p al

  pub default_state_alike : (token token' : ℕ) (p : Pos) (o o' : Option Labels) → o' ≡ o → {s t : State} → Alike n m seen s t → Alike n m seen (default_state token p o s) (default_state token' p o' t)
  default_state_alike token token' p o o' e {s} {t} al = subst (λ z. Alike n m seen (default_state token p o s) (default_state token' p z t)) (sym e) (same_default token token' p o al)

  -- labels, directly in a switch or not
  pub labels_alike : (o o' : Option Labels) (ls : List LabelShape) → o' ≡ o → labels_mark ls ≡ None → {s t : State} → Alike n m seen s t → AlikeLabels (type_labels o ls s) (type_labels o' ls t)
  labels_alike o o' [] e none al = record { labels = refl; so_far = e; state = al }
  labels_alike o o' (case p a ∷ rest) e none {s} {t} al =
      let x = type_node a (step s) in
      let y = type_node a (step t) in
      let i = node_alike n m seen a (none_first (node_mark a) (labels_mark rest) none) (steps_alike n m seen 1 al) in
      let v = ap (λ (z : Sort). constants.value z.constant) i.sort in
      let c = case_state_alike s.at t.at p o o' (constants.value x.sort.constant) (constants.value y.sort.constant) e v (judged_by n m seen constant_rule x y (step s).at (step t).at (pos_in a) i) in
      let j = labels_alike (case_labels o (constants.value x.sort.constant)) (case_labels o' (constants.value y.sort.constant)) rest (ap₂ case_labels e v) (none_second (node_mark a) (labels_mark rest) none) (steps_alike n m seen 1 c) in
      record { labels = ap₂ (λ y z. case p y ∷ z) i.node j.labels; so_far = j.so_far; state = j.state }
  labels_alike o o' (default p ∷ rest) e none {s} {t} al =
      let j = labels_alike (default_labels o) (default_labels o') rest (ap default_labels e) none (steps_alike n m seen 2 (default_state_alike s.at t.at p o o' e al)) in
      record { labels = ap (λ z. default p ∷ z) j.labels; so_far = j.so_far; state = j.state }
