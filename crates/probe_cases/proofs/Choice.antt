-- What a switch chooses by is typed with its select probe, where it is typed as it stands with the probes in it.
use Rattle.std.proofs.Common.{◌≡◌, ℕ, ◌+◌, ◌≤◌, ℤ, List, length, nat_eq, Some, None, true, false, refl, sym, ap, subst, ◌∙◌, arith}
use Rattle.std.specs.Fmt.{decimal}
use Rattle.std.proofs.lemmas.Bool.Decides.{nat_tests}
use Rattle.c_base.specs.declared.place.Pos.{Pos}
use Rattle.c_base.specs.declared.place.IntKind.{IntKind}
use Rattle.c_syntax.specs.Shape.{int, test, NodeShape, node, ItemShapes, switch}
use Rattle.c_syntax.specs.Shaped.{ShapedForm}
use Rattle.c_type_rules.specs.Kinds.{promote}
use Rattle.c_constants.specs.declared.constants.Constant.TheVariants.{No}
use Rattle.c_sites_probes.specs.Marked.{body_mark}
use Rattle.c_tree.specs.State.{Seen, State, step, steps, is_clean}
use Rattle.c_tree.specs.Rulings.{rule}
use Rattle.c_tree.specs.Sorts.{Sort, TypedNode, a_value, pos_in}
use Rattle.c_tree.specs.Operators.{claim, sided}
use Rattle.c_tree.specs.Typing.{type_node}
use Rattle.c_tree.specs.Stating.{Surroundings, in_switch, no_labels, switched, type_items, type_body}
use Rattle.c_walk.specs.declared.around.Around.{Around}
use Rattle.c_walk.specs.declared.around.Taken.TheVariants.{Read}
use Rattle.c_walk.specs.Items.{Outcomes, cases}
use Rattle.c_walk.specs.Tests.{choosing, case_values}
use Rattle.c_walk.specs.Walked.{Walked, next_decision, with_decision, pos_of, inside}
use Rattle.probe_rules.specs.Marks.{in_select}
use Rattle.probe_rules.specs.ProbedExpressions.{probed_node, probed_choice}
use Rattle.probe_rules.proofs.Claims.{seen_at, test_claimed}
use Rattle.c_tree.proofs.Grows.{rule_grows, node_grows}
use Rattle.c_tree.proofs.GrowsUnits.{items_grow}
use Rattle.probe_rules.proofs.Moved.{Alike, sided_alike}
use Rattle.probe_laws.proofs.Settled.{IsClean}
use Rattle.probe_laws.proofs.Rules.{back}
use Rattle.probe_laws.proofs.Known.{Knows}
use Rattle.probe_laws.proofs.KnownParts.{is_still_clean}
use Rattle.probe_cases.specs.Cases.{IsFurther, AreInRange, AreDifferent, Stands, begun, ChoicesAreTyped}
use Rattle.probe_cases.proofs.Spelled.{same_count}
use Rattle.probe_cases.proofs.Select.{clean_then, further_clean, select_so, knows, choosing_so, switch_chooses}
use Rattle.c_tree.specs.declared.meaning.Side.TheVariants.{Neither}

-- ---- from any state

-- the probe round an expression that stands behind its constants
select_stands : (j : IntKind) (zs : List ℤ) → AreInRange (promote j) zs → AreDifferent zs → (w : Walked) (b : NodeShape) (s : State) → is_clean s (begun w (pos_of b) s) ≡ true
    → ((t : State) → IsFurther (begun w (pos_of b) s) t → Stands j b t) → Stands j (in_select zs w b) s
select_stands j zs range apart w (node p o n f) s clean stands =
    let b = node p o n f in
    let r = select_so j zs range apart (decimal (next_decision w)) p o n f s clean stands in
    let c = begun w p s in
    let v = (type_node b r.0).state in
    let behind = further_clean c r.0 v r.1 (stands r.0 r.1).clean in
    record {
      node = ap (λ (y : TypedNode). y.node) r.2;
      kind = ap (λ (y : TypedNode). y.sort.kind) r.2;
      clean = ap (λ (y : TypedNode). is_clean s y.state) r.2 ∙ clean_then (length s.complaints) (length c.complaints) (length v.complaints) clean behind;
    }

pub choices_are_typed : ChoicesAreTyped
choices_are_typed c p e items s is h m clean j chosen d w t begins stands =
    let k = switch_chooses c p e items s is (knows s h) m (ap length clean) in
    let x = type_node e (steps 2 s) in
    let y = type_items (in_switch c) (Some (no_labels (switched x))) items (steps 2 (rule (switched x) (steps 2 s).at (pos_in x.node) x.state)) in
    let zs = case_values (choosing x.node) y.items in
    let same : Some (promote k.kind) ≡ Some (promote j) = sym (choosing_so e (steps 2 s) k.kind k.is) ∙ chosen in
    let kinds : promote k.kind ≡ promote j = cc in
    let b = probed_node (inside d w) Read x.node (with_decision (pos_of x.node) (cases zs) w) in
    select_stands j zs (subst (λ q. AreInRange q zs) kinds k.in_range) k.apart w b t begins stands

-- ---- where the walk has numbered the probes

-- In the first run so many complaints stand before, in the second so many.
module _ (n m : ℕ) where
  further_alike : {seen : Seen} {s t u : State} → Alike n m seen s t → IsFurther t u → Alike n m seen s u
  further_alike {u = u} al further = record { at = u.at; complaints = al.complaints; is = further ∙ ap (λ (x : State). record x { at = u.at }) al.is; count = al.count }

  -- whichever probes were seen, no complaint came in the one run where none came in the other
  clean_across : {seen later : Seen} {s t u v : State} → Alike n m seen s u → Alike n m later t v → is_clean s t ≡ true → is_clean u v ≡ true
  clean_across {s = s} {t = t} {u = u} {v = v} al be e =
      same (length s.complaints) (length t.complaints) (length u.complaints) (length v.complaints)
      (al.count ∙ ap (λ (x : State). length x.complaints + n) (sym al.is)) (be.count ∙ ap (λ (x : State). length x.complaints + n) (sym be.is)) e
    where
      same : (a b c d : ℕ) → a + m ≡ c + n → b + m ≡ d + n → nat_eq a b ≡ true → nat_eq c d ≡ true
      same a b c d i j e = grind (arith, nat_tests)

  -- with its probes the expression is typed as it stands, as that integer; u is the first run's state behind it
  pub record StandsAlike (seen : Seen) (j : IntKind) (b : NodeShape) (u t : State) : Type 0 where
    pub node : (type_node b t).node ≡ b
    pub kind : (type_node b t).sort.kind ≡ Some (int j)
    pub state : Alike n m seen u (type_node b t).state

  pub select_alike : (seen : Seen) (j : IntKind) (zs : List ℤ) → AreInRange (promote j) zs → AreDifferent zs → (w : Walked) (q : Pos) (c : Outcomes) (b : NodeShape) (s u t : State) → next_decision w ≤ 16383
      → is_clean s u ≡ true → Alike n m (seen_at w) s t → ((r : State) → Alike n m (seen_at (with_decision q c w)) (sided Neither s) r → StandsAlike seen j b u r)
      → (let y = type_node (in_select zs w b) t in (y.node ≡ in_select zs w b) × (y.sort ≡ a_value (Some (int j)) No) × Alike n m seen u y.state)
  select_alike seen j zs range apart w q c (node p o i f) s u t few clean al go =
      let b = node p o i f in
      let x = decimal (next_decision w) in
      let v = steps 3 (claim test x t.at p (sided Neither t)) in
      let beside : Alike n m (seen_at w) (sided Neither s) (sided Neither t) = sided_alike n m (seen_at w) Neither Neither refl al in
      let claimed : Alike n m (seen_at (with_decision q c w)) (sided Neither s) v = further_alike (test_claimed n m t.at p q c w few beside) refl in
      let r = select_so j zs range apart x p o i f t (clean_across al claimed (same_count (length s.complaints))) (λ y further. stands y (further_alike claimed further)) in
      let end : Alike n m seen u (step (type_node b r.0).state) = further_alike (go r.0 (further_alike claimed r.1)).state refl in
      (ap (λ (y : TypedNode). y.node) r.2, ap (λ (y : TypedNode). y.sort) r.2, subst (Alike n m seen u) (sym (ap (λ (y : TypedNode). y.state) r.2)) end)
    where
      stands : (y : State) → Alike n m (seen_at (with_decision q c w)) (sided Neither s) y → Stands j (node p o i f) y
      stands y be = let g = go y be in record { node = g.node; kind = g.kind; clean = clean_across be g.state clean }

  -- in a switch of which nothing is complained
  pub choice_alike : (seen : Seen) (c : Surroundings) (p : Pos) (e : NodeShape) (items : ItemShapes) (s : State) → ShapedForm (switch e items) → Knows false s → body_mark (type_body c p (switch e items) s).form ≡ None
      → IsClean (type_body c p (switch e items) s).state → (d : Around) (w : Walked) (t : State) → next_decision w ≤ 16383
      → (let x = type_node e (steps 2 s) in
      let y = type_items (in_switch c) (Some (no_labels (switched x))) items (steps 2 (rule (switched x) (steps 2 s).at (pos_in x.node) x.state)) in
      let v = with_decision (pos_of x.node) (cases (case_values (choosing x.node) y.items)) w in
      let b = probed_node (inside d w) Read x.node v in
      let a = probed_choice d x.node y.items w in
      let z = type_node a t in
      Alike n m (seen_at w) (steps 2 s) t
      → ((r : State) → Alike n m (seen_at v) (sided Neither (steps 2 s)) r → ((type_node b r).node ≡ b) × ((type_node b r).sort ≡ x.sort) × Alike n m seen x.state (type_node b r).state)
      → (z.node ≡ a) × (z.sort ≡ a_value x.sort.kind No) × Alike n m seen x.state z.state)
  choice_alike seen c p e items s is g mark clean d w t few al go =
      let x = type_node e (steps 2 s) in
      let r = switched x in
      let u = rule r (steps 2 s).at (pos_in x.node) x.state in
      let y = type_items (in_switch c) (Some (no_labels r)) items (steps 2 u) in
      let zs = case_values (choosing x.node) y.items in
      let v = with_decision (pos_of x.node) (cases zs) w in
      let b = probed_node (inside d w) Read x.node v in
      let k = switch_chooses c p e items s is g mark clean in
      let behind = back (rule_grows r (steps 2 s).at (pos_in x.node) x.state) (back (items_grow (in_switch c) (Some (no_labels r)) items (steps 2 u)) clean) in
      let before = back (node_grows e (steps 2 s)) behind in
      let done = select_alike seen k.kind zs k.in_range k.apart w (pos_of x.node) (cases zs) b (steps 2 s) x.state t few (is_still_clean (steps 2 s) x.state before behind) al
      (λ q be. let h = go q be in record { node = h.0; kind = ap (λ (z : Sort). z.kind) h.1 ∙ k.is; state = h.2 }) in
      (done.0, done.1 ∙ ap (λ q. a_value q No) (sym k.is), done.2)
