-- Where nothing is complained of a switch, its case constants are pairwise different, as values of the type that it chooses by.
use Rattle.std.proofs.Common.{◌≡◌, ℕ, ℤ, List, [], ◌∷◌, ◌++◌, map, Option, Some, None, Bool, true, false, not, ◌&&◌, ◌||◌, inl, inr, true≢false, refl, sym, ap, ap₂, subst, ◌∙◌}
use Rattle.std.specs.Ordering.{int_eq}
use Rattle.std.proofs.lemmas.Bool.{false_from_ne_true}
use Rattle.std.proofs.lemmas.Bool.Decides.{Decides-int_eq}
use Rattle.c_base.specs.declared.place.Pos.{Pos}
use Rattle.c_base.specs.declared.place.IntKind.{IntKind}
use Rattle.c_arith.specs.Arith.{wrap}
use Rattle.c_syntax.specs.Shape.{TypeOf, LabelShape, case, default, ItemShapes, no_items, more_items}
use Rattle.c_syntax.specs.Shaped.{ShapedLabels, ShapedItems}
use Rattle.c_constants.specs.declared.constants.Constant.{Constant}
use Rattle.c_constants.specs.declared.constants.Constant.TheVariants.{No, Faulty, Known, Variable, Part, Address, Literal}
use Rattle.c_constants.specs.Constants as constants
use Rattle.c_sites_probes.specs.Marked.{first, node_mark, labels_mark, stmt_mark, items_mark}
use Rattle.c_tree.specs.Complaints.{case_twice, not_constant}
use Rattle.c_tree.specs.State.{State, step, steps, demand}
use Rattle.c_tree.specs.Rulings.{rule, of_kind, allowed_if}
use Rattle.c_tree.specs.Sorts.{pos_in}
use Rattle.c_tree.specs.Operators.{constant_rule, is_there, is_among, wrapped, differ}
use Rattle.c_tree.specs.Typing.{type_node}
use Rattle.c_tree.specs.Stating.{Surroundings, Labels, comes_twice, as_kind, case_state, default_state, case_labels, default_labels, TypedLabels, type_labels, type_stmt, type_items}
use Rattle.c_walk.specs.Tests as tests
use Rattle.c_walk.specs.Tests.{case_value, label_values, case_values}
use Rattle.c_tree.proofs.Grows.{rule_grows}
use Rattle.c_tree.proofs.GrowsUnits.{case_grows, labels_grow, stmt_grows, items_grow}
use Rattle.probe_rules.proofs.ReadyUnits.{none_first, none_second}
use Rattle.probe_laws.proofs.Settled.{IsThere, IsClean, mended}
use Rattle.probe_laws.proofs.Rules.{back}
use Rattle.probe_laws.proofs.Known.{Knows, Goes, stays, ◌▹◌, rule_goes, demand_goes}
use Rattle.probe_laws.proofs.KnownNodes.{node_knows}
use Rattle.probe_laws.proofs.FitStatements.{stmt_fits}
use Rattle.probe_cases.specs.Cases.{IsAmong, AreDifferent}
use Rattle.probe_cases.proofs.Known.{node_read}

-- ---- numbers that come for the first time

-- the numbers, the last one first, before those that came already
abbrev onto : List ℤ → List ℤ → List ℤ
onto [] seen = seen
onto (z ∷ zs) seen = onto zs (z ∷ seen)

-- each of them is new
abbrev AreNew : List ℤ → List ℤ → Type 0
AreNew seen [] = Unit {0}
AreNew seen (z ∷ zs) = (IsAmong z seen → ⊥) × AreNew (z ∷ seen) zs

new_then : (seen zs ws : List ℤ) → AreNew seen zs → AreNew (onto zs seen) ws → AreNew seen (zs ++ ws)
new_then seen [] ws h g = g
new_then seen (z ∷ zs) ws h g = (h.0, new_then (z ∷ seen) zs ws h.1 g)

new_differ : (seen zs : List ℤ) → AreNew seen zs → AreDifferent zs × ((z : ℤ) → IsAmong z seen → IsAmong z zs → ⊥)
new_differ seen [] h = (tt, λ z i j. j)
new_differ seen (y ∷ zs) h =
    let rest = new_differ (y ∷ seen) zs h.1 in
    ((rest.1 y (inl refl), rest.0), apart rest.1)
  where
    apart : ((z : ℤ) → IsAmong z (y ∷ seen) → IsAmong z zs → ⊥) → (z : ℤ) → IsAmong z seen → IsAmong z (y ∷ zs) → ⊥
    apart g z i (inl e) = h.0 (subst (λ w. IsAmong w seen) e i)
    apart g z i (inr j) = g z (inr i) j

-- ---- by the checker's tests

or_right : (b : Bool) → (b || true) ≡ true
or_right true = refl
or_right false = refl

among_found : (z : ℤ) (zs : List ℤ) → IsAmong z zs → is_among z (map Some zs) ≡ true
among_found z [] i = absurd i
among_found z (y ∷ zs) (inl e) = ap (λ b. b || is_among z (map Some zs)) ((Decides-int_eq z y).1 e)
among_found z (y ∷ zs) (inr i) = ap (λ b. int_eq z y || b) (among_found z zs i) ∙ or_right (int_eq z y)

-- what isn't found isn't among them
not_among : (z : ℤ) (zs : List ℤ) → not (is_among z (map Some zs)) ≡ true → IsAmong z zs → ⊥
not_among z zs e i = true≢false (sym e ∙ ap not (among_found z zs i))

among_none : (z : ℤ) (zs : List ℤ) → (IsAmong z zs → ⊥) → is_among z (map Some zs) ≡ false
among_none z [] h = refl
among_none z (y ∷ zs) h =
    ap₂ (λ a b. a || b) (false_from_ne_true (int_eq z y) (λ e. h (inl ((Decides-int_eq z y).0 e)))) (among_none z zs (λ i. h (inr i)))

-- values that are those numbers in the type differ there
pub values_differ : (k : IntKind) (vs : List (Option ℤ)) (zs : List ℤ) → map (wrapped k) vs ≡ map Some zs → AreDifferent zs → differ k vs ≡ true
values_differ k [] zs e h = refl
values_differ k (v ∷ vs) [] e h = cc
values_differ k (None ∷ vs) (z ∷ zs) e h = cc
values_differ k (Some v ∷ vs) (z ∷ zs) e h =
    let head : wrap k v ≡ z = cc in
    let tail : map (wrapped k) vs ≡ map Some zs = cc in
    ap₂ (λ x xs. not (is_among x xs) && differ k vs) head tail
    ∙ ap₂ (λ a b. not a && b) (among_none z zs h.0) (values_differ k vs zs tail h.1)

-- ---- labels

-- the labels so far are these numbers of that type
abbrev pub HasSeen : IntKind → List ℤ → Option Labels → Type 0
HasSeen k seen None = ⊥
HasSeen k seen (Some l) = (l.kind ≡ Some k) × (l.values ≡ map Some seen)

there_is : (v : Option ℤ) → IsThere v → (z : ℤ) × (v ≡ Some z)
there_is None h = absurd h
there_is (Some z) h = (z, refl)

-- a constant of which nothing is complained has a value
judged_there : (k : Option TypeOf) (v : Option ℤ) (token : ℕ) (p : Pos) (s : State) → IsThere k → IsClean (rule (of_kind k (allowed_if (is_there v) not_constant)) token p s) → IsThere v
judged_there None v token p s h c = absurd h
judged_there (Some t) None token p s h c = mended not_constant token p s c
judged_there (Some t) (Some v) token p s h c = tt

case_is : (k : IntKind) (c : Constant) (z : ℤ) → constants.value c ≡ Some z → case_value (Some k) c ≡ wrap k z
case_is k (Known j v) z e = ap (case_value (Some k)) known_same
  where
    known_same : Known j v ≡ Known j z
    known_same = cc
case_is k No z e = cc
case_is k (Faulty j) z e = cc
case_is k Variable z e = cc
case_is k Part z e = cc
case_is k Address z e = cc
case_is k Literal z e = cc

demanded_so : (b : Bool) (n token : ℕ) (p : Pos) (s : State) → IsClean (demand b n token p s) → b ≡ true
demanded_so true n token p s c = refl
demanded_so false n token p s c = absurd (mended n token p s c)

-- a case that is not complained of is a new number
case_new : (k : IntKind) (seen : List ℤ) (l : Labels) (v : Option ℤ) (z : ℤ) (token : ℕ) (p : Pos) (s : State) → HasSeen k seen (Some l) → v ≡ Some z → IsClean (case_state token p (Some l) v s) → IsAmong (wrap k z) seen → ⊥
case_new k seen l v z token p s h e c =
    let found = demanded_so (not (comes_twice l.kind (as_kind l.kind v) l.values)) case_twice token p s c in
    not_among (wrap k z) seen
    (sym (ap₂ (λ i w. not (comes_twice i (as_kind i w) l.values)) h.0 e ∙ ap (λ ws. not (is_among (wrap k z) ws)) h.1) ∙ found)

-- what comes of labels
record Seen (k : IntKind) (seen : List ℤ) (s : State) (t : TypedLabels) : Type 0 where
  new : AreNew seen (label_values (Some k) t.labels)
  so_far : HasSeen k (onto (label_values (Some k) t.labels) seen) t.so_far
  goes : Goes false s t.state

labels_new : (k : IntKind) (seen : List ℤ) (o : Option Labels) (ls : List LabelShape) (s : State) → HasSeen k seen o → ShapedLabels ls → labels_mark (type_labels o ls s).labels ≡ None → Knows false s
    → IsClean (type_labels o ls s).state → Seen k seen s (type_labels o ls s)
labels_new k seen o [] s h is m g c = record { new = tt; so_far = h; goes = stays s g }
labels_new k seen None (case p a ∷ rest) s h is m g c = absurd h
labels_new k seen None (default p ∷ rest) s h is m g c = absurd h
labels_new k seen (Some l) (case p a ∷ rest) s h is m g c =
    let t = type_node a (step s) in
    let v = constants.value t.sort.constant in
    let r = constant_rule t.sort in
    let u = rule r (step s).at (pos_in a) t.state in
    let w = case_state s.at p (Some l) v u in
    let o = case_labels (Some l) v in
    let y = type_labels o rest (step w) in
    let late = back (labels_grow o rest (step w)) c in
    let judged = back (case_grows s.at p (Some l) v u) late in
    let early = back (rule_grows r (step s).at (pos_in a) t.state) judged in
    let mark = none_first (node_mark t.node) (labels_mark y.labels) m in
    let one = node_knows a (step s) is.1 g early in
    let value = there_is v (judged_there t.sort.kind v (step s).at (pos_in a) t.state one.0 judged) in
    let z = value.0 in
    let read : case_value (Some k) (tests.constant t.node) ≡ wrap k z = case_is k (tests.constant t.node) z ((node_read a (step s) mark early).alike.values ∙ value.1) in
    let new = case_new k seen l v z s.at p u h value.1 late in
    let two = rule_goes r (step s).at (pos_in a) t.state one.1.0 in
    let three = demand_goes (not (comes_twice l.kind (as_kind l.kind v) l.values)) case_twice s.at p u two.0 in
    let more = labels_new k (wrap k z ∷ seen) o rest (step w) (h.0, ap₂ (λ x xs. x ∷ xs) (ap₂ as_kind h.0 value.1) h.1) is.2 (none_second (node_mark t.node) (labels_mark y.labels) m) three.0 c in
    record {
      new = subst (λ x. AreNew seen (x ∷ label_values (Some k) y.labels)) (sym read) (new, more.new);
      so_far = subst (λ x. HasSeen k (onto (label_values (Some k) y.labels) (x ∷ seen)) y.so_far) (sym read) more.so_far;
      goes = one.1 ▹ two ▹ three ▹ more.goes;
    }
labels_new k seen (Some l) (default p ∷ rest) s h is m g c =
    let one = demand_goes (not l.default) case_twice s.at p s g in
    let more = labels_new k seen (default_labels (Some l)) rest (steps 2 (default_state s.at p (Some l) s)) h is m one.0 c in
    record { new = more.new; so_far = more.so_far; goes = one ▹ more.goes }

-- ---- items

items_new : (e : Surroundings) (k : IntKind) (seen : List ℤ) (o : Option Labels) (items : ItemShapes) (s : State) → HasSeen k seen o → ShapedItems items → items_mark (type_items e o items s).items ≡ None → Knows false s
    → IsClean (type_items e o items s).state → AreNew seen (case_values (Some k) (type_items e o items s).items)
items_new e k seen o no_items s h is m g c = tt
items_new e k seen o (more_items labels a rest) s h is m g c =
    let l = type_labels o labels s in
    let t = type_stmt e a l.state in
    let y = type_items e l.so_far rest t.state in
    let late = back (items_grow e l.so_far rest t.state) c in
    let behind = none_second (labels_mark l.labels) (first (stmt_mark t.stmt) (items_mark y.items)) m in
    let one = labels_new k seen o labels s h is.0 (none_first (labels_mark l.labels) (first (stmt_mark t.stmt) (items_mark y.items)) m) g (back (stmt_grows e a l.state) late) in
    let two = stmt_fits e a l.state is.1 (none_first (stmt_mark t.stmt) (items_mark y.items) behind) one.goes.0 late in
    new_then seen (label_values (Some k) l.labels) (case_values (Some k) y.items) one.new
    (items_new e k (onto (label_values (Some k) l.labels) seen) l.so_far rest t.state one.so_far is.2 (none_second (stmt_mark t.stmt) (items_mark y.items) behind) two.0.0 c)

pub items_differ : (e : Surroundings) (k : IntKind) (l : Labels) (items : ItemShapes) (s : State) → HasSeen k [] (Some l) → ShapedItems items → items_mark (type_items e (Some l) items s).items ≡ None → Knows false s
    → IsClean (type_items e (Some l) items s).state → AreDifferent (case_values (Some k) (type_items e (Some l) items s).items)
items_differ e k l items s h is m g c = (new_differ [] (case_values (Some k) (type_items e (Some l) items s).items) (items_new e k [] (Some l) items s h is m g c)).0
