-- Labels that differ in the order of their values alone.
use Rattle.std.proofs.Common.{◌≡◌, ℕ, ◌+◌, ◌<◌, ◌≤◌, ℤ, Bool, not, ◌||◌, List, [], ◌∷◌, ◌++◌, length, map, get_or, take, drop, Option, Some, None, refl, sym, ap, ◌∙◌, arith, add-one, drop-cons, append_assoc}
use Rattle.std.specs.Ordering.{int_eq}
use Rattle.std.proofs.Math.ListN.{set}
use Rattle.std.proofs.Math.Seq.{take-suc-set}
use Rattle.std.proofs.lemmas.List.{drop-set-lt, map-append, drop_all, take_all, append-nil}
use Rattle.c_checker.specs.Among.{is_fresh}
use Rattle.c_base.specs.declared.place.Pos.{Pos}
use Rattle.c_base.specs.declared.place.IntKind.{IntKind}
use Rattle.c_arith.specs.Arith.{wrap}
use Rattle.c_syntax.specs.Shape.{LabelShape, case, default}
use Rattle.c_syntax.specs.declared.tree.Label.{Label}
use Rattle.c_syntax.specs.View.{label_shape}
use Rattle.c_tree.specs.State.{State, step, steps}
use Rattle.c_tree.specs.Operators.{is_among, wrapped}
use Rattle.c_tree.specs.Stating.{Labels, TypedLabels, comes_twice, as_kind, with_value, case_state, case_labels, default_state, default_labels, one_label, type_labels}
use Rattle.c_types.specs.LabelsView.{Alike, BothAlike, neither, both, LabelsAlike, with_inserted, type_label}
use Rattle.c_types.proofs.Among.{among_keys, among_inserted}

-- ---- one more value

module _ (k : IntKind) (keys : List ℤ) where
  pub value_fresh : (o : Option IntKind) → o ≡ Some k → (x : Option ℤ) (f : Bool) → f ≡ is_fresh keys (wrapped k x) → f ≡ not (comes_twice o (as_kind o x) (map Some keys))
  value_fresh o e None f n = rw e n
  value_fresh o e (Some v) f n = rw e (n ∙ ap not (sym (among_keys (wrap k v) keys)))

  among_more : (x : Option ℤ) (w : ℤ) → is_among w (map Some (with_inserted keys (wrapped k x))) ≡ is_among w (wrapped k x ∷ map Some keys)
  among_more None w = refl
  among_more (Some v) w = among_inserted w (wrap k v) keys

  pub value_seen : (o : Option IntKind) → o ≡ Some k → (x : Option ℤ) (d : Bool) (more : List ℤ) → more ≡ with_inserted keys (wrapped k x) → Alike (record { kind = o; values = map Some more; default = d }) (with_value (as_kind o x) (record { kind = o; values = map Some keys; default = d }))
  value_seen o e x d more n = record {
    kind = refl;
    values = λ j q w. rw (n, e) (among_more x w);
    default = refl;
  }

-- ---- the same labels

pub same_labels : (o q : Option Labels) → o ≡ q → BothAlike o q
same_labels o q e = rw e (by q)
  where
    by : (q : Option Labels) → BothAlike q q
    by None = neither
    by (Some l) = both (record { kind = refl; values = λ k e v. refl; default = refl })

alike_then : {a b c : Labels} → Alike a b → Alike b c → Alike a c
alike_then {a} {b} {c} h i = record {
  kind = h.kind ∙ i.kind;
  values = λ k e v. h.values k e v ∙ i.values k (sym h.kind ∙ e) v;
  default = h.default ∙ i.default;
}

pub both_then : {o p q : Option Labels} → BothAlike o p → BothAlike p q → BothAlike o q
both_then neither neither = neither
both_then (both h) (both i) = both (alike_then h i)

pub labels_then : {a b c : TypedLabels} → LabelsAlike a b → LabelsAlike b c → LabelsAlike a c
labels_then h i = record { labels = h.labels ∙ i.labels; so_far = both_then h.so_far i.so_far; state = h.state ∙ i.state }

-- ---- and one more label

among_too : (v : ℤ) (x : Option ℤ) (vs ws : List (Option ℤ)) → is_among v vs ≡ is_among v ws → is_among v (x ∷ vs) ≡ is_among v (x ∷ ws)
among_too v None vs ws e = e
among_too v (Some w) vs ws e = ap (λ b. int_eq v w || b) e

twice_alike : (o q : Option IntKind) (v : Option ℤ) (vs ws : List (Option ℤ)) → o ≡ q → ((k : IntKind) → o ≡ Some k → (x : ℤ) → is_among x vs ≡ is_among x ws) → comes_twice o (as_kind o v) vs ≡ comes_twice q (as_kind q v) ws
twice_alike o q v vs ws e h = rw (← e) (by o v h)
  where
    by : (o : Option IntKind) (v : Option ℤ) → ((k : IntKind) → o ≡ Some k → (x : ℤ) → is_among x vs ≡ is_among x ws) → comes_twice o (as_kind o v) vs ≡ comes_twice o (as_kind o v) ws
    by None v h = refl
    by (Some k) None h = refl
    by (Some k) (Some x) h = h k refl (wrap k x)

case_alike : {o q : Option Labels} (token : ℕ) (p : Pos) (v : Option ℤ) (s : State) → BothAlike o q → case_state token p o v s ≡ case_state token p q v s
case_alike token p v s neither = refl
case_alike token p v s (both {a} {b} h) = rw (twice_alike a.kind b.kind v a.values b.values h.kind h.values) refl

case_both : {o q : Option Labels} (v : Option ℤ) → BothAlike o q → BothAlike (case_labels o v) (case_labels q v)
case_both v neither = neither
case_both v (both {a} {b} h) = both (record {
  kind = h.kind;
  values = λ k e w. among_too w (as_kind a.kind v) a.values b.values (h.values k e w) ∙ ap (λ j. is_among w (as_kind j v ∷ b.values)) h.kind;
  default = h.default;
})

default_alike : {o q : Option Labels} (token : ℕ) (p : Pos) (s : State) → BothAlike o q → default_state token p o s ≡ default_state token p q s
default_alike token p s neither = refl
default_alike token p s (both h) = rw h.default refl

default_both : {o q : Option Labels} → BothAlike o q → BothAlike (default_labels o) (default_labels q)
default_both neither = neither
default_both (both h) = both (record { kind = h.kind; values = h.values; default = refl })

-- ---- labels of a statement

both_after : {o q : Option Labels} (l : LabelShape) (s : State) → BothAlike o q → BothAlike (type_label o l s).so_far (type_label q l s).so_far
both_after (case p a) s h = case_both _ h
both_after (default p) s h = default_both h

state_after : {o q : Option Labels} (l : LabelShape) (s : State) → BothAlike o q → (type_label o l s).state ≡ (type_label q l s).state
state_after (case p a) s h = ap step (case_alike s.at p _ _ h)
state_after (default p) s h = ap (steps 2) (default_alike s.at p s h)

label_after : (o q : Option Labels) (l : LabelShape) (s : State) → (type_label o l s).label ≡ (type_label q l s).label
label_after o q (case p a) s = refl
label_after o q (default p) s = refl

-- the first label, and the others behind it
labels_cons : (o : Option Labels) (l : LabelShape) (ls : List LabelShape) (s : State) → type_labels o (l ∷ ls) s ≡ one_label (type_label o l s).label (type_labels (type_label o l s).so_far ls (type_label o l s).state)
labels_cons o (case p a) ls s = refl
labels_cons o (default p) ls s = refl

one_alike : {a b : TypedLabels} (l m : LabelShape) → l ≡ m → LabelsAlike a b → LabelsAlike (one_label l a) (one_label m b)
one_alike l m e h = record { labels = rw (e, h.labels) refl; so_far = h.so_far; state = h.state }

alike_cons : (o q : Option Labels) (l : LabelShape) (ls : List LabelShape) (s : State) → BothAlike o q → ((p r : Option Labels) (t : State) → BothAlike p r → LabelsAlike (type_labels p ls t) (type_labels r ls t)) → LabelsAlike (type_labels o (l ∷ ls) s) (type_labels q (l ∷ ls) s)
alike_cons o q l ls s h f =
    let t = f (type_label o l s).so_far (type_label q l s).so_far (type_label o l s).state (both_after l s h) in
    rw (labels_cons o l ls s, labels_cons q l ls s, ← state_after l s h) (one_alike _ _ (label_after o q l s) t)

pub labels_alike : (o q : Option Labels) (ls : List LabelShape) (s : State) → BothAlike o q → LabelsAlike (type_labels o ls s) (type_labels q ls s)
labels_alike o q [] s h = record { labels = refl; so_far = h; state = refl }
labels_alike o q (l ∷ ls) s h = alike_cons o q l ls s h (λ p r t g. labels_alike p r ls t g)

-- ---- a label at a time, in place

-- labels that stand before others
pub behind : List LabelShape → TypedLabels → TypedLabels
behind ls r = record r { labels = ls ++ r.labels }

-- the labels from an index on
pub rest_of : ℕ → List Label → List LabelShape
rest_of i ls = map label_shape (drop i ls)

behind_alike : {a b : TypedLabels} (ls : List LabelShape) → LabelsAlike a b → LabelsAlike (behind ls a) (behind ls b)
unfolding behind
behind_alike ls h = record { labels = ap (λ m. ls ++ m) h.labels; so_far = h.so_far; state = h.state }

behind_one : (ls : List LabelShape) (l : LabelShape) (r : TypedLabels) → behind (ls ++ l ∷ []) r ≡ behind ls (one_label l r)
unfolding behind
behind_one ls l r = rw append_assoc refl

module _ (ls : List Label) (i : ℕ) (old new : Label) (h : i < length ls) where
  front_set : map label_shape (take (i + 1) (set ls i new)) ≡ map label_shape (take i ls) ++ label_shape new ∷ []
  front_set = rw (add-one, take-suc-set ls i new h) (map-append label_shape (take i ls) (new ∷ []))

  rest_set : rest_of (i + 1) (set ls i new) ≡ rest_of (i + 1) ls
  unfolding rest_of
  rest_set = ap (map label_shape) (drop-set-lt (i + 1) ls i new (omega arith))

  rest_cons : old ≡ get_or ls i old → rest_of i ls ≡ label_shape old ∷ rest_of (i + 1) ls
  unfolding rest_of
  rest_cons e = ap (map label_shape) (drop-cons ls i old h) ∙ rw (← e, add-one) refl

  -- the one at the index, in place
  pub next_label : (o p : Option Labels) (s t : State) (all : TypedLabels) → old ≡ get_or ls i old →
      label_shape new ≡ (type_label o (label_shape old) s).label → BothAlike p (type_label o (label_shape old) s).so_far → t ≡ (type_label o (label_shape old) s).state →
      LabelsAlike (behind (map label_shape (take i ls)) (type_labels o (rest_of i ls) s)) all →
      LabelsAlike (behind (map label_shape (take (i + 1) (set ls i new))) (type_labels p (rest_of (i + 1) (set ls i new)) t)) all
  next_label o p s t all w e f g r =
      let here = behind_alike (map label_shape (take i ls)) (one_alike (label_shape new) _ e (labels_alike p _ (rest_of (i + 1) ls) t f)) in
      rw (front_set, rest_set, behind_one (map label_shape (take i ls)) (label_shape new) (type_labels p (rest_of (i + 1) ls) t))
      (labels_then here (rw (g, ← labels_cons o (label_shape old) (rest_of (i + 1) ls) s, ← rest_cons w) r))

all_before : (ls : List Label) (i : ℕ) (o : Option Labels) (s : State) → length ls ≤ i → behind (map label_shape (take i ls)) (type_labels o (rest_of i ls) s) ≡ record { labels = map label_shape ls; so_far = o; state = s }
unfolding behind rest_of
all_before ls i o s h = rw (drop_all i ls h, take_all i ls h, append-nil (map label_shape ls)) refl

pub all_labels : (ls : List Label) (i : ℕ) (o : Option Labels) (s : State) (all : TypedLabels) → length ls ≤ i → LabelsAlike (behind (map label_shape (take i ls)) (type_labels o (rest_of i ls) s)) all → LabelsAlike (record { labels = map label_shape ls; so_far = o; state = s }) all
all_labels ls i o s all h r = rw (all_before ls i o s h) at r

pub none_before : (ls : List Label) (o : Option Labels) (s : State) → LabelsAlike (behind [] (type_labels o (rest_of 0 ls) s)) (type_labels o (map label_shape ls) s)
unfolding behind rest_of
none_before ls o s = record { labels = refl; so_far = same_labels _ _ refl; state = refl }
