-- Statements with their labels, one at a time and in place.
use Rattle.std.proofs.Common.{◌≡◌, ℕ, ◌+◌, ◌<◌, ◌≤◌, List, [], ◌∷◌, ◌++◌, length, map, get_or, take, drop, Option, refl, sym, ap, ◌∙◌, arith, add-one, drop-cons}
use Rattle.std.proofs.Math.ListN.{set}
use Rattle.std.proofs.Math.Seq.{take-suc-set}
use Rattle.std.proofs.lemmas.List.{drop-set-lt, drop_all, take_all}
use Rattle.c_syntax.specs.Shape.{LabelShape, StmtShape, ItemShapes, no_items, more_items}
use Rattle.c_syntax.specs.declared.tree.Item.{Item}
use Rattle.c_syntax.specs.View.{label_shape, stmt_shape, item_list}
use Rattle.c_tree.specs.State.{State}
use Rattle.c_tree.specs.Stating.{Surroundings, Labels, TypedItems, TypedLabels, type_labels, type_stmt, type_items}
use Rattle.c_types.specs.LabelsView.{BothAlike, LabelsAlike}
use Rattle.c_types.specs.Stated.{type_item}
use Rattle.c_types.proofs.Labelled.{labels_alike}
use Rattle.c_types.proofs.Weights.{items_weight}

-- ---- alike labels lead to the same statements

pub one_item : List LabelShape → StmtShape → TypedItems → TypedItems
one_item labels a r = record { items = more_items labels a r.items; state = r.state }

items_cons : (c : Surroundings) (o : Option Labels) (labels : List LabelShape) (a : StmtShape) (rest : ItemShapes) (s : State) →
    type_items c o (more_items labels a rest) s ≡ one_item (type_item c o labels a s).labels (type_item c o labels a s).stmt (type_items c (type_item c o labels a s).so_far rest (type_item c o labels a s).state)
unfolding one_item
items_cons c o labels a rest s = refl

alike_cons : (c : Surroundings) (o q : Option Labels) (labels : List LabelShape) (a : StmtShape) (rest : ItemShapes) (s : State) → BothAlike o q →
    ((p r : Option Labels) (t : State) → BothAlike p r → type_items c p rest t ≡ type_items c r rest t) →
    type_items c o (more_items labels a rest) s ≡ type_items c q (more_items labels a rest) s
unfolding one_item
alike_cons c o q labels a rest s h f = by (type_labels o labels s) (type_labels q labels s) (labels_alike o q labels s h)
  where
    by : (l m : TypedLabels) → LabelsAlike l m →
        one_item l.labels (type_stmt c a l.state).stmt (type_items c l.so_far rest (type_stmt c a l.state).state) ≡ one_item m.labels (type_stmt c a m.state).stmt (type_items c m.so_far rest (type_stmt c a m.state).state)
    by l m e = rw (e.labels, e.state, f l.so_far m.so_far (type_stmt c a m.state).state e.so_far) refl

pub items_alike : (c : Surroundings) (o q : Option Labels) (items : ItemShapes) (s : State) → BothAlike o q → type_items c o items s ≡ type_items c q items s
items_alike c o q no_items s h = refl
items_alike c o q (more_items labels a rest) s h = alike_cons c o q labels a rest s h (λ p r t g. items_alike c p r rest t g)

-- ---- statements that stand before others

pub before_items : List Item → TypedItems → TypedItems
before_items [] r = r
before_items (x ∷ xs) r = one_item (map label_shape x.labels.items) (stmt_shape x.stmt) (before_items xs r)

before_pushed : (xs : List Item) (x : Item) (r : TypedItems) → before_items (xs ++ x ∷ []) r ≡ before_items xs (one_item (map label_shape x.labels.items) (stmt_shape x.stmt) r)
unfolding before_items
before_pushed [] y r = refl
before_pushed (x ∷ xs) y r = ap (one_item (map label_shape x.labels.items) (stmt_shape x.stmt)) (before_pushed xs y r)

module _ (ls : List Item) (i : ℕ) (old new : Item) (h : i < length ls) where
  before_set : (r : TypedItems) → before_items (take (i + 1) (set ls i new)) r ≡ before_items (take i ls) (one_item (map label_shape new.labels.items) (stmt_shape new.stmt) r)
  before_set r = rw (add-one, take-suc-set ls i new h) (before_pushed (take i ls) new r)

  rest_set : item_list (drop (i + 1) (set ls i new)) ≡ item_list (drop (i + 1) ls)
  rest_set = ap item_list (drop-set-lt (i + 1) ls i new (omega arith))

  rest_cons : old ≡ get_or ls i old → item_list (drop i ls) ≡ more_items (map label_shape old.labels.items) (stmt_shape old.stmt) (item_list (drop (i + 1) ls))
  rest_cons e = ap item_list (drop-cons ls i old h) ∙ rw (← e, add-one) refl

  -- the one at the index, in place
  pub next_item : (c : Surroundings) (o p : Option Labels) (s t : State) (all : TypedItems) → old ≡ get_or ls i old →
      map label_shape new.labels.items ≡ (type_item c o (map label_shape old.labels.items) (stmt_shape old.stmt) s).labels →
      stmt_shape new.stmt ≡ (type_item c o (map label_shape old.labels.items) (stmt_shape old.stmt) s).stmt →
      BothAlike p (type_item c o (map label_shape old.labels.items) (stmt_shape old.stmt) s).so_far →
      t ≡ (type_item c o (map label_shape old.labels.items) (stmt_shape old.stmt) s).state →
      before_items (take i ls) (type_items c o (item_list (drop i ls)) s) ≡ all →
      before_items (take (i + 1) (set ls i new)) (type_items c p (item_list (drop (i + 1) (set ls i new))) t) ≡ all
  next_item c o p s t all w d e f g r =
      before_set (type_items c p (item_list (drop (i + 1) (set ls i new))) t)
      ∙ ap (before_items (take i ls)) (rw (rest_set, d, e, g, items_alike c p _ (item_list (drop (i + 1) ls)) (type_item c o (map label_shape old.labels.items) (stmt_shape old.stmt) s).state f)
      (sym (items_cons c o (map label_shape old.labels.items) (stmt_shape old.stmt) (item_list (drop (i + 1) ls)) s) ∙ ap (λ x. type_items c o x s) (sym (rest_cons w))))
      ∙ r

  -- those behind it are some of those that are left
  pub rest_weight : old ≡ get_or ls i old → (n : ℕ) → items_weight (item_list (drop i ls)) ≤ n → items_weight (item_list (drop (i + 1) (set ls i new))) ≤ n
  rest_weight e n m = let w = ap items_weight (rest_cons e) in rw rest_set (omega arith)

all_items : (xs : List Item) (c : Surroundings) (o : Option Labels) (s : State) → before_items xs (type_items c o no_items s) ≡ record { items = item_list xs; state = s }
unfolding before_items one_item
all_items [] c o s = refl
all_items (x ∷ xs) c o s = ap (one_item (map label_shape x.labels.items) (stmt_shape x.stmt)) (all_items xs c o s)

pub items_done : (ls : List Item) (i : ℕ) (c : Surroundings) (o : Option Labels) (s : State) (all : TypedItems) → length ls ≤ i → before_items (take i ls) (type_items c o (item_list (drop i ls)) s) ≡ all → record { items = item_list ls; state = s } ≡ all
items_done ls i c o s all h r = sym (all_items ls c o s) ∙ rw (drop_all i ls h, take_all i ls h) at r

pub none_before : (r : TypedItems) → before_items [] r ≡ r
unfolding before_items
none_before r = refl
