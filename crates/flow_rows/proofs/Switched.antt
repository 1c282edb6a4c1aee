-- The cases and the default of a switch, by the statements of its list, each behind those before it.
use Rattle.std.proofs.Common.{ℕ, ◌+◌, List, ◌∷◌, [], ◌++◌, map, Bool, true, false, ◌≡◌, refl, sym, ap, ◌∙◌}
use Rattle.c_syntax.specs.declared.tree.Item.{Item}
use Rattle.c_syntax.specs.Shape.{LabelShape, ItemShapes, no_items, more_items}
use Rattle.c_syntax.specs.View.{label_shape, stmt_shape, item_list}
use Rattle.c_tables.specs.Tables.{TablesShape}
use Rattle.c_walk.specs.declared.around.Around.{Around}
use Rattle.c_walk.specs.Walked.{Walked, with_block_if}
use Rattle.c_walk.specs.Stating.{splits, is_labelled, case_count, has_default, pos_of_stmt, walk_stmt, walk_items}
use Rattle.std.specs.Prelude.{◌||◌}
use Rattle.flow_walks.specs.Comes.{Comes, choice}
use Rattle.flow_walks.specs.Statements.{Exits, then_goes, cases_go, items_go, at_cases, at_default}
use Rattle.flow_walks.proofs.More.{In, UnderExits, under_then, cases_in, items_in, cases_under}
use Rattle.flow_rows.specs.Paths.{Graph}
use Rattle.flow_rows.specs.Laying.{Lays, Leads, exits}
use Rattle.flow_rows.specs.Listed.{item_goes, walk_item}
use Rattle.flow_rows.specs.declared.targets.Targets.{Targets}
use Rattle.flow_rows.proofs.Laws.{lays_then}
use Rattle.flow_rows.proofs.Runs.{lays_as}
use Rattle.flow_rows.proofs.Listed.{after_of, items_more}
use Rattle.flow_rows.proofs.Stated.{under_exits}

abbrev pub labels_of : Item → List LabelShape
labels_of i = map label_shape i.labels.items

-- the number of the first case behind these
abbrev pub cases_of : ℕ → List Item → ℕ
cases_of o [] = o
cases_of o (i ∷ rest) = cases_of (o + case_count (labels_of i)) rest

choose_in : (b : Bool) (i j k l : Comes) → In i k → In j l → In (choice b i j) (choice b k l)
choose_in true i j k l f h = f
choose_in false i j k l f h = h

module _ (t : TablesShape) (c : Around) where
  -- at their default; or else
  abbrev pub default_or : Bool → ItemShapes → Walked → Exits → Comes → Comes
  default_or after no_items s x k = k
  default_or after (more_items labels a rest) s x k =
      choice (has_default labels) (items_go t c after (more_items labels a rest) s x) (default_or (splits a) rest (walk_stmt t c a (with_block_if (after || is_labelled labels) (pos_of_stmt a) s)) x k)

  pub default_is : (after : Bool) (items : ItemShapes) (s : Walked) (x : Exits) → default_or after items s x x.next ≡ at_default t c after items s x
  default_is after no_items s x = refl
  default_is after (more_items labels a rest) s x =
      ap (λ (k : Comes). choice (has_default labels) (items_go t c after (more_items labels a rest) s x) k) (default_is (splits a) rest (walk_stmt t c a (with_block_if (after || is_labelled labels) (pos_of_stmt a) s)) x)

  pub default_in : (after : Bool) (items : ItemShapes) (s : Walked) (x y : Exits) (j k : Comes) → UnderExits x y → In j k → In (default_or after items s x j) (default_or after items s y k)
  default_in after no_items s x y j k u h = h
  default_in after (more_items labels a rest) s x y j k u h =
      choose_in (has_default labels) _ _ _ _ (items_in t c after (more_items labels a rest) s x y u) (default_in (splits a) rest (walk_stmt t c a (with_block_if (after || is_labelled labels) (pos_of_stmt a) s)) x y j k u h)

  -- ---- one statement more

  cases_more : (d o : ℕ) (b : Bool) (xs : List Item) (x : Item) (w : Walked) (y : Exits) (u : Comes) → at_cases t c d o b (item_list (xs ++ x ∷ [])) w y u
      ≡ at_cases t c d o b (item_list xs) w (then_goes (item_goes t c (after_of b xs) x (walk_items t c b (item_list xs) w) y) y) (cases_go d (cases_of o xs) (labels_of x) (item_goes t c (after_of b xs) x (walk_items t c b (item_list xs) w) y) u)
  cases_more d o b [] x w y u = refl
  cases_more d o b (z ∷ zs) x w y u =
      let f = splits (stmt_shape z.stmt) in
      let v = walk_item t c b z w in
      let i = item_goes t c (after_of f zs) x (walk_items t c f (item_list zs) v) y in
      ap (λ (k : Comes). cases_go d o (labels_of z) (item_goes t c b z w (then_goes k y)) (at_cases t c d (o + case_count (labels_of z)) f (item_list (zs ++ x ∷ [])) v y u)) (items_more t c f zs x v y)
      ∙ ap (λ (k : Comes). cases_go d o (labels_of z) (item_goes t c b z w (then_goes (items_go t c f (item_list zs) v (then_goes i y)) y)) k) (cases_more d (o + case_count (labels_of z)) f zs x v y u)

  default_more : (b : Bool) (xs : List Item) (x : Item) (w : Walked) (y : Exits) (u : Comes) → default_or b (item_list (xs ++ x ∷ [])) w y u
      ≡ default_or b (item_list xs) w (then_goes (item_goes t c (after_of b xs) x (walk_items t c b (item_list xs) w) y) y) (choice (has_default (labels_of x)) (item_goes t c (after_of b xs) x (walk_items t c b (item_list xs) w) y) u)
  default_more b [] x w y u = refl
  default_more b (z ∷ zs) x w y u =
      let f = splits (stmt_shape z.stmt) in
      let v = walk_item t c b z w in
      let i = item_goes t c (after_of f zs) x (walk_items t c f (item_list zs) v) y in
      ap (λ (k : Comes). choice (has_default (labels_of z)) (item_goes t c b z w (then_goes k y)) (default_or f (item_list (zs ++ x ∷ [])) v y u)) (items_more t c f zs x v y)
      ∙ ap (λ (k : Comes). choice (has_default (labels_of z)) (item_goes t c b z w (then_goes (items_go t c f (item_list zs) v (then_goes i y)) y)) k) (default_more f zs x v y u)

  -- ---- laid: the chain of the cases, of which each leads to the row of its statement, and that of the default

  module _ (e : Targets) (h : Graph) (start entry next chain other : ℕ) (xs : List Item) (x : Item) (w : Walked) where
    same : (k : ℕ → Comes) (i j : Comes) → In i j → UnderExits (then_goes i (exits k e)) (then_goes j (exits k e))
    same k i j q = under_then i j (exits k e) (exits k e) q (under_exits e k k (λ r s z. z))

    pub cases_next : (d o : ℕ) → Lays h start (λ k. at_cases t c d o false (item_list xs) w (then_goes (k entry) (exits k e)) (k chain))
        → Leads h chain (λ k. cases_go d (cases_of o xs) (labels_of x) (k entry) (k other))
        → Leads h entry (λ k. item_goes t c (after_of false xs) x (walk_items t c false (item_list xs) w) (then_goes (k next) (exits k e)))
        → Lays h start (λ k. at_cases t c d o false (item_list (xs ++ x ∷ [])) w (then_goes (k next) (exits k e)) (k other))
    cases_next d o before labels item =
        let goes = λ (k : ℕ → Comes). item_goes t c (after_of false xs) x (walk_items t c false (item_list xs) w) (then_goes (k next) (exits k e)) in
        lays_as h start (λ k. at_cases t c d o false (item_list xs) w (then_goes (goes k) (exits k e)) (cases_go d (cases_of o xs) (labels_of x) (goes k) (k other))) _ (λ k. sym (cases_more d o false xs x w (then_goes (k next) (exits k e)) (k other)))
        (lays_then h start entry (λ k v. at_cases t c d o false (item_list xs) w (then_goes v (exits k e)) (cases_go d (cases_of o xs) (labels_of x) v (k other))) goes
        (λ k i j q. cases_under t c (item_list xs) d o false w _ _ _ _ (same k i j q) (cases_in d (cases_of o xs) (labels_of x) i (k other) j (k other) q (λ r z. z)))
        (lays_then h start chain (λ k v. at_cases t c d o false (item_list xs) w (then_goes (k entry) (exits k e)) v) (λ k. cases_go d (cases_of o xs) (labels_of x) (k entry) (k other))
        (λ k i j q. cases_under t c (item_list xs) d o false w _ _ i j (same k (k entry) (k entry) (λ r z. z)) q) before labels) item)

    pub default_next : Lays h start (λ k. default_or false (item_list xs) w (then_goes (k entry) (exits k e)) (k chain))
        → Leads h chain (λ k. choice (has_default (labels_of x)) (k entry) (k other))
        → Leads h entry (λ k. item_goes t c (after_of false xs) x (walk_items t c false (item_list xs) w) (then_goes (k next) (exits k e)))
        → Lays h start (λ k. default_or false (item_list (xs ++ x ∷ [])) w (then_goes (k next) (exits k e)) (k other))
    default_next before labels item =
        let goes = λ (k : ℕ → Comes). item_goes t c (after_of false xs) x (walk_items t c false (item_list xs) w) (then_goes (k next) (exits k e)) in
        lays_as h start (λ k. default_or false (item_list xs) w (then_goes (goes k) (exits k e)) (choice (has_default (labels_of x)) (goes k) (k other))) _ (λ k. sym (default_more false xs x w (then_goes (k next) (exits k e)) (k other)))
        (lays_then h start entry (λ k v. default_or false (item_list xs) w (then_goes v (exits k e)) (choice (has_default (labels_of x)) v (k other))) goes
        (λ k i j q. default_in false (item_list xs) w _ _ _ _ (same k i j q) (choose_in (has_default (labels_of x)) i (k other) j (k other) q (λ r z. z)))
        (lays_then h start chain (λ k v. default_or false (item_list xs) w (then_goes (k entry) (exits k e)) v) (λ k. choice (has_default (labels_of x)) (k entry) (k other))
        (λ k i j q. default_in false (item_list xs) w _ _ i j (same k (k entry) (k entry) (λ r z. z)) q) before labels) item)
