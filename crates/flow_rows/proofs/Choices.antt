-- A switch by the statements of its list: where its cases are chosen and its default is sought, as far as they are laid.
use Rattle.std.proofs.Common.{ℕ, suc, ◌+◌, ◌<◌, ◌≤◌, List, ◌∷◌, [], ◌++◌, take, get_or, length, Option, false, ◌≡◌, refl, sym, subst, ap, ◌∙◌, arith}
use Rattle.std.proofs.lemmas.List.{take_more, take_all, length-append}
use Rattle.c_base.specs.declared.place.IntKind.{IntKind}
use Rattle.c_syntax.specs.declared.tree.Item.{Item}
use Rattle.c_syntax.specs.Shape.{LabelShape, case, default}
use Rattle.c_syntax.specs.View.{item_list}
use Rattle.c_tables.specs.Tables.{TablesShape}
use Rattle.c_walk.specs.declared.around.Around.{Around}
use Rattle.c_walk.specs.Tests.{label_values, case_values}
use Rattle.c_walk.specs.Walked.{Walked}
use Rattle.c_walk.specs.Stating.{case_count, has_default, walk_items}
use Rattle.flow_walks.specs.declared.action.Action.TheVariants.{Test}
use Rattle.flow_walks.specs.Comes.{Comes, act, emit, choice}
use Rattle.flow_walks.specs.Statements.{then_goes, cases_go, at_cases, at_default}
use Rattle.flow_walks.proofs.More.{In, UnderExits, under_then, emit_in, cases_under}
use Rattle.flow_rows.specs.Paths.{Graph}
use Rattle.flow_rows.specs.Counts.{counts}
use Rattle.flow_rows.specs.Laying.{Grown, Lays, Leads, LaidAt, LedAt, Placed, exits}
use Rattle.flow_rows.specs.Listed.{item_goes, walk_item}
use Rattle.flow_rows.specs.declared.numbers.Numbers.{Numbers}
use Rattle.flow_rows.specs.declared.targets.Targets.{Targets}
use Rattle.flow_rows.proofs.Laws.{grown_then, keeps_then, leads, lays_then}
use Rattle.flow_rows.proofs.Runs.{lays_as}
use Rattle.flow_rows.proofs.Stated.{under_exits}
use Rattle.flow_rows.proofs.Listed.{after_of, items_walk}
use Rattle.flow_rows.proofs.Switched.{labels_of, cases_of, default_or, default_is, default_in, cases_next, default_next}

-- ---- the numbers of the cases

numbers_more : (o : ℕ) (xs : List Item) (x : Item) → cases_of o (xs ++ x ∷ []) ≡ cases_of o xs + case_count (labels_of x)
numbers_more o [] x = refl
numbers_more o (y ∷ ys) x = numbers_more (o + case_count (labels_of y)) ys x

labels_count : (kind : Option IntKind) (ls : List LabelShape) → length (label_values kind ls) ≡ case_count ls
labels_count kind [] = refl
labels_count kind (case p a ∷ ls) = ap suc (labels_count kind ls)
labels_count kind (default p ∷ ls) = labels_count kind ls

-- behind all cases stands one number more
cases_count : (kind : Option IntKind) (o : ℕ) (xs : List Item) → cases_of o xs ≡ o + length (case_values kind (item_list xs))
cases_count kind o [] = omega arith
cases_count kind o (x ∷ xs) =
    omega (arith, cases_count kind (o + case_count (labels_of x)) xs, labels_count kind (labels_of x), length-append (label_values kind (labels_of x)) (case_values kind (item_list xs)))

-- ---- laid: the last statement leads to the row `entry`

module _ (t : TablesShape) (e : Targets) (d : ℕ) where
  pub record ChoicesPlaced (g h : Graph) (n m : Numbers) (at start entry chain order other : ℕ) (xs : List Item) : Type 0 where
    pub grown : Grown g h
    pub chosen : (c : Around) (w : Walked) → counts w ≡ n → LaidAt h at (λ k. at_cases t c d 1 false (item_list xs) w (then_goes (k entry) (exits k e)) (k chain))
    pub sought : (c : Around) (w : Walked) → counts w ≡ n → LaidAt h start (λ k. default_or t c false (item_list xs) w (then_goes (k entry) (exits k e)) (k other))
    pub counted : (c : Around) (w : Walked) → counts w ≡ n → counts (walk_items t c false (item_list xs) w) ≡ m
    pub numbered : order ≡ cases_of 1 xs

  pub choices_none : (g h i : Graph) (n : Numbers) (at start entry chain order other : ℕ) → Grown g h → Grown h i → LaidAt i at (λ k. k chain) → LaidAt i start (λ k. k other) → order ≡ 1 → ChoicesPlaced g i n n at start entry chain order other []
  choices_none g h i n at start entry chain order other gh hi first second is = record {
    grown = grown_then g h i gh hi;
    chosen = λ c w u. first;
    sought = λ c w u. second;
    counted = λ c w u. u;
    numbered = is;
  }

  choices_one : (g h i j : Graph) (n m l : Numbers) (at start entry chain order other next chain' order' other' : ℕ) (xs : List Item) (x : Item) → ChoicesPlaced g h n m at start entry chain order other xs → Grown h i
      → LedAt i chain (λ k. cases_go d order (labels_of x) (k entry) (k chain')) → LedAt i other (λ k. choice (has_default (labels_of x)) (k entry) (k other')) → order' ≡ order + case_count (labels_of x)
      → Placed i j m l entry (λ c w k. item_goes t c (after_of false xs) x w (then_goes (k next) (exits k e))) (λ c w. walk_item t c (after_of false xs) x w)
      → ChoicesPlaced g j n l at start next chain' order' other' (xs ++ x ∷ [])
  choices_one g h i j n m l at start entry chain order other next chain' order' other' xs x before hi labels seeks is part = record {
    grown = grown_then g i j (grown_then g h i before.grown hi) part.grown;
    chosen = λ c w u q k.
        let v = walk_items t c false (item_list xs) w in
        let keep = keeps_then i j q part.grown.keeps k in
        let one = subst (λ o. Leads q chain (λ k. cases_go d o (labels_of x) (k entry) (k chain'))) before.numbered (labels q keep) in
        cases_next t c e q at entry next chain chain' xs x w d 1 (before.chosen c w u q (keeps_then h i q hi.keeps keep)) one
        (leads q entry (λ k. item_goes t c (after_of false xs) x v (then_goes (k next) (exits k e))) (part.laid c v (before.counted c w u) q k));
    sought = λ c w u q k.
        let v = walk_items t c false (item_list xs) w in
        let keep = keeps_then i j q part.grown.keeps k in
        default_next t c e q start entry next other other' xs x w (before.sought c w u q (keeps_then h i q hi.keeps keep)) (seeks q keep)
        (leads q entry (λ k. item_goes t c (after_of false xs) x v (then_goes (k next) (exits k e))) (part.laid c v (before.counted c w u) q k));
    counted = λ c w u. ap counts (items_walk t c false xs x w) ∙ part.counted c (walk_items t c false (item_list xs) w) (before.counted c w u);
    numbered = is ∙ ap (λ (o : ℕ). o + case_count (labels_of x)) before.numbered ∙ sym (numbers_more 1 xs x);
  }

  -- one statement more of a list
  pub choices_next : (g h i j : Graph) (n m l : Numbers) (at start entry chain order other next chain' order' other' : ℕ) (all : List Item) (o : ℕ) (x : Item) → o < length all → x ≡ get_or all o x
      → ChoicesPlaced g h n m at start entry chain order other (take o all) → Grown h i
      → LedAt i chain (λ k. cases_go d order (labels_of x) (k entry) (k chain')) → LedAt i other (λ k. choice (has_default (labels_of x)) (k entry) (k other')) → order' ≡ order + case_count (labels_of x)
      → Placed i j m l entry (λ c w k. item_goes t c (after_of false (take o all)) x w (then_goes (k next) (exits k e))) (λ c w. walk_item t c (after_of false (take o all)) x w)
      → ChoicesPlaced g j n l at start next chain' order' other' (take (o + 1) all)
  choices_next g h i j n m l at start entry chain order other next chain' order' other' all o x lt is before hi labels seeks more part =
      subst (λ xs. ChoicesPlaced g j n l at start next chain' order' other' xs) (ap (λ y. take o all ++ y ∷ []) is ∙ sym (take_more all o x lt)) (choices_one g h i j n m l at start entry chain order other next chain' order' other' (take o all) x before hi labels seeks more part)

  -- ---- the end of the list

  module _ (c : Around) (q : Graph) (xs : List Item) (w : Walked) where
    under : (k : ℕ → Comes) (i j : Comes) → In i j → UnderExits (then_goes i (exits k e)) (then_goes j (exits k e))
    under k i j r = under_then i j (exits k e) (exits k e) r (under_exits e k k (λ s v z. z))

    same : (k : ℕ → Comes) → UnderExits (exits k e) (exits k e)
    same k = under_exits e k k (λ s v z. z)

    sought_last : (start entry other : ℕ) → Lays q start (λ k. default_or t c false (item_list xs) w (then_goes (k entry) (exits k e)) (k other)) → Lays q other (λ k. k e.next) → Lays q entry (λ k. k e.next) → Lays q start (λ k. at_default t c false (item_list xs) w (exits k e))
    sought_last start entry other all none last =
        lays_as q start (λ k. default_or t c false (item_list xs) w (exits k e) (k e.next)) _ (λ k. default_is t c false (item_list xs) w (exits k e))
        (lays_then q start other (λ k v. default_or t c false (item_list xs) w (exits k e) v) (λ k. k e.next) (λ k i j r. default_in t c false (item_list xs) w _ _ i j (same k) r)
        (lays_then q start entry (λ k v. default_or t c false (item_list xs) w (then_goes v (exits k e)) (k other)) (λ k. k e.next) (λ k i j r. default_in t c false (item_list xs) w _ _ (k other) (k other) (under k i j r) (λ s z. z)) all (leads q entry (λ k. k e.next) last)) (leads q other (λ k. k e.next) none))

    chosen_last : (at start entry chain order : ℕ) → Lays q at (λ k. at_cases t c d 1 false (item_list xs) w (then_goes (k entry) (exits k e)) (k chain)) → Lays q chain (λ k. emit (act (Test d order)) (k start)) → Lays q entry (λ k. k e.next)
        → Lays q start (λ k. at_default t c false (item_list xs) w (exits k e)) → Lays q at (λ k. at_cases t c d 1 false (item_list xs) w (exits k e) (emit (act (Test d order)) (at_default t c false (item_list xs) w (exits k e))))
    chosen_last at start entry chain order all none last seeks =
        lays_then q at start (λ k v. at_cases t c d 1 false (item_list xs) w (exits k e) (emit (act (Test d order)) v)) (λ k. at_default t c false (item_list xs) w (exits k e)) (λ k i j r. cases_under t c (item_list xs) d 1 false w _ _ _ _ (same k) (emit_in (act (Test d order)) i j r))
        (lays_then q at chain (λ k v. at_cases t c d 1 false (item_list xs) w (exits k e) v) (λ k. emit (act (Test d order)) (k start)) (λ k i j r. cases_under t c (item_list xs) d 1 false w _ _ i j (same k) r)
        (lays_then q at entry (λ k v. at_cases t c d 1 false (item_list xs) w (then_goes v (exits k e)) (k chain)) (λ k. k e.next) (λ k i j r. cases_under t c (item_list xs) d 1 false w _ _ (k chain) (k chain) (under k i j r) (λ s z. z)) all (leads q entry (λ k. k e.next) last))
        (leads q chain (λ k. emit (act (Test d order)) (k start)) none)) (leads q start (λ k. at_default t c false (item_list xs) w (exits k e)) seeks)

  choices_end : (g h i : Graph) (n m : Numbers) (at start entry chain order other : ℕ) (xs : List Item) → ChoicesPlaced g h n m at start entry chain order other xs → Grown h i
      → LaidAt i chain (λ k. emit (act (Test d order)) (k start)) → LaidAt i other (λ k. k e.next) → LaidAt i entry (λ k. k e.next) → (kind : Option IntKind)
      → Placed g i n m at (λ c w k. at_cases t c d 1 false (item_list xs) w (exits k e) (emit (act (Test d (suc (length (case_values kind (item_list xs)))))) (at_default t c false (item_list xs) w (exits k e)))) (λ c w. walk_items t c false (item_list xs) w)
  choices_end g h i n m at start entry chain order other xs before hi none seeks last kind = record {
    grown = grown_then g h i before.grown hi;
    laid = λ c w u q k.
        let keep = keeps_then h i q hi.keeps k in
        let number : order ≡ suc (length (case_values kind (item_list xs))) = omega (arith, before.numbered, cases_count kind 1 xs) in
        subst (λ o. Lays q at (λ k. at_cases t c d 1 false (item_list xs) w (exits k e) (emit (act (Test d o)) (at_default t c false (item_list xs) w (exits k e))))) number
        (chosen_last c q xs w at start entry chain order (before.chosen c w u q keep) (none q k) (last q k) (sought_last c q xs w start entry other (before.sought c w u q keep) (seeks q k) (last q k)));
    counted = before.counted;
  }

  pub choices_all : (g h i : Graph) (n m : Numbers) (at start entry chain order other o : ℕ) (all : List Item) → length all ≤ o → ChoicesPlaced g h n m at start entry chain order other (take o all) → Grown h i
      → LaidAt i chain (λ k. emit (act (Test d order)) (k start)) → LaidAt i other (λ k. k e.next) → LaidAt i entry (λ k. k e.next) → (kind : Option IntKind)
      → Placed g i n m at (λ c w k. at_cases t c d 1 false (item_list all) w (exits k e) (emit (act (Test d (suc (length (case_values kind (item_list all)))))) (at_default t c false (item_list all) w (exits k e)))) (λ c w. walk_items t c false (item_list all) w)
  choices_all g h i n m at start entry chain order other o all le before hi none seeks last kind =
      choices_end g h i n m at start entry chain order other all (subst (λ xs. ChoicesPlaced g h n m at start entry chain order other xs) (take_all o all le) before) hi none seeks last kind
