-- The cases of a switch: from which statement on the value's number leads, and that walks lead there.
use Rattle.std.proofs.Common.{ℤ, ℕ, zero, suc, ◌≤◌, ◌<◌, ◌+◌, ◌-◌, List, [], ◌∷◌, ◌++◌, ◌≡◌, refl, subst, ap, inl, inr, length, arith, Option, Some, None, Bool, true, false}
use Rattle.std.proofs.lemmas.Bool.Decides.{nat_tests}
use Rattle.std.specs.Prelude.{◌||◌, nat_le, if◌then◌else◌}
use Rattle.std.specs.Ordering.{int_eq}
use Rattle.c_base.specs.declared.place.IntKind.{IntKind}
use Rattle.c_syntax.specs.Shape.{LabelShape, case, default, ItemShapes, no_items, more_items}
use Rattle.c_store.specs.declared.value.Value.{Value}
use Rattle.c_store.specs.declared.value.Value.TheVariants.{Int, Null, At}
use Rattle.c_arith.specs.Arith.{wrap}
use Rattle.c_tables.specs.Tables.{TablesShape}
use Rattle.c_walk.specs.declared.around.Around.{Around}
use Rattle.c_walk.specs.Tests.{label_values, case_values}
use Rattle.c_walk.specs.Walked.{Walked, with_block_if}
use Rattle.c_walk.specs.Counted.{next_block}
use Rattle.c_walk.specs.Stating.{splits, is_labelled, case_count, pos_of_stmt, walk_stmt}
use Rattle.c_meaning.specs.Constants.{label_constants, case_constants, number_among, chosen_among}
use Rattle.flow_walks.specs.declared.action.Action.TheVariants.{Block, Test}
use Rattle.flow_walks.specs.Comes.{act, Comes, emit, emit_if, choice}
use Rattle.flow_walks.specs.Statements.{Exits, then_goes, cases_go, stmt_goes, items_go, at_cases}
use Rattle.flow_walks.proofs.More.{In}

pub le_is : (m n : ℕ) → nat_le m n ≡ true → m ≤ n
le_is m n h = grind (arith, nat_tests)

pub le_not : (m n : ℕ) → nat_le m n ≡ false → n < m
le_not m n h = grind (arith, nat_tests)

-- ---- how many there are

labels_count : (k : Option IntKind) (ls : List LabelShape) → length (label_values k ls) ≡ case_count ls
labels_count k [] = refl
labels_count k (case p a ∷ ls) = ap suc (labels_count k ls)
labels_count k (default p ∷ ls) = labels_count k ls

constants_count : (k : Option IntKind) (ls : List LabelShape) → length (label_constants k ls) ≡ case_count ls
constants_count k [] = refl
constants_count k (case p a ∷ ls) = ap suc (constants_count k ls)
constants_count k (default p ∷ ls) = constants_count k ls

pub cases_among : ItemShapes → ℕ
cases_among no_items = 0
cases_among (more_items labels a rest) = case_count labels + cases_among rest

both_lengths : {A : Type 0} (xs ys : List A) → length (xs ++ ys) ≡ length xs + length ys
both_lengths [] ys = omega arith
both_lengths (x ∷ xs) ys = let e = both_lengths xs ys in omega (arith, e)

pub values_count : (k : Option IntKind) (items : ItemShapes) → length (case_values k items) ≡ cases_among items
unfolding cases_among
values_count k no_items = refl
values_count k (more_items labels a rest) =
    let e = both_lengths (label_values k labels) (case_values k rest) in
    let f = labels_count k labels in
    let g = values_count k rest in
    omega (arith, e, f, g)

pub all_constants : (k : Option IntKind) (items : ItemShapes) → length (case_constants k items) ≡ cases_among items
unfolding cases_among
all_constants k no_items = refl
all_constants k (more_items labels a rest) =
    let e = both_lengths (label_constants k labels) (case_constants k rest) in
    let f = constants_count k labels in
    let g = all_constants k rest in
    omega (arith, e, f, g)

-- a value's number is that of a constant, or one more
pub record Within (n m : ℕ) : Type 0 where
  pub low : 1 ≤ n
  pub high : n ≤ suc m

pick_within : (b : Bool) (n m : ℕ) → Within n m → Within (if b then 1 else suc n) (suc m)
pick_within true n m h = record { low = omega arith; high = omega arith }
pick_within false n m h = let l = h.low in let k = h.high in record { low = omega arith; high = omega (arith, k) }

among_within : (v : ℤ) (cs : List ℤ) → Within (number_among v cs) (length cs)
among_within v [] = record { low = omega arith; high = omega arith }
among_within v (c ∷ cs) = pick_within (int_eq v c) (number_among v cs) (length cs) (among_within v cs)

pub chosen_within : (k : Option IntKind) (v : Value) (cs : List ℤ) → Within (chosen_among k v cs) (length cs)
chosen_within (Some k) (Int z) cs = among_within (wrap k z) cs
chosen_within (Some k) Null cs = record { low = omega arith; high = omega arith }
chosen_within (Some k) (At q) cs = record { low = omega arith; high = omega arith }
chosen_within None v cs = record { low = omega arith; high = omega arith }

-- ---- where they lead

module _ (t : TablesShape) (c : Around) where
  -- from the statement on that has the case of that number, of those that are left
  abbrev pub from_case : ℕ → Bool → ItemShapes → Walked → Exits → Comes
  from_case n after no_items w x = x.next
  from_case n after (more_items labels a rest) w x =
      let b = after || is_labelled labels in
      let j = with_block_if b (pos_of_stmt a) w in
      choice (nat_le n (case_count labels))
      (emit_if b (act (Block (next_block w))) (stmt_goes t c a j (then_goes (items_go t c (splits a) rest (walk_stmt t c a j) x) x)))
      (from_case (n - case_count labels) (splits a) rest (walk_stmt t c a j) x)

  else_labels : (d o : ℕ) (ls : List LabelShape) (there k : Comes) → In k (cases_go d o ls there k)
  else_labels d o [] there k w p = p
  else_labels d o (case q a ∷ ls) there k w p = inr (else_labels d (suc o) ls there k w p)
  else_labels d o (default q ∷ ls) there k w p = else_labels d o ls there k w p

  pub else_in : (d o : ℕ) (after : Bool) (items : ItemShapes) (w : Walked) (x : Exits) (k : Comes) → In k (at_cases t c d o after items w x k)
  else_in d o after no_items w x k v p = p
  else_in d o after (more_items labels a rest) w x k v p =
      let j = with_block_if (after || is_labelled labels) (pos_of_stmt a) w in
      else_labels d o labels _ _ v (else_in d (o + case_count labels) (splits a) rest (walk_stmt t c a j) x k v p)

  -- the n-th of these labels, counted from 0
  label_in : (d o n : ℕ) (ls : List LabelShape) (there k : Comes) → n < case_count ls → In (emit (act (Test d (o + n))) there) (cases_go d o ls there k)
  label_in d o n [] there k lt w p = absurd (omega (arith, lt))
  label_in d o zero (case q a ∷ ls) there k lt w p = inl (subst (λ (m : ℕ). emit (act (Test d m)) there w) (omega arith) p)
  label_in d o (suc n) (case q a ∷ ls) there k lt w p =
      inr (label_in d (suc o) n ls there k (omega (arith, lt)) w (subst (λ (m : ℕ). emit (act (Test d m)) there w) (omega arith) p))
  label_in d o n (default q ∷ ls) there k lt w p = label_in d o n ls there k lt w p

  case_there : (d o m : ℕ) (after : Bool) (labels : List LabelShape) (b : Bool) → nat_le (suc m) (case_count labels) ≡ b → (there rest k l : Comes) → In k l
      → ((case_count labels ≤ m) → In (emit (act (Test d ((o + case_count labels) + (m - case_count labels)))) rest) k) → In (emit (act (Test d (o + m))) (choice b there rest)) (cases_go d o labels there k)
  case_there d o m after labels true e there rest k l i h v p = label_in d o m labels there k (le_is (suc m) (case_count labels) e) v p
  case_there d o m after labels false e there rest k l i h v p =
      let le : case_count labels ≤ m = let lt = le_not (suc m) (case_count labels) e in omega (arith, lt) in
      else_labels d o labels there k v (h le v (subst (λ (n : ℕ). emit (act (Test d n)) rest v) (omega (arith, le)) p))

  pub case_in : (d o m : ℕ) (after : Bool) (items : ItemShapes) (w : Walked) (x : Exits) (k : Comes) → m < cases_among items → In (emit (act (Test d (o + m))) (from_case (suc m) after items w x)) (at_cases t c d o after items w x k)
  unfolding cases_among
  case_in d o m after no_items w x k lt = absurd (omega (arith, lt))
  case_in d o m after (more_items labels a rest) w x k lt =
      let b = after || is_labelled labels in
      let j = with_block_if b (pos_of_stmt a) w in
      let u = walk_stmt t c a j in
      let there = emit_if b (act (Block (next_block w))) (stmt_goes t c a j (then_goes (items_go t c (splits a) rest u x) x)) in
      case_there d o m after labels (nat_le (suc m) (case_count labels)) refl there (from_case (suc m - case_count labels) (splits a) rest u x) (at_cases t c d (o + case_count labels) (splits a) rest u x k) (at_cases t c d (o + case_count labels) (splits a) rest u x k) (λ v p. p)
      (λ le. subst (λ (n : ℕ). In (emit (act (Test d ((o + case_count labels) + (m - case_count labels)))) (from_case n (splits a) rest u x)) (at_cases t c d (o + case_count labels) (splits a) rest u x k)) (omega (arith, le))
      (case_in d (o + case_count labels) (m - case_count labels) (splits a) rest u x k (omega (arith, le, lt))))
