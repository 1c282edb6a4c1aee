-- Tests, blocks and pairs, each from its parts.
use Rattle.std.proofs.Common.{ℕ, ◌≡◌, sym, subst}
use Rattle.c_base.specs.declared.place.Pos.{Pos}
use Rattle.c_syntax.specs.Shape.{NoteShape, and, or, NodeShape, node, ExprShape, two, one_node}
use Rattle.c_tables.specs.Tables.{TablesShape}
use Rattle.c_walk.specs.declared.around.Around.{Around}
use Rattle.c_walk.specs.declared.around.Taken.{Taken}
use Rattle.c_walk.specs.declared.around.Taken.TheVariants.{Read}
use Rattle.c_walk.specs.Walked.{Walked, with_block, pos_of, inside_test, with_test, next_decision}
use Rattle.c_walk.specs.Walking.{walk_node, walk_test, walk_arm, walk_loop_test}
use Rattle.c_walk.specs.Counted.{next_block}
use Rattle.flow_walks.specs.declared.action.Action.TheVariants.{Block}
use Rattle.flow_walks.specs.Comes.{Comes, act, emit, value, test}
use Rattle.flow_walks.specs.Expressions.{changed_at, node_goes, form_goes, test_goes, arm_goes, loop_test_goes}
use Rattle.flow_walks.proofs.More.{emit_in, value_in, test_in, changed_in}
use Rattle.flow_rows.specs.Paths.{Graph}
use Rattle.flow_rows.specs.Counts.{counts, Counted}
use Rattle.flow_rows.specs.Laying.{Grown, Lays, LaidAt, LedAt, Placed, ways, yes_of, no_of}
use Rattle.flow_rows.specs.declared.numbers.Numbers.{Numbers}
use Rattle.flow_rows.specs.declared.targets.To.{To}
use Rattle.flow_rows.specs.declared.targets.To.TheVariants.{Value, Test}
use Rattle.flow_rows.proofs.Laws.{lead_placed, then_placed, grown_placed, grown_then, lays_then, leads, keeps_then}
use Rattle.flow_rows.proofs.Arms.{FormPlaced}

abbrev Goes : Type 1
Goes = Around → Walked → (ℕ → Comes) → Comes

abbrev Walks : Type 0
Walks = Around → Walked → Walked

-- ---- blocks

-- a part that is a block: its row leads to one at which the part is laid
pub block_placed : (g h i j : Graph) (n l m : Numbers) (b at z : ℕ) (p : Pos) (G : Goes) (walk : Walks)
    → Grown g h → Grown h i → LaidAt i at (λ k. emit (act (Block b)) (k z)) → ((w : Walked) → counts w ≡ n → b ≡ next_block w) → ((p : Pos) → Counted n l (λ c w. with_block p w)) → Placed i j l m z G walk
    → Placed g j n m at (λ c w k. emit (act (Block (next_block w))) (G c (with_block p w) k)) (λ c w. walk c (with_block p w))
block_placed g h i j n l m b at z p G walk gh hi row number count part = record {
  grown = grown_then g i j (grown_then g h i gh hi) part.grown;
  laid = λ c w e q k.
      let first = subst (λ b. Lays q at (λ k. emit (act (Block b)) (k z))) (number w e) (row q (keeps_then i j q part.grown.keeps k)) in
      lays_then q at z (λ k x. emit (act (Block (next_block w))) x) (G c (with_block p w)) (λ k x y u. emit_in (act (Block (next_block w))) x y u) first (leads q z (G c (with_block p w)) (part.laid c (with_block p w) (count p c w e) q k));
  counted = λ c w e. part.counted c (with_block p w) (count p c w e);
}

-- ---- a row that leads to one that was laid before

pub fill_placed : (g h i : Graph) (n m : Numbers) (at y : ℕ) (R : Walked → (ℕ → Comes) → Comes) (walk : Walks) → Grown g h → ((w : Walked) → counts w ≡ n → LedAt h y (R w)) → Counted n m walk → Grown h i → LaidAt i at (λ k. k y) → Placed g i n m at (λ c w k. R w k) walk
fill_placed g h i n m at y R walk gh led count hi l = record {
  grown = grown_then g h i gh hi;
  laid = λ c w e j k. lays_then j at y (λ k u. u) (R w) (λ k i j q. q) (l j k) (led w e j (keeps_then h i j hi.keeps k));
  counted = count;
}

module _ (t : TablesShape) where
  pub arm_placed : (g h i j : Graph) (n l m : Numbers) (b at z y : ℕ) (p o : Pos) (x : NoteShape) (f : ExprShape)
      → Grown g h → Grown h i → LaidAt i at (λ k. emit (act (Block b)) (k z)) → ((w : Walked) → counts w ≡ n → b ≡ next_block w) → ((p : Pos) → Counted n l (λ c w. with_block p w))
      → Placed i j l m z (λ c w k. node_goes t c Read (node p o x f) w (value (k y))) (λ c w. walk_node c Read (node p o x f) w)
      → Placed g j n m at (λ c w k. arm_goes t c (node p o x f) w (k y)) (λ c w. walk_arm c (node p o x f) w)
  arm_placed g h i j n l m b at z y p o x f gh hi row number count part =
      block_placed g h i j n l m b at z p (λ c w k. node_goes t c Read (node p o x f) w (value (k y))) (λ c w. walk_node c Read (node p o x f) w) gh hi row number count part

  pub loop_test_placed : (g h i j : Graph) (n l m : Numbers) (b at z y y' : ℕ) (a : NodeShape)
      → Grown g h → Grown h i → LaidAt i at (λ k. emit (act (Block b)) (k z)) → ((w : Walked) → counts w ≡ n → b ≡ next_block w) → ((p : Pos) → Counted n l (λ c w. with_block p w))
      → Placed i j l m z (λ c w k. test_goes t c a w (k y) (k y')) (λ c w. walk_test c a w)
      → Placed g j n m at (λ c w k. loop_test_goes t c (one_node a) w (k y) (k y')) (λ c w. walk_loop_test c a w)
  loop_test_placed g h i j n l m b at z y y' a gh hi row number count part =
      block_placed g h i j n l m b at z (pos_of a) (λ c w k. test_goes t c a w (k y) (k y')) (λ c w. walk_test c a w) gh hi row number count part

  -- ---- tests

  pub test_placed : (g h : Graph) (n l m : Numbers) (d at y y' : ℕ) (p o : Pos) (x : NoteShape) (f : ExprShape)
      → ((w : Walked) → counts w ≡ n → d ≡ next_decision w) → Counted n l (λ c w. with_test p f w)
      → Placed g h l m at (λ c w k. node_goes t c Read (node p o x f) w (ways k (Test d y y'))) (λ c w. walk_node c Read (node p o x f) w)
      → Placed g h n m at (λ c w k. test_goes t c (node p o x f) w (k y) (k y')) (λ c w. walk_test c (node p o x f) w)
  test_placed g h n l m d at y y' p o x f number count part = record {
    grown = part.grown;
    laid = λ c w e. subst (λ d. LaidAt h at (λ k. form_goes t (inside_test c f w) Read p x f (with_test p f w) (test d (k y) (k y')))) (number w e) (part.laid (inside_test c f w) (with_test p f w) (count c w e));
    counted = λ c w e. part.counted (inside_test c f w) (with_test p f w) (count c w e);
  }

  module _ (r : Taken) (p : Pos) (x : NoteShape) (f : ExprShape) (at : ℕ) (n l m : Numbers) (g h i j : Graph) (z : ℕ) (a b : NodeShape) (gh : Grown g h) where
    and_to : (to : To) → Placed g j n m at (λ c w k. test_goes t c a w (loop_test_goes t c (one_node b) (walk_test c a w) (k (yes_of to)) (k (no_of to))) (k (no_of to))) (λ c w. walk_loop_test c b (walk_test c a w)) → FormPlaced t r p x (two and a b) to g j n m at
    and_to (Value y) q = q
    and_to (Test d y y') q = q

    or_to : (to : To) → Placed g j n m at (λ c w k. test_goes t c a w (k (yes_of to)) (loop_test_goes t c (one_node b) (walk_test c a w) (k (yes_of to)) (k (no_of to)))) (λ c w. walk_loop_test c b (walk_test c a w)) → FormPlaced t r p x (two or a b) to g j n m at
    or_to (Value y) q = q
    or_to (Test d y y') q = q

    pub and_arm : (to : To) (y y' : ℕ) → f ≡ two and a b → y ≡ yes_of to → y' ≡ no_of to
        → Placed h i n l at (λ c w k. test_goes t c a w (k z) (k y')) (λ c w. walk_test c a w) → Placed i j l m z (λ c w k. loop_test_goes t c (one_node b) w (k y) (k y')) (λ c w. walk_loop_test c b w) → FormPlaced t r p x f to g j n m at
    and_arm to y y' is e e' first second =
        let all = grown_placed n g h j m at _ _ gh (then_placed n h i j l m at z (λ c w k v. test_goes t c a w v (k y')) (λ c w k. loop_test_goes t c (one_node b) w (k y) (k y')) (λ c w. walk_test c a w) (λ c w. walk_loop_test c b w) (λ c w k u v q. test_in t c a w _ _ _ _ q (λ s z. z)) first second) in
        subst (λ f. FormPlaced t r p x f to g j n m at) (sym is) (and_to to
        (subst (λ y. Placed g j n m at (λ c w k. test_goes t c a w (loop_test_goes t c (one_node b) (walk_test c a w) (k y) (k (no_of to))) (k (no_of to))) (λ c w. walk_loop_test c b (walk_test c a w))) e
        (subst (λ y'. Placed g j n m at (λ c w k. test_goes t c a w (loop_test_goes t c (one_node b) (walk_test c a w) (k y) (k y')) (k y')) (λ c w. walk_loop_test c b (walk_test c a w))) e' all)))

    pub or_arm : (to : To) (y y' : ℕ) → f ≡ two or a b → y ≡ yes_of to → y' ≡ no_of to
        → Placed h i n l at (λ c w k. test_goes t c a w (k y) (k z)) (λ c w. walk_test c a w) → Placed i j l m z (λ c w k. loop_test_goes t c (one_node b) w (k y) (k y')) (λ c w. walk_loop_test c b w) → FormPlaced t r p x f to g j n m at
    or_arm to y y' is e e' first second =
        let all = grown_placed n g h j m at _ _ gh (then_placed n h i j l m at z (λ c w k v. test_goes t c a w (k y) v) (λ c w k. loop_test_goes t c (one_node b) w (k y) (k y')) (λ c w. walk_test c a w) (λ c w. walk_loop_test c b w) (λ c w k u v q. test_in t c a w _ _ _ _ (λ s z. z) q) first second) in
        subst (λ f. FormPlaced t r p x f to g j n m at) (sym is) (or_to to
        (subst (λ y. Placed g j n m at (λ c w k. test_goes t c a w (k y) (loop_test_goes t c (one_node b) (walk_test c a w) (k y) (k (no_of to)))) (λ c w. walk_loop_test c b (walk_test c a w))) e
        (subst (λ y'. Placed g j n m at (λ c w k. test_goes t c a w (k y) (loop_test_goes t c (one_node b) (walk_test c a w) (k y) (k y'))) (λ c w. walk_loop_test c b (walk_test c a w))) e' all)))

  -- ---- one behind the other

  pub pair_placed : (g h i j : Graph) (n l m : Numbers) (at z y : ℕ) (a b : NodeShape) → Grown g h
      → Placed h i n l at (λ c w k. node_goes t c Read a w (value (k z))) (λ c w. walk_node c Read a w) → Placed i j l m z (λ c w k. node_goes t c Read b w (value (k y))) (λ c w. walk_node c Read b w)
      → Placed g j n m at (λ c w k. node_goes t c Read a w (value (node_goes t c Read b (walk_node c Read a w) (value (k y))))) (λ c w. walk_node c Read b (walk_node c Read a w))
  pair_placed g h i j n l m at z y a b gh first second =
      grown_placed n g h j m at _ _ gh (then_placed n h i j l m at z (λ c w k v. node_goes t c Read a w (value v)) (λ c w k. node_goes t c Read b w (value (k y))) (λ c w. walk_node c Read a w) (λ c w. walk_node c Read b w) (λ c w k u v q. value_in t c Read a w u v q) first second)

  pub assign_placed : (g h i j o : Graph) (n l m : Numbers) (at z u y : ℕ) (s r : Taken) (a b : NodeShape) → Grown g h → Grown h i → ((w : Walked) → counts w ≡ n → LedAt i u (λ k. changed_at s a w (k z)))
      → Placed i j n l at (λ c w k. node_goes t c s a w (value (k u))) (λ c w. walk_node c s a w) → Placed j o l m z (λ c w k. node_goes t c r b w (value (k y))) (λ c w. walk_node c r b w)
      → Placed g o n m at (λ c w k. node_goes t c s a w (value (changed_at s a w (node_goes t c r b (walk_node c s a w) (value (k y)))))) (λ c w. walk_node c r b (walk_node c s a w))
  assign_placed g h i j o n l m at z u y s r a b gh hi led first second =
      let left = lead_placed n g i j l at u (λ c w k v. node_goes t c s a w (value v)) (λ w k. changed_at s a w (k z)) (λ c w. walk_node c s a w) (λ c w k v v' q. value_in t c s a w v v' q) (grown_then g h i gh hi) led first in
      then_placed n g j o l m at z (λ c w k v. node_goes t c s a w (value (changed_at s a w v))) (λ c w k. node_goes t c r b w (value (k y))) (λ c w. walk_node c s a w) (λ c w. walk_node c r b w)
      (λ c w k v v' q. value_in t c s a w _ _ (changed_in s a w v v' q)) left second

  pub choice_placed : (g h i j o q : Graph) (n l l' m : Numbers) (at z z' y : ℕ) (a b d : NodeShape) → Grown g h → Grown h i
      → Placed i j n l at (λ c w k. test_goes t c a w (k z) (k z')) (λ c w. walk_test c a w) → Placed j o l l' z (λ c w k. arm_goes t c b w (k y)) (λ c w. walk_arm c b w) → Placed o q l' m z' (λ c w k. arm_goes t c d w (k y)) (λ c w. walk_arm c d w)
      → Placed g q n m at (λ c w k. test_goes t c a w (arm_goes t c b (walk_test c a w) (k y)) (arm_goes t c d (walk_arm c b (walk_test c a w)) (k y))) (λ c w. walk_arm c d (walk_arm c b (walk_test c a w)))
  choice_placed g h i j o q n l l' m at z z' y a b d gh hi first second third =
      let one = then_placed n i j o l l' at z (λ c w k v. test_goes t c a w v (k z')) (λ c w k. arm_goes t c b w (k y)) (λ c w. walk_test c a w) (λ c w. walk_arm c b w) (λ c w k u v r. test_in t c a w _ _ _ _ r (λ s x. x)) first second in
      grown_placed n g i q m at _ _ (grown_then g h i gh hi) (then_placed n i o q l' m at z' (λ c w k v. test_goes t c a w (arm_goes t c b (walk_test c a w) (k y)) v) (λ c w k. arm_goes t c d w (k y)) (λ c w. walk_arm c b (walk_test c a w)) (λ c w. walk_arm c d w) (λ c w k u v r. test_in t c a w _ _ _ _ (λ s x. x) r) one third)
