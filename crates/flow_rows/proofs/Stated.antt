-- Statements, each from its parts.
use Rattle.std.proofs.Common.{ℕ, ◌≡◌, false, subst}
use Rattle.c_base.specs.declared.place.Pos.{Pos}
use Rattle.c_syntax.specs.Shape.{NodeShape, one_node, MaybeNode, DeclShapes, StmtShape, when, either, while, do_while, for, braces, ItemShapes}
use Rattle.c_tables.specs.Tables.{TablesShape}
use Rattle.c_walk.specs.declared.around.Around.{Around}
use Rattle.c_walk.specs.Walked.{Walked}
use Rattle.c_walk.specs.Walking.{walk_test, walk_maybe, walk_loop_test, walk_maybe_test, walk_step}
use Rattle.c_walk.specs.Stating.{walk_decls, walk_body, walk_part, walk_compound, walk_items}
use Rattle.flow_walks.specs.Comes.{Comes, loop}
use Rattle.flow_walks.specs.Expressions.{test_goes, maybe_goes, loop_test_goes, step_goes}
use Rattle.flow_walks.specs.Statements.{decls_go, in_loop, body_goes, part_goes, compound_goes, items_go}
use Rattle.flow_walks.proofs.More.{In, test_in, maybe_in, loop_test_in, step_in, UnderExits, under_loop, part_in, decls_in}
use Rattle.flow_rows.specs.Paths.{Graph}
use Rattle.flow_rows.specs.Counts.{counts}
use Rattle.flow_rows.specs.Laying.{Grown, LedAt, Placed, exits, loop_targets}
use Rattle.flow_rows.specs.declared.numbers.Numbers.{Numbers}
use Rattle.flow_rows.specs.declared.targets.Targets.{Targets}
use Rattle.flow_rows.proofs.Laws.{then_placed, grown_placed, lays_then, leads, keeps_then, loop_lays}

abbrev Walks : Type 0
Walks = Around → Walked → Walked

pub under_exits : (x : Targets) (k l : ℕ → Comes) → ((r : ℕ) → In (k r) (l r)) → UnderExits (exits k x) (exits l x)
under_exits x k l h = record { next_in = h x.next; broken_in = h x.broken; continued_in = h x.continued; returned_in = h x.returned }

-- a part that leads to its own row
pub loop_placed : (g h : Graph) (n m : Numbers) (r : ℕ) (once : Around → Walked → (ℕ → Comes) → Comes → Comes) (walk : Walks)
    → ((c : Around) (w : Walked) (k l : ℕ → Comes) → ((t : ℕ) → In (k t) (l t)) → (i j : Comes) → In i j → In (once c w k i) (once c w l j))
    → Placed g h n m r (λ c w k. once c w k (k r)) walk → Placed g h n m r (λ c w k. loop (once c w k)) walk
loop_placed g h n m r once walk mono a = record { grown = a.grown; laid = λ c w e j k. loop_lays j r (once c w) (mono c w) (a.laid c w e j k); counted = a.counted }

-- a part that leads to a row where another one was laid that is counted within it
pub also_placed : (g h : Graph) (n m : Numbers) (r x : ℕ) (F : Around → Walked → (ℕ → Comes) → Comes → Comes) (G : Around → Walked → (ℕ → Comes) → Comes) (walk : Walks)
    → ((c : Around) (w : Walked) (k : ℕ → Comes) (i j : Comes) → In i j → In (F c w k i) (F c w k j)) → ((c : Around) (w : Walked) → counts w ≡ n → LedAt h x (G c w)) → Placed g h n m r (λ c w k. F c w k (k x)) walk → Placed g h n m r (λ c w k. F c w k (G c w k)) walk
also_placed g h n m r x F G walk mono led a = record { grown = a.grown; laid = λ c w e j k. lays_then j r x (F c w) (G c w) (mono c w) (a.laid c w e j k) (led c w e j k); counted = a.counted }

module _ (t : TablesShape) (x : Targets) where
  -- a part that leads to rows that are these
  pub part_within : (g h : Graph) (n m : Numbers) (at r : ℕ) (a : StmtShape) (y : Targets) → y ≡ loop_targets r x
      → Placed g h n m at (λ c w k. part_goes t c a w (exits k y)) (λ c w. walk_part t c a w) → Placed g h n m at (λ c w k. part_goes t c a w (exits k (loop_targets r x))) (λ c w. walk_part t c a w)
  part_within g h n m at r a y is part = subst (λ y. Placed g h n m at (λ c w k. part_goes t c a w (exits k y)) (λ c w. walk_part t c a w)) is part

  -- a test, and what is done where it is true
  pub when_placed : (g h i j : Graph) (n l m : Numbers) (at y : ℕ) (e : NodeShape) (a : StmtShape) → Grown g h
      → Placed h i n l at (λ c w k. test_goes t c e w (k y) (k x.next)) (λ c w. walk_test c e w) → Placed i j l m y (λ c w k. part_goes t c a w (exits k x)) (λ c w. walk_part t c a w)
      → Placed g j n m at (λ c w k. body_goes t c (when e a) w (exits k x)) (λ c w. walk_body t c (when e a) w)
  when_placed g h i j n l m at y e a gh test part =
      grown_placed n g h j m at _ _ gh (then_placed n h i j l m at y (λ c w k v. test_goes t c e w v (k x.next)) (λ c w k. part_goes t c a w (exits k x)) (λ c w. walk_test c e w) (λ c w. walk_part t c a w) (λ c w k u v q. test_in t c e w _ _ _ _ q (λ s z. z)) test part)

  pub either_placed : (g h i j o : Graph) (n l l' m : Numbers) (at y z : ℕ) (e : NodeShape) (a b : StmtShape) → Grown g h
      → Placed h i n l at (λ c w k. test_goes t c e w (k y) (k z)) (λ c w. walk_test c e w) → Placed i j l l' y (λ c w k. part_goes t c a w (exits k x)) (λ c w. walk_part t c a w) → Placed j o l' m z (λ c w k. part_goes t c b w (exits k x)) (λ c w. walk_part t c b w)
      → Placed g o n m at (λ c w k. body_goes t c (either e a b) w (exits k x)) (λ c w. walk_body t c (either e a b) w)
  either_placed g h i j o n l l' m at y z e a b gh test first second =
      let one = then_placed n h i j l l' at y (λ c w k v. test_goes t c e w v (k z)) (λ c w k. part_goes t c a w (exits k x)) (λ c w. walk_test c e w) (λ c w. walk_part t c a w) (λ c w k u v q. test_in t c e w _ _ _ _ q (λ s r. r)) test first in
      grown_placed n g h o m at _ _ gh (then_placed n h j o l' m at z (λ c w k v. test_goes t c e w (part_goes t c a (walk_test c e w) (exits k x)) v) (λ c w k. part_goes t c b w (exits k x)) (λ c w. walk_part t c a (walk_test c e w)) (λ c w. walk_part t c b w) (λ c w k u v q. test_in t c e w _ _ _ _ (λ s r. r) q) one second)

  pub while_placed : (g h i j : Graph) (n l m : Numbers) (at y : ℕ) (e : NodeShape) (a : StmtShape) → Grown g h
      → Placed h i n l at (λ c w k. loop_test_goes t c (one_node e) w (k y) (k x.next)) (λ c w. walk_loop_test c e w) → Placed i j l m y (λ c w k. part_goes t c a w (exits k (loop_targets at x))) (λ c w. walk_part t c a w)
      → Placed g j n m at (λ c w k. body_goes t c (while e a) w (exits k x)) (λ c w. walk_body t c (while e a) w)
  while_placed g h i j n l m at y e a gh test part =
      grown_placed n g h j m at _ _ gh (loop_placed h j n m at (λ c w k v. loop_test_goes t c (one_node e) w (part_goes t c a (walk_loop_test c e w) (in_loop v (exits k x))) (k x.next)) (λ c w. walk_part t c a (walk_loop_test c e w))
      (λ c w k o kl u v q. loop_test_in t c (one_node e) w _ _ _ _ (part_in t c a (walk_loop_test c e w) _ _ (under_loop u v (exits k x) (exits o x) q (under_exits x k o kl))) (kl x.next))
      (then_placed n h i j l m at y (λ c w k v. loop_test_goes t c (one_node e) w v (k x.next)) (λ c w k. part_goes t c a w (exits k (loop_targets at x))) (λ c w. walk_loop_test c e w) (λ c w. walk_part t c a w) (λ c w k u v q. loop_test_in t c (one_node e) w _ _ _ _ q (λ s z. z)) test part))

  pub do_placed : (g h i j : Graph) (n l m : Numbers) (at y : ℕ) (e : NodeShape) (a : StmtShape) → Grown g h
      → Placed h i n l at (λ c w k. part_goes t c a w (exits k (loop_targets y x))) (λ c w. walk_part t c a w) → Placed i j l m y (λ c w k. loop_test_goes t c (one_node e) w (k at) (k x.next)) (λ c w. walk_loop_test c e w)
      → Placed g j n m at (λ c w k. body_goes t c (do_while a e) w (exits k x)) (λ c w. walk_body t c (do_while a e) w)
  do_placed g h i j n l m at y e a gh part test =
      grown_placed n g h j m at _ _ gh (loop_placed h j n m at (λ c w k v. part_goes t c a w (in_loop (loop_test_goes t c (one_node e) (walk_part t c a w) v (k x.next)) (exits k x))) (λ c w. walk_loop_test c e (walk_part t c a w))
      (λ c w k o kl u v q. part_in t c a w _ _ (under_loop _ _ (exits k x) (exits o x) (loop_test_in t c (one_node e) (walk_part t c a w) _ _ _ _ q (kl x.next)) (under_exits x k o kl)))
      (then_placed n h i j l m at y (λ c w k v. part_goes t c a w (in_loop v (exits k x))) (λ c w k. loop_test_goes t c (one_node e) w (k at) (k x.next)) (λ c w. walk_part t c a w) (λ c w. walk_loop_test c e w)
      (λ c w k u v q. part_in t c a w _ _ (under_loop u v (exits k x) (exits k x) q (under_exits x k k (λ r s z. z)))) part test))

  -- the test, the step and the body of a `for`, laid in this order: the step is counted before the body, which leads to it
  pub turn_placed : (h i j o : Graph) (l l' l'' m : Numbers) (at y z : ℕ) (f s : MaybeNode) (a : StmtShape)
      → Placed h i l l' at (λ c w k. loop_test_goes t c f w (k y) (k x.next)) (λ c w. walk_maybe_test c f w) → Placed i j l' l'' z (λ c w k. step_goes t c s w (k at)) (λ c w. walk_step c s w)
      → Placed j o l'' m y (λ c w k. part_goes t c a w (exits k (loop_targets z x))) (λ c w. walk_part t c a w)
      → Placed h o l m at (λ c w k. loop (λ again. loop_test_goes t c f w (part_goes t c a (walk_step c s (walk_maybe_test c f w)) (in_loop (step_goes t c s (walk_maybe_test c f w) again) (exits k x))) (k x.next))) (λ c w. walk_part t c a (walk_step c s (walk_maybe_test c f w)))
  turn_placed h i j o l l' l'' m at y z f s a test step part =
      let both = then_placed l h i j l' l'' at z (λ c w k v. loop_test_goes t c f w (k y) (k x.next)) (λ c w k. step_goes t c s w (k at)) (λ c w. walk_maybe_test c f w) (λ c w. walk_step c s w) (λ c w k u v q r p. p) test step in
      let all = then_placed l h j o l'' m at y (λ c w k v. loop_test_goes t c f w v (k x.next)) (λ c w k. part_goes t c a w (exits k (loop_targets z x))) (λ c w. walk_step c s (walk_maybe_test c f w)) (λ c w. walk_part t c a w) (λ c w k u v q. loop_test_in t c f w _ _ _ _ q (λ r p. p)) both part in
      loop_placed h o l m at (λ c w k v. loop_test_goes t c f w (part_goes t c a (walk_step c s (walk_maybe_test c f w)) (in_loop (step_goes t c s (walk_maybe_test c f w) v) (exits k x))) (k x.next)) (λ c w. walk_part t c a (walk_step c s (walk_maybe_test c f w)))
      (λ c w k n kl u v q. loop_test_in t c f w _ _ _ _ (part_in t c a (walk_step c s (walk_maybe_test c f w)) _ _ (under_loop _ _ (exits k x) (exits n x) (step_in t c s (walk_maybe_test c f w) u v q) (under_exits x k n kl))) (kl x.next))
      (also_placed h o l m at z (λ c w k v. loop_test_goes t c f w (part_goes t c a (walk_step c s (walk_maybe_test c f w)) (in_loop v (exits k x))) (k x.next)) (λ c w k. step_goes t c s (walk_maybe_test c f w) (k at)) (λ c w. walk_part t c a (walk_step c s (walk_maybe_test c f w)))
      (λ c w k u v q. loop_test_in t c f w _ _ _ _ (part_in t c a (walk_step c s (walk_maybe_test c f w)) _ _ (under_loop u v (exits k x) (exits k x) q (under_exits x k k (λ r s p. p)))) (λ r p. p))
      (λ c w e q k. leads q z (λ k. step_goes t c s (walk_maybe_test c f w) (k at)) (step.laid c (walk_maybe_test c f w) (test.counted c w e) q (keeps_then j o q part.grown.keeps k))) all)

  pub for_placed : (g h i j o q : Graph) (n l l' l'' m : Numbers) (r at y z : ℕ) (e f s : MaybeNode) (a : StmtShape) → Grown g h
      → Placed h i n l r (λ c w k. maybe_goes t c e w (k at)) (λ c w. walk_maybe c e w)
      → Placed i j l l' at (λ c w k. loop_test_goes t c f w (k y) (k x.next)) (λ c w. walk_maybe_test c f w) → Placed j o l' l'' z (λ c w k. step_goes t c s w (k at)) (λ c w. walk_step c s w)
      → Placed o q l'' m y (λ c w k. part_goes t c a w (exits k (loop_targets z x))) (λ c w. walk_part t c a w)
      → Placed g q n m r (λ c w k. body_goes t c (for e f s a) w (exits k x)) (λ c w. walk_body t c (for e f s a) w)
  for_placed g h i j o q n l l' l'' m r at y z e f s a gh first test step part =
      grown_placed n g h q m r _ _ gh (then_placed n h i q l m r at (λ c w k v. maybe_goes t c e w v)
      (λ c w k. loop (λ again. loop_test_goes t c f w (part_goes t c a (walk_step c s (walk_maybe_test c f w)) (in_loop (step_goes t c s (walk_maybe_test c f w) again) (exits k x))) (k x.next)))
      (λ c w. walk_maybe c e w) (λ c w. walk_part t c a (walk_step c s (walk_maybe_test c f w))) (λ c w k u v p. maybe_in t c e w u v p) first (turn_placed i j o q l l' l'' m at y z f s a test step part))

  pub compound_placed : (g h i j : Graph) (n l m : Numbers) (at y : ℕ) (p : Pos) (ds : DeclShapes) (items : ItemShapes) → Grown g h
      → Placed h i n l at (λ c w k. decls_go t c ds w (k y)) (λ c w. walk_decls t c ds w) → Placed i j l m y (λ c w k. items_go t c false items w (exits k x)) (λ c w. walk_items t c false items w)
      → Placed g j n m at (λ c w k. compound_goes t c (braces p ds items) w (exits k x)) (λ c w. walk_compound t c (braces p ds items) w)
  compound_placed g h i j n l m at y p ds items gh first second =
      grown_placed n g h j m at _ _ gh (then_placed n h i j l m at y (λ c w k v. decls_go t c ds w v) (λ c w k. items_go t c false items w (exits k x)) (λ c w. walk_decls t c ds w) (λ c w. walk_items t c false items w) (λ c w k u v q. decls_in t c ds w u v q) first second)
