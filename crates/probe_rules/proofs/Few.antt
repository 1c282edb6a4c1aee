-- Where few items are counted, few are counted before, and one that is counted there has a number that a probe may have.
use Rattle.std.proofs.Common.{◌≡◌, ℕ, ◌+◌, ◌≤◌, ◌<◌, ◌++◌, List, [], ◌∷◌, Option, Bool, true, false, sym, subst, true≢false, arith}
use Rattle.std.specs.Prelude.{if◌then◌else◌}
use Rattle.c_base.specs.declared.place.Pos.{Pos}
use Rattle.c_syntax.specs.Shape.{NoteShape, unary, before, size_of, plain, and, or, assign, comma, NodeShape, ExprShape, leaf, paren, call, prefix, size_of_type, cast, suffix, two, choose, probe, index, field, behind, NodeShapes, no_nodes, more_nodes}
use Rattle.c_walk.specs.declared.around.Around.{Around}
use Rattle.c_walk.specs.declared.around.Taken.{Taken}
use Rattle.c_walk.specs.declared.around.Taken.TheVariants.{Read, Written, Changed, Copied}
use Rattle.c_walk.specs.Items.{Direct, Item, Outcomes, block, decision, def, used}
use Rattle.c_walk.specs.Places.{is_place, has_scalar, direct_form, has_structure}
use Rattle.c_walk.specs.Tests.{is_logical_form, outcomes_of_form}
use Rattle.c_walk.specs.Walked.{Walked, with_item, with_test, with_block, with_decision, next_decision, pos_of, operand_taken, left_taken, right_taken, with_def, with_use, with_sites, with_site}
use Rattle.c_walk.specs.Walking.{walk_node, walk_form, walk_test, walk_arm, walk_nodes}
use Rattle.c_walk.specs.Counted.{block_count, def_count, use_count}
use Rattle.c_meaning.specs.Counts.{IsBefore}
use Rattle.c_meaning.proofs.Walks.{on_further, node_on, test_node_on, arm_on, block_on}
use Rattle.probe_rules.specs.Fitting.{HasFewItems}

pub few_before : {v w : Walked} → IsBefore v w → HasFewItems w → HasFewItems v
few_before b few = record {
  blocks = omega (arith, b.blocks, few.blocks);
  decisions = omega (arith, b.decisions, few.decisions);
  defs = omega (arith, b.defs, few.defs);
  uses = omega (arith, b.uses, few.uses);
}

-- ---- one more item

pub blocks_then : (items : List Item) (i : Item) → block_count (items ++ i ∷ []) ≡ block_count items + block_count (i ∷ [])
blocks_then [] i = omega arith
blocks_then (block p ∷ items) i = omega (arith, blocks_then items i)
blocks_then (decision p o ∷ items) i = blocks_then items i
blocks_then (def p f d ∷ items) i = blocks_then items i
blocks_then (used p f d o ∷ items) i = blocks_then items i

pub defs_then : (items : List Item) (i : Item) → def_count (items ++ i ∷ []) ≡ def_count items + def_count (i ∷ [])
defs_then [] i = omega arith
defs_then (def p f d ∷ items) i = omega (arith, defs_then items i)
defs_then (decision p o ∷ items) i = defs_then items i
defs_then (block p ∷ items) i = defs_then items i
defs_then (used p f d o ∷ items) i = defs_then items i

pub uses_then : (items : List Item) (i : Item) → use_count (items ++ i ∷ []) ≡ use_count items + use_count (i ∷ [])
uses_then [] i = omega arith
uses_then (used p f d o ∷ items) i = omega (arith, uses_then items i)
uses_then (decision p o ∷ items) i = uses_then items i
uses_then (def p f d ∷ items) i = uses_then items i
uses_then (block p ∷ items) i = uses_then items i

pub few_item : (i : Item) (w : Walked) → HasFewItems (with_item i w) → HasFewItems w
few_item i w few = record {
  blocks = omega (arith, blocks_then w.items i, few.blocks);
  decisions = few.decisions;
  defs = omega (arith, defs_then w.items i, few.defs);
  uses = omega (arith, uses_then w.items i, few.uses);
}

pub few_blocks : (p : Pos) (w : Walked) → HasFewItems (with_block p w) → block_count w.items < 16383
few_blocks p w few = omega (arith, blocks_then w.items (block p), few.blocks)

pub few_decisions : (p : Pos) (o : Outcomes) (w : Walked) → HasFewItems (with_decision p o w) → next_decision w ≤ 16383
few_decisions p o w few = few.decisions

-- a test position that is a decision
pub few_tests : (p : Pos) (f : ExprShape) (w : Walked) → is_logical_form f ≡ false → HasFewItems (with_test p f w) → next_decision w ≤ 16383
few_tests p f w other few = (subst (λ b. HasFewItems (if b then w else with_decision p (outcomes_of_form f) w)) other few).decisions

pub few_defs : (p : Pos) (f : ℕ) (d : Option Direct) (w : Walked) → HasFewItems (with_item (def p f d) w) → def_count w.items < 16383
few_defs p f d w few = omega (arith, defs_then w.items (def p f d), few.defs)

pub few_uses : (b : Bool) (c : Around) (p : Pos) (d : Option Direct) (w : Walked) → b ≡ true → HasFewItems (with_use b c p d w) → use_count w.items < 16383
few_uses true c p d w is few = omega (arith, uses_then w.items (used p c.function d c.owner), few.uses)
few_uses false c p d w is few = absurd (true≢false (sym is))

pub few_use : (b : Bool) (c : Around) (p : Pos) (d : Option Direct) (w : Walked) → HasFewItems (with_use b c p d w) → HasFewItems w
few_use true c p d w few = few_item (used p c.function d c.owner) w few
few_use false c p d w few = few

-- ---- sites

-- a place that is read, if it is one of a scalar
pub few_read : (c : Around) (p : Pos) (n : NoteShape) (f : ExprShape) (w : Walked) → is_place f ≡ true → has_scalar n ≡ true → HasFewItems (with_site c Read p n f w) → use_count w.items < 16383
few_read c p n f w place scalar few =
    few_uses (has_scalar n) c p (direct_form n f) w scalar (subst (λ b. HasFewItems (if b then with_sites c Read p (direct_form n f) (has_scalar n) w else w)) place few)

-- one of a structure that is copied
pub few_copied : (c : Around) (p : Pos) (n : NoteShape) (f : ExprShape) (w : Walked) → is_place f ≡ true → has_structure n ≡ true → HasFewItems (with_site c Copied p n f w) → use_count w.items < 16383
few_copied c p n f w place structure few =
    few_uses (has_structure n) c p (direct_form n f) w structure (subst (λ b. HasFewItems (if b then with_sites c Copied p (direct_form n f) (has_structure n) w else w)) place few)

-- one that is written
pub few_written : (c : Around) (p : Pos) (n : NoteShape) (f : ExprShape) (w : Walked) → is_place f ≡ true → HasFewItems (with_site c Written p n f w) → def_count w.items < 16383
few_written c p n f w place few =
    few_defs p c.function (direct_form n f) w (subst (λ b. HasFewItems (if b then with_sites c Written p (direct_form n f) false w else w)) place few)

-- one that is changed
pub few_changed : (c : Around) (p : Pos) (n : NoteShape) (f : ExprShape) (w : Walked) → is_place f ≡ true → HasFewItems (with_site c Changed p n f w) → def_count w.items < 16383
few_changed c p n f w place few =
    few_defs p c.function (direct_form n f) w
    (few_use (has_scalar n) c p (direct_form n f) (with_def true c p (direct_form n f) w) (subst (λ b. HasFewItems (if b then with_sites c Changed p (direct_form n f) (has_scalar n) w else w)) place few))

pub few_changed_use : (c : Around) (p : Pos) (n : NoteShape) (f : ExprShape) (w : Walked) → is_place f ≡ true → has_scalar n ≡ true → HasFewItems (with_site c Changed p n f w) → use_count w.items < 16383
few_changed_use c p n f w place scalar few =
    let v = with_def true c p (direct_form n f) w in
    let below : use_count v.items < 16383 = few_uses (has_scalar n) c p (direct_form n f) v scalar (subst (λ b. HasFewItems (if b then with_sites c Changed p (direct_form n f) (has_scalar n) w else w)) place few) in
    omega (arith, uses_then w.items (def p c.function (direct_form n f)), below)

-- ---- expressions

pub same_before : (w : Walked) → IsBefore w w
same_before w = record { blocks = omega arith; defs = omega arith; uses = omega arith; decisions = omega arith }

pub nodes_before : (c : Around) (es : NodeShapes) (w : Walked) → IsBefore w (walk_nodes c es w)
nodes_before c no_nodes w = same_before w
nodes_before c (more_nodes a rest) w = let v = walk_node c Read a w in on_further w v (walk_nodes c rest v) (node_on c Read a w) (nodes_before c rest v)

pub right_before : (c : Around) (a b : NodeShape) (w : Walked) → let v = walk_test c a w in IsBefore v (walk_test c b (with_block (pos_of b) v))
right_before c a b w =
    let u = walk_test c a w in
    let v = with_block (pos_of b) u in
    on_further u v (walk_test c b v) (block_on (pos_of b) u) (test_node_on c b v)

pub form_before : (c : Around) (r : Taken) (f : ExprShape) (w : Walked) → IsBefore w (walk_form c r f w)
form_before c r (leaf l) w = same_before w
form_before c r (paren a) w = node_on c r a w
form_before c r (call x args) w = nodes_before c args w
form_before c r (prefix (unary u) a) w = node_on c (operand_taken u) a w
form_before c r (prefix (before u) a) w = node_on c Changed a w
form_before c r (prefix size_of a) w = same_before w
form_before c r (size_of_type y) w = same_before w
form_before c r (cast y a) w = node_on c Read a w
form_before c r (suffix a (index b)) w = let v = walk_node c Read a w in on_further w v (walk_node c Read b v) (node_on c Read a w) (node_on c Read b v)
form_before c r (suffix a (field h x q)) w = node_on c Read a w
form_before c r (suffix a (behind u)) w = node_on c Changed a w
form_before c r (two and a b) w = let v = walk_test c a w in on_further w v (walk_test c b (with_block (pos_of b) v)) (test_node_on c a w) (right_before c a b w)
form_before c r (two or a b) w = let v = walk_test c a w in on_further w v (walk_test c b (with_block (pos_of b) v)) (test_node_on c a w) (right_before c a b w)
form_before c r (two (assign u) a b) w = let v = walk_node c (left_taken u) a w in on_further w v (walk_node c (right_taken u a) b v) (node_on c (left_taken u) a w) (node_on c (right_taken u a) b v)
form_before c r (two (plain u) a b) w = let v = walk_node c Read a w in on_further w v (walk_node c Read b v) (node_on c Read a w) (node_on c Read b v)
form_before c r (two comma a b) w = let v = walk_node c Read a w in on_further w v (walk_node c Read b v) (node_on c Read a w) (node_on c Read b v)
form_before c r (choose a b d) w =
    let u = walk_test c a w in
    let v = walk_arm c b u in
    on_further w u (walk_arm c d v) (test_node_on c a w) (on_further u v (walk_arm c d v) (arm_on c b u) (arm_on c d v))
form_before c r (probe u a) w = node_on c r a w
