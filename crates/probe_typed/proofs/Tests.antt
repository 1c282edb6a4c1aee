-- An expression at a test position, as the test of a loop, and as a block, is typed as it stands where it is so wherever it is read.
use Rattle.std.proofs.Common.{Bool, true, false, sym, subst, refl, None, ◌≡◌}
use Rattle.std.specs.Prelude.{if◌then◌else◌}
use Rattle.std.specs.Fmt.{decimal}
use Rattle.c_base.specs.declared.place.Pos.{Pos}
use Rattle.c_syntax.specs.Shape.{block, test, NodeShape, node}
use Rattle.c_tree.specs.State.{State}
use Rattle.c_tree.specs.Sorts.{TypedNode, pos_in}
use Rattle.c_tree.specs.Typing.{type_node, type_form}
use Rattle.c_walk.specs.declared.around.Around.{Around}
use Rattle.c_walk.specs.declared.around.Taken.TheVariants.{Read}
use Rattle.c_walk.specs.Counted.{next_block}
use Rattle.c_walk.specs.Items.{Outcomes}
use Rattle.c_walk.specs.Tests.{is_logical_form, outcomes_of_form}
use Rattle.c_walk.specs.Walked.{Walked, with_block, with_decision, next_decision, pos_of, inside_test, with_test}
use Rattle.c_walk.specs.Walking.{walk_node, walk_test, walk_arm, walk_loop_test}
use Rattle.c_meaning.proofs.Walks.{node_on, test_node_on}
use Rattle.probe_rules.specs.Fitting.{HasFewItems}
use Rattle.probe_rules.specs.Marks.{in_block, in_test}
use Rattle.probe_rules.specs.ProbedExpressions.{probed_node, probed_test, probed_arm, probed_loop_test}
use Rattle.probe_rules.proofs.Claims.{block_claimed, test_claimed, seen_at}
use Rattle.probe_rules.proofs.Few.{few_before, few_blocks}
use Rattle.probe_laws.proofs.Settled.{IsClean}
use Rattle.probe_typed.specs.Typed.{Follows, MayBeTested, IsTypedAs, IsTypedNear}
use Rattle.probe_typed.proofs.Follows.{goes_on, clean_too}
use Rattle.probe_typed.proofs.Near.{near_same}
use Rattle.probe_typed.proofs.Probes.{claimed_at, block_comes, test_comes, value_round}
use Rattle.probe_typed.proofs.Sites.{IsTypedFrom}
use Rattle.c_tree.specs.Operators.{sided, entering}
use Rattle.c_tree.specs.declared.meaning.Side.{Side}
use Rattle.c_tree.specs.declared.meaning.Side.TheVariants.{Neither}
use Rattle.probe_rules.proofs.Moved.{sided_alike}
use Rattle.probe_typed.proofs.Sides.{node_sided}
use Rattle.c_sites_probes.specs.Marked.{node_mark}

-- ---- probes round an expression

abbrev pub IsNearFrom : Walked → Walked → State → TypedNode → NodeShape → Type 0
IsNearFrom w v s x a = (t : State) → Follows w s t → IsTypedNear v x a (type_node a t)

near_of : (v : Walked) (x : TypedNode) (a : NodeShape) (y : TypedNode) → IsTypedAs v x a y → IsTypedNear v x a y
near_of v x a y i = record { node = i.node; sort = near_same i.sort; state = i.state }

-- inside of such a probe, on neither side of `=`
pub beside : (w : Walked) {s t : State} → Follows w s t → Follows w (sided Neither s) (sided Neither t)
beside w al = sided_alike 0 0 (seen_at w) Neither Neither refl al

test_typed : (logical : Bool) (q : Pos) (o : Outcomes) (w v : Walked) (x : TypedNode) (a : NodeShape) (s : State) → MayBeTested x.sort → IsClean s → IsClean x.state
    → HasFewItems (if logical then w else with_decision q o w) → ((d : Side) → IsTypedFrom (if logical then w else with_decision q o w) v (sided d s) x a) → IsNearFrom w v s x (in_test logical w a)
test_typed true q o w v x a s able begun ended few inner t al = near_of v x a (type_node a t) (inner s.side t al)
test_typed false q o w v x a s able begun ended few inner t al =
    let num = decimal (next_decision w) in
    let y = type_node a (claimed_at test num a t) in
    let i = inner Neither (claimed_at test num a t) (goes_on 4 (with_decision q o w) (test_claimed 0 0 t.at (pos_in a) q o w few.decisions (beside w al))) in
    value_round test num v x a t (test_comes Neither y.sort (subst MayBeTested (sym i.sort) able)) (clean_too w al begun) ended (near_of v x a y i)

block_typed : (q : Pos) (w v : Walked) (x : TypedNode) (a : NodeShape) (s : State) → IsClean s → IsClean x.state → HasFewItems (with_block q w) → IsNearFrom (with_block q w) v (sided Neither s) x a → IsNearFrom w v s x (in_block w a)
block_typed q w v x a s begun ended few inner t al =
    let num = decimal (next_block w) in
    value_round block num v x a t (block_comes Neither (type_node a (claimed_at block num a t)).sort) (clean_too w al begun) ended
    (inner (claimed_at block num a t) (goes_on 4 (with_block q w) (block_claimed 0 0 t.at (pos_in a) q w (few_blocks q w few) (beside w al))))

-- ---- expressions that are read, wherever they stand

abbrev IsRead : Around → Walked → State → TypedNode → Type 0
IsRead c w t x = IsClean x.state → HasFewItems (walk_node c Read x.node w) → IsTypedAs (walk_node c Read x.node w) x (probed_node c Read x.node w) (type_node (probed_node c Read x.node w) t)

-- on whichever side of `=`
abbrev pub IsReadTyped : NodeShape → State → Type 0
IsReadTyped a s = let x = type_node a s in (d : Side) (c : Around) (w : Walked) → HasFewItems (walk_node c Read x.node w) → IsTypedFrom w (walk_node c Read x.node w) (sided d s) x (probed_node c Read x.node w)

-- so it is where that holds of what is typed on that side
pub read_from : (a : NodeShape) (s : State) → node_mark a ≡ None → IsClean (type_node a s).state → (
    (d : Side) (c : Around) (w : Walked) (t : State) → Follows w (sided d s) t → IsRead c w t (type_node a (sided d s))) → IsReadTyped a s
read_from a s none ended keeps d c w few t al = subst (IsRead c w t) (node_sided a none d s) (keeps d c w t al) ended few

pub test_from : (c : Around) (a : NodeShape) (w : Walked) (s : State) → IsReadTyped a s → IsClean s → (
    let x = type_node a s in
    IsClean x.state → MayBeTested x.sort → HasFewItems (walk_test c x.node w) → (d : Side) → IsNearFrom w (walk_test c x.node w) (sided d s) x (probed_test c x.node w))
test_from c (node p o n f) w s keeps begun ended able few d =
    let x = type_node (node p o n f) s in
    let g = (type_form p o f (entering f s)).form in
    let e = inside_test c g w in
    let u = with_test p g w in
    test_typed (is_logical_form g) p (outcomes_of_form g) w (walk_node e Read x.node u) x (probed_node e Read x.node u) (sided d s) able begun ended (few_before (node_on e Read x.node u) few) (λ l. keeps l e u few)

pub arm_from : (c : Around) (a : NodeShape) (w : Walked) (s : State) → IsReadTyped a s → IsClean s → (
    let x = type_node a s in
    IsClean x.state → HasFewItems (walk_arm c x.node w) → IsNearFrom w (walk_arm c x.node w) s x (probed_arm c x.node w))
arm_from c (node p o n f) w s keeps begun ended few =
    let x = type_node (node p o n f) s in
    let u = with_block p w in
    let v = walk_node c Read x.node u in
    let b = probed_node c Read x.node u in
    block_typed p w v x b s begun ended (few_before (node_on c Read x.node u) few) (λ t al. near_of v x b (type_node b t) (keeps Neither c u few t al))

pub loop_from : (c : Around) (a : NodeShape) (w : Walked) (s : State) → IsReadTyped a s → IsClean s → (
    let x = type_node a s in
    IsClean x.state → MayBeTested x.sort → HasFewItems (walk_loop_test c x.node w) → IsNearFrom w (walk_loop_test c x.node w) s x (probed_loop_test c x.node w))
loop_from c a w s keeps begun ended able few =
    let x = type_node a s in
    let u = with_block (pos_of x.node) w in
    block_typed (pos_of x.node) w (walk_test c x.node u) x (probed_test c x.node u) s begun ended (few_before (test_node_on c x.node u) few) (test_from c a u s keeps begun ended able few Neither)
