-- Where statements have expressions: at test positions, as blocks, as arguments, and where one may be left out.
use Rattle.std.proofs.Common.{◌≡◌, ℕ, Bool, None, refl, sym, ap, subst}
use Rattle.c_syntax.specs.Shape.{NodeShape, no_node, one_node}
use Rattle.c_syntax.specs.Shaped.{Shaped}
use Rattle.c_type_rules.specs.Verdicts.{truth_type}
use Rattle.c_tree.specs.State.{State}
use Rattle.c_tree.specs.Rulings.{by, rule}
use Rattle.c_tree.specs.Sorts.{TypedNode, pos_in}
use Rattle.c_tree.specs.Stating.{tested, result_rule}
use Rattle.c_tree.specs.Typing.{type_node}
use Rattle.c_walk.specs.declared.around.Taken.TheVariants.{Read}
use Rattle.c_walk.specs.Walking.{walk_node, walk_loop_test}
use Rattle.c_sites_probes.specs.Marked.{node_mark}
use Rattle.probe_rules.specs.ProbedExpressions.{probed_node, probed_loop_test}
use Rattle.c_tree.proofs.Grows.{rule_grows, node_grows}
use Rattle.probe_rules.proofs.Moved.{rule_alike}
use Rattle.probe_rules.proofs.Claims.{seen_at}
use Rattle.probe_laws.proofs.Settled.{IsThere, IsClean, type_there, by_told, test_told}
use Rattle.probe_laws.proofs.Rules.{back}
use Rattle.probe_laws.proofs.Known.{Knows}
use Rattle.probe_laws.proofs.KnownNodes.{node_knows}
use Rattle.probe_typed.specs.Typed.{Follows, MayBeTested, NodesAreTypedAs, TestsAreTypedNear, LoopTestsAreTypedNear, ArmsAreTypedNear, ArgumentsAreTypedAs, MaybesAreTypedAs, MaybeTestsAreTypedAs, StepsAreTypedAs, ResultsAreTypedAs, TestsAreJudgedAlike, IsTypedAs}
use Rattle.probe_typed.proofs.Near.{tested_follows}
use Rattle.probe_typed.proofs.Tests.{IsReadTyped, read_from, test_from, arm_from, loop_from}
use Rattle.probe_typed.proofs.Expressions.{node_typed, arguments_typed}
use Rattle.c_tree.specs.declared.meaning.Side.{Side}
use Rattle.c_walk.specs.declared.around.Around.{Around}
use Rattle.c_walk.specs.Walked.{Walked}
use Rattle.c_tree.specs.Operators.{sided}
use Rattle.probe_rules.specs.Fitting.{HasFewItems}

pub nodes_typed : NodesAreTypedAs
nodes_typed b c r a w s t is m h clean able few al = node_typed c r a w is m h clean able few al

-- what is typed without a complaint is typed as it stands wherever it is read
read_typed : {b : Bool} (a : NodeShape) (s : State) → Shaped a → node_mark a ≡ None → Knows b s → IsClean (type_node a s).state → IsReadTyped a s
read_typed a s is m h clean = read_from a s m clean (λ d c w t al clean few. node_typed c Read a w is m h clean tt few al)

-- also where it stands on another side of `=`, or on none
pub reads_typed : {b : Bool} (a : NodeShape) (s : State) → Shaped a → node_mark a ≡ None → Knows b s → (
    let x = type_node a s in
    IsClean x.state → (d : Side) (c : Around) (w : Walked) → (
    let q = probed_node c Read x.node w in
    let v = walk_node c Read x.node w in
    HasFewItems v → (t : State) → Follows w (sided d s) t → IsTypedAs v x q (type_node q t)))
reads_typed a s is m h clean = read_typed a s is m h clean

pub tests_typed : TestsAreTypedNear
tests_typed b c a w s t is m h clean able few al = test_from c a w s (read_typed a s is m h clean) (back (node_grows a s) clean) clean able few s.side t al

pub loop_tests_typed : LoopTestsAreTypedNear
loop_tests_typed b c a w s t is m h clean able few al = loop_from c a w s (read_typed a s is m h clean) (back (node_grows a s) clean) clean able few t al

pub arms_typed : ArmsAreTypedNear
arms_typed b c a w s t is m h clean few al = arm_from c a w s (read_typed a s is m h clean) (back (node_grows a s) clean) clean few t al

pub nodes_given : ArgumentsAreTypedAs
nodes_given b c gs hs es w s t is m h clean few same al = arguments_typed c gs hs es w is m h clean few same al

-- ---- what may be left out

pub maybes_typed : MaybesAreTypedAs
maybes_typed b c l no_node w s t is m h clean few al = record { node = refl; state = al }
maybes_typed b c l (one_node a) w s t is m h clean few al =
    let i = node_typed c Read a w is.1 m h clean tt few al in
    record { node = ap one_node i.node; state = i.state }

-- a test that isn't complained of where it stands is one
pub tested_so : (first : ℕ) (x : TypedNode) → IsThere x.sort.kind → IsClean (tested first x) → MayBeTested x.sort
tested_so first x is clean = type_there (by 33 (truth_type x.sort.kind)) first (pos_in x.node) x.state (by_told 33 (truth_type x.sort.kind) (test_told x.sort.kind is)) clean

pub judged_alike : TestsAreJudgedAlike
judged_alike v first last x b y i = tested_follows v first last x y i.sort i.state

pub maybe_tests_typed : MaybeTestsAreTypedAs
maybe_tests_typed b c l no_node w s t is m h clean few al = record { node = refl; state = al }
maybe_tests_typed b c l (one_node a) w s t is m h clean few al =
    let x = type_node a s in
    let early = back (rule_grows (by 33 (truth_type x.sort.kind)) s.at (pos_in x.node) x.state) clean in
    let one = node_knows a s is.1 h early in
    let i = loop_from c a w s (read_typed a s is.1 m h early) (back (node_grows a s) early) early (tested_so s.at x one.0 clean) few t al in
    record { node = ap one_node i.node; state = tested_follows (walk_loop_test c x.node w) s.at t.at x (type_node (probed_loop_test c x.node w) t) i.sort i.state }

pub steps_typed : StepsAreTypedAs
steps_typed b c l no_node w s t is m h clean few al = record { node = refl; state = al }
steps_typed b c l (one_node a) w s t is m h clean few al =
    let i = arm_from c a w s (read_typed a s is.1 m h clean) (back (node_grows a s) clean) clean few t al in
    record { node = ap one_node i.node; state = i.state }

pub results_typed : ResultsAreTypedAs
results_typed b c token last p k l no_node w s t is m h clean few al = record { node = refl; state = al }
results_typed b c token last p k l (one_node a) w s t is m h clean few al =
    let x = type_node a s in
    let r = result_rule k x.sort in
    let i = node_typed c Read a w is.1 m h (back (rule_grows r token p x.state) clean) tt few al in
    let v = walk_node c Read x.node w in
    let y = type_node (probed_node c Read x.node w) t in
    record {
      node = ap one_node i.node;
      state = subst (λ z. Follows v (rule r token p x.state) (rule (result_rule k z) last p y.state)) (sym i.sort) (rule_alike 0 0 (seen_at v) r token last p p i.state);
    }
