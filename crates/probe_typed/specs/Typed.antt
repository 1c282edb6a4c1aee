-- What is typed of expressions with their probes, behind a typing of the expressions without them in which nothing is complained of: the
-- expressions with their probes as they stand, with the notes that they have, and the sort of those without.
use Rattle.std.specs.Prelude.{◌≡◌, ℕ, List, Bool, true, false, Option, Some, None, option_map}
use Rattle.c_base.specs.declared.place.Pos.{Pos}
use Rattle.c_syntax.specs.Shape.{TypeOf, used, def, NodeShape, NodeShapes, MaybeNode}
use Rattle.c_syntax.specs.Shaped.{Shaped, ShapedNodes, ShapedMaybe}
use Rattle.c_type_rules.specs.Kinds.{decay}
use Rattle.c_type_rules.specs.Verdicts.{is_probed, truth_type}
use Rattle.c_tree.specs.declared.meaning.Side.{Side}
use Rattle.c_tree.specs.State.{State}
use Rattle.c_tree.specs.Rulings.{by, kind_at}
use Rattle.c_tree.specs.Sorts.{Sort, TypedNode}
use Rattle.c_tree.specs.Operators.{Given, is_copied}
use Rattle.c_tree.specs.Parts.{TypedNodes}
use Rattle.c_tree.specs.Complaints.{wrong_type}
use Rattle.c_tree.specs.Typing.{type_node, type_arguments}
use Rattle.c_tree.specs.Stating.{TypedMaybe, tested, type_maybe, type_test, type_result}
use Rattle.c_walk.specs.declared.around.Around.{Around}
use Rattle.c_walk.specs.declared.around.Taken.{Taken}
use Rattle.c_walk.specs.declared.around.Taken.TheVariants.{Read, Written, Changed, Copied, Addressed}
use Rattle.c_walk.specs.Walked.{Walked}
use Rattle.c_walk.specs.Walking.{walk_node, walk_test, walk_arm, walk_nodes, walk_maybe, walk_loop_test, walk_maybe_test, walk_step}
use Rattle.c_sites_probes.specs.Marked.{node_mark, nodes_mark, maybe_mark}
use Rattle.probe_rules.specs.Fitting.{HasFewItems}
use Rattle.probe_rules.specs.ProbedExpressions.{probed_node, probed_test, probed_arm, probed_nodes, probed_maybe, probed_loop_test, probed_maybe_test, probed_step}
use Rattle.probe_rules.proofs.Moved.{Alike, AlikeGiven}
use Rattle.probe_rules.proofs.Claims.{seen_at}
use Rattle.probe_rules.proofs.SameConstants.{AreAlike}
use Rattle.probe_laws.proofs.Settled.{IsThere, IsClean}
use Rattle.probe_laws.proofs.Known.{Knows}

-- ---- how an expression may be taken, on a side of `=` or on neither

abbrev pub HasProbedType : Bool → Option TypeOf → Type 0
HasProbedType copied None = ⊥
HasProbedType copied (Some t) = is_probed copied t ≡ true

-- what a probe of a use or of a definition may stand round: a place of a scalar, or of a structure that is copied
abbrev pub IsProbedPlace : Bool → Sort → Type 0
IsProbedPlace copied a = (a.place ≡ true) × HasProbedType copied a.kind

-- such a place is what is written, changed or copied
abbrev pub MayBeTaken : Taken → Side → Sort → Type 0
MayBeTaken Read d a = Unit {0}
MayBeTaken Addressed d a = Unit {0}
MayBeTaken Written d a = IsProbedPlace (is_copied def d) a
MayBeTaken Changed d a = IsProbedPlace false a
MayBeTaken Copied d a = IsProbedPlace (is_copied used d) a

-- it may stand at a test position
abbrev pub MayBeTested : Sort → Type 0
MayBeTested a = IsThere (kind_at (by wrong_type (truth_type a.kind)))

-- ---- what is typed again

-- the second state is the first one, at whatever token, where as many probes of each kind were seen as the walk has counted; and there are
-- as many complaints in both
abbrev pub Follows : Walked → State → State → Type 0
Follows w s t = Alike 0 0 (seen_at w) s t

-- the tree with its probes is typed as it stands, with the sort that was found without them; and the walk's counts are seen behind it
pub record IsTypedAs (v : Walked) (x : TypedNode) (b : NodeShape) (y : TypedNode) : Type 0 where
  pub node : y.node ≡ b
  pub sort : y.sort ≡ x.sort
  pub state : Follows v x.state y.state

-- the same type as a value, where an array is a pointer, and the same as a constant expression
pub record IsNear (a b : Sort) : Type 0 where
  pub kind : option_map decay b.kind ≡ option_map decay a.kind
  pub constant : AreAlike b.constant a.constant

-- the same with a sort near to that one
pub record IsTypedNear (v : Walked) (x : TypedNode) (b : NodeShape) (y : TypedNode) : Type 0 where
  pub node : y.node ≡ b
  pub sort : IsNear x.sort y.sort
  pub state : Follows v x.state y.state

-- arguments: with the same types, and null where those were
pub record AreTypedAs (v : Walked) (x : TypedNodes) (bs : NodeShapes) (y : TypedNodes) : Type 0 where
  pub nodes : y.nodes ≡ bs
  pub given : AlikeGiven 0 0 (seen_at v) x.given y.given
  pub state : Follows v x.state y.state

pub record MaybeTypedAs (v : Walked) (x : TypedMaybe) (b : MaybeNode) (y : TypedMaybe) : Type 0 where
  pub node : y.node ≡ b
  pub state : Follows v x.state y.state

-- ---- statements: each of a source without probes in which nothing is complained of, and in which few items are counted

-- one that may be taken so, wherever it stands
abbrev pub NodesAreTypedAs : Type 0
NodesAreTypedAs = (b : Bool) (c : Around) (r : Taken) (a : NodeShape) (w : Walked) (s t : State) → Shaped a → node_mark a ≡ None → Knows b s → (
    let x = type_node a s in
    let p = probed_node c r x.node w in
    let v = walk_node c r x.node w in
    IsClean x.state → MayBeTaken r s.side x.sort → HasFewItems v → Follows w s t → IsTypedAs v x p (type_node p t))

-- an expression at a test position, and as the test of a loop
abbrev pub TestsAreTypedNear : Type 0
TestsAreTypedNear = (b : Bool) (c : Around) (a : NodeShape) (w : Walked) (s t : State) → Shaped a → node_mark a ≡ None → Knows b s → (
    let x = type_node a s in
    let p = probed_test c x.node w in
    let v = walk_test c x.node w in
    IsClean x.state → MayBeTested x.sort → HasFewItems v → Follows w s t → IsTypedNear v x p (type_node p t))

abbrev pub LoopTestsAreTypedNear : Type 0
LoopTestsAreTypedNear = (b : Bool) (c : Around) (a : NodeShape) (w : Walked) (s t : State) → Shaped a → node_mark a ≡ None → Knows b s → (
    let x = type_node a s in
    let p = probed_loop_test c x.node w in
    let v = walk_loop_test c x.node w in
    IsClean x.state → MayBeTested x.sort → HasFewItems v → Follows w s t → IsTypedNear v x p (type_node p t))

-- one that is a block
abbrev pub ArmsAreTypedNear : Type 0
ArmsAreTypedNear = (b : Bool) (c : Around) (a : NodeShape) (w : Walked) (s t : State) → Shaped a → node_mark a ≡ None → Knows b s → (
    let x = type_node a s in
    let p = probed_arm c x.node w in
    let v = walk_arm c x.node w in
    IsClean x.state → HasFewItems v → Follows w s t → IsTypedNear v x p (type_node p t))

-- arguments, behind those so far
abbrev pub ArgumentsAreTypedAs : Type 0
ArgumentsAreTypedAs = (b : Bool) (c : Around) (gs hs : List Given) (es : NodeShapes) (w : Walked) (s t : State) → ShapedNodes 1 es → nodes_mark es ≡ None → Knows b s → (
    let x = type_arguments gs es s in
    let ps = probed_nodes c x.nodes w in
    let v = walk_nodes c x.nodes w in
    IsClean x.state → HasFewItems v → AlikeGiven 0 0 (seen_at w) gs hs → Follows w s t → AreTypedAs v x ps (type_arguments hs ps t))

-- one that may be left out
abbrev pub MaybesAreTypedAs : Type 0
MaybesAreTypedAs = (b : Bool) (c : Around) (l : ℕ) (a : MaybeNode) (w : Walked) (s t : State) → ShapedMaybe l a → maybe_mark a ≡ None → Knows b s → (
    let x = type_maybe a s in
    let p = probed_maybe c x.node w in
    let v = walk_maybe c x.node w in
    IsClean x.state → HasFewItems v → Follows w s t → MaybeTypedAs v x p (type_maybe p t))

-- the test of a `for`, and its step
abbrev pub MaybeTestsAreTypedAs : Type 0
MaybeTestsAreTypedAs = (b : Bool) (c : Around) (l : ℕ) (a : MaybeNode) (w : Walked) (s t : State) → ShapedMaybe l a → maybe_mark a ≡ None → Knows b s → (
    let x = type_test a s in
    let p = probed_maybe_test c x.node w in
    let v = walk_maybe_test c x.node w in
    IsClean x.state → HasFewItems v → Follows w s t → MaybeTypedAs v x p (type_test p t))

abbrev pub StepsAreTypedAs : Type 0
StepsAreTypedAs = (b : Bool) (c : Around) (l : ℕ) (a : MaybeNode) (w : Walked) (s t : State) → ShapedMaybe l a → maybe_mark a ≡ None → Knows b s → (
    let x = type_maybe a s in
    let p = probed_step c x.node w in
    let v = walk_step c x.node w in
    IsClean x.state → HasFewItems v → Follows w s t → MaybeTypedAs v x p (type_maybe p t))

-- what a function gives back
abbrev pub ResultsAreTypedAs : Type 0
ResultsAreTypedAs = (b : Bool) (c : Around) (token last : ℕ) (p : Pos) (k : Option TypeOf) (l : ℕ) (a : MaybeNode) (w : Walked) (s t : State) → ShapedMaybe l a → maybe_mark a ≡ None → Knows b s → (
    let x = type_result token p k a s in
    let q = probed_maybe c x.node w in
    let v = walk_maybe c x.node w in
    IsClean x.state → HasFewItems v → Follows w s t → MaybeTypedAs v x q (type_result last p k q t))

-- the test of a statement is judged behind it
abbrev pub TestsAreJudgedAlike : Type 0
TestsAreJudgedAlike = (v : Walked) (first last : ℕ) (x : TypedNode) (b : NodeShape) (y : TypedNode) → IsTypedNear v x b y → Follows v (tested first x) (tested last y)
