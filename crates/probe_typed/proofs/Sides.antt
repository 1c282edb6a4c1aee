-- On which side of `=` an expression without probes stands changes nothing of its typing; and with its probes it is looked through where it is
-- without them.
use Rattle.std.proofs.Common.{◌≡◌, None, refl, ap}
use Rattle.c_base.specs.declared.place.Pos.{Pos}
use Rattle.c_syntax.specs.Shape.{number, char, str, name, unary, before, size_of, plain, and, or, assign, comma, block, test, used, def, NodeShape, node, ExprShape, leaf, paren, call, prefix, size_of_type, cast, suffix, two, choose, probe, index, field, behind, simple, select}
use Rattle.c_tree.specs.declared.meaning.Side.{Side}
use Rattle.c_tree.specs.State.{State, step}
use Rattle.c_tree.specs.Sorts.{TypedNode, formed, noted}
use Rattle.c_tree.specs.Operators.{typed_paren, sided, kept_side}
use Rattle.c_tree.specs.Typing.{type_node, type_form}
use Rattle.c_walk.specs.declared.around.Around.{Around}
use Rattle.c_walk.specs.declared.around.Taken.{Taken}
use Rattle.c_walk.specs.Walked.{Walked}
use Rattle.c_sites_probes.specs.Marked.{node_mark}
use Rattle.probe_rules.specs.ProbedExpressions.{probed_form}
use Rattle.probe_rules.proofs.ReadyUnits.{some_none}

-- ---- what is looked through

pub side_formed : (p o : Pos) (f : ExprShape) (s : State) (d : Side) → kept_side (type_form p o f s).form d ≡ kept_side f d
side_formed p o (leaf (number t)) s d = refl
side_formed p o (leaf (char c)) s d = refl
side_formed p o (leaf (str t)) s d = refl
side_formed p o (leaf (name x)) s d = refl
side_formed p o (paren a) s d = refl
side_formed p o (call x args) s d = refl
side_formed p o (prefix (unary v) a) s d = refl
side_formed p o (prefix (before v) a) s d = refl
side_formed p o (prefix size_of a) s d = refl
side_formed p o (size_of_type t) s d = refl
side_formed p o (cast t a) s d = refl
side_formed p o (suffix a (index b)) s d = refl
side_formed p o (suffix a (field h x q)) s d = refl
side_formed p o (suffix a (behind v)) s d = refl
side_formed p o (two v a b) s d = refl
side_formed p o (choose a b c) s d = refl
side_formed p o (probe (simple block x) a) s d = refl
side_formed p o (probe (simple test x) a) s d = refl
side_formed p o (probe (simple used x) a) s d = refl
side_formed p o (probe (simple def x) a) s d = refl
side_formed p o (probe (select x cs) a) s d = refl

pub side_probed : (c : Around) (r : Taken) (f : ExprShape) (w : Walked) (d : Side) → kept_side (probed_form c r f w) d ≡ kept_side f d
side_probed c r (leaf l) w d = refl
side_probed c r (paren a) w d = refl
side_probed c r (call x args) w d = refl
side_probed c r (prefix (unary v) a) w d = refl
side_probed c r (prefix (before v) a) w d = refl
side_probed c r (prefix size_of a) w d = refl
side_probed c r (size_of_type t) w d = refl
side_probed c r (cast t a) w d = refl
side_probed c r (suffix a (index b)) w d = refl
side_probed c r (suffix a (field h x q)) w d = refl
side_probed c r (suffix a (behind v)) w d = refl
side_probed c r (two (plain v) a b) w d = refl
side_probed c r (two and a b) w d = refl
side_probed c r (two or a b) w d = refl
side_probed c r (two (assign v) a b) w d = refl
side_probed c r (two comma a b) w d = refl
side_probed c r (choose a b e) w d = refl
side_probed c r (probe u a) w d = refl

-- ---- expressions without probes

pub node_sided : (a : NodeShape) → node_mark a ≡ None → (d : Side) (s : State) → type_node a (sided d s) ≡ type_node a s
node_sided (node p o n (leaf l)) none d s = refl
node_sided (node p o n (paren a)) none d s = ap (λ (t : TypedNode). noted p o s (formed (paren t.node) (typed_paren t.sort t.state))) (node_sided a none d (step s))
node_sided (node p o n (call x args)) none d s = refl
node_sided (node p o n (prefix u a)) none d s = refl
node_sided (node p o n (size_of_type t)) none d s = refl
node_sided (node p o n (cast t a)) none d s = refl
node_sided (node p o n (suffix a u)) none d s = refl
node_sided (node p o n (two u a b)) none d s = refl
node_sided (node p o n (choose a b c)) none d s = refl
node_sided (node p o n (probe u a)) none d s = absurd (some_none p none)
