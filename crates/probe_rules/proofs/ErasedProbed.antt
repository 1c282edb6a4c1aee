-- An expression with its probes, without its probes, is the expression.
use Rattle.std.proofs.Common.{◌≡◌, ℤ, List, Bool, true, false, None, ◌∙◌, refl, ap}
use Rattle.std.specs.Prelude.{if◌then◌else◌}
use Rattle.c_base.specs.declared.place.Pos.{Pos}
use Rattle.c_syntax.specs.Shape.{NoteShape, unary, before, size_of, plain, and, or, assign, comma, ProbeShape, NodeShape, node, ExprShape, leaf, paren, call, prefix, size_of_type, cast, suffix, two, choose, probe, index, field, behind, NodeShapes, no_nodes, more_nodes, MaybeNode, no_node, one_node, ItemShapes}
use Rattle.c_tree.specs.Erased.{erased_node, erased_form, erased_nodes, erased_maybe}
use Rattle.c_walk.specs.declared.around.Around.{Around}
use Rattle.c_walk.specs.declared.around.Taken.{Taken}
use Rattle.c_walk.specs.declared.around.Taken.TheVariants.{Read, Changed}
use Rattle.c_walk.specs.Items.{cases}
use Rattle.c_walk.specs.Places.{is_place}
use Rattle.c_walk.specs.Tests.{is_logical_form, choosing, case_values}
use Rattle.c_walk.specs.Walked.{Walked, is_used, is_written, operand_taken, left_taken, with_block, pos_of, inside, inside_test, with_decision, with_test, with_site, right_taken}
use Rattle.c_walk.specs.Walking.{walk_node, walk_test, walk_arm}
use Rattle.c_sites_probes.specs.Marked.{first, node_mark, form_mark, nodes_mark, maybe_mark, type_mark}
use Rattle.probe_rules.specs.Marks.{round_value, round_place, in_block, in_test, in_use, in_def, in_select}
use Rattle.probe_rules.specs.ProbedExpressions.{in_sites, sited, probed_node, probed_form, probed_test, probed_arm, probed_nodes, probed_maybe, probed_loop_test, probed_maybe_test, probed_step, probed_choice}
use Rattle.probe_rules.proofs.ReadyUnits.{some_none, none_first}
use Rattle.probe_rules.proofs.ErasedPlain.{both_plain, node_plain, type_plain}

-- ---- probes round a node

value_erased : (u : ProbeShape) (a : NodeShape) → erased_node (round_value u a) ≡ erased_node a
value_erased u (node p o n f) = refl

place_erased : (u : ProbeShape) (a : NodeShape) → erased_node (round_place u a) ≡ erased_node a
place_erased u (node p o n f) = refl

block_erased : (w : Walked) (a : NodeShape) → erased_node (in_block w a) ≡ erased_node a
block_erased w a = value_erased _ a

test_erased : (b : Bool) (w : Walked) (a : NodeShape) → erased_node (in_test b w a) ≡ erased_node a
test_erased true w a = refl
test_erased false w a = value_erased _ a

use_erased : (b : Bool) (w : Walked) (a : NodeShape) → erased_node (in_use b w a) ≡ erased_node a
use_erased true w a = place_erased _ a
use_erased false w a = refl

def_erased : (b : Bool) (w : Walked) (a : NodeShape) → erased_node (in_def b w a) ≡ erased_node a
def_erased true w a = place_erased _ a
def_erased false w a = refl

select_erased : (vs : List ℤ) (w : Walked) (a : NodeShape) → erased_node (in_select vs w a) ≡ erased_node a
select_erased vs w (node p o n f) = refl

-- ---- sites

pick_erased : (b : Bool) (a d : NodeShape) → erased_node a ≡ erased_node d → erased_node (if b then a else d) ≡ erased_node d
pick_erased true a d e = e
pick_erased false a d e = refl

sited_erased : (r : Taken) (p o : Pos) (n : NoteShape) (f g : ExprShape) (w : Walked) → erased_node (sited r p o n f g w) ≡ erased_form p o n g
sited_erased r p o n f g w =
    let b = is_used r n in
    let d = node p o n g in
    pick_erased (is_place f) (in_sites r (is_used r n) w d) d (def_erased (is_written r) w (in_use b w d) ∙ use_erased b w d)

-- ---- tests and blocks

-- where it is so of a node wherever it stands, it is so of the node as a test
abbrev Erases : NodeShape → Type 0
Erases a = (c : Around) (w : Walked) → erased_node (probed_node c Read a w) ≡ a

tested_erased : (c : Around) (a : NodeShape) (w : Walked) → Erases a → erased_node (probed_test c a w) ≡ a
tested_erased c (node p o n f) w erases =
    let d = inside_test c f w in
    let v = with_test p f w in
    test_erased (is_logical_form f) w (probed_node d Read (node p o n f) v) ∙ erases d v

right_erased : (c : Around) (a : NodeShape) (w : Walked) → Erases a → erased_node (in_block w (probed_test c a (with_block (pos_of a) w))) ≡ a
right_erased c a w erases = let v = with_block (pos_of a) w in block_erased w (probed_test c a v) ∙ tested_erased c a v erases

armed_erased : (c : Around) (a : NodeShape) (w : Walked) → Erases a → erased_node (probed_arm c a w) ≡ a
armed_erased c (node p o n f) w erases = let v = with_block p w in block_erased w (probed_node c Read (node p o n f) v) ∙ erases c v

-- ---- expressions

mutual
  pub node_erased : (c : Around) (r : Taken) (a : NodeShape) (w : Walked) → node_mark a ≡ None → erased_node (probed_node c r a w) ≡ a
  node_erased c r (node p o n f) w none = let v = with_site c r p n f w in sited_erased r p o n f (probed_form c r f v) w ∙ form_erased c r p o n f v none

  form_erased : (c : Around) (r : Taken) (p o : Pos) (n : NoteShape) (f : ExprShape) (w : Walked) → form_mark p f ≡ None → erased_form p o n (probed_form c r f w) ≡ node p o n f
  form_erased c r p o n (leaf l) w none = refl
  form_erased c r p o n (paren a) w none = ap (λ x. node p o n (paren x)) (node_erased c r a w none)
  form_erased c r p o n (call x args) w none = ap (λ y. node p o n (call x y)) (nodes_erased c args w none)
  form_erased c r p o n (prefix (unary u) a) w none = ap (λ x. node p o n (prefix (unary u) x)) (node_erased c (operand_taken u) a w none)
  form_erased c r p o n (prefix (before u) a) w none = ap (λ x. node p o n (prefix (before u) x)) (node_erased c Changed a w none)
  form_erased c r p o n (prefix size_of a) w none = ap (λ x. node p o n (prefix size_of x)) (node_plain a none)
  form_erased c r p o n (size_of_type t) w none = ap (λ x. node p o n (size_of_type x)) (type_plain t none)
  form_erased c r p o n (cast t a) w none = both_plain (λ x y. node p o n (cast x y)) (type_mark t) (node_mark a) none (type_plain t) (λ e. node_erased c Read a w e)
  form_erased c r p o n (suffix a (index b)) w none =
      both_plain (λ x y. node p o n (suffix x (index y))) (node_mark a) (node_mark b) none (λ e. node_erased c Read a w e) (λ e. node_erased c Read b (walk_node c Read a w) e)
  form_erased c r p o n (suffix a (field h x q)) w none = ap (λ y. node p o n (suffix y (field h x q))) (node_erased c Read a w (none_first (node_mark a) None none))
  form_erased c r p o n (suffix a (behind u)) w none = ap (λ y. node p o n (suffix y (behind u))) (node_erased c Changed a w (none_first (node_mark a) None none))
  form_erased c r p o n (two and a b) w none =
      both_plain (λ x y. node p o n (two and x y)) (node_mark a) (node_mark b) none (λ e. tested_erased c a w (λ d v. node_erased d Read a v e)) (λ e. right_erased c b (walk_test c a w) (λ d v. node_erased d Read b v e))
  form_erased c r p o n (two or a b) w none =
      both_plain (λ x y. node p o n (two or x y)) (node_mark a) (node_mark b) none (λ e. tested_erased c a w (λ d v. node_erased d Read a v e)) (λ e. right_erased c b (walk_test c a w) (λ d v. node_erased d Read b v e))
  form_erased c r p o n (two (assign u) a b) w none =
      both_plain (λ x y. node p o n (two (assign u) x y)) (node_mark a) (node_mark b) none (λ e. node_erased c (left_taken u) a w e) (λ e. node_erased c (right_taken u a) b (walk_node c (left_taken u) a w) e)
  form_erased c r p o n (two (plain u) a b) w none =
      both_plain (λ x y. node p o n (two (plain u) x y)) (node_mark a) (node_mark b) none (λ e. node_erased c Read a w e) (λ e. node_erased c Read b (walk_node c Read a w) e)
  form_erased c r p o n (two comma a b) w none =
      both_plain (λ x y. node p o n (two comma x y)) (node_mark a) (node_mark b) none (λ e. node_erased c Read a w e) (λ e. node_erased c Read b (walk_node c Read a w) e)
  form_erased c r p o n (choose a b d) w none =
      let u = walk_test c a w in
      both_plain (λ x (y : NodeShape × NodeShape). node p o n (choose x y.0 y.1)) (node_mark a) (first (node_mark b) (node_mark d)) none (λ e. tested_erased c a w (λ x v. node_erased x Read a v e)) (λ e.
      both_plain (λ y z. (y, z)) (node_mark b) (node_mark d) e (λ e. armed_erased c b u (λ x v. node_erased x Read b v e)) (λ e. armed_erased c d (walk_arm c b u) (λ x v. node_erased x Read d v e)))
  form_erased c r p o n (probe u a) w none = absurd (some_none p none)

  nodes_erased : (c : Around) (es : NodeShapes) (w : Walked) → nodes_mark es ≡ None → erased_nodes (probed_nodes c es w) ≡ es
  nodes_erased c no_nodes w none = refl
  nodes_erased c (more_nodes a rest) w none = both_plain more_nodes (node_mark a) (nodes_mark rest) none (λ e. node_erased c Read a w e) (λ e. nodes_erased c rest (walk_node c Read a w) e)

pub test_node_erased : (c : Around) (a : NodeShape) (w : Walked) → node_mark a ≡ None → erased_node (probed_test c a w) ≡ a
test_node_erased c a w none = tested_erased c a w (λ d v. node_erased d Read a v none)

pub maybe_erased : (c : Around) (e : MaybeNode) (w : Walked) → maybe_mark e ≡ None → erased_maybe (probed_maybe c e w) ≡ e
maybe_erased c no_node w none = refl
maybe_erased c (one_node a) w none = ap one_node (node_erased c Read a w none)

pub loop_test_erased : (c : Around) (a : NodeShape) (w : Walked) → node_mark a ≡ None → erased_node (probed_loop_test c a w) ≡ a
loop_test_erased c a w none = right_erased c a w (λ d v. node_erased d Read a v none)

pub maybe_test_erased : (c : Around) (e : MaybeNode) (w : Walked) → maybe_mark e ≡ None → erased_maybe (probed_maybe_test c e w) ≡ e
maybe_test_erased c no_node w none = refl
maybe_test_erased c (one_node a) w none = ap one_node (loop_test_erased c a w none)

pub step_erased : (c : Around) (e : MaybeNode) (w : Walked) → maybe_mark e ≡ None → erased_maybe (probed_step c e w) ≡ e
step_erased c no_node w none = refl
step_erased c (one_node a) w none = ap one_node (armed_erased c a w (λ d v. node_erased d Read a v none))

-- what a switch chooses by
pub choice_erased : (c : Around) (e : NodeShape) (items : ItemShapes) (w : Walked) → node_mark e ≡ None → erased_node (probed_choice c e items w) ≡ e
choice_erased c e items w none =
    let vs = case_values (choosing e) items in
    let v = with_decision (pos_of e) (cases vs) w in
    select_erased vs w (probed_node (inside c w) Read e v) ∙ node_erased (inside c w) Read e v none
