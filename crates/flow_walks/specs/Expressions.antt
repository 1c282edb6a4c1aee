-- What an expression meets (C89, 3.3), in the order in which it is evaluated. The numbers are those of the walk that counts (c_walk), of which
-- each part is given what was counted before it.
use Rattle.std.specs.Prelude.{Bool, false, is_some, Option, Some, None, if◌then◌else◌}
use Rattle.c_base.specs.declared.place.Pos.{Pos}
use Rattle.c_syntax.specs.Shape.{NoteShape, typed, unary, before, size_of, plain, and, or, assign, comma, NodeShape, node, ExprShape, leaf, paren, call, prefix, size_of_type, cast, suffix, two, choose, probe, index, field, behind, NodeShapes, no_nodes, more_nodes, MaybeNode, no_node, one_node}
use Rattle.c_tables.specs.Tables.{FunctionShape, TablesShape}
use Rattle.c_tables.specs.Rows.{row}
use Rattle.c_walk.specs.Places.{is_place, has_scalar, has_structure}
use Rattle.c_walk.specs.Tests.{outcomes_of_form}
use Rattle.c_walk.specs.declared.around.Around.{Around}
use Rattle.c_walk.specs.declared.around.Taken.{Taken}
use Rattle.c_walk.specs.declared.around.Taken.TheVariants.{Read, Changed, Copied}
use Rattle.c_walk.specs.Items.{both}
use Rattle.c_walk.specs.Walked.{Walked, operand_taken, left_taken, right_taken, with_block, pos_of, next_decision, inside_test, with_test, with_site}
use Rattle.c_walk.specs.Counted.{next_block, next_def, next_use}
use Rattle.c_walk.specs.Walking.{walk_node, walk_test, walk_arm}
use Rattle.flow_walks.specs.declared.action.Action.TheVariants.{Define, Use, Block}
use Rattle.flow_walks.specs.Comes.{Comes, act, enter, emit, emit_if, Ways, value, true_way, false_way, evaluated, test}

-- ---- sites

-- a place, in parentheses or not
abbrev mutual
  pub holds_place : NodeShape → Bool
  holds_place (node p o n f) = form_holds_place f

  pub form_holds_place : ExprShape → Bool
  form_holds_place (paren a) = holds_place a
  form_holds_place (probe u a) = holds_place a
  form_holds_place f = is_place f

-- one that is an integer or a pointer
abbrev mutual
  pub holds_scalar : NodeShape → Bool
  holds_scalar (node p o n f) = form_holds_scalar n f

  pub form_holds_scalar : NoteShape → ExprShape → Bool
  form_holds_scalar n (paren a) = holds_scalar a
  form_holds_scalar n (probe u a) = holds_scalar a
  form_holds_scalar n f = if is_place f then has_scalar n else false

-- a place that is counted behind these items is used, if it is a scalar; and it is defined
abbrev pub used_at : NodeShape → Walked → Comes → Comes
used_at a s k = emit_if (holds_scalar a) (act (Use (next_use s))) k

abbrev pub defined_at : NodeShape → Walked → Comes → Comes
defined_at a s k = emit_if (holds_place a) (act (Define (next_def s))) k

-- to the left of an assignment other than `=` a place is used before the value
abbrev pub changed_at : Taken → NodeShape → Walked → Comes → Comes
changed_at Changed a s k = used_at a s k
changed_at _ a s k = k

-- a place by itself is used where its value is read, if it is a scalar, or copied, if it is a structure; where it is written, or its address
-- is taken, it isn't used here
abbrev pub reads : Taken → NoteShape → ExprShape → Bool
reads Read n f = if is_place f then has_scalar n else false
reads Copied n f = if is_place f then has_structure n else false
reads _ n f = false

abbrev pub read_form : Taken → NoteShape → ExprShape → Walked → Comes → Comes
read_form r n f s k = emit_if (reads r n f) (act (Use (next_use s))) k

-- ---- calls

abbrev pub is_defined : Option FunctionShape → Bool
is_defined None = false
is_defined (Some f) = is_some f.defined

-- a function with a body is called
abbrev pub entered : TablesShape → NoteShape → Comes → Comes
entered t (typed y (Some f)) k = emit_if (is_defined (row t.functions f)) (enter f) k
entered t n k = k

-- ---- expressions

abbrev mutual
  -- of whose value that is done, where its value is wanted, or at a test position
  pub node_goes : TablesShape → Around → Taken → NodeShape → Walked → Ways → Comes
  node_goes t c r (node p o n f) s m = form_goes t c r p n f s m

  pub form_goes : TablesShape → Around → Taken → Pos → NoteShape → ExprShape → Walked → Ways → Comes
  form_goes t c r p n (leaf l) s m = read_form r n (leaf l) s (evaluated (outcomes_of_form (leaf l)) m)
  form_goes t c r p n (paren a) s m = node_goes t c r a s m
  form_goes t c r p n (probe u a) s m = node_goes t c r a s m
  form_goes t c r p n (call x args) s m = nodes_go t c args s (entered t n (evaluated both m))
  form_goes t c r p n (prefix (unary u) a) s m =
      node_goes t c (operand_taken u) a (with_site c r p n (prefix (unary u) a) s) (value (read_form r n (prefix (unary u) a) s (evaluated both m)))
  form_goes t c r p n (prefix (before u) a) s m = node_goes t c Changed a s (value (used_at a s (defined_at a s (evaluated both m))))
  -- nothing is met in a sizeof
  form_goes t c r p n (prefix size_of a) s m = evaluated both m
  form_goes t c r p n (size_of_type y) s m = evaluated both m
  form_goes t c r p n (cast y a) s m = node_goes t c Read a s (value (evaluated both m))
  -- a place's parts come before its use
  form_goes t c r p n (suffix a (index b)) s m =
      let j = with_site c r p n (suffix a (index b)) s in
      node_goes t c Read a j (value (node_goes t c Read b (walk_node c Read a j) (value (read_form r n (suffix a (index b)) s (evaluated both m)))))
  form_goes t c r p n (suffix a (field h x q)) s m =
      node_goes t c Read a (with_site c r p n (suffix a (field h x q)) s) (value (read_form r n (suffix a (field h x q)) s (evaluated both m)))
  form_goes t c r p n (suffix a (behind u)) s m = node_goes t c Changed a s (value (used_at a s (defined_at a s (evaluated both m))))
  form_goes t c r p n (two (plain u) a b) s m = node_goes t c Read a s (value (node_goes t c Read b (walk_node c Read a s) (value (evaluated both m))))
  form_goes t c r p n (two comma a b) s m = node_goes t c Read a s (value (node_goes t c Read b (walk_node c Read a s) (value (evaluated both m))))
  -- the right operand is a block and is evaluated only where the left one doesn't decide; neither has a decision besides those of its operands
  form_goes t c r p n (two and a b) s m =
      let j = walk_test c a s in
      test_goes t c a s (emit (act (Block (next_block j))) (test_goes t c b (with_block (pos_of b) j) (true_way m) (false_way m))) (false_way m)
  form_goes t c r p n (two or a b) s m =
      let j = walk_test c a s in
      test_goes t c a s (true_way m) (emit (act (Block (next_block j))) (test_goes t c b (with_block (pos_of b) j) (true_way m) (false_way m)))
  -- `=` defines the place behind the value; another assignment reads it before
  form_goes t c r p n (two (assign u) a b) s m =
      node_goes t c (left_taken u) a s (value (changed_at (left_taken u) a s
      (node_goes t c (right_taken u a) b (walk_node c (left_taken u) a s) (value (defined_at a s (evaluated both m))))))
  form_goes t c r p n (choose a b d) s m =
      let j = walk_test c a s in
      test_goes t c a s (arm_goes t c b j (evaluated both m)) (arm_goes t c d (walk_arm c b j) (evaluated both m))

  -- an expression at a test position: a decision, but for `&&` and `||`
  pub test_goes : TablesShape → Around → NodeShape → Walked → Comes → Comes → Comes
  test_goes t c (node p o n f) s j k = form_goes t (inside_test c f s) Read p n f (with_test p f s) (test (next_decision s) j k)

  -- an expression that is a block
  pub arm_goes : TablesShape → Around → NodeShape → Walked → Comes → Comes
  arm_goes t c (node p o n f) s k = emit (act (Block (next_block s))) (form_goes t c Read p n f (with_block p s) (value k))

  pub nodes_go : TablesShape → Around → NodeShapes → Walked → Comes → Comes
  nodes_go t c no_nodes s k = k
  nodes_go t c (more_nodes a rest) s k = node_goes t c Read a s (value (nodes_go t c rest (walk_node c Read a s) k))

abbrev pub maybe_goes : TablesShape → Around → MaybeNode → Walked → Comes → Comes
maybe_goes t c no_node s k = k
maybe_goes t c (one_node a) s k = node_goes t c Read a s (value k)

-- the test of a loop, which is a block; one that is left out holds
abbrev pub loop_test_goes : TablesShape → Around → MaybeNode → Walked → Comes → Comes → Comes
loop_test_goes t c no_node s j k = j
loop_test_goes t c (one_node a) s j k = emit (act (Block (next_block s))) (test_goes t c a (with_block (pos_of a) s) j k)

-- the step of a `for`, which is a block
abbrev pub step_goes : TablesShape → Around → MaybeNode → Walked → Comes → Comes
step_goes t c no_node s k = k
step_goes t c (one_node a) s k = arm_goes t c a s k
