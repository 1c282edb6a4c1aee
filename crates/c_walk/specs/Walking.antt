-- The items of an expression (C89, 3.3), behind those before it. Nothing counts inside a sizeof, in type names and in the constants of a probe.
use Rattle.c_syntax.specs.Shape.{unary, before, size_of, plain, and, or, assign, comma, NodeShape, node, ExprShape, leaf, paren, call, prefix, size_of_type, cast, suffix, two, choose, probe, index, field, behind, NodeShapes, no_nodes, more_nodes, MaybeNode, no_node, one_node}
use Rattle.c_walk.specs.declared.around.Around.{Around}
use Rattle.c_walk.specs.declared.around.Taken.{Taken}
use Rattle.c_walk.specs.declared.around.Taken.TheVariants.{Read, Changed}
use Rattle.c_walk.specs.Walked.{Walked, operand_taken, left_taken, right_taken, with_block, pos_of, inside_test, with_test, with_site}

abbrev mutual
  pub walk_node : Around → Taken → NodeShape → Walked → Walked
  walk_node c r (node p o n f) s = walk_form c r f (with_site c r p n f s)

  -- parentheses are looked through
  pub walk_form : Around → Taken → ExprShape → Walked → Walked
  walk_form c r (leaf l) s = s
  walk_form c r (paren a) s = walk_node c r a s
  walk_form c r (call x args) s = walk_nodes c args s
  walk_form c r (prefix (unary u) a) s = walk_node c (operand_taken u) a s
  walk_form c r (prefix (before u) a) s = walk_node c Changed a s
  walk_form c r (prefix size_of a) s = s
  walk_form c r (size_of_type t) s = s
  walk_form c r (cast t a) s = walk_node c Read a s
  walk_form c r (suffix a (index b)) s = walk_node c Read b (walk_node c Read a s)
  walk_form c r (suffix a (field h x q)) s = walk_node c Read a s
  walk_form c r (suffix a (behind u)) s = walk_node c Changed a s
  -- both operands of `&&` and `||` are tests, and the right one is a block
  walk_form c r (two and a b) s = walk_test c b (with_block (pos_of b) (walk_test c a s))
  walk_form c r (two or a b) s = walk_test c b (with_block (pos_of b) (walk_test c a s))
  walk_form c r (two (assign u) a b) s = walk_node c (right_taken u a) b (walk_node c (left_taken u) a s)
  walk_form c r (two (plain u) a b) s = walk_node c Read b (walk_node c Read a s)
  walk_form c r (two comma a b) s = walk_node c Read b (walk_node c Read a s)
  -- the first operand of `?:` is a test, the others are blocks
  walk_form c r (choose a b d) s = walk_arm c d (walk_arm c b (walk_test c a s))
  walk_form c r (probe u a) s = walk_node c r a s

  -- an expression at a test position
  pub walk_test : Around → NodeShape → Walked → Walked
  walk_test c (node p o n f) s = walk_form (inside_test c f s) Read f (with_site (inside_test c f s) Read p n f (with_test p f s))

  -- an expression that is a block
  pub walk_arm : Around → NodeShape → Walked → Walked
  walk_arm c (node p o n f) s = walk_form c Read f (with_site c Read p n f (with_block p s))

  pub walk_nodes : Around → NodeShapes → Walked → Walked
  walk_nodes c no_nodes s = s
  walk_nodes c (more_nodes a rest) s = walk_nodes c rest (walk_node c Read a s)

abbrev pub walk_maybe : Around → MaybeNode → Walked → Walked
walk_maybe c no_node s = s
walk_maybe c (one_node a) s = walk_node c Read a s

-- the test of a loop, which is a block
abbrev pub walk_loop_test : Around → NodeShape → Walked → Walked
walk_loop_test c a s = walk_test c a (with_block (pos_of a) s)

abbrev pub walk_maybe_test : Around → MaybeNode → Walked → Walked
walk_maybe_test c no_node s = s
walk_maybe_test c (one_node a) s = walk_loop_test c a s

-- the step of a `for`, which is a block
abbrev pub walk_step : Around → MaybeNode → Walked → Walked
walk_step c no_node s = s
walk_step c (one_node a) s = walk_arm c a s
