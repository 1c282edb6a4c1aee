-- Expressions with their probes: what the walk counts at a node gets a probe there, with the number that it has in the walk. What the walk
-- doesn't go through stays as it is.
use Rattle.std.specs.Prelude.{Bool, if◌then◌else◌}
use Rattle.c_base.specs.declared.place.Pos.{Pos}
use Rattle.c_syntax.specs.Shape.{NoteShape, unary, before, size_of, plain, and, or, assign, comma, NodeShape, node, ExprShape, leaf, paren, call, prefix, size_of_type, cast, suffix, two, choose, probe, index, field, behind, NodeShapes, no_nodes, more_nodes, MaybeNode, no_node, one_node, ItemShapes}
use Rattle.c_walk.specs.declared.around.Around.{Around}
use Rattle.c_walk.specs.declared.around.Taken.{Taken}
use Rattle.c_walk.specs.declared.around.Taken.TheVariants.{Read, Changed}
use Rattle.c_walk.specs.Items.{cases}
use Rattle.c_walk.specs.Places.{is_place}
use Rattle.c_walk.specs.Tests.{is_logical_form, choosing, case_values}
use Rattle.c_walk.specs.Walked.{Walked, is_used, is_written, operand_taken, left_taken, right_taken, with_block, pos_of, inside, inside_test, with_decision, with_test, with_site}
use Rattle.c_walk.specs.Walking.{walk_node, walk_test, walk_arm}
use Rattle.probe_rules.specs.Marks.{in_block, in_test, in_use, in_def, in_select}

-- a place with the probes of its sites, of which one may be a use: a definition outside it
abbrev pub in_sites : Taken → Bool → Walked → NodeShape → NodeShape
in_sites r b w a = in_def (is_written r) w (in_use b w a)

-- a node of that form, whose parts have their probes
abbrev pub sited : Taken → Pos → Pos → NoteShape → ExprShape → ExprShape → Walked → NodeShape
sited r p o n f g w = if is_place f then in_sites r (is_used r n) w (node p o n g) else node p o n g

abbrev mutual
  pub probed_node : Around → Taken → NodeShape → Walked → NodeShape
  probed_node c r (node p o n f) w = sited r p o n f (probed_form c r f (with_site c r p n f w)) w

  pub probed_form : Around → Taken → ExprShape → Walked → ExprShape
  probed_form c r (leaf l) w = leaf l
  probed_form c r (paren a) w = paren (probed_node c r a w)
  probed_form c r (call x args) w = call x (probed_nodes c args w)
  probed_form c r (prefix (unary u) a) w = prefix (unary u) (probed_node c (operand_taken u) a w)
  probed_form c r (prefix (before u) a) w = prefix (before u) (probed_node c Changed a w)
  probed_form c r (prefix size_of a) w = prefix size_of a
  probed_form c r (size_of_type t) w = size_of_type t
  probed_form c r (cast t a) w = cast t (probed_node c Read a w)
  probed_form c r (suffix a (index b)) w = suffix (probed_node c Read a w) (index (probed_node c Read b (walk_node c Read a w)))
  probed_form c r (suffix a (field h x q)) w = suffix (probed_node c Read a w) (field h x q)
  probed_form c r (suffix a (behind u)) w = suffix (probed_node c Changed a w) (behind u)
  -- the right operand of `&&` and `||` is a block and a test
  probed_form c r (two and a b) w =
      let v = walk_test c a w in
      two and (probed_test c a w) (in_block v (probed_test c b (with_block (pos_of b) v)))
  probed_form c r (two or a b) w =
      let v = walk_test c a w in
      two or (probed_test c a w) (in_block v (probed_test c b (with_block (pos_of b) v)))
  probed_form c r (two (assign u) a b) w = two (assign u) (probed_node c (left_taken u) a w) (probed_node c (right_taken u a) b (walk_node c (left_taken u) a w))
  probed_form c r (two (plain u) a b) w = two (plain u) (probed_node c Read a w) (probed_node c Read b (walk_node c Read a w))
  probed_form c r (two comma a b) w = two comma (probed_node c Read a w) (probed_node c Read b (walk_node c Read a w))
  probed_form c r (choose a b d) w = choose (probed_test c a w) (probed_arm c b (walk_test c a w)) (probed_arm c d (walk_arm c b (walk_test c a w)))
  probed_form c r (probe u a) w = probe u a

  -- an expression at a test position: a test outside its sites
  pub probed_test : Around → NodeShape → Walked → NodeShape
  probed_test c (node p o n f) w =
      let d = inside_test c f w in
      let v = with_test p f w in
      in_test (is_logical_form f) w (sited Read p o n f (probed_form d Read f (with_site d Read p n f v)) v)

  -- an expression that is a block
  pub probed_arm : Around → NodeShape → Walked → NodeShape
  probed_arm c (node p o n f) w =
      let v = with_block p w in
      in_block w (sited Read p o n f (probed_form c Read f (with_site c Read p n f v)) v)

  pub probed_nodes : Around → NodeShapes → Walked → NodeShapes
  probed_nodes c no_nodes w = no_nodes
  probed_nodes c (more_nodes a rest) w = more_nodes (probed_node c Read a w) (probed_nodes c rest (walk_node c Read a w))

abbrev pub probed_maybe : Around → MaybeNode → Walked → MaybeNode
probed_maybe c no_node w = no_node
probed_maybe c (one_node a) w = one_node (probed_node c Read a w)

-- the test of a loop, which is a block
abbrev pub probed_loop_test : Around → NodeShape → Walked → NodeShape
probed_loop_test c a w = in_block w (probed_test c a (with_block (pos_of a) w))

abbrev pub probed_maybe_test : Around → MaybeNode → Walked → MaybeNode
probed_maybe_test c no_node w = no_node
probed_maybe_test c (one_node a) w = one_node (probed_loop_test c a w)

-- the step of a `for`, which is a block
abbrev pub probed_step : Around → MaybeNode → Walked → MaybeNode
probed_step c no_node w = no_node
probed_step c (one_node a) w = one_node (probed_arm c a w)

-- what a switch chooses by
abbrev pub probed_choice : Around → NodeShape → ItemShapes → Walked → NodeShape
probed_choice c e items w =
    let vs = case_values (choosing e) items in
    in_select vs w (probed_node (inside c w) Read e (with_decision (pos_of e) (cases vs) w))
