-- The walk of an expression adds what is told of its tree.
use Rattle.c_syntax.specs.Shape.{unary, before, size_of, plain, and, or, assign, comma, NodeShape, node, ExprShape, leaf, paren, call, prefix, size_of_type, cast, suffix, two, choose, probe, index, field, behind, NodeShapes, no_nodes, more_nodes, MaybeNode, no_node, one_node, ItemShapes}
use Rattle.c_tables.specs.Tables.{TablesShape}
use Rattle.c_walk.specs.declared.around.Around.{Around}
use Rattle.c_walk.specs.declared.around.Taken.{Taken}
use Rattle.c_walk.specs.declared.around.Taken.TheVariants.{Read, Changed}
use Rattle.c_walk.specs.Items.{cases}
use Rattle.c_walk.specs.Tests.{choosing, case_values}
use Rattle.c_walk.specs.Walked.{Walked, operand_taken, left_taken, right_taken, with_block, with_decision, with_test, inside, inside_test, with_site, pos_of}
use Rattle.c_walk.specs.Walking.{walk_node, walk_form, walk_test, walk_arm, walk_nodes, walk_maybe, walk_maybe_test, walk_step}
use Rattle.c_walk.specs.Stating.{walk_choice}
use Rattle.c_ordered.specs.Parts.{operand, tested, tested_apart, apart, chosen_by}
use Rattle.c_ordered.specs.Outlines.{Outlines, of_node, in_form, of_nodes, and_maybe}
use Rattle.c_ordered.proofs.Adding.{Says, SaysAll, nothing, next, within}
use Rattle.c_ordered.proofs.Heads.{operand_heads, tested_heads, apart_test_heads, arm_heads, choice_heads}

mutual
  pub node_says : (t : TablesShape) (c : Around) (r : Taken) (a : NodeShape) (s : Walked) → Says t c s (walk_node c r a s) (of_node (operand r) a)
  node_says t c r (node p o n f) s = within (operand_heads t c r p o n f s) (form_says t c r f (with_site c r p n f s))

  form_says : (t : TablesShape) (c : Around) (r : Taken) (f : ExprShape) (s : Walked) → SaysAll t c s (walk_form c r f s) (in_form r f)
  form_says t c r (leaf l) s = nothing
  form_says t c r (paren a) s = next (node_says t c r a s) nothing
  form_says t c r (call x args) s = nodes_say t c args s
  form_says t c r (prefix (unary u) a) s = next (node_says t c (operand_taken u) a s) nothing
  form_says t c r (prefix (before u) a) s = next (node_says t c Changed a s) nothing
  form_says t c r (prefix size_of a) s = nothing
  form_says t c r (size_of_type y) s = nothing
  form_says t c r (cast y a) s = next (node_says t c Read a s) nothing
  form_says t c r (suffix a (index b)) s = next (node_says t c Read a s) (next (node_says t c Read b (walk_node c Read a s)) nothing)
  form_says t c r (suffix a (field h x q)) s = next (node_says t c Read a s) nothing
  form_says t c r (suffix a (behind u)) s = next (node_says t c Changed a s) nothing
  form_says t c r (two and a b) s = next (tested_says t c a s) (next (apart_test_says t c b (walk_test c a s)) nothing)
  form_says t c r (two or a b) s = next (tested_says t c a s) (next (apart_test_says t c b (walk_test c a s)) nothing)
  form_says t c r (two (assign u) a b) s = next (node_says t c (left_taken u) a s) (next (node_says t c (right_taken u a) b (walk_node c (left_taken u) a s)) nothing)
  form_says t c r (two (plain u) a b) s = next (node_says t c Read a s) (next (node_says t c Read b (walk_node c Read a s)) nothing)
  form_says t c r (two comma a b) s = next (node_says t c Read a s) (next (node_says t c Read b (walk_node c Read a s)) nothing)
  form_says t c r (choose a b d) s =
      let u = walk_test c a s in
      next (tested_says t c a s) (next (arm_says t c b u) (next (arm_says t c d (walk_arm c b u)) nothing))
  form_says t c r (probe u a) s = next (node_says t c r a s) nothing

  pub tested_says : (t : TablesShape) (c : Around) (a : NodeShape) (s : Walked) → Says t c s (walk_test c a s) (of_node tested a)
  tested_says t c (node p o n f) s =
      let d = inside_test c f s in
      within (tested_heads t c p o n f s) (form_says t d Read f (with_site d Read p n f (with_test p f s)))

  -- the test of a loop, or the right operand of `&&` or `||`
  pub apart_test_says : (t : TablesShape) (c : Around) (a : NodeShape) (s : Walked) → Says t c s (walk_test c a (with_block (pos_of a) s)) (of_node tested_apart a)
  apart_test_says t c (node p o n f) s =
      let v = with_block p s in
      let d = inside_test c f v in
      within (apart_test_heads t c p o n f s) (form_says t d Read f (with_site d Read p n f (with_test p f v)))

  pub arm_says : (t : TablesShape) (c : Around) (a : NodeShape) (s : Walked) → Says t c s (walk_arm c a s) (of_node apart a)
  arm_says t c (node p o n f) s = within (arm_heads t c p o n f s) (form_says t c Read f (with_site c Read p n f (with_block p s)))

  nodes_say : (t : TablesShape) (c : Around) (args : NodeShapes) (s : Walked) → SaysAll t c s (walk_nodes c args s) (of_nodes args)
  nodes_say t c no_nodes s = nothing
  nodes_say t c (more_nodes a rest) s = next (node_says t c Read a s) (nodes_say t c rest (walk_node c Read a s))

pub choice_says : (t : TablesShape) (c : Around) (a : NodeShape) (items : ItemShapes) (s : Walked) → Says t c s (walk_choice c a items s) (of_node (chosen_by items) a)
choice_says t c (node p o n f) items s =
    let d = inside c s in
    within (choice_heads t c items p o n f s) (form_says t d Read f (with_site d Read p n f (with_decision p (cases (case_values (choosing (node p o n f)) items)) s)))

-- ---- in front of what comes behind

pub maybe_says : (t : TablesShape) (c : Around) (a : MaybeNode) (s u : Walked) (ts : Outlines) → SaysAll t c (walk_maybe c a s) u ts → SaysAll t c s u (and_maybe (operand Read) a ts)
maybe_says t c no_node s u ts h = h
maybe_says t c (one_node a) s u ts h = next (node_says t c Read a s) h

pub maybe_test_says : (t : TablesShape) (c : Around) (a : MaybeNode) (s u : Walked) (ts : Outlines) → SaysAll t c (walk_maybe_test c a s) u ts → SaysAll t c s u (and_maybe tested_apart a ts)
maybe_test_says t c no_node s u ts h = h
maybe_test_says t c (one_node a) s u ts h = next (apart_test_says t c a s) h

pub step_says : (t : TablesShape) (c : Around) (a : MaybeNode) (s u : Walked) (ts : Outlines) → SaysAll t c (walk_step c a s) u ts → SaysAll t c s u (and_maybe apart a ts)
step_says t c no_node s u ts h = h
step_says t c (one_node a) s u ts h = next (arm_says t c a s) h
