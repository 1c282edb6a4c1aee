-- Declarations and statements with their probes.
use Rattle.std.specs.Prelude.{◌||◌, List, Bool, true, false, Option}
use Rattle.c_syntax.specs.declared.tree.Star.{Star}
use Rattle.c_syntax.specs.declared.tree.Named.{Named}
use Rattle.c_syntax.specs.Shape.{DeclShape, decl, DeclShapes, no_decls, more_decls, DeclaratorShape, declarator, DeclaratorShapes, no_declarators, more_declarators, LengthShapes, arrays, function, MaybeInit, no_init, one_init, InitShape, one, listed, StmtShape, stmt, FormShape, compound, simply, when, either, while, do_while, for, switch, break, continue, return, CompoundShape, braces, ItemShapes, no_items, more_items}
use Rattle.c_tables.specs.Tables.{TablesShape}
use Rattle.c_walk.specs.declared.around.Around.{Around}
use Rattle.c_walk.specs.declared.around.Taken.TheVariants.{Read}
use Rattle.c_walk.specs.Walked.{Walked, with_block_if}
use Rattle.c_walk.specs.Walking.{walk_test, walk_maybe, walk_loop_test, walk_maybe_test, walk_step}
use Rattle.c_walk.specs.Stating.{with_variable, with_whole_def, walk_declarator, walk_decl, walk_decls, pos_of_stmt, splits, is_labelled, walk_choice, walk_stmt, walk_part}
use Rattle.probe_rules.specs.Marks.{block_marks, defined_name}
use Rattle.probe_rules.specs.ProbedExpressions.{probed_node, probed_test, probed_maybe, probed_loop_test, probed_maybe_test, probed_step, probed_choice}

-- ---- local declarations

-- nothing in braces has a probe
abbrev pub probed_init : Around → InitShape → Walked → InitShape
probed_init c (one a) w = one (probed_node c Read a w)
probed_init c (listed p items last) w = listed p items last

-- a variable is defined at its name where it has an initialiser
abbrev pub probed_variable : TablesShape → Around → List Star → Option Named → LengthShapes → MaybeInit → Walked → DeclaratorShape
probed_variable t c stars x ls no_init w = declarator stars x (arrays ls) no_init
probed_variable t c stars x ls (one_init i) w = declarator stars (defined_name x w) (arrays ls) (one_init (probed_init c i (with_whole_def t c.function x w)))

abbrev pub probed_declarator : TablesShape → Around → DeclaratorShape → Walked → DeclaratorShape
probed_declarator t c (declarator stars x (arrays ls) i) w = probed_variable t c stars x ls i (with_variable w)
probed_declarator t c (declarator stars x (function ps) i) w = declarator stars x (function ps) i

abbrev pub probed_declarators : TablesShape → Around → DeclaratorShapes → Walked → DeclaratorShapes
probed_declarators t c no_declarators w = no_declarators
probed_declarators t c (more_declarators d rest) w = more_declarators (probed_declarator t c d w) (probed_declarators t c rest (walk_declarator t c d w))

abbrev pub probed_decl : TablesShape → Around → DeclShape → Walked → DeclShape
probed_decl t c (decl p specs names) w = decl p specs (probed_declarators t c names w)

abbrev pub probed_decls : TablesShape → Around → DeclShapes → Walked → DeclShapes
probed_decls t c no_decls w = no_decls
probed_decls t c (more_decls d rest) w = more_decls (probed_decl t c d w) (probed_decls t c rest (walk_decl t c d w))

-- ---- statements

abbrev mutual
  -- one that is a block or not
  pub probed_stmt : TablesShape → Around → Bool → StmtShape → Walked → StmtShape
  probed_stmt t c b (stmt p ms q f) w = stmt p (block_marks b p w) q (probed_body t c f (with_block_if b p w))

  pub probed_body : TablesShape → Around → FormShape → Walked → FormShape
  probed_body t c (compound b) w = compound (probed_compound t c b w)
  probed_body t c (simply e) w = simply (probed_maybe c e w)
  probed_body t c (when e a) w = when (probed_test c e w) (probed_stmt t c true a (walk_test c e w))
  probed_body t c (either e a b) w =
      let v = walk_test c e w in
      either (probed_test c e w) (probed_stmt t c true a v) (probed_stmt t c true b (walk_part t c a v))
  probed_body t c (while e a) w = while (probed_loop_test c e w) (probed_stmt t c true a (walk_loop_test c e w))
  probed_body t c (do_while a e) w = do_while (probed_stmt t c true a w) (probed_loop_test c e (walk_part t c a w))
  probed_body t c (for e f g a) w =
      let u = walk_maybe c e w in
      let v = walk_maybe_test c f u in
      for (probed_maybe c e w) (probed_maybe_test c f u) (probed_step c g v) (probed_stmt t c true a (walk_step c g v))
  probed_body t c (switch e items) w = switch (probed_choice c e items w) (probed_items t c false items (walk_choice c e items w))
  probed_body t c break w = break
  probed_body t c continue w = continue
  probed_body t c (return e) w = return (probed_maybe c e w)

  pub probed_compound : TablesShape → Around → CompoundShape → Walked → CompoundShape
  probed_compound t c (braces p ds items) w = braces p (probed_decls t c ds w) (probed_items t c false items (walk_decls t c ds w))

  -- statements in a list, the first one behind a statement that splits it or not; one with a label is a block too
  pub probed_items : TablesShape → Around → Bool → ItemShapes → Walked → ItemShapes
  probed_items t c after no_items w = no_items
  probed_items t c after (more_items labels a rest) w =
      let b = after || is_labelled labels in
      more_items labels (probed_stmt t c b a w) (probed_items t c (splits a) rest (walk_stmt t c a (with_block_if b (pos_of_stmt a) w)))
