-- The tree of a unit: each part that is run with the parts that it holds, in the order of the text, and the role in which each stands. The
-- operand of a sizeof, type names, a probe's constants, case constants, array lengths and initialisers outside of functions aren't run.
use Rattle.std.specs.Prelude.{Bool, false, List, [], ◌∷◌, Option}
use Rattle.c_syntax.specs.declared.tree.Named.{Named}
use Rattle.c_syntax.specs.Shape.{unary, before, size_of, plain, and, or, assign, comma, NodeShape, node, ExprShape, leaf, paren, call, prefix, size_of_type, cast, suffix, two, choose, probe, index, field, behind, NodeShapes, no_nodes, more_nodes, MaybeNode, no_node, one_node, DeclShape, decl, DeclShapes, no_decls, more_decls, declarator, DeclaratorShapes, no_declarators, more_declarators, DeclFormShape, arrays, function, empty, void, params, MaybeInit, no_init, one_init, one, listed, StmtShape, stmt, FormShape, compound, simply, when, either, while, do_while, for, switch, break, continue, return, CompoundShape, braces, ItemShapes, no_items, more_items, ExternalShape, defined, declared, UnitShape}
use Rattle.c_walk.specs.declared.around.Taken.{Taken}
use Rattle.c_walk.specs.declared.around.Taken.TheVariants.{Read, Changed}
use Rattle.c_walk.specs.Walked.{operand_taken, left_taken, right_taken}
use Rattle.c_walk.specs.Stating.{splits}
use Rattle.c_ordered.specs.Trees.{Tree, tree, Trees, none, more}
use Rattle.c_ordered.specs.Parts.{What, expression, statement, body, name, declaration, definition, whole, Role, operand, tested, tested_apart, apart, chosen_by, controlled, other, Part, taken}
use Rattle.c_ordered.specs.Parts as parts

abbrev pub Outline : Type 0
Outline = Tree Part

abbrev pub Outlines : Type 0
Outlines = Trees Part

abbrev pub holding : Role → What → Outlines → Outline
holding r w ts = tree (record { role = r; what = w }) ts

-- ---- expressions

abbrev mutual
  pub of_node : Role → NodeShape → Outline
  of_node r (node p o n f) = holding r (expression (node p o n f)) (in_form (taken r) f)

  -- of parentheses and probes the operand is taken as they are
  pub in_form : Taken → ExprShape → Outlines
  in_form k (leaf l) = none
  in_form k (paren a) = more (of_node (operand k) a) none
  in_form k (call x args) = of_nodes args
  in_form k (prefix (unary u) a) = more (of_node (operand (operand_taken u)) a) none
  in_form k (prefix (before u) a) = more (of_node (operand Changed) a) none
  in_form k (prefix size_of a) = none
  in_form k (size_of_type t) = none
  in_form k (cast t a) = more (of_node (operand Read) a) none
  in_form k (suffix a (index b)) = more (of_node (operand Read) a) (more (of_node (operand Read) b) none)
  in_form k (suffix a (field h x q)) = more (of_node (operand Read) a) none
  in_form k (suffix a (behind u)) = more (of_node (operand Changed) a) none
  in_form k (two and a b) = more (of_node tested a) (more (of_node tested_apart b) none)
  in_form k (two or a b) = more (of_node tested a) (more (of_node tested_apart b) none)
  in_form k (two (assign u) a b) = more (of_node (operand (left_taken u)) a) (more (of_node (operand (right_taken u a)) b) none)
  in_form k (two (plain u) a b) = more (of_node (operand Read) a) (more (of_node (operand Read) b) none)
  in_form k (two comma a b) = more (of_node (operand Read) a) (more (of_node (operand Read) b) none)
  in_form k (choose a b d) = more (of_node tested a) (more (of_node apart b) (more (of_node apart d) none))
  in_form k (probe u a) = more (of_node (operand k) a) none

  pub of_nodes : NodeShapes → Outlines
  of_nodes no_nodes = none
  of_nodes (more_nodes a rest) = more (of_node (operand Read) a) (of_nodes rest)

-- in front of further parts, if there is one
abbrev pub and_maybe : Role → MaybeNode → Outlines → Outlines
and_maybe r no_node ts = ts
and_maybe r (one_node a) ts = more (of_node r a) ts

-- ---- declarations

-- a local variable with its initialiser, which is run if it is an expression
abbrev pub of_local : Option Named → MaybeInit → Outline
of_local x no_init = holding other (name x) none
of_local x (one_init (one a)) = holding parts.defined (name x) (more (of_node (operand Read) a) none)
of_local x (one_init (listed p list last)) = holding parts.defined (name x) none

abbrev pub of_locals : DeclaratorShapes → Outlines
of_locals no_declarators = none
of_locals (more_declarators (declarator stars x (arrays ls) i) rest) = more (of_local x i) (of_locals rest)
of_locals (more_declarators (declarator stars x (function ps) i) rest) = of_locals rest

-- in front of the statements of a block
abbrev pub and_declared : DeclShapes → Outlines → Outlines
and_declared no_decls ts = ts
and_declared (more_decls (decl p specs names) rest) ts = more (holding other (declaration (decl p specs names)) (of_locals names)) (and_declared rest ts)

-- parameters and variables outside of functions have a value from the beginning on
abbrev pub of_valued : DeclaratorShapes → Outlines
of_valued no_declarators = none
of_valued (more_declarators (declarator stars x (arrays ls) i) rest) = more (holding parts.defined (name x) none) (of_valued rest)
of_valued (more_declarators (declarator stars x (function ps) i) rest) = of_valued rest

abbrev pub of_outer : DeclShape → Outline
of_outer (decl p specs names) = holding other (declaration (decl p specs names)) (of_valued names)

abbrev pub and_outer : DeclShapes → Outlines → Outlines
and_outer no_decls ts = ts
and_outer (more_decls d rest) ts = more (of_outer d) (and_outer rest ts)

-- a function's parameters, in front of its body
abbrev pub and_parameters : DeclFormShape → Outlines → Outlines
and_parameters (function (params ds)) ts = and_outer ds ts
and_parameters (function empty) ts = ts
and_parameters (function void) ts = ts
and_parameters (arrays ls) ts = ts

-- ---- statements

abbrev mutual
  pub of_stmt : Role → StmtShape → Outline
  of_stmt r (stmt p marks q f) = holding r (statement (stmt p marks q f)) (in_body f)

  pub in_body : FormShape → Outlines
  in_body (compound b) = in_compound b
  in_body (simply e) = and_maybe (operand Read) e none
  in_body (when e a) = more (of_node tested e) (more (of_stmt controlled a) none)
  in_body (either e a b) = more (of_node tested e) (more (of_stmt controlled a) (more (of_stmt controlled b) none))
  in_body (while e a) = more (of_node tested_apart e) (more (of_stmt controlled a) none)
  in_body (do_while a e) = more (of_stmt controlled a) (more (of_node tested_apart e) none)
  in_body (for e f g a) = and_maybe (operand Read) e (and_maybe tested_apart f (and_maybe apart g (more (of_stmt controlled a) none)))
  in_body (switch e items) = more (of_node (chosen_by items) e) (of_items false items)
  in_body break = none
  in_body continue = none
  in_body (return e) = and_maybe (operand Read) e none

  pub in_compound : CompoundShape → Outlines
  in_compound (braces p ds items) = and_declared ds (of_items false items)

  pub of_items : Bool → ItemShapes → Outlines
  of_items after no_items = none
  of_items after (more_items labels a rest) = more (of_stmt (parts.listed after labels) a) (of_items (splits a) rest)

-- ---- units

abbrev pub of_external : ExternalShape → Outline
of_external (declared d) = of_outer d
of_external (defined specs (declarator stars x d i) marks c) = holding other (definition x) (and_parameters d (more (holding controlled (body c) (in_compound c)) none))

abbrev pub of_externals : List ExternalShape → Outlines
of_externals [] = none
of_externals (e ∷ rest) = more (of_external e) (of_externals rest)

abbrev pub of_unit : UnitShape → Outline
of_unit u = holding other (whole u) (of_externals u.externals)
