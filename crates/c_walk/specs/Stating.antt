-- The items of declarations and statements (C89, 3.5 and 3.6), behind those before them.
use Rattle.std.specs.Prelude.{ℕ, suc, ◌+◌, ◌||◌, List, [], ◌∷◌, Bool, true, false, Option, option_map}
use Rattle.c_base.specs.declared.place.Pos.{Pos}
use Rattle.c_syntax.specs.declared.tree.Named.{Named}
use Rattle.c_syntax.specs.Shape.{NodeShape, DeclShape, decl, DeclShapes, no_decls, more_decls, DeclaratorShape, declarator, DeclaratorShapes, no_declarators, more_declarators, arrays, function, MaybeInit, no_init, one_init, InitShape, one, listed, LabelShape, case, default, StmtShape, stmt, FormShape, compound, simply, when, either, while, do_while, for, switch, break, continue, return, CompoundShape, braces, ItemShapes, no_items, more_items}
use Rattle.c_tables.specs.Tables.{TablesShape, VariableShape}
use Rattle.c_tables.specs.Rows.{row, first_place, name_pos}
use Rattle.c_walk.specs.Items.{Direct, def, cases}
use Rattle.c_walk.specs.Tests.{choosing, case_values}
use Rattle.c_walk.specs.declared.around.Around.{Around}
use Rattle.c_walk.specs.declared.around.Taken.TheVariants.{Read}
use Rattle.c_walk.specs.Walked.{Walked, with_item, with_block, with_block_if, pos_of, inside, with_decision}
use Rattle.c_walk.specs.Walking.{walk_node, walk_test, walk_maybe, walk_loop_test, walk_maybe_test, walk_step}

-- ---- declared names

-- a variable as a whole
abbrev pub whole_of : ℕ → VariableShape → Direct
whole_of n v = record { variable = n; name = v.name; kind = v.kind }

abbrev pub whole : TablesShape → ℕ → Option Direct
whole t n = option_map (whole_of n) (row t.variables n)

-- the next variable is declared
abbrev pub with_variable : Walked → Walked
with_variable s = record s { variables = s.variables + 1 }

-- it is defined, at its name, in the function with that number or in none
abbrev pub with_whole_def : TablesShape → ℕ → Option Named → Walked → Walked
with_whole_def t f x s = with_item (def (name_pos first_place x) f (whole t s.variables)) s

-- nothing in braces counts
abbrev pub walk_init : Around → InitShape → Walked → Walked
walk_init c (one a) s = walk_node c Read a s
walk_init c (listed p items last) s = s

abbrev pub walk_maybe_init : TablesShape → Around → Option Named → MaybeInit → Walked → Walked
walk_maybe_init t c x no_init s = s
walk_maybe_init t c x (one_init i) s = walk_init c i (with_whole_def t c.function x s)

-- a local declarator is a definition where it has an initialiser; one of a function declares no variable
abbrev pub walk_declarator : TablesShape → Around → DeclaratorShape → Walked → Walked
walk_declarator t c (declarator stars x (arrays ls) i) s = walk_maybe_init t c x i (with_variable s)
walk_declarator t c (declarator stars x (function ps) i) s = s

abbrev pub walk_declarators : TablesShape → Around → DeclaratorShapes → Walked → Walked
walk_declarators t c no_declarators s = s
walk_declarators t c (more_declarators d rest) s = walk_declarators t c rest (walk_declarator t c d s)

abbrev pub walk_decl : TablesShape → Around → DeclShape → Walked → Walked
walk_decl t c (decl p specs names) s = walk_declarators t c names s

abbrev pub walk_decls : TablesShape → Around → DeclShapes → Walked → Walked
walk_decls t c no_decls s = s
walk_decls t c (more_decls d rest) s = walk_decls t c rest (walk_decl t c d s)

-- ---- statements

abbrev pub pos_of_stmt : StmtShape → Pos
pos_of_stmt (stmt p marks q f) = p

-- what stands behind it in a list is a block: a compound, `if`, loop, `switch`, `break`, `continue` or `return`
abbrev pub splits_form : FormShape → Bool
splits_form (simply e) = false
splits_form _ = true

abbrev pub splits : StmtShape → Bool
splits (stmt p marks q f) = splits_form f

-- ---- labels

abbrev pub is_labelled : List LabelShape → Bool
is_labelled [] = false
is_labelled (l ∷ ls) = true

abbrev pub case_count : List LabelShape → ℕ
case_count [] = 0
case_count (case p a ∷ labels) = suc (case_count labels)
case_count (default p ∷ labels) = case_count labels

abbrev pub has_default : List LabelShape → Bool
has_default [] = false
has_default (case p a ∷ labels) = has_default labels
has_default (default p ∷ labels) = true

-- the test of a switch is a decision between its cases
abbrev pub walk_choice : Around → NodeShape → ItemShapes → Walked → Walked
walk_choice c e items s = walk_node (inside c s) Read e (with_decision (pos_of e) (cases (case_values (choosing e) items)) s)

abbrev mutual
  pub walk_stmt : TablesShape → Around → StmtShape → Walked → Walked
  walk_stmt t c (stmt p marks q f) s = walk_body t c f s

  pub walk_body : TablesShape → Around → FormShape → Walked → Walked
  walk_body t c (compound b) s = walk_compound t c b s
  walk_body t c (simply e) s = walk_maybe c e s
  walk_body t c (when e a) s = walk_part t c a (walk_test c e s)
  walk_body t c (either e a b) s = walk_part t c b (walk_part t c a (walk_test c e s))
  walk_body t c (while e a) s = walk_part t c a (walk_loop_test c e s)
  walk_body t c (do_while a e) s = walk_loop_test c e (walk_part t c a s)
  walk_body t c (for e f g a) s = walk_part t c a (walk_step c g (walk_maybe_test c f (walk_maybe c e s)))
  walk_body t c (switch e items) s = walk_items t c false items (walk_choice c e items s)
  walk_body t c break s = s
  walk_body t c continue s = s
  walk_body t c (return e) s = walk_maybe c e s

  -- a substatement of `if`, `else` or a loop, which is a block
  pub walk_part : TablesShape → Around → StmtShape → Walked → Walked
  walk_part t c (stmt p marks q f) s = walk_body t c f (with_block p s)

  pub walk_compound : TablesShape → Around → CompoundShape → Walked → Walked
  walk_compound t c (braces p ds items) s = walk_items t c false items (walk_decls t c ds s)

  -- statements in a list, the first one behind a statement that splits it or not. One with a label is a block too
  pub walk_items : TablesShape → Around → Bool → ItemShapes → Walked → Walked
  walk_items t c after no_items s = s
  walk_items t c after (more_items labels a rest) s =
      walk_items t c (splits a) rest (walk_stmt t c a (with_block_if (after || is_labelled labels) (pos_of_stmt a) s))
