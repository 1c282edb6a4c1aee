-- The walk of declarations, statements and units adds what is told of their trees.
use Rattle.std.proofs.Common.{ℕ, ◌||◌, List, [], ◌∷◌, Bool, false, Option}
use Rattle.c_syntax.specs.declared.tree.Named.{Named}
use Rattle.c_syntax.specs.Shape.{DeclShape, decl, DeclShapes, no_decls, more_decls, declarator, DeclaratorShapes, no_declarators, more_declarators, DeclFormShape, arrays, function, empty, void, params, MaybeInit, no_init, one_init, one, listed, StmtShape, stmt, FormShape, compound, simply, when, either, while, do_while, for, switch, break, continue, return, CompoundShape, braces, ItemShapes, no_items, more_items, ExternalShape, defined, declared}
use Rattle.c_tables.specs.Tables.{TablesShape}
use Rattle.c_tables.specs.Rows.{text_of}
use Rattle.c_walk.specs.declared.around.Around.{Around}
use Rattle.c_walk.specs.declared.around.Taken.TheVariants.{Read}
use Rattle.c_walk.specs.Walked.{Walked, with_block, with_block_if}
use Rattle.c_walk.specs.Walking.{walk_test, walk_maybe, walk_loop_test, walk_maybe_test, walk_step}
use Rattle.c_walk.specs.Stating.{with_variable, with_whole_def, walk_maybe_init, walk_declarators, walk_decls, splits, is_labelled, walk_choice, walk_body, walk_part, walk_compound, walk_items}
use Rattle.c_walk.specs.Units.{define_declarators, define_decl, define_decls, define_parameters, function_of, in_function, walk_external, walk_externals}
use Rattle.c_ordered.specs.Trees.{none}
use Rattle.c_ordered.specs.Parts.{controlled}
use Rattle.c_ordered.specs.Outlines.{Outlines, of_local, of_locals, and_declared, of_valued, of_outer, and_outer, and_parameters, of_stmt, in_body, in_compound, of_items, of_external, of_externals}
use Rattle.c_ordered.proofs.Adding.{Says, SaysAll, nothing, next, within}
use Rattle.c_ordered.proofs.Heads.{controlled_heads, body_heads, listed_heads, declaration_heads, name_heads, valued_heads, definition_heads}
use Rattle.c_ordered.proofs.Expressions.{node_says, tested_says, apart_test_says, maybe_says, maybe_test_says, step_says, choice_says}

-- ---- declarations

local_says : (t : TablesShape) (c : Around) (x : Option Named) (i : MaybeInit) (s : Walked) → Says t c s (walk_maybe_init t c x i (with_variable s)) (of_local x i)
local_says t c x no_init s = within (name_heads t c x s) nothing
local_says t c x (one_init (one a)) s = within (valued_heads t c x s) (next (node_says t c Read a (with_whole_def t c.function x (with_variable s))) nothing)
local_says t c x (one_init (listed p list last)) s = within (valued_heads t c x s) nothing

locals_say : (t : TablesShape) (c : Around) (ds : DeclaratorShapes) (s : Walked) → SaysAll t c s (walk_declarators t c ds s) (of_locals ds)
locals_say t c no_declarators s = nothing
locals_say t c (more_declarators (declarator stars x (arrays ls) i) rest) s = next (local_says t c x i s) (locals_say t c rest (walk_maybe_init t c x i (with_variable s)))
locals_say t c (more_declarators (declarator stars x (function ps) i) rest) s = locals_say t c rest s

declared_says : (t : TablesShape) (c : Around) (ds : DeclShapes) (s u : Walked) (ts : Outlines) → SaysAll t c (walk_decls t c ds s) u ts → SaysAll t c s u (and_declared ds ts)
declared_says t c no_decls s u ts h = h
declared_says t c (more_decls (decl p specs names) rest) s u ts h =
    next (within (declaration_heads t c (decl p specs names) s) (locals_say t c names s)) (declared_says t c rest (walk_declarators t c names s) u ts h)

valued_say : (t : TablesShape) (f : ℕ) (ds : DeclaratorShapes) (s : Walked) → SaysAll t (in_function f) s (define_declarators t f ds s) (of_valued ds)
valued_say t f no_declarators s = nothing
valued_say t f (more_declarators (declarator stars x (arrays ls) i) rest) s =
    next (within (valued_heads t (in_function f) x s) nothing) (valued_say t f rest (with_whole_def t f x (with_variable s)))
valued_say t f (more_declarators (declarator stars x (function ps) i) rest) s = valued_say t f rest s

outer_says : (t : TablesShape) (f : ℕ) (d : DeclShape) (s : Walked) → Says t (in_function f) s (define_decl t f d s) (of_outer d)
outer_says t f (decl p specs names) s = within (declaration_heads t (in_function f) (decl p specs names) s) (valued_say t f names s)

and_outer_says : (t : TablesShape) (f : ℕ) (ds : DeclShapes) (s u : Walked) (ts : Outlines) → SaysAll t (in_function f) (define_decls t f ds s) u ts → SaysAll t (in_function f) s u (and_outer ds ts)
and_outer_says t f no_decls s u ts h = h
and_outer_says t f (more_decls d rest) s u ts h = next (outer_says t f d s) (and_outer_says t f rest (define_decl t f d s) u ts h)

parameters_say : (t : TablesShape) (f : ℕ) (d : DeclFormShape) (s u : Walked) (ts : Outlines) → SaysAll t (in_function f) (define_parameters t f d s) u ts → SaysAll t (in_function f) s u (and_parameters d ts)
parameters_say t f (function (params ds)) s u ts h = and_outer_says t f ds s u ts h
parameters_say t f (function empty) s u ts h = h
parameters_say t f (function void) s u ts h = h
parameters_say t f (arrays ls) s u ts h = h

-- ---- statements

mutual
  body_says : (t : TablesShape) (c : Around) (f : FormShape) (s : Walked) → SaysAll t c s (walk_body t c f s) (in_body f)
  body_says t c (compound b) s = compound_says t c b s
  body_says t c (simply e) s = maybe_says t c e s (walk_maybe c e s) none nothing
  body_says t c (when e a) s = next (tested_says t c e s) (next (part_says t c a (walk_test c e s)) nothing)
  body_says t c (either e a b) s =
      let u = walk_test c e s in
      next (tested_says t c e s) (next (part_says t c a u) (next (part_says t c b (walk_part t c a u)) nothing))
  body_says t c (while e a) s = next (apart_test_says t c e s) (next (part_says t c a (walk_loop_test c e s)) nothing)
  body_says t c (do_while a e) s = next (part_says t c a s) (next (apart_test_says t c e (walk_part t c a s)) nothing)
  body_says t c (for e f g a) s =
      let u = walk_maybe c e s in
      let v = walk_maybe_test c f u in
      let w = walk_step c g v in
      maybe_says t c e s _ _ (maybe_test_says t c f u _ _ (step_says t c g v _ _ (next (part_says t c a w) nothing)))
  body_says t c (switch e items) s = next (choice_says t c e items s) (items_say t c false items (walk_choice c e items s))
  body_says t c break s = nothing
  body_says t c continue s = nothing
  body_says t c (return e) s = maybe_says t c e s (walk_maybe c e s) none nothing

  part_says : (t : TablesShape) (c : Around) (a : StmtShape) (s : Walked) → Says t c s (walk_part t c a s) (of_stmt controlled a)
  part_says t c (stmt p marks q f) s = within (controlled_heads t c p marks q f s) (body_says t c f (with_block p s))

  compound_says : (t : TablesShape) (c : Around) (b : CompoundShape) (s : Walked) → SaysAll t c s (walk_compound t c b s) (in_compound b)
  compound_says t c (braces p ds items) s = declared_says t c ds s _ _ (items_say t c false items (walk_decls t c ds s))

  items_say : (t : TablesShape) (c : Around) (after : Bool) (items : ItemShapes) (s : Walked) → SaysAll t c s (walk_items t c after items s) (of_items after items)
  items_say t c after no_items s = nothing
  items_say t c after (more_items labels (stmt p marks q f) rest) s =
      let u = with_block_if (after || is_labelled labels) p s in
      next (within (listed_heads t c after labels p marks q f s) (body_says t c f u)) (items_say t c (splits (stmt p marks q f)) rest (walk_body t c f u))

-- ---- units

external_says : (t : TablesShape) (e : ExternalShape) (s : Walked) → Says t (in_function 0) s (walk_external t e s) (of_external e)
external_says t (declared d) s = outer_says t 0 d s
external_says t (defined specs (declarator stars x d i) marks (braces p ds items)) s =
    let f = function_of t (text_of x) in
    let u = define_parameters t f d s in
    within (definition_heads t x s) (parameters_say t f d s _ _ (next (within (body_heads t (in_function f) p ds items u) (compound_says t (in_function f) (braces p ds items) (with_block p u))) nothing))

pub externals_say : (t : TablesShape) (es : List ExternalShape) (s : Walked) → SaysAll t (in_function 0) s (walk_externals t es s) (of_externals es)
externals_say t [] s = nothing
externals_say t (e ∷ rest) s = next (external_says t e s) (externals_say t rest (walk_external t e s))
