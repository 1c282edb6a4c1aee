-- What declarations and statements meet (C89, 3.5 and 3.6).
use Rattle.std.specs.Prelude.{ℕ, suc, ◌+◌, ◌||◌, List, [], ◌∷◌, Bool, false, length}
use Rattle.c_syntax.specs.declared.tree.Named.{Named}
use Rattle.std.specs.Prelude.{Option}
use Rattle.c_syntax.specs.Shape.{one_node, DeclShape, decl, DeclShapes, no_decls, more_decls, DeclaratorShape, declarator, DeclaratorShapes, no_declarators, more_declarators, arrays, function, MaybeInit, no_init, one_init, InitShape, one, listed, LabelShape, case, default, StmtShape, stmt, FormShape, compound, simply, when, either, while, do_while, for, switch, break, continue, return, CompoundShape, braces, ItemShapes, no_items, more_items}
use Rattle.c_tables.specs.Tables.{TablesShape}
use Rattle.c_walk.specs.declared.around.Around.{Around}
use Rattle.c_walk.specs.declared.around.Taken.TheVariants.{Read}
use Rattle.c_walk.specs.Items.{cases}
use Rattle.c_walk.specs.Tests.{choosing, case_values}
use Rattle.c_walk.specs.Walked.{Walked, with_block, with_block_if, pos_of, next_decision, inside, with_decision}
use Rattle.c_walk.specs.Counted.{next_block, next_def}
use Rattle.c_walk.specs.Walking.{walk_test, walk_maybe, walk_loop_test, walk_maybe_test, walk_step}
use Rattle.c_walk.specs.Stating.{with_variable, with_whole_def, walk_declarator, walk_decl, walk_decls, splits, is_labelled, case_count, has_default, pos_of_stmt, walk_choice, walk_stmt, walk_part}
use Rattle.flow_walks.specs.declared.action.Action.TheVariants.{Define, Block, Test, Kill}
use Rattle.flow_walks.specs.Comes as set
use Rattle.flow_walks.specs.Comes.{Comes, act, emit, emit_if, choice, loop, value}
use Rattle.flow_walks.specs.Expressions.{node_goes, test_goes, maybe_goes, loop_test_goes, step_goes}

-- ---- declarations

-- the variable is defined behind its initial value; nothing in braces is met
abbrev pub init_goes : TablesShape → Around → Option Named → InitShape → Walked → Comes → Comes
init_goes t c x (one a) s k = node_goes t c Read a (with_whole_def t c.function x s) (value (emit (act (Define (next_def s))) k))
init_goes t c x (listed p items last) s k = emit (act (Define (next_def s))) k

abbrev pub maybe_init_goes : TablesShape → Around → Option Named → MaybeInit → Walked → Comes → Comes
maybe_init_goes t c x no_init s k = k
maybe_init_goes t c x (one_init i) s k = init_goes t c x i s k

-- what was defined of a local variable ends where it is declared
abbrev pub declarator_goes : TablesShape → Around → DeclaratorShape → Walked → Comes → Comes
declarator_goes t c (declarator stars x (arrays ls) i) s k = emit (act (Kill (with_variable s).variables)) (maybe_init_goes t c x i (with_variable s) k)
declarator_goes t c (declarator stars x (function ps) i) s k = k

abbrev pub declarators_go : TablesShape → Around → DeclaratorShapes → Walked → Comes → Comes
declarators_go t c no_declarators s k = k
declarators_go t c (more_declarators d rest) s k = declarator_goes t c d s (declarators_go t c rest (walk_declarator t c d s) k)

abbrev pub decl_goes : TablesShape → Around → DeclShape → Walked → Comes → Comes
decl_goes t c (decl p specs names) s k = declarators_go t c names s k

abbrev pub decls_go : TablesShape → Around → DeclShapes → Walked → Comes → Comes
decls_go t c no_decls s k = k
decls_go t c (more_decls d rest) s k = decl_goes t c d s (decls_go t c rest (walk_decl t c d s) k)

-- ---- statements

-- what comes behind a statement: behind its end, behind a `break`, behind a `continue`, and behind a `return`
pub record Exits : Type 1 where
  pub next : Comes
  pub broken : Comes
  pub continued : Comes
  pub returned : Comes

-- within a loop that goes on there, and within a switch
abbrev pub in_loop : Comes → Exits → Exits
in_loop again x = record { next = again; broken = x.next; continued = again; returned = x.returned }

abbrev pub in_switch : Exits → Exits
in_switch x = record { next = x.next; broken = x.next; continued = x.continued; returned = x.returned }

abbrev pub then_goes : Comes → Exits → Exits
then_goes k x = record { next = k; broken = x.broken; continued = x.continued; returned = x.returned }

-- each case of these labels, from that number on, leads there; or else
abbrev pub cases_go : ℕ → ℕ → List LabelShape → Comes → Comes → Comes
cases_go d o [] there k = k
cases_go d o (case p a ∷ labels) there k = set.either (emit (act (Test d o)) there) (cases_go d (suc o) labels there k)
cases_go d o (default p ∷ labels) there k = cases_go d o labels there k

abbrev mutual
  pub stmt_goes : TablesShape → Around → StmtShape → Walked → Exits → Comes
  stmt_goes t c (stmt p marks q f) s x = body_goes t c f s x

  pub body_goes : TablesShape → Around → FormShape → Walked → Exits → Comes
  body_goes t c (compound b) s x = compound_goes t c b s x
  body_goes t c (simply e) s x = maybe_goes t c e s x.next
  body_goes t c (when e a) s x = test_goes t c e s (part_goes t c a (walk_test c e s) x) x.next
  body_goes t c (either e a b) s x =
      let j = walk_test c e s in
      test_goes t c e s (part_goes t c a j x) (part_goes t c b (walk_part t c a j) x)
  body_goes t c (while e a) s x = loop (λ again. loop_test_goes t c (one_node e) s (part_goes t c a (walk_loop_test c e s) (in_loop again x)) x.next)
  body_goes t c (do_while a e) s x = loop (λ again. part_goes t c a s (in_loop (loop_test_goes t c (one_node e) (walk_part t c a s) again x.next) x))
  body_goes t c (for e f g a) s x =
      let j = walk_maybe c e s in
      let k = walk_maybe_test c f j in
      maybe_goes t c e s (loop (λ again. loop_test_goes t c f j (part_goes t c a (walk_step c g k) (in_loop (step_goes t c g k again) x)) x.next))
  -- at a case, from its statement on; else at the default, or behind the switch
  body_goes t c (switch e items) s x =
      let j = walk_choice c e items s in
      let d = next_decision s in
      let values = case_values (choosing e) items in
      node_goes t (inside c s) Read e (with_decision (pos_of e) (cases values) s) (value (
      at_cases t c d 1 false items j (in_switch x) (emit (act (Test d (suc (length values)))) (at_default t c false items j (in_switch x)))))
  body_goes t c break s x = x.broken
  body_goes t c continue s x = x.continued
  body_goes t c (return e) s x = maybe_goes t c e s x.returned

  -- a substatement of `if`, `else` or a loop, which is a block
  pub part_goes : TablesShape → Around → StmtShape → Walked → Exits → Comes
  part_goes t c (stmt p marks q f) s x = emit (act (Block (next_block s))) (body_goes t c f (with_block p s) x)

  pub compound_goes : TablesShape → Around → CompoundShape → Walked → Exits → Comes
  compound_goes t c (braces p ds items) s x = decls_go t c ds s (items_go t c false items (walk_decls t c ds s) x)

  -- statements in a list, the first one behind a statement that splits it or not; one with a label is a block too
  pub items_go : TablesShape → Around → Bool → ItemShapes → Walked → Exits → Comes
  items_go t c after no_items s x = x.next
  items_go t c after (more_items labels a rest) s x =
      let b = after || is_labelled labels in
      let j = with_block_if b (pos_of_stmt a) s in
      emit_if b (act (Block (next_block s))) (stmt_goes t c a j (then_goes (items_go t c (splits a) rest (walk_stmt t c a j) x) x))

  -- at one of their cases, of which the first has that number; or else
  pub at_cases : TablesShape → Around → ℕ → ℕ → Bool → ItemShapes → Walked → Exits → Comes → Comes
  at_cases t c d o after no_items s x k = k
  at_cases t c d o after (more_items labels a rest) s x k =
      let b = after || is_labelled labels in
      let j = with_block_if b (pos_of_stmt a) s in
      let there = emit_if b (act (Block (next_block s))) (stmt_goes t c a j (then_goes (items_go t c (splits a) rest (walk_stmt t c a j) x) x)) in
      cases_go d o labels there (at_cases t c d (o + case_count labels) (splits a) rest (walk_stmt t c a j) x k)

  -- at their default; where there is none, behind them all
  pub at_default : TablesShape → Around → Bool → ItemShapes → Walked → Exits → Comes
  at_default t c after no_items s x = x.next
  at_default t c after (more_items labels a rest) s x =
      let b = after || is_labelled labels in
      let j = with_block_if b (pos_of_stmt a) s in
      choice (has_default labels)
      (emit_if b (act (Block (next_block s))) (stmt_goes t c a j (then_goes (items_go t c (splits a) rest (walk_stmt t c a j) x) x)))
      (at_default t c (splits a) rest (walk_stmt t c a j) x)
