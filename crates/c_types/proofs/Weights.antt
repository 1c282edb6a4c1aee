-- How many statements a statement has, as a measure.
use Rattle.std.proofs.Common.{ℕ, ◌+◌, Option, Some, None}
use Rattle.c_syntax.specs.Shape.{StmtShape, stmt, FormShape, compound, simply, when, either, while, do_while, for, switch, break, continue, return, CompoundShape, braces, ItemShapes, no_items, more_items}

abbrev mutual
  pub stmt_weight : StmtShape → ℕ
  stmt_weight (stmt p marks q f) = 1 + form_weight f

  pub form_weight : FormShape → ℕ
  form_weight (compound b) = 1 + compound_weight b
  form_weight (simply e) = 1
  form_weight (when e a) = 1 + stmt_weight a
  form_weight (either e a b) = 1 + (stmt_weight a + stmt_weight b)
  form_weight (while e a) = 1 + stmt_weight a
  form_weight (do_while a e) = 1 + stmt_weight a
  form_weight (for e f g a) = 1 + stmt_weight a
  form_weight (switch e items) = 1 + items_weight items
  form_weight break = 1
  form_weight continue = 1
  form_weight (return e) = 1

  pub compound_weight : CompoundShape → ℕ
  compound_weight (braces p ds items) = 1 + items_weight items

  pub items_weight : ItemShapes → ℕ
  items_weight no_items = 1
  items_weight (more_items labels a rest) = 1 + (stmt_weight a + items_weight rest)

abbrev pub maybe_weight : Option StmtShape → ℕ
maybe_weight None = 0
maybe_weight (Some a) = stmt_weight a
