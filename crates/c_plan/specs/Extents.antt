-- How many statements and variables stand in each statement, listed in the order of the source.
use Rattle.std.specs.Prelude.{◌≡◌, ℕ, suc, List, [], ◌∷◌, ◌++◌, length, take}
use Rattle.c_syntax.specs.Shape.{StmtShape, stmt, FormShape, compound, when, either, while, do_while, for, switch, CompoundShape, braces, ItemShapes, no_items, more_items}
use Rattle.c_meaning.specs.Counts.{form_variables, compound_variables}
use Rattle.c_plan.specs.declared.extent.Extent.{Extent}

-- of what has these statements in it, and declares so many variables
abbrev pub around : List Extent → ℕ → List Extent
around inner n = record { statements = suc (length inner); variables = n } ∷ inner

abbrev mutual
  pub stmt_extents : StmtShape → List Extent
  stmt_extents (stmt p marks q f) = around (form_extents f) (form_variables f)

  pub form_extents : FormShape → List Extent
  form_extents (compound c) = compound_extents c
  form_extents (when e a) = stmt_extents a
  form_extents (either e a b) = stmt_extents a ++ stmt_extents b
  form_extents (while e a) = stmt_extents a
  form_extents (do_while a e) = stmt_extents a
  form_extents (for e f g a) = stmt_extents a
  form_extents (switch e items) = items_extents items
  form_extents f = []

  pub compound_extents : CompoundShape → List Extent
  compound_extents (braces p ds items) = items_extents items

  pub items_extents : ItemShapes → List Extent
  items_extents no_items = []
  items_extents (more_items labels a rest) = stmt_extents a ++ items_extents rest

-- of a function's body
abbrev pub body_extents : CompoundShape → List Extent
body_extents c = around (compound_extents c) (compound_variables c)

-- the second list begins with the first
abbrev pub Begins : List Extent → List Extent → Type 0
Begins front all = take (length front) all ≡ front
