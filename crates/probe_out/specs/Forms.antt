-- The forms of expressions without their probes.
use Rattle.c_syntax.specs.Shape.{bare, NodeShape, node, ExprShape}
use Rattle.c_tables.specs.Rows.{first_place}
use Rattle.c_tree.specs.Erased.{erased_node}

abbrev pub form_of : NodeShape → ExprShape
form_of (node p o n f) = f

-- what is left of a form, wherever it stands
abbrev pub erased_expr : ExprShape → ExprShape
erased_expr f = form_of (erased_node (node first_place first_place bare f))
