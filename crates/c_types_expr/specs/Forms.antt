-- Forms of expressions by themselves.
use Rattle.c_base.specs.declared.place.Pos.{Pos}
use Rattle.c_syntax.specs.Shape as shape
use Rattle.c_syntax.specs.Shape.{NodeShape, ProbeShape, simple, select, suffix, index, two}
use Rattle.c_tree.specs.State.{State, step}
use Rattle.c_tree.specs.Sorts.{Formed, formed, pos_in}
use Rattle.c_tree.specs.Operators.{left_of, right_of, sided, typed_index, typed_infix}
use Rattle.c_tree.specs.Typing.{type_node, type_probe, type_select}
use Rattle.c_types_expr.specs.declared.infix.Access.{Access}
use Rattle.c_types_expr.specs.declared.infix.Access.TheVariants.{Dot, Arrow}
use Rattle.c_types_expr.specs.declared.infix.Infix.{Infix}
use Rattle.c_types_expr.specs.declared.infix.Infix.TheVariants.{Plain, And, Or, Assign, Comma}

abbrev pub infix_of : Infix → shape.Infix
infix_of (Plain u) = shape.plain u
infix_of And = shape.and
infix_of Or = shape.or
infix_of (Assign u) = shape.assign u
infix_of Comma = shape.comma

abbrev pub access_of : Access → shape.Access
access_of Dot = shape.dot
access_of Arrow = shape.arrow

abbrev pub type_probing : Pos → ProbeShape → NodeShape → State → Formed
type_probing p (simple u x) a s = type_probe p u x a s
type_probing p (select x cs) a s = type_select p x cs a s

abbrev pub type_element : Pos → NodeShape → NodeShape → State → Formed
type_element o a b s =
    let t = type_node a s in
    let v = type_node b (step t.state) in
    formed (suffix t.node (index v.node)) (typed_index t.state.at o t.sort v.sort v.state)

abbrev pub type_two : Pos → shape.Infix → NodeShape → NodeShape → State → Formed
type_two o u a b s =
    let t = type_node a (sided (left_of u) s) in
    let v = type_node b (sided (right_of u t.sort.kind) (step t.state)) in
    formed (two u t.node v.node) (typed_infix t.state.at o s.at (pos_in a) u t.sort v.sort v.state)
