-- The forms of expressions by their parts.
use Rattle.c_syntax.specs.Shape.{ExprShape, leaf, paren, call, prefix, size_of_type, cast, suffix, two, choose, probe, index, field, behind}
use Rattle.c_types_expr.specs.declared.groups.Group.{Group}
use Rattle.c_types_expr.specs.declared.groups.Group.TheVariants.{Leaf, Single, Pair, Other}

abbrev pub group_of : ExprShape → Group
group_of (leaf l) = Leaf
group_of (paren a) = Single
group_of (call x args) = Other
group_of (prefix u a) = Single
group_of (size_of_type y) = Other
group_of (cast y a) = Other
group_of (suffix a (index b)) = Pair
group_of (suffix a (field h x q)) = Single
group_of (suffix a (behind u)) = Single
group_of (two u a b) = Pair
group_of (choose a b c) = Other
group_of (probe u a) = Single
