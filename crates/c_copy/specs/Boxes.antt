-- Optional parts in boxes as those of a shape.
use Rattle.std.specs.Prelude.{Option, Some, None}
use Rattle.std.specs.declared.boxed.Box.{Box}
use Rattle.std.specs.declared.alloc.Global.{Global}
use Rattle.c_syntax.specs.declared.tree.Node.{Node}
use Rattle.c_syntax.specs.declared.tree.Init.{Init}
use Rattle.c_syntax.specs.Shape.{MaybeNode, no_node, one_node, MaybeInit, no_init, one_init}
use Rattle.c_syntax.specs.View.{node_shape, init_shape}

abbrev pub boxed_init : Option (Box Init Global) → MaybeInit
boxed_init None = no_init
boxed_init (Some i) = one_init (init_shape i.value)

abbrev pub boxed_node : Option (Box Node Global) → MaybeNode
boxed_node None = no_node
boxed_node (Some n) = one_node (node_shape n.value)
