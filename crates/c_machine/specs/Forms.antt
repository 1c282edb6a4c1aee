-- The expressions of loops, where the statements of a `switch` are begun, and types of variables.
use Rattle.std.specs.Prelude.{Bool, true, false, Option, Some, None}
use Rattle.std.specs.Borrow.{Bor}
use Rattle.c_syntax.specs.declared.tree.Node.{Node}
use Rattle.c_syntax.specs.Shape.{TypeOf, array, MaybeNode, no_node, one_node, FormShape, while, do_while, for}
use Rattle.c_syntax.specs.View.{node_shape}
use Rattle.c_meaning.specs.Statements.{Entry, at_case, at_default}
use Rattle.c_machine.specs.declared.entry.Entry as code
use Rattle.c_machine.specs.declared.entry.Entry.TheVariants as entry

-- the test of a loop, which a `for` may leave out
abbrev pub test_in : FormShape → Option MaybeNode
test_in (while e a) = Some (one_node e)
test_in (do_while a e) = Some (one_node e)
test_in (for e f g a) = Some f
test_in f = None

-- the last part of a `for`
abbrev pub step_in : FormShape → MaybeNode
step_in (for e f g a) = g
step_in f = no_node

-- an expression that the code has found, or none
abbrev pub found_node : Option (Bor Node) → MaybeNode
found_node None = no_node
found_node (Some e) = one_node (node_shape e.now)

-- where the statements of a `switch` are begun
abbrev pub entry_shape : code.Entry → Entry
entry_shape (entry.Case n) = at_case n
entry_shape entry.Default = at_default

-- it is an array
abbrev pub is_array_kind : Option TypeOf → Bool
is_array_kind (Some (array t n)) = true
is_array_kind k = false
