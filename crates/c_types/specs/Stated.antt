-- Parts of statements.
use Rattle.std.specs.Prelude.{ℕ, List, Option, Some, None, option_map}
use Rattle.std.specs.declared.boxed.Box.{Box}
use Rattle.std.specs.declared.alloc.Global.{Global}
use Rattle.c_syntax.specs.declared.tree.Stmt.{Stmt}
use Rattle.c_syntax.specs.Shape.{NodeShape, MaybeNode, LabelShape, StmtShape, FormShape, when, either}
use Rattle.c_syntax.specs.View.{stmt_shape}
use Rattle.c_tree.specs.State.{State, step, steps}
use Rattle.c_tree.specs.Rulings.{rule}
use Rattle.c_tree.specs.Sorts.{TypedNode, pos_in}
use Rattle.c_tree.specs.Typing.{type_node}
use Rattle.c_tree.specs.Stating.{Surroundings, Labels, TypedMaybe, TypedStmt, TypedLabels, switched, type_maybe, type_test, type_labels, type_stmt}

-- ---- what stands in the parentheses of a for

abbrev pub for_first : MaybeNode → State → TypedMaybe
for_first e s = type_maybe e (steps 2 s)

abbrev pub for_test : MaybeNode → MaybeNode → State → TypedMaybe
for_test e f s = type_test f (step (for_first e s).state)

abbrev pub for_last : MaybeNode → MaybeNode → MaybeNode → State → TypedMaybe
for_last e f g s = type_maybe g (step (for_test e f s).state)

-- ---- the value of a switch

abbrev pub switch_value : NodeShape → State → TypedNode
switch_value e s = type_node e (steps 2 s)

-- behind the brace, where the value began at that token
abbrev pub switch_begun : ℕ → TypedNode → State
switch_begun token t = steps 2 (rule (switched t) token (pos_in t.node) t.state)

-- ---- an else

abbrev pub maybe_stmt : Option (Box Stmt Global) → Option StmtShape
maybe_stmt o = option_map (λ s. stmt_shape s.value) o

abbrev pub if_shaped : NodeShape → StmtShape → Option StmtShape → FormShape
if_shaped e a None = when e a
if_shaped e a (Some b) = either e a b

pub record TypedElse : Type 0 where
  pub other : Option StmtShape
  pub state : State

abbrev pub an_else : TypedStmt → TypedElse
an_else t = record { other = Some t.stmt; state = t.state }

abbrev pub type_else : Surroundings → Option StmtShape → State → TypedElse
type_else c None s = record { other = None; state = s }
type_else c (Some a) s = an_else (type_stmt c a (step s))

-- ---- a statement with its labels

pub record TypedItem : Type 0 where
  pub labels : List LabelShape
  pub stmt : StmtShape
  pub so_far : Option Labels
  pub state : State

abbrev pub labelled : TypedLabels → TypedStmt → TypedItem
labelled l t = record { labels = l.labels; stmt = t.stmt; so_far = l.so_far; state = t.state }

abbrev pub type_item : Surroundings → Option Labels → List LabelShape → StmtShape → State → TypedItem
type_item c o labels a s = let l = type_labels o labels s in labelled l (type_stmt c a l.state)
