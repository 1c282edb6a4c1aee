-- A statement of a list, behind one that splits the list or not; and what a switch chooses by.
use Rattle.std.specs.Prelude.{Bool, ◌||◌, map}
use Rattle.c_syntax.specs.declared.tree.Item.{Item}
use Rattle.c_syntax.specs.Shape.{NodeShape, ItemShapes}
use Rattle.c_syntax.specs.View.{label_shape, stmt_shape}
use Rattle.c_tables.specs.Tables.{TablesShape}
use Rattle.c_walk.specs.declared.around.Around.{Around}
use Rattle.c_walk.specs.declared.around.Taken.TheVariants.{Read}
use Rattle.c_walk.specs.Items.{cases}
use Rattle.c_walk.specs.Tests.{choosing, case_values}
use Rattle.c_walk.specs.Walked.{Walked, with_block_if, pos_of, inside, with_decision}
use Rattle.c_walk.specs.Counted.{next_block}
use Rattle.c_walk.specs.Stating.{is_labelled, pos_of_stmt, walk_stmt}
use Rattle.flow_walks.specs.declared.action.Action.TheVariants.{Block}
use Rattle.flow_walks.specs.Comes.{Comes, act, emit_if, value}
use Rattle.flow_walks.specs.Expressions.{node_goes}
use Rattle.flow_walks.specs.Statements.{Exits, stmt_goes}

-- with a label, or behind such a one, it is a block
abbrev pub begins : Bool → Item → Bool
begins after i = after || is_labelled (map label_shape i.labels.items)

abbrev pub item_goes : TablesShape → Around → Bool → Item → Walked → Exits → Comes
item_goes t c after i w x = emit_if (begins after i) (act (Block (next_block w))) (stmt_goes t c (stmt_shape i.stmt) (with_block_if (begins after i) (pos_of_stmt (stmt_shape i.stmt)) w) x)

abbrev pub walk_item : TablesShape → Around → Bool → Item → Walked → Walked
walk_item t c after i w = walk_stmt t c (stmt_shape i.stmt) (with_block_if (begins after i) (pos_of_stmt (stmt_shape i.stmt)) w)

-- the expression of a switch, a decision between the cases of these statements
abbrev pub choice_goes : TablesShape → Around → NodeShape → ItemShapes → Walked → Comes → Comes
choice_goes t c e items w k = node_goes t (inside c w) Read e (with_decision (pos_of e) (cases (case_values (choosing e) items)) w) (value k)
