use Rattle.std.proofs.Common.{◌≡◌, ◌+◌, ◌*◌, ◌≤◌, length, take, drop}
use Rattle.c_type_rules.specs.Kinds.{type_in}
use Rattle.c_syntax.specs.View.{stmt_shape, form_shape, item_list, compound_shape}
use Rattle.c_tree.specs.Stating.{type_items}
use Rattle.c_checker.specs.CheckerView.{state_of}
use Rattle.c_types.specs.Around.{around}
use Rattle.c_types.specs.LabelsView.{labels_in}
use Rattle.c_types.specs.Stated.{maybe_stmt}
use Rattle.c_types.proofs.Weights.{stmt_weight, form_weight, compound_weight, items_weight, maybe_weight}
use Rattle.c_types.proofs.Listed.{before_items}
use Rattle.c_types.proofs.statements.+statement.Given as goal

abbrev pub decreases-type_stmt : goal.decreases-type_stmt
decreases-type_stmt l = 4 * stmt_weight (stmt_shape l.stmt.now)

abbrev pub decreases-type_form : goal.decreases-type_form
decreases-type_form l = 4 * form_weight (form_shape l.form.now)

abbrev pub decreases-type_block : goal.decreases-type_block
decreases-type_block l = 4 * compound_weight (compound_shape l.body.now) + 1

abbrev pub decreases-type_compound : goal.decreases-type_compound
decreases-type_compound l = 4 * compound_weight (compound_shape l.body.now)

abbrev pub decreases-type_if : goal.decreases-type_if
decreases-type_if l = 4 * (stmt_weight (stmt_shape l.first.now) + maybe_weight (maybe_stmt l.other.now)) + 2

abbrev pub decreases-type_else : goal.decreases-type_else
decreases-type_else l = 4 * maybe_weight (maybe_stmt l.other.now) + 1

abbrev pub decreases-type_while : goal.decreases-type_while
decreases-type_while l = 4 * stmt_weight (stmt_shape l.body.now) + 1

abbrev pub decreases-type_do : goal.decreases-type_do
decreases-type_do l = 4 * stmt_weight (stmt_shape l.body.now) + 1

abbrev pub decreases-type_for : goal.decreases-type_for
decreases-type_for l = 4 * stmt_weight (stmt_shape l.body.now) + 1

abbrev pub decreases-type_switch : goal.decreases-type_switch
decreases-type_switch l = 4 * items_weight (item_list l.items.now.items) + 2

abbrev pub decreases-type_items : goal.decreases-type_items
decreases-type_items l = 4 * items_weight (item_list l.items.now.items) + 1

abbrev pub decreases-type_item : goal.decreases-type_item
decreases-type_item l = 4 * stmt_weight (stmt_shape l.item.now.stmt) + 1

-- the statements that are left lead to the same
abbrev pub invariant-type_items-loop-i : goal.invariant-type_items-loop-i
invariant-type_items-loop-i l = record {
  same : before_items (take l.i l.items.items) (type_items (around l.jumps (type_in l.gives)) (labels_in l.labels) (item_list (drop l.i l.items.items)) (state_of l.checker)) ≡ type_items (around l.jumps (type_in l.gives)) (labels_in l.fn.labels) (item_list l.fn.items.items) (state_of l.fn.checker);
  left : items_weight (item_list (drop l.i l.items.items)) ≤ items_weight (item_list l.fn.items.items);
  count : length l.items.items ≡ l.i-end;
}
