use Rattle.std.proofs.Common.{◌≡◌, ◌+◌, ◌*◌, ◌≤◌, length}
use Rattle.c_syntax.specs.View.{item_list}
use Rattle.c_syntax.specs.Levels.{items_height}
use Rattle.c_grammar_stmt.specs.StmtParts.{ItemsFrom}
use Rattle.c_parse_stmt.proofs.stmt.+statements.Given as goal

abbrev pub decreases-read_statement : goal.decreases-read_statement
decreases-read_statement l = 8 * length l.input.now + 3

abbrev pub decreases-read_form : goal.decreases-read_form
decreases-read_form l = 8 * length l.input.now + 2

abbrev pub decreases-read_if : goal.decreases-read_if
decreases-read_if l = 8 * length l.input.now + 4

abbrev pub decreases-read_while : goal.decreases-read_while
decreases-read_while l = 8 * length l.input.now + 4

abbrev pub decreases-read_do : goal.decreases-read_do
decreases-read_do l = 8 * length l.input.now + 4

abbrev pub decreases-read_for : goal.decreases-read_for
decreases-read_for l = 8 * length l.input.now + 4

abbrev pub decreases-read_switch : goal.decreases-read_switch
decreases-read_switch l = 8 * length l.input.now + 4

abbrev pub decreases-read_item : goal.decreases-read_item
decreases-read_item l = 8 * length l.input.now + 4

abbrev pub decreases-read_items : goal.decreases-read_items
decreases-read_items l = 8 * length l.input.now + 5

abbrev pub decreases-read_compound : goal.decreases-read_compound
decreases-read_compound l = 8 * length l.input.now + 6

abbrev pub invariant-read_items-loop-alloc : goal.invariant-read_items-loop-alloc
invariant-read_items-loop-alloc l = record {
  low : l.levels + l.depth ≤ 400;
  measured : l.levels ≡ items_height (item_list l.items.items);
  no_longer : length l.rest ≤ length l.input;
  on : ItemsFrom l.depth l.items.items l.input l.rest;
}

abbrev pub decreases-read_items-loop-alloc : goal.decreases-read_items-loop-alloc
decreases-read_items-loop-alloc l = length l.rest
