use Rattle.std.proofs.Common.{◌≡◌, ◌≤◌, ◌+◌, ◌*◌, ℕ, List, drop, Bool, true}
use Rattle.c_events.specs.declared.events.Event.{Event}
use Rattle.c_syntax.specs.View.{item_list}
use Rattle.c_tables.specs.Tables.{tables_shape}
use Rattle.c_meaning.specs.Firsts.{quiet}
use Rattle.c_meaning.specs.Knot.{Knot}
use Rattle.c_meaning.specs.Statements.{items_flow, here}
use Rattle.c_world.specs.Names.{scope_counts}
use Rattle.c_world.specs.World.{state_of, Same}
use Rattle.c_machine_direct.specs.Forms.{are_direct}
use Rattle.c_machine_direct.proofs.Sizes.{form_parts, compound_parts, list_parts}
use Rattle.c_machine_direct.proofs.statements.+statements.Given as goal

abbrev pub invariant-items-loop-item : goal.invariant-items-loop-item
invariant-items-loop-item l = record {
  direct : are_direct (drop l.item-index l.items) ≡ true;
  is : (k : Knot) (h : List Event) (after : Bool) (n : ℕ) → (b : Bool) × (m : ℕ) × (items_flow (tables_shape l.tables) k here after (item_list l.items) (quiet n) (state_of l.fn.world h) ≡ items_flow (tables_shape l.tables) k here b (item_list (drop l.item-index l.items)) (quiet m) (state_of l.world h));
  counts : scope_counts l.world.names.calls ≡ scope_counts l.fn.world.names.calls;
  turns : l.world.turns ≤ l.fn.world.turns;
  same : Same l.fn.world l.world;
}

abbrev pub decreases-statement : goal.decreases-statement
decreases-statement a = 4 * form_parts a.stmt.now.form + 3

abbrev pub decreases-form : goal.decreases-form
decreases-form a = 4 * form_parts a.form.now + 2

abbrev pub decreases-compound : goal.decreases-compound
decreases-compound a = 4 * compound_parts a.body.now + 4

abbrev pub decreases-items : goal.decreases-items
decreases-items a = 4 * list_parts a.items.now + 2
