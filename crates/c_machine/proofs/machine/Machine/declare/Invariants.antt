use Rattle.std.proofs.Common.{◌≡◌, ◌≤◌, List}
use Rattle.c_events.specs.declared.events.Event.{Event}
use Rattle.c_syntax.specs.View.{item_list}
use Rattle.c_tables.specs.Tables.{tables_shape}
use Rattle.c_world.specs.Names.{scope_counts}
use Rattle.c_world.specs.World.{state_of}
use Rattle.c_plan.specs.Parts.{names_ahead}
use Rattle.c_machine.specs.Todo.{knot_of, block_flow}
use Rattle.c_machine.proofs.Declared.{name_total}
use Rattle.c_machine.proofs.machine.Machine.declare.Given as goal

abbrev pub invariant-loop-sequence : goal.invariant-loop-sequence
invariant-loop-sequence l =
    let t = tables_shape l.fn.plan.program.now.tables in
    let k = knot_of l.fn.plan.program.now in
    record {
      same : l.self ≡ l.fn.self;
      program : l.world.program.now ≡ l.fn.world.program.now;
      limit : l.world.limit ≡ l.fn.world.limit;
      counts : scope_counts l.world.names.calls ≡ scope_counts l.fn.world.names.calls;
      turns : l.world.turns ≤ l.fn.world.turns;
      left : (h : List Event) → block_flow t k (names_ahead l.block) (item_list l.block.items.now.items) l.block.before (state_of l.world h) ≡ block_flow t k (names_ahead l.fn.block) (item_list l.fn.block.items.now.items) l.fn.block.before (state_of l.fn.world h);
    }

abbrev pub decreases-loop-sequence : goal.decreases-loop-sequence
decreases-loop-sequence l = name_total (names_ahead l.block)
