use Rattle.std.proofs.Common.{◌≡◌, false}
use Rattle.c_tables.specs.Tables.{TablesShape}
use Rattle.c_meaning.specs.State.{State}
use Rattle.c_meaning.specs.Firsts.{quiet}
use Rattle.c_meaning.specs.Knot.{Knot}
use Rattle.c_meaning.specs.Statements.{items_flow}
use Rattle.c_plan.specs.Parts.{items_left}
use Rattle.c_machine.specs.Forms.{entry_shape}
use Rattle.c_machine.proofs.Lists.{item_total}
use Rattle.c_machine.proofs.machine.Machine.list_from.Given as goal

abbrev pub invariant-loop-self : goal.invariant-loop-self
invariant-loop-self l = record {
  same : l.self ≡ l.fn.self;
  rest : (t : TablesShape) (k : Knot) (s : State) → items_flow t k (entry_shape l.entry) false (items_left l.sequence) (quiet l.sequence.before) s ≡ items_flow t k (entry_shape l.fn.entry) false (items_left l.fn.sequence) (quiet l.fn.sequence.before) s;
}

abbrev pub decreases-loop-self : goal.decreases-loop-self
decreases-loop-self l = item_total (items_left l.sequence)
