use Rattle.std.proofs.Common.{take, false, ◌≡◌}
use Rattle.c_tables.specs.Tables.{tables_shape}
use Rattle.flow_rows.specs.View.{rows_of}
use Rattle.flow_rows.proofs.Runs.{RunPlaced}
use Rattle.flow_rows.proofs.Listed.{after_of, items_run}
use Rattle.flow_rows.proofs.Choices.{ChoicesPlaced}
use Rattle.flow_rows.proofs.statements.+stating.Given as goal

abbrev pub invariant-lay_items-loop-item : goal.invariant-lay_items-loop-item
invariant-lay_items-loop-item l =
    RunPlaced (items_run (tables_shape l.tables) l.to) (rows_of l.fn.out.rows) (rows_of l.out.rows) l.fn.out.numbers l.out.numbers l.at l.entry (take l.item-index l.items)
    × (l.after ≡ after_of false (take l.item-index l.items))

abbrev pub invariant-lay_choices-loop-item : goal.invariant-lay_choices-loop-item
invariant-lay_choices-loop-item l =
    ChoicesPlaced (tables_shape l.tables) l.to l.decision (rows_of l.fn.out.rows) (rows_of l.out.rows) l.fn.out.numbers l.out.numbers l.at l.start l.entry l.choices.cases.at l.choices.cases.order l.choices.default (take l.item-index l.items)
    × (l.after ≡ after_of false (take l.item-index l.items))
