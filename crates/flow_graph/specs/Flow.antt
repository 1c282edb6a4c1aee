-- The rows for marks, by the rows of a graph.
use Rattle.std.specs.Prelude.{◌≡◌, List}
use Rattle.flow_walks.specs.declared.action.Action.{Action}
use Rattle.flow_walks.specs.Comes.{Met}
use Rattle.flow_walks.specs.Walks.{actions}
use Rattle.flow_rows.specs.Paths.{Graph, Spells}
use Rattle.flow_rows.specs.View.{met_of}
use Rattle.flow_rows.specs.declared.row.GraphRow.{GraphRow}
use Rattle.flow_marks.specs.declared.flow.FlowRow.{FlowRow}
use Rattle.flow_graph.specs.Graphs.{action_of}

abbrev pub flow_row : GraphRow → FlowRow
flow_row r = record { action = action_of (met_of r.met); next = r.next }

-- some path from row 0 spells these actions, if calls and the leaving of the body are left out
abbrev pub SpellsActions : Graph → List Action → Type 0
SpellsActions g v = (w : List Met) × Spells g 0 w × (actions w ≡ v)
