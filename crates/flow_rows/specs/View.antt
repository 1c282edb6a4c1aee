-- Rows as definitions see them.
use Rattle.std.specs.Prelude.{Option, Some, None, map}
use Rattle.flow_walks.specs.declared.action.Action.TheVariants as action
use Rattle.flow_walks.specs.Comes.{Met, act, enter, leave}
use Rattle.flow_rows.specs.Paths.{Row, Graph}
use Rattle.flow_rows.specs.declared.row.Step.{Step}
use Rattle.flow_rows.specs.declared.row.Step.TheVariants.{Act, Enter, Leave}
use Rattle.flow_rows.specs.declared.row.GraphRow.{GraphRow}
use Rattle.flow_rows.specs.declared.rows.Rows.{Rows}

abbrev pub met_of : Step → Option Met
met_of (Act action.Nothing) = None
met_of (Act a) = Some (act a)
met_of (Enter f) = Some (enter f)
met_of Leave = Some leave

abbrev pub row_of : GraphRow → Row
row_of r = record { met = met_of r.met; next = r.next.items }

abbrev pub rows_of : Rows → Graph
rows_of r = map row_of r.rows.items
