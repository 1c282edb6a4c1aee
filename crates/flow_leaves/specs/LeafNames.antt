-- The names of the cells of a direct place, and the leaf names that its site is listed with.
use Rattle.std.specs.Prelude.{Contains, Some}
use Rattle.c_syntax.specs.declared.text.Text.{Text}
use Rattle.c_tables.specs.Tables.{TablesShape}
use Rattle.c_walk.specs.Items.{Direct}
use Rattle.c_sites.specs.Names.{site_leaves}
use Rattle.flow_initial.specs.Lengths.{IsFilled, AreFilled}
use Rattle.flow_leaves.specs.CellNames.{cell_names}

-- each cell's name is one of the leaf names
abbrev pub CellNamesAreLeaves : Type 0
CellNamesAreLeaves = (t : TablesShape) (d : Direct) (m : Text) → Contains (cell_names t d.name d.kind) m → Contains (site_leaves t.structures (Some d)) m

-- and the other way round, where each array has an element
abbrev pub LeavesAreCellNames : Type 0
LeavesAreCellNames = (t : TablesShape) → AreFilled t → (d : Direct) → IsFilled d.kind → (m : Text) → Contains (site_leaves t.structures (Some d)) m → Contains (cell_names t d.name d.kind) m
