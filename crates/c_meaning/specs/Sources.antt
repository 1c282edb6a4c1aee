-- A program of the checker, as its meaning sees it.
use Rattle.c_syntax.specs.View.{unit_shape}
use Rattle.c_tree.specs.declared.program.Program.{Program}
use Rattle.c_tables.specs.Tables.{tables_shape}
use Rattle.c_meaning.specs.Calls.{Source}

abbrev pub source_of : Program → Source
source_of p = record { unit = unit_shape p.unit; tables = tables_shape p.tables }
