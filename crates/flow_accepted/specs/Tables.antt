-- Programs of the checker: notes have the types of the tables' rows, no structure that lies in a variable lies in itself, and parameters are scalars.
use Rattle.c_syntax.specs.Shape.{UnitShape}
use Rattle.c_tables.specs.Tables.{TablesShape}
use Rattle.c_tree.specs.Programs.{IsProgram}
use Rattle.c_walk.specs.Units as units
use Rattle.c_meaning.specs.Calls.{Source}
use Rattle.flow_leaves.specs.KindedPrograms.{AreKindedExternals}
use Rattle.flow_leaves.specs.CellNames.{AreLayered}
use Rattle.flow_parts.specs.Parameters.{AreScalarParameters}

abbrev pub AcceptedIsKinded : Type 0
AcceptedIsKinded = (P : Source) → IsProgram P.unit P.tables → AreKindedExternals P.tables P.unit.externals

abbrev pub AcceptedIsLayered : Type 0
AcceptedIsLayered = (P : Source) → IsProgram P.unit P.tables → AreLayered P.tables

abbrev pub ProgramsHaveScalarParameters : Type 0
ProgramsHaveScalarParameters = (u : UnitShape) (t : TablesShape) → IsProgram u t → AreScalarParameters t u.externals units.no_items
