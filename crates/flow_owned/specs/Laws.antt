-- In each program of the checker names of variables are their rows' own, and the fields of a structure have names of their own.
use Rattle.c_tree.specs.Programs.{IsProgram}
use Rattle.c_syntax.specs.Shape.{UnitShape}
use Rattle.c_tables.specs.Tables.{TablesShape}
use Rattle.flow_owned.specs.Own.{AreOwnExternals}
use Rattle.flow_owned.specs.Fields.{HaveApartFields}

abbrev pub ProgramsOwnTheirNames : Type 0
ProgramsOwnTheirNames = (u : UnitShape) (t : TablesShape) → IsProgram u t → AreOwnExternals t.variables u.externals

abbrev pub ProgramsHaveApartFields : Type 0
ProgramsHaveApartFields = (u : UnitShape) (t : TablesShape) → IsProgram u t → HaveApartFields t
