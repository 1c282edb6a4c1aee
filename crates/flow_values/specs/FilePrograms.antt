-- Programs: what typing takes for a constant initialiser has a value.
use Rattle.c_tree.specs.Programs.{IsProgram}
use Rattle.c_meaning.specs.Calls.{Source}
use Rattle.flow_values.specs.Initialised.{AreInitialised}
use Rattle.flow_values.specs.Programs.{ParametersHaveRows, ProgramConstantsHaveValues}

-- where each parameter has a row, as the walk counts them
abbrev pub ProgramsHaveConstants : Type 0
ProgramsHaveConstants = ParametersHaveRows → (P : Source) → IsProgram P.unit P.tables → ProgramConstantsHaveValues P

-- and so each string and each list that initialises a local variable gives it a value
abbrev pub RowsSuffice : Type 0
RowsSuffice = ParametersHaveRows → (P : Source) → IsProgram P.unit P.tables → AreInitialised P
