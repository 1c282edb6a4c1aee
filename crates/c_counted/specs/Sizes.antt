-- How many rows the tables have.
use Rattle.std.specs.Prelude.{ℕ, ◌+◌, ◌≤◌, List, [], ◌∷◌, length}
use Rattle.c_syntax.specs.Shape.{UnitShape}
use Rattle.c_syntax.specs.Grammar.{tokens_of}
use Rattle.c_tables.specs.Tables.{StructShape, TablesShape}
use Rattle.c_tree.specs.Units.{typed_unit}

abbrev pub field_count : List StructShape → ℕ
field_count [] = 0
field_count (s ∷ rest) = length s.fields + field_count rest

-- the structures and their fields, the functions, the variables and the literals
unfoldable pub row_count : TablesShape → ℕ
row_count t = length t.structures + field_count t.structures + length t.functions + length t.variables + length t.literals

-- all tables of a unit together have at most as many rows as the unit has tokens
abbrev pub TablesAreNoLarger : Type 0
TablesAreNoLarger = (u : UnitShape) → row_count (typed_unit u).state.tables ≤ length (tokens_of u)
