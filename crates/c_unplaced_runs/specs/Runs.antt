-- What a program does, and what it logs by itself, depends on no place.
use Rattle.std.specs.Prelude.{◌≡◌, ℕ, List}
use Rattle.c_syntax.specs.Shape.{UnitShape}
use Rattle.c_tables.specs.Tables.{TablesShape}
use Rattle.c_placing.specs.Unplaced.{EqualButForPlaces}
use Rattle.c_meaning.specs.Runs.{run}

-- programs of one set of tables that are equal but for places run alike
abbrev pub RunsSeeNoPlace : Type 0
RunsSeeNoPlace = (u v : UnitShape) (t : TablesShape) → EqualButForPlaces u v → (input : List ℕ) (limit : ℕ) → run (record { unit = u; tables = t }) input limit ≡ run (record { unit = v; tables = t }) input limit
