-- What is typed of a unit without its notes: what is typed of the unit.
use Rattle.std.specs.Prelude.{◌≡◌, List, Bool, Option}
use Rattle.c_syntax.specs.Shape.{UnitShape}
use Rattle.c_tree.specs.Units.{type_unit, bodies, typed_unit, complaints}
use Rattle.c_tree.specs.Unnoted.{bare_unit}
use Rattle.c_unnoted.specs.Written.{written_unit}

-- the notes in a unit stand only where typing writes some
abbrev pub Written : UnitShape → Type 0
Written u = written_unit u ≡ u

-- the same is known behind a unit without its notes and complained of, and its types are the same; where typing writes no notes, it has none
pub record SeesNoNote (known : Option (List Bool)) (u : UnitShape) : Type 0 where
  pub state : (type_unit known (bare_unit u)).state ≡ (type_unit known u).state
  pub unit : (type_unit known (bare_unit u)).unit ≡ written_unit (type_unit known u).unit

abbrev pub TypingSeesNoNote : Type 0
TypingSeesNoNote = (known : Option (List Bool)) (u : UnitShape) → SeesNoNote known u

-- what a unit without its notes has
pub record Unnoted (u : UnitShape) : Type 0 where
  pub bodies : bodies (bare_unit u) ≡ bodies u
  pub complaints : complaints (bare_unit u) ≡ complaints u
  pub typed : Written (typed_unit u).unit → typed_unit (bare_unit u) ≡ typed_unit u

abbrev pub UnnotedUnits : Type 0
UnnotedUnits = (u : UnitShape) → Unnoted u

-- what was typed of a unit without notes has notes only where typing writes some
abbrev pub TypedIsWritten : Type 0
TypedIsWritten = (known : Option (List Bool)) (u : UnitShape) → bare_unit u ≡ u → Written (type_unit known u).unit
