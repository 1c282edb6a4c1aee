-- Programs: units that were typed without complaint.
use Rattle.std.specs.Prelude.{◌≡◌, ◌≤◌, ℕ, List, [], length, Option, Some, None}
use Rattle.c_syntax.specs.declared.tree.ProgramLine.{ProgramLine}
use Rattle.c_syntax.specs.Shape.{UnitShape}
use Rattle.c_syntax.specs.Shaped.{ShapedUnit}
use Rattle.c_syntax.specs.Grammar.{tokens_of}
use Rattle.c_constants.specs.Probes.{digest_of}
use Rattle.c_tables.specs.Tables.{TablesShape}
use Rattle.c_tree.specs.Lexed.{AreLexed}
use Rattle.c_tree.specs.Units.{typed_unit, complaints}
use Rattle.c_tree.specs.Erased.{erased_unit}

-- the grammar allows the unit, and its tokens are some that a text gives
pub record IsSound (u : UnitShape) : Type 0 where
  pub shaped : ShapedUnit u
  pub lexed : AreLexed (tokens_of u)

-- the unit is a sound one with the notes that typing makes, so that typing changes nothing more; it gives these tables, and
-- complains of nothing
pub record IsProgram (u : UnitShape) (t : TablesShape) : Type 0 where
  pub source : UnitShape
  pub sound : IsSound source
  pub typed : u ≡ (typed_unit source).unit
  pub noted : (typed_unit u).unit ≡ u
  pub tables : (typed_unit u).state.tables ≡ t
  pub clean : complaints u ≡ []

-- as many tokens as a text may have
abbrev pub HasFewTokens : UnitShape → Type 0
HasFewTokens u = length (tokens_of u) ≤ 350000

-- the unit has few tokens; or it is a program of few tokens but for its probes and its program line, with the same tables
pub data IsLimited (u : UnitShape) (t : TablesShape) : Type 0 where
  itself : HasFewTokens u → IsLimited u t
  without_probes : IsProgram (erased_unit u) t → HasFewTokens (erased_unit u) → IsLimited u t

-- what a program holds
pub record HoldsProgram (u : UnitShape) (t : TablesShape) : Type 0 where
  pub program : IsProgram u t
  pub limited : IsLimited u t

-- the digest in the program line, if there is a line
abbrev pub digest_in : Option ProgramLine → Option (List ℕ)
digest_in None = None
digest_in (Some l) = digest_of l.digest
