-- A program with its probes, behind a line with a digest, is a program again, with the same tables.
use Rattle.std.specs.Prelude.{◌≡◌, List, [], true, is_some}
use Rattle.c_syntax.specs.declared.text.Text.{Text}
use Rattle.c_syntax.specs.Shape.{UnitShape}
use Rattle.c_constants.specs.Probes.{digest_of}
use Rattle.c_tables.specs.Tables.{TablesShape}
use Rattle.c_tree.specs.Programs.{IsProgram}
use Rattle.c_tree.specs.Units.{typed_unit, complaints}
use Rattle.c_tree.specs.Unnoted.{bare_unit}
use Rattle.c_meaning.specs.Calls.{Source}
use Rattle.probe_rules.specs.Instrumented.{instrumented}
use Rattle.probe_rules.specs.Fitting.{HasFewItems}
use Rattle.probe_rules.specs.Simulation.{IsPlain, all_walked}

-- a digest that a program line may have
abbrev pub IsDigest : Text → Type 0
IsDigest digest = is_some (digest_of digest) ≡ true

-- a program without probes, of as few items as probes have numbers
pub record IsPlainProgram (P : Source) : Type 0 where
  pub program : IsProgram P.unit P.tables
  pub plain : IsPlain P
  pub few : HasFewItems (all_walked P)

-- the unit without its notes is typed as the unit, with these tables, and nothing is complained of
pub record IsTypedAs (u : UnitShape) (t : TablesShape) : Type 0 where
  pub unit : (typed_unit (bare_unit u)).unit ≡ u
  pub tables : (typed_unit (bare_unit u)).state.tables ≡ t
  pub clean : complaints (bare_unit u) ≡ []

-- with its probes, and typed without its notes, it has them again, with the same tables and no complaint
abbrev pub ProbedIsTypedAs : Type 0
ProbedIsTypedAs = (digest : Text) (P : Source) → IsDigest digest → IsPlainProgram P → IsTypedAs (instrumented digest P).unit P.tables

-- so it is a program
abbrev pub ProbedIsProgram : Type 0
ProbedIsProgram = (digest : Text) (P : Source) → IsDigest digest → IsPlainProgram P → IsProgram (instrumented digest P).unit P.tables
