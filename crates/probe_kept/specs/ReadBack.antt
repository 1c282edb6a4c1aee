-- The text that is written of a program with its probes is read as that program but for places, with its tables.
use Rattle.std.specs.Prelude.{ℕ, List}
use Rattle.c_syntax.specs.declared.text.Text.{Text}
use Rattle.c_syntax.specs.Shape.{UnitShape}
use Rattle.c_lex.specs.declared.lexer.TextKind.TheVariants.{Probed}
use Rattle.c_tables.specs.Tables.{TablesShape}
use Rattle.c_front.specs.Front.{IsRead, program}
use Rattle.c_meaning.specs.Calls.{Source}
use Rattle.c_placing.specs.Unplaced.{EqualButForPlaces}
use Rattle.probe_rules.specs.Instrumented.{instrumented}
use Rattle.probe_programs.specs.Programs.{IsDigest, IsPlainProgram}
use Rattle.probe_text.specs.Text.{Fits, text_in}

-- the text is read, as one with probes, as this unit but for its places, with these tables
pub record ReadsAs (source : List ℕ) (u : UnitShape) (t : TablesShape) : Type 0 where
  pub unit : UnitShape
  pub equal : EqualButForPlaces unit u
  pub read : IsRead Probed source (program unit t)

-- what is written of a program with its probes, within the limits, reads back
abbrev pub WrittenReadsBack : Type 0
WrittenReadsBack = (digest : Text) (P : Source) → IsDigest digest → IsPlainProgram P →
    let Q = instrumented digest P in
    Fits Q.unit → ReadsAs (text_in Q.unit) Q.unit P.tables
