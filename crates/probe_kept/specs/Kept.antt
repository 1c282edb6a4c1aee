-- What the written text of a program with its probes does: it is read in one way, and runs as the program.
use Rattle.std.specs.Prelude.{◌≡◌, ℕ, List}
use Rattle.c_syntax.specs.declared.text.Text.{Text}
use Rattle.c_syntax.specs.Shape.{UnitShape}
use Rattle.c_lex.specs.declared.lexer.TextKind.TheVariants.{Probed}
use Rattle.c_front.specs.Front.{Understanding, program, IsRead}
use Rattle.c_meaning.specs.Calls.{Source}
use Rattle.probe_rules.specs.Instrumented.{instrumented}
use Rattle.probe_rules.specs.Simulation.{Simulates}
use Rattle.probe_text.specs.Text.{Fits, text_in}
use Rattle.probe_programs.specs.Programs.{IsDigest, IsPlainProgram}

-- the text is read as one program with probes alone, which has the program's tables, does what the program does, and logs its events
pub record RunsAs (source : List ℕ) (P : Source) : Type 0 where
  pub unit : UnitShape
  pub read : IsRead Probed source (program unit P.tables)
  pub alone : (other : Understanding) → IsRead Probed source other → other ≡ program unit P.tables
  pub runs : Simulates (record { unit = unit; tables = P.tables }) P

-- so does what is written of a program with its probes, within the limits
abbrev pub KeptRunsAsProgram : Type 0
KeptRunsAsProgram = (digest : Text) (P : Source) → IsDigest digest → IsPlainProgram P →
    let Q = instrumented digest P in
    Fits Q.unit → RunsAs (text_in Q.unit) P
