-- The written text runs as the program: it is read as the program with its probes but for places, and a run sees no place.
use Rattle.std.proofs.Common.{◌∙◌}
use Rattle.c_lex.specs.declared.lexer.TextKind.TheVariants.{Probed}
use Rattle.c_front.proofs.One.{is_one}
use Rattle.c_unplaced_runs.proofs.Runs.{runs_see_no_place}
use Rattle.probe_rules.specs.Instrumented.{instrumented}
use Rattle.probe_rules.proofs.Simulation.{simulates}
use Rattle.probe_laws.proofs.Laws.{program_fits}
use Rattle.probe_text.specs.Text.{text_in}
use Rattle.probe_kept.proofs.ReadBack.{written_reads_back}
use Rattle.probe_kept.specs.Kept.{KeptRunsAsProgram}

pub kept_runs : KeptRunsAsProgram
kept_runs digest P spelled is fits =
    let Q = instrumented digest P in
    let r = written_reads_back digest P spelled is fits in
    record {
      unit = r.unit;
      read = r.read;
      alone = λ other read. (is_one Probed (text_in Q.unit)).program_alone r.unit P.tables other r.read read;
      runs = λ input limit. runs_see_no_place r.unit Q.unit P.tables r.equal input limit ∙ simulates digest P is.plain (program_fits P is.program is.plain) is.few input limit;
    }
