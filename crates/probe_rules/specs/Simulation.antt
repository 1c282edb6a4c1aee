-- A program with its probes prints what the program prints, ends or faults as it does, in as many turns, and logs what it does.
use Rattle.std.specs.Prelude.{◌≡◌, ℕ, List, [], None}
use Rattle.c_syntax.specs.declared.text.Text.{Text}
use Rattle.c_walk.specs.Walked.{Walked}
use Rattle.c_walk.specs.Units.{walk_externals, no_items}
use Rattle.c_sites_probes.specs.Marked.{unit_mark}
use Rattle.c_meaning.specs.Calls.{Source}
use Rattle.c_meaning.specs.Deeds.{told}
use Rattle.c_meaning.specs.Runs.{Outcome, run, run_heard}
use Rattle.probe_rules.specs.Instrumented.{instrumented}
use Rattle.probe_rules.specs.Fitting.{IsFitUnit, HasFewItems}

-- the events that are told of a run, as a log
abbrev pub as_logged : Outcome → Outcome
as_logged o = record o { deeds = []; log = told o.deeds }

-- all that is counted in a program
abbrev pub all_walked : Source → Walked
all_walked P = walk_externals P.tables P.unit.externals no_items

abbrev pub Simulates : Source → Source → Type 0
Simulates Q P = (input : List ℕ) (limit : ℕ) → run Q input limit ≡ as_logged (run_heard P input limit)

-- neither a probe nor a program line stands in it
abbrev pub IsPlain : Source → Type 0
IsPlain P = unit_mark P.unit ≡ None

-- so it is of every plain program in which each part fits, and whose items have numbers that probes may have
abbrev pub InstrumentedSimulates : Type 0
InstrumentedSimulates = (digest : Text) (P : Source) → IsPlain P → IsFitUnit P.unit → HasFewItems (all_walked P) → Simulates (instrumented digest P) P
