-- Traces that count runs of a program.
use Rattle.std.specs.Prelude.{◌≡◌, ◌+◌, ◌||◌, ◌++◌, ◌⊎◌, ℕ, min, List, [], ◌∷◌, length, Bool, true, false, if◌then◌else◌}
use Rattle.c_lex_pieces.specs.Written.{AreBytes}
use Rattle.c_meaning.specs.Calls.{Source}
use Rattle.sha2.specs.Sha256.{sha256}
use Rattle.atac_facts.specs.declared.fact.Fact.{Fact}
use Rattle.atac_facts.specs.Facts.{fits}
use Rattle.atac_facts.specs.Tallies.{count_of}
use Rattle.atac_facts.specs.Sums.{most}
use Rattle.trace_file.specs.Layout.{bytes_of}
use Rattle.trace_file.specs.Reading.{Accepts}
use Rattle.trace_file.specs.declared.trace.Trace.{Trace}
use Rattle.atac_traces.specs.Totals.{count_in, IsSum}
use Rattle.atac_programs.specs.Programs.{IsInstrumented, program_in, shown_by}
use Rattle.atac_commands.specs.Claims.{IsFewBytes}
use Rattle.atac_commands.specs.Readings.{IsRunMore, met_in, are_exact}

-- a run: within so many turns, on an input of these bytes
abbrev pub RunOn : Type 0
RunOn = ℕ × List ℕ

-- whether some of the runs shows a fact, and how many of them do
abbrev pub some_shows : Source → List RunOn → Fact → Bool
some_shows P [] f = false
some_shows P (r ∷ runs) f = shown_by P r.0 r.1 f || some_shows P runs f

abbrev pub times_shown : Source → List RunOn → Fact → ℕ
times_shown P [] f = 0
times_shown P (r ∷ runs) f = (if shown_by P r.0 r.1 f then 1 else 0) + times_shown P runs f

-- the trace has this digest, and counts these runs: each fact as often as they show it, as far as its numbers go
pub record CountsRuns (P : Source) (digest : List ℕ) (t : Trace) (runs : List RunOn) : Type 0 where
  pub digest_is : t.digest ≡ digest
  pub runs_are : t.runs ≡ min (length runs) most
  pub exact : t.old_runs ≡ 0
  pub counts : (f : Fact) → fits f ≡ true → count_of t.tally f ≡ min (times_shown P runs f) most

-- the bytes are read as such a trace
pub record AreTraceOfRuns (P : Source) (digest bytes : List ℕ) (runs : List RunOn) : Type 0 where
  pub trace : Trace
  pub is : Accepts bytes trace
  pub counts : CountsRuns P digest trace runs

-- one more run of an accepted program makes such a trace of such a trace, or of none where there was no run
abbrev pub OneMoreRunIsCounted : Type 0
OneMoreRunIsCounted = (source text : List ℕ) → AreBytes source → (k : IsInstrumented source text)
    → let P = program_in k.accepted in let digest = sha256 source in
    (runs : List RunOn) (old new : Trace) (limit : ℕ) (input : List ℕ) → CountsRuns P digest old runs → (old.tally ≡ []) ⊎ ((bytes : List ℕ) × Accepts bytes old)
    → IsRunMore old new (shown_by P limit input) → IsFewBytes new → AreTraceOfRuns P digest (bytes_of new) ((limit, input) ∷ runs)

-- several traces, each of these runs
abbrev pub AllCountRuns : Source → List ℕ → List Trace → List (List RunOn) → Type 0
AllCountRuns P digest [] [] = Unit {0}
AllCountRuns P digest (t ∷ ts) (runs ∷ all) = CountsRuns P digest t runs × AllCountRuns P digest ts all
AllCountRuns P digest ts all = ⊥

abbrev pub together : List (List RunOn) → List RunOn
together [] = []
together (runs ∷ all) = runs ++ together all

-- what traces tell is what these runs show, of each fact whose numbers have 16 bits, and outcomes 32
pub record TellOfRuns (P : Source) (ts : List Trace) (runs : List RunOn) : Type 0 where
  pub met : (f : Fact) → fits f ≡ true → met_in ts f ≡ some_shows P runs f
  pub counts : (f : Fact) → fits f ≡ true → count_in ts f ≡ min (times_shown P runs f) most
  pub exact : are_exact ts ≡ true

abbrev pub TracesTellOfRuns : Type 0
TracesTellOfRuns = (P : Source) (digest : List ℕ) (ts : List Trace) (all : List (List RunOn)) → AllCountRuns P digest ts all → TellOfRuns P ts (together all)

-- and their sum is a trace of all of these runs
abbrev pub SumsCountRuns : Type 0
SumsCountRuns = (P : Source) (digest : List ℕ) (ts : List Trace) (all : List (List RunOn)) (sum : Trace) → length digest ≡ 32 → AllCountRuns P digest ts all → IsSum digest ts sum → IsFewBytes sum
    → AreTraceOfRuns P digest (bytes_of sum) (together all)
