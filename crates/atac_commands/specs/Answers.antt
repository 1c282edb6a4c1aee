-- What a command answers, by the files that it finds.
use Rattle.std.specs.Prelude.{ℕ, Bool, cond, codes, leb, List, [], ◌∷◌, ◌++◌, length, Option, None, Some}
use Rattle.c_meaning.specs.Calls.{Source}
use Rattle.atac_words.specs.Words.{Command, Check, ListItems, Instrument, Cover, Run, RunInto, Merge, Tell, Pick, Watch, SelfCover, fetched}
use Rattle.atac_steps.specs.Ends.{End, IsDone, BadWords, NotAccepted, NotHeld, NoTrace, NotWatched}
use Rattle.atac_steps.specs.declared.stop.TraceFault.TheVariants.{TooMuch}
use Rattle.atac_steps.specs.Got.{Got, Gets, Stops, gets}
use Rattle.atac_base.specs.Items.{ItemLists}
use Rattle.trace_file.specs.Layout.{bytes_of}
use Rattle.trace_file.specs.declared.trace.Trace.{Trace}
use Rattle.atac_traces.specs.Files.{Read, Has, Bad, trace_most}
use Rattle.run_pick.specs.Lines.{pick_text}
use Rattle.atac_self.specs.Generation.{program_text, input_bytes}
use Rattle.atac_programs.specs.Programs.{Counts, counts_text, section, shown, report}
use Rattle.atac_commands.specs.Readings.{Reading, Refuses, Counted, Listed, Runs, Covers, Probes, Viewed, Merges, Records, Picks, Watches, Sums, Saying, Unasked, NoneNamed, Says, made_name, counter_name, view_text, runs_text, summary}

-- An answer: how the call ends, what it puts (whole sections, behind each of which memory may be wanted, and then a rest), and
-- what it keeps under which name.
pub record Answer : Type 0 where
  pub end : End
  pub sections : List (List ℕ)
  pub rest : List ℕ
  pub kept : Option (List ℕ × List ℕ)

abbrev pub joined : List (List ℕ) → List ℕ
joined [] = []
joined (piece ∷ pieces) = piece ++ joined pieces

abbrev pub text : Answer → List ℕ
text answer = joined answer.sections ++ answer.rest

-- A step that is refused ends the call. What was put before it stays.
abbrev pub refused : List (List ℕ) → End → Answer
refused sections end = record { end = end; sections = sections; rest = []; kept = None }

abbrev pub given : List (List ℕ) → Got → (List ℕ → Answer) → Answer
given sections (Gets bytes) go = go bytes
given sections (Stops end) go = refused sections end

-- A program that is refused ends the call, whatever it is wanted for: its counts, its list, a run, or what a run covers.
abbrev pub counted : List ℕ → Reading → (Counts → Answer) → Answer
counted file (Refuses said) go = refused [] (NotAccepted file said)
counted file (Counted n) go = go n
counted file understood go = refused [] BadWords

abbrev pub listed : List ℕ → Reading → (List ℕ → Answer) → Answer
listed file (Refuses said) go = refused [] (NotAccepted file said)
listed file (Listed items) go = go items
listed file understood go = refused [] BadWords

abbrev pub run_by : List ℕ → Reading → (Source → Answer) → Answer
run_by file (Refuses said) go = refused [] (NotAccepted file said)
run_by file (Runs P) go = go P
run_by file understood go = refused [] BadWords

abbrev pub covered_by : List ℕ → Reading → (Source → ItemLists → Answer) → Answer
covered_by file (Refuses said) go = refused [] (NotAccepted file said)
covered_by file (Covers P items) go = go P items
covered_by file understood go = refused [] BadWords

abbrev pub input_most : ℕ
input_most = 16777216

-- The sections of the inputs that are left, behind those that were put, up to the first input that isn't got; then the report
-- of all that were got.
abbrev pub covering : Source → ItemLists → ℕ → List (List ℕ) → List (Option (List ℕ)) → List (List ℕ) → List (List ℕ) → Answer
covering P items limit [] found done got = record { end = IsDone; sections = done; rest = report P items limit got; kept = None }
covering P items limit (input ∷ inputs) [] done got = refused done BadWords
covering P items limit (input ∷ inputs) (f ∷ found) done got =
    given done (gets input input_most f) (λ bytes. covering P items limit inputs found (done ++ section input P bytes limit ∷ []) (got ++ bytes ∷ []))

-- A program whose text with probes is wanted, whose traces are told, or that is run into a trace.
abbrev pub probed_by : List ℕ → Reading → (List ℕ → Answer) → Answer
probed_by file (Refuses said) go = refused [] (NotAccepted file said)
probed_by file (Probes text) go = go text
probed_by file understood go = refused [] BadWords

abbrev pub told_by : List ℕ → Reading → (ItemLists → List Read → Answer) → Answer
told_by file (Refuses said) go = refused [] (NotAccepted file said)
told_by file (Viewed P items reads) go = go items reads
told_by file understood go = refused [] BadWords

abbrev pub recorded_by : List ℕ → Reading → (Source → Option Read → Option Trace → Answer) → Answer
recorded_by file (Refuses said) go = refused [] (NotAccepted file said)
recorded_by file (Records P old new) go = go P old new
recorded_by file understood go = refused [] BadWords

-- What is read in the next trace: the trace, or what is wrong with it.
abbrev pub next_read : List ℕ → List Read → (Trace → List Read → Answer) → Answer
next_read name [] go = refused [] BadWords
next_read name (Bad why ∷ reads) go = refused [] (NoTrace name why)
next_read name (Has t ∷ reads) go = go t reads

-- The traces of the names that are left, behind those that were read.
abbrev pub joining : List (List ℕ) → List (Option (List ℕ)) → List Read → List Trace → (List Trace → Answer) → Answer
joining [] found reads ts go = go ts
joining (name ∷ names) [] reads ts go = refused [] BadWords
joining (name ∷ names) (f ∷ found) reads ts go =
    given [] (gets name trace_most f) (λ bytes. next_read name reads (λ t rest. joining names found rest (ts ++ t ∷ []) go))

-- A trace is kept, and a text put before it, where the trace is no more than a file of one may be.
abbrev pub keeping : List ℕ → Option Trace → (Trace → List ℕ) → Answer
keeping name None rest = refused [] BadWords
keeping name (Some t) rest =
    cond (leb (length (bytes_of t)) trace_most) (record { end = IsDone; sections = []; rest = rest t; kept = Some (name, bytes_of t) }) (refused [] (NoTrace name TooMuch))

-- An old trace that may be absent.
abbrev pub old_read : List ℕ → Option Read → Answer → Answer
old_read name None go = refused [] BadWords
old_read name (Some (Bad why)) go = refused [] (NoTrace name why)
old_read name (Some (Has t)) go = go

abbrev pub old_given : List ℕ → Got → Option Read → Answer → Answer
old_given name (Gets bytes) old go = old_read name old go
old_given name (Stops (NotHeld file)) old go = go
old_given name (Stops end) old go = refused [] end

-- A program whose runs are picked; the inputs of the names that are left, behind those that were got; and which runs are kept.
abbrev pub picked_by : List ℕ → Reading → (Source → ItemLists → Option (List Bool) → Answer) → Answer
picked_by file (Refuses said) go = refused [] (NotAccepted file said)
picked_by file (Picks P items marks) go = go P items marks
picked_by file understood go = refused [] BadWords

abbrev pub gathering : List (List ℕ) → List (Option (List ℕ)) → List (List ℕ) → (List (List ℕ) → Answer) → Answer
gathering [] found got go = go got
gathering (name ∷ names) [] got go = refused [] BadWords
gathering (name ∷ names) (f ∷ found) got go = given [] (gets name input_most f) (λ bytes. gathering names found (got ++ bytes ∷ []) go)

abbrev pub marked_by : Option (List Bool) → (List Bool → Answer) → Answer
marked_by None go = refused [] BadWords
marked_by (Some marks) go = go marks

-- A program that is watched, or made and watched; and what the watcher of the name says.
abbrev pub watched_by : List ℕ → Reading → (Source → Saying → Answer) → Answer
watched_by file (Refuses said) go = refused [] (NotAccepted file said)
watched_by file (Watches P said) go = go P said
watched_by file understood go = refused [] BadWords

abbrev pub summed_by : List ℕ → Reading → (Source → ItemLists → Saying → Answer) → Answer
summed_by file (Refuses said) go = refused [] (NotAccepted file said)
summed_by file (Sums P items said) go = go P items said
summed_by file understood go = refused [] BadWords

abbrev pub saying : List ℕ → Saying → (List ℕ → Answer) → Answer
saying name Unasked go = refused [] BadWords
saying name NoneNamed go = refused [] (NotWatched name)
saying name (Says text) go = go text

-- The answer to a command, by what is understood of the program's text and by the bytes under each name that it fetches, in their order.
abbrev pub answer : Command → Reading → List (Option (List ℕ)) → Answer
answer (Check program) understood (p ∷ []) =
    given [] (gets program 1048576 p) (λ source.
    counted program understood (λ n.
    record { end = IsDone; sections = []; rest = counts_text n; kept = None }))
answer (ListItems program) understood (p ∷ []) =
    given [] (gets program 1048576 p) (λ source.
    listed program understood (λ items.
    record { end = IsDone; sections = []; rest = items; kept = None }))
answer (Cover limit program inputs) understood (p ∷ found) =
    given [] (gets program 1048576 p) (λ source.
    covered_by program understood (λ P items.
    covering P items limit inputs found [] []))
answer (Run limit program input) understood (p ∷ i ∷ []) =
    given [] (gets program 67108864 p) (λ source.
    run_by program understood (λ P.
    given [] (gets input input_most i) (λ bytes.
    record { end = IsDone; sections = []; rest = section input P bytes limit; kept = None })))
answer (Instrument program out) understood (p ∷ []) =
    given [] (gets program 1048576 p) (λ source.
    probed_by program understood (λ text.
    record { end = IsDone; sections = []; rest = []; kept = Some (out, text) }))
answer (RunInto limit program input trace) understood (p ∷ i ∷ t ∷ []) =
    given [] (gets program 67108864 p) (λ source.
    recorded_by program understood (λ P old new.
    given [] (gets input input_most i) (λ bytes.
    old_given trace (gets trace trace_most t) old (keeping trace new (λ t. section input P bytes limit)))))
answer (Merge out traces) (Merges reads sum) found =
    joining traces found reads [] (λ ts. keeping out sum runs_text)
answer (Tell view program traces) understood (p ∷ found) =
    given [] (gets program 1048576 p) (λ source.
    told_by program understood (λ items reads.
    joining traces found reads [] (λ ts.
    record { end = IsDone; sections = []; rest = view_text view source items ts; kept = None })))
answer (Pick limit program inputs) understood (p ∷ found) =
    given [] (gets program 1048576 p) (λ source.
    picked_by program understood (λ P items marks.
    gathering inputs found [] (λ all.
    marked_by marks (λ kept.
    record { end = IsDone; sections = []; rest = pick_text kept inputs items (shown P limit all); kept = None }))))
answer (Watch limit program input name) understood (p ∷ i ∷ []) =
    given [] (gets program 1048576 p) (λ source.
    watched_by program understood (λ P said.
    given [] (gets input input_most i) (λ bytes.
    saying name said (λ text.
    record { end = IsDone; sections = []; rest = section input P bytes limit ++ text; kept = None }))))
answer (SelfCover limit seed) understood [] =
    summed_by made_name understood (λ P items said.
    saying counter_name said (λ text.
    record { end = IsDone; sections = []; rest = summary P items limit (program_text seed) (input_bytes seed) text; kept = None }))
answer command understood found = refused [] BadWords

-- The same from the words.
abbrev pub asked : Option Command → Reading → List (Option (List ℕ)) → Answer
asked None understood found = refused [] BadWords
asked (Some command) understood found = answer command understood found

abbrev pub names : Option Command → List (List ℕ)
names None = []
names (Some command) = fetched command
