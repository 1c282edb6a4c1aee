-- What the commands say of a text that `instrument` kept, and of traces that count runs of its program.
use Rattle.std.specs.Prelude.{◌≡◌, ◌≤◌, ◌⊎◌, ℕ, min, true, List, [], ◌∷◌, ◌++◌, length, map, Some, None}
use Rattle.std.specs.Io.KnownBytes.{append_known}
use Rattle.c_lex_pieces.specs.Written.{AreBytes}
use Rattle.c_meaning.specs.Calls.{Source}
use Rattle.sha2.specs.Sha256.{sha256}
use Rattle.atac_base.specs.Outside.{ShelfState, SinkState, Said}
use Rattle.atac_base.specs.Items.{ItemLists}
use Rattle.atac_facts.specs.Sums.{most}
use Rattle.cover_report.specs.Texts.{report_text}
use Rattle.cover_show.specs.Shown.{show_text}
use Rattle.cover_hits.specs.Hits.{hits_text}
use Rattle.json_out.specs.Json.{json_of}
use Rattle.serde_json.specs.Written.{compact_text}
use Rattle.atac_words.specs.declared.words.View.{View}
use Rattle.atac_words.specs.declared.words.View.TheVariants as view
use Rattle.atac_words.specs.Words.{Command, Check, ListItems, Instrument, Cover, Run, RunInto, Merge, Tell, Pick, Watch, SelfCover}
use Rattle.atac_traces.specs.Files.{trace_most}
use Rattle.atac_programs.specs.Programs.{IsAccepted, IsInstrumented, HasItems, program_in, section, report}
use Rattle.atac_commands.specs.Answers.{input_most}
use Rattle.atac_commands.specs.Claims.{IsHeld, Passes, KeptUnder}
use Rattle.atac_kept.specs.Recorded.{RunOn, some_shows, times_shown, AreTraceOfRuns, together}

-- a trace of these runs is held under the name
abbrev pub HoldsTrace : Source → List ℕ → Said → List RunOn → Type 0
HoldsTrace P digest said runs = (bytes : List ℕ) × (said ≡ Some (Some bytes)) × (length bytes ≤ trace_most) × AreTraceOfRuns P digest bytes runs

-- or nothing is, and there was no run
abbrev pub HoldsRuns : Source → List ℕ → Said → List RunOn → Type 0
HoldsRuns P digest said runs = ((said ≡ Some None) × (runs ≡ [])) ⊎ HoldsTrace P digest said runs

-- under each name
abbrev pub HoldAll : Source → List ℕ → (List ℕ → Said) → List (List ℕ) → List (List RunOn) → Type 0
HoldAll P digest says [] [] = Unit {0}
HoldAll P digest says (name ∷ names) (runs ∷ all) = HoldsTrace P digest (says name) runs × HoldAll P digest says names all
HoldAll P digest says names all = ⊥

-- a trace of these runs is kept under the name
abbrev pub KeepsRuns : Source → List ℕ → ShelfState → ShelfState → List ℕ → List RunOn → Type 0
KeepsRuns P digest shelf shelf' name runs = (bytes : List ℕ) × AreTraceOfRuns P digest bytes runs × (length bytes ≤ trace_most) × KeptUnder shelf shelf' name bytes

-- what is told of a program with this text and these items by its own runs: an item is covered where some of them shows it, and its
-- hits are how many of them do, as far as a number goes
abbrev pub text_of_runs : View → List ℕ → ItemLists → Source → List RunOn → List ℕ
text_of_runs view.Report source items P runs = report_text items (some_shows P runs)
text_of_runs view.Show source items P runs = show_text source items (some_shows P runs)
text_of_runs view.Hits source items P runs = hits_text true items (λ f. min (times_shown P runs f) most)
text_of_runs view.Json source items P runs = compact_text (json_of items (some_shows P runs)) ++ 10 ∷ []

-- so the report of runs within one limit is that of a cover of their inputs
abbrev pub ReportsAreThoseOfCovers : Type 0
ReportsAreThoseOfCovers = (P : Source) (items : ItemLists) (source : List ℕ) (limit : ℕ) (inputs : List (List ℕ)) → text_of_runs view.Report source items P (map (λ b. (limit, b)) inputs) ≡ report P items limit inputs

-- When the call is done: `run` of a text that was made of an accepted program puts the section of that program's own run, and keeps a
-- trace that counts it besides the runs so far; `merge` keeps a trace of all the runs of its traces; and what is told of traces of an
-- accepted program's runs is what these runs show.
abbrev pub ShowsKept : Command → ShelfState → ShelfState → SinkState → SinkState → Type 0
ShowsKept (Run limit program input) shelf shelf' out out' =
    (source text : List ℕ) → AreBytes source → (k : IsInstrumented source text) → shelf.says program ≡ Some (Some text) → (i : IsHeld (shelf.says input) input_most)
    → out'.bytes ≡ append_known out.bytes (section input (program_in k.accepted) i.bytes limit)
ShowsKept (RunInto limit program input trace) shelf shelf' out out' =
    (source text : List ℕ) → AreBytes source → (k : IsInstrumented source text) → shelf.says program ≡ Some (Some text) → (i : IsHeld (shelf.says input) input_most)
    → (runs : List RunOn) → HoldsRuns (program_in k.accepted) (sha256 source) (shelf.says trace) runs
    → (out'.bytes ≡ append_known out.bytes (section input (program_in k.accepted) i.bytes limit))
    × KeepsRuns (program_in k.accepted) (sha256 source) shelf shelf' trace ((limit, i.bytes) ∷ runs)
ShowsKept (Merge name []) shelf shelf' out out' = Unit {0}
ShowsKept (Merge name (first ∷ rest)) shelf shelf' out out' =
    (source : List ℕ) (a : IsAccepted source) (all : List (List RunOn)) → HoldAll (program_in a) (sha256 source) shelf.says (first ∷ rest) all
    → KeepsRuns (program_in a) (sha256 source) shelf shelf' name (together all)
ShowsKept (Tell v program traces) shelf shelf' out out' =
    (p : Passes (shelf.says program)) → AreBytes p.held.bytes → (all : List (List RunOn)) → HoldAll (program_in p.accepted) (sha256 p.held.bytes) shelf.says traces all
    → (items : ItemLists) × HasItems p.accepted items × (out'.bytes ≡ append_known out.bytes (text_of_runs v p.held.bytes items (program_in p.accepted) (together all)))
ShowsKept (Check program) shelf shelf' out out' = Unit {0}
ShowsKept (ListItems program) shelf shelf' out out' = Unit {0}
ShowsKept (Instrument program name) shelf shelf' out out' = Unit {0}
ShowsKept (Cover limit program inputs) shelf shelf' out out' = Unit {0}
ShowsKept (Pick limit program inputs) shelf shelf' out out' = Unit {0}
ShowsKept (Watch limit program input name) shelf shelf' out out' = Unit {0}
ShowsKept (SelfCover limit seed) shelf shelf' out out' = Unit {0}
