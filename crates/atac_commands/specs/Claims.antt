-- What a call supposes of the outside to be sure of its answer.
use Rattle.std.specs.Prelude.{◌≡◌, ◌⊎◌, ℕ, ◌≤◌, Bool, List, [], ◌∷◌, ◌++◌, length, Some, None, IsTrue}
use Rattle.std.specs.Io.KnownBytes.{append_known}
use Rattle.atac_base.specs.Outside.{ShelfState, SinkState, Said, Rose}
use Rattle.c_meaning.specs.Calls.{Source}
use Rattle.c_walk.specs.Units.{items_of}
use Rattle.c_sites.specs.declared.numbered.Sites.{Sites}
use Rattle.c_sites.specs.Refused.{AreNumbered}
use Rattle.pair_list.specs.Items.{AreTooMany}
use Rattle.atac_words.specs.Words.{Command, Check, ListItems, Instrument, Cover, Run, RunInto, Merge, Tell, Pick, Watch, SelfCover}
use Rattle.atac_programs.specs.Programs.{IsAccepted, HasItems, IsListing, IsProbed, program_in, counts_of, counts_text, section, report, shown, events, all_events, with_probes, met_by}
use Rattle.atac_commands.specs.Readings.{IsRunMore, IsPicked, counter_name, view_text, runs_text, summary}
use Rattle.atac_commands.specs.Runs.{Handed}
use Rattle.atac_self.specs.Generation.{program_text, input_bytes}
use Rattle.run_pick.specs.Lines.{pick_text}
use Rattle.atac_base.specs.Items.{ItemLists}
use Rattle.c_tree.specs.Programs.{digest_in}
use Rattle.probe_text.specs.Text.{text_in, Fits}
use Rattle.sha2.specs.Sha256.{sha256}
use Rattle.trace_file.specs.Layout.{bytes_of}
use Rattle.trace_file.specs.declared.trace.Trace.{Trace}
use Rattle.atac_traces.specs.Files.{trace_most, IsTraceOf}
use Rattle.atac_traces.specs.Totals.{IsSum}
use Rattle.atac_commands.specs.Answers.{input_most, joined}

-- The name is told, and held within the limit.
pub record IsHeld (said : Said) (most : ℕ) : Type 0 where
  pub bytes : List ℕ
  pub is : said ≡ Some (Some bytes)
  pub short : length bytes ≤ most

-- The same of a program that is accepted.
pub record Passes (said : Said) : Type 0 where
  pub held : IsHeld said 1048576
  pub accepted : IsAccepted held.bytes

-- Its c-uses and p-uses aren't too many.
pub record IsListable (said : Said) : Type 0 where
  pub passes : Passes said
  pub few : (s : Sites) → AreNumbered passes.accepted.tables.structures (items_of passes.accepted.tables passes.accepted.unit) s → AreTooMany passes.accepted.tables passes.accepted.unit s → ⊥

-- The same of one that is to be run, with probes or without.
pub record IsRunnable (said : Said) : Type 0 where
  pub held : IsHeld said 67108864
  pub program : Source
  pub read : IsProbed held.bytes program

-- Each name is told, and holds these bytes, within the limit of an input.
abbrev pub AreHeld : (List ℕ → Said) → List (List ℕ) → List (List ℕ) → Type 0
AreHeld says [] [] = Unit {0}
AreHeld says (name ∷ names) (bytes ∷ all) = (says name ≡ Some (Some bytes)) × ((length bytes ≤ input_most) × AreHeld says names all)
AreHeld says names all = ⊥

-- Its text with probes is within the limits.
pub record IsWritable (said : Said) : Type 0 where
  pub passes : Passes said
  pub fits : Fits (with_probes passes.held.bytes (program_in passes.accepted)).unit

-- Each name is told, and holds this trace of the program.
abbrev pub HoldTraces : List ℕ → (List ℕ → Said) → List (List ℕ) → List Trace → Type 0
HoldTraces digest says [] [] = Unit {0}
HoldTraces digest says (name ∷ names) (t ∷ ts) =
    ((bytes : List ℕ) × (says name ≡ Some (Some bytes)) × (length bytes ≤ trace_most) × IsTraceOf digest bytes t) × HoldTraces digest says names ts
HoldTraces digest says names ts = ⊥

-- A trace is held, or none.
abbrev pub HoldsOld : List ℕ → Said → Trace → Type 0
HoldsOld digest said old =
    ((said ≡ Some None) × (old ≡ record { digest = digest; runs = 0; old_runs = 0; tally = [] }))
    ⊎ ((bytes : List ℕ) × (said ≡ Some (Some bytes)) × (length bytes ≤ trace_most) × IsTraceOf digest bytes old)

abbrev pub IsFewBytes : Trace → Type 0
IsFewBytes t = length (bytes_of t) ≤ trace_most

-- A program with a program line, and the trace of its runs so far.
pub record RunsInto (limit : ℕ) (program input_name trace : List ℕ) (says : List ℕ → Said) : Type 0 where
  pub runs : IsRunnable (says program)
  pub digest : List ℕ
  pub line : digest_in runs.program.unit.line ≡ Some digest
  pub input : IsHeld (says input_name) input_most
  pub old : Trace
  pub holds : HoldsOld digest (says trace) old
  pub few : (new : Trace) → IsRunMore old new (met_by runs.program limit input.bytes) → IsFewBytes new

-- The program that is made from a number is accepted, and its c-uses and p-uses aren't too many.
pub record IsMade (seed : ℕ) : Type 0 where
  pub accepted : IsAccepted (program_text seed)
  pub few : (s : Sites) → AreNumbered accepted.tables.structures (items_of accepted.tables accepted.unit) s → AreTooMany accepted.tables accepted.unit s → ⊥

-- The watcher that the command asks is there.
abbrev pub IsWatched : Handed → Command → Type 0
IsWatched ws (Watch limit program input name) = ws.none name → ⊥
IsWatched ws (SelfCover limit seed) = ws.none counter_name → ⊥
IsWatched ws command = Unit {0}

abbrev pub Supposes : Command → (List ℕ → Said) → Type 0
Supposes (Check program) says = Passes (says program)
Supposes (ListItems program) says = IsListable (says program)
Supposes (Cover limit program inputs) says = IsListable (says program) × ((all : List (List ℕ)) × AreHeld says inputs all)
Supposes (Run limit program input) says = IsRunnable (says program) × IsHeld (says input) input_most
Supposes (Instrument program out) says = IsWritable (says program)
Supposes (RunInto limit program input trace) says = RunsInto limit program input trace says
Supposes (Merge out []) says = ⊥
Supposes (Merge out (first ∷ rest)) says =
    (digest : List ℕ) × ((ts : List Trace) × HoldTraces digest says (first ∷ rest) ts × ((sum : Trace) → IsSum digest ts sum → IsFewBytes sum))
Supposes (Pick limit program inputs) says = IsListable (says program) × ((all : List (List ℕ)) × AreHeld says inputs all)
Supposes (Watch limit program input name) says = Passes (says program) × IsHeld (says input) input_most
Supposes (SelfCover limit seed) says = IsMade seed
Supposes (Tell view program traces) says = (p : IsListable (says program)) × ((ts : List Trace) × HoldTraces (sha256 p.passes.held.bytes) says traces ts)

-- The sections of a program's own runs on inputs of these names and bytes.
abbrev pub sections : Source → ℕ → List (List ℕ) → List (List ℕ) → List (List ℕ)
sections P limit (name ∷ names) (bytes ∷ all) = section name P bytes limit ∷ sections P limit names all
sections P limit names all = []

-- Where the shelf tells, these bytes are held now under the name.
abbrev pub KeptUnder : ShelfState → ShelfState → List ℕ → List ℕ → Type 0
KeptUnder shelf shelf' name bytes = IsTrue shelf.tells → shelf'.says name ≡ Some (Some bytes)

-- What the sink gains and the shelf holds when the call is done: the line of counts; the list of the items; the text with probes;
-- the sections of the program's own runs, and the report of its items; the section of one run; that of one run, and the trace with
-- this run; the number of runs, and the sum of the traces; what is told of the traces; which runs to keep; the section of one run, and
-- what the watcher says of its events; the summary of a program that is made from a number.
abbrev pub Shows : Handed → Command → ShelfState → ShelfState → SinkState → SinkState → Type 0
Shows ws (Check program) shelf shelf' out out' =
    (p : Passes (shelf.says program)) → out'.bytes ≡ append_known out.bytes (counts_text (counts_of p.accepted.tables p.accepted.unit))
Shows ws (ListItems program) shelf shelf' out out' =
    (p : Passes (shelf.says program)) → (text : List ℕ) × IsListing p.held.bytes text × (out'.bytes ≡ append_known out.bytes text)
Shows ws (Instrument program name) shelf shelf' out out' =
    (p : Passes (shelf.says program)) → (out'.bytes ≡ append_known out.bytes []) × KeptUnder shelf shelf' name (text_in (with_probes p.held.bytes (program_in p.accepted)).unit)
Shows ws (Cover limit program inputs) shelf shelf' out out' =
    (p : Passes (shelf.says program)) (all : List (List ℕ)) → AreHeld shelf.says inputs all
    → (items : ItemLists) × HasItems p.accepted items × (out'.bytes ≡ append_known out.bytes (joined (sections (program_in p.accepted) limit inputs all) ++ report (program_in p.accepted) items limit all))
Shows ws (Run limit program input) shelf shelf' out out' =
    (p : IsRunnable (shelf.says program)) (i : IsHeld (shelf.says input) input_most) → out'.bytes ≡ append_known out.bytes (section input p.program i.bytes limit)
Shows ws (RunInto limit program input trace) shelf shelf' out out' =
    (p : IsRunnable (shelf.says program)) (i : IsHeld (shelf.says input) input_most) (digest : List ℕ) → digest_in p.program.unit.line ≡ Some digest → (old : Trace) → HoldsOld digest (shelf.says trace) old
    → (new : Trace) × IsRunMore old new (met_by p.program limit i.bytes) × IsFewBytes new
    × (out'.bytes ≡ append_known out.bytes (section input p.program i.bytes limit)) × KeptUnder shelf shelf' trace (bytes_of new)
Shows ws (Merge name []) shelf shelf' out out' = Unit {0}
Shows ws (Merge name (first ∷ rest)) shelf shelf' out out' =
    (digest : List ℕ) (ts : List Trace) → HoldTraces digest shelf.says (first ∷ rest) ts
    → (sum : Trace) × IsSum digest ts sum × IsFewBytes sum × (out'.bytes ≡ append_known out.bytes (runs_text sum)) × KeptUnder shelf shelf' name (bytes_of sum)
Shows ws (Tell view program traces) shelf shelf' out out' =
    (p : Passes (shelf.says program)) (ts : List Trace) → HoldTraces (sha256 p.held.bytes) shelf.says traces ts
    → (items : ItemLists) × HasItems p.accepted items × (out'.bytes ≡ append_known out.bytes (view_text view p.held.bytes items ts))
Shows ws (Pick limit program inputs) shelf shelf' out out' =
    (p : Passes (shelf.says program)) (all : List (List ℕ)) → AreHeld shelf.says inputs all
    → (items : ItemLists) × HasItems p.accepted items × ((marks : List Bool) × IsPicked (program_in p.accepted) items limit all marks
    × (out'.bytes ≡ append_known out.bytes (pick_text marks inputs items (shown (program_in p.accepted) limit all))))
Shows ws (Watch limit program input name) shelf shelf' out out' =
    (p : Passes (shelf.says program)) (i : IsHeld (shelf.says input) input_most)
    → (said : List ℕ) × ws.says name (events (program_in p.accepted) limit i.bytes) said × (out'.bytes ≡ append_known out.bytes (section input (program_in p.accepted) i.bytes limit ++ said))
Shows ws (SelfCover limit seed) shelf shelf' out out' =
    (a : IsAccepted (program_text seed))
    → (items : ItemLists) × HasItems a items × ((said : List ℕ) × ws.says counter_name (all_events (program_in a) limit (input_bytes seed)) said
    × (out'.bytes ≡ append_known out.bytes (summary (program_in a) items limit (program_text seed) (input_bytes seed) said)))

-- No count of faults rose.
pub record NoFault (shelf shelf' : ShelfState) (out out' : SinkState) : Type 0 where
  pub read : Rose shelf.read_faults shelf'.read_faults → ⊥
  pub keep : Rose shelf.keep_faults shelf'.keep_faults → ⊥
  pub put : Rose out.faults out'.faults → ⊥
