-- What a call leaves, by how it ended.
use Rattle.std.specs.Prelude.{◌≡◌, ◌≢◌, ◌⊎◌, ◌++◌, find, ℕ, Bool, ◌-◌, List, [], ◌∷◌, map, take, slice_get, Option, None, Some, IfSome, IsTrue, IsSome}
use Rattle.std.specs.Str.{bytes_eq}
use Rattle.std.specs.Io.KnownBytes.{append_known}
use Rattle.atac_base.specs.Outside.{ShelfState, SinkState, Rose, IsFront}
use Rattle.atac_words.specs.Words.{Command, Merge, Tell, RunInto, Pick, Watch, SelfCover, program_of, program_most}
use Rattle.atac_steps.specs.Ends.{End, IsDone, ReadFailed, WriteFailed, KeepFailed, OutOfMemory, status_of, line_of}
use Rattle.atac_steps.specs.Got.{Got, Gets, Stops, gets, AllAgree}
use Rattle.atac_steps.specs.declared.stop.TraceFault.TheVariants.{OtherProgram}
use Rattle.sha2.specs.Sha256.{sha256}
use Rattle.c_tree.specs.Programs.{digest_in}
use Rattle.c_events.specs.declared.events.Event.{Event}
use Rattle.atac_base.specs.Items.{ItemLists}
use Rattle.atac_self.specs.Generation.{program_text, input_bytes}
use Rattle.c_meaning.specs.Calls.{Source}
use Rattle.trace_file.specs.declared.trace.Trace.{Trace}
use Rattle.atac_traces.specs.Files.{Read, Has, Bad, IsRead, IsTraceOf, IsFaulty, trace_most}
use Rattle.atac_traces.specs.Totals.{IsSum}
use Rattle.atac_programs.specs.Programs.{met_by, events, all_events}
use Rattle.atac_commands.specs.Readings.{Reading, Viewed, Merges, Records, Picks, Watches, Sums, Saying, Unasked, NoneNamed, Says, counter_name, IsUnderstood, IsRunMore, IsPicked}
use Rattle.atac_commands.specs.Answers.{Answer, asked, names, joined, text, input_most}
use Rattle.atac_steps.specs.Grows.{ShelfGrows, SinkGrows}
use Rattle.atac_steps.specs.declared.status.Status.{Status}

-- The ways in which a call with this answer may end, and what it has put by then. A fault comes only where its count rose.
abbrev pub Comes : ShelfState → ShelfState → SinkState → SinkState → List (List ℕ) → Answer → End → List ℕ → Type 0
-- a fetch failed: the sections before it stand
Comes shelf shelf' out out' files a (ReadFailed file) put =
    Rose shelf.read_faults shelf'.read_faults × ((k : ℕ) × (slice_get files k ≡ Some file) × (put ≡ joined (take (k - 1) a.sections)))
-- a put failed: some front of the text stands
Comes shelf shelf' out out' files a WriteFailed put = Rose out.faults out'.faults × IsFront put (text a)
-- a keep failed: the whole text stands
Comes shelf shelf' out out' files a (KeepFailed file) put =
    Rose shelf.keep_faults shelf'.keep_faults × ((bytes : List ℕ) × (a.kept ≡ Some (file, bytes))) × (put ≡ text a)
-- memory was wanted: by the keep, or, with nothing changed on the shelf, between two sections or by a put
Comes shelf shelf' out out' files a OutOfMemory put =
    ((k : ℕ) × (put ≡ joined (take k a.sections)) × (shelf'.says ≡ shelf.says))
    ⊎ ((IsSome a.kept × (put ≡ text a)) ⊎ (Rose out.wants out'.wants × IsFront put (text a) × (shelf'.says ≡ shelf.says)))
-- no such thing came between: the answer itself
Comes shelf shelf' out out' files a end put = (end ≡ a.end) × (put ≡ text a)

-- The shelf stays but for the name that was to be kept.
abbrev pub StaysBut : Option (List ℕ × List ℕ) → ShelfState → ShelfState → Type 0
StaysBut None shelf shelf' = shelf'.says ≡ shelf.says
StaysBut (Some kept) shelf shelf' = (other : List ℕ) → other ≢ kept.0 → shelf'.says other ≡ shelf.says other

abbrev pub Holds : Option (List ℕ × List ℕ) → ShelfState → ShelfState → Type 0
Holds None shelf shelf' = Unit {0}
Holds (Some kept) shelf shelf' = IsTrue shelf.tells → shelf'.says kept.0 ≡ Some (Some kept.1)

abbrev pub Keeps : Option (List ℕ × List ℕ) → End → ShelfState → ShelfState → Type 0
Keeps kept IsDone shelf shelf' = StaysBut kept shelf shelf' × Holds kept shelf shelf'
Keeps kept (KeepFailed file) shelf shelf' = StaysBut kept shelf shelf'
Keeps kept OutOfMemory shelf shelf' = StaysBut kept shelf shelf'
Keeps kept end shelf shelf' = shelf'.says ≡ shelf.says

-- The line was put to the error sink, or a front of it where a count of that sink rose.
pub record Tells (err err' : SinkState) (line : List ℕ) : Type 0 where
  pub put : List ℕ
  pub bytes : err'.bytes ≡ append_known err.bytes put
  pub whole : (put ≡ line) ⊎ (IsFront put line × (Rose err.faults err'.faults ⊎ Rose err.wants err'.wants))
  pub grows : SinkGrows err err'

-- What is understood of the program's text, where its bytes are got.
abbrev pub IsOfGot : Command → Got → Reading → Type 0
IsOfGot command (Gets source) understood = IsUnderstood command source understood
IsOfGot command (Stops end) understood = Unit {0}

-- What is read in a trace of the program, where its bytes are got.
abbrev pub IsReadIn : List ℕ → Got → Read → Type 0
IsReadIn digest (Gets bytes) r = IsRead digest bytes r
IsReadIn digest (Stops end) r = Unit {0}

-- What is read in each, as far as they were read.
abbrev pub AreRead : List ℕ → List (List ℕ) → List (Option (List ℕ)) → List Read → Type 0
AreRead digest names found [] = Unit {0}
AreRead digest (name ∷ names) (f ∷ found) (r ∷ reads) = IsReadIn digest (gets name trace_most f) r × AreRead digest names found reads
AreRead digest names found reads = ⊥

-- The traces of a program that is told of have the digest of its text.
abbrev pub AreToldOf : Got → List (List ℕ) → List (Option (List ℕ)) → List Read → Type 0
AreToldOf (Gets source) names found reads = AreRead (sha256 source) names found reads
AreToldOf (Stops end) names found reads = Unit {0}

-- The first of traces that are merged is of its own program.
abbrev pub IsOwn : List Read → Type 0
IsOwn (Bad OtherProgram ∷ reads) = ⊥
IsOwn reads = Unit {0}

-- They have the digest of the first one, and the sum is theirs.
pub record AreMerged (names : List (List ℕ)) (found : List (Option (List ℕ))) (reads : List Read) (sum : Option Trace) : Type 0 where
  pub program : List ℕ
  pub are : AreRead program names found reads
  pub first : IsOwn reads
  pub sums : IfSome sum (λ s. (ts : List Trace) × (reads ≡ map Has ts) × IsSum program ts s)

-- A run into a trace: an old trace has the digest in the program line; where none is held there was no run.
abbrev pub OldIs : List ℕ → Got → Option Read → Trace → Type 0
OldIs digest (Gets bytes) (Some (Has t)) old = IsTraceOf digest bytes t × (old ≡ t)
OldIs digest (Gets bytes) (Some (Bad why)) old = IsFaulty digest bytes why
OldIs digest (Gets bytes) None old = Unit {0}
OldIs digest (Stops end) read old = old ≡ record { digest = digest; runs = 0; old_runs = 0; tally = [] }

-- The new one has one run more, in which the facts of this run were met.
pub record IsRunInto (limit : ℕ) (P : Source) (i t : Got) (read : Option Read) (new : Option Trace) : Type 0 where
  pub digest : List ℕ
  pub line : digest_in P.unit.line ≡ Some digest
  pub old : Trace
  pub is : OldIs digest t read old
  pub more : IfSome new (λ n. (bytes : List ℕ) × (i ≡ Gets bytes) × IsRunMore old n (met_by P limit bytes))

-- The inputs were got, with these bytes.
abbrev pub AreGot : List (List ℕ) → List (Option (List ℕ)) → List (List ℕ) → Type 0
AreGot [] [] [] = Unit {0}
AreGot (name ∷ names) (f ∷ found) (bytes ∷ all) = (gets name input_most f ≡ Gets bytes) × AreGot names found all
AreGot names found all = ⊥

-- The marks of the runs on them, where there are any.
abbrev pub ArePicked : ℕ → Source → ItemLists → List (List ℕ) → List (Option (List ℕ)) → Option (List Bool) → Type 0
ArePicked limit P items inputs found None = Unit {0}
ArePicked limit P items inputs found (Some marks) = (all : List (List ℕ)) × AreGot inputs found all × IsPicked P items limit all marks

-- What a command understands of its files.
abbrev pub OfProgram : Command → List (Option (List ℕ)) → Reading → Type 0
OfProgram command [] understood = Unit {0}
OfProgram command (p ∷ found) understood = IsOfGot command (gets (program_of command) (program_most command) p) understood

abbrev pub OfOthers : Command → List (Option (List ℕ)) → Reading → Type 0
OfOthers (Tell view program traces) (p ∷ found) (Viewed P items reads) = AreToldOf (gets program 1048576 p) traces found reads
OfOthers (RunInto limit program input trace) (p ∷ i ∷ t ∷ []) (Records P old new) = IsRunInto limit P (gets input input_most i) (gets trace trace_most t) old new
OfOthers (Pick limit program inputs) (p ∷ found) (Picks P items marks) = ArePicked limit P items inputs found marks
OfOthers command found understood = Unit {0}

abbrev pub UnderstandsAll : Command → List (Option (List ℕ)) → Reading → Type 0
UnderstandsAll (Merge out traces) found (Merges reads sum) = AreMerged traces found reads sum
UnderstandsAll (Merge out traces) found understood = ⊥
UnderstandsAll (SelfCover limit seed) found understood = IsUnderstood (SelfCover limit seed) (program_text seed) understood
UnderstandsAll command found understood = OfProgram command found understood × OfOthers command found understood

abbrev pub Understands : Option Command → List (Option (List ℕ)) → Reading → Type 0
Understands None found understood = Unit {0}
Understands (Some command) found understood = UnderstandsAll command found understood

-- The answer, by what is understood of what was found, and what came of it.
pub record AnswersBy (U : List (Option (List ℕ)) → Reading → Type 0) (asked_for : Option Command) (shelf shelf' : ShelfState) (out out' : SinkState) (found : List (Option (List ℕ))) (end : End) (put : List ℕ) : Type 0 where
  pub understood : Reading
  pub is : U found understood
  pub comes : Comes shelf shelf' out out' (names asked_for) (asked asked_for understood found) end put
  pub keeps : Keeps (asked asked_for understood found).kept end shelf shelf'

abbrev pub Answers : Option Command → ShelfState → ShelfState → SinkState → SinkState → List (Option (List ℕ)) → End → List ℕ → Type 0
Answers asked_for = AnswersBy (Understands asked_for) asked_for

-- The program's text could not be read, or memory was wanted before it was understood: nothing was put or kept.
abbrev pub Breaks : ShelfState → ShelfState → List (List ℕ) → End → List ℕ → Type 0
Breaks shelf shelf' files (ReadFailed file) put =
    Rose shelf.read_faults shelf'.read_faults × (slice_get files 0 ≡ Some file) × (put ≡ []) × (shelf'.says ≡ shelf.says)
Breaks shelf shelf' files OutOfMemory put = (put ≡ []) × (shelf'.says ≡ shelf.says)
Breaks shelf shelf' files end put = ⊥

-- A command's run, up to its end: what was found under the names, and what was put.
pub record GoesBy (U : List (Option (List ℕ)) → Reading → Type 0) (asked_for : Option Command) (shelf shelf' : ShelfState) (out out' : SinkState) (end : End) : Type 0 where
  pub found : List (Option (List ℕ))
  pub put : List ℕ
  pub agrees : AllAgree shelf.says (names asked_for) found
  pub comes : Breaks shelf shelf' (names asked_for) end put ⊎ AnswersBy U asked_for shelf shelf' out out' found end put
  pub bytes : out'.bytes ≡ append_known out.bytes put
  pub shelf_grows : ShelfGrows shelf shelf'
  pub out_grows : SinkGrows out out'

abbrev pub Goes : Option Command → ShelfState → ShelfState → SinkState → SinkState → End → Type 0
Goes asked_for = GoesBy (Understands asked_for) asked_for

-- The watchers that are handed in: whether none has a name; and what is said under a name that one has, once events are told to the first
-- that has it: its text of each list of events that it stands for, with these behind.
pub record Handed : Type 1 where
  pub none : List ℕ → Type 0
  pub says : List ℕ → List Event → List ℕ → Type 0

abbrev pub handed : {W : Type 0} → (W → List ℕ) → (W → List Event → Type 0) → (W → List Event → List ℕ) → List W → Handed
handed {W} called stands text_of ws = record {
  none = λ name. find (λ w. bytes_eq (called w) name) ws ≡ None;
  says = λ name log said. (find (λ w. bytes_eq (called w) name) ws ≡ None → ⊥)
      × ((w : W) → find (λ w. bytes_eq (called w) name) ws ≡ Some w → (h : List Event) → stands w h → said ≡ text_of w (h ++ log));
}

abbrev pub IsSaid : Handed → List ℕ → List Event → Saying → Type 0
IsSaid ws name log Unasked = Unit {0}
IsSaid ws name log NoneNamed = ws.none name
IsSaid ws name log (Says said) = ws.says name log said

-- What was said of a run on an input, where its bytes are got.
abbrev pub IsSaidOf : Handed → List ℕ → Source → ℕ → Got → Saying → Type 0
IsSaidOf ws name P limit (Gets bytes) said = IsSaid ws name (events P limit bytes) said
IsSaidOf ws name P limit (Stops end) said = Unit {0}

-- What a watcher was found to say, where the command asks one.
abbrev pub Watched : Handed → Option Command → List (Option (List ℕ)) → Reading → Type 0
Watched ws (Some (Watch limit program input name)) (p ∷ i ∷ []) (Watches P said) = IsSaidOf ws name P limit (gets input input_most i) said
Watched ws (Some (SelfCover limit seed)) found (Sums P items said) = IsSaid ws counter_name (all_events P limit (input_bytes seed)) said
Watched ws asked_for found understood = Unit {0}

-- What is understood of the files, and what a watcher was found to say.
abbrev pub UnderstandsWith : Handed → Option Command → List (Option (List ℕ)) → Reading → Type 0
UnderstandsWith ws asked_for found understood = Understands asked_for found understood × Watched ws asked_for found understood

abbrev pub GoesWith : Handed → Option Command → ShelfState → ShelfState → SinkState → SinkState → End → Type 0
GoesWith ws asked_for = GoesBy (UnderstandsWith ws asked_for) asked_for

-- A whole call: the run, its status, and the line.
pub record Runs (ws : Handed) (asked_for : Option Command) (shelf shelf' : ShelfState) (out out' err err' : SinkState) (status : Status) : Type 0 where
  pub end : End
  pub status_is : status ≡ status_of end
  pub goes : GoesWith ws asked_for shelf shelf' out out' end
  pub tells : Tells err err' (line_of end)
