-- What a command reads in its files, and what it tells of traces.
use Rattle.std.specs.Prelude.{◌≡◌, ℕ, ◌+◌, min, Bool, true, ◌&&◌, nat_lt, nat_eq, if◌then◌else◌, List, [], ◌∷◌, ◌++◌, length, codes, Option, Some, None}
use Rattle.std.specs.Fmt.{decimal}
use Rattle.atac_base.specs.Items.{ItemLists}
use Rattle.c_meaning.specs.Calls.{Source}
use Rattle.atac_words.specs.Words.{Command, Check, ListItems, Instrument, Cover, Run, RunInto, Tell, Pick, Watch, SelfCover}
use Rattle.atac_facts.specs.declared.fact.Fact.{Fact}
use Rattle.cover_report.specs.Texts.{report_text, totals_text}
use Rattle.cover_show.specs.Shown.{show_text}
use Rattle.cover_hits.specs.Hits.{hits_text}
use Rattle.atac_self.specs.Summary.{summary_text}
use Rattle.json_out.specs.Json.{json_of}
use Rattle.serde_json.specs.Written.{compact_text}
use Rattle.run_pick.specs.Kept.{facts_of, AreKept, AreEnough}
use Rattle.atac_facts.specs.Sets.{FactSet, holds}
use Rattle.atac_facts.specs.Facts.{fits}
use Rattle.atac_facts.specs.Sums.{most}
use Rattle.atac_facts.specs.Tallies.{count_of}
use Rattle.trace_file.specs.Sums.{AreRows}
use Rattle.trace_file.specs.declared.trace.Trace.{Trace}
use Rattle.atac_words.specs.declared.words.View.{View}
use Rattle.atac_words.specs.declared.words.View.TheVariants as view
use Rattle.atac_traces.specs.Files.{Read}
use Rattle.atac_traces.specs.Totals.{total, count_in}
use Rattle.atac_programs.specs.Programs.{Rejection, IsListing, Unlisted, Unread, Unrecorded, IsProbed, IsInstrumented, Uninstrumented, Counts, IsCounted, IsCovered, IsTaken, IsRecorded, shown, shown_by, end_lines}

-- What a watcher was found to say: it wasn't asked, since memory was wanted; no watcher has the name; or its text.
pub data Saying : Type 0 where
  Unasked : Saying
  NoneNamed : Saying
  Says : (text : List ℕ) → Saying

-- What the files of a command are read as: a program that is refused, with what is said of it; one with its counts; with the
-- list of its items; with its text with probes; one to be run; one to be covered, with its items; one whose traces are told,
-- with its items and what is read in the traces; traces to be merged, with their sum; one to be run into a trace,
-- with what is read in the old trace, and with the new one; one whose runs are picked, with a mark for each that says whether it
-- is kept; one that is watched, with what the watcher was found to say; and a made one that is covered and watched, with its items.
pub data Reading : Type 0 where
  Refuses : (said : List ℕ) → Reading
  Counted : (n : Counts) → Reading
  Listed : (text : List ℕ) → Reading
  Runs : (P : Source) → Reading
  Covers : (P : Source) (items : ItemLists) → Reading
  Probes : (text : List ℕ) → Reading
  Viewed : (P : Source) (items : ItemLists) (reads : List Read) → Reading
  Merges : (reads : List Read) (sum : Option Trace) → Reading
  Records : (P : Source) (old : Option Read) (new : Option Trace) → Reading
  Picks : (P : Source) (items : ItemLists) (marks : Option (List Bool)) → Reading
  Watches : (P : Source) (said : Saying) → Reading
  Sums : (P : Source) (items : ItemLists) (said : Saying) → Reading

-- What a command understands of its program's text.
abbrev pub IsUnderstood : Command → List ℕ → Reading → Type 0
IsUnderstood (Check program) source (Refuses said) = Rejection source said
IsUnderstood (Check program) source (Counted n) = IsCounted source n
IsUnderstood (ListItems program) source (Refuses said) = Unlisted source said
IsUnderstood (ListItems program) source (Listed text) = IsListing source text
IsUnderstood (Cover limit program inputs) source (Refuses said) = Unlisted source said
IsUnderstood (Cover limit program inputs) source (Covers P items) = IsCovered source P items
IsUnderstood (Run limit program input) source (Refuses said) = Unread source said
IsUnderstood (Run limit program input) source (Runs P) = IsProbed source P
IsUnderstood (Instrument program out) source (Refuses said) = Uninstrumented source said
IsUnderstood (Instrument program out) source (Probes text) = IsInstrumented source text
IsUnderstood (RunInto limit program input trace) source (Refuses said) = Unrecorded source said
IsUnderstood (RunInto limit program input trace) source (Records P old new) = IsRecorded source P
IsUnderstood (Tell view program traces) source (Refuses said) = Unlisted source said
IsUnderstood (Tell view program traces) source (Viewed P items reads) = IsCovered source P items
IsUnderstood (Pick limit program inputs) source (Refuses said) = Unlisted source said
IsUnderstood (Pick limit program inputs) source (Picks P items marks) = IsCovered source P items
IsUnderstood (Watch limit program input name) source (Refuses said) = Rejection source said
IsUnderstood (Watch limit program input name) source (Watches P said) = IsTaken source P
IsUnderstood (SelfCover limit seed) source (Refuses said) = Unlisted source said
IsUnderstood (SelfCover limit seed) source (Sums P items said) = IsCovered source P items
IsUnderstood command source understood = ⊥

-- The old trace with one run more, in which these facts were met.
pub record IsRunMore (old new : Trace) (met : Fact → Bool) : Type 0 where
  pub digest : new.digest ≡ old.digest
  pub runs : new.runs ≡ min (old.runs + 1) most
  pub old_runs : new.old_runs ≡ old.old_runs
  pub counts : (f : Fact) → fits f ≡ true → count_of new.tally f ≡ min (count_of old.tally f + (if met f then 1 else 0)) most
  pub rows : AreRows new.tally

-- Whether some run of the traces met a fact.
abbrev pub met_in : List Trace → Fact → Bool
met_in ts f = fits f && nat_lt 0 (count_in ts f)

-- Sets of facts are what the program's own runs on these inputs show, each by itself.
abbrev pub AreShown : Source → ℕ → List (List ℕ) → List FactSet → Type 0
AreShown P limit [] [] = Unit {0}
AreShown P limit (bytes ∷ all) (run ∷ runs) = ((f : Fact) → holds run f ≡ shown_by P limit bytes f) × AreShown P limit all runs
AreShown P limit all runs = ⊥

-- The marks of the runs on these inputs say which of them are kept: a run is, exactly where some item that any run covers is covered
-- neither by a run before it nor by a kept run behind it. So the kept ones cover what all cover, and without any one of them less.
pub record IsPicked (P : Source) (items : ItemLists) (limit : ℕ) (all : List (List ℕ)) (marks : List Bool) : Type 0 where
  pub runs : List FactSet
  pub shown : AreShown P limit all runs
  pub kept : AreKept (facts_of items) runs marks
  pub enough : AreEnough (facts_of items) runs marks

-- No run of theirs was counted in the old way, by facts alone.
abbrev pub are_exact : List Trace → Bool
are_exact ts = nat_eq (total (λ t. t.old_runs) ts) 0

-- The name that a made program goes by, and that of the watcher that is told of it.
abbrev pub made_name : List ℕ
made_name = codes "generated"

abbrev pub counter_name : List ℕ
counter_name = codes "blocks"

-- What is put of a program that was made from a number: its length, how its runs on its inputs ended, the totals of what they cover, and
-- the digest of what the watcher says of them.
abbrev pub summary : Source → ItemLists → ℕ → List ℕ → List (List ℕ) → List ℕ → List ℕ
summary P items limit source inputs said = summary_text (length source) (end_lines P limit inputs) (totals_text items (shown P limit inputs)) said

-- What is told of traces of a program with this text and these items.
abbrev pub view_text : View → List ℕ → ItemLists → List Trace → List ℕ
view_text view.Report source items ts = report_text items (met_in ts)
view_text view.Show source items ts = show_text source items (met_in ts)
view_text view.Hits source items ts = hits_text (are_exact ts) items (count_in ts)
view_text view.Json source items ts = compact_text (json_of items (met_in ts)) ++ 10 ∷ []

-- What is put of traces that are merged.
abbrev pub runs_text : Trace → List ℕ
runs_text sum = codes "runs " ++ (decimal sum.runs ++ 10 ∷ [])

-- The trace that a run is added to: the old one, or one of no run.
abbrev pub begun : Option Trace → List ℕ → Trace
begun None digest = record { digest = digest; runs = 0; old_runs = 0; tally = [] }
begun (Some old) digest = old
