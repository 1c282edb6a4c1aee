-- What a watcher says of runs, as the code puts it.
use Rattle.std.specs.Prelude.{◌≡◌, ℕ, List, ◌++◌, Result, Ok, Err, Vec}
use Rattle.std.specs.Global.{Global}
use Rattle.c_meaning.specs.Calls.{Source}
use Rattle.atac_base.specs.Items.{ItemLists}
use Rattle.atac_steps.specs.Ends.{End, OutOfMemory, NotWatched}
use Rattle.atac_steps.specs.Stops.{end_of}
use Rattle.atac_steps.specs.declared.stop.Stop.{Stop}
use Rattle.cover_report.specs.Texts.{totals_text}
use Rattle.probe_watch.specs.Logs.{ends_of, log_of}
use Rattle.atac_self.specs.Summary.{summary_text}
use Rattle.atac_programs.specs.Programs.{section, events, all_events, end_lines, shown}
use Rattle.atac_commands.specs.Readings.{counter_name}
use Rattle.atac_commands.specs.declared.watching.Fed.{Fed}
use Rattle.atac_commands.specs.Runs.{Handed}

-- the section of P's own run, and what is said under the name of its events
pub record IsWatchText (ws : Handed) (P : Source) (limit : ℕ) (input bytes name text : List ℕ) : Type 0 where
  pub said : List ℕ
  pub says : ws.says name (events P limit bytes) said
  pub is : text ≡ section input P bytes limit ++ said

-- the summary of P's own runs on these inputs, and what is said under the name of their events
pub record IsSumText (ws : Handed) (P : Source) (items : ItemLists) (limit length : ℕ) (inputs : List (List ℕ)) (text : List ℕ) : Type 0 where
  pub said : List ℕ
  pub says : ws.says counter_name (all_events P limit inputs) said
  pub is : text ≡ summary_text length (end_lines P limit inputs) (totals_text items (shown P limit inputs)) said

-- how the runs of a program on these inputs ended, and what is said under the name of what they log
pub record IsFed (ws : Handed) (Q : Source) (limit : ℕ) (inputs : List (List ℕ)) (name : List ℕ) (fed : Fed) : Type 0 where
  pub ends : fed.ends.items ≡ ends_of Q limit inputs
  pub says : ws.says name (log_of Q limit inputs) fed.said.items

-- a telling that stops: no watcher has the name, or memory was wanted
abbrev pub FeedStops : Handed → List ℕ → End → Type 0
FeedStops ws name (NotWatched other) = (other ≡ name) × ws.none name
FeedStops ws name OutOfMemory = Unit {0}
FeedStops ws name end = ⊥

abbrev pub FeedEnds : Handed → List ℕ → {T : Type 0} → Result T Stop → Type 0
FeedEnds ws name (Ok x) = Unit {0}
FeedEnds ws name (Err stop) = FeedStops ws name (end_of stop)
