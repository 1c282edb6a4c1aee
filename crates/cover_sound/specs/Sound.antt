-- The numbers of what a run logs, and of the facts that it covers: each is one that a trace may have.
use Rattle.std.specs.Prelude.{◌≡◌, ℕ, List, Option, true, IsTrue}
use Rattle.std.specs.List.{AllByRecursion}
use Rattle.c_events.specs.declared.events.Event.{Event}
use Rattle.c_meaning.specs.Calls.{Source}
use Rattle.c_meaning.specs.Runs.{run}
use Rattle.c_meaning.specs.Lasting.{IsTold}
use Rattle.atac_facts.specs.declared.fact.Fact.{Fact}
use Rattle.atac_facts.specs.Facts.{fits}
use Rattle.cover_law.specs.Covers.{covers}
use Rattle.trace_file.specs.Sound.{SoundFact}

abbrev pub AreTold : List Event → Type 0
AreTold events = AllByRecursion IsTold events

-- what a program logs by its probes, whatever the program, the input and the limit are
abbrev pub LogsAreTold : Type 0
LogsAreTold = (P : Source) (input : List ℕ) (limit : ℕ) → AreTold (run P input limit).log

-- a fact that such events cover, whoever owns the uses
abbrev pub CoveredFactsAreSound : Type 0
CoveredFactsAreSound = (owner : ℕ → Option ℕ) (events : List Event) (f : Fact) → AreTold events → fits f ≡ true → IsTrue (covers owner events f) → SoundFact f
