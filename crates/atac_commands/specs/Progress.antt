-- One input of a cover, and how far a cover has come.
use Rattle.std.specs.Prelude.{◌≡◌, ◌⊎◌, ◌||◌, ℕ, ◌+◌, Bool, List, ◌++◌, length, Option, Result, Ok, Err}
use Rattle.std.specs.Io.KnownBytes.{append_known}
use Rattle.c_events.specs.Owners.{owner_in}
use Rattle.atac_facts.specs.declared.fact.Fact.{Fact}
use Rattle.atac_facts.specs.Sets.{holds}
use Rattle.atac_base.specs.Outside.{ShelfState, SinkState, Agrees, IsFront}
use Rattle.atac_base.specs.Items.{ItemLists}
use Rattle.c_meaning.specs.Calls.{Source}
use Rattle.c_meaning.specs.Deeds.{told}
use Rattle.c_meaning.specs.Runs.{run_heard}
use Rattle.c_meaning.specs.Sources.{source_of}
use Rattle.probe_rules.specs.Simulation.{Simulates}
use Rattle.probe_laws.specs.Owners.{owner_in_program}
use Rattle.cover_core.specs.Stands.{owners_of}
use Rattle.cover_law.specs.Covers.{covers}
use Rattle.atac_words.specs.Words.{Command}
use Rattle.atac_steps.specs.Ends.{End}
use Rattle.atac_programs.specs.Programs.{section, with_run}
use Rattle.atac_commands.specs.Readings.{Reading}
use Rattle.atac_commands.specs.Answers.{Answer, input_most, asked, names, joined}
use Rattle.atac_commands.specs.Runs.{Understands}
use Rattle.atac_steps.specs.Got.{gets, Gets, AllAgree}
use Rattle.atac_steps.specs.Grows.{ShelfGrows, SinkGrows}
use Rattle.atac_steps.specs.Steps.{FetchStops, PutStops}
use Rattle.atac_steps.specs.Stops.{end_of}
use Rattle.atac_steps.specs.declared.stop.Stop.{Stop}
use Rattle.atac_commands.specs.declared.covering.Covering.{Covering}

-- what the code holds while P is covered: a program that does with its probes what P does, the decisions of P's uses, P's items,
-- and the facts so far
pub record Stands (P : Source) (items : ItemLists) (has : Fact → Bool) (c : Covering) : Type 0 where
  pub simulates : Simulates (source_of c.probed) P
  pub owners : (n : ℕ) → owner_in (owners_of c.collector) n ≡ owner_in_program P n
  pub listed : c.items ≡ items
  pub facts : (f : Fact) → holds c.facts f ≡ has f

-- A section that stops: at its fetch, with nothing put; or behind it, with a front of the section.
abbrev pub SectionStops : ShelfState → ShelfState → SinkState → SinkState → List ℕ → Source → ℕ → Option (List ℕ) → End → Type 0
SectionStops shelf shelf' out out' input P limit found e =
    (FetchStops shelf shelf' input input_most found e × (out'.bytes ≡ out.bytes))
    ⊎ ((bytes : List ℕ) × (gets input input_most found ≡ Gets bytes)
    × ((front : List ℕ) × IsFront front (section input P bytes limit) × (out'.bytes ≡ append_known out.bytes front)) × PutStops out out' e)

abbrev pub SectionGives : ShelfState → ShelfState → SinkState → SinkState → List ℕ → Source → ItemLists → ℕ → (Fact → Bool) → Covering → Option (List ℕ) → Result (Unit {0}) Stop → Type 0
SectionGives shelf shelf' out out' input P items limit has c found (Ok x) =
    (bytes : List ℕ) × (gets input input_most found ≡ Gets bytes) × (out'.bytes ≡ append_known out.bytes (section input P bytes limit)) × Stands P items (with_run P limit bytes has) c
SectionGives shelf shelf' out out' input P items limit has c found (Err stop) = SectionStops shelf shelf' out out' input P limit found (end_of stop)

pub record SectionGoes (input : List ℕ) (P : Source) (items : ItemLists) (limit : ℕ) (has : Fact → Bool) (c : Covering) (shelf shelf' : ShelfState) (out out' : SinkState) (result : Result (Unit {0}) Stop) : Type 0 where
  pub found : Option (List ℕ)
  pub agrees : Agrees (shelf.says input) found
  pub gives : SectionGives shelf shelf' out out' input P items limit has c found result
  pub says : shelf'.says ≡ shelf.says
  pub shelf_grows : ShelfGrows shelf shelf'
  pub out_grows : SinkGrows out out'

-- A command has come so far: its program is understood, and what is left of its answer is `go`, by what will be found under the names that are left.
pub record Came (asked_for : Option Command) (understood : Reading) (shelf shelf' : ShelfState) (out out' : SinkState) (left : List (List ℕ)) (go : List (Option (List ℕ)) → Answer) (sections : List (List ℕ)) : Type 0 where
  pub found : List (Option (List ℕ))
  pub agrees : (rest : List (Option (List ℕ))) → AllAgree shelf.says left rest → AllAgree shelf.says (names asked_for) (found ++ rest)
  pub understands : (rest : List (Option (List ℕ))) → Understands asked_for (found ++ rest) understood
  pub is : (rest : List (Option (List ℕ))) → asked asked_for understood (found ++ rest) ≡ go rest
  pub at : (fetched : List (List ℕ)) × (names asked_for ≡ fetched ++ left) × (length fetched ≡ length sections + 1)
  pub bytes : out'.bytes ≡ append_known out.bytes (joined sections)
  pub says : shelf'.says ≡ shelf.says
  pub shelf_grows : ShelfGrows shelf shelf'
  pub out_grows : SinkGrows out out'
