-- Runs that are gathered, input by input, and what is said of those that are kept.
use Rattle.std.specs.Prelude.{◌≡◌, ℕ, Bool, List, [], ◌++◌, length, slice_get, Option, Some, Result, Ok, Err}
use Rattle.c_events.specs.Owners.{owner_in}
use Rattle.atac_facts.specs.declared.fact.Fact.{Fact}
use Rattle.atac_facts.specs.Sets.{holds}
use Rattle.atac_base.specs.Outside.{ShelfState, Rose}
use Rattle.atac_base.specs.Items.{ItemLists}
use Rattle.c_meaning.specs.Calls.{Source}
use Rattle.c_meaning.specs.Sources.{source_of}
use Rattle.probe_rules.specs.Simulation.{Simulates}
use Rattle.probe_laws.specs.Owners.{owner_in_program}
use Rattle.cover_core.specs.Stands.{owners_of}
use Rattle.run_pick.specs.Lines.{pick_text}
use Rattle.atac_steps.specs.Ends.{End, NotHeld, TooLong, ReadFailed, OutOfMemory}
use Rattle.atac_steps.specs.Got.{AllAgree}
use Rattle.atac_steps.specs.Grows.{ShelfGrows}
use Rattle.atac_steps.specs.Stops.{end_of}
use Rattle.atac_steps.specs.declared.stop.Stop.{Stop}
use Rattle.atac_programs.specs.Programs.{shown}
use Rattle.atac_commands.specs.Readings.{AreShown, IsPicked}
use Rattle.atac_commands.specs.Answers.{Answer, gathering, refused}
use Rattle.atac_commands.specs.Runs.{AreGot}
use Rattle.atac_commands.specs.declared.picking.Gathering.{Gathering}

-- what the code holds of P's runs on these inputs: a program that does with its probes what P does, the decisions of P's uses, P's
-- items, and what each run shows and all show
pub record Gathers (P : Source) (items : ItemLists) (limit : ℕ) (all : List (List ℕ)) (g : Gathering) : Type 0 where
  pub simulates : Simulates (source_of g.probed) P
  pub owners : (n : ℕ) → owner_in (owners_of g.collector) n ≡ owner_in_program P n
  pub listed : g.items ≡ items
  pub each : AreShown P limit all g.runs.items
  pub all_show : (f : Fact) → holds g.all f ≡ shown P limit all f

-- A gathering that stops, by what was found under the names of the inputs: at a fetch, or for want of memory.
abbrev pub GatherStops : ShelfState → ShelfState → List (List ℕ) → List (Option (List ℕ)) → End → Type 0
GatherStops shelf shelf' names found (NotHeld file) = (got : List (List ℕ)) (go : List (List ℕ) → Answer) → gathering names found got go ≡ refused [] (NotHeld file)
GatherStops shelf shelf' names found (TooLong file) = (got : List (List ℕ)) (go : List (List ℕ) → Answer) → gathering names found got go ≡ refused [] (TooLong file)
GatherStops shelf shelf' names found (ReadFailed file) = Rose shelf.read_faults shelf'.read_faults × ((k : ℕ) × (slice_get names k ≡ Some file))
GatherStops shelf shelf' names found OutOfMemory = Unit {0}
GatherStops shelf shelf' names found end = ⊥

abbrev pub GatherGives : Source → ItemLists → ℕ → List (List ℕ) → List (List ℕ) → Gathering → ShelfState → ShelfState → List (Option (List ℕ)) → Result (Unit {0}) Stop → Type 0
GatherGives P items limit got names g shelf shelf' found (Ok x) = (all : List (List ℕ)) × AreGot names found all × Gathers P items limit (got ++ all) g
GatherGives P items limit got names g shelf shelf' found (Err stop) = GatherStops shelf shelf' names found (end_of stop)

-- The inputs of these names are gathered, behind those that were got.
pub record GatherGoes (P : Source) (items : ItemLists) (limit : ℕ) (got names : List (List ℕ)) (g : Gathering) (shelf shelf' : ShelfState) (result : Result (Unit {0}) Stop) : Type 0 where
  pub found : List (Option (List ℕ))
  pub agrees : AllAgree shelf.says names found
  pub gives : GatherGives P items limit got names g shelf shelf' found result
  pub says : shelf'.says ≡ shelf.says
  pub grows : ShelfGrows shelf shelf'

-- What is said of P's runs on these inputs: which are kept, and the totals of all.
pub record IsPickText (P : Source) (items : ItemLists) (limit : ℕ) (names all : List (List ℕ)) (text : List ℕ) : Type 0 where
  pub marks : List Bool
  pub picked : IsPicked P items limit all marks
  pub is : text ≡ pick_text marks names items (shown P limit all)
