-- What the code holds of a program that it understands.
use Rattle.std.specs.Prelude.{◌≡◌, ℕ, List, [], Option, None, Some, string_bytes}
use Rattle.c_tree.specs.Programs.{digest_in}
use Rattle.c_tree.specs.declared.program.Program as whole
use Rattle.c_meaning.specs.Sources.{source_of}
use Rattle.c_walk.specs.Units.{items_of}
use Rattle.c_sites.specs.ListsView.{lists_shape}
use Rattle.c_sites.specs.declared.numbered.Sites.{Sites}
use Rattle.c_sites.specs.Refused.{AreSites}
use Rattle.c_sites_counts.specs.declared.counting.SiteCounts.{SiteCounts}
use Rattle.c_meaning.specs.Calls.{Source}
use Rattle.probe_rules.specs.Simulation.{Simulates}
use Rattle.c_events.specs.Owners.{owner_in}
use Rattle.probe_laws.specs.Owners.{owner_in_program}
use Rattle.atac_base.specs.Items.{ItemLists}
use Rattle.atac_programs.specs.Programs.{IsAccepted, HasItems, IsListing, IsProbed, IsInstrumented, Uninstrumented, Rejection, Unlisted, Unread, Unrecorded, owner_in_probed, program_in, lists_in, Counts, IsCounted, counts_text}
use Rattle.atac_programs.specs.declared.checking.Checking.{Checking}
use Rattle.atac_programs.specs.declared.checking.Checking.TheVariants as checking
use Rattle.atac_programs.specs.declared.counting.Counting.{Counting}
use Rattle.atac_programs.specs.declared.counting.Counting.TheVariants as counting
use Rattle.atac_programs.specs.declared.listing.Itemising.{Itemising}
use Rattle.atac_programs.specs.declared.listing.Itemising.TheVariants as itemising
use Rattle.atac_programs.specs.declared.listing.Listing.{Listing}
use Rattle.atac_programs.specs.declared.listing.Listing.TheVariants as listing
use Rattle.atac_programs.specs.declared.probing.Probing.{Probing}
use Rattle.atac_programs.specs.declared.probing.Probing.TheVariants as probing
use Rattle.atac_programs.specs.declared.recordable.Recordable.{Recordable}
use Rattle.atac_programs.specs.declared.recordable.Recording.{Recording}
use Rattle.atac_programs.specs.declared.recordable.Recording.TheVariants as recording
use Rattle.atac_programs.specs.declared.program.Understood.{Understood}
use Rattle.atac_programs.specs.declared.program.Reading.{Reading}
use Rattle.atac_programs.specs.declared.program.Reading.TheVariants as reading
use Rattle.atac_programs.specs.declared.program.Watchable.{Watchable}
use Rattle.atac_programs.specs.declared.program.Watchable.TheVariants as watchable
use Rattle.atac_programs.specs.declared.program.Runnable.{Runnable}
use Rattle.atac_programs.specs.declared.program.Runnable.TheVariants as runnable

-- a program that does with its probes what this one does, and the decisions that this one's uses belong to
pub record Holds (P : Source) (u : Understood) : Type 0 where
  pub simulates : Simulates (source_of u.probed) P
  pub owners : (n : ℕ) → owner_in u.owners n ≡ owner_in_program P n

-- what the code answers of a text that is to be checked: why it is not accepted, or its program and sites
pub record HasSites (source : List ℕ) (p : whole.Program) (s : Sites) : Type 0 where
  pub accepted : IsAccepted source
  pub program : source_of p ≡ program_in accepted
  pub lists : lists_shape s.lists ≡ lists_in accepted.tables (items_of accepted.tables accepted.unit)
  pub sites : AreSites p s

abbrev pub CheckedAs : List ℕ → Checking → Type 0
CheckedAs source (checking.Refuses said) = Rejection source (string_bytes said)
CheckedAs source (checking.Accepts p s) = HasSites source p s

-- what the code answers of a text whose items are to be counted: why it is not accepted, or the line of the counts
abbrev pub counts_told : SiteCounts → Counts
counts_told n = record { blocks = n.blocks; decisions = n.decisions; definitions = n.defs; uses = n.uses }

pub record SaysCounts (source line : List ℕ) : Type 0 where
  pub counts : Counts
  pub counted : IsCounted source counts
  pub says : line ≡ counts_text counts

abbrev pub CountedAs : List ℕ → Counting → Type 0
CountedAs source (counting.Refuses said) = Rejection source (string_bytes said)
CountedAs source (counting.Counts line) = SaysCounts source (string_bytes line)

-- what the code answers of a text whose items are wanted: why there are none; or its program, sites and items
pub record IsItemised (source : List ℕ) (p : whole.Program) (s : Sites) (items : ItemLists) : Type 0 where
  pub sites : HasSites source p s
  pub has : HasItems sites.accepted items

abbrev pub ItemisedAs : List ℕ → Itemising → Type 0
ItemisedAs source (itemising.Refuses said) = Unlisted source (string_bytes said)
ItemisedAs source (itemising.Has p s items) = IsItemised source p s items

-- and of one that is to be listed
abbrev pub ListedAs : List ℕ → Listing → Type 0
ListedAs source (listing.Refuses said) = Unlisted source (string_bytes said)
ListedAs source (listing.Lists text) = IsListing source text.items

-- and of one that is to be covered
pub record CoveredAs (source : List ℕ) (u : Understood) : Type 0 where
  pub accepted : IsAccepted source
  pub holds : Holds (program_in accepted) u
  pub has : HasItems accepted u.items

abbrev pub ReadAs : List ℕ → Reading → Type 0
ReadAs source (reading.Refuses said) = Unlisted source (string_bytes said)
ReadAs source (reading.Covers understood) = CoveredAs source understood

-- and of one that is to be run
abbrev pub RunAs : List ℕ → Runnable → Type 0
RunAs source (runnable.Refuses said) = Unread source (string_bytes said)
RunAs source (runnable.Runs p) = IsProbed source (source_of p)

-- and of one whose run is to be watched
pub record IsWatchable (source : List ℕ) (p : whole.Program) : Type 0 where
  pub accepted : IsAccepted source
  pub simulates : Simulates (source_of p) (program_in accepted)

abbrev pub WatchAs : List ℕ → Watchable → Type 0
WatchAs source (watchable.Refuses said) = Rejection source (string_bytes said)
WatchAs source (watchable.Watches p) = IsWatchable source p

-- and of one whose text with probes is wanted
abbrev pub ProbedAs : List ℕ → Probing → Type 0
ProbedAs source (probing.Refuses said) = Uninstrumented source (string_bytes said)
ProbedAs source (probing.Probes text) = IsInstrumented source text.items

-- the owners are those of the program's use probes
abbrev pub HasOwners : Recordable → Type 0
HasOwners r = (u : ℕ) → owner_in r.owners u ≡ owner_in_probed (source_of r.program) u

-- and of one that is to be run into a trace
pub record IsRecordable (source : List ℕ) (r : Recordable) : Type 0 where
  pub read : IsProbed source (source_of r.program)
  pub line : digest_in (source_of r.program).unit.line ≡ Some r.digest
  pub owners : HasOwners r

abbrev pub RecordAs : List ℕ → Recording → Type 0
RecordAs source (recording.Refuses said) = Unrecorded source (string_bytes said)
RecordAs source (recording.Records r) = IsRecordable source r
