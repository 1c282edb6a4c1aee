-- What a text is, as a program that is checked, listed, given its probes, run, or covered; and the texts of its runs.
use Rattle.std.specs.Prelude.{◌≡◌, ℕ, ◌+◌, Bool, false, ◌||◌, nat_lt, cond, List, [], ◌∷◌, ◌++◌, flat_map, length, codes, Option, Some, None}
use Rattle.std.specs.Fmt.{decimal}
use Rattle.c_base.specs.declared.place.Pos.{Pos}
use Rattle.atac_base.specs.Items.{ItemLists}
use Rattle.c_syntax.specs.Shape as full
use Rattle.c_tables.specs.Tables.{TablesShape}
use Rattle.c_lex.specs.declared.lexer.TextKind.TheVariants.{Plain, Probed}
use Rattle.c_front.specs.Front as front
use Rattle.c_front.specs.Names.{name}
use Rattle.c_walk.specs.Items.{Item}
use Rattle.c_walk.specs.Units.{items_of}
use Rattle.c_sites.specs.Lists.{Lists, lists_of}
use Rattle.c_sites.specs.Numbers.{names_of}
use Rattle.c_sites.specs.declared.numbered.Sites.{Sites}
use Rattle.c_sites.specs.Refused.{refusal, AreNumbered}
use Rattle.pair_list.specs.Items.{AreItems, AreTooMany}
use Rattle.pair_list.specs.Missing.{MissesNone}
use Rattle.c_meaning.specs.Calls.{Source}
use Rattle.c_meaning.specs.Deeds.{told}
use Rattle.c_meaning.specs.Runs.{run, run_heard}
use Rattle.c_events.specs.declared.events.Event.{Event}
use Rattle.atac_facts.specs.declared.fact.Fact.{Fact}
use Rattle.probe_laws.specs.Owners.{owner_in_program}
use Rattle.cover_law.specs.Covers.{covers}
use Rattle.cover_report.specs.ItemTexts.{list_text}
use Rattle.cover_report.specs.Texts.{report_text}
use Rattle.hex.specs.Hex.{encode_lower}
use Rattle.sha2.specs.Sha256.{sha256}
use Rattle.atac_facts.specs.Facts.{fits}
use Rattle.atac_facts.specs.Sums.{most}
use Rattle.c_tree.specs.Programs.{digest_in}
use Rattle.c_sites_probes.specs.Owned.{owned_in, owner_of}
use Rattle.probe_rules.specs.Instrumented.{instrumented}
use Rattle.probe_text.specs.Text.{text_in, Fits}
use Rattle.atac_programs.specs.Sections.{section_text, end_line_text}

-- What is said of a program that is refused: the place, the number and its name.
abbrev pub refusal_text : ℕ → Pos → List ℕ
refusal_text number p = 58 ∷ decimal p.line ++ (58 ∷ decimal p.col ++ (codes ": " ++ (decimal number ++ 32 ∷ name number)))

-- The text is a program, and its sites are not refused.
pub record IsAccepted (source : List ℕ) : Type 0 where
  pub unit : full.UnitShape
  pub tables : TablesShape
  pub read : front.IsRead Plain source (front.program unit tables)
  pub clean : refusal tables unit ≡ None

-- That program.
abbrev pub program_in : {source : List ℕ} → IsAccepted source → Source
program_in a = record { unit = a.unit; tables = a.tables }

-- Why a text is not accepted: the front end refuses it, or it is a program whose sites are refused.
pub data Rejection (source said : List ℕ) : Type 0 where
  by_front : (number : ℕ) (p : Pos) → front.IsRead Plain source (front.refused number p) → said ≡ refusal_text number p → Rejection source said
  by_sites : (u : full.UnitShape) (t : TablesShape) (number : ℕ) (p : Pos) → front.IsRead Plain source (front.program u t) → refusal t u ≡ Some (number, p) → said ≡ refusal_text number p → Rejection source said

-- These are the items of an accepted program, by sites that are its own; they miss no pair of one local variable that a run covers.
pub record HasItems {source : List ℕ} (a : IsAccepted source) (items : ItemLists) : Type 0 where
  pub sites : Sites
  pub numbered : AreNumbered a.tables.structures (items_of a.tables a.unit) sites
  pub are : AreItems a.tables a.unit sites items
  pub misses_none : MissesNone (program_in a) sites items

-- The text is accepted, and this is the list of its program's items.
pub record IsListing (source text : List ℕ) : Type 0 where
  pub accepted : IsAccepted source
  pub items : ItemLists
  pub has : HasItems accepted items
  pub text_is : text ≡ list_text items

-- Why there are no items: the text is not accepted; or its c-uses and p-uses are too many, which is said of its first place.
pub data Unlisted (source said : List ℕ) : Type 0 where
  not_accepted : Rejection source said → Unlisted source said
  too_many : (a : IsAccepted source) (s : Sites) → AreNumbered a.tables.structures (items_of a.tables a.unit) s → AreTooMany a.tables a.unit s → said ≡ refusal_text 51 (record { line = 1; col = 1 }) → Unlisted source said

-- Why a text is refused that is to be run: the front end refuses it, read as a text with probes.
pub record Unread (source said : List ℕ) : Type 0 where
  pub number : ℕ
  pub place : Pos
  pub read : front.IsRead Probed source (front.refused number place)
  pub said_is : said ≡ refusal_text number place

-- Or it is a program without a program line, which is said of its first place.
pub data Unrecorded (source said : List ℕ) : Type 0 where
  not_read : Unread source said → Unrecorded source said
  not_probed : (P : Source) → front.IsRead Probed source (front.program P.unit P.tables) → digest_in P.unit.line ≡ None → said ≡ refusal_text 53 (record { line = 1; col = 1 }) → Unrecorded source said

-- The text, read so, is this program.
abbrev pub IsProbed : List ℕ → Source → Type 0
IsProbed source P = front.IsRead Probed source (front.program P.unit P.tables)

-- The program with its probes, behind a line with the digest of the text.
abbrev pub with_probes : List ℕ → Source → Source
with_probes source P = instrumented (encode_lower (sha256 source)) P

-- The text is accepted, and this is its text with probes, which is within the limits of such a text.
pub record IsInstrumented (source text : List ℕ) : Type 0 where
  pub accepted : IsAccepted source
  pub is : text ≡ text_in (with_probes source (program_in accepted)).unit
  pub fits : Fits (with_probes source (program_in accepted)).unit

-- Why there is no such text: the text is not accepted; or its text with probes passes the limits, which is said of its first place.
pub data Uninstrumented (source said : List ℕ) : Type 0 where
  not_plain : Rejection source said → Uninstrumented source said
  too_large : (a : IsAccepted source) → (Fits (with_probes source (program_in a)).unit → ⊥) → said ≡ refusal_text 54 (record { line = 1; col = 1 }) → Uninstrumented source said

-- How many blocks, decisions, definitions and uses a program has.
pub record Counts : Type 0 where
  pub blocks : ℕ
  pub decisions : ℕ
  pub definitions : ℕ
  pub uses : ℕ

abbrev pub counts_in : Lists → Counts
counts_in l = record { blocks = length l.blocks; decisions = length l.decisions; definitions = length l.defs; uses = length l.uses }

-- its lists of them
abbrev pub lists_in : TablesShape → List Item → Lists
lists_in t is = lists_of (names_of t.structures is) t.structures is

abbrev pub counts_of : TablesShape → full.UnitShape → Counts
counts_of t u = counts_in (lists_in t (items_of t u))

-- The line that tells them.
abbrev pub counts_text : Counts → List ℕ
counts_text n =
    codes "accepted: " ++ (decimal n.blocks ++ (codes " blocks, " ++ (decimal n.decisions ++ (codes " decisions, " ++ (decimal n.definitions ++ (codes " definitions, " ++ (decimal n.uses ++ codes " uses\n")))))))

-- The text is accepted, and has these counts.
pub record IsCounted (source : List ℕ) (n : Counts) : Type 0 where
  pub accepted : IsAccepted source
  pub counts : n ≡ counts_of accepted.tables accepted.unit

-- The text is accepted as P, which has these items.
pub record IsCovered (source : List ℕ) (P : Source) (items : ItemLists) : Type 0 where
  pub accepted : IsAccepted source
  pub program : P ≡ program_in accepted
  pub has : HasItems accepted items

-- The text is accepted as P.
pub record IsTaken (source : List ℕ) (P : Source) : Type 0 where
  pub accepted : IsAccepted source
  pub program : P ≡ program_in accepted

-- The text is a program with a program line.
pub record IsRecorded (source : List ℕ) (P : Source) : Type 0 where
  pub read : IsProbed source P
  pub digest : List ℕ
  pub line : digest_in P.unit.line ≡ Some digest

-- The section of a program's own run, by the input's name and bytes and the most turns.
abbrev pub section : List ℕ → Source → List ℕ → ℕ → List ℕ
section input P bytes limit = section_text input (run P bytes limit)

-- The events of a program's own run, as they are told.
abbrev pub events : Source → ℕ → List ℕ → List Event
events P limit bytes = told (run_heard P bytes limit).deeds

-- What one of them shows: by its events, and the decisions that the program's uses belong to.
abbrev pub shown_by : Source → ℕ → List ℕ → Fact → Bool
shown_by P limit bytes = covers (owner_in_program P) (events P limit bytes)

-- What some of a program's own runs on these inputs shows, each by itself.
abbrev pub shown : Source → ℕ → List (List ℕ) → Fact → Bool
shown P limit [] f = false
shown P limit (bytes ∷ rest) f = shown_by P limit bytes f || shown P limit rest f

-- The same, with what one more run shows.
abbrev pub with_run : Source → ℕ → List ℕ → (Fact → Bool) → Fact → Bool
with_run P limit bytes has f = has f || shown_by P limit bytes f

-- The report: an item is covered where some of these runs shows it.
abbrev pub report : Source → ItemLists → ℕ → List (List ℕ) → List ℕ
report P items limit inputs = report_text items (shown P limit inputs)

-- The events of the runs on several inputs, one after the other.
abbrev pub all_events : Source → ℕ → List (List ℕ) → List Event
all_events P limit = flat_map (events P limit)

-- The lines of how the runs on several inputs ended.
abbrev pub end_lines : Source → ℕ → List (List ℕ) → List ℕ
end_lines P limit = flat_map (λ bytes. end_line_text (run P bytes limit))

-- The decision that a use probe of a program with probes belongs to.
abbrev pub owner_in_probed : Source → ℕ → Option ℕ
owner_in_probed P u = cond (nat_lt u 65536) (owner_of u (owned_in P.unit)) None

-- What a run of it shows, by its own log.
abbrev pub met_by : Source → ℕ → List ℕ → Fact → Bool
met_by P limit bytes f = covers (owner_in_probed P) (run P bytes limit).log f
