-- What was understood of a text, by what the code answered.
use Rattle.std.proofs.Common.{◌≡◌, refl, ap, sym, ◌∙◌, subst, List, [], ◌∷◌, ℕ, zero, suc, ◌<◌, ◌≤◌, length, Bool, true, false, nat_lt, Option, None, Some, arith, cond, slice_get}
use Rattle.std.proofs.lemmas.Bool.Decides.{nat_tests}
use Rattle.std.specs.Prelude.{string_bytes, unwrap_or}
use Rattle.c_events.specs.Owners.{owner_in}
use Rattle.c_sites_probes.specs.Owned.{owner_of}
use Rattle.c_sites_probes.specs.Owners.{AreOwners}
use Rattle.c_sites.specs.Refused.{refusal}
use Rattle.probe_laws.specs.Owners.{owner_in_program}
use Rattle.probe_laws.proofs.Owners.{program_owns_few}
use Rattle.c_base.specs.declared.place.Pos.{Pos}
use Rattle.c_lex.specs.declared.lexer.TextKind.{TextKind}
use Rattle.c_syntax.specs.View.{unit_shape}
use Rattle.c_tables.specs.Tables.{tables_shape}
use Rattle.c_walk.specs.Units.{items_of}
use Rattle.atac_base.specs.Items.{ItemLists}
use Rattle.pair_list.specs.Items.{AreItems, AreTooMany}
use Rattle.pair_list.specs.Missing.{MissesNone}
use Rattle.c_meaning.specs.Calls.{Source}
use Rattle.c_meaning.specs.Sources.{source_of}
use Rattle.c_front.specs.declared.front.FrontRefusal.{FrontRefusal}
use Rattle.c_front.specs.declared.front.FrontRefusal.TheVariants.{At}
use Rattle.c_front.specs.Front as front
use Rattle.atac_programs.specs.declared.listing.Itemising.{Itemising}
use Rattle.atac_programs.specs.declared.listing.Itemising.TheVariants as itemisings
use Rattle.atac_programs.specs.declared.listing.Listing.{Listing}
use Rattle.atac_programs.specs.declared.listing.Listing.TheVariants as listings
use Rattle.atac_programs.specs.declared.probing.Probing.{Probing}
use Rattle.atac_programs.specs.declared.probing.Probing.TheVariants as probings
use Rattle.atac_programs.specs.declared.recordable.Recordable.{Recordable}
use Rattle.atac_programs.specs.declared.recordable.Recording.{Recording}
use Rattle.atac_programs.specs.declared.recordable.Recording.TheVariants as recordings
use Rattle.atac_programs.specs.declared.program.Understood.{Understood}
use Rattle.atac_programs.specs.declared.program.Watchable.{Watchable}
use Rattle.atac_programs.specs.declared.program.Watchable.TheVariants as watchables
use Rattle.atac_programs.specs.declared.program.Runnable.{Runnable}
use Rattle.atac_programs.specs.declared.program.Runnable.TheVariants as runnables
use Rattle.atac_programs.specs.declared.program.Reading.{Reading}
use Rattle.atac_programs.specs.declared.program.Reading.TheVariants as reading
use Rattle.atac_programs.specs.Programs.{Rejection, Unlisted, too_many, HasItems, IsListing, IsInstrumented, Uninstrumented, Unread, Unrecorded, IsProbed, owner_in_probed, program_in, with_probes, refusal_text}
use Rattle.hex.specs.Hex.{encode_lower}
use Rattle.sha2.specs.Sha256.{sha256}
use Rattle.probe_rules.specs.Instrumented.{instrumented}
use Rattle.c_sites_probes.specs.Owned.{owned_in}
use Rattle.atac_programs.specs.Understanding.{HasSites, CheckedAs, SaysCounts, CountedAs, IsItemised, ItemisedAs, ListedAs, CoveredAs, ReadAs, RunAs, IsWatchable, WatchAs, ProbedAs, IsRecordable, RecordAs}
use Rattle.atac_programs.specs.declared.counting.Counting.{Counting}
use Rattle.atac_programs.specs.declared.counting.Counting.TheVariants as counting
use Rattle.atac_programs.specs.declared.checking.Checking.{Checking}
use Rattle.atac_programs.specs.declared.checking.Checking.TheVariants as checking
use Rattle.c_sites.specs.declared.numbered.Sites.{Sites}
use Rattle.c_sites.specs.declared.all_sites.SiteRefusal.{SiteRefusal}
use Rattle.c_sites.specs.declared.all_sites.SiteRefusal.TheVariants as site
use Rattle.c_sites.specs.Refused as sites
use Rattle.c_tree.specs.declared.program.Program.{Program}

pub read_refused : (r : Reading) (said : _) (s t : List ℕ) → r ≡ reading.Refuses said → s ≡ t → ReadAs s r → Unlisted t (string_bytes said)
read_refused r said s t e same h = subst (λ (x : List ℕ). ReadAs x (reading.Refuses said)) same (subst (ReadAs s) e h)

pub read_given : (r : Reading) (u : Understood) (s t : List ℕ) → r ≡ reading.Covers u → s ≡ t → ReadAs s r → CoveredAs t u
read_given r u s t e same h = subst (λ (x : List ℕ). ReadAs x (reading.Covers u)) same (subst (ReadAs s) e h)

pub itemise_refused : (r : Itemising) (said : _) (s t : List ℕ) → r ≡ itemisings.Refuses said → s ≡ t → ItemisedAs s r → Unlisted t (string_bytes said)
itemise_refused r said s t e same h = subst (λ (x : List ℕ). ItemisedAs x (itemisings.Refuses said)) same (subst (ItemisedAs s) e h)

pub itemise_given : (r : Itemising) (p : Program) (found : Sites) (items : ItemLists) (s t : List ℕ) → r ≡ itemisings.Has p found items → s ≡ t → ItemisedAs s r → IsItemised t p found items
itemise_given r p found items s t e same h = subst (λ (x : List ℕ). ItemisedAs x (itemisings.Has p found items)) same (subst (ItemisedAs s) e h)

pub unread : (r : Runnable) (said : _) (s t : List ℕ) → r ≡ runnables.Refuses said → s ≡ t → RunAs s r → Unread t (string_bytes said)
unread r said s t e same h = subst (λ (x : List ℕ). RunAs x (runnables.Refuses said)) same (subst (RunAs s) e h)

pub runnable : (r : Runnable) (p : Program) (s t : List ℕ) → r ≡ runnables.Runs p → s ≡ t → RunAs s r → IsProbed t (source_of p)
runnable r p s t e same h = subst (λ (x : List ℕ). RunAs x (runnables.Runs p)) same (subst (RunAs s) e h)

pub watch_refused : (r : Watchable) (said : _) (s t : List ℕ) → r ≡ watchables.Refuses said → s ≡ t → WatchAs s r → Rejection t (string_bytes said)
watch_refused r said s t e same h = subst (λ (x : List ℕ). WatchAs x (watchables.Refuses said)) same (subst (WatchAs s) e h)

pub watch_given : (r : Watchable) (p : Program) (s t : List ℕ) → r ≡ watchables.Watches p → s ≡ t → WatchAs s r → IsWatchable t p
watch_given r p s t e same h = subst (λ (x : List ℕ). WatchAs x (watchables.Watches p)) same (subst (WatchAs s) e h)

pub list_refused : (r : Listing) (said : _) (s t : List ℕ) → r ≡ listings.Refuses said → s ≡ t → ListedAs s r → Unlisted t (string_bytes said)
list_refused r said s t e same h = subst (λ (x : List ℕ). ListedAs x (listings.Refuses said)) same (subst (ListedAs s) e h)

pub list_given : (r : Listing) (text : _) (s t : List ℕ) → r ≡ listings.Lists text → s ≡ t → ListedAs s r → IsListing t text.items
list_given r text s t e same h = subst (λ (x : List ℕ). ListedAs x (listings.Lists text)) same (subst (ListedAs s) e h)

pub probe_refused : (r : Probing) (said : _) (s t : List ℕ) → r ≡ probings.Refuses said → s ≡ t → ProbedAs s r → Uninstrumented t (string_bytes said)
probe_refused r said s t e same h = subst (λ (x : List ℕ). ProbedAs x (probings.Refuses said)) same (subst (ProbedAs s) e h)

pub probe_given : (r : Probing) (text : _) (s t : List ℕ) → r ≡ probings.Probes text → s ≡ t → ProbedAs s r → IsInstrumented t text.items
probe_given r text s t e same h = subst (λ (x : List ℕ). ProbedAs x (probings.Probes text)) same (subst (ProbedAs s) e h)

pub record_refused : (r : Recording) (said : _) (s t : List ℕ) → r ≡ recordings.Refuses said → s ≡ t → RecordAs s r → Unrecorded t (string_bytes said)
record_refused r said s t e same h = subst (λ (x : List ℕ). RecordAs x (recordings.Refuses said)) same (subst (RecordAs s) e h)

pub recordable : (r : Recording) (p : Recordable) (s t : List ℕ) → r ≡ recordings.Records p → s ≡ t → RecordAs s r → IsRecordable t p
recordable r p s t e same h = subst (λ (x : List ℕ). RecordAs x (recordings.Records p)) same (subst (RecordAs s) e h)

-- the program that was instrumented, behind the digest of the text
pub probed_same : (text digest : List ℕ) (p q : Program) (s : Sites) (h : HasSites text p s) → digest ≡ sha256 text → source_of q ≡ instrumented (encode_lower digest) (source_of p)
    → source_of q ≡ with_probes text (program_in h.accepted)
probed_same text digest p q s h same is = is ∙ ap (λ d. instrumented (encode_lower d) (source_of p)) same ∙ ap (λ (x : Source). instrumented (encode_lower (sha256 text)) x) h.program

pub check_refused : (r : Checking) (said : _) (s t : List ℕ) → r ≡ checking.Refuses said → s ≡ t → CheckedAs s r → Rejection t (string_bytes said)
check_refused r said s t e same h = subst (λ (x : List ℕ). CheckedAs x (checking.Refuses said)) same (subst (CheckedAs s) e h)

pub count_refused : (r : Counting) (said : _) (s t : List ℕ) → r ≡ counting.Refuses said → s ≡ t → CountedAs s r → Rejection t (string_bytes said)
count_refused r said s t e same h = subst (λ (x : List ℕ). CountedAs x (counting.Refuses said)) same (subst (CountedAs s) e h)

pub count_given : (r : Counting) (line : _) (s t : List ℕ) → r ≡ counting.Counts line → s ≡ t → CountedAs s r → SaysCounts t (string_bytes line)
count_given r line s t e same h = subst (λ (x : List ℕ). CountedAs x (counting.Counts line)) same (subst (CountedAs s) e h)

pub check_accepts : (r : Checking) (p : Program) (found : Sites) (s t : List ℕ) → r ≡ checking.Accepts p found → s ≡ t → CheckedAs s r → HasSites t p found
check_accepts r p found s t e same h = subst (λ (x : List ℕ). CheckedAs x (checking.Accepts p found)) same (subst (CheckedAs s) e h)

-- its sites are refused, by this number and at this place
pub sites_refused : (P : Program) (e : SiteRefusal) (n : ℕ) (p : Pos) → e ≡ site.At n p → sites.IsRefused P e → sites.refusal_of P ≡ Some (n, p)
sites_refused P e n p is h = subst (sites.IsRefused P) is h

-- the front end refuses the text, by this number and at this place
pub refused_at : (kind : TextKind) (source : List ℕ) (e : FrontRefusal) (n : ℕ) (p : Pos) → e ≡ At n p → front.IsRefused kind source e → front.IsRead kind source (front.refused n p)
refused_at kind source e n p is h = subst (front.IsRefused kind source) is h

-- the items of a program that is accepted, by its sites
pub has_items : (source : List ℕ) (p : Program) (s : Sites) (h : HasSites source p s) (items : ItemLists) → AreItems (tables_shape p.tables) (unit_shape p.unit) s items → MissesNone (source_of p) s items → HasItems h.accepted items
has_items source p s h items are misses_none = record {
  sites = s;
  numbered = subst (λ (P : Source). sites.AreNumbered P.tables.structures (items_of P.tables P.unit) s) h.program h.sites.numbered;
  are = subst (λ (P : Source). AreItems P.tables P.unit s items) h.program are;
  misses_none = subst (λ (P : Source). MissesNone P s items) h.program misses_none;
}

-- and its pairs are too many
pub unlisted_of : (source said : List ℕ) (p : Program) (s : Sites) (h : HasSites source p s) → AreTooMany (tables_shape p.tables) (unit_shape p.unit) s → said ≡ refusal_text 51 (record { line = 1; col = 1 }) → Unlisted source said
unlisted_of source said p s h more is =
    too_many h.accepted s (subst (λ (P : Source). sites.AreNumbered P.tables.structures (items_of P.tables P.unit) s) h.program h.sites.numbered)
    (subst (λ (P : Source). AreTooMany P.tables P.unit s) h.program more) is

-- behind the end of a list there is none
none_past : (xs : List (Option ℕ)) (k : ℕ) → length xs ≤ k → slice_get xs k ≡ None
none_past [] k h = refl
none_past (x ∷ xs) zero h = absurd (omega arith)
none_past (x ∷ xs) (suc k) h = none_past xs k (omega arith)

-- the rows of a program with its probes have the owners of its uses
pub owned_by : (P : Source) (rows : List (Option ℕ)) (found : List (ℕ × ℕ)) → refusal P.tables P.unit ≡ None → length rows ≡ 65536 → AreOwners found rows → ((u : ℕ) → owner_of u found ≡ owner_in_program P u)
    → (u : ℕ) → owner_in rows u ≡ owner_in_program P u
owned_by P rows found taken whole are same u = by (nat_lt u 65536) refl
  where
    by : (b : Bool) → nat_lt u 65536 ≡ b → owner_in rows u ≡ owner_in_program P u
    by true h = let few : u < 65536 = grind (arith, nat_tests) in ap (λ o. unwrap_or o None) (are u few) ∙ same u
    by false h = let many : 65536 ≤ u = grind (arith, nat_tests) in ap (λ o. unwrap_or o None) (none_past rows u (omega (arith, whole, many))) ∙ sym (program_owns_few P taken u (omega (arith, many)))

-- the rows of a program with probes have the owners of its use probes
pub probed_owners : (P : Source) (rows : List (Option ℕ)) → length rows ≡ 65536 → AreOwners (owned_in P.unit) rows → (u : ℕ) → owner_in rows u ≡ owner_in_probed P u
probed_owners P rows whole are u = by (nat_lt u 65536) refl
  where
    by : (b : Bool) → nat_lt u 65536 ≡ b → owner_in rows u ≡ cond b (owner_of u (owned_in P.unit)) None
    by true h = let few : u < 65536 = grind (arith, nat_tests) in ap (λ o. unwrap_or o None) (are u few)
    by false h = let many : 65536 ≤ u = grind (arith, nat_tests) in ap (λ o. unwrap_or o None) (none_past rows u (omega (arith, whole, many)))
