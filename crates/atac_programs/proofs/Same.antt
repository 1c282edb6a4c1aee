-- A text is read as one program, and what is said of that is said of the same.
use Rattle.std.proofs.Common.{◌≡◌, refl, ap, ◌∙◌, subst, List, ℕ, None}
use Rattle.c_syntax.specs.Shape as full
use Rattle.c_tables.specs.Tables.{TablesShape}
use Rattle.c_walk.specs.Units.{items_of}
use Rattle.c_sites.specs.declared.numbered.Sites.{Sites}
use Rattle.c_sites.specs.Refused.{refusal, AreNumbered}
use Rattle.pair_list.specs.Items.{AreItems, AreTooMany}
use Rattle.pair_list.specs.Missing.{MissesNone}
use Rattle.atac_base.specs.Items.{ItemLists}
use Rattle.c_lex.specs.declared.lexer.TextKind.TheVariants.{Plain, Probed}
use Rattle.c_meaning.specs.Calls.{Source}
use Rattle.atac_programs.specs.Programs.{IsAccepted, HasItems, IsProbed, program_in, Rejection, by_front, by_sites, Unlisted, not_accepted, too_many, Unread, counts_of}
use Rattle.c_front.specs.Front as front
use Rattle.c_front.proofs.One.{is_one}

-- a text is one program at most
pub same_program : (source : List ℕ) (a : IsAccepted source) (u : full.UnitShape) (t : TablesShape) → front.IsRead Plain source (front.program u t) → front.program u t ≡ front.program a.unit a.tables
same_program source a u t read = (is_one Plain source).program_alone a.unit a.tables (front.program u t) a.read read

-- a text that is accepted is not rejected
pub not_rejected : (source said : List ℕ) → IsAccepted source → Rejection source said → ⊥
not_rejected source said a (by_front number p read is) =
    let e : front.refused number p ≡ front.program a.unit a.tables = (is_one Plain source).program_alone a.unit a.tables (front.refused number p) a.read read in
    absurd (cc)
not_rejected source said a (by_sites u t number p read is_refused is) =
    let e : front.program u t ≡ front.program a.unit a.tables = same_program source a u t read in
    let same_unit : u ≡ a.unit = cc in
    let same_tables : t ≡ a.tables = cc in
    let none : refusal t u ≡ None = rw (same_unit, same_tables) a.clean in
    absurd (cc)

-- and it has the same counts, whenever it is counted
pub same_counts : (source : List ℕ) (a b : IsAccepted source) → counts_of b.tables b.unit ≡ counts_of a.tables a.unit
same_counts source a b =
    let e : front.program b.unit b.tables ≡ front.program a.unit a.tables = same_program source a b.unit b.tables b.read in
    let same_unit : b.unit ≡ a.unit = cc in
    let same_tables : b.tables ≡ a.tables = cc in
    rw (same_unit, same_tables) refl

-- and it is the same program
pub same_source : (source : List ℕ) (a b : IsAccepted source) → program_in b ≡ program_in a
same_source source a b =
    let e : front.program b.unit b.tables ≡ front.program a.unit a.tables = same_program source a b.unit b.tables b.read in
    let same_unit : b.unit ≡ a.unit = cc in
    let same_tables : b.tables ≡ a.tables = cc in
    rw (same_unit, same_tables) refl

-- what is said of one program's sites is said of the same program
pub few_moved : (u v : full.UnitShape) (t s : TablesShape) (found : Sites) → u ≡ v → t ≡ s → AreNumbered t.structures (items_of t u) found → AreTooMany t u found
    → AreNumbered s.structures (items_of s v) found × AreTooMany s v found
few_moved u v t s found same_unit same_tables n m = (
  subst (λ (x : TablesShape). AreNumbered x.structures (items_of x v) found) same_tables (subst (λ (x : full.UnitShape). AreNumbered t.structures (items_of t x) found) same_unit n),
  subst (λ (x : TablesShape). AreTooMany x v found) same_tables (subst (λ (x : full.UnitShape). AreTooMany t x found) same_unit m),
)

-- a text that is accepted and whose pairs aren't too many has a list
pub not_unlisted : (source said : List ℕ) (a : IsAccepted source) → ((s : Sites) → AreNumbered a.tables.structures (items_of a.tables a.unit) s → AreTooMany a.tables a.unit s → ⊥) → Unlisted source said → ⊥
not_unlisted source said a few (not_accepted r) = not_rejected source said a r
not_unlisted source said a few (too_many b s n m is) =
    let e : front.program b.unit b.tables ≡ front.program a.unit a.tables = same_program source a b.unit b.tables b.read in
    let same_unit : b.unit ≡ a.unit = cc in
    let same_tables : b.tables ≡ a.tables = cc in
    let moved = few_moved b.unit a.unit b.tables a.tables s same_unit same_tables n m in
    few s moved.0 moved.1

-- a text that is read with probes is not refused so, and is one program
pub not_unread : (source said : List ℕ) (P : Source) → IsProbed source P → Unread source said → ⊥
not_unread source said P read r =
    let e : front.refused r.number r.place ≡ front.program P.unit P.tables = (is_one Probed source).program_alone P.unit P.tables (front.refused r.number r.place) read r.read in
    absurd (cc)

pub one_probed : (source : List ℕ) (P Q : Source) → IsProbed source P → IsProbed source Q → Q ≡ P
one_probed source P Q a b =
    let e : front.program Q.unit Q.tables ≡ front.program P.unit P.tables = (is_one Probed source).program_alone P.unit P.tables (front.program Q.unit Q.tables) a b in
    let same_unit : Q.unit ≡ P.unit = cc in
    let same_tables : Q.tables ≡ P.tables = cc in
    ap (λ u. record { unit = u; tables = Q.tables }) same_unit ∙ ap (λ t. record { unit = P.unit; tables = t }) same_tables

-- what is said of the items of one program is said of the same program
pub has_moved : (source : List ℕ) (a b : IsAccepted source) (items : ItemLists) → HasItems b items → HasItems a items
has_moved source a b items h = record {
  sites = h.sites;
  numbered = subst (λ (P : Source). AreNumbered P.tables.structures (items_of P.tables P.unit) h.sites) (same_source source a b) h.numbered;
  are = subst (λ (P : Source). AreItems P.tables P.unit h.sites items) (same_source source a b) h.are;
  misses_none = subst (λ (P : Source). MissesNone P h.sites items) (same_source source a b) h.misses_none;
}
