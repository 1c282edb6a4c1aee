-- The list of a program's items misses nothing that its runs cover between direct sites of one local variable or parameter.
use Rattle.std.specs.Prelude.{◌≡◌, ℕ, zero, suc, List, Contains, slice_get, false, Option, Some, None}
use Rattle.c_base.specs.declared.labels.OutcomeLabel.{OutcomeLabel}
use Rattle.atac_facts.specs.declared.fact.Fact.{Fact}
use Rattle.atac_facts.specs.declared.fact.Fact.TheVariants as fact
use Rattle.cover_parts.specs.Covered.{Covered}
use Rattle.atac_base.specs.declared.rows.PairRow.{PairRow}
use Rattle.atac_base.specs.declared.rows.PUseRow.{PUseRow}
use Rattle.atac_base.specs.Items.{ItemLists}
use Rattle.c_meaning.specs.Calls.{Source}
use Rattle.c_walk.specs.Units.{no_items}
use Rattle.c_sites.specs.declared.lists.DefSite.{DefSite}
use Rattle.c_sites.specs.declared.lists.UseSite.{UseSite}
use Rattle.c_sites.specs.declared.numbered.Sites.{Sites}
use Rattle.flow_parts.specs.Items.{outer_variables, is_among, run_events}
use Rattle.pair_list.specs.Sites.{IsDef, IsUse}
use Rattle.pair_list.specs.PairLists.{labels_at}

-- the decision that the use of that number belongs to, if it belongs to one
abbrev pub owner_in : Option UseSite → Option ℕ
owner_in None = None
owner_in (Some u) = u.owner

abbrev pub owner_at : Sites → ℕ → Option ℕ
owner_at s zero = None
owner_at s (suc u) = owner_in (slice_get s.lists.uses.items u)

-- the events of the program's run on that input, of at most so many turns, cover the fact
abbrev pub Covers : Source → Sites → List ℕ → ℕ → Fact → Type 0
Covers P s input limit f = Covered (owner_at s) (run_events P input limit) f

-- both are direct sites of one variable that isn't declared outside of functions: it is a local variable or a parameter
pub record AreLocal (P : Source) (s : Sites) (d u : ℕ) : Type 0 where
  pub variable : ℕ
  pub inner : is_among variable (outer_variables P.tables P.unit.externals no_items) ≡ false
  pub def : DefSite
  pub is_def : IsDef s d def
  pub def_variable : def.variable ≡ Some variable
  pub used : UseSite
  pub is_use : IsUse s u used
  pub use_variable : used.variable ≡ Some variable

abbrev pub IsCUse : ItemLists → ℕ → ℕ → Type 0
IsCUse items d u = (row : PairRow) × Contains items.c_uses row × (row.def ≡ d) × (row.user ≡ u)

abbrev pub IsPUse : ItemLists → ℕ → ℕ → ℕ → Type 0
IsPUse items d u o = (row : PUseRow) × Contains items.p_uses row × (row.pair.def ≡ d) × (row.pair.user ≡ u) × (row.outcome ≡ o)

-- the pair is a c-use where its use belongs to no decision, else a p-use with each outcome that is listed of the decision
abbrev pub IsAmong : Sites → ItemLists → ℕ → ℕ → Option ℕ → Type 0
IsAmong s items d u None = IsCUse items d u
IsAmong s items d u (Some k) = (o : ℕ) (l : OutcomeLabel) → Contains (labels_at s k) (o, l) → IsPUse items d u o

-- whichever input the program reads, and wherever the run stops
pub record MissesNone (P : Source) (s : Sites) (items : ItemLists) : Type 0 where
  pub pairs : (input : List ℕ) (limit d u : ℕ) → AreLocal P s d u → Covers P s input limit (fact.Pair d u) → IsAmong s items d u (owner_at s u)
  pub p_uses : (input : List ℕ) (limit d u o : ℕ) → AreLocal P s d u → Covers P s input limit (fact.PUse d u o) → IsPUse items d u o
