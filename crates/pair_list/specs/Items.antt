-- Which pairs a program has, and the items that are listed of it.
use Rattle.std.specs.Prelude.{ℕ, suc, ◌-◌, ◌≤◌, ◌≡◌, List, [], ◌∷◌, ◌++◌, Option, Some, None, map, slice_get}
use Rattle.std.specs.String.{string_bytes}
use Rattle.c_base.specs.declared.place.Pos.{Pos}
use Rattle.c_base.specs.declared.labels.OutcomeLabel.{OutcomeLabel}
use Rattle.c_syntax.specs.Shape.{UnitShape}
use Rattle.c_tables.specs.Tables.{TablesShape}
use Rattle.atac_base.specs.declared.rows.OutcomeRow.{OutcomeRow}
use Rattle.atac_base.specs.declared.rows.PairRow.{PairRow}
use Rattle.atac_base.specs.declared.rows.PUseRow.{PUseRow}
use Rattle.atac_base.specs.Items.{ItemLists}
use Rattle.flow_walks.specs.Walks.{Walk}
use Rattle.c_sites.specs.declared.lists.Decision.{Decision}
use Rattle.c_sites.specs.declared.lists.DefSite.{DefSite}
use Rattle.c_sites.specs.declared.lists.UseSite.{UseSite}
use Rattle.c_sites.specs.declared.numbered.Sites.{Sites}
use Rattle.pair_list.specs.declared.pairs.Pair.{Pair}
use Rattle.pair_list.specs.Listed.{IsPair}
use Rattle.pair_list.specs.PairLists.{AreThose, all_pairs, labels_at, items_in, HasMore}

-- a walk of one function has the definition and later the use, and nothing between ends what was defined
abbrev pub IsListed : TablesShape → UnitShape → Sites → Pair → Type 0
IsListed t u s p = (f : ℕ) × IsPair (Walk t u f) s f p.def p.used

-- ---- outcomes, by decision and number

abbrev pub label_rows : ℕ → Pos → List (ℕ × OutcomeLabel) → List OutcomeRow
label_rows k p [] = []
label_rows k p (l ∷ rest) = record { decision = k; outcome = l.0; pos = p; label = l.1 } ∷ label_rows k p rest

-- those of the decisions behind the first k
abbrev pub outcome_rows : ℕ → List Decision → List OutcomeRow
outcome_rows k [] = []
outcome_rows k (d ∷ rest) = label_rows (suc k) d.pos d.labels ++ outcome_rows (suc k) rest

-- ---- pairs: a c-use where the use belongs to no decision; else a p-use for each outcome of its decision

-- names are numbered from 1, and counted from 0 among the items
abbrev pub pair_row : Pair → DefSite → UseSite → PairRow
pair_row p d u = record { def = p.def; def_pos = d.pos; user = p.used; use_pos = u.pos; name = u.name - 1 }

abbrev pub with_outcomes : PairRow → List (ℕ × OutcomeLabel) → List PUseRow
with_outcomes row [] = []
with_outcomes row (l ∷ rest) = record { pair = row; outcome = l.0; label = l.1 } ∷ with_outcomes row rest

abbrev pub c_use_of : PairRow → Option ℕ → List PairRow
c_use_of row None = row ∷ []
c_use_of row (Some k) = []

abbrev pub p_uses_of : Sites → PairRow → Option ℕ → List PUseRow
p_uses_of s row None = []
p_uses_of s row (Some k) = with_outcomes row (labels_at s k)

abbrev pub c_use_at : Pair → Option DefSite → Option UseSite → List PairRow
c_use_at p (Some d) (Some u) = c_use_of (pair_row p d u) u.owner
c_use_at p d u = []

abbrev pub p_uses_at : Sites → Pair → Option DefSite → Option UseSite → List PUseRow
p_uses_at s p (Some d) (Some u) = p_uses_of s (pair_row p d u) u.owner
p_uses_at s p d u = []

abbrev pub c_use_rows : Sites → List Pair → List PairRow
c_use_rows s [] = []
c_use_rows s (p ∷ rest) = c_use_at p (slice_get s.lists.defs.items (p.def - 1)) (slice_get s.lists.uses.items (p.used - 1)) ++ c_use_rows s rest

abbrev pub p_use_rows : Sites → List Pair → List PUseRow
p_use_rows s [] = []
p_use_rows s (p ∷ rest) = p_uses_at s p (slice_get s.lists.defs.items (p.def - 1)) (slice_get s.lists.uses.items (p.used - 1)) ++ p_use_rows s rest

-- ---- the items of a program with these sites

abbrev pub most_items : ℕ
most_items = 1000000

pub record AreItems (t : TablesShape) (u : UnitShape) (s : Sites) (items : ItemLists) : Type 0 where
  pub pairs : List Pair
  pub are : AreThose (IsListed t u s) (all_pairs s) pairs
  pub few : items_in s pairs ≤ most_items
  pub blocks : items.blocks ≡ s.lists.blocks.items
  pub outcomes : items.outcomes ≡ outcome_rows 0 s.lists.decisions.items
  pub c_uses : items.c_uses ≡ c_use_rows s pairs
  pub p_uses : items.p_uses ≡ p_use_rows s pairs
  pub names : items.names ≡ map string_bytes s.texts.items

-- the c-uses and p-uses among the first of all pairs are more
abbrev pub AreTooMany : TablesShape → UnitShape → Sites → Type 0
AreTooMany t u s = HasMore (IsListed t u s) (all_pairs s) s [] most_items
