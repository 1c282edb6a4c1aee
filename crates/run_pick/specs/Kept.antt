-- Which of some runs are kept. A run covers an item where it shows the item's fact, so items stand here by their facts.
use Rattle.std.specs.Prelude.{◌≡◌, ℕ, suc, ◌<◌, Bool, true, false, not, ◌&&◌, cond, List, [], ◌∷◌, length, take, drop, map, slice_get, slice_set, Some, IsTrue}
use Rattle.std.specs.List.{filter, list_any}
use Rattle.atac_facts.specs.declared.fact.Fact.{Fact}
use Rattle.atac_facts.specs.Sets.{FactSet, holds}
use Rattle.atac_base.specs.Items.{ItemLists}
use Rattle.cover_report.specs.ItemTexts.{all_items}

-- the facts of all items, in the items' order
abbrev pub facts_of : ItemLists → List Fact
facts_of items = map (λ item. item.fact) (all_items items)

-- some of the runs shows the fact
abbrev pub some_shows : List FactSet → Fact → Bool
some_shows runs fact = list_any (λ run. holds run fact) runs

-- the runs that are marked
abbrev pub marked : List FactSet → List Bool → List FactSet
marked [] marks = []
marked (run ∷ runs) [] = []
marked (run ∷ runs) (mark ∷ marks) = cond mark (run ∷ marked runs marks) (marked runs marks)

-- run i is kept for this item: some run covers it, but neither a run before i nor a kept run after i
abbrev pub is_kept_for : List FactSet → List Bool → ℕ → Fact → Bool
is_kept_for runs kept i fact =
    some_shows runs fact && (not (some_shows (take i runs) fact) && not (some_shows (marked (drop (suc i) runs) (drop (suc i) kept)) fact))

-- each run has a mark, which says whether it is kept: exactly where it is kept for some item
pub record AreKept (facts : List Fact) (runs : List FactSet) (kept : List Bool) : Type 0 where
  pub for_each : length kept ≡ length runs
  pub exactly : (i : ℕ) → i < length runs → slice_get kept i ≡ Some (list_any (is_kept_for runs kept i) facts)

-- LAWS

-- the items that some of the runs covers
abbrev pub covered_by : List FactSet → List Fact → List Fact
covered_by runs facts = filter (some_shows runs) facts

-- some item that the runs cover is covered by no kept run but run i
abbrev pub is_lost_without : List FactSet → List Bool → ℕ → List Fact → Bool
is_lost_without runs kept i facts = list_any (λ fact. some_shows runs fact && not (some_shows (marked runs (slice_set kept i false)) fact)) facts

-- the kept runs cover what all runs cover, and without any one of them something of it is covered by none
pub record AreEnough (facts : List Fact) (runs : List FactSet) (kept : List Bool) : Type 0 where
  pub same : covered_by (marked runs kept) facts ≡ covered_by runs facts
  pub no_more : (i : ℕ) → i < length runs → slice_get kept i ≡ Some true → IsTrue (is_lost_without runs kept i facts)
