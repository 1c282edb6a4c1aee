-- The pairs of a program while its external declarations are gone through, one after the other.
use Rattle.std.specs.Prelude.{ℕ, ◌+◌, ◌<◌, ◌≤◌, ◌≡◌, ◌↔◌, List, [], length, take}
use Rattle.c_syntax.specs.Shape.{ExternalShape, UnitShape}
use Rattle.c_tables.specs.Tables.{TablesShape}
use Rattle.c_walk.specs.Walked.{Walked}
use Rattle.c_walk.specs.Units.{walk_externals, no_items}
use Rattle.flow_walks.specs.declared.action.Action.{Action}
use Rattle.flow_walks.specs.Comes.{Met}
use Rattle.flow_walks.specs.Walks.{actions}
use Rattle.flow_rows.specs.declared.numbers.Numbers.{Numbers}
use Rattle.flow_rows.specs.Counts.{counts}
use Rattle.flow_marks.specs.declared.flow.FlowRow.{FlowRow}
use Rattle.flow_marks.specs.Paths.{Spells}
use Rattle.flow_graph.specs.Graphs.{walks_of}
use Rattle.c_sites.specs.declared.lists.DefSite.{DefSite}
use Rattle.c_sites.specs.declared.numbered.Sites.{Sites}
use Rattle.pair_list.specs.declared.pairs.Pair.{Pair}
use Rattle.pair_list.specs.Sites.{IsDef}
use Rattle.pair_list.specs.PairLists.{pairs_from, items_in, Appends}
use Rattle.pair_list.specs.Found.{IsSpelledPair}
use Rattle.pair_list.specs.Items.{IsListed, most_items}

-- that many definitions from the first on stand in one function
abbrev pub StandTogether : Sites → ℕ → ℕ → Type 0
StandTogether s first count = (d e : ℕ) (x y : DefSite) → first ≤ d → d < first + count → IsDef s d x → first ≤ e → e < first + count → IsDef s e y → x.function ≡ y.function

-- the pair, by what the paths from row 0 spell, in the function in which its sites stand
abbrev pub IsPathPair : List FlowRow → Sites → Pair → Type 0
IsPathPair g s p = (f : ℕ) × IsSpelledPair g s f p

-- what is counted in the first k external declarations
abbrev pub behind : TablesShape → UnitShape → ℕ → Walked
behind t u k = walk_externals t (take k u.externals) no_items

-- the paths from row 0 spell the walks of the external declaration behind these items
abbrev pub AreRowsOf : TablesShape → ExternalShape → Walked → List FlowRow → Type 0
AreRowsOf t e s g = (v : List Action) → Spells g 0 v ↔ ((w : List Met) × walks_of t e s w × (actions w ≡ v))

-- the first k external declarations are counted, and the pairs of the definitions in them are listed, in order
pub record AreSoFar (t : TablesShape) (u : UnitShape) (s : Sites) (k : ℕ) (n : Numbers) (pairs : List Pair) (items : ℕ) : Type 0 where
  pub counted : counts (behind t u k) ≡ n
  pub listed : Appends (IsListed t u s) (pairs_from (length s.lists.uses.items) 1 n.defs) [] pairs
  pub count : items ≡ items_in s pairs
  pub within : items ≤ most_items
