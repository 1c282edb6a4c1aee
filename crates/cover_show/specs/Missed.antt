-- Uncovered items as the code keeps them: each by its kind and its place, with its line.
use Rattle.std.specs.Prelude.{◌≡◌, ℕ, ◌<◌, ◌≤◌, ◌==◌, Bool, List, [], ◌∷◌, length}
use Rattle.atac_base.specs.Items.{ItemLists}
use Rattle.cover_report.specs.ItemTexts.{Item, of_kind, item_at}
use Rattle.cover_show.specs.declared.missed.Missed.{Missed}

-- the item that is meant
abbrev pub meant : ItemLists → Missed → Item
meant items m = item_at items m.kind m.place

-- there is such an item, and it stands on that line
pub record IsPlaced (items : ItemLists) (m : Missed) : Type 0 where
  pub within : m.place < length (of_kind items m.kind)
  pub line : m.line ≡ (meant items m).line

abbrev pub is_on : ℕ → Missed → Bool
is_on n m = m.line == n

-- their lines don't fall, and begin no lower than n
abbrev pub Rises : ℕ → List Missed → Type 0
Rises n [] = Unit {0}
Rises n (m ∷ ms) = (n ≤ m.line) × Rises m.line ms
