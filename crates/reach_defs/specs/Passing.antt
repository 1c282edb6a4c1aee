-- What holds while marks are passed on along edges.
use Rattle.std.specs.Prelude.{ℕ, ◌+◌, ◌<◌, ◌≤◌, ◌≡◌, ◌⊎◌, List, length, Contains, slice_get}
use Rattle.std.proofs.Math.ListN.{get_or}
use Rattle.reach_defs.specs.declared.rows.ReachRow.{ReachRow}
use Rattle.reach_defs.specs.declared.table.Grid.{Grid}
use Rattle.reach_defs.specs.Held.{Holds, held_count}
use Rattle.reach_defs.specs.Paths.{Gives, Stops, IsEdge, Arrives, next_of}

-- the row gives the mark, or holds it and doesn't stop it
abbrev pub LetsOut : List ReachRow → List ℕ → Grid → ℕ → ℕ → Type 0
LetsOut rows marks held row i = Gives rows row (get_or marks i 0) ⊎ (Holds held row i × (Stops rows row (get_or marks i 0) → ⊥))

-- each mark that a row holds arrives there
abbrev pub IsSound : List ReachRow → List ℕ → Grid → Type 0
IsSound rows marks held = (row i : ℕ) → i < length marks → Holds held row i → Arrives rows row (get_or marks i 0)

-- what the row lets out, its next rows hold
abbrev pub IsClosed : List ReachRow → List ℕ → Grid → ℕ → Type 0
IsClosed rows marks held row = (to i : ℕ) → IsEdge rows row to → i < length marks → LetsOut rows marks held row i → Holds held to i

-- a row holds no more in new than in old
abbrev pub NoMore : List ℕ → Grid → Grid → ℕ → Type 0
NoMore marks old new row = (i : ℕ) → i < length marks → Holds new row i → Holds old row i

-- the first n marks have been passed on from one row to another
pub record Passed (rows : List ReachRow) (marks : List ℕ) (from to : ℕ) (old new : Grid) (n : ℕ) : Type 0 where
  pub height : new.height ≡ old.height
  pub width : new.width ≡ old.width
  pub kept : (row i : ℕ) → Holds old row i → Holds new row i
  pub rest : (row : ℕ) → (row ≡ to → ⊥) → NoMore marks old new row
  pub sound : IsSound rows marks old → IsSound rows marks new
  pub full : (j : ℕ) → j < n → LetsOut rows marks new from j → Holds new to j

-- all marks have been passed on from one row to its first n next ones, and what holds more now waits
pub record Spread (rows : List ReachRow) (marks : List ℕ) (from : ℕ) (old : Grid) (queue : List ℕ) (new : Grid) (queue' : List ℕ) (n : ℕ) : Type 0 where
  pub height : new.height ≡ old.height
  pub width : new.width ≡ old.width
  pub kept : (row i : ℕ) → Holds old row i → Holds new row i
  pub sound : IsSound rows marks old → IsSound rows marks new
  pub waits : (row : ℕ) → Contains queue row → Contains queue' row
  pub within : ((row : ℕ) → Contains queue row → row < length rows) → (row : ℕ) → Contains queue' row → row < length rows
  pub rest : (row : ℕ) → Contains queue' row ⊎ NoMore marks old new row
  pub full : Contains queue' from ⊎ ((j : ℕ) → j < n → (i : ℕ) → i < length marks → LetsOut rows marks new from i → Holds new (get_or (next_of (slice_get rows from)) j 0) i)
  pub count : length queue' + held_count old ≤ length queue + held_count new
