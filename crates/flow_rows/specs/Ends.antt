-- The row at which a body has been left.
use Rattle.std.specs.Prelude.{◌≡◌, ◌⊎◌, ℕ, List, [], ◌∷◌, Some}
use Rattle.flow_walks.specs.Comes.{leave}
use Rattle.flow_rows.specs.Paths.{Graph, HasRow}
use Rattle.flow_rows.specs.Laying.{Keeps, IsWithin}

-- one row more, at which the body has been left, and which leads there
pub record Left (g h : Graph) (r to : ℕ) : Type 0 where
  pub keeps : Keeps g h
  pub within : IsWithin g → IsWithin h
  pub row : HasRow h r (Some leave) (to ∷ [])
  pub alone : (i : ℕ) (ts : List ℕ) → HasRow h i (Some leave) ts → HasRow g i (Some leave) ts ⊎ (i ≡ r)
