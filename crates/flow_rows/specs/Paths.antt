-- Graphs of rows, and what their paths spell.
use Rattle.std.specs.Prelude.{◌≡◌, ℕ, zero, suc, List, [], ◌∷◌, Option, Some, None, slice_get, Contains}
use Rattle.flow_walks.specs.Comes.{Met, Comes, ends, emit, either}

-- what is met at a row, or nothing, and the rows that may follow
pub record Row : Type 0 where
  pub met : Option Met
  pub next : List ℕ

abbrev pub Graph : Type 0
Graph = List Row

abbrev pub HasRow : Graph → ℕ → Option Met → List ℕ → Type 0
HasRow g r a ts = slice_get g r ≡ Some (record { met = a; next = ts })

-- ---- paths

-- a row, and the rows that follow it, each one of the next rows of the one before
abbrev pub IsPath : Graph → ℕ → List ℕ → Type 0
IsPath g r [] = (row : Row) × (slice_get g r ≡ Some row)
IsPath g r (t ∷ ts) = (row : Row) × (slice_get g r ≡ Some row) × Contains row.next t × IsPath g t ts

abbrev pub put : Option Met → List Met → List Met
put None w = w
put (Some a) w = a ∷ w

abbrev pub met_at : Option Row → Option Met
met_at None = None
met_at (Some row) = row.met

-- what is met on a path, where nothing is left out
abbrev pub spelled : Graph → ℕ → List ℕ → List Met
spelled g r [] = put (met_at (slice_get g r)) []
spelled g r (t ∷ ts) = put (met_at (slice_get g r)) (spelled g t ts)

-- some path from row r spells w
abbrev pub Spells : Graph → ℕ → List Met → Type 0
Spells g r w = (ts : List ℕ) × IsPath g r ts × (spelled g r ts ≡ w)

-- ---- the same as sets of lists

abbrev pub tells : Option Met → Comes → Comes
tells None k = k
tells (Some a) k = emit a k

abbrev pub one_next : (ℕ → Comes) → List ℕ → Comes
one_next k [] = ends
one_next k (t ∷ []) = k t
one_next k (t ∷ u ∷ ts) = either (k t) (one_next k (u ∷ ts))

abbrev pub row_gives : (ℕ → Comes) → Option Row → Comes
row_gives k None = ends
row_gives k (Some row) = tells row.met (one_next k row.next)

-- what the paths of at most that many rows spell from row r
abbrev pub from : Graph → ℕ → ℕ → Comes
from g zero r = ends
from g (suc n) r = row_gives (from g n) (slice_get g r)

-- what the paths spell from row r
abbrev pub From : Graph → ℕ → Comes
From g r w = (n : ℕ) × from g n r w
