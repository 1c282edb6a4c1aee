-- Marks, a bit of a word for each of 64, and the rows that they reach.
use Rattle.std.specs.Prelude.{ℕ, ◌+◌, ◌^◌, ◌<◌, ◌≤◌, ◌≡◌, ◌⊎◌, List, [], ◌∷◌, ◌++◌, length, sum, Contains, bit_or}
use Rattle.std.specs.Int.{bit_at}
use Rattle.std.proofs.Math.ListN.{get_or, set}
use Rattle.flow_marks.specs.declared.flow.FlowRow.{FlowRow}
use Rattle.flow_marks.specs.Paths.{IsStep, Leads}

abbrev pub HasBit : List ℕ → ℕ → ℕ → Type 0
HasBit words row i = bit_at (get_or words row 0) i ≡ 1

-- some row gives the mark, and a path leads from there to this row, on which no row strictly between stops it
abbrev pub Arrives : List FlowRow → List ℕ → List ℕ → ℕ → ℕ → Type 0
Arrives g gives stops row i = (from : ℕ) × HasBit gives from i × Leads g (λ r. HasBit stops r i) from row

-- ---- while marks are passed on

-- the row gives the mark, or it has come there and isn't stopped
abbrev pub LetsOut : List ℕ → List ℕ → List ℕ → ℕ → ℕ → Type 0
LetsOut gives stops held row i = HasBit gives row i ⊎ (HasBit held row i × (HasBit stops row i → ⊥))

-- what the row lets out has come to its next rows
abbrev pub IsClosed : List FlowRow → List ℕ → List ℕ → List ℕ → ℕ → Type 0
IsClosed g gives stops held row = (to i : ℕ) → IsStep g row to → LetsOut gives stops held row i → HasBit held to i

-- a row has the marks of a word too, and waits if it has more now
abbrev pub Puts : ℕ → ℕ → List ℕ → List ℕ → List ℕ → List ℕ → Type 0
Puts word to held waiting held' waiting' =
    ((held' ≡ held) × (waiting' ≡ waiting) × (bit_or (get_or held to 0) word ≡ get_or held to 0))
    ⊎ ((held' ≡ set held to (bit_or (get_or held to 0) word)) × (waiting' ≡ waiting ++ to ∷ []) × (get_or held to 0 < bit_or (get_or held to 0) word))

-- the first n of these rows do
pub record Spread (word : ℕ) (next held waiting held' waiting' : List ℕ) (n : ℕ) : Type 0 where
  pub size : length held' ≡ length held
  pub kept : (row i : ℕ) → HasBit held row i → HasBit held' row i
  pub only : (row i : ℕ) → HasBit held' row i → HasBit held row i ⊎ ((bit_at word i ≡ 1) × Contains next row)
  pub full : (j : ℕ) → j < n → (i : ℕ) → bit_at word i ≡ 1 → HasBit held' (get_or next j 0) i
  pub waits : (row : ℕ) → Contains waiting row → Contains waiting' row
  pub within : (row : ℕ) → Contains waiting' row → Contains waiting row ⊎ Contains next row
  pub rest : (row : ℕ) → Contains waiting' row ⊎ (get_or held' row 0 ≡ get_or held row 0)
  pub fits : ((row : ℕ) → get_or held row 0 < 2 ^ 64) → (row : ℕ) → get_or held' row 0 < 2 ^ 64
  pub count : length waiting' + sum held ≤ length waiting + sum held'
