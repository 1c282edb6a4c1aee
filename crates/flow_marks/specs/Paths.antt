-- Paths through the rows of a flow graph, and what they spell.
use Rattle.std.specs.Prelude.{ℕ, zero, suc, List, [], ◌∷◌, ◌≡◌, ◌⊎◌, Option, Some, None, slice_get, Contains}
use Rattle.flow_walks.specs.declared.action.Action.{Action}
use Rattle.flow_walks.specs.declared.action.Action.TheVariants.{Define, Use, Block, Test, Kill, Nothing}
use Rattle.flow_marks.specs.declared.flow.FlowRow.{FlowRow}

abbrev pub action_of : Option FlowRow → Action
action_of None = Nothing
action_of (Some row) = row.action

abbrev pub next_of : Option FlowRow → List ℕ
next_of None = []
next_of (Some row) = row.next.items

abbrev pub action_at : List FlowRow → ℕ → Action
action_at g row = action_of (slice_get g row)

abbrev pub IsStep : List FlowRow → ℕ → ℕ → Type 0
IsStep g row to = Contains (next_of (slice_get g row)) to

-- ---- what paths spell

-- a path: a row that is there, and the rows that follow it, each one of the next rows of the one before
abbrev pub IsPath : List FlowRow → ℕ → List ℕ → Type 0
IsPath g row [] = (it : FlowRow) × (slice_get g row ≡ Some it)
IsPath g row (to ∷ rest) = IsStep g row to × IsPath g to rest

-- an action before others; Nothing is left out
abbrev pub put : Action → List Action → List Action
put Nothing w = w
put (Define d) w = Define d ∷ w
put (Use u) w = Use u ∷ w
put (Block k) w = Block k ∷ w
put (Test k o) w = Test k o ∷ w
put (Kill v) w = Kill v ∷ w

-- the actions of a path
abbrev pub spelled : List FlowRow → ℕ → List ℕ → List Action
spelled g row [] = put (action_at g row) []
spelled g row (to ∷ rest) = put (action_at g row) (spelled g to rest)

-- some path from the row spells these actions
abbrev pub Spells : List FlowRow → ℕ → List Action → Type 0
Spells g row w = (rest : List ℕ) × IsPath g row rest × (spelled g row rest ≡ w)

-- ---- ways

-- a path of n + 1 steps, on which nothing stops strictly between
abbrev pub Way : List FlowRow → (ℕ → Type 0) → ℕ → ℕ → ℕ → Type 0
Way g stops from to zero = IsStep g from to
Way g stops from to (suc n) = (last : ℕ) × Way g stops from last n × (stops last → ⊥) × IsStep g last to

abbrev pub Leads : List FlowRow → (ℕ → Type 0) → ℕ → ℕ → Type 0
Leads g stops from to = (n : ℕ) × Way g stops from to n

-- row 0, and each row to which a path leads from it
abbrev pub IsReached : List FlowRow → ℕ → Type 0
IsReached g row = (row ≡ 0) ⊎ Leads g (λ _. ⊥) 0 row
