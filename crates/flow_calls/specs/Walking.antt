-- The calls of a run, and the walks of their functions.
use Rattle.std.specs.Prelude.{◌≡◌, ◌⊎◌, ◌≤◌, ℕ, ℤ, List, [], ◌∷◌}
use Rattle.c_meaning.specs.declared.end.End.TheVariants.{Returned}
use Rattle.c_meaning.specs.State.{Act, begins, Deed}
use Rattle.c_meaning.specs.Deeds.{own}
use Rattle.c_meaning.specs.Calls.{Source}
use Rattle.c_meaning.specs.Runs.{run_heard}
use Rattle.flow_walks.specs.Comes.{Met}
use Rattle.flow_walks.specs.Walks.{Walk, Leaving, actions}
use Rattle.flow_calls.specs.Readings.{readings}
use Rattle.flow_calls.specs.Orderly.{IsOrderlyProgram}

-- what the activation did by itself is that its function begins, and then a walk of it, which may stop anywhere
pub record IsWalking (P : Source) (ds : List Deed) (a : ℕ) : Type 0 where
  pub function : ℕ
  pub acts : List Act
  pub own_is : own a ds ≡ begins function ∷ acts
  pub walk : Walk P.tables P.unit function (readings acts)

-- that its function begins, and then a walk that leaves its body
pub record IsLeaving (P : Source) (ds : List Deed) (a : ℕ) : Type 0 where
  pub function : ℕ
  pub acts : List Act
  pub own_is : own a ds ≡ begins function ∷ acts
  pub walk : List Met
  pub leaves : Leaving P.tables P.unit function walk
  pub reads : actions walk ≡ readings acts

-- each call of a run is a walk of its function, wherever the run stops; activation 0 makes the objects of file scope and is no call
abbrev pub EachCallWalks : Type 0
EachCallWalks = (P : Source) → IsOrderlyProgram P → (input : List ℕ) (limit a : ℕ) → 1 ≤ a
    → (own a (run_heard P input limit).deeds ≡ []) ⊎ IsWalking P (run_heard P input limit).deeds a

-- and where the run ends by a `return` of main, a walk that leaves the function's body
abbrev pub EachCallLeaves : Type 0
EachCallLeaves = (P : Source) → IsOrderlyProgram P → (input : List ℕ) (limit a : ℕ) (status : ℤ) → 1 ≤ a → (run_heard P input limit).end ≡ Returned status
    → (own a (run_heard P input limit).deeds ≡ []) ⊎ IsLeaving P (run_heard P input limit).deeds a
