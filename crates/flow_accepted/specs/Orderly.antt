-- Programs of the checker are orderly, and each call of their runs is a walk of its function.
use Rattle.std.specs.Prelude.{◌≡◌, ◌⊎◌, ◌≤◌, ℕ, ℤ, List, []}
use Rattle.c_tree.specs.Programs.{IsProgram}
use Rattle.c_meaning.specs.declared.end.End.TheVariants.{Returned}
use Rattle.c_meaning.specs.Deeds.{own}
use Rattle.c_meaning.specs.Calls.{Source}
use Rattle.c_meaning.specs.Runs.{run_heard}
use Rattle.probe_laws.specs.Laws.{IsTaken}
use Rattle.flow_calls.specs.Orderly.{IsOrderlyProgram}
use Rattle.flow_calls.specs.Walking.{IsWalking, IsLeaving}
use Rattle.flow_values.specs.Initialised.{AreInitialised}

-- typed without complaint and not refused, it is orderly, where its strings and lists give their variables values, and other expressions
-- initialise scalars alone
abbrev pub AcceptedIsOrderly : Type 0
AcceptedIsOrderly = (P : Source) → IsProgram P.unit P.tables → IsTaken P → AreInitialised P → IsOrderlyProgram P

-- then each call of a run is a walk of its function, wherever the run stops
abbrev pub AcceptedCallsWalk : Type 0
AcceptedCallsWalk = (P : Source) → IsProgram P.unit P.tables → IsTaken P → AreInitialised P → (input : List ℕ) (limit a : ℕ) → 1 ≤ a
    → (own a (run_heard P input limit).deeds ≡ []) ⊎ IsWalking P (run_heard P input limit).deeds a

-- and where the run ends by a `return` of main, a walk that leaves the function's body
abbrev pub AcceptedCallsLeave : Type 0
AcceptedCallsLeave = (P : Source) → IsProgram P.unit P.tables → IsTaken P → AreInitialised P
    → (input : List ℕ) (limit a : ℕ) (status : ℤ) → 1 ≤ a → (run_heard P input limit).end ≡ Returned status
    → (own a (run_heard P input limit).deeds ≡ []) ⊎ IsLeaving P (run_heard P input limit).deeds a
