-- What holds of runs of every program of the checker that isn't refused: its calls are walks, and what they cover is listed.
use Rattle.std.specs.Prelude.{◌≡◌, ◌⊎◌, ◌≤◌, ℕ, ℤ, List, [], Option, Some}
use Rattle.atac_facts.specs.declared.fact.Fact.TheVariants.{Pair, PUse}
use Rattle.cover_parts.specs.Covered.{Covered}
use Rattle.c_tree.specs.Programs.{IsProgram}
use Rattle.c_meaning.specs.declared.end.End.TheVariants.{Returned}
use Rattle.c_meaning.specs.Deeds.{own}
use Rattle.c_meaning.specs.Calls.{Source}
use Rattle.c_meaning.specs.Runs.{run_heard}
use Rattle.probe_laws.specs.Laws.{IsTaken}
use Rattle.flow_calls.specs.Orderly.{IsOrderlyProgram}
use Rattle.flow_calls.specs.Walking.{IsWalking, IsLeaving}
use Rattle.flow_calls.specs.Placing.{Local}
use Rattle.flow_calls.specs.Pairs.{IsListed}
use Rattle.flow_parts.specs.Items.{run_events}
use Rattle.flow_parts.specs.Parts.{HasParts, parts_of}

-- typed without complaint and not refused, it is orderly
abbrev pub TakenIsOrderly : Type 0
TakenIsOrderly = (P : Source) → IsProgram P.unit P.tables → IsTaken P → IsOrderlyProgram P

-- and its sites of local variables may be told of
abbrev pub TakenHasParts : Type 0
TakenHasParts = (P : Source) → IsProgram P.unit P.tables → IsTaken P → HasParts P

-- each call of a run is a walk of its function, wherever the run stops
abbrev pub TakenCallsWalk : Type 0
TakenCallsWalk = (P : Source) → IsProgram P.unit P.tables → IsTaken P → (input : List ℕ) (limit a : ℕ) → 1 ≤ a
    → (own a (run_heard P input limit).deeds ≡ []) ⊎ IsWalking P (run_heard P input limit).deeds a

-- and where the run ends by a `return` of main, a walk that leaves the function's body
abbrev pub TakenCallsLeave : Type 0
TakenCallsLeave = (P : Source) → IsProgram P.unit P.tables → IsTaken P
    → (input : List ℕ) (limit a : ℕ) (status : ℤ) → 1 ≤ a → (run_heard P input limit).end ≡ Returned status
    → (own a (run_heard P input limit).deeds ≡ []) ⊎ IsLeaving P (run_heard P input limit).deeds a

-- the pairs of direct sites of local variables that the events of a run cover are listed, whichever decisions the uses belong to
abbrev pub TakenPairsAreListed : Type 0
TakenPairsAreListed = (P : Source) → IsProgram P.unit P.tables → IsTaken P → (owner : ℕ → Option ℕ) (input : List ℕ) (limit d u : ℕ) (v r : Local) → (parts_of P).defined d ≡ Some v → (parts_of P).used u ≡ Some r
    → v.variable ≡ r.variable → Covered owner (run_events P input limit) (Pair d u) → (f : ℕ) × IsListed P (parts_of P) f d v u r

-- and so are the pairs of their p-uses
abbrev pub TakenPUsesAreListed : Type 0
TakenPUsesAreListed = (P : Source) → IsProgram P.unit P.tables → IsTaken P → (owner : ℕ → Option ℕ) (input : List ℕ) (limit d u o : ℕ) (v r : Local) → (parts_of P).defined d ≡ Some v → (parts_of P).used u ≡ Some r
    → v.variable ≡ r.variable → Covered owner (run_events P input limit) (PUse d u o) → (f : ℕ) × IsListed P (parts_of P) f d v u r
