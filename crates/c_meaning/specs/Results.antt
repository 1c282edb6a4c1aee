-- Results with the state after them, turns, and faults.
use Rattle.std.specs.Prelude.{ℕ, ◌-◌, zero, suc, nat_le, Option, Some, None, Result, Ok, Err, if◌then◌else◌}
use Rattle.c_store.specs.declared.value.Value.{Value}
use Rattle.c_store.specs.declared.value.Fault.{Fault}
use Rattle.c_store.specs.declared.value.Fault.TheVariants.{NoResult}
use Rattle.c_meaning.specs.declared.end.Stop.{Stop}
use Rattle.c_meaning.specs.declared.end.Stop.TheVariants as stop
use Rattle.c_meaning.specs.State.{State}

-- a result and the state after it, or why the run stops, and the state then
pub data Got (A : Type 0) : Type 0 where
  Gives : (a : A) (s : State) → Got A
  Stops : (why : Stop) (s : State) → Got A

abbrev pub then_do : {A B : Type 0} → Got A → (A → State → Got B) → Got B
then_do (Gives a s) go = go a s
then_do (Stops why s) go = Stops why s

-- ---- turns

-- one turn, and on
abbrev pub turn_of : {A : Type 0} → ℕ → State → (State → Got A) → Got A
turn_of zero s go = Stops stop.Turns s
turn_of (suc n) s go = go (record s { turns = n })

abbrev pub turn : {A : Type 0} → State → (State → Got A) → Got A
turn s go = turn_of s.turns s go

-- so many turns, as far as there are as many
abbrev pub turns : {A : Type 0} → ℕ → State → (State → Got A) → Got A
turns n s go = if nat_le n s.turns then go (record s { turns = s.turns - n }) else Stops stop.Turns (record s { turns = 0 })

-- ---- faults

abbrev pub faulted : {A : Type 0} → Fault → State → Got A
faulted fault s = Stops (stop.Fault fault) s

-- what a tree does that no typed program has: it has no result
abbrev pub untyped : {A : Type 0} → State → Got A
untyped s = faulted NoResult s

abbrev pub settled : {A : Type 0} → Result A Fault → State → Got A
settled (Ok a) s = Gives a s
settled (Err fault) s = faulted fault s

abbrev pub present : {A : Type 0} → Option A → State → Got A
present None s = untyped s
present (Some a) s = Gives a s

-- the value that is used, which a call may have failed to give (C89, 3.6.6.4)
abbrev pub needed : Got (Option Value) → Got Value
needed r = then_do r present
