-- How an advance leaves an expression: its step, of which the probes are told.
use Rattle.std.specs.Prelude.{◌≡◌, ℕ, ◌<◌, List, Option, Some, None}
use Rattle.c_events.specs.declared.events.Event.{Event}
use Rattle.c_store.specs.declared.value.Value.{Value}
use Rattle.c_tables.specs.Tables.{TablesShape}
use Rattle.c_meaning.specs.declared.end.Stop.{Stop}
use Rattle.c_meaning.specs.State.{State}
use Rattle.c_meaning.specs.Results.{Got, Gives, Stops, then_do}
use Rattle.c_meaning.specs.Knot.{Knot}
use Rattle.c_meaning.specs.Lasting.{IsFront}
use Rattle.c_meaning.specs.Runs.{stopped_end}
use Rattle.c_eval.specs.declared.advance.Advance.{Advance}
use Rattle.c_eval.specs.declared.advance.Advance.TheVariants as advance
use Rattle.c_eval.specs.declared.frame.Step as stepping
use Rattle.c_eval.specs.declared.frame.Step.TheVariants as step
use Rattle.c_eval.specs.declared.work.Work.{Work}
use Rattle.c_eval.specs.Rest.{to_value, left, rest, size, weights}

-- ---- the log at the end

abbrev pub log_of : {A : Type 0} → Got A → List Event
log_of (Gives a s) = s.log
log_of (Stops why s) = s.log

-- it begins with this list
pub record Grown {A : Type 0} (l : List Event) (r : Got A) : Type 0 where
  pub front : IsFront l (log_of r)

-- ---- advances

-- the value of an expression, or none
abbrev pub given_advance : Option Value → Advance
given_advance (Some v) = advance.Value v
given_advance None = advance.Nothing

-- a step's way to leave, in the state behind it
abbrev pub advance_of : TablesShape → State → stepping.Step → Advance
advance_of t s step.More = advance.More
advance_of t s (step.Answer v) = given_advance v
advance_of t s (step.Call f args) = advance.Call f args.items
advance_of t s (step.Stopped why) = advance.Stopped (stopped_end t why s)

-- what is still to do after an advance, in the state behind it, comes to this; where the run stops, it ends so
abbrev pub ComesTo : TablesShape → Knot → Advance → Work → State → Got (Option Value) → Type 0
ComesTo t k advance.More w s r = rest t k w s ≡ r
ComesTo t k (advance.Value v) w s r = Gives (Some v) s ≡ r
ComesTo t k advance.Nothing w s r = Gives None s ≡ r
ComesTo t k (advance.Call f args) w s r = then_do (k.call f args s) (to_value (left t k w)) ≡ r
ComesTo t k (advance.Stopped e) w s r = (why : Stop) × (Stops why s ≡ r) × (e ≡ stopped_end t why s)

-- what is open after an advance
abbrev pub size_beyond : Advance → Work → ℕ
size_beyond advance.More w = size w
size_beyond (advance.Value v) w = 0
size_beyond advance.Nothing w = 0
size_beyond (advance.Call f args) w = weights w.stack.items
size_beyond (advance.Stopped e) w = 0

-- falls, but where the run stops
abbrev pub Falls : Advance → ℕ → ℕ → Type 0
Falls advance.More n m = n < m
Falls (advance.Value v) n m = n < m
Falls advance.Nothing n m = n < m
Falls (advance.Call f args) n m = n < m
Falls (advance.Stopped e) n m = Unit {0}
