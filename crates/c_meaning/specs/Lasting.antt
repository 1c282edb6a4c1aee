-- Relations between a state and a later one that each step of a run keeps, and so the whole of what a part of a program does.
use Rattle.std.specs.Prelude.{◌≡◌, ◌≤◌, ◌<◌, ◌⊎◌, ℕ, List, ◌++◌, map, All}
use Rattle.c_events.specs.declared.events.Event.{Event}
use Rattle.c_events.specs.declared.events.Event.TheVariants.{Block, Test, Use, Def}
use Rattle.c_store.specs.declared.value.Value.{Value}
use Rattle.c_store.specs.Cells.{Cells}
use Rattle.c_walk.specs.declared.around.Taken.{Taken}
use Rattle.c_meaning.specs.State.{Act, Bound, Call, Deed, State, activation, did, logged, in_call}
use Rattle.c_meaning.specs.Results.{Got, Gives, Stops}
use Rattle.c_meaning.specs.Firsts.{First}
use Rattle.c_meaning.specs.Knot.{Loop, Knot}
use Rattle.c_meaning.specs.Expressions.{Meaning}
use Rattle.c_meaning.specs.Calls.{activated, left}

-- what a probe logs: numbers that a probe may have, and the number of an outcome
abbrev pub IsProbeNumber : ℕ → Type 0
IsProbeNumber n = (1 ≤ n) × (n ≤ 16383)

abbrev pub IsTold : Event → Type 0
IsTold (Block n) = IsProbeNumber n
IsTold (Test n o a) = IsProbeNumber n × (1 ≤ o)
IsTold (Use n c a) = IsProbeNumber n
IsTold (Def n c) = IsProbeNumber n

-- The first relation holds between a state and what a part of a call comes to, the second between a state and what a whole call comes to,
-- the third between a state and one in which the run stops, and the fourth between a state and one in which it stops in a call.
pub record Lasts (R C Q S : State → State → Type 0) : Type 0 where
  pub same : (s : State) → R s s
  pub further : (s t u : State) → R s t → R t u → R s u
  -- turns are taken; instances are made, written and ended, and no number is given twice
  pub turned : (s : State) (n : ℕ) → n ≤ s.turns → R s (record s { turns = n })
  pub kept_in : (s : State) (c : Cells) → s.store.count ≤ c.count → R s (record s { store = c })
  -- something is read, written, done at a plain node, or logged
  pub read : (s : State) (bs : List ℕ) → R s (record s { input = bs })
  pub put : (s : State) (bs : List ℕ) → R s (record s { output = s.output ++ bs })
  pub done : (s : State) (a : Act) → R s (did a s)
  pub told : (s : State) (e : Event) → IsTold e → R s (logged e s)
  -- names and scopes come and go
  pub named : (s : State) (bs : List Bound) → R s (record s { file = bs })
  pub scoped : (s : State) (f : List (List Bound) → List (List Bound)) → R s (record s { calls = in_call f s.calls })
  -- a call is a part of the call that it stands in, from its beginning until it is left, or the run stops in it
  pub whole : (s : State) (f : ℕ) (t : State) → R (activated f s) t → C s (left t)
  pub called : (s t : State) → C s t → R s t
  pub stopped : (s t : State) → R s t → Q s t
  pub further_stop : (s t u : State) → R s t → Q t u → Q s u
  pub call_stop : (s : State) (f : ℕ) (t : State) → Q (activated f s) t → S s t
  pub not_begun : (s : State) → S s s
  pub inside_stop : (s t : State) → S s t → Q s t

abbrev pub Holds : {A : Type 0} → (R Q : State → State → Type 0) → State → Got A → Type 0
Holds R Q s (Gives a t) = R s t
Holds R Q s (Stops why t) = Q s t

-- a relation holds between the state and the one at the end
pub record Lasted {A : Type 0} (R Q : State → State → Type 0) (s : State) (r : Got A) : Type 0 where
  pub holds : Holds R Q s r

-- what is behind a call or a loop's further turns keeps the relations
pub record Keeps (R C Q S : State → State → Type 0) (k : Knot) : Type 0 where
  pub call_keeps : (f : ℕ) (vs : List Value) (s : State) → Lasted C S s (k.call f vs s)
  pub again_keeps : (l : Loop) (s : State) → Lasted R Q s (k.again l s)

-- so does an expression, as a value and as a place
pub record Steady (R Q : State → State → Type 0) (m : Meaning) : Type 0 where
  pub value_steady : (i : First) (s : State) → Lasted R Q s (m.value i s)
  pub place_steady : (r : Taken) (i : First) (s : State) → Lasted R Q s (m.place r i s)

-- ---- time goes on

-- the first list is where the second one begins
pub record IsFront {A : Type 0} (front all : List A) : Type 0 where
  pub rest : List A
  pub is : front ++ rest ≡ all

-- nothing that was written, done or logged is taken back; turns are only taken; numbers of instances and activations only rise
pub record IsLater (s t : State) : Type 0 where
  pub output : IsFront s.output t.output
  pub deeds : IsFront s.deeds t.deeds
  pub log : IsFront s.log t.log
  pub turns : t.turns ≤ s.turns
  pub made : s.store.count ≤ t.store.count
  pub last : s.last ≤ t.last

-- ---- each call by itself

-- the activation is the active one, or a later one
abbrev pub IsOwnOrNew : State → Deed → Type 0
IsOwnOrNew s d = (d.activation ≡ activation s) ⊎ (s.last < d.activation)

abbrev pub IsNew : State → Deed → Type 0
IsNew s d = s.last < d.activation

abbrev pub activations : List Call → List ℕ
activations cs = map (λ c. c.activation) cs

-- something was done, by such activations alone
pub record HasDone (by : State → Deed → Type 0) (s t : State) : Type 0 where
  pub deeds : List Deed
  pub is : s.deeds ++ deeds ≡ t.deeds
  pub all : All (by s) deeds
  pub last : s.last ≤ t.last

-- the active call did something, and calls inside it, which are over
pub record IsInside (s t : State) : Type 0 where
  pub done : HasDone IsOwnOrNew s t
  pub calls : activations t.calls ≡ activations s.calls

-- a call did something and is over: the call that it stands in did nothing meanwhile
pub record IsOver (s t : State) : Type 0 where
  pub done : HasDone IsNew s t
  pub calls : activations t.calls ≡ activations s.calls
