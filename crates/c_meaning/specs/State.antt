-- The state of a run (C89, 2.1.2.3): the store, the names that stand for instances in it, what was read and written, what was done.
use Rattle.std.specs.Prelude.{ℕ, ◌++◌, List, [], ◌∷◌, nat_eq, Option, Some, None, if◌then◌else◌}
use Rattle.c_events.specs.declared.events.Event.{Event}
use Rattle.c_store.specs.Cells.{Cells}

-- ---- what a run does at the nodes that are no probes

-- a call of that function begins; that instance of that local variable is made; an event; or a further event of the same site, of which
-- the cells of one object are told one by one
pub data Act : Type 0 where
  begins : ℕ → Act
  makes : (variable instance : ℕ) → Act
  tells : Event → Act
  repeats : Event → Act

-- an act, and the activation that did it
pub record Deed : Type 0 where
  pub activation : ℕ
  pub act : Act

-- ---- names

-- a variable, and the instance that it stands for
pub record Bound : Type 0 where
  pub variable : ℕ
  pub instance : ℕ

-- an active call: its function, its activation, and its open scopes, the innermost first
pub record Call : Type 0 where
  pub function : ℕ
  pub activation : ℕ
  pub scopes : List (List Bound)

-- ---- states

pub record State : Type 0 where
  pub store : Cells
  -- the variables of file scope
  pub file : List Bound
  -- what is left of the input, and what was written
  pub input : List ℕ
  pub output : List ℕ
  -- the turns that are left
  pub turns : ℕ
  -- the number of the last activation, and the active calls, the innermost first
  pub last : ℕ
  pub calls : List Call
  -- what was done at plain nodes, and what probes logged
  pub deeds : List Deed
  pub log : List Event

-- before anything is made
abbrev pub start : List ℕ → ℕ → State
start input limit = record {
  store = record { most = 1048576; count = 0; live = [] };
  file = [];
  input = input;
  output = [];
  turns = limit;
  last = 0;
  calls = [];
  deeds = [];
  log = [];
}

-- the activation, which is 0 before main is called
abbrev pub activation_in : List Call → ℕ
activation_in [] = 0
activation_in (c ∷ rest) = c.activation

abbrev pub activation : State → ℕ
activation s = activation_in s.calls

-- the active function, or 0
abbrev pub function_in : List Call → ℕ
function_in [] = 0
function_in (c ∷ rest) = c.function

abbrev pub did : Act → State → State
did a s = record s { deeds = s.deeds ++ record { activation = activation s; act = a } ∷ [] }

abbrev pub logged : Event → State → State
logged e s = record s { log = s.log ++ e ∷ [] }

-- ---- look-up

abbrev pub found_in : ℕ → List Bound → Option ℕ
found_in n [] = None
found_in n (b ∷ bs) = if nat_eq b.variable n then Some b.instance else found_in n bs

abbrev pub or_else : Option ℕ → Option ℕ → Option ℕ
or_else (Some j) other = Some j
or_else None other = other

abbrev pub found_among : ℕ → List (List Bound) → Option ℕ
found_among n [] = None
found_among n (scope ∷ rest) = or_else (found_in n scope) (found_among n rest)

abbrev pub found_within : ℕ → List Call → Option ℕ
found_within n [] = None
found_within n (c ∷ rest) = found_among n c.scopes

-- the instance that the variable stands for: in the active call, else at file scope
abbrev pub instance_of : ℕ → State → Option ℕ
instance_of n s = or_else (found_within n s.calls) (found_in n s.file)

-- ---- scopes

abbrev pub with_bound : Bound → List (List Bound) → List (List Bound)
with_bound b [] = (b ∷ []) ∷ []
with_bound b (scope ∷ rest) = (b ∷ scope) ∷ rest

abbrev pub in_call : (List (List Bound) → List (List Bound)) → List Call → List Call
in_call f [] = []
in_call f (c ∷ rest) = record c { scopes = f c.scopes } ∷ rest

abbrev pub opened : List (List Bound) → List (List Bound)
opened scopes = [] ∷ scopes

abbrev pub tail_of : {A : Type 0} → List A → List A
tail_of [] = []
tail_of (x ∷ rest) = rest

abbrev pub top_of : List (List Bound) → List Bound
top_of [] = []
top_of (scope ∷ rest) = scope

abbrev pub top_within : List Call → List Bound
top_within [] = []
top_within (c ∷ rest) = top_of c.scopes
