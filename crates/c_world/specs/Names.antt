-- What names stand for, and the trail of bindings from which it is known.
use Rattle.std.specs.Prelude.{◌≡◌, ℕ, suc, ◌-◌, ◌<◌, ◌≤◌, nat_eq, List, [], ◌∷◌, length, get_or, slice_set, Option, Some, None, if◌then◌else◌}
use Rattle.c_meaning.specs.State.{Bound, Call, activation_in, found_in, found_within, or_else, with_bound, in_call, opened, top_within}
use Rattle.c_world.specs.declared.names.Standing.{Standing}
use Rattle.c_world.specs.declared.names.Entry.{Entry}
use Rattle.c_world.specs.declared.names.Entry.TheVariants as entry

-- the variables of file scope, and the active calls
pub record Naming : Type 0 where
  pub file : List Bound
  pub calls : List Call

-- the instance that the variable stands for
abbrev pub standing_of : ℕ → Naming → Option ℕ
standing_of v n = or_else (found_within v n.calls) (found_in v n.file)

-- ---- conditions

-- a call is active
abbrev pub IsActive : List Call → Type 0
IsActive [] = ⊥
IsActive (c ∷ rest) = Unit {0}

abbrev pub scopes_in : List Call → List (List Bound)
scopes_in [] = []
scopes_in (c ∷ rest) = c.scopes

-- how many scopes each call has, and that with one more or one less in the innermost call
abbrev pub scope_counts : List Call → List ℕ
scope_counts [] = []
scope_counts (c ∷ rest) = length c.scopes ∷ scope_counts rest

abbrev pub one_more : List ℕ → List ℕ
one_more [] = []
one_more (n ∷ ns) = suc n ∷ ns

abbrev pub one_less : List ℕ → List ℕ
one_less [] = []
one_less (n ∷ ns) = (n - 1) ∷ ns

-- ---- one binding of the innermost scope is undone

abbrev pub with_name : Bound → Naming → Naming
with_name b n = record n { calls = in_call (with_bound b) n.calls }

abbrev pub Undone : Option ℕ → Naming → Naming → Type 0
Undone None old new = (new ≡ old) × (top_within old.calls ≡ [])
Undone (Some j) old new = (v : ℕ) × (old ≡ with_name (record { variable = v; instance = j }) new) × IsActive new.calls × (1 ≤ length (scopes_in new.calls))

-- ---- the trail, the last entry first

abbrev pub calls_of : List Entry → List Call
calls_of [] = []
calls_of (entry.Call f a outer ∷ rest) = record { function = f; activation = a; scopes = [] ∷ [] } ∷ calls_of rest
calls_of (entry.Scope ∷ rest) = in_call opened (calls_of rest)
calls_of (entry.Name v j before ∷ rest) = in_call (with_bound (record { variable = v; instance = j })) (calls_of rest)

-- the function whose call an entry begins
abbrev pub called : Entry → Option ℕ
called (entry.Call f a outer) = Some f
called e = None

abbrev pub nowhere : Standing
nowhere = record { instance = 0; activation = 0 }

-- the table has the last binding of each variable, and undoing an entry gives the table before it
abbrev pub Sound : List Entry → List Standing → Type 0
Sound [] t = (v : ℕ) → get_or t v nowhere ≡ nowhere
Sound (entry.Call f a outer ∷ rest) t = (activation_in (calls_of rest) < a) × (outer ≡ activation_in (calls_of rest)) × Sound rest t
Sound (entry.Scope ∷ rest) t = IsActive (calls_of rest) × Sound rest t
Sound (entry.Name v j before ∷ rest) t = IsActive (calls_of rest) × (v < length t) × (get_or t v nowhere ≡ record { instance = j; activation = activation_in (calls_of rest) }) × Sound rest (slice_set t v before)

-- the instance, where it is bound in this activation; 0 is none
abbrev pub bound_in : Standing → ℕ → Option ℕ
bound_in s a = if nat_eq s.activation a then (if nat_eq a 0 then None else Some s.instance) else None
