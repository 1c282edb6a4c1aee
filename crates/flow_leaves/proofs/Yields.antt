-- What a part of a run gives, with names as they were.
use Rattle.std.proofs.Common.{◌≡◌, ◌∙◌, ℕ, zero, suc, List, ap, refl, subst, Option, Some, None, Result, Ok, Err, Bool, true, false}
use Rattle.std.specs.Prelude.{if◌then◌else◌}
use Rattle.c_store.specs.declared.value.Value.{Value}
use Rattle.c_store.specs.declared.value.Fault.{Fault}
use Rattle.c_meaning.specs.State.{Bound, Call, State, found_in, found_within, instance_of, or_else}
use Rattle.c_meaning.specs.Results.{Got, Gives, Stops, then_do, turn_of, turn, settled, present, needed}
use Rattle.flow_names.specs.Keeping.{HasSameNames}
use Rattle.flow_names.proofs.Steps.{Leaves, names_follow}

abbrev pub Given : {A : Type 0} → State → Got A → (A → State → Type 0) → Type 0
Given s (Gives a u) Q = HasSameNames s u × Q a u
Given s (Stops why u) Q = Unit {0}

pub record Yields {A : Type 0} (s : State) (r : Got A) (Q : A → State → Type 0) : Type 0 where
  pub by : Given s r Q

abbrev pub Any : {A : Type 0} → A → State → Type 0
Any a u = Unit {0}

pub same : (s : State) → HasSameNames s s
same s = record { calls = refl; file = refl }

-- ---- what stands for a variable

pub still_there : (v : ℕ) (o : Option ℕ) (s u : State) → HasSameNames s u → instance_of v s ≡ o → instance_of v u ≡ o
still_there v o s u h e = ap (λ (cs : List Call). or_else (found_within v cs) (found_in v u.file)) h.calls ∙ ap (λ (bs : List Bound). or_else (found_within v s.calls) (found_in v bs)) h.file ∙ e

-- ---- steps

pub yields : {A : Type 0} (s : State) (a : A) (Q : A → State → Type 0) → Q a s → Yields s (Gives a s) Q
yields s a Q h = record { by = (same s, h) }

behind : {A : Type 0} (s u : State) (r : Got A) (Q : A → State → Type 0) → HasSameNames s u → Given u r Q → Given s r Q
behind s u (Gives a v) Q h g = (names_follow.further s u v h g.0, g.1)
behind s u (Stops why v) Q h g = tt

pub yields_behind : {A : Type 0} (s u : State) (r : Got A) (Q : A → State → Type 0) → HasSameNames s u → Yields u r Q → Yields s r Q
yields_behind s u r Q h g = record { by = behind s u r Q h g.by }

then_given : {A B : Type 0} (s : State) (r : Got A) (go : A → State → Got B) (Q : A → State → Type 0) (W : B → State → Type 0) → Given s r Q → ((a : A) (u : State) → HasSameNames s u → Q a u → Yields u (go a u) W) → Given s (then_do r go) W
then_given s (Gives a u) go Q W h f = behind s u (go a u) W h.0 (f a u h.0 h.1).by
then_given s (Stops why u) go Q W h f = tt

pub yields_then : {A B : Type 0} (s : State) (r : Got A) (go : A → State → Got B) (Q : A → State → Type 0) (W : B → State → Type 0) → Yields s r Q → ((a : A) (u : State) → HasSameNames s u → Q a u → Yields u (go a u) W) → Yields s (then_do r go) W
yields_then s r go Q W h f = record { by = then_given s r go Q W h.by f }

turn_of_yields : {A : Type 0} (m : ℕ) (s : State) (go : State → Got A) (Q : A → State → Type 0) → ((u : State) → Yields u (go u) Q) → Yields s (turn_of m s go) Q
turn_of_yields zero s go Q f = record { by = tt }
turn_of_yields (suc m) s go Q f = yields_behind s (record s { turns = m }) (go (record s { turns = m })) Q (record { calls = refl; file = refl }) (f (record s { turns = m }))

pub yields_turn : {A : Type 0} (s : State) (go : State → Got A) (Q : A → State → Type 0) → ((u : State) → Yields u (go u) Q) → Yields s (turn s go) Q
yields_turn s go Q f = turn_of_yields s.turns s go Q f

pub yields_if : {A : Type 0} (b : Bool) (s : State) (r u : Got A) (Q : A → State → Type 0) → Yields s r Q → Yields s u Q → Yields s (if b then r else u) Q
yields_if true s r u Q f g = f
yields_if false s r u Q f g = g

pub yields_settled : {A : Type 0} (r : Result A Fault) (s : State) (Q : A → State → Type 0) → ((a : A) → r ≡ Ok a → Q a s) → Yields s (settled r s) Q
yields_settled (Ok a) s Q h = yields s a Q (h a refl)
yields_settled (Err why) s Q h = record { by = tt }

pub yields_present : {A : Type 0} (r : Option A) (s : State) (Q : A → State → Type 0) → ((a : A) → r ≡ Some a → Q a s) → Yields s (present r s) Q
yields_present (Some a) s Q h = yields s a Q (h a refl)
yields_present None s Q h = record { by = tt }

-- a value that is there
pub yields_needed : (s : State) (r : Got (Option Value)) (Q : Option Value → State → Type 0) (W : Value → State → Type 0) → Yields s r Q → ((v : Value) (u : State) → Q (Some v) u → W v u) → Yields s (needed r) W
yields_needed s r Q W h f = yields_then s r present Q W h (λ v u n g. yields_present v u W (λ w e. f w u (subst (λ o. Q o u) e g)))

-- ---- names alone

named : {A : Type 0} (s : State) (r : Got A) → Leaves HasSameNames s r → Given s r Any
named s (Gives a u) h = (h.holds, tt)
named s (Stops why u) h = tt

pub yields_any : {A : Type 0} (s : State) (r : Got A) → Leaves HasSameNames s r → Yields s r Any
yields_any s r h = record { by = named s r h }

given_if : {A : Type 0} (s u : State) (r : Got A) (a : A) (Q : A → State → Type 0) → Given s r Q → r ≡ Gives a u → HasSameNames s u × Q a u
given_if s u r a Q h e = subst (λ z. Given s z Q) e h

-- of a result that is known
pub known : {A : Type 0} (s u : State) (r : Got A) (a : A) (Q : A → State → Type 0) → Yields s r Q → r ≡ Gives a u → HasSameNames s u × Q a u
known s u r a Q h e = given_if s u r a Q h.by e
