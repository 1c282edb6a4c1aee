-- Two ways to the same result, behind which fewer turns are left: what each step of the meaning makes of them.
use Rattle.std.proofs.Common.{◌≡◌, ℕ, zero, suc, ◌<◌, ◌-◌, List, [], ◌∷◌, Option, Some, None, Result, Ok, Err, Bool, true, false, refl, subst, arith}
use Rattle.std.specs.Prelude.{nat_le, if◌then◌else◌}
use Rattle.c_events.specs.declared.events.Event.{Event}
use Rattle.c_syntax.specs.declared.text.Text.{Text}
use Rattle.c_constants.specs.Probes.{probe_number_of}
use Rattle.c_store.specs.declared.value.Value.{Value}
use Rattle.c_store.specs.declared.value.Pointer.{Pointer}
use Rattle.c_store.specs.declared.value.Fault.{Fault}
use Rattle.c_meaning.specs.State.{Act, State}
use Rattle.c_meaning.specs.Results.{Got, Gives, Stops, then_do, turn_of, turn, turns, settled, present, needed}
use Rattle.c_meaning.specs.Firsts.{First, quiet, heard, noted_block, noted_use, noted_def}
use Rattle.c_meaning.specs.Places.{logs_one, logs}

-- fewer than n turns are left, or the run is over
abbrev pub Left : {A : Type 0} → ℕ → Got A → Type 0
Left n (Gives a s) = s.turns < n
Left n (Stops why s) = Unit {0}

pub record Alike {A : Type 0} (n : ℕ) (r q : Got A) : Type 0 where
  pub same : r ≡ q
  pub left : Left n r

-- ---- in general

pub alike_same : {A : Type 0} (n : ℕ) (r : Got A) → Left n r → Alike n r r
alike_same n r l = record { same = refl; left = l }

pub left_then : {A B : Type 0} (n : ℕ) (r : Got A) (g : A → State → Got B) → Left n r → ((a : A) (s : State) → s.turns < n → Left n (g a s)) → Left n (then_do r g)
left_then n (Gives a s) g l go = go a s l
left_then n (Stops why s) g l go = tt

pub then_left : {A B : Type 0} (n m : ℕ) (r : Got A) (g h : A → State → Got B) → Left m r → ((a : A) (s : State) → s.turns < m → Alike n (g a s) (h a s)) → Alike n (then_do r g) (then_do r h)
then_left n m (Gives a s) g h l go = go a s l
then_left n m (Stops why s) g h l go = record { same = refl; left = tt }

pub alike_then : {A B : Type 0} (n : ℕ) (r q : Got A) (g h : A → State → Got B) → Alike n r q → ((a : A) (s : State) → s.turns < n → Alike n (g a s) (h a s)) → Alike n (then_do r g) (then_do q h)
alike_then n r q g h al go = subst (λ z. Alike n (then_do r g) (then_do z h)) al.same (then_left n n r g h al.left go)

pub if_alike : {A : Type 0} (n : ℕ) (b : Bool) (r q r' q' : Got A) → Alike n r q → Alike n r' q' → Alike n (if b then r else r') (if b then q else q')
if_alike n true r q r' q' l m = l
if_alike n false r q r' q' l m = m

pub if_left : {A : Type 0} (n : ℕ) (b : Bool) (r q : Got A) → Left n r → Left n q → Left n (if b then r else q)
if_left n true r q l m = l
if_left n false r q l m = m

-- ---- turns

alike_turn_of : {A : Type 0} (n m : ℕ) (s : State) (g h : State → Got A) → m < suc n → ((s : State) → s.turns < n → Alike n (g s) (h s)) → Alike n (turn_of m s g) (turn_of m s h)
alike_turn_of n zero s g h lt go = record { same = refl; left = tt }
alike_turn_of n (suc m) s g h lt go = go (record s { turns = m }) (omega arith)

pub alike_turn : {A : Type 0} (n : ℕ) (s : State) (g h : State → Got A) → s.turns < suc n → ((s : State) → s.turns < n → Alike n (g s) (h s)) → Alike n (turn s g) (turn s h)
alike_turn n s g h lt go = alike_turn_of n s.turns s g h lt go

pub alike_turns : {A : Type 0} (n m : ℕ) (s : State) (g h : State → Got A) → s.turns < n → ((s : State) → s.turns < n → Alike n (g s) (h s)) → Alike n (turns m s g) (turns m s h)
alike_turns n m s g h lt go = if_alike n (nat_le m s.turns) _ _ _ _ (go (record s { turns = s.turns - m }) (omega arith)) (record { same = refl; left = tt })

-- ---- results

pub settled_left : {A : Type 0} (n : ℕ) (r : Result A Fault) (s : State) → s.turns < n → Left n (settled r s)
settled_left n (Ok a) s lt = lt
settled_left n (Err why) s lt = tt

pub present_left : {A : Type 0} (n : ℕ) (r : Option A) (s : State) → s.turns < n → Left n (present r s)
present_left n (Some a) s lt = lt
present_left n None s lt = tt

pub needed_alike : (n : ℕ) (r q : Got (Option Value)) → Alike n r q → Alike n (needed r) (needed q)
needed_alike n r q al = alike_then n r q present present al (λ v s lt. alike_same n _ (present_left n v s lt))

-- ---- what is told takes no turn

-- a way to log that takes no turn
abbrev pub Logs : (ℕ → State → State) → Type 0
Logs log = (m : ℕ) (s : State) → (log m s).turns ≡ s.turns

one_alike : {A : Type 0} (n m : ℕ) (log : ℕ → State → State) (x : Option ℕ) (s : State) (g h : State → Got A) → Logs log → s.turns < m → ((s : State) → s.turns < m → Alike n (g s) (h s)) → Alike n (logs_one log x s g) (logs_one log x s h)
one_alike n m log None s g h keeps lt go = record { same = refl; left = tt }
one_alike n m log (Some j) s g h keeps lt go = go (log j s) (omega (arith, keeps j s))

pub logs_alike : {A : Type 0} (n m : ℕ) (log : ℕ → State → State) (xs : List Text) (s : State) (g h : State → Got A) → Logs log → s.turns < m → ((s : State) → s.turns < m → Alike n (g s) (h s)) → Alike n (logs log xs s g) (logs log xs s h)
logs_alike n m log [] s g h keeps lt go = go s lt
logs_alike n m log (x ∷ xs) s g h keeps lt go = one_alike n m log (probe_number_of x) s _ _ keeps lt (λ s lt. logs_alike n m log xs s g h keeps lt go)

pub logs_left : {A : Type 0} (n : ℕ) (log : ℕ → State → State) (xs : List Text) (s : State) (g : State → Got A) → Logs log → s.turns < n → ((s : State) → s.turns < n → Left n (g s)) → Left n (logs log xs s g)
logs_left n log xs s g keeps lt go = (logs_alike n n log xs s g g keeps lt (λ s lt. alike_same n (g s) (go s lt))).left

pub block_turns : (b : Bool) (i : First) (s : State) → (noted_block b i s).turns ≡ s.turns
block_turns b (quiet m) s = refl
block_turns true (heard c w) s = refl
block_turns false (heard c w) s = refl

pub use_turns : (way : Event → Act) (i : First) (q : Pointer) (s : State) → (noted_use way i q s).turns ≡ s.turns
use_turns way (quiet m) q s = refl
use_turns way (heard c w) q s = refl

pub def_turns : (way : Event → Act) (i : First) (q : Pointer) (s : State) → (noted_def way i q s).turns ≡ s.turns
def_turns way (quiet m) q s = refl
def_turns way (heard c w) q s = refl
