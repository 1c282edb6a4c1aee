-- How results are put one behind the other, for what goes through a program step by step.
use Rattle.std.proofs.Common.{◌≡◌, ℕ, zero, suc, List, [], ◌∷◌, Option, Some, None, Bool, true, false, ◌∙◌, refl, arith}
use Rattle.std.specs.Prelude.{nat_le, if◌then◌else◌}
use Rattle.c_syntax.specs.declared.text.Text.{Text}
use Rattle.c_constants.specs.Probes.{probe_number_of}
use Rattle.c_meaning.specs.declared.end.Stop.TheVariants as stop
use Rattle.c_meaning.specs.State.{State}
use Rattle.c_meaning.specs.Results.{Got, Gives, Stops, then_do, turn_of, turn, turns}
use Rattle.c_meaning.specs.Places.{logs_one, logs}

pub then_then : {A B C : Type 0} (r : Got A) (g : A → State → Got B) (h : B → State → Got C) → then_do (then_do r g) h ≡ then_do r (λ a s. then_do (g a s) h)
then_then (Gives a s) g h = refl
then_then (Stops why s) g h = refl

pub then_same : {A B : Type 0} (r : Got A) (g h : A → State → Got B) → ((a : A) (s : State) → g a s ≡ h a s) → then_do r g ≡ then_do r h
then_same (Gives a s) g h same = same a s
then_same (Stops why s) g h same = refl

pub then_gives : {A : Type 0} (r : Got A) → then_do r Gives ≡ r
then_gives (Gives a s) = refl
then_gives (Stops why s) = refl

pub if_then : {A B : Type 0} (b : Bool) (r q : Got A) (g : A → State → Got B) → then_do (if b then r else q) g ≡ (if b then then_do r g else then_do q g)
if_then true r q g = refl
if_then false r q g = refl

-- ---- turns

turn_of_then : {A B : Type 0} (n : ℕ) (s : State) (g : State → Got A) (h : A → State → Got B) → then_do (turn_of n s g) h ≡ turn_of n s (λ s. then_do (g s) h)
turn_of_then zero s g h = refl
turn_of_then (suc n) s g h = refl

pub turn_then : {A B : Type 0} (s : State) (g : State → Got A) (h : A → State → Got B) → then_do (turn s g) h ≡ turn s (λ s. then_do (g s) h)
turn_then s g h = turn_of_then s.turns s g h

turn_of_same : {A : Type 0} (n : ℕ) (s : State) (g h : State → Got A) → ((s : State) → g s ≡ h s) → turn_of n s g ≡ turn_of n s h
turn_of_same zero s g h same = refl
turn_of_same (suc n) s g h same = same (record s { turns = n })

pub turn_same : {A : Type 0} (s : State) (g h : State → Got A) → ((s : State) → g s ≡ h s) → turn s g ≡ turn s h
turn_same s g h same = turn_of_same s.turns s g h same

turn_of_none : {A : Type 0} (n : ℕ) (s : State) (g : State → Got A) → n ≡ 0 → turn_of n s g ≡ Stops stop.Turns s
turn_of_none zero s g none = refl
turn_of_none (suc n) s g none = absurd (omega (arith, none))

-- where no turn is left
pub no_turn : {A : Type 0} (s : State) (g : State → Got A) → s.turns ≡ 0 → turn s g ≡ Stops stop.Turns s
no_turn s g none = turn_of_none s.turns s g none

pub turns_then : {A B : Type 0} (n : ℕ) (s : State) (g : State → Got A) (h : A → State → Got B) → then_do (turns n s g) h ≡ turns n s (λ s. then_do (g s) h)
turns_then n s g h = if_then (nat_le n s.turns) _ _ h

-- ---- probes

one_then : {A B : Type 0} (log : ℕ → State → State) (x : Option ℕ) (s : State) (g : State → Got A) (h : A → State → Got B) → then_do (logs_one log x s g) h ≡ logs_one log x s (λ s. then_do (g s) h)
one_then log None s g h = refl
one_then log (Some k) s g h = refl

one_same : {A : Type 0} (log : ℕ → State → State) (x : Option ℕ) (s : State) (g h : State → Got A) → ((s : State) → g s ≡ h s) → logs_one log x s g ≡ logs_one log x s h
one_same log None s g h same = refl
one_same log (Some k) s g h same = same (log k s)

pub logs_same : {A : Type 0} (log : ℕ → State → State) (xs : List Text) (s : State) (g h : State → Got A) → ((s : State) → g s ≡ h s) → logs log xs s g ≡ logs log xs s h
logs_same log [] s g h same = same s
logs_same log (x ∷ xs) s g h same = one_same log (probe_number_of x) s _ _ (λ s. logs_same log xs s g h same)

pub logs_then : {A B : Type 0} (log : ℕ → State → State) (xs : List Text) (s : State) (g : State → Got A) (h : A → State → Got B) → then_do (logs log xs s g) h ≡ logs log xs s (λ s. then_do (g s) h)
logs_then log [] s g h = refl
logs_then log (x ∷ xs) s g h = one_then log (probe_number_of x) s _ h ∙ one_same log (probe_number_of x) s _ _ (λ s. logs_then log xs s g h)
