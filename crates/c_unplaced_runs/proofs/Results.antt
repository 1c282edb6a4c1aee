-- What is done behind equal results is equal where each way on is.
use Rattle.std.proofs.Common.{◌≡◌, ℕ, zero, suc, List, [], ◌∷◌, Option, Some, None, Bool, true, false, if◌then◌else◌, refl, ap, ◌∙◌}
use Rattle.std.specs.Prelude.{◌-◌, nat_le}
use Rattle.c_syntax.specs.declared.text.Text.{Text}
use Rattle.c_constants.specs.Probes.{probe_number_of}
use Rattle.c_meaning.specs.State.{State}
use Rattle.c_meaning.specs.Results.{Got, Gives, Stops, then_do, turn_of, turn, turns}
use Rattle.c_meaning.specs.Places.{logs_one, logs}

-- ways on behind one result
pub then_same : {A B : Type 0} (r : Got A) (f g : A → State → Got B) → ((a : A) (s : State) → f a s ≡ g a s) → then_do r f ≡ then_do r g
then_same (Gives a s) f g h = h a s
then_same (Stops why s) f g h = refl

-- results that are equal, and then ways on that are
pub both : {A B : Type 0} (q r : Got A) (f g : A → State → Got B) → q ≡ r → ((a : A) (s : State) → f a s ≡ g a s) → then_do q f ≡ then_do r g
both q r f g e h = ap (λ z. then_do z f) e ∙ then_same r f g h

turn_from : {A : Type 0} (n : ℕ) (s : State) (f g : State → Got A) → ((s : State) → f s ≡ g s) → turn_of n s f ≡ turn_of n s g
turn_from zero s f g h = refl
turn_from (suc n) s f g h = h (record s { turns = n })

pub turned : {A : Type 0} (s : State) (f g : State → Got A) → ((s : State) → f s ≡ g s) → turn s f ≡ turn s g
turned s f g h = turn_from s.turns s f g h

pub chosen : {A : Type 0} (b : Bool) (x y u v : A) → x ≡ u → y ≡ v → (if b then x else y) ≡ (if b then u else v)
chosen true x y u v e f = e
chosen false x y u v e f = f

pub many_turned : {A : Type 0} (n : ℕ) (s : State) (f g : State → Got A) → ((s : State) → f s ≡ g s) → turns n s f ≡ turns n s g
many_turned n s f g h = chosen (nat_le n s.turns) _ _ _ _ (h (record s { turns = s.turns - n })) refl

logged_one : {A : Type 0} (log : ℕ → State → State) (k : Option ℕ) (s : State) (f g : State → Got A) → ((s : State) → f s ≡ g s) → logs_one log k s f ≡ logs_one log k s g
logged_one log None s f g h = refl
logged_one log (Some k) s f g h = h (log k s)

pub logged_all : {A : Type 0} (log : ℕ → State → State) (xs : List Text) (s : State) (f g : State → Got A) → ((s : State) → f s ≡ g s) → logs log xs s f ≡ logs log xs s g
logged_all log [] s f g h = h s
logged_all log (x ∷ xs) s f g h = logged_one log (probe_number_of x) s _ _ (λ s. logged_all log xs s f g h)
