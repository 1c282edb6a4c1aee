-- What is told of cells that are copied, one by one.
use Rattle.std.proofs.Common.{◌≡◌, ℕ, zero, suc, ◌-◌, ◌<◌, ◌≤◌, List, [], ◌∷◌, Option, Some, None, Bool, true, false, Result, Ok, Err, refl, sym, ap, ◌∙◌, subst, arith}
use Rattle.std.proofs.lemmas.Bool.{le-leb}
use Rattle.c_events.specs.declared.events.Event.{Event}
use Rattle.c_syntax.specs.declared.text.Text.{Text}
use Rattle.c_constants.specs.Probes.{probe_number_of}
use Rattle.c_store.specs.declared.value.Value.{Value}
use Rattle.c_store.specs.declared.value.Value.TheVariants.{Null}
use Rattle.c_store.specs.declared.value.Pointer.{Pointer}
use Rattle.c_meaning.specs.State.{Act, State, repeats}
use Rattle.c_meaning.specs.Results.{Got, Gives, then_do, untyped}
use Rattle.c_meaning.specs.Firsts.{quiet}
use Rattle.c_meaning.specs.Places.{cells_defined, cells_used, log_def, log_use, logs, logs_one, next_cell}
use Rattle.c_eval_once.specs.Forms.{told}

-- ---- what is told of one cell, whatever comes behind it

number_then : {A B : Type 0} (log : ℕ → State → State) (n : Option ℕ) (s : State) (f : State → Got A) (g : State → Got B) (go : A → State → Got B) → ((s : State) → g s ≡ then_do (f s) go) → logs_one log n s g ≡ then_do (logs_one log n s f) go
number_then log None s f g go same = refl
number_then log (Some n) s f g go same = same (log n s)

logs_then : {A B : Type 0} (log : ℕ → State → State) (xs : List Text) (x : A) (s : State) (go : State → Got B) → logs log xs s go ≡ then_do (logs log xs s (λ s. Gives x s)) (λ x. go)
logs_then log [] x s go = refl
logs_then log (y ∷ xs) x s go = number_then log (probe_number_of y) s _ _ _ (λ s. logs_then log xs x s go)

told_then : {A B : Type 0} (r : Bool) (x : A) (s : State) (go : State → Got B) → then_do (told r s (λ s. Gives x s)) (λ x. go) ≡ told r s go
told_then true x s go = refl
told_then false x s go = refl

abbrev Tells : {A : Type 0} → (ℕ → State → State) → List Text → Bool → State → State → (State → Got A) → Type 0
Tells log xs r s s' go = logs log xs s go ≡ told r s' go

any_told : (log : ℕ → State → State) (xs : List Text) (r : Bool) (s s' : State) (go : State → Got (Option Value)) → ((go : State → Got Value) → Tells log xs r s s' go) → Tells log xs r s s' go
any_told log xs r s s' go one = logs_then log xs Null s go ∙ ap (λ g. then_do g (λ x. go)) (one (λ s. Gives Null s)) ∙ told_then r Null s' go

-- ---- uses

pub none_used : (way : Event → Act) (q : Pointer) (n : ℕ) (s : State) (go : State → Got (Option Value)) → cells_used way [] (quiet 0) q n s go ≡ go s
none_used way q zero s go = refl
none_used way q (suc n) s go = none_used repeats (next_cell q) n s go

pub used_again : (way : Event → Act) (xs : List Text) (q : Pointer) (n : ℕ) (s : State) (go : State → Got (Option Value)) → cells_used way xs (quiet 0) q n s go ≡ cells_used repeats xs (quiet 0) q n s go
used_again way xs q zero s go = refl
used_again way xs q (suc n) s go = refl

pub one_used : (xs : List Text) (r : Bool) (q : Pointer) (n m : ℕ) (s s' : State) (go : State → Got (Option Value)) → 0 < n → m ≡ n - 1 → ((go : State → Got Value) → logs (log_use q) xs s go ≡ told r s' go) → cells_used repeats xs (quiet 0) q n s go ≡ told r s' (λ s. cells_used repeats xs (quiet 0) (next_cell q) m s go)
one_used xs r q zero m s s' go more e one = absurd (omega arith)
one_used xs r q (suc n) m s s' go more e one =
    let k : n ≡ m = omega (arith, e) in
    any_told (log_use q) xs r s s' (λ s. cells_used repeats xs (quiet 0) (next_cell q) n s go) one ∙ ap (λ m. told r s' (λ s. cells_used repeats xs (quiet 0) (next_cell q) m s go)) k

-- ---- definitions

pub none_defined : (way : Event → Act) (q : Pointer) (n : ℕ) (s : State) (go : State → Got (Option Value)) → cells_defined way [] (quiet 0) q n s go ≡ go s
none_defined way q zero s go = refl
none_defined way q (suc n) s go = none_defined repeats (next_cell q) n s go

pub defined_again : (way : Event → Act) (xs : List Text) (q : Pointer) (n : ℕ) (s : State) (go : State → Got (Option Value)) → cells_defined way xs (quiet 0) q n s go ≡ cells_defined repeats xs (quiet 0) q n s go
defined_again way xs q zero s go = refl
defined_again way xs q (suc n) s go = refl

pub one_defined : (xs : List Text) (r : Bool) (q : Pointer) (n m : ℕ) (s s' : State) (go : State → Got (Option Value)) → 0 < n → m ≡ n - 1 → ((go : State → Got Value) → logs (log_def q) xs s go ≡ told r s' go) → cells_defined repeats xs (quiet 0) q n s go ≡ told r s' (λ s. cells_defined repeats xs (quiet 0) (next_cell q) m s go)
one_defined xs r q zero m s s' go more e one = absurd (omega arith)
one_defined xs r q (suc n) m s s' go more e one =
    let k : n ≡ m = omega (arith, e) in
    any_told (log_def q) xs r s s' (λ s. cells_defined repeats xs (quiet 0) (next_cell q) n s go) one ∙ ap (λ m. told r s' (λ s. cells_defined repeats xs (quiet 0) (next_cell q) m s go)) k
