-- A step and what the probes are told of it.
use Rattle.std.proofs.Common.{◌≡◌, ℕ, ◌+◌, ◌*◌, ◌<◌, List, [], ◌++◌, take, drop, Option, Some, None, refl, sym, ap, subst, ◌∙◌, append-nil, append_assoc}
use Rattle.std.proofs.lemmas.List.{append_cancel_left, take-append-drop}
use Rattle.c_events.specs.declared.events.Event.{Event}
use Rattle.c_store.specs.declared.value.Value.{Value}
use Rattle.c_tables.specs.Tables.{TablesShape}
use Rattle.c_meaning.specs.State.{State}
use Rattle.c_meaning.specs.Results.{Got, Gives, Stops, then_do}
use Rattle.c_meaning.specs.Knot.{Knot}
use Rattle.c_meaning.specs.Lasting.{Lasted, Keeps, IsFront, IsLater}
use Rattle.c_world.specs.Names.{Naming}
use Rattle.c_eval.specs.declared.advance.Advance.{Advance}
use Rattle.c_eval.specs.declared.frame.Step as stepping
use Rattle.c_eval.specs.declared.frame.Step.TheVariants as step
use Rattle.c_eval.specs.declared.work.Work.{Work}
use Rattle.c_eval.specs.Rest.{rest, rest_after, size_after, Lower}
use Rattle.c_eval.specs.Advance.{log_of, Grown, advance_of, ComesTo, size_beyond, Falls}
use Rattle.c_eval.proofs.Grown.{work_later, after_later}

-- ---- how a step leaves

given_comes : (t : TablesShape) (k : Knot) (v : Option Value) (w : Work) (s : State) (r : Got (Option Value)) → rest_after t k (step.Answer v) w s ≡ r → ComesTo t k (advance_of t s (step.Answer v)) w s r
given_comes t k (Some v) w s r e = e
given_comes t k None w s r e = e

step_comes : (t : TablesShape) (k : Knot) (a : stepping.Step) (w : Work) (s : State) (r : Got (Option Value)) → rest_after t k a w s ≡ r → ComesTo t k (advance_of t s a) w s r
step_comes t k step.More w s r e = e
step_comes t k (step.Answer v) w s r e = given_comes t k v w s r e
step_comes t k (step.Call f args) w s r e = e
step_comes t k (step.Stopped why) w s r e = (why, e, refl)

given_falls : (t : TablesShape) (s : State) (v : Option Value) (w : Work) (n m : ℕ) → n + 0 < m → Falls (advance_of t s (step.Answer v)) (n + size_beyond (advance_of t s (step.Answer v)) w) m
given_falls t s (Some v) w n m lt = lt
given_falls t s None w n m lt = lt

pub step_falls : (t : TablesShape) (s : State) (a : stepping.Step) (w : Work) (n m : ℕ) → Lower a (n + size_after a w) m → Falls (advance_of t s a) (n + size_beyond (advance_of t s a) w) m
step_falls t s step.More w n m lt = lt
step_falls t s (step.Answer v) w n m lt = given_falls t s v w n m lt
step_falls t s (step.Call f args) w n m lt = lt
step_falls t s (step.Stopped why) w n m lt = tt

-- after a step, of which the probes were told
pub advanced : (t : TablesShape) (k : Knot) (a : stepping.Step) (b : Advance) (w : Work) (s u : State) (r : Got (Option Value)) → b ≡ advance_of t s a → u ≡ s → rest_after t k a w s ≡ r → ComesTo t k b w u r
advanced t k a b w s u r is same e = subst (λ b. ComesTo t k b w u r) (sym is) (subst (λ u. ComesTo t k (advance_of t s a) w u r) (sym same) (step_comes t k a w s r e))

pub fallen : (t : TablesShape) (a : stepping.Step) (b : Advance) (w : Work) (s : State) (m n turns : ℕ) → b ≡ advance_of t s a → turns ≡ n → Lower a (4 * n + size_after a w) m → Falls b (4 * turns + size_beyond b w) m
fallen t a b w s m n turns is same lt = subst (λ b. Falls b (4 * turns + size_beyond b w) m) (sym is) (subst (λ x. Falls (advance_of t s a) (4 * x + size_beyond (advance_of t s a) w) m) (sym same) (step_falls t s a w (4 * n) m lt))

-- ---- what was told

pub front_further : (l m n : List Event) → IsFront l m → IsFront m n → IsFront l n
front_further l m n f g = record { rest = f.rest ++ g.rest; is = sym (append_assoc l f.rest g.rest) ∙ ap (λ x. x ++ g.rest) f.is ∙ g.is }

later_log : {A : Type 0} (s : State) (r : Got A) → Lasted IsLater IsLater s r → IsFront s.log (log_of r)
later_log s (Gives a u) kept = kept.holds.log
later_log s (Stops why u) kept = kept.holds.log

-- a front of the log now is a front of the log at the end
pub grown_later : {A : Type 0} (l : List Event) (s : State) (r : Got A) → IsFront l s.log → Lasted IsLater IsLater s r → Grown l r
grown_later l s r f kept = record { front = front_further l s.log (log_of r) f (later_log s r kept) }

pub grown_then : {A B : Type 0} (l : List Event) (r : Got A) (go : A → State → Got B) → Grown l r → ((a : A) (s : State) → Lasted IsLater IsLater s (go a s)) → Grown l (then_do r go)
grown_then l (Gives a s) go f kept = grown_later l s (go a s) f.front (kept a s)
grown_then l (Stops why s) go f kept = record { front = f.front }

pub work_grown : (t : TablesShape) (k : Knot) → Keeps IsLater IsLater IsLater IsLater k → (w : Work) (s : State) (l : List Event) → IsFront l s.log → Grown l (rest t k w s)
work_grown t k keeps w s l f = grown_later l s (rest t k w s) f (work_later t k keeps w s)

pub after_grown : (t : TablesShape) (k : Knot) → Keeps IsLater IsLater IsLater IsLater k → (a : stepping.Step) (w : Work) (s : State) (l : List Event) (r : Got (Option Value)) → rest_after t k a w s ≡ r → IsFront l s.log → Grown l r
after_grown t k keeps a w s l r e f = subst (λ r. Grown l r) e (grown_later l s (rest_after t k a w s) f (after_later t k keeps a w s))

-- some of the pending events
pub front_taken : (l es : List Event) (n : ℕ) → IsFront (l ++ take n es) (l ++ es)
front_taken l es n = record { rest = drop n es; is = append_assoc l (take n es) (drop n es) ∙ ap (λ x. l ++ x) (take-append-drop n es) }

pub front_pending : (l es : List Event) → IsFront l (l ++ es)
front_pending l es = record { rest = es; is = refl }

-- none is pending any more
pub none_pending : (es fs : List Event) (s u : State) → u.log ≡ ([] ++ es) ++ fs → s.log ≡ [] ++ es → u ≡ s → fs ≡ []
none_pending es fs s u a b e = append_cancel_left es fs [] (sym a ∙ ap (λ s. s.log) e ∙ b ∙ sym (append-nil es))

-- names are the variables of file scope and the calls
pub same_names : (n m : Naming) → n.file ≡ m.file → n.calls ≡ m.calls → n ≡ m
same_names n m a b = ap (λ x. record n { file = x }) a ∙ ap (λ x. record { file = m.file; calls = x }) b
