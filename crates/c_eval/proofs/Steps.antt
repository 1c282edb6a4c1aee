-- One step keeps what is still to do.
use Rattle.std.proofs.Common.{◌≡◌, ℕ, ◌+◌, ◌<◌, ◌≤◌, List, [], ◌∷◌, ◌++◌, Option, Some, None, Bool, refl, sym, ap, ◌∙◌, arith}
use Rattle.c_base.specs.declared.place.Pos.{Pos}
use Rattle.c_arith.specs.Arith.{truth}
use Rattle.c_syntax.specs.declared.text.Text.{Text}
use Rattle.c_syntax.specs.Shape.{NodeShape, node, ExprShape, leaf, paren, call, prefix, unary, before, size_of, size_of_type, cast, suffix, index, field, behind, dot, arrow, two, plain, and, or, assign, comma, choose, probe, simple, select, block, test, used, def, NoteShape, typed, known, bare, number, char, str, name}
use Rattle.c_syntax.specs.declared.tree.UnaryOp.TheVariants as front
use Rattle.c_constants.specs.Probes.{probe_number_of}
use Rattle.c_store.specs.declared.value.Value.{Value}
use Rattle.c_store.specs.declared.value.Value.TheVariants.{Int}
use Rattle.c_store.specs.declared.value.Pointer.{Pointer}
use Rattle.c_tables.specs.Tables.{TablesShape}
use Rattle.c_walk.specs.declared.around.Taken.{Taken}
use Rattle.c_walk.specs.declared.around.Taken.TheVariants.{Read as Reading}
use Rattle.c_meaning.specs.declared.end.Stop.{Stop}
use Rattle.c_meaning.specs.State.{State}
use Rattle.c_meaning.specs.Results.{Got, Gives, Stops, then_do, present, needed}
use Rattle.c_meaning.specs.Operators.{is_true}
use Rattle.c_meaning.specs.Firsts.{quiet}
use Rattle.c_meaning.specs.Places.{logs_one, logs}
use Rattle.c_meaning.specs.Knot.{Knot}
use Rattle.c_meaning.specs.Expressions.{meaning, form_meaning, gives, last_test, log_block}
use Rattle.c_eval.specs.declared.frame.Frame.{Frame}
use Rattle.c_eval.specs.declared.frame.Step.{Step}
use Rattle.c_eval.specs.declared.frame.Step.TheVariants as step
use Rattle.c_eval.specs.Rest.{Taker, does, all_do, weight, weights, Lower}
use Rattle.c_eval_once.specs.Parts.{value, place, truth_at}

-- ---- results

pub then_then : {A B C : Type 0} (r : Got A) (g : A → State → Got B) (h : B → State → Got C) → then_do (then_do r g) h ≡ then_do r (λ a s. then_do (g a s) h)
then_then (Gives a s) g h = refl
then_then (Stops why s) g h = refl

pub then_gives : {A : Type 0} (r : Got A) → then_do r (λ a s. Gives a s) ≡ r
then_gives (Gives a s) = refl
then_gives (Stops why s) = refl

-- a value that is needed
pub needed_then : {A B : Type 0} (r : Got (Option Value)) (f : Value → State → Got A) (g : A → State → Got B) → then_do r (λ v s. then_do (present v s) (λ v s. then_do (f v s) g)) ≡ then_do (then_do (needed r) f) g
needed_then (Gives None s) f g = refl
needed_then (Gives (Some v) s) f g = refl
needed_then (Stops why s) f g = refl

-- a test
pub tested_then : {A B : Type 0} (r : Got (Option Value)) (f : Bool → State → Got A) (g : A → State → Got B) → then_do r (λ v s. then_do (present v s) (λ v s. then_do (f (is_true v) s) g)) ≡ then_do (then_do (then_do (needed r) (λ v s. Gives (is_true v) s)) f) g
tested_then (Gives None s) f g = refl
tested_then (Gives (Some v) s) f g = refl
tested_then (Stops why s) f g = refl

-- ---- stacks

pub frames_push : (t : TablesShape) (k : Knot) (fs : List Frame) (f : Frame) (go : Taker) → all_do t k (fs ++ f ∷ []) go ≡ does t k f (all_do t k fs go)
frames_push t k [] f go = refl
frames_push t k (g ∷ fs) f go = frames_push t k fs f (does t k g go)

pub weights_push : (fs : List Frame) (f : Frame) → weights (fs ++ f ∷ []) ≡ weight f + weights fs
weights_push [] f = refl
weights_push (g ∷ fs) f = omega (arith, weights_push fs f)

pub lower : (a : Step) (n m : ℕ) → n < m → Lower a n m
lower step.More n m lt = lt
lower (step.Answer v) n m lt = lt
lower (step.Call f args) n m lt = lt
lower (step.Stopped why) n m lt = tt

pub lower_up : (a : Step) (n m m' : ℕ) → Lower a n m → m ≤ m' → Lower a n m'
lower_up step.More n m m' lt le = omega (arith, lt, le)
lower_up (step.Answer v) n m m' lt le = omega (arith, lt, le)
lower_up (step.Call f args) n m m' lt le = omega (arith, lt, le)
lower_up (step.Stopped why) n m m' lt le = tt

-- so does what falls below what is lower
pub lower_less : (a : Step) (n m l : ℕ) → Lower a n m → m < l → Lower a n l
lower_less step.More n m l lt lt' = omega (arith, lt, lt')
lower_less (step.Answer v) n m l lt lt' = omega (arith, lt, lt')
lower_less (step.Call f args) n m l lt lt' = omega (arith, lt, lt')
lower_less (step.Stopped why) n m l lt lt' = tt

pub lower_one : (a : Step) (n m m' : ℕ) → Lower a n m → m + 1 ≤ m' → Lower a (1 + n) m'
lower_one step.More n m m' lt le = omega (arith, lt, le)
lower_one (step.Answer v) n m m' lt le = omega (arith, lt, le)
lower_one (step.Call f args) n m m' lt le = omega (arith, lt, le)
lower_one (step.Stopped why) n m m' lt le = tt

-- a stop where what was wanted stops
pub stops_at : {A B : Type 0} (why : Stop) (r : Got A) (s s' : State) (go : A → State → Got B) → r ≡ Stops why s → s' ≡ s → Stops why s' ≡ then_do r go
stops_at why r s s' go e f = rw (e, f) refl

-- ---- places

-- how a place is taken changes nothing in what isn't observed
block_place : {A : Type 0} (x : Text) (s : State) (g h : State → Got A) → ((s : State) → g s ≡ h s) → logs log_block (x ∷ []) s g ≡ logs log_block (x ∷ []) s h
block_place x s g h same = one_block (probe_number_of x) s g h same where
  one_block : {A : Type 0} (n : Option ℕ) (s : State) (g h : State → Got A) → ((s : State) → g s ≡ h s) → logs_one log_block n s (λ s. g s) ≡ logs_one log_block n s (λ s. h s)
  one_block None s g h same = refl
  one_block (Some n) s g h same = same (log_block n s)

mutual
  pub place_same : (t : TablesShape) (k : Knot) (a : NodeShape) (r : Taken) (s : State) → (meaning t k a).place r (quiet 0) s ≡ place t k a s
  place_same t k (node p o n f) r s = form_same t k p n f r s

  form_same : (t : TablesShape) (k : Knot) (p : Pos) (n : NoteShape) (f : ExprShape) (r : Taken) (s : State) → (form_meaning t k p n f).place r (quiet 0) s ≡ (form_meaning t k p n f).place Reading (quiet 0) s
  form_same t k p n (leaf (number x)) r s = refl
  form_same t k p n (leaf (char c)) r s = refl
  form_same t k p n (leaf (str x)) r s = refl
  form_same t k p (typed y (Some v)) (leaf (name x)) r s = refl
  form_same t k p (typed y None) (leaf (name x)) r s = refl
  form_same t k p (known y v) (leaf (name x)) r s = refl
  form_same t k p bare (leaf (name x)) r s = refl
  form_same t k p n (paren a) r s = place_same t k a r s
  form_same t k p n (call x args) r s = refl
  form_same t k p n (prefix (unary front.AddressOf) a) r s = refl
  form_same t k p n (prefix (unary front.Deref) a) r s = refl
  form_same t k p n (prefix (unary front.Plus) a) r s = refl
  form_same t k p n (prefix (unary front.Minus) a) r s = refl
  form_same t k p n (prefix (unary front.Flip) a) r s = refl
  form_same t k p n (prefix (unary front.Not) a) r s = refl
  form_same t k p n (prefix (before u) a) r s = refl
  form_same t k p n (prefix size_of a) r s = refl
  form_same t k p n (size_of_type y) r s = refl
  form_same t k p n (cast y a) r s = refl
  form_same t k p n (suffix a (index b)) r s = refl
  form_same t k p n (suffix a (field dot x q)) r s = refl
  form_same t k p n (suffix a (field arrow x q)) r s = refl
  form_same t k p n (suffix a (behind u)) r s = refl
  form_same t k p n (two (plain u) a b) r s = refl
  form_same t k p n (two and a b) r s = refl
  form_same t k p n (two or a b) r s = refl
  form_same t k p n (two (assign None) a b) r s = refl
  form_same t k p n (two (assign (Some u)) a b) r s = refl
  form_same t k p n (two comma a b) r s = refl
  form_same t k p n (choose a b c) r s = refl
  form_same t k p n (probe (simple block x) a) r s = block_place x s _ _ (λ s. place_same t k a r s)
  form_same t k p n (probe (simple test x) a) r s = refl
  form_same t k p n (probe (simple used x) a) r s = place_same t k a r s
  form_same t k p n (probe (simple def x) a) r s = place_same t k a r s
  form_same t k p n (probe (select x cs) a) r s = refl

-- a place that is needed
pub at_place : {A B : Type 0} (t : TablesShape) (k : Knot) (a : NodeShape) (r : Taken) (s : State) (f : Pointer → State → Got A) (g : A → State → Got B) → then_do (place t k a s) (λ q s. then_do (f q s) g) ≡ then_do (then_do ((meaning t k a).place r (quiet 0) s) f) g
at_place t k a r s f g = sym (then_then (place t k a s) f g) ∙ ap (λ z. then_do (then_do z f) g) (sym (place_same t k a r s))

-- the right operand of `&&` and `||`
pub last_then : {B : Type 0} (t : TablesShape) (k : Knot) (b : NodeShape) (s : State) (g : Option Value → State → Got B) → then_do (value t k b s) (λ v s. then_do (present v s) (λ v s. then_do (truth_at v s) g)) ≡ then_do (last_test b (meaning t k b) (quiet 0) s) g
last_then t k b s g = tested_then (value t k b s) (λ x. gives (Int (truth x))) g
