-- The turns of a loop.
use Rattle.std.proofs.Common.{◌≡◌, ℕ, Option, Some, None, Bool, true, false, refl, sym, ap, subst, ◌∙◌}
use Rattle.std.specs.Prelude.{if◌then◌else◌}
use Rattle.c_syntax.specs.Shape.{NodeShape, MaybeNode, no_node, one_node, StmtShape, FormShape, compound, simply, when, either, while, do_while, for, switch, break, continue, return}
use Rattle.c_store.specs.declared.value.Value.{Value}
use Rattle.c_tables.specs.Tables.{TablesShape, tables_shape}
use Rattle.c_tree.specs.declared.program.Program.{Program}
use Rattle.c_meaning.specs.declared.end.Flow.{Flow}
use Rattle.c_meaning.specs.declared.end.Flow.TheVariants.{Next, Break, Continue, Return}
use Rattle.c_meaning.specs.State.{State}
use Rattle.c_meaning.specs.Results.{Got, Gives, Stops, then_do, present, needed}
use Rattle.c_meaning.specs.Operators.{is_true}
use Rattle.c_meaning.specs.Firsts.{quiet}
use Rattle.c_meaning.specs.Knot.{Loop, Knot}
use Rattle.c_meaning.specs.Statements.{after_body, while_loop, do_loop, for_loop, loop_turn, flow}
use Rattle.c_meaning.specs.Runs.{silent}
use Rattle.c_meaning.proofs.Steps.{then_same}
use Rattle.c_meaning.proofs.Knots.{again_is}
use Rattle.c_meaning.specs.Sources.{source_of}
use Rattle.c_eval_once.specs.Parts.{value}
use Rattle.c_machine.specs.Forms.{test_in, step_in}
use Rattle.c_machine.specs.Todo.{Leaver, loop_of, again_flow, next_flow, behind_body, body_turn, tested_flow, knot_of}

-- a value that is needed, for what its truth chooses
pub on_truth : (r : Got (Option Value)) (g : Bool → State → Got Flow) (go : Leaver) → then_do r (λ v s. then_do (then_do (present v s) (λ v. g (is_true v))) go) ≡ then_do (then_do (then_do (needed r) (λ v s. Gives (is_true v) s)) g) go
on_truth (Gives None s) g go = refl
on_truth (Gives (Some v) s) g go = refl
on_truth (Stops why s) g go = refl

-- for what it chooses
pub on_needed : (r : Got (Option Value)) (g : Value → State → Got Flow) (go : Leaver) → then_do r (λ v s. then_do (then_do (present v s) g) go) ≡ then_do (then_do (needed r) g) go
on_needed (Gives None s) g go = refl
on_needed (Gives (Some v) s) g go = refl
on_needed (Stops why s) g go = refl

behind_is : (t : TablesShape) (k : Knot) (l : Loop) (f : Flow) (s : State) → after_body t k l f s ≡ behind_body t k (Some l) f s
behind_is t k l Next s = refl
behind_is t k l Continue s = refl
behind_is t k l Break s = refl
behind_is t k l (Return v) s = refl

if_same : (x : Bool) (q r : Got Flow) (s : State) → q ≡ r → (if x then q else Gives Next s) ≡ (if x then r else Gives Next s)
if_same true q r s e = e
if_same false q r s e = refl

-- the turn of a loop with that body
turned : (t : TablesShape) (k : Knot) (r : Got Bool) (l : Loop) (a : StmtShape) (n : ℕ)
    → then_do r (λ x s. if x then then_do (flow t k true a (quiet n) s) (after_body t k l) else Gives Next s) ≡ then_do r (λ x s. if x then then_do (flow t k true a (quiet n) s) (behind_body t k (Some l)) else Gives Next s)
turned t k r l a n = then_same r _ _ (λ x s. if_same x _ _ s (then_same (flow t k true a (quiet n) s) _ _ (behind_is t k l)))

abbrev T : Program → TablesShape
T p = tables_shape p.tables

again_turn : (p : Program) (l : Loop) (q : State → Got Flow) (s : State) (go : Leaver) → loop_turn (T p) (knot_of p) l s ≡ q s → then_do (q s) go ≡ then_do ((knot_of p).again l s) go
again_turn p l q s go e = ap (λ r. then_do r go) (sym (again_is (source_of p) silent l s ∙ e))

-- of a loop with that test
tested_loop : (p : Program) (l : Loop) (a : StmtShape) (n : ℕ) (e : NodeShape) (s : State) (go : Leaver)
    → loop_turn (T p) (knot_of p) l s ≡ then_do (then_do (needed (value (T p) (knot_of p) e s)) (λ v s. Gives (is_true v) s)) (λ x s. if x then then_do (flow (T p) (knot_of p) true a (quiet n) s) (after_body (T p) (knot_of p) l) else Gives Next s)
    → then_do (value (T p) (knot_of p) e s) (λ v s. then_do (then_do (present v s) (λ v s. if is_true v then then_do (flow (T p) (knot_of p) true a (quiet n) s) (behind_body (T p) (knot_of p) (Some l)) else Gives Next s)) go) ≡ then_do ((knot_of p).again l s) go
tested_loop p l a n e s go h =
    on_truth (value (T p) (knot_of p) e s) (λ x s. if x then then_do (flow (T p) (knot_of p) true a (quiet n) s) (behind_body (T p) (knot_of p) (Some l)) else Gives Next s) go
    ∙ again_turn p l (λ s. then_do (then_do (needed (value (T p) (knot_of p) e s)) (λ v s. Gives (is_true v) s)) (λ x s. if x then then_do (flow (T p) (knot_of p) true a (quiet n) s) (behind_body (T p) (knot_of p) (Some l)) else Gives Next s)) s go
    (h ∙ turned (T p) (knot_of p) (then_do (needed (value (T p) (knot_of p) e s)) (λ v s. Gives (is_true v) s)) l a n)

abbrev Tested : Program → FormShape → ℕ → State → Leaver → NodeShape → Type 0
Tested p f n s go e = then_do (value (T p) (knot_of p) e s) (λ v s. then_do (then_do (present v s) (λ v. tested_flow (T p) (knot_of p) f n (is_true v))) go) ≡ then_do (again_flow (T p) (knot_of p) (loop_of (T p) f n) s) go

tested_for : (p : Program) (f g : MaybeNode) (h : MaybeNode) (a : StmtShape) (n : ℕ) (e : NodeShape) (s : State) (go : Leaver) → g ≡ one_node e → Tested p (for f g h a) n s go e
tested_for p f no_node h a n e s go is = cc
tested_for p f (one_node e') h a n e s go is = let same : e' ≡ e = cc in subst (Tested p (for f (one_node e') h a) n s go) same (tested_loop p (for_loop (T p) (one_node e') h a (quiet n)) a n e' s go refl)

-- the test of a loop
pub again_tested : (p : Program) (f : FormShape) (n : ℕ) (e : NodeShape) (s : State) (go : Leaver) → Some (one_node e) ≡ test_in f → Tested p f n s go e
again_tested p (while e' a) n e s go h = let same : e' ≡ e = cc in subst (Tested p (while e' a) n s go) same (tested_loop p (while_loop (T p) e' a (quiet n)) a n e' s go refl)
again_tested p (do_while a e') n e s go h = let same : e' ≡ e = cc in subst (Tested p (do_while a e') n s go) same (tested_loop p (do_loop (T p) a e' (quiet n)) a n e' s go refl)
again_tested p (for f g i a) n e s go h = tested_for p f g i a n e s go (cc)
again_tested p (compound c) n e s go h = cc
again_tested p (simply c) n e s go h = cc
again_tested p (when c a) n e s go h = cc
again_tested p (either c a b) n e s go h = cc
again_tested p (switch c items) n e s go h = cc
again_tested p break n e s go h = cc
again_tested p continue n e s go h = cc
again_tested p (return c) n e s go h = cc

-- a `for` without a test
untested_for : (p : Program) (f g h : MaybeNode) (a : StmtShape) (n : ℕ) (s : State) (go : Leaver) → g ≡ no_node → then_do (body_turn (T p) (knot_of p) (for f g h a) n s) go ≡ then_do (again_flow (T p) (knot_of p) (loop_of (T p) (for f g h a) n) s) go
untested_for p f no_node h a n s go is =
    again_turn p (for_loop (T p) no_node h a (quiet n)) (λ s. body_turn (T p) (knot_of p) (for f no_node h a) n s) s go
    (then_same (flow (T p) (knot_of p) true a (quiet n) s) _ _ (behind_is (T p) (knot_of p) (for_loop (T p) no_node h a (quiet n))))
untested_for p f (one_node e) h a n s go is = cc

pub again_untested : (p : Program) (f : FormShape) (n : ℕ) (s : State) (go : Leaver) → Some no_node ≡ test_in f → then_do (body_turn (T p) (knot_of p) f n s) go ≡ then_do (again_flow (T p) (knot_of p) (loop_of (T p) f n) s) go
again_untested p (while e a) n s go h = cc
again_untested p (do_while a e) n s go h = cc
again_untested p (for f g i a) n s go h = untested_for p f g i a n s go (cc)
again_untested p (compound c) n s go h = cc
again_untested p (simply c) n s go h = cc
again_untested p (when c a) n s go h = cc
again_untested p (either c a b) n s go h = cc
again_untested p (switch c items) n s go h = cc
again_untested p break n s go h = cc
again_untested p continue n s go h = cc
again_untested p (return c) n s go h = cc

-- ---- the last part of a `for`

on_any : (r : Got (Option Value)) (q : State → Got Flow) (go : Leaver) → then_do r (λ v s. then_do (q s) go) ≡ then_do (then_do (then_do r (λ v. Gives Next)) (λ f. q)) go
on_any (Gives v s) q go = refl
on_any (Stops why s) q go = refl

abbrev Stepped : TablesShape → Knot → FormShape → ℕ → State → Leaver → NodeShape → Type 0
Stepped t k f n s go e = then_do (value t k e s) (λ v s. then_do (again_flow t k (loop_of t f n) s) go) ≡ then_do (next_flow t k (loop_of t f n) s) go

step_for : (t : TablesShape) (k : Knot) (f g h : MaybeNode) (a : StmtShape) (n : ℕ) (e : NodeShape) (s : State) (go : Leaver) → h ≡ one_node e → Stepped t k (for f g h a) n s go e
step_for t k f g no_node a n e s go is = cc
step_for t k f g (one_node e') a n e s go is = let same : e' ≡ e = cc in subst (Stepped t k (for f g (one_node e') a) n s go) same (on_any (value t k e' s) (k.again (for_loop t g (one_node e') a (quiet n))) go)

pub next_stepped : (t : TablesShape) (k : Knot) (f : FormShape) (n : ℕ) (e : NodeShape) (s : State) (go : Leaver) → one_node e ≡ step_in f → Stepped t k f n s go e
next_stepped t k (for f g h a) n e s go is = step_for t k f g h a n e s go (sym is)
next_stepped t k (while c a) n e s go is = cc
next_stepped t k (do_while a c) n e s go is = cc
next_stepped t k (compound c) n e s go is = cc
next_stepped t k (simply c) n e s go is = cc
next_stepped t k (when c a) n e s go is = cc
next_stepped t k (either c a b) n e s go is = cc
next_stepped t k (switch c items) n e s go is = cc
next_stepped t k break n e s go is = cc
next_stepped t k continue n e s go is = cc
next_stepped t k (return c) n e s go is = cc
