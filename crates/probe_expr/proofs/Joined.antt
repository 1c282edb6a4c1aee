-- Parts with their probes joined to one.
use Rattle.std.proofs.Common.{◌≡◌, ℤ, List, Bool, ap, sym, ◌∙◌}
use Rattle.c_base.specs.declared.place.Pos.{Pos}
use Rattle.c_syntax.specs.declared.tree.StepOp.{StepOp}
use Rattle.c_syntax.specs.declared.tree.StepOp.TheVariants as way
use Rattle.c_syntax.specs.Shape.{NoteShape, NodeShape, node, ExprShape, choose, ItemShapes}
use Rattle.c_syntax.specs.View.{step_shape}
use Rattle.c_walk.specs.declared.around.Taken.{Taken}
use Rattle.c_walk.specs.declared.around.Taken.TheVariants.{Read, Changed}
use Rattle.c_walk.specs.Items.{Outcomes, cases}
use Rattle.c_walk.specs.Tests.{is_logical_form, choosing, case_values}
use Rattle.c_walk.specs.Walked.{Walked, with_block, pos_of, inside, inside_test, with_decision, with_test}
use Rattle.c_walk.specs.Walking.{walk_node, walk_form, walk_test, walk_arm, walk_loop_test}
use Rattle.c_walk.specs.Stating.{walk_choice}
use Rattle.probe_rules.specs.Marks.{in_block, in_test, in_select}
use Rattle.probe_rules.specs.ProbedExpressions.{probed_node, probed_form, probed_test, probed_arm, probed_loop_test, probed_choice}
use Rattle.probe_expr.specs.declared.numbers.Numbers.{Numbers}
use Rattle.probe_expr.specs.Numbers.{counts, Counted, Numbered}

-- ---- steps and choices

step_probed : (n m : Numbers) (u : StepOp) (r : Taken) (a b : NodeShape) → Numbered n m b (λ c w. probed_node c Changed a w) (λ c w. walk_node c Changed a w) → Numbered n m (step_shape u b) (λ c w. probed_form c r (step_shape u a) w) (λ c w. walk_form c r (step_shape u a) w)
step_probed n m way.PreInc r a b made c w h = let p = made c w h in (ap (step_shape way.PreInc) p.0, p.1)
step_probed n m way.PreDec r a b made c w h = let p = made c w h in (ap (step_shape way.PreDec) p.0, p.1)
step_probed n m way.PostInc r a b made c w h = let p = made c w h in (ap (step_shape way.PostInc) p.0, p.1)
step_probed n m way.PostDec r a b made c w h = let p = made c w h in (ap (step_shape way.PostDec) p.0, p.1)

-- of a form that is such a step
pub step_numbered : (n m : Numbers) (u : StepOp) (r : Taken) (f : ExprShape) (a b : NodeShape) → f ≡ step_shape u a → Numbered n m b (λ c w. probed_node c Changed a w) (λ c w. walk_node c Changed a w) → Numbered n m (step_shape u b) (λ c w. probed_form c r f w) (λ c w. walk_form c r f w)
step_numbered n m u r f a b is made c w h =
    let p = step_probed n m u r a b made c w h in
    (p.0 ∙ ap (λ g. probed_form c r g w) (sym is), ap (λ g. counts (walk_form c r g w)) is ∙ p.1)

pub choose_numbered : (n m k l : Numbers) (r : Taken) (f : ExprShape) (a b d x y z : NodeShape) → f ≡ choose a b d → Numbered n m x (λ c w. probed_test c a w) (λ c w. walk_test c a w) → Numbered m k y (λ c w. probed_arm c b w) (λ c w. walk_arm c b w) → Numbered k l z (λ c w. probed_arm c d w) (λ c w. walk_arm c d w) → Numbered n l (choose x y z) (λ c w. probed_form c r f w) (λ c w. walk_form c r f w)
choose_numbered n m k l r f a b d x y z is first second third c w h =
    let p = first c w h in
    let q = second c (walk_test c a w) p.1 in
    let s = third c (walk_arm c b (walk_test c a w)) q.1 in
    let all : choose x y z ≡ probed_form c r (choose a b d) w = ap (λ u. choose u y z) p.0 ∙ ap (λ u. choose (probed_test c a w) u z) q.0 ∙ ap (choose (probed_test c a w) (probed_arm c b (walk_test c a w))) s.0 in
    (all ∙ ap (λ g. probed_form c r g w) (sym is), ap (λ g. counts (walk_form c r g w)) is ∙ s.1)

-- ---- tests and blocks

pub test_numbered : (n m k : Numbers) (logical : Bool) (p o : Pos) (x : NoteShape) (f : ExprShape) (inner made : NodeShape) → Counted n m (λ c w. with_test p f w) → Numbered m k inner (λ c w. probed_node c Read (node p o x f) w) (λ c w. walk_node c Read (node p o x f) w) → logical ≡ is_logical_form f → ((w : Walked) → counts w ≡ n → made ≡ in_test logical w inner) → Numbered n k made (λ c w. probed_test c (node p o x f) w) (λ c w. walk_test c (node p o x f) w)
test_numbered n m k logical p o x f inner made counted read is round c w h =
    let d = inside_test c f w in
    let v = with_test p f w in
    let q = read d v (counted c w h) in
    (round w h ∙ ap (in_test logical w) q.0 ∙ ap (λ b. in_test b w (probed_node d Read (node p o x f) v)) is, q.1)

pub arm_numbered : (n m k : Numbers) (p o : Pos) (x : NoteShape) (f : ExprShape) (inner made : NodeShape) → ((p : Pos) → Counted n m (λ c w. with_block p w)) → Numbered m k inner (λ c w. probed_node c Read (node p o x f) w) (λ c w. walk_node c Read (node p o x f) w) → ((w : Walked) → counts w ≡ n → made ≡ in_block w inner) → Numbered n k made (λ c w. probed_arm c (node p o x f) w) (λ c w. walk_arm c (node p o x f) w)
arm_numbered n m k p o x f inner made counted read round c w h =
    let q = read c (with_block p w) (counted p c w h) in
    (round w h ∙ ap (in_block w) q.0, q.1)

pub loop_test_numbered : (n m k : Numbers) (a inner made : NodeShape) → ((p : Pos) → Counted n m (λ c w. with_block p w)) → Numbered m k inner (λ c w. probed_test c a w) (λ c w. walk_test c a w) → ((w : Walked) → counts w ≡ n → made ≡ in_block w inner) → Numbered n k made (λ c w. probed_loop_test c a w) (λ c w. walk_loop_test c a w)
loop_test_numbered n m k a inner made counted test round c w h =
    let q = test c (with_block (pos_of a) w) (counted (pos_of a) c w h) in
    (round w h ∙ ap (in_block w) q.0, q.1)

pub choice_numbered : (n m k : Numbers) (a : NodeShape) (items : ItemShapes) (vs : List ℤ) (inner made : NodeShape) → ((p : Pos) (o : Outcomes) → Counted n m (λ c w. with_decision p o w)) → Numbered m k inner (λ c w. probed_node c Read a w) (λ c w. walk_node c Read a w) → vs ≡ case_values (choosing a) items → ((w : Walked) → counts w ≡ n → made ≡ in_select vs w inner) → Numbered n k made (λ c w. probed_choice c a items w) (λ c w. walk_choice c a items w)
choice_numbered n m k a items vs inner made counted read is round c w h =
    let all = cases (case_values (choosing a) items) in
    let v = with_decision (pos_of a) all w in
    let q = read (inside c w) v (counted (pos_of a) all c w h) in
    (round w h ∙ ap (in_select vs w) q.0 ∙ ap (λ us. in_select us w (probed_node (inside c w) Read a v)) is, q.1)
