-- Direct expressions: their parts are direct and smaller, and the value of a place is read from it.
use Rattle.std.proofs.Common.{◌≡◌, ◌∙◌, ◌<◌, ◌+◌, ℕ, Bool, true, false, Box, Vec, Global, Option, Some, Result, ◌⊎◌, inl, inr, refl, sym, ap, arith}
use Rattle.std.specs.Prelude.{if◌then◌else◌}
use Rattle.std.proofs.lemmas.Bool.{true≢false}
use Rattle.c_syntax.specs.declared.tree.BinaryOp.{BinaryOp}
use Rattle.c_syntax.specs.declared.tree.StepOp.{StepOp}
use Rattle.c_syntax.specs.declared.tree.UnaryOp.{UnaryOp}
use Rattle.c_syntax.specs.declared.tree.UnaryOp.TheVariants as front
use Rattle.c_syntax.specs.declared.tree.Note.{Note}
use Rattle.c_syntax.specs.declared.tree.Node.{Node}
use Rattle.c_syntax.specs.declared.tree.Expr as form
use Rattle.c_syntax.specs.declared.tree.Expr.TheVariants as expr
use Rattle.c_syntax.specs.declared.text.Text.{Text}
use Rattle.c_syntax.specs.declared.tree.ExprProbe.{ExprProbe, Select}
use Rattle.c_syntax.specs.declared.tree.ExprProbe.TheVariants as probes
use Rattle.c_syntax.specs.Shape.{NodeShape, two, plain, and, or, assign, prefix, unary, suffix, index, probe, simple, block, used}
use Rattle.c_syntax.specs.View.{note_shape, expr_shape, node_shape, probe_shape, step_shape}
use Rattle.c_tables.specs.Tables.{TablesShape}
use Rattle.c_store.specs.declared.value.Value.{Value}
use Rattle.c_store.specs.declared.value.Fault.{Fault}
use Rattle.c_store.specs.declared.value.Pointer.{Pointer}
use Rattle.c_store.specs.Cells.{read_of}
use Rattle.c_walk.specs.declared.around.Taken.{Taken}
use Rattle.c_walk.specs.declared.around.Taken.TheVariants.{Changed}
use Rattle.c_meaning.specs.declared.end.Stop.{Stop}
use Rattle.c_meaning.specs.State.{State}
use Rattle.c_meaning.specs.Results.{Got, Gives, Stops, then_do, settled, needed}
use Rattle.c_meaning.specs.Operators.{of_one}
use Rattle.c_meaning.specs.Firsts.{First, quiet}
use Rattle.c_meaning.specs.Places.{fetched, loaded, marks}
use Rattle.c_meaning.specs.Constants.{type_at}
use Rattle.c_meaning.specs.Knot.{Knot}
use Rattle.c_meaning.specs.Expressions.{meaning, gives, operand, last_test, log_block}
use Rattle.c_eval_once.specs.Parts.{value, place, truth_at, one_more, combined_into, probed}
use Rattle.c_eval_once.specs.Forms.{Meets, is_valued, is_address, is_deref, is_of_place, standing, Tells, told}
use Rattle.c_eval_direct.specs.Direct.{is_copied, is_direct, is_direct_place, is_judged, parts}
use Rattle.c_eval_once.proofs.Told.{tells_one}
use Rattle.c_eval_once.proofs.Standing.{read_at}

both_true : (x y : Bool) → (if x then y else false) ≡ true → (x ≡ true) × (y ≡ true)
both_true true y e = (refl, e)
both_true false y e = absurd (true≢false (sym e))

not_first : (x y : Bool) → (if x then false else y) ≡ true → (x ≡ false) × (y ≡ true)
not_first false y e = (refl, e)
not_first true y e = absurd (true≢false (sym e))

is_pointed : (u : UnaryOp) → is_deref u ≡ true → u ≡ front.Deref
is_pointed front.Deref e = refl
is_pointed front.AddressOf e = absurd (true≢false (sym e))
is_pointed front.Plus e = absurd (true≢false (sym e))
is_pointed front.Minus e = absurd (true≢false (sym e))
is_pointed front.Flip e = absurd (true≢false (sym e))
is_pointed front.Not e = absurd (true≢false (sym e))

-- ---- sizes

pub two_size : (e : Node) (a b : Box Node Global) (x y : Node) → parts e.form ≡ 1 + (parts a.value.form + parts b.value.form) → x ≡ a.value → y ≡ b.value → parts x.form + parts y.form < parts e.form
two_size e a b x y is i j = rw (i, j) (omega (arith, is))

pub one_size : (e : Node) (a : Box Node Global) (x : Node) → parts e.form ≡ 1 + parts a.value.form → x ≡ a.value → parts x.form < parts e.form
one_size e a x is i = rw i (omega (arith, is))

-- ---- parts of values

module _ (n : Note) (f : form.Expr) where
  pub binary_parts : (u : BinaryOp) (a b : Box Node Global) (x y : Node) → is_direct n f ≡ true → f ≡ form.Binary u a b → x ≡ a.value → y ≡ b.value → (expr_shape f ≡ two (plain u) (node_shape x) (node_shape y)) × ((is_direct x.note x.form ≡ true) × (is_direct y.note y.form ≡ true))
  binary_parts u a b x y one is i j = rw (i, j) (ap expr_shape is, both_true (is_direct a.value.note a.value.form) (is_direct b.value.note b.value.form) (sym (ap (is_direct n) is) ∙ one))

  pub and_parts : (a b : Box Node Global) (x y : Node) → is_direct n f ≡ true → f ≡ form.And a b → x ≡ a.value → y ≡ b.value → (expr_shape f ≡ two and (node_shape x) (node_shape y)) × ((is_direct x.note x.form ≡ true) × (is_direct y.note y.form ≡ true))
  and_parts a b x y one is i j = rw (i, j) (ap expr_shape is, both_true (is_direct a.value.note a.value.form) (is_direct b.value.note b.value.form) (sym (ap (is_direct n) is) ∙ one))

  pub or_parts : (a b : Box Node Global) (x y : Node) → is_direct n f ≡ true → f ≡ form.Or a b → x ≡ a.value → y ≡ b.value → (expr_shape f ≡ two or (node_shape x) (node_shape y)) × ((is_direct x.note x.form ≡ true) × (is_direct y.note y.form ≡ true))
  or_parts a b x y one is i j = rw (i, j) (ap expr_shape is, both_true (is_direct a.value.note a.value.form) (is_direct b.value.note b.value.form) (sym (ap (is_direct n) is) ∙ one))

  pub assign_parts : (u v : Option BinaryOp) (a b : Box Node Global) (x y : Node) → is_direct n f ≡ true → f ≡ form.Assign u a b → u ≡ v → x ≡ a.value → y ≡ b.value → (expr_shape f ≡ two (assign v) (node_shape x) (node_shape y)) × ((is_copied x.note ≡ false) × ((is_direct_place x.note x.form ≡ true) × (is_direct y.note y.form ≡ true)))
  assign_parts u v a b x y one is way i j =
      let e = not_first (is_copied a.value.note) _ (sym (ap (is_direct n) is) ∙ one) in
      rw (i, j) (ap expr_shape is ∙ ap (λ w. two (assign w) (node_shape a.value) (node_shape b.value)) way, (e.0, both_true (is_direct_place a.value.note a.value.form) (is_direct b.value.note b.value.form) e.1))

  pub unary_parts : (u : UnaryOp) (a : Box Node Global) (x : Node) → is_direct n f ≡ true → f ≡ form.Unary u a → x ≡ a.value → (expr_shape f ≡ prefix (unary u) (node_shape x)) × ((is_address u ≡ false) × (is_direct x.note x.form ≡ true))
  unary_parts u a x one is i =
      let e = not_first (is_address u) _ (sym (ap (is_direct n) is) ∙ one) in
      rw i (ap expr_shape is, (e.0, (both_true (is_valued n) (is_direct a.value.note a.value.form) e.1).1))

  pub step_parts : (u : StepOp) (a : Box Node Global) (x : Node) → is_direct n f ≡ true → f ≡ form.Step u a → x ≡ a.value → (expr_shape f ≡ step_shape u (node_shape x)) × (is_direct_place x.note x.form ≡ true)
  step_parts u a x one is i = rw i (ap expr_shape is, sym (ap (is_direct n) is) ∙ one)

  -- an element and what a pointer points to are read
  pub element_stands : (a b : Box Node Global) → is_direct n f ≡ true → f ≡ form.Index a b → (standing n f ≡ true) × ((is_direct_place n f ≡ true) × (is_valued n ≡ true))
  element_stands a b one is =
      let e = both_true (is_valued n) _ (sym (ap (is_direct n) is) ∙ one) in
      (ap (standing n) is, (ap (is_direct_place n) is ∙ e.1, e.0))

  pub pointed_stands : (u : UnaryOp) (a : Box Node Global) → is_direct n f ≡ true → f ≡ form.Unary u a → is_deref u ≡ true → (standing n f ≡ true) × ((is_direct_place n f ≡ true) × (is_valued n ≡ true))
  pointed_stands u a one is at =
      let e = both_true (is_valued n) (is_direct a.value.note a.value.form) (not_first (is_address u) _ (sym (ap (is_direct n) is) ∙ one)).1 in
      (ap (standing n) is ∙ at, (ap (is_direct_place n) is ∙ rw at e.1, e.0))

  -- ---- parts of places

  pub element_parts : (a b : Box Node Global) (x y : Node) → is_direct_place n f ≡ true → f ≡ form.Index a b → x ≡ a.value → y ≡ b.value → (expr_shape f ≡ suffix (node_shape x) (index (node_shape y))) × ((is_direct x.note x.form ≡ true) × (is_direct y.note y.form ≡ true))
  element_parts a b x y one is i j = rw (i, j) (ap expr_shape is, both_true (is_direct a.value.note a.value.form) (is_direct b.value.note b.value.form) (sym (ap (is_direct_place n) is) ∙ one))

  pub pointed_parts : (u : UnaryOp) (a : Box Node Global) (x : Node) → is_direct_place n f ≡ true → f ≡ form.Unary u a → x ≡ a.value → (expr_shape f ≡ prefix (unary front.Deref) (node_shape x)) × (is_direct x.note x.form ≡ true)
  pointed_parts u a x one is i =
      let e = both_true (is_deref u) (is_direct a.value.note a.value.form) (sym (ap (is_direct_place n) is) ∙ one) in
      rw i (ap expr_shape is ∙ ap (λ w. prefix (unary w) (node_shape a.value)) (is_pointed u e.0), e.1)

-- ---- what is in probes

if_true : (x y z : Bool) → x ≡ true → (if x then y else z) ≡ true → y ≡ true
if_true x y z is e = sym (ap (λ x. if x then y else z) is) ∙ e

if_false : (x y z : Bool) → x ≡ false → (if x then y else z) ≡ true → z ≡ true
if_false x y z is e = sym (ap (λ x. if x then y else z) is) ∙ e

pub at_place : (u : ExprProbe) → ((x : Text) × (u ≡ probes.Use x)) ⊎ ((x : Text) × (u ≡ probes.Def x)) → is_of_place u ≡ true
at_place u (inl w) = ap is_of_place w.1
at_place u (inr w) = ap is_of_place w.1

pub at_judged : (u : ExprProbe) → ((x : Text) × (u ≡ probes.Test x)) ⊎ ((x : Text) × (cs : Vec Node Global) × (u ≡ Select x cs)) → (is_judged u ≡ true) × (is_of_place u ≡ false)
at_judged u (inl w) = (ap is_judged w.1, ap is_of_place w.1)
at_judged u (inr w) = (ap is_judged w.2, ap is_of_place w.2)

-- one round a place is read
pub probe_stands : (n : Note) (f : form.Expr) (u : ExprProbe) (a : Box Node Global) → is_direct n f ≡ true → f ≡ form.Probe u a → is_of_place u ≡ true → (standing n f ≡ true) × ((is_direct_place n f ≡ true) × (is_valued n ≡ true))
probe_stands n f u a one is at =
    let e = both_true (is_valued n) (is_direct_place a.value.note a.value.form) (if_true (is_of_place u) _ _ at (sym (ap (is_direct n) is) ∙ one)) in
    (ap (standing n) is ∙ at, (ap (is_direct_place n) is ∙ rw at e.1, e.0))

-- in another one is an expression
pub probe_parts : (n : Note) (f : form.Expr) (u : ExprProbe) (a : Box Node Global) (x : Node) → is_direct n f ≡ true → f ≡ form.Probe u a → x ≡ a.value → is_of_place u ≡ false → (expr_shape f ≡ probe (probe_shape u) (node_shape x)) × (is_direct x.note x.form ≡ true)
probe_parts n f u a x one is i other = rw i (ap expr_shape is, if_false (is_of_place u) _ _ other (sym (ap (is_direct n) is) ∙ one))

-- a place is behind those round it
pub behind_place : (t : TablesShape) (k : Knot) (e : Node) (u : ExprProbe) (a : Box Node Global) (x : Node) (r : Taken) (i : First) (s : State) → is_direct_place e.note e.form ≡ true → e.form ≡ form.Probe u a → x ≡ a.value → (meaning t k (node_shape e)).place r i s ≡ (meaning t k (node_shape x)).place r i s
behind_place t k e (probes.Use x) a y r i s one is same = rw (is, same) refl
behind_place t k e (probes.Def x) a y r i s one is same = rw (is, same) refl
behind_place t k e (probes.Block x) a y r i s one is same = absurd (true≢false (sym one ∙ ap (is_direct_place e.note) is))
behind_place t k e (probes.Test x) a y r i s one is same = absurd (true≢false (sym one ∙ ap (is_direct_place e.note) is))
behind_place t k e (probes.Select' x n cs) a y r i s one is same = absurd (true≢false (sym one ∙ ap (is_direct_place e.note) is))

pub behind_direct : (e : Node) (u : ExprProbe) (a : Box Node Global) (x : Node) → is_direct_place e.note e.form ≡ true → e.form ≡ form.Probe u a → x ≡ a.value → is_direct_place x.note x.form ≡ true
behind_direct e u a x one is same = rw same (both_true (is_of_place u) (is_direct_place a.value.note a.value.form) (sym (ap (is_direct_place e.note) is) ∙ one)).1

-- a block's comes first, another one behind its value
pub entered_value : (t : TablesShape) (k : Knot) (e : Node) (a : NodeShape) (x : Text) (r : Bool) (s s' : State) → expr_shape e.form ≡ probe (simple block x) a → Tells r log_block x s s' → value t k (node_shape e) s ≡ told r s' (value t k a)
entered_value t k e a x r s s' is one = rw is (tells_one r log_block x s s' (value t k a) one)

pub judged_value : (t : TablesShape) (k : Knot) (e : Node) (u : ExprProbe) (a : NodeShape) (s : State) → expr_shape e.form ≡ probe (probe_shape u) a → is_judged u ≡ true → value t k (node_shape e) s ≡ then_do (needed (value t k a s)) (probed (expr_shape e.form))
judged_value t k e (probes.Test x) a s is j = rw is refl
judged_value t k e (probes.Select' x n cs) a s is j = rw is refl
judged_value t k e (probes.Block x) a s is j = absurd (true≢false (sym j))
judged_value t k e (probes.Use x) a s is j = absurd (true≢false (sym j))
judged_value t k e (probes.Def x) a s is j = absurd (true≢false (sym j))

-- ---- values of places

pub place_value : (t : TablesShape) (k : Knot) (e : Node) (s : State) (r : Got Pointer) → standing e.note e.form ≡ true → place t k (node_shape e) s ≡ r → value t k (node_shape e) s ≡ then_do r (fetched t (note_shape e.note) (marks used (node_shape e)) (quiet 0))
place_value t k e s r stands at = read_at t k e.pos e.op e.note e.form s stands ∙ rw at refl

-- ---- operators in front, right operands, and assignments with an operator

pub turned_value : (t : TablesShape) (k : Knot) (e : Node) (a : NodeShape) (u : UnaryOp) (s s' : State) (v : Value) (r : Result Value Fault) → expr_shape e.form ≡ prefix (unary u) a → is_address u ≡ false → is_deref u ≡ false → value t k a s ≡ gives v s' → r ≡ of_one u (operand a) v → value t k (node_shape e) (one_more s) ≡ then_do (settled r s') gives
turned_value t k e a front.AddressOf s s' v r is x y given by = absurd (true≢false x)
turned_value t k e a front.Deref s s' v r is x y given by = absurd (true≢false y)
turned_value t k e a front.Plus s s' v r is x y given by = rw (is, given, by) refl
turned_value t k e a front.Minus s s' v r is x y given by = rw (is, given, by) refl
turned_value t k e a front.Flip s s' v r is x y given by = rw (is, given, by) refl
turned_value t k e a front.Not s s' v r is x y given by = rw (is, given, by) refl

pub truth_value : (t : TablesShape) (k : Knot) (b : NodeShape) (s s' : State) (v w : Value) → value t k b s ≡ gives v s' → truth_at v s' ≡ gives w s' → last_test b (meaning t k b) (quiet 0) s ≡ gives w s'
truth_value t k b s s' v w e f = rw e f

module _ (t : TablesShape) (k : Knot) (e : Node) (a b : NodeShape) (op : BinaryOp) (s s1 s2 : State) (q : Pointer) (x : Value)
    (is : expr_shape e.form ≡ two (assign (Some op)) a b) (at : (meaning t k a).place Changed (quiet 0) s ≡ Gives q s1) (has : loaded (marks used a) (quiet 0) q s1 ≡ Gives x s2) where
  changed_value : (r : Got (Option Value)) → then_do (needed (value t k b s2)) (λ y. combined_into op a b q x y) ≡ r → value t k (node_shape e) (one_more s) ≡ r
  changed_value r go = rw (is, at, has) go

  pub changed_stops : (why : Stop) (s3 : State) → value t k b s2 ≡ Stops why s3 → value t k (node_shape e) (one_more s) ≡ Stops why s3
  changed_stops why s3 stops = changed_value (Stops why s3) (rw stops refl)

  pub changed_met : (y : Value) (s3 : State) → value t k b s2 ≡ gives y s3 → value t k (node_shape e) (one_more s) ≡ combined_into op a b q x y s3
  changed_met y s3 given = changed_value (combined_into op a b q x y s3) (rw given refl)
