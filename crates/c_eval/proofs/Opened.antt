-- What a node whose turn was taken has still to do is what it waits for.
use Rattle.std.proofs.Common.{◌≡◌, List, [], ◌∷◌, ◌++◌, Option, Some, None, true, false, Vec, Global, map, refl, sym, ap, ◌∙◌, append_assoc, append-nil, length, arith}
use Rattle.std.proofs.lemmas.Bool.{true≢false}
use Rattle.std.specs.Borrow.{Bor}
use Rattle.c_syntax.specs.declared.tree.CType.{CType}
use Rattle.c_syntax.specs.declared.tree.Expr.{Call}
use Rattle.c_syntax.proofs.Open.{call_open}
use Rattle.std.specs.Prelude.{pos, drop, option_map, if◌then◌else◌}
use Rattle.c_syntax.specs.declared.text.Text.{Text}
use Rattle.c_syntax.specs.declared.tree.Node.{Node}
use Rattle.c_syntax.specs.declared.tree.BinaryOp.{BinaryOp}
use Rattle.c_syntax.specs.declared.tree.StepOp.{StepOp}
use Rattle.c_syntax.specs.declared.tree.StepOp.TheVariants as way
use Rattle.c_syntax.specs.declared.tree.UnaryOp.{UnaryOp}
use Rattle.c_syntax.specs.declared.tree.UnaryOp.TheVariants as front
use Rattle.c_syntax.specs.Shape.{TypeOf, NoteShape, call, int, pointer, array, structure, nothing, TypeShape, NodeShape, node, up, down, prefix, unary, cast, two, plain, and, or, assign, comma, choose, used, def}
use Rattle.c_syntax.specs.View.{type_of, note_shape, expr_shape, node_shape, node_list, step_shape}
use Rattle.c_store.specs.declared.value.Value.{Value}
use Rattle.c_store.specs.declared.value.Value.TheVariants.{Int, At}
use Rattle.c_store.specs.declared.value.Pointer.{Pointer}
use Rattle.c_tables.specs.Tables.{TablesShape}
use Rattle.c_walk.specs.declared.around.Taken.TheVariants.{Written, Changed, Copied, Addressed}
use Rattle.c_walk.specs.Places.{holds_structure}
use Rattle.c_meaning.specs.State.{State}
use Rattle.c_meaning.specs.Results.{Got, Gives, Stops, then_do, settled, present, needed}
use Rattle.c_meaning.specs.Operators.{converted, of_one, is_true}
use Rattle.c_meaning.specs.Firsts.{quiet}
use Rattle.c_meaning.specs.Places.{marks, loaded, copied}
use Rattle.c_meaning.specs.Constants.{kind_noted, type_at}
use Rattle.c_meaning.specs.Knot.{Knot}
use Rattle.c_meaning.specs.Builtins.{called, params_of, as_parameter}
use Rattle.c_meaning.specs.Expressions.{meaning, arguments, gives, operand, cast_value, last_test, assigned, written}
use Rattle.c_compute.specs.Narrow.{direction}
use Rattle.c_eval.specs.declared.frame.Wait.TheVariants as wait
use Rattle.c_eval_once.specs.declared.reply.Reply.TheVariants as reply
use Rattle.c_eval.specs.Rest.{Val, Spot, Taker, to_value, waiting, on_operand, on_found}
use Rattle.c_eval_once.specs.Parts.{replied, value, place, combined, combined_into, stepped_there, is_front, one_more}
use Rattle.c_eval_once.specs.Forms.{is_address, is_deref}
use Rattle.c_eval.proofs.Steps.{then_then, needed_then, tested_then, last_then, at_place}

module _ (t : TablesShape) (k : Knot) (e : Node) (s : State) (go : Taker) where
  pub binary_opens : (u : BinaryOp) (a b x : NodeShape) → expr_shape e.form ≡ two (plain u) a b → x ≡ a → then_do (value t k x s) (λ v s. waiting t k e wait.Operand go (Val v) s) ≡ then_do (value t k (node_shape e) (one_more s)) (to_value go)
  binary_opens u a b x is i = rw (i, is) (needed_then (value t k a s) (λ v s. then_do (needed (value t k b s)) (combined u a b v)) (to_value go))

  pub and_opens : (a b x : NodeShape) → expr_shape e.form ≡ two and a b → x ≡ a → then_do (value t k x s) (λ v s. waiting t k e wait.Operand go (Val v) s) ≡ then_do (value t k (node_shape e) (one_more s)) (to_value go)
  and_opens a b x is i = rw (i, is) (tested_then (value t k a s) (λ x s. if x then last_test b (meaning t k b) (quiet 0) s else gives (Int (pos 0)) s) (to_value go))

  pub or_opens : (a b x : NodeShape) → expr_shape e.form ≡ two or a b → x ≡ a → then_do (value t k x s) (λ v s. waiting t k e wait.Operand go (Val v) s) ≡ then_do (value t k (node_shape e) (one_more s)) (to_value go)
  or_opens a b x is i = rw (i, is) (tested_then (value t k a s) (λ x s. if x then gives (Int (pos 1)) s else last_test b (meaning t k b) (quiet 0) s) (to_value go))

  pub choose_opens : (a b c x : NodeShape) → expr_shape e.form ≡ choose a b c → x ≡ a → then_do (value t k x s) (λ v s. waiting t k e wait.Operand go (Val v) s) ≡ then_do (value t k (node_shape e) (one_more s)) (to_value go)
  choose_opens a b c x is i = rw (i, is) (tested_then (value t k a s) (λ x s. then_do (if x then value t k b s else value t k c s) (λ v. Gives (option_map (converted (kind_noted (note_shape e.note))) v))) (to_value go))

  pub comma_opens : (a b x : NodeShape) → expr_shape e.form ≡ two comma a b → x ≡ a → then_do (value t k x s) (λ v s. waiting t k e wait.Operand go (Val v) s) ≡ then_do (value t k (node_shape e) (one_more s)) (to_value go)
  comma_opens a b x is i = rw (i, is) (sym (then_then (value t k a s) (λ v. value t k b) (to_value go)))

  unary_same : (u : UnaryOp) (a : NodeShape) → is_address u ≡ false → is_deref u ≡ false → then_do (value t k a s) (λ v s. on_operand t k (note_shape e.note) (prefix (unary u) a) go (Val v) s) ≡ then_do (value t k (node e.pos e.op (note_shape e.note) (prefix (unary u) a)) (one_more s)) (to_value go)
  unary_same front.AddressOf a p q = absurd (true≢false p)
  unary_same front.Deref a p q = absurd (true≢false q)
  unary_same front.Plus a p q = needed_then (value t k a s) (λ v s. then_do (settled (of_one front.Plus (operand a) v) s) gives) (to_value go)
  unary_same front.Minus a p q = needed_then (value t k a s) (λ v s. then_do (settled (of_one front.Minus (operand a) v) s) gives) (to_value go)
  unary_same front.Flip a p q = needed_then (value t k a s) (λ v s. then_do (settled (of_one front.Flip (operand a) v) s) gives) (to_value go)
  unary_same front.Not a p q = needed_then (value t k a s) (λ v s. then_do (settled (of_one front.Not (operand a) v) s) gives) (to_value go)

  pub unary_opens : (u : UnaryOp) (a x : NodeShape) → expr_shape e.form ≡ prefix (unary u) a → x ≡ a → is_address u ≡ false → is_deref u ≡ false → then_do (value t k x s) (λ v s. waiting t k e wait.Operand go (Val v) s) ≡ then_do (value t k (node_shape e) (one_more s)) (to_value go)
  unary_opens u a x is i p q = rw (i, is) (unary_same u a p q)

  cast_same : (k' : TypeOf) (r : Got (Option Value)) → then_do r (λ v s. then_do (cast_value k' (Gives v s)) (to_value go)) ≡ then_do (cast_value k' r) (to_value go)
  cast_same nothing (Gives v s) = refl
  cast_same nothing (Stops why s) = refl
  cast_same (int j) (Gives v s) = refl
  cast_same (int j) (Stops why s) = refl
  cast_same (pointer j) (Gives v s) = refl
  cast_same (pointer j) (Stops why s) = refl
  cast_same (array j n) (Gives v s) = refl
  cast_same (array j n) (Stops why s) = refl
  cast_same (structure j) (Gives v s) = refl
  cast_same (structure j) (Stops why s) = refl

  pub cast_opens : (y : TypeShape) (a x : NodeShape) → expr_shape e.form ≡ cast y a → x ≡ a → then_do (value t k x s) (λ v s. waiting t k e wait.Operand go (Val v) s) ≡ then_do (value t k (node_shape e) (one_more s)) (to_value go)
  cast_opens y a x is i = rw (i, is) (cast_same (kind_noted (note_shape e.note)) (value t k a s))

  pub address_opens : (a x : NodeShape) → expr_shape e.form ≡ prefix (unary front.AddressOf) a → x ≡ a → then_do (place t k x s) (λ q s. waiting t k e wait.Place go (Spot q) s) ≡ then_do (value t k (node_shape e) (one_more s)) (to_value go)
  address_opens a x is i = rw (i, is) (at_place t k a Addressed s (λ q. gives (At q)) (to_value go))

  pub assign_opens : (a b x : NodeShape) → expr_shape e.form ≡ two (assign None) a b → x ≡ a → then_do (place t k x s) (λ q s. waiting t k e wait.Place go (Spot q) s) ≡ then_do (value t k (node_shape e) (one_more s)) (to_value go)
  assign_opens a b x is i = rw (i, is) (at_place t k a Written s (assigned (holds_structure a) (type_at a) (marks def a) (marks used b) (meaning t k b) (quiet 0) (quiet 0)) (to_value go))

  pub compound_opens : (u : BinaryOp) (a b x : NodeShape) → expr_shape e.form ≡ two (assign (Some u)) a b → x ≡ a → then_do (place t k x s) (λ q s. waiting t k e wait.Place go (Spot q) s) ≡ then_do (value t k (node_shape e) (one_more s)) (to_value go)
  compound_opens u a b x is i = rw (i, is) (at_place t k a Changed s (λ q s. then_do (loaded (marks used a) (quiet 0) q s) (λ x s. then_do (needed (value t k b s)) (combined_into u a b q x))) (to_value go))

  pub written_opens : (o : Option BinaryOp) (a b x : NodeShape) → expr_shape e.form ≡ two (assign o) a b → x ≡ a → then_do (place t k x s) (λ q s. waiting t k e wait.Place go (Spot q) s) ≡ then_do (value t k (node_shape e) (one_more s)) (to_value go)
  written_opens None a b x is i = assign_opens a b x is i
  written_opens (Some u) a b x is i = compound_opens u a b x is i

  pub pointed_opens : (u : UnaryOp) (a x : NodeShape) → expr_shape e.form ≡ prefix (unary u) a → x ≡ a → is_address u ≡ true → then_do (place t k x s) (λ q s. waiting t k e wait.Place go (Spot q) s) ≡ then_do (value t k (node_shape e) (one_more s)) (to_value go)
  pointed_opens front.AddressOf a x is i p = address_opens a x is i
  pointed_opens front.Deref a x is i p = absurd (true≢false (sym p))
  pointed_opens front.Plus a x is i p = absurd (true≢false (sym p))
  pointed_opens front.Minus a x is i p = absurd (true≢false (sym p))
  pointed_opens front.Flip a x is i p = absurd (true≢false (sym p))
  pointed_opens front.Not a x is i p = absurd (true≢false (sym p))

  step_same : (u : StepOp) (a : NodeShape) → then_do (place t k a s) (λ q s. on_found t k (step_shape u a) go (Spot q) s) ≡ then_do (value t k (node e.pos e.op (note_shape e.note) (step_shape u a)) (one_more s)) (to_value go)
  step_same way.PreInc a = at_place t k a Changed s (stepped_there true up a) (to_value go)
  step_same way.PreDec a = at_place t k a Changed s (stepped_there true down a) (to_value go)
  step_same way.PostInc a = at_place t k a Changed s (stepped_there false up a) (to_value go)
  step_same way.PostDec a = at_place t k a Changed s (stepped_there false down a) (to_value go)

  pub step_opens : (u : StepOp) (a x : NodeShape) → expr_shape e.form ≡ step_shape u a → x ≡ a → then_do (place t k x s) (λ q s. waiting t k e wait.Place go (Spot q) s) ≡ then_do (value t k (node_shape e) (one_more s)) (to_value go)
  step_opens u a x is i = rw (i, is) (step_same u a)

  pub step_found : (u : StepOp) (a : NodeShape) (q : Pointer) → on_found t k (step_shape u a) go (Spot q) s ≡ then_do (stepped_there (is_front u) (direction u) a q s) (to_value go)
  step_found way.PreInc a q = refl
  step_found way.PreDec a q = refl
  step_found way.PostInc a q = refl
  step_found way.PostDec a q = refl

  -- the right side of `=`: another value than a structure is written, a structure is copied
  pub assigned_written : (a b : NodeShape) (q : Pointer) → expr_shape e.form ≡ two (assign None) a b → holds_structure a ≡ false → then_do (value t k b s) (λ v s. waiting t k e (wait.Into q) go (Val v) s) ≡ on_found t k (expr_shape e.form) go (Spot q) s
  assigned_written a b q is not = rw (is, not) (needed_then (value t k b s) (λ v. written (type_at a) (marks def a) (quiet 0) q v) (to_value go))

  pub assigned_copied : (a b : NodeShape) (q : Pointer) → expr_shape e.form ≡ two (assign None) a b → holds_structure a ≡ true → then_do (place t k b s) (λ r s. waiting t k e (wait.Copy q) go (Spot r) s) ≡ on_found t k (expr_shape e.form) go (Spot q) s
  assigned_copied a b q is structured = rw (is, structured) (at_place t k b Copied s (copied (marks def a) (marks used b) (quiet 0) (quiet 0) q) (to_value go))

  -- the right operand behind the left one's value
  pub second_opens : (u : BinaryOp) (a b : NodeShape) (v : Value) → expr_shape e.form ≡ two (plain u) a b → then_do (value t k b s) (λ w s. waiting t k e (wait.Second v) go (Val w) s) ≡ waiting t k e wait.Operand go (Val (Some v)) s
  second_opens u a b v is = rw is (needed_then (value t k b s) (combined u a b v) (to_value go))

  pub and_taken : (a b x : NodeShape) (v : Value) → expr_shape e.form ≡ two and a b → x ≡ b → is_true v ≡ true → then_do (value t k x s) (λ v s. waiting t k e wait.Truth go (Val v) s) ≡ on_operand t k (note_shape e.note) (expr_shape e.form) go (Val (Some v)) s
  and_taken a b x v is i e' = rw (i, is, e') (last_then t k b s (to_value go))

  pub or_taken : (a b x : NodeShape) (v : Value) → expr_shape e.form ≡ two or a b → x ≡ b → is_true v ≡ false → then_do (value t k x s) (λ v s. waiting t k e wait.Truth go (Val v) s) ≡ on_operand t k (note_shape e.note) (expr_shape e.form) go (Val (Some v)) s
  or_taken a b x v is i e' = rw (i, is, e') (last_then t k b s (to_value go))

-- ---- calls

args_gave : {A B : Type 0} (q : Got (List Value)) (p : List Value → List Value) (c d : List Value → State → Got A) (g : A → State → Got B) → ((vs : List Value) (s : State) → c vs s ≡ d (p vs) s) → then_do (then_do q c) g ≡ then_do (then_do (then_do q (λ vs. Gives (p vs))) d) g
args_gave (Gives vs s) p c d g same = ap (λ r. then_do r g) (same vs s)
args_gave (Stops why s) p c d g same = refl

-- one argument more
args_then : {A B : Type 0} (r : Got (Option Value)) (f : State → Got (List Value)) (h : Value → Value) (c : Value → List Value → State → Got A) (d : List Value → State → Got A) (g : A → State → Got B) → ((v : Value) (vs : List Value) (s : State) → c v vs s ≡ d (h v ∷ vs) s) → then_do r (λ v s. then_do (present v s) (λ v s. then_do (then_do (f s) (c v)) g)) ≡ then_do (then_do (then_do (needed r) (λ v s. then_do (f s) (λ vs. Gives (h v ∷ vs)))) d) g
args_then (Gives None s) f h c d g same = refl
args_then (Gives (Some v) s) f h c d g same = args_gave (f s) (λ vs. h v ∷ vs) (c v) d g (same v)
args_then (Stops why s) f h c d g same = refl

module _ (t : TablesShape) (k : Knot) (e : Node) (s : State) (go : Taker) where
  -- the first argument of those to come, behind those that are done
  pub argument_opens : (a : Node) (others : Bor (List Node)) (kinds : Bor (List CType)) (done : Vec Value Global) (ts : List TypeOf) (before : List Value) → map type_of kinds.now ≡ ts → done.items ≡ before → then_do (value t k (node_shape a) s) (λ v s. waiting t k e (wait.Argument kinds others done) go (Val v) s) ≡ then_do (then_do (arguments t k (node_list (a ∷ others.now)) ts (quiet 0) s) (λ vs. called t k (note_shape e.note) (before ++ vs))) (to_value go)
  argument_opens a others kinds done ts before is b = rw (is, b) (args_then (value t k (node_shape a) s) (λ s. arguments t k (node_list others.now) (drop 1 ts) (quiet 0) s) (as_parameter ts) (λ v vs. called t k (note_shape e.note) (before ++ as_parameter ts v ∷ vs)) (λ vs. called t k (note_shape e.note) (before ++ vs)) (to_value go) (λ v vs s. refl))

-- arguments behind one more
pub one_done : (t : TablesShape) (k : Knot) (n : NoteShape) (q : Got (List Value)) (before : List Value) (v : Value) (go : Option Value → State → Got (Option Value)) → then_do (then_do q (λ vs. called t k n ((before ++ v ∷ []) ++ vs))) go ≡ then_do (then_do q (λ vs. called t k n (before ++ v ∷ vs))) go
one_done t k n (Gives vs s) before v go = ap (λ xs. then_do (called t k n xs s) go) (append_assoc before (v ∷ []) vs)
one_done t k n (Stops why s) before v go = refl

-- no argument is to come
pub no_arguments : (t : TablesShape) (k : Knot) (n : NoteShape) (xs : List Node) (ts : List TypeOf) (s : State) (done : List Value) (go : Option Value → State → Got (Option Value)) → length xs ≡ 0 → then_do (called t k n done s) go ≡ then_do (then_do (arguments t k (node_list xs) ts (quiet 0) s) (λ vs. called t k n (done ++ vs))) go
no_arguments t k n [] ts s done go i = ap (λ ys. then_do (called t k n ys s) go) (sym (append-nil done))
no_arguments t k n (x ∷ xs) ts s done go i = absurd (omega (arith, i))

-- an argument that was had at once
pub argument_taken : (t : TablesShape) (k : Knot) (n : NoteShape) (a : Node) (xs rest : List Node) (ts us : List TypeOf) (s s' : State) (v p : Value) (done done' : List Value) (go : Option Value → State → Got (Option Value)) → value t k (node_shape a) s ≡ gives v s' → xs ≡ a ∷ rest → us ≡ drop 1 ts → p ≡ as_parameter ts v → done' ≡ done ++ p ∷ [] → then_do (then_do (arguments t k (node_list rest) us (quiet 0) s') (λ vs. called t k n (done' ++ vs))) go ≡ then_do (then_do (arguments t k (node_list xs) ts (quiet 0) s) (λ vs. called t k n (done ++ vs))) go
argument_taken t k n a xs rest ts us s s' v p done done' go e i j l m =
    let q = arguments t k (node_list rest) (drop 1 ts) (quiet 0) s' in
    let w = as_parameter ts v in
    rw (i, j, m, l) (one_done t k n q done w go
    ∙ args_gave q (λ vs. w ∷ vs) (λ vs. called t k n (done ++ w ∷ vs)) (λ vs. called t k n (done ++ vs)) go (λ vs s. refl)
    ∙ ap (λ r. then_do (then_do (then_do (needed r) (λ v s. then_do (arguments t k (node_list rest) (drop 1 ts) (quiet 0) s) (λ vs. Gives (as_parameter ts v ∷ vs)))) (λ vs. called t k n (done ++ vs))) go) (sym e))

-- a call's shape
pub call_opens : (t : TablesShape) (k : Knot) (e : Node) (x : Text) (v : Vec Node Global) (xs : List Node) (s : State) (go : Taker) → e.form ≡ Call x v → xs ≡ v.items → then_do (then_do (arguments t k (node_list xs) (params_of t (note_shape e.note)) (quiet 0) s) (called t k (note_shape e.note))) (to_value go) ≡ then_do (value t k (node_shape e) (one_more s)) (to_value go)
call_opens t k e x v xs s go is i =
    let shape : expr_shape e.form ≡ call x (node_list v.items) = ap expr_shape is ∙ call_open x v in
    rw (i, shape) refl

-- what is given of a leaf
pub reply_then : (r : Got Value) (go : Option Value → State → Got (Option Value)) → then_do r (λ v. go (Some v)) ≡ then_do (then_do r gives) go
reply_then (Gives v s) go = refl
reply_then (Stops why s) go = refl
