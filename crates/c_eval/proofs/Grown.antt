-- What each step of a run keeps, what an expression has still to do keeps.
use Rattle.std.proofs.Common.{ℕ, List, [], ◌∷◌, ◌++◌, drop, map, Option, Some, None, Bool, true, false}
use Rattle.std.specs.Prelude.{option_map}
use Rattle.c_arith.specs.Arith.{truth}
use Rattle.c_syntax.specs.declared.tree.BinaryOp.{BinaryOp}
use Rattle.c_syntax.specs.declared.tree.UnaryOp.{UnaryOp}
use Rattle.c_syntax.specs.declared.tree.UnaryOp.TheVariants as front
use Rattle.c_syntax.specs.Shape.{TypeOf, int, pointer, array, structure, nothing, Step, NoteShape, bare, typed, known, unary, before, size_of, plain, and, or, assign, comma, dot, arrow, NodeShape, ExprShape, leaf, paren, call, prefix, size_of_type, cast, suffix, two, choose, probe, index, field, behind, simple, select, block, test, used, def, NodeShapes, no_nodes, more_nodes}
use Rattle.c_syntax.specs.View.{type_of, note_shape, expr_shape, node_shape, node_list}
use Rattle.c_store.specs.declared.value.Value.{Value}
use Rattle.c_store.specs.declared.value.Value.TheVariants.{Int}
use Rattle.c_store.specs.declared.value.Pointer.{Pointer}
use Rattle.c_tables.specs.Tables.{FunctionShape, TablesShape}
use Rattle.c_tables.specs.Rows.{row}
use Rattle.c_walk.specs.declared.around.Taken.TheVariants.{Read as Reading, Copied}
use Rattle.c_walk.specs.Places.{holds_structure}
use Rattle.c_walk.specs.Tests.{choosing}
use Rattle.c_meaning.specs.State.{State}
use Rattle.c_meaning.specs.Results.{Got, Gives, then_do, settled, needed}
use Rattle.c_meaning.specs.Operators.{converted, is_true, operated, stepped_by_one, element_pointer, of_one, target, pointed}
use Rattle.c_meaning.specs.Firsts.{First, quiet}
use Rattle.c_meaning.specs.Places.{marks}
use Rattle.c_meaning.specs.Constants.{kind_noted, type_at, select_constants}
use Rattle.c_meaning.specs.Knot.{Knot}
use Rattle.c_meaning.specs.Builtins.{called, called_row, as_parameter}
use Rattle.c_meaning.specs.Expressions.{meaning, arguments, gives, operand, cast_value, tested, last_test, assigned}
use Rattle.c_meaning.specs.Lasting.{Lasts, Lasted, Keeps, IsLater}
use Rattle.c_meaning.proofs.Numbered.{outcome_counts, chosen_counts}
use Rattle.c_meaning.proofs.Steadily.{at_rest, then_kept, call_kept, if_kept, settled_kept, present_kept, needed_kept, logs_kept, loaded_kept, fetched_kept, field_kept, written_kept, stepped_kept, built_in_kept}
use Rattle.c_meaning.proofs.Copies.{copied_kept}
use Rattle.c_meaning.proofs.SteadyNodes.{node_steady, tested_kept, arm_kept}
use Rattle.c_meaning.proofs.SteadyRuns.{later_lasts}
use Rattle.c_eval.specs.declared.frame.Frame.{Frame}
use Rattle.c_eval.specs.declared.frame.Wait.{Wait}
use Rattle.c_eval.specs.declared.frame.Wait.TheVariants as wait
use Rattle.c_eval.specs.declared.frame.Focus.{Focus}
use Rattle.c_eval.specs.declared.frame.Focus.TheVariants as focus
use Rattle.c_eval.specs.declared.frame.Step as stepping
use Rattle.c_eval.specs.declared.frame.Step.TheVariants as step
use Rattle.c_eval.specs.declared.work.Work.{Work}
use Rattle.c_eval.specs.Rest.{Gave, Val, Spot, Taker, on_any, on_value, on_place, to_value, to_spot, answer, nothing_waits, on_operand, on_found, on_second, on_written, on_combined, on_copied, on_comma, waits, does, all_do, rest_of, rest, rest_after}
use Rattle.c_eval_once.specs.Parts.{value, place, stepped_there, combined, combined_into, element_at, probed}

-- the relations are kept, whatever is taken
abbrev pub Onward : (R Q : State → State → Type 0) → Taker → Type 0
Onward R Q go = (x : Gave) (s : State) → Lasted R Q s (go x s)

module _ (R C Q S : State → State → Type 0) (lasts : Lasts R C Q S) where
  still : {A : Type 0} (a : A) (s : State) → Lasted R Q s (Gives a s)
  still a s = at_rest R C Q S lasts _ _ (lasts.same s)

  -- ---- what takes a value or a place

  any_on : (f : Option Value → State → Got (Option Value)) → ((v : Option Value) (s : State) → Lasted R Q s (f v s)) → Onward R Q (on_any f)
  any_on f go (Val v) s = go v s
  any_on f go (Spot q) s = at_rest R C Q S lasts _ _ (lasts.same s)

  value_on : (f : Value → State → Got (Option Value)) → ((v : Value) (s : State) → Lasted R Q s (f v s)) → Onward R Q (on_value f)
  value_on f go (Val v) s = then_kept R C Q S lasts s _ f (present_kept R C Q S lasts v s) go
  value_on f go (Spot q) s = at_rest R C Q S lasts _ _ (lasts.same s)

  place_on : (f : Pointer → State → Got (Option Value)) → ((q : Pointer) (s : State) → Lasted R Q s (f q s)) → Onward R Q (on_place f)
  place_on f go (Val v) s = at_rest R C Q S lasts _ _ (lasts.same s)
  place_on f go (Spot q) s = go q s

  nothing_on : Onward R Q nothing_waits
  nothing_on x s = at_rest R C Q S lasts _ _ (lasts.same s)

  pub answer_on : Onward R Q answer
  answer_on = any_on (λ v s. Gives v s) (λ v s. still v s)

  -- a part, and what takes its value or its place
  into_value : (go : Taker) → Onward R Q go → (s : State) (r : Got (Option Value)) → Lasted R Q s r → Lasted R Q s (then_do r (to_value go))
  into_value go p s r kept = then_kept R C Q S lasts s r (to_value go) kept (λ v s. p (Val v) s)

  into_spot : (go : Taker) → Onward R Q go → (s : State) (r : Got Pointer) → Lasted R Q s r → Lasted R Q s (then_do r (to_spot go))
  into_spot go p s r kept = then_kept R C Q S lasts s r (to_spot go) kept (λ q s. p (Spot q) s)

  -- ---- parts

  cast_kept : (y : TypeOf) (v : Option Value) (s : State) → Lasted R Q s (cast_value y (Gives v s))
  cast_kept nothing v s = still None s
  cast_kept (int j) v s = then_kept R C Q S lasts s _ _ (present_kept R C Q S lasts v s) (λ v s. still _ s)
  cast_kept (pointer j) v s = then_kept R C Q S lasts s _ _ (present_kept R C Q S lasts v s) (λ v s. still _ s)
  cast_kept (array j m) v s = then_kept R C Q S lasts s _ _ (present_kept R C Q S lasts v s) (λ v s. still _ s)
  cast_kept (structure j) v s = then_kept R C Q S lasts s _ _ (present_kept R C Q S lasts v s) (λ v s. still _ s)

  stepped_kept_there : (ahead : Bool) (u : Step) (a : NodeShape) (q : Pointer) (s : State) → Lasted R Q s (stepped_there ahead u a q s)
  stepped_kept_there ahead u a q s =
      then_kept R C Q S lasts s _ _ (loaded_kept R C Q S lasts (marks used a) (quiet 0) q s) (λ x s.
      then_kept R C Q S lasts s _ _ (settled_kept R C Q S lasts (stepped_by_one u (operand a) x) s) (λ v s.
      then_kept R C Q S lasts s _ _ (written_kept R C Q S lasts (type_at a) (marks def a) (quiet 0) q v s) (λ v s. stepped_kept R C Q S lasts ahead x v s)))

  combined_kept : (u : BinaryOp) (a b : NodeShape) (v w : Value) (s : State) → Lasted R Q s (combined u a b v w s)
  combined_kept u a b v w s = then_kept R C Q S lasts s _ _ (settled_kept R C Q S lasts (operated u (operand a) (operand b) v w) s) (λ v s. still _ s)

  into_kept : (u : BinaryOp) (a b : NodeShape) (q : Pointer) (x y : Value) (s : State) → Lasted R Q s (combined_into u a b q x y s)
  into_kept u a b q x y s = then_kept R C Q S lasts s _ _ (settled_kept R C Q S lasts (operated u (operand a) (operand b) x y) s) (λ v s. written_kept R C Q S lasts (type_at a) (marks def a) (quiet 0) q v s)

  element_kept : (a b : NodeShape) (v w : Value) (s : State) → Lasted R Q s (element_at a b v w s)
  element_kept a b v w s = then_kept R C Q S lasts s _ _ (settled_kept R C Q S lasts (element_pointer (operand a) (operand b) v w) s) (λ v s. settled_kept R C Q S lasts (target v) s)

  -- the value in a probe
  probed_kept : (f : ExprShape) (v : Value) (s : State) → Lasted R Q s (probed f v s)
  probed_kept (probe (simple test x) a) v s = logs_kept R C Q S lasts _ (x ∷ []) s _ (λ m s n. lasts.told s _ (n, outcome_counts (is_true v))) (λ s. still _ s)
  probed_kept (probe (select x cs) a) v s = logs_kept R C Q S lasts _ (x ∷ []) s _ (λ m s n. lasts.told s _ (n, chosen_counts (choosing a) v (select_constants (choosing a) cs))) (λ s. still _ s)
  probed_kept (probe (simple block x) a) v s = at_rest R C Q S lasts _ _ (lasts.same s)
  probed_kept (probe (simple used x) a) v s = at_rest R C Q S lasts _ _ (lasts.same s)
  probed_kept (probe (simple def x) a) v s = at_rest R C Q S lasts _ _ (lasts.same s)
  probed_kept (leaf l) v s = at_rest R C Q S lasts _ _ (lasts.same s)
  probed_kept (paren a) v s = at_rest R C Q S lasts _ _ (lasts.same s)
  probed_kept (call x args) v s = at_rest R C Q S lasts _ _ (lasts.same s)
  probed_kept (prefix u a) v s = at_rest R C Q S lasts _ _ (lasts.same s)
  probed_kept (size_of_type y) v s = at_rest R C Q S lasts _ _ (lasts.same s)
  probed_kept (cast y a) v s = at_rest R C Q S lasts _ _ (lasts.same s)
  probed_kept (suffix a u) v s = at_rest R C Q S lasts _ _ (lasts.same s)
  probed_kept (two u a b) v s = at_rest R C Q S lasts _ _ (lasts.same s)
  probed_kept (choose a b c) v s = at_rest R C Q S lasts _ _ (lasts.same s)

  -- a call
  row_kept : (k : Knot) → Keeps R C Q S k → (f : ℕ) (r : Option FunctionShape) (vs : List Value) (s : State) → Lasted R Q s (called_row k f r vs s)
  row_kept k keeps f None vs s = at_rest R C Q S lasts _ _ (lasts.same s)
  row_kept k keeps f (Some r) vs s = if_kept R C Q S lasts s _ _ _ (call_kept R C Q S lasts s _ (keeps.call_keeps f vs s)) (built_in_kept R C Q S lasts r.name vs s)

  called_kept : (t : TablesShape) (k : Knot) → Keeps R C Q S k → (n : NoteShape) (vs : List Value) (s : State) → Lasted R Q s (called t k n vs s)
  called_kept t k keeps (typed y (Some f)) vs s = row_kept k keeps f (row t.functions f) vs s
  called_kept t k keeps (typed y None) vs s = at_rest R C Q S lasts _ _ (lasts.same s)
  called_kept t k keeps (known y v) vs s = at_rest R C Q S lasts _ _ (lasts.same s)
  called_kept t k keeps bare vs s = at_rest R C Q S lasts _ _ (lasts.same s)

-- ---- frames

module _ (R C Q S : State → State → Type 0) (lasts : Lasts R C Q S) (t : TablesShape) (k : Knot) (keeps : Keeps R C Q S k) where
  value_kept : (a : NodeShape) (s : State) → Lasted R Q s (value t k a s)
  value_kept a s = (node_steady R C Q S lasts t k keeps a).value_steady (quiet 0) s

  place_kept : (a : NodeShape) (s : State) → Lasted R Q s (place t k a s)
  place_kept a s = (node_steady R C Q S lasts t k keeps a).place_steady Reading (quiet 0) s

  wanted_kept : (a : NodeShape) (s : State) → Lasted R Q s (needed (value t k a s))
  wanted_kept a s = needed_kept R C Q S lasts s _ (value_kept a s)

  last_kept : (b : NodeShape) (s : State) → Lasted R Q s (last_test b (meaning t k b) (quiet 0) s)
  last_kept b s = arm_kept R C Q S lasts b (quiet 0) s (λ j s. then_do (tested b (meaning t k b) j s) (λ x. gives (Int (truth x)))) (λ j s. then_kept R C Q S lasts s _ _ (tested_kept R C Q S lasts b _ (node_steady R C Q S lasts t k keeps b) j s) (λ x s. still R C Q S lasts _ s))

  arguments_kept : (es : NodeShapes) (ts : List TypeOf) (i : First) (s : State) → Lasted R Q s (arguments t k es ts i s)
  arguments_kept no_nodes ts i s = still R C Q S lasts _ s
  arguments_kept (more_nodes a rest) ts i s =
      then_kept R C Q S lasts s _ _ (needed_kept R C Q S lasts s _ ((node_steady R C Q S lasts t k keeps a).value_steady i s)) (λ v s.
      then_kept R C Q S lasts s _ _ (arguments_kept rest (drop 1 ts) _ s) (λ vs s. still R C Q S lasts _ s))

  -- the right side of `=`
  right_kept : (copies : Bool) (a b : NodeShape) (q : Pointer) (s : State) → Lasted R Q s (assigned copies (type_at a) (marks def a) (marks used b) (meaning t k b) (quiet 0) (quiet 0) q s)
  right_kept true a b q s = then_kept R C Q S lasts s _ _ ((node_steady R C Q S lasts t k keeps b).place_steady Copied (quiet 0) s) (λ r s. copied_kept R C Q S lasts (marks def a) (marks used b) (quiet 0) (quiet 0) q r s)
  right_kept false a b q s = then_kept R C Q S lasts s _ _ (wanted_kept b s) (λ v s. written_kept R C Q S lasts (type_at a) (marks def a) (quiet 0) q v s)

  module _ (go : Taker) (onward : Onward R Q go) where
    -- a value of the expression's, and a place
    give : (s : State) (r : Got (Option Value)) → Lasted R Q s r → Lasted R Q s (then_do r (to_value go))
    give s r kept = into_value R C Q S lasts go onward s r kept

    give_place : (s : State) (r : Got Pointer) → Lasted R Q s r → Lasted R Q s (then_do r (to_spot go))
    give_place s r kept = into_spot R C Q S lasts go onward s r kept

    operator_on : (u : UnaryOp) (a : NodeShape) → Onward R Q (on_value (λ v s. then_do (then_do (settled (of_one u (operand a) v) s) gives) (to_value go)))
    operator_on u a = value_on R C Q S lasts _ (λ v s. give s _ (then_kept R C Q S lasts s _ _ (settled_kept R C Q S lasts (of_one u (operand a) v) s) (λ v s. still R C Q S lasts _ s)))

    operand_on : (n : NoteShape) (f : ExprShape) → Onward R Q (on_operand t k n f go)
    operand_on n (prefix (unary front.Deref) a) = value_on R C Q S lasts _ (λ v s. give_place s _ (settled_kept R C Q S lasts (target v) s))
    operand_on n (prefix (unary front.AddressOf) a) = operator_on front.AddressOf a
    operand_on n (prefix (unary front.Plus) a) = operator_on front.Plus a
    operand_on n (prefix (unary front.Minus) a) = operator_on front.Minus a
    operand_on n (prefix (unary front.Flip) a) = operator_on front.Flip a
    operand_on n (prefix (unary front.Not) a) = operator_on front.Not a
    operand_on n (cast y a) = any_on R C Q S lasts _ (λ v s. give s _ (cast_kept R C Q S lasts (kind_noted n) v s))
    operand_on n (suffix a (index b)) = value_on R C Q S lasts _ (λ v s. give_place s _ (then_kept R C Q S lasts s _ _ (wanted_kept b s) (λ w s. element_kept R C Q S lasts a b v w s)))
    operand_on n (suffix a (field arrow x q)) = value_on R C Q S lasts _ (λ v s. give_place s _ (then_kept R C Q S lasts s _ _ (settled_kept R C Q S lasts (target v) s) (λ q s. field_kept R C Q S lasts t x (pointed (operand a)) q s)))
    operand_on n (two (plain u) a b) = value_on R C Q S lasts _ (λ v s. give s _ (then_kept R C Q S lasts s _ _ (wanted_kept b s) (λ w s. combined_kept R C Q S lasts u a b v w s)))
    operand_on n (two and a b) = value_on R C Q S lasts _ (λ v s. give s _ (if_kept R C Q S lasts s (is_true v) _ _ (last_kept b s) (still R C Q S lasts _ s)))
    operand_on n (two or a b) = value_on R C Q S lasts _ (λ v s. give s _ (if_kept R C Q S lasts s (is_true v) _ _ (still R C Q S lasts _ s) (last_kept b s)))
    operand_on n (two comma a b) = any_on R C Q S lasts _ (λ v s. give s _ (value_kept b s))
    operand_on n (choose a b c) = value_on R C Q S lasts _ (λ v s. give s _ (then_kept R C Q S lasts s _ _ (if_kept R C Q S lasts s (is_true v) _ _ (value_kept b s) (value_kept c s)) (λ v s. still R C Q S lasts _ s)))
    operand_on n (leaf l) = nothing_on R C Q S lasts
    operand_on n (paren a) = nothing_on R C Q S lasts
    operand_on n (call x args) = nothing_on R C Q S lasts
    operand_on n (prefix (before u) a) = nothing_on R C Q S lasts
    operand_on n (prefix size_of a) = nothing_on R C Q S lasts
    operand_on n (size_of_type y) = nothing_on R C Q S lasts
    operand_on n (suffix a (field dot x q)) = nothing_on R C Q S lasts
    operand_on n (suffix a (behind u)) = nothing_on R C Q S lasts
    operand_on n (two (assign u) a b) = nothing_on R C Q S lasts
    operand_on n (probe u a) = nothing_on R C Q S lasts

    found_on : (f : ExprShape) → Onward R Q (on_found t k f go)
    found_on (prefix (unary front.AddressOf) a) = place_on R C Q S lasts _ (λ q s. give s _ (still R C Q S lasts _ s))
    found_on (prefix (before u) a) = place_on R C Q S lasts _ (λ q s. give s _ (stepped_kept_there R C Q S lasts true u a q s))
    found_on (suffix a (behind u)) = place_on R C Q S lasts _ (λ q s. give s _ (stepped_kept_there R C Q S lasts false u a q s))
    found_on (suffix a (field dot x p)) = place_on R C Q S lasts _ (λ q s. give_place s _ (field_kept R C Q S lasts t x (type_at a) q s))
    found_on (two (assign None) a b) = place_on R C Q S lasts _ (λ q s. give s _ (right_kept (holds_structure a) a b q s))
    found_on (two (assign (Some u)) a b) = place_on R C Q S lasts _ (λ q s. give s _ (then_kept R C Q S lasts s _ _ (loaded_kept R C Q S lasts (marks used a) (quiet 0) q s) (λ x s.
        then_kept R C Q S lasts s _ _ (wanted_kept b s) (λ y s. into_kept R C Q S lasts u a b q x y s))))
    found_on (leaf l) = nothing_on R C Q S lasts
    found_on (paren a) = nothing_on R C Q S lasts
    found_on (call x args) = nothing_on R C Q S lasts
    found_on (prefix (unary front.Deref) a) = nothing_on R C Q S lasts
    found_on (prefix (unary front.Plus) a) = nothing_on R C Q S lasts
    found_on (prefix (unary front.Minus) a) = nothing_on R C Q S lasts
    found_on (prefix (unary front.Flip) a) = nothing_on R C Q S lasts
    found_on (prefix (unary front.Not) a) = nothing_on R C Q S lasts
    found_on (prefix size_of a) = nothing_on R C Q S lasts
    found_on (size_of_type y) = nothing_on R C Q S lasts
    found_on (cast y a) = nothing_on R C Q S lasts
    found_on (suffix a (index b)) = nothing_on R C Q S lasts
    found_on (suffix a (field arrow x p)) = nothing_on R C Q S lasts
    found_on (two (plain u) a b) = nothing_on R C Q S lasts
    found_on (two and a b) = nothing_on R C Q S lasts
    found_on (two or a b) = nothing_on R C Q S lasts
    found_on (two comma a b) = nothing_on R C Q S lasts
    found_on (choose a b c) = nothing_on R C Q S lasts
    found_on (probe u a) = nothing_on R C Q S lasts

    second_on : (f : ExprShape) (v : Value) → Onward R Q (on_second f v go)
    second_on (two (plain u) a b) v = value_on R C Q S lasts _ (λ w s. give s _ (combined_kept R C Q S lasts u a b v w s))
    second_on (suffix a (index b)) v = value_on R C Q S lasts _ (λ w s. give_place s _ (element_kept R C Q S lasts a b v w s))
    second_on (leaf l) v = nothing_on R C Q S lasts
    second_on (paren a) v = nothing_on R C Q S lasts
    second_on (call x args) v = nothing_on R C Q S lasts
    second_on (prefix u a) v = nothing_on R C Q S lasts
    second_on (size_of_type y) v = nothing_on R C Q S lasts
    second_on (cast y a) v = nothing_on R C Q S lasts
    second_on (suffix a (field d x p)) v = nothing_on R C Q S lasts
    second_on (suffix a (behind u)) v = nothing_on R C Q S lasts
    second_on (two and a b) v = nothing_on R C Q S lasts
    second_on (two or a b) v = nothing_on R C Q S lasts
    second_on (two (assign u) a b) v = nothing_on R C Q S lasts
    second_on (two comma a b) v = nothing_on R C Q S lasts
    second_on (choose a b c) v = nothing_on R C Q S lasts
    second_on (probe u a) v = nothing_on R C Q S lasts

    written_on : (f : ExprShape) (q : Pointer) → Onward R Q (on_written f q go)
    written_on (two (assign None) a b) q = value_on R C Q S lasts _ (λ v s. give s _ (written_kept R C Q S lasts (type_at a) (marks def a) (quiet 0) q v s))
    written_on (two (assign (Some u)) a b) q = nothing_on R C Q S lasts
    written_on (two (plain u) a b) q = nothing_on R C Q S lasts
    written_on (two and a b) q = nothing_on R C Q S lasts
    written_on (two or a b) q = nothing_on R C Q S lasts
    written_on (two comma a b) q = nothing_on R C Q S lasts
    written_on (leaf l) q = nothing_on R C Q S lasts
    written_on (paren a) q = nothing_on R C Q S lasts
    written_on (call x args) q = nothing_on R C Q S lasts
    written_on (prefix u a) q = nothing_on R C Q S lasts
    written_on (size_of_type y) q = nothing_on R C Q S lasts
    written_on (cast y a) q = nothing_on R C Q S lasts
    written_on (suffix a u) q = nothing_on R C Q S lasts
    written_on (choose a b c) q = nothing_on R C Q S lasts
    written_on (probe u a) q = nothing_on R C Q S lasts

    combined_on : (f : ExprShape) (q : Pointer) (x : Value) → Onward R Q (on_combined f q x go)
    combined_on (two (assign (Some u)) a b) q x = value_on R C Q S lasts _ (λ y s. give s _ (into_kept R C Q S lasts u a b q x y s))
    combined_on (two (assign None) a b) q x = nothing_on R C Q S lasts
    combined_on (two (plain u) a b) q x = nothing_on R C Q S lasts
    combined_on (two and a b) q x = nothing_on R C Q S lasts
    combined_on (two or a b) q x = nothing_on R C Q S lasts
    combined_on (two comma a b) q x = nothing_on R C Q S lasts
    combined_on (leaf l) q x = nothing_on R C Q S lasts
    combined_on (paren a) q x = nothing_on R C Q S lasts
    combined_on (call y args) q x = nothing_on R C Q S lasts
    combined_on (prefix u a) q x = nothing_on R C Q S lasts
    combined_on (size_of_type y) q x = nothing_on R C Q S lasts
    combined_on (cast y a) q x = nothing_on R C Q S lasts
    combined_on (suffix a u) q x = nothing_on R C Q S lasts
    combined_on (choose a b c) q x = nothing_on R C Q S lasts
    combined_on (probe u a) q x = nothing_on R C Q S lasts

    copied_on : (f : ExprShape) (q : Pointer) → Onward R Q (on_copied f q go)
    copied_on (two (assign None) a b) q = place_on R C Q S lasts _ (λ r s. give s _ (copied_kept R C Q S lasts (marks def a) (marks used b) (quiet 0) (quiet 0) q r s))
    copied_on (two (assign (Some u)) a b) q = nothing_on R C Q S lasts
    copied_on (two (plain u) a b) q = nothing_on R C Q S lasts
    copied_on (two and a b) q = nothing_on R C Q S lasts
    copied_on (two or a b) q = nothing_on R C Q S lasts
    copied_on (two comma a b) q = nothing_on R C Q S lasts
    copied_on (leaf l) q = nothing_on R C Q S lasts
    copied_on (paren a) q = nothing_on R C Q S lasts
    copied_on (call y args) q = nothing_on R C Q S lasts
    copied_on (prefix u a) q = nothing_on R C Q S lasts
    copied_on (size_of_type y) q = nothing_on R C Q S lasts
    copied_on (cast y a) q = nothing_on R C Q S lasts
    copied_on (suffix a u) q = nothing_on R C Q S lasts
    copied_on (choose a b c) q = nothing_on R C Q S lasts
    copied_on (probe u a) q = nothing_on R C Q S lasts

    comma_on : (f : ExprShape) → Onward R Q (on_comma t k f go)
    comma_on (two comma a b) = any_on R C Q S lasts _ (λ v s. give_place s _ (place_kept b s))
    comma_on (two (plain u) a b) = nothing_on R C Q S lasts
    comma_on (two and a b) = nothing_on R C Q S lasts
    comma_on (two or a b) = nothing_on R C Q S lasts
    comma_on (two (assign u) a b) = nothing_on R C Q S lasts
    comma_on (leaf l) = nothing_on R C Q S lasts
    comma_on (paren a) = nothing_on R C Q S lasts
    comma_on (call x args) = nothing_on R C Q S lasts
    comma_on (prefix u a) = nothing_on R C Q S lasts
    comma_on (size_of_type y) = nothing_on R C Q S lasts
    comma_on (cast y a) = nothing_on R C Q S lasts
    comma_on (suffix a u) = nothing_on R C Q S lasts
    comma_on (choose a b c) = nothing_on R C Q S lasts
    comma_on (probe u a) = nothing_on R C Q S lasts

    waits_on : (n : NoteShape) (f : ExprShape) (e : NodeShape) (w : Wait) → Onward R Q (waits t k n f e w go)
    waits_on n f e wait.Operand = operand_on n f
    waits_on n f e wait.Probe = value_on R C Q S lasts _ (λ v s. give s _ (probed_kept R C Q S lasts f v s))
    waits_on n f e wait.Place = found_on f
    waits_on n f e wait.Read = place_on R C Q S lasts _ (λ q s. give s _ (fetched_kept R C Q S lasts t n (marks used e) (quiet 0) q s))
    waits_on n f e (wait.Second v) = second_on f v
    waits_on n f e wait.Truth = value_on R C Q S lasts _ (λ v s. give s _ (still R C Q S lasts _ s))
    waits_on n f e (wait.Into q) = written_on f q
    waits_on n f e (wait.Combine q x) = combined_on f q x
    waits_on n f e (wait.Copy q) = copied_on f q
    waits_on n f e wait.Chosen = any_on R C Q S lasts _ (λ v s. onward (Val (option_map (converted (kind_noted n)) v)) s)
    waits_on n f e wait.Comma = comma_on f
    waits_on n f e (wait.Argument kinds others done) = value_on R C Q S lasts _ (λ v s. give s _ (
        then_kept R C Q S lasts s _ _ (arguments_kept (node_list others.now) (drop 1 (map type_of kinds.now)) (quiet 0) s)
        (λ vs s. called_kept R C Q S lasts t k keeps n (done.items ++ as_parameter (map type_of kinds.now) v ∷ vs) s)))

  -- a frame, and a stack
  pub frame_on : (f : Frame) (go : Taker) → Onward R Q go → Onward R Q (does t k f go)
  frame_on f go onward = waits_on go onward (note_shape f.node.now.note) (expr_shape f.node.now.form) (node_shape f.node.now) f.wait

  pub stack_on : (fs : List Frame) (go : Taker) → Onward R Q go → Onward R Q (all_do t k fs go)
  stack_on [] go onward = onward
  stack_on (f ∷ fs) go onward = stack_on fs (does t k f go) (frame_on f go onward)

  -- ---- works

  focus_kept : (c : Focus) (go : Taker) → Onward R Q go → (s : State) → Lasted R Q s (rest_of t k c go s)
  focus_kept (focus.Value e) go onward s = give go onward s _ (value_kept (node_shape e.now) s)
  focus_kept (focus.Place e) go onward s = give_place go onward s _ (place_kept (node_shape e.now) s)
  focus_kept (focus.Given v) go onward s = onward (Val v) s
  focus_kept (focus.At q) go onward s = onward (Spot q) s

  pub work_kept : (w : Work) (s : State) → Lasted R Q s (rest t k w s)
  work_kept w s = focus_kept w.focus _ (stack_on w.stack.items answer (answer_on R C Q S lasts)) s

  -- the same after a step
  pub after_kept : (a : stepping.Step) (w : Work) (s : State) → Lasted R Q s (rest_after t k a w s)
  after_kept step.More w s = work_kept w s
  after_kept (step.Answer v) w s = still R C Q S lasts v s
  after_kept (step.Call f args) w s = give _ (stack_on w.stack.items answer (answer_on R C Q S lasts)) s _ (call_kept R C Q S lasts s _ (keeps.call_keeps f args.items s))
  after_kept (step.Stopped why) w s = at_rest R C Q S lasts _ _ (lasts.same s)

-- time goes on
pub work_later : (t : TablesShape) (k : Knot) → Keeps IsLater IsLater IsLater IsLater k → (w : Work) (s : State) → Lasted IsLater IsLater s (rest t k w s)
work_later t k keeps w s = work_kept IsLater IsLater IsLater IsLater later_lasts t k keeps w s

pub after_later : (t : TablesShape) (k : Knot) → Keeps IsLater IsLater IsLater IsLater k → (a : stepping.Step) (w : Work) (s : State) → Lasted IsLater IsLater s (rest_after t k a w s)
after_later t k keeps a w s = after_kept IsLater IsLater IsLater IsLater later_lasts t k keeps a w s
