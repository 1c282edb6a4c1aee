-- What an expression adds is a beginning of a walk of it.
use Rattle.std.proofs.Common.{ℕ, ◌+◌, pos, List, [], ◌∷◌, ◌≡◌, refl, sym, inl, inr, Option, Some, None, Bool, true, false}
use Rattle.std.specs.Prelude.{not, drop, length, nat_lt, is_some, if◌then◌else◌}
use Rattle.std.proofs.lemmas.Bool.{true≢false}
use Rattle.c_base.specs.declared.place.Pos.{Pos}
use Rattle.c_base.specs.declared.place.IntKind.TheVariants.{Char}
use Rattle.c_events.specs.declared.events.Event.TheVariants as event
use Rattle.c_arith.specs.Arith.{wrap, truth}
use Rattle.c_syntax.specs.declared.text.Text.{Text}
use Rattle.c_syntax.specs.declared.tree.UnaryOp.{UnaryOp}
use Rattle.c_syntax.specs.declared.tree.UnaryOp.TheVariants as front
use Rattle.c_syntax.specs.declared.tree.BinaryOp.{BinaryOp}
use Rattle.c_syntax.specs.Shape.{TypeOf, int, pointer, array, structure, nothing, NoteShape, bare, typed, known, Leaf, number, char, str, name, Step, unary, before, size_of, plain, and, or, assign, comma, dot, arrow, NodeShape, node, ExprShape, leaf, paren, call, prefix, size_of_type, cast, suffix, two, choose, probe, index, field, behind, NodeShapes, no_nodes, more_nodes, used, def}
use Rattle.c_constants.specs.Constants.{is_zero}
use Rattle.c_constants.specs.declared.numbers.Number.{Number}
use Rattle.c_constants.specs.Numbers.{number_of}
use Rattle.c_store.specs.declared.value.Value.{Value}
use Rattle.c_store.specs.declared.value.Value.TheVariants.{Int, At}
use Rattle.c_store.specs.declared.value.Pointer.{Pointer}
use Rattle.c_tables.specs.Tables.{FunctionShape}
use Rattle.c_tables.specs.Rows.{row}
use Rattle.c_walk.specs.declared.around.Around.{Around}
use Rattle.c_walk.specs.declared.around.Taken.{Taken}
use Rattle.c_walk.specs.declared.around.Taken.TheVariants.{Read, Written, Changed, Copied, Addressed}
use Rattle.c_walk.specs.Items.{both, only_true, only_false}
use Rattle.c_walk.specs.Places.{has_scalar, holds_structure}
use Rattle.c_walk.specs.Tests.{is_logical, is_logical_form, outcome_of, number_constant, outcomes_of_form}
use Rattle.c_walk.specs.Walked.{Walked, with_block, pos_of, next_decision, inside_test, with_test, with_site}
use Rattle.c_walk.specs.Counted.{next_block, next_def, next_use}
use Rattle.c_walk.specs.Walking.{walk_node, walk_test, walk_arm}
use Rattle.c_meaning.specs.State.{tells, Bound, State, activation, did}
use Rattle.c_meaning.specs.Results.{Got, Gives, Stops, then_do, turn, untyped, settled, needed}
use Rattle.c_meaning.specs.Operators.{converted, is_true, operated, stepped_by_one, element_pointer, of_one, target, pointed}
use Rattle.c_meaning.specs.Firsts.{heard, outcome, noted_block}
use Rattle.c_meaning.specs.Places.{room, first_cell, marks, fetched}
use Rattle.c_meaning.specs.Constants.{type_at, kind_noted}
use Rattle.c_meaning.specs.Knot.{Knot}
use Rattle.c_meaning.specs.Builtins.{built_in, called, called_row, params_of}
use Rattle.c_meaning.specs.Expressions.{gives, operand, number_value, literal_value, noted_value, cast_value, tested, arm, last_test, written, assigned, stepped_from, step_value, meaning, form_meaning, arguments}
use Rattle.c_meaning.specs.Calls.{Source}
use Rattle.flow_walks.specs.declared.action.Action.TheVariants.{Define, Use, Block, Test}
use Rattle.flow_walks.specs.Comes.{Met, act, enter, Comes, emit, emit_if, choice, Ways, value, test, true_way, false_way, evaluated}
use Rattle.flow_walks.specs.Expressions.{holds_place, form_holds_place, holds_scalar, form_holds_scalar, used_at, defined_at, reads, read_form, is_defined, entered, node_goes, form_goes, test_goes, arm_goes, nodes_go}
use Rattle.flow_calls.specs.Orderly.{is_used, form_is_used, is_copied, form_is_copied, IsOrderly, HasOrder, AreOrderly}
use Rattle.flow_calls.proofs.Formed.{emit_none, emit_one, used_then, scalar_place, place_unused}
use Rattle.flow_calls.proofs.Copied.{adds_copied}
use Rattle.flow_calls.proofs.Nils.{NilWays, nil_value, nil_test, read_nil, used_nil, defined_nil, entered_nil, form_nil, value_nil, test_nil, arm_nil, nodes_nil}
use Rattle.flow_calls.proofs.Adding.{AddsBy, Adds, adds_still, stops_none, adds_then, adds_turn, adds_told, adds_to, adds_in, SilentBy, Silent}
use Rattle.flow_calls.proofs.Parts.{adds_if, adds_choice, adds_settled, adds_needed, adds_wanted, adds_block, adds_loaded, adds_stored, adds_fetched, adds_variable, adds_field, adds_built_in}

-- ---- what comes behind a value

abbrev pub holds : Option Value → Bool
holds None = false
holds (Some v) = is_true v

-- behind a value that is true or not: `&&` and `||` have no decision of their own
abbrev pub after : Ways → Bool → Bool → Comes
after (value k) logical v = k
after (test d j k) true v = choice v j k
after (test d j k) false v = choice v (emit (act (Test d 1)) j) (emit (act (Test d 2)) k)

both_in : (m : Ways) (v : Bool) (w : List Met) → after m false v w → evaluated both m w
both_in (value k) v w p = p
both_in (test d j k) true w p = inl p
both_in (test d j k) false w p = inr p

-- a constant has its own outcome alone
constant_in : (m : Ways) (z : Bool) (w : List Met) → after m false (not z) w → evaluated (if z then only_false else only_true) m w
constant_in (value k) z w p = p
constant_in (test d j k) true w p = p
constant_in (test d j k) false w p = p

logical_in : (m : Ways) (x : Bool) (w : List Met) → after m true (is_true (Int (truth x))) w → choice x (true_way m) (false_way m) w
logical_in (value k) true w p = p
logical_in (value k) false w p = p
logical_in (test d j k) true w p = p
logical_in (test d j k) false w p = p

choice_nil : (v : Bool) (j k : Comes) → j [] → k [] → choice v j k []
choice_nil true j k h g = h
choice_nil false j k h g = g

after_nil : (m : Ways) (b v : Bool) → NilWays m → after m b v []
after_nil (value k) b v h = h.true_nil
after_nil (test d j k) true v h = choice_nil v j k h.true_nil h.false_nil
after_nil (test d j k) false v h = choice_nil v _ _ tt tt

module _ (P : Source) (F : List Bound) (kn : Knot) where
  -- what is behind a call adds nothing to the caller's own
  abbrev pub Calling : Type 0
  Calling = (f : ℕ) (vs : List Value) (s : State) → Silent P F s (kn.call f vs s)

  -- an expression as a value, and as a place that is taken so
  abbrev pub Values : NodeShape → Type 1
  Values a = (c : Around) (w : Walked) (m : Ways) → NilWays m → (s : State) → Adds P F (node_goes P.tables c Read a w m) s ((meaning P.tables kn a).value (heard c w) s) (λ v. after m (is_logical a) (holds v))

  -- a structure's place, which is used as it is copied
  abbrev pub Copies : NodeShape → Type 1
  Copies a = (c : Around) (w : Walked) (k : Comes) → k [] → (s : State) → Adds P F (node_goes P.tables c Copied a w (value k)) s ((meaning P.tables kn a).place Copied (heard c w) s) (λ q. emit (act (Use (next_use w))) k)

  abbrev pub Places : Taken → NodeShape → Type 1
  Places r a = (c : Around) (w : Walked) (k : Comes) → k [] → (s : State) → Adds P F (node_goes P.tables c r a w (value k)) s ((meaning P.tables kn a).place r (heard c w) s) (λ q. k)

  -- ---- parts of operators

  plainly : (a : NodeShape) → Values a → (c : Around) (w : Walked) (k : Comes) → k [] → (s : State) → Adds P F (node_goes P.tables c Read a w (value k)) s ((meaning P.tables kn a).value (heard c w) s) (λ v. k)
  plainly a va c w k h s = va c w (value k) (nil_value k h) s

  -- an operand whose value is needed
  wanted : (a : NodeShape) → Values a → (c : Around) (w : Walked) (k : Comes) → k [] → (s : State) → Adds P F (node_goes P.tables c Read a w (value k)) s (needed ((meaning P.tables kn a).value (heard c w) s)) (λ v. k)
  wanted a va c w k h s = adds_wanted P F _ s _ k h (plainly a va c w k h s)

  -- it comes to that value
  done : (m : Ways) (v : Option Value) (s : State) → Adds P F (evaluated both m) s (Gives v s) (λ v. after m false (holds v))
  done m v s = adds_still P F (evaluated both m) s v _ (both_in m (holds v))

  to_done : (m : Ways) (j : Comes) (s : State) (r : Got (Option Value)) → Adds P F j s r (λ v. evaluated both m) → Adds P F j s r (λ v. after m false (holds v))
  to_done m j s r f = adds_to P F j s r _ _ (λ v w p. both_in m (holds v) w p) f

  noted_adds : (d : ℕ) (j k : Comes) (b x : Bool) (s : State) → Adds P F (after (test d j k) b x) s (Gives x (if b then s else did (tells (event.Test d (outcome x) (activation s))) s)) (λ x. choice x j k)
  noted_adds d j k true x s = adds_still P F _ s x _ (λ w p. p)
  noted_adds d j k false true s = adds_told P F (event.Test d 1 (activation s)) j s _ _ (adds_still P F j (did (tells (event.Test d 1 (activation s))) s) true _ (λ w p. p))
  noted_adds d j k false false s = adds_told P F (event.Test d 2 (activation s)) k s _ _ (adds_still P F k (did (tells (event.Test d 2 (activation s))) s) false _ (λ w p. p))

  pub tested_adds : (a : NodeShape) → Values a → (c : Around) (w : Walked) (j k : Comes) → j [] → k [] → (s : State) → Adds P F (test_goes P.tables c a w j k) s (tested a (meaning P.tables kn a) (heard c w) s) (λ x. choice x j k)
  tested_adds (node p o n f) va c w j k h g s =
      let m = test (next_decision w) j k in
      let b = is_logical_form f in
      adds_then P F _ s _ _ (λ v. after m b (is_true v)) _
      (adds_needed P F _ s _ (λ v. after m b (holds v)) (λ v. after m b (is_true v)) (after_nil m b false (nil_test _ j k h g)) (λ v w p. p) (va (inside_test c f w) (with_test p f w) m (nil_test _ j k h g) s))
      (λ v s. noted_adds (next_decision w) j k b (is_true v) s)

  pub arm_adds : (a : NodeShape) → Values a → (c : Around) (w : Walked) (k : Comes) → k [] → (s : State) → Adds P F (arm_goes P.tables c a w k) s (arm a (heard c w) s (meaning P.tables kn a).value) (λ v. k)
  arm_adds (node p o n f) va c w k h s = adds_block P F true c w _ s _ _ (va c (with_block p w) (value k) (nil_value k h) (noted_block true (heard c w) s))

  last_adds : (a : NodeShape) → Values a → (c : Around) (w : Walked) (m : Ways) → NilWays m → (s : State) → Adds P F (emit (act (Block (next_block w))) (test_goes P.tables c a (with_block (pos_of a) w) (true_way m) (false_way m))) s (last_test a (meaning P.tables kn a) (heard c w) s) (λ v. after m true (holds v))
  last_adds a va c w m h s = adds_block P F true c w _ s _ _
      (adds_then P F _ (noted_block true (heard c w) s) _ _ _ _ (tested_adds a va c (with_block (pos_of a) w) (true_way m) (false_way m) h.true_nil h.false_nil (noted_block true (heard c w) s))
      (λ x s. adds_still P F _ s (Some (Int (truth x))) _ (logical_in m x)))

  -- ---- constants and names

  number_adds : (x : Option Number) (m : Ways) → NilWays m → (s : State) → Adds P F (evaluated (outcome_of (number_constant x)) m) s (number_value x s) (λ v. after m false (holds v))
  number_adds None m h s = stops_none P F _ _ s _ (h.evaluated_nil (outcome_of (number_constant None)))
  number_adds (Some x) m h s = adds_still P F _ s (Some (Int (pos x.value))) _ (constant_in m (is_zero (pos x.value)))

  literal_adds : (n : NoteShape) (x : Text) (m : Ways) → NilWays m → (s : State) → Adds P F (evaluated both m) s (literal_value n x s) (λ v. after m false (holds v))
  literal_adds (typed y (Some j)) x m h s = adds_if P F (nat_lt (length x) room) _ s (gives (At (first_cell j (length x + 1))) s) (untyped s) _ (done m _ s) (stops_none P F _ _ s _ (h.evaluated_nil both))
  literal_adds (typed y None) x m h s = stops_none P F _ _ s _ (h.evaluated_nil both)
  literal_adds (known y v) x m h s = stops_none P F _ _ s _ (h.evaluated_nil both)
  literal_adds bare x m h s = stops_none P F _ _ s _ (h.evaluated_nil both)

  noted_value_adds : (n : NoteShape) (m : Ways) → NilWays m → (s : State) → Adds P F (evaluated both m) s (noted_value n s) (λ v. after m false (holds v))
  noted_value_adds (known y v) m h s = done m _ s
  noted_value_adds (typed y j) m h s = stops_none P F _ _ s _ (h.evaluated_nil both)
  noted_value_adds bare m h s = stops_none P F _ _ s _ (h.evaluated_nil both)

  turn_done : (m : Ways) → NilWays m → (s : State) (go : State → Got (Option Value)) → ((s : State) → Adds P F (evaluated both m) s (go s) (λ v. after m false (holds v))) → Adds P F (evaluated both m) s (turn s go) (λ v. after m false (holds v))
  turn_done m h s go f = adds_turn P F _ s go _ (h.evaluated_nil both) f

  name_adds : (p : Pos) (n : NoteShape) (x : Text) (c : Around) (w : Walked) (m : Ways) → NilWays m → (s : State) → Adds P F (form_goes P.tables c Read p n (leaf (name x)) w m) s ((form_meaning P.tables kn p n (leaf (name x))).value (heard c w) s) (λ v. after m false (holds v))
  name_adds p (typed y (Some v)) x c w m h s =
      let nil = read_nil Read (typed y (Some v)) (leaf (name x)) w (evaluated both m) (h.evaluated_nil both) in
      adds_then P F _ s _ _ _ _ (adds_turn P F _ s _ _ nil (λ s. adds_variable P F P.tables y v _ s nil)) (λ q s. to_done m _ s _ (adds_fetched P F P.tables (typed y (Some v)) [] c w q _ s (h.evaluated_nil both)))
  name_adds p (typed y None) x c w m h s =
      let nil = read_nil Read (typed y None) (leaf (name x)) w (evaluated both m) (h.evaluated_nil both) in
      adds_turn P F _ s _ _ nil (λ s. stops_none P F _ _ s _ nil)
  name_adds p (known y v) x c w m h s = turn_done m h s _ (λ s. done m _ s)
  name_adds p bare x c w m h s = turn_done m h s _ (λ s. stops_none P F _ _ s _ (h.evaluated_nil both))

  leaf_adds : (p : Pos) (n : NoteShape) (l : Leaf) (c : Around) (w : Walked) (m : Ways) → NilWays m → (s : State) → Adds P F (form_goes P.tables c Read p n (leaf l) w m) s ((form_meaning P.tables kn p n (leaf l)).value (heard c w) s) (λ v. after m false (holds v))
  leaf_adds p n (number x) c w m h s = adds_turn P F _ s _ _ (h.evaluated_nil (outcomes_of_form (leaf (number x)))) (λ s. number_adds (number_of x) m h s)
  leaf_adds p n (char b) c w m h s = adds_turn P F _ s _ _ (h.evaluated_nil (outcomes_of_form (leaf (char b)))) (λ s. adds_still P F _ s (Some (Int (wrap Char (pos b)))) _ (constant_in m (is_zero (wrap Char (pos b)))))
  leaf_adds p n (str x) c w m h s = turn_done m h s _ (λ s. literal_adds n x m h s)
  leaf_adds p n (name x) c w m h s = name_adds p n x c w m h s

  -- ---- calls

  enter_by : (f : ℕ) (s : State) (r : Got (Option Value)) (k : Comes) → k [] → SilentBy P F s r → AddsBy P F (emit (enter f) k) s r (λ v. k)
  enter_by f s (Gives a t) k h q = record { acts = []; kept = q.0; calls = q.1; met = enter f ∷ []; reads = refl; on = λ w p. (refl, p) }
  enter_by f s (Stops why t) k h q = record { acts = []; kept = q; met = enter f ∷ []; reads = refl; allowed = (refl, h) }

  row_adds : (b : Bool) (f : ℕ) (x : Text) (vs : List Value) (k : Comes) (s : State) → k [] → Calling → Adds P F (emit_if b (enter f) k) s (if b then kn.call f vs s else built_in x vs s) (λ v. k)
  row_adds true f x vs k s h calling = record { by = λ o. enter_by f s (kn.call f vs s) k h ((calling f vs s).by o) }
  row_adds false f x vs k s h calling = adds_built_in P F x vs k s h

  found_row_adds : (f : ℕ) (r : Option FunctionShape) (vs : List Value) (k : Comes) (s : State) → k [] → Calling → Adds P F (emit_if (is_defined r) (enter f) k) s (called_row kn f r vs s) (λ v. k)
  found_row_adds f None vs k s h calling = stops_none P F _ k s _ h
  found_row_adds f (Some r) vs k s h calling = row_adds (is_some r.defined) f r.name vs k s h calling

  called_adds : (n : NoteShape) (vs : List Value) (k : Comes) (s : State) → k [] → Calling → Adds P F (entered P.tables n k) s (called P.tables kn n vs s) (λ v. k)
  called_adds (typed y (Some f)) vs k s h calling = found_row_adds f (row P.tables.functions f) vs k s h calling
  called_adds (typed y None) vs k s h calling = stops_none P F _ k s _ h
  called_adds (known y v) vs k s h calling = stops_none P F _ k s _ h
  called_adds bare vs k s h calling = stops_none P F _ k s _ h

  -- ---- forms of a place

  -- a place that is used there, and one that isn't
  used_adds : (n : NoteShape) (f : ExprShape) (w : Walked) (j k : Comes) (s : State) (g : Got Pointer) → reads Copied n f ≡ true → Adds P F j s g (λ q. read_form Copied n f w k) → Adds P F j s g (λ q. emit (act (Use (next_use w))) k)
  used_adds n f w j k s g e a = adds_to P F j s g _ _ (λ q v p. emit_one (reads Copied n f) _ k v e p) a

  unused_adds : (r : Taken) (n : NoteShape) (f : ExprShape) (w : Walked) (j k : Comes) (s : State) (g : Got Pointer) → reads r n f ≡ false → Adds P F j s g (λ q. read_form r n f w k) → Adds P F j s g (λ q. k)
  unused_adds r n f w j k s g e a = adds_to P F j s g _ _ (λ q w p. emit_none (reads r n f) _ k w e p) a

  name_found : (r : Taken) (p : Pos) (n : NoteShape) (x : Text) (c : Around) (w : Walked) (k : Comes) → k [] → (s : State) → Adds P F (read_form r n (leaf (name x)) w k) s ((form_meaning P.tables kn p n (leaf (name x))).place r (heard c w) s) (λ q. read_form r n (leaf (name x)) w k)
  name_found r p (typed y (Some v)) x c w k h s = adds_turn P F _ s _ _ (read_nil r (typed y (Some v)) (leaf (name x)) w k h) (λ s. adds_variable P F P.tables y v _ s (read_nil r (typed y (Some v)) (leaf (name x)) w k h))
  name_found r p (typed y None) x c w k h s = stops_none P F _ _ s _ (read_nil r (typed y None) (leaf (name x)) w k h)
  name_found r p (known y v) x c w k h s = stops_none P F _ _ s _ (read_nil r (known y v) (leaf (name x)) w k h)
  name_found r p bare x c w k h s = stops_none P F _ _ s _ (read_nil r bare (leaf (name x)) w k h)

  deref_found : (r : Taken) (p : Pos) (n : NoteShape) (a : NodeShape) → Values a → (c : Around) (w : Walked) (m : Ways) → NilWays m → (s : State) → Adds P F (form_goes P.tables c r p n (prefix (unary front.Deref) a) w m) s ((form_meaning P.tables kn p n (prefix (unary front.Deref) a)).place r (heard c w) s) (λ q. read_form r n (prefix (unary front.Deref) a) w (evaluated both m))
  deref_found r p n a va c w m h s =
      let nil = read_nil r n (prefix (unary front.Deref) a) w (evaluated both m) (h.evaluated_nil both) in
      adds_turn P F _ s _ _ (value_nil P.tables c Read a _ _ nil) (λ s.
      adds_then P F _ s _ _ _ _ (wanted a va c (with_site c r p n (prefix (unary front.Deref) a) w) _ nil s) (λ v s. adds_settled P F (target v) _ s nil))

  index_found : (r : Taken) (p : Pos) (n : NoteShape) (a b : NodeShape) → Values a → Values b → (c : Around) (w : Walked) (m : Ways) → NilWays m → (s : State) → Adds P F (form_goes P.tables c r p n (suffix a (index b)) w m) s ((form_meaning P.tables kn p n (suffix a (index b))).place r (heard c w) s) (λ q. read_form r n (suffix a (index b)) w (evaluated both m))
  index_found r p n a b va vb c w m h s =
      let nil = read_nil r n (suffix a (index b)) w (evaluated both m) (h.evaluated_nil both) in
      let j = with_site c r p n (suffix a (index b)) w in
      adds_turn P F _ s _ _ (value_nil P.tables c Read a j _ (value_nil P.tables c Read b (walk_node c Read a j) _ nil)) (λ s.
      adds_then P F _ s _ _ _ _ (wanted a va c j _ (value_nil P.tables c Read b (walk_node c Read a j) _ nil) s) (λ v s.
      adds_then P F _ s _ _ _ _ (wanted b vb c (walk_node c Read a j) _ nil s) (λ u s.
      adds_then P F _ s _ _ (λ v. read_form r n (suffix a (index b)) w (evaluated both m)) _ (adds_settled P F (element_pointer (operand a) (operand b) v u) _ s nil) (λ v s. adds_settled P F (target v) _ s nil))))

  dot_found : (r : Taken) (p q : Pos) (n : NoteShape) (a : NodeShape) (x : Text) → Places Read a → (c : Around) (w : Walked) (m : Ways) → NilWays m → (s : State) → Adds P F (form_goes P.tables c r p n (suffix a (field dot x q)) w m) s ((form_meaning P.tables kn p n (suffix a (field dot x q))).place r (heard c w) s) (λ v. read_form r n (suffix a (field dot x q)) w (evaluated both m))
  dot_found r p q n a x pa c w m h s =
      let nil = read_nil r n (suffix a (field dot x q)) w (evaluated both m) (h.evaluated_nil both) in
      let j = with_site c r p n (suffix a (field dot x q)) w in
      adds_turn P F _ s _ _ (value_nil P.tables c Read a j _ nil) (λ s.
      adds_then P F _ s _ _ _ _ (pa c j _ nil s) (λ v s. adds_field P F P.tables x (type_at a) v _ s nil))

  arrow_found : (r : Taken) (p q : Pos) (n : NoteShape) (a : NodeShape) (x : Text) → Values a → (c : Around) (w : Walked) (m : Ways) → NilWays m → (s : State) → Adds P F (form_goes P.tables c r p n (suffix a (field arrow x q)) w m) s ((form_meaning P.tables kn p n (suffix a (field arrow x q))).place r (heard c w) s) (λ v. read_form r n (suffix a (field arrow x q)) w (evaluated both m))
  arrow_found r p q n a x va c w m h s =
      let nil = read_nil r n (suffix a (field arrow x q)) w (evaluated both m) (h.evaluated_nil both) in
      let j = with_site c r p n (suffix a (field arrow x q)) w in
      adds_turn P F _ s _ _ (value_nil P.tables c Read a j _ nil) (λ s.
      adds_then P F _ s _ _ _ _ (wanted a va c j _ nil s) (λ v s.
      adds_then P F _ s _ _ (λ v. read_form r n (suffix a (field arrow x q)) w (evaluated both m)) _ (adds_settled P F (target v) _ s nil) (λ v s. adds_field P F P.tables x (pointed (operand a)) v _ s nil)))

  -- a place whose value is fetched, a scalar's being used
  fetch : (n : NoteShape) (c : Around) (w : Walked) (m : Ways) → NilWays m → (j : Comes) (s : State) (g : Got Pointer) → Adds P F j s g (λ q. emit_if (has_scalar n) (act (Use (next_use w))) (evaluated both m)) → Adds P F j s (then_do g (fetched P.tables n [] (heard c w))) (λ v. after m false (holds v))
  fetch n c w m h j s g a = adds_then P F j s g _ _ _ a (λ q s. to_done m _ s _ (adds_fetched P F P.tables n [] c w q _ s (h.evaluated_nil both)))

  -- ---- operators

  unary_adds : (u : UnaryOp) (y : TypeOf) (a : NodeShape) → Values a → (c : Around) (w : Walked) (m : Ways) → NilWays m → (s : State) → Adds P F (node_goes P.tables c Read a w (value (evaluated both m))) s (turn s (λ s. then_do (needed ((meaning P.tables kn a).value (heard c w) s)) (λ v s. then_do (settled (of_one u y v) s) gives))) (λ v. after m false (holds v))
  unary_adds u y a va c w m h s =
      let nil = h.evaluated_nil both in
      adds_turn P F _ s _ _ (value_nil P.tables c Read a w _ nil) (λ s.
      adds_then P F _ s _ _ _ _ (wanted a va c w _ nil s) (λ v s. adds_then P F _ s _ _ _ _ (adds_settled P F (of_one u y v) _ s nil) (λ v s. done m _ s)))

  written_adds : (y : TypeOf) (xs : List Text) (c : Around) (w : Walked) (q : Pointer) (v : Value) (k : Comes) (s : State) → k [] → Adds P F (emit (act (Define (next_def w))) k) s (written y xs (heard c w) q v s) (λ v. k)
  written_adds y xs c w q v k s h = adds_then P F _ s _ _ _ _ (adds_stored P F xs c w q (converted y v) k s h) (λ v s. adds_still P F k s _ _ (λ w p. p))

  stepped_adds : (b : Bool) (m : Ways) (x : Value) (v : Option Value) (s : State) → Adds P F (evaluated both m) s (stepped_from b x v s) (λ v. after m false (holds v))
  stepped_adds true m x v s = done m v s
  stepped_adds false m x v s = done m (Some x) s

  step_adds : (b : Bool) (u : Step) (a : NodeShape) → Places Changed a → holds_scalar a ≡ true → (c : Around) (w : Walked) (m : Ways) → NilWays m → (s : State)
      → Adds P F (node_goes P.tables c Changed a w (value (used_at a w (defined_at a w (evaluated both m))))) s (turn s (step_value b u a (meaning P.tables kn a) (heard c w))) (λ v. after m false (holds v))
  step_adds b u a pa e c w m h s =
      let nil = h.evaluated_nil both in
      let def_nil = defined_nil a w (evaluated both m) nil in
      let use_nil = used_nil a w (defined_at a w (evaluated both m)) def_nil in
      adds_turn P F _ s _ _ (value_nil P.tables c Changed a w _ use_nil) (λ s.
      adds_then P F _ s _ _ _ _ (pa c w _ use_nil s) (λ q s.
      adds_then P F _ s _ _ _ _ (adds_in P F _ _ s _ _ (λ w p. emit_one (holds_scalar a) _ _ w e p) (adds_loaded P F (marks used a) c w q (defined_at a w (evaluated both m)) s def_nil)) (λ x s.
      adds_then P F _ s _ _ _ _ (adds_settled P F (stepped_by_one u (operand a) x) _ s def_nil) (λ v s.
      adds_then P F _ s _ _ _ _ (adds_in P F _ _ s _ _ (λ w p. emit_one (holds_place a) _ _ w (scalar_place a e) p) (written_adds (type_at a) (marks def a) c w q v (evaluated both m) s nil)) (λ v s. stepped_adds b m x v s)))))

  cast_adds : (y : TypeOf) (k : Comes) (j : Comes) (s : State) (r : Got (Option Value)) → k [] → Adds P F j s r (λ v. k) → Adds P F j s (cast_value y r) (λ v. k)
  cast_adds nothing k j s r h f = adds_then P F j s r _ _ _ f (λ v s. adds_still P F k s _ _ (λ w p. p))
  cast_adds (int y) k j s r h f = adds_then P F j s _ _ _ _ (adds_wanted P F j s r k h f) (λ v s. adds_still P F k s _ _ (λ w p. p))
  cast_adds (pointer y) k j s r h f = adds_then P F j s _ _ _ _ (adds_wanted P F j s r k h f) (λ v s. adds_still P F k s _ _ (λ w p. p))
  cast_adds (array y n) k j s r h f = adds_then P F j s _ _ _ _ (adds_wanted P F j s r k h f) (λ v s. adds_still P F k s _ _ (λ w p. p))
  cast_adds (structure n) k j s r h f = adds_then P F j s _ _ _ _ (adds_wanted P F j s r k h f) (λ v s. adds_still P F k s _ _ (λ w p. p))

  -- where the left side holds a structure, the right one is a place that is used and copied
  assigned_adds : (z : Bool) (a b : NodeShape) → holds_place a ≡ true → Values b → (z ≡ true → Copies b) → (c : Around) (w : Walked) (m : Ways) → NilWays m → (q : Pointer) (s : State)
      → Adds P F (node_goes P.tables c (if z then Copied else Read) b (walk_node c Written a w) (value (defined_at a w (evaluated both m)))) s (assigned z (type_at a) (marks def a) (marks used b) (meaning P.tables kn b) (heard c w) (heard c (walk_node c Written a w)) q s) (λ v. after m false (holds v))
  assigned_adds true a b e vb cb c w m h q s =
      let nil = h.evaluated_nil both in
      let def_nil = defined_nil a w (evaluated both m) nil in
      adds_then P F _ s _ _ _ _ (cb refl c (walk_node c Written a w) _ def_nil s) (λ r s.
      to_done m _ s _ (adds_in P F _ _ s _ _ (λ v p. used_then _ (holds_place a) _ _ v e p) (adds_copied P F (marks def a) (marks used b) c w (walk_node c Written a w) q r (evaluated both m) s nil)))
  assigned_adds false a b e vb cb c w m h q s =
      let nil = h.evaluated_nil both in
      adds_then P F _ s _ _ _ _ (wanted b vb c (walk_node c Written a w) _ (defined_nil a w (evaluated both m) nil) s) (λ v s.
      to_done m _ s _ (adds_in P F _ _ s _ _ (λ w p. emit_one (holds_place a) _ _ w e p) (written_adds (type_at a) (marks def a) c w q v (evaluated both m) s nil)))

  assign_adds : (p : Pos) (n : NoteShape) (a b : NodeShape) → Places Written a → holds_place a ≡ true → Values b → (holds_structure a ≡ true → Copies b) → (c : Around) (w : Walked) (m : Ways) → NilWays m → (s : State)
      → Adds P F (form_goes P.tables c Read p n (two (assign None) a b) w m) s ((form_meaning P.tables kn p n (two (assign None) a b)).value (heard c w) s) (λ v. after m false (holds v))
  assign_adds p n a b pa e vb cb c w m h s =
      let right = value_nil P.tables c (if holds_structure a then Copied else Read) b (walk_node c Written a w) _ (defined_nil a w (evaluated both m) (h.evaluated_nil both)) in
      adds_turn P F _ s _ _ (value_nil P.tables c Written a w _ right) (λ s.
      adds_then P F _ s _ _ _ _ (pa c w _ right s) (λ q s. assigned_adds (holds_structure a) a b e vb cb c w m h q s))

  change_adds : (u : BinaryOp) (p : Pos) (n : NoteShape) (a b : NodeShape) → Places Changed a → holds_scalar a ≡ true → Values b → (c : Around) (w : Walked) (m : Ways) → NilWays m → (s : State)
      → Adds P F (form_goes P.tables c Read p n (two (assign (Some u)) a b) w m) s ((form_meaning P.tables kn p n (two (assign (Some u)) a b)).value (heard c w) s) (λ v. after m false (holds v))
  change_adds u p n a b pa e vb c w m h s =
      let nil = h.evaluated_nil both in
      let def_nil = defined_nil a w (evaluated both m) nil in
      let right = value_nil P.tables c Read b (walk_node c Changed a w) _ def_nil in
      let use_nil = used_nil a w (node_goes P.tables c Read b (walk_node c Changed a w) (value (defined_at a w (evaluated both m)))) right in
      adds_turn P F _ s _ _ (value_nil P.tables c Changed a w _ use_nil) (λ s.
      adds_then P F _ s _ _ _ _ (pa c w _ use_nil s) (λ q s.
      adds_then P F _ s _ _ _ _ (adds_in P F _ _ s _ _ (λ w p. emit_one (holds_scalar a) _ _ w e p) (adds_loaded P F (marks used a) c w q _ s right)) (λ x s.
      adds_then P F _ s _ _ _ _ (wanted b vb c (walk_node c Changed a w) _ def_nil s) (λ y s.
      adds_then P F _ s _ _ _ _ (adds_settled P F (operated u (operand a) (operand b) x y) _ s def_nil) (λ v s.
      to_done m _ s _ (adds_in P F _ _ s _ _ (λ w p. emit_one (holds_place a) _ _ w (scalar_place a e) p) (written_adds (type_at a) (marks def a) c w q v (evaluated both m) s nil)))))))

  plain_adds : (u : BinaryOp) (p : Pos) (n : NoteShape) (a b : NodeShape) → Values a → Values b → (c : Around) (w : Walked) (m : Ways) → NilWays m → (s : State)
      → Adds P F (form_goes P.tables c Read p n (two (plain u) a b) w m) s ((form_meaning P.tables kn p n (two (plain u) a b)).value (heard c w) s) (λ v. after m false (holds v))
  plain_adds u p n a b va vb c w m h s =
      let nil = h.evaluated_nil both in
      let right = value_nil P.tables c Read b (walk_node c Read a w) _ nil in
      adds_turn P F _ s _ _ (value_nil P.tables c Read a w _ right) (λ s.
      adds_then P F _ s _ _ _ _ (wanted a va c w _ right s) (λ v s.
      adds_then P F _ s _ _ _ _ (wanted b vb c (walk_node c Read a w) _ nil s) (λ y s.
      adds_then P F _ s _ _ _ _ (adds_settled P F (operated u (operand a) (operand b) v y) _ s nil) (λ v s. done m _ s))))

  and_adds : (p : Pos) (n : NoteShape) (a b : NodeShape) → Values a → Values b → (c : Around) (w : Walked) (m : Ways) → NilWays m → (s : State)
      → Adds P F (form_goes P.tables c Read p n (two and a b) w m) s ((form_meaning P.tables kn p n (two and a b)).value (heard c w) s) (λ v. after m true (holds v))
  and_adds p n a b va vb c w m h s =
      adds_turn P F _ s _ _ (test_nil P.tables c a w _ _ tt h.false_nil) (λ s.
      adds_then P F _ s _ _ _ _ (tested_adds a va c w _ _ tt h.false_nil s) (λ x s.
      adds_choice P F x _ _ s _ _ _ (last_adds b vb c (walk_test c a w) m h s) (adds_still P F _ s (Some (Int (pos 0))) _ (logical_in m false))))

  or_adds : (p : Pos) (n : NoteShape) (a b : NodeShape) → Values a → Values b → (c : Around) (w : Walked) (m : Ways) → NilWays m → (s : State)
      → Adds P F (form_goes P.tables c Read p n (two or a b) w m) s ((form_meaning P.tables kn p n (two or a b)).value (heard c w) s) (λ v. after m true (holds v))
  or_adds p n a b va vb c w m h s =
      adds_turn P F _ s _ _ (test_nil P.tables c a w _ _ h.true_nil tt) (λ s.
      adds_then P F _ s _ _ _ _ (tested_adds a va c w _ _ h.true_nil tt s) (λ x s.
      adds_choice P F x _ _ s _ _ _ (adds_still P F _ s (Some (Int (pos 1))) _ (logical_in m true)) (last_adds b vb c (walk_test c a w) m h s)))

  comma_adds : (p : Pos) (n : NoteShape) (a b : NodeShape) → Values a → Values b → (c : Around) (w : Walked) (m : Ways) → NilWays m → (s : State)
      → Adds P F (form_goes P.tables c Read p n (two comma a b) w m) s ((form_meaning P.tables kn p n (two comma a b)).value (heard c w) s) (λ v. after m false (holds v))
  comma_adds p n a b va vb c w m h s =
      let nil = h.evaluated_nil both in
      let right = value_nil P.tables c Read b (walk_node c Read a w) _ nil in
      adds_turn P F _ s _ _ (value_nil P.tables c Read a w _ right) (λ s.
      adds_then P F _ s _ _ _ _ (plainly a va c w _ right s) (λ v s. to_done m _ s _ (plainly b vb c (walk_node c Read a w) _ nil s)))

  comma_place : (r : Taken) (p : Pos) (n : NoteShape) (a b : NodeShape) → Values a → Places Read b → (c : Around) (w : Walked) (k : Comes) → k [] → (s : State)
      → Adds P F (form_goes P.tables c r p n (two comma a b) w (value k)) s ((form_meaning P.tables kn p n (two comma a b)).place r (heard c w) s) (λ q. k)
  comma_place r p n a b va pb c w k h s =
      let right = value_nil P.tables c Read b (walk_node c Read a w) k h in
      adds_turn P F _ s _ _ (value_nil P.tables c Read a w _ right) (λ s.
      adds_then P F _ s _ _ _ _ (plainly a va c w _ right s) (λ v s. pb c (walk_node c Read a w) k h s))

  choose_adds : (p : Pos) (n : NoteShape) (a b d : NodeShape) → Values a → Values b → Values d → (c : Around) (w : Walked) (m : Ways) → NilWays m → (s : State)
      → Adds P F (form_goes P.tables c Read p n (choose a b d) w m) s ((form_meaning P.tables kn p n (choose a b d)).value (heard c w) s) (λ v. after m false (holds v))
  choose_adds p n a b d va vb vd c w m h s =
      let nil = h.evaluated_nil both in
      let j = walk_test c a w in
      adds_turn P F _ s _ _ (test_nil P.tables c a w _ _ (arm_nil P.tables c b j _) (arm_nil P.tables c d (walk_arm c b j) _)) (λ s.
      adds_then P F _ s _ _ _ _ (tested_adds a va c w _ _ (arm_nil P.tables c b j _) (arm_nil P.tables c d (walk_arm c b j) _) s) (λ x s.
      adds_then P F _ s _ _ (λ v. evaluated both m) _ (adds_choice P F x _ _ s _ _ _ (arm_adds b vb c j (evaluated both m) nil s) (arm_adds d vd c (walk_arm c b j) (evaluated both m) nil s)) (λ v s. done m _ s)))

  -- ---- expressions

  module _ (calling : Calling) where
    mutual
      pub value_adds : (a : NodeShape) → IsOrderly a → Values a
      value_adds (node p o n f) g c w m h s = form_adds p n f g c w m h s

      form_adds : (p : Pos) (n : NoteShape) (f : ExprShape) → HasOrder f → (c : Around) (w : Walked) (m : Ways) → NilWays m → (s : State) → Adds P F (form_goes P.tables c Read p n f w m) s ((form_meaning P.tables kn p n f).value (heard c w) s) (λ v. after m (is_logical_form f) (holds v))
      form_adds p n (leaf l) g c w m h s = leaf_adds p n l c w m h s
      form_adds p n (paren a) g c w m h s = value_adds a g c w m h s
      form_adds p n (call x args) g c w m h s =
          let back = entered_nil P.tables n (evaluated both m) (h.evaluated_nil both) in
          adds_turn P F _ s _ _ (nodes_nil P.tables c args w _ back) (λ s.
          adds_then P F _ s _ _ _ _ (arguments_adds args g (params_of P.tables n) c w _ back s) (λ vs s. to_done m _ s _ (called_adds n vs _ s (h.evaluated_nil both) calling)))
      form_adds p n (prefix (unary front.AddressOf) a) g c w m h s =
          adds_turn P F _ s _ _ (value_nil P.tables c Addressed a w _ (h.evaluated_nil both)) (λ s.
          adds_then P F _ s _ _ _ _ (place_adds Addressed a g.0 g.1 c w _ (h.evaluated_nil both) s) (λ q s. done m _ s))
      form_adds p n (prefix (unary front.Deref) a) g c w m h s = fetch n c w m h _ s _ (deref_found Read p n a (value_adds a g) c w m h s)
      form_adds p n (prefix (unary front.Plus) a) g c w m h s = unary_adds front.Plus (operand a) a (value_adds a g) c w m h s
      form_adds p n (prefix (unary front.Minus) a) g c w m h s = unary_adds front.Minus (operand a) a (value_adds a g) c w m h s
      form_adds p n (prefix (unary front.Flip) a) g c w m h s = unary_adds front.Flip (operand a) a (value_adds a g) c w m h s
      form_adds p n (prefix (unary front.Not) a) g c w m h s = unary_adds front.Not (operand a) a (value_adds a g) c w m h s
      form_adds p n (prefix (before u) a) g c w m h s = step_adds true u a (place_adds Changed a g.0 (place_unused a g.0 (scalar_place a g.1)).1) g.1 c w m h s
      form_adds p n (prefix size_of a) g c w m h s = turn_done m h s _ (λ s. noted_value_adds n m h s)
      form_adds p n (size_of_type y) g c w m h s = turn_done m h s _ (λ s. noted_value_adds n m h s)
      form_adds p n (cast y a) g c w m h s =
          let nil = h.evaluated_nil both in
          adds_turn P F _ s _ _ (value_nil P.tables c Read a w _ nil) (λ s. to_done m _ s _ (cast_adds (kind_noted n) _ _ s _ nil (plainly a (value_adds a g) c w _ nil s)))
      form_adds p n (suffix a (index b)) g c w m h s = fetch n c w m h _ s _ (index_found Read p n a b (value_adds a g.0) (value_adds b g.1) c w m h s)
      form_adds p n (suffix a (field dot x q)) g c w m h s = fetch n c w m h _ s _ (dot_found Read p q n a x (place_adds Read a g.0 g.1) c w m h s)
      form_adds p n (suffix a (field arrow x q)) g c w m h s = fetch n c w m h _ s _ (arrow_found Read p q n a x (value_adds a g) c w m h s)
      form_adds p n (suffix a (behind u)) g c w m h s = step_adds false u a (place_adds Changed a g.0 (place_unused a g.0 (scalar_place a g.1)).1) g.1 c w m h s
      form_adds p n (two (assign None) a b) g c w m h s = assign_adds p n a b (place_adds Written a g.0 (place_unused a g.0 g.1).0) g.1 (value_adds b g.2) (λ e. copied_adds b g.2 (g.3 e).1) c w m h s
      form_adds p n (two (assign (Some u)) a b) g c w m h s = change_adds u p n a b (place_adds Changed a g.0 (place_unused a g.0 (scalar_place a g.1)).1) g.1 (value_adds b g.2) c w m h s
      form_adds p n (two (plain u) a b) g c w m h s = plain_adds u p n a b (value_adds a g.0) (value_adds b g.1) c w m h s
      form_adds p n (two and a b) g c w m h s = and_adds p n a b (value_adds a g.0) (value_adds b g.1) c w m h s
      form_adds p n (two or a b) g c w m h s = or_adds p n a b (value_adds a g.0) (value_adds b g.1) c w m h s
      form_adds p n (two comma a b) g c w m h s = comma_adds p n a b (value_adds a g.0) (value_adds b g.1) c w m h s
      form_adds p n (choose a b d) g c w m h s = choose_adds p n a b d (value_adds a g.0) (value_adds b g.1) (value_adds d g.2) c w m h s
      form_adds p n (probe u a) g c w m h s = absurd g

      place_adds : (r : Taken) (a : NodeShape) → IsOrderly a → is_used r a ≡ false → Places r a
      place_adds r (node p o n f) g e c w k h s = form_place_adds r p n f g e c w k h s

      form_place_adds : (r : Taken) (p : Pos) (n : NoteShape) (f : ExprShape) → HasOrder f → form_is_used r n f ≡ false → (c : Around) (w : Walked) (k : Comes) → k [] → (s : State) → Adds P F (form_goes P.tables c r p n f w (value k)) s ((form_meaning P.tables kn p n f).place r (heard c w) s) (λ q. k)
      form_place_adds r p n (leaf (name x)) g e c w k h s = unused_adds r n (leaf (name x)) w _ k s _ e (name_found r p n x c w k h s)
      form_place_adds r p n (paren a) g e c w k h s = place_adds r a g e c w k h s
      form_place_adds r p n (prefix (unary front.Deref) a) g e c w k h s = unused_adds r n (prefix (unary front.Deref) a) w _ k s _ e (deref_found r p n a (value_adds a g) c w (value k) (nil_value k h) s)
      form_place_adds r p n (suffix a (index b)) g e c w k h s = unused_adds r n (suffix a (index b)) w _ k s _ e (index_found r p n a b (value_adds a g.0) (value_adds b g.1) c w (value k) (nil_value k h) s)
      form_place_adds r p n (suffix a (field dot x q)) g e c w k h s = unused_adds r n (suffix a (field dot x q)) w _ k s _ e (dot_found r p q n a x (place_adds Read a g.0 g.1) c w (value k) (nil_value k h) s)
      form_place_adds r p n (suffix a (field arrow x q)) g e c w k h s = unused_adds r n (suffix a (field arrow x q)) w _ k s _ e (arrow_found r p q n a x (value_adds a g) c w (value k) (nil_value k h) s)
      form_place_adds r p n (two comma a b) g e c w k h s = comma_place r p n a b (value_adds a g.0) (place_adds Read b g.1 e) c w k h s
      form_place_adds r p n (leaf (number x)) g e c w k h s = stops_none P F _ _ s _ (form_nil P.tables c r p n (leaf (number x)) w _ (nil_value k h))
      form_place_adds r p n (leaf (char b)) g e c w k h s = stops_none P F _ _ s _ (form_nil P.tables c r p n (leaf (char b)) w _ (nil_value k h))
      form_place_adds r p n (leaf (str x)) g e c w k h s = stops_none P F _ _ s _ (form_nil P.tables c r p n (leaf (str x)) w _ (nil_value k h))
      form_place_adds r p n (call x args) g e c w k h s = stops_none P F _ _ s _ (form_nil P.tables c r p n (call x args) w _ (nil_value k h))
      form_place_adds r p n (prefix (unary front.AddressOf) a) g e c w k h s = stops_none P F _ _ s _ (form_nil P.tables c r p n (prefix (unary front.AddressOf) a) w _ (nil_value k h))
      form_place_adds r p n (prefix (unary front.Plus) a) g e c w k h s = stops_none P F _ _ s _ (form_nil P.tables c r p n (prefix (unary front.Plus) a) w _ (nil_value k h))
      form_place_adds r p n (prefix (unary front.Minus) a) g e c w k h s = stops_none P F _ _ s _ (form_nil P.tables c r p n (prefix (unary front.Minus) a) w _ (nil_value k h))
      form_place_adds r p n (prefix (unary front.Flip) a) g e c w k h s = stops_none P F _ _ s _ (form_nil P.tables c r p n (prefix (unary front.Flip) a) w _ (nil_value k h))
      form_place_adds r p n (prefix (unary front.Not) a) g e c w k h s = stops_none P F _ _ s _ (form_nil P.tables c r p n (prefix (unary front.Not) a) w _ (nil_value k h))
      form_place_adds r p n (prefix (before u) a) g e c w k h s = stops_none P F _ _ s _ (form_nil P.tables c r p n (prefix (before u) a) w _ (nil_value k h))
      form_place_adds r p n (prefix size_of a) g e c w k h s = stops_none P F _ _ s _ (form_nil P.tables c r p n (prefix size_of a) w _ (nil_value k h))
      form_place_adds r p n (size_of_type y) g e c w k h s = stops_none P F _ _ s _ (form_nil P.tables c r p n (size_of_type y) w _ (nil_value k h))
      form_place_adds r p n (cast y a) g e c w k h s = stops_none P F _ _ s _ (form_nil P.tables c r p n (cast y a) w _ (nil_value k h))
      form_place_adds r p n (suffix a (behind u)) g e c w k h s = stops_none P F _ _ s _ (form_nil P.tables c r p n (suffix a (behind u)) w _ (nil_value k h))
      form_place_adds r p n (two (plain u) a b) g e c w k h s = stops_none P F _ _ s _ (form_nil P.tables c r p n (two (plain u) a b) w _ (nil_value k h))
      form_place_adds r p n (two and a b) g e c w k h s = stops_none P F _ _ s _ (form_nil P.tables c r p n (two and a b) w _ (nil_value k h))
      form_place_adds r p n (two or a b) g e c w k h s = stops_none P F _ _ s _ (form_nil P.tables c r p n (two or a b) w _ (nil_value k h))
      form_place_adds r p n (two (assign None) a b) g e c w k h s = stops_none P F _ _ s _ (form_nil P.tables c r p n (two (assign None) a b) w _ (nil_value k h))
      form_place_adds r p n (two (assign (Some u)) a b) g e c w k h s = stops_none P F _ _ s _ (form_nil P.tables c r p n (two (assign (Some u)) a b) w _ (nil_value k h))
      form_place_adds r p n (choose a b d) g e c w k h s = stops_none P F _ _ s _ (form_nil P.tables c r p n (choose a b d) w _ (nil_value k h))
      form_place_adds r p n (probe u a) g e c w k h s = absurd g

      copied_adds : (a : NodeShape) → IsOrderly a → is_copied a ≡ true → Copies a
      copied_adds (node p o n f) g e c w k h s = form_copied_adds p n f g e c w k h s

      form_copied_adds : (p : Pos) (n : NoteShape) (f : ExprShape) → HasOrder f → form_is_copied n f ≡ true → (c : Around) (w : Walked) (k : Comes) → k [] → (s : State) → Adds P F (form_goes P.tables c Copied p n f w (value k)) s ((form_meaning P.tables kn p n f).place Copied (heard c w) s) (λ q. emit (act (Use (next_use w))) k)
      form_copied_adds p n (leaf (name x)) g e c w k h s = used_adds n (leaf (name x)) w _ k s _ e (name_found Copied p n x c w k h s)
      form_copied_adds p n (paren a) g e c w k h s = copied_adds a g e c w k h s
      form_copied_adds p n (prefix (unary front.Deref) a) g e c w k h s = used_adds n (prefix (unary front.Deref) a) w _ k s _ e (deref_found Copied p n a (value_adds a g) c w (value k) (nil_value k h) s)
      form_copied_adds p n (suffix a (index b)) g e c w k h s = used_adds n (suffix a (index b)) w _ k s _ e (index_found Copied p n a b (value_adds a g.0) (value_adds b g.1) c w (value k) (nil_value k h) s)
      form_copied_adds p n (suffix a (field dot x q)) g e c w k h s = used_adds n (suffix a (field dot x q)) w _ k s _ e (dot_found Copied p q n a x (place_adds Read a g.0 g.1) c w (value k) (nil_value k h) s)
      form_copied_adds p n (suffix a (field arrow x q)) g e c w k h s = used_adds n (suffix a (field arrow x q)) w _ k s _ e (arrow_found Copied p q n a x (value_adds a g) c w (value k) (nil_value k h) s)
      form_copied_adds p n (leaf (number x)) g e c w k h s = absurd (true≢false (sym e))
      form_copied_adds p n (leaf (char b)) g e c w k h s = absurd (true≢false (sym e))
      form_copied_adds p n (leaf (str x)) g e c w k h s = absurd (true≢false (sym e))
      form_copied_adds p n (call x args) g e c w k h s = absurd (true≢false (sym e))
      form_copied_adds p n (prefix (unary front.AddressOf) a) g e c w k h s = absurd (true≢false (sym e))
      form_copied_adds p n (prefix (unary front.Plus) a) g e c w k h s = absurd (true≢false (sym e))
      form_copied_adds p n (prefix (unary front.Minus) a) g e c w k h s = absurd (true≢false (sym e))
      form_copied_adds p n (prefix (unary front.Flip) a) g e c w k h s = absurd (true≢false (sym e))
      form_copied_adds p n (prefix (unary front.Not) a) g e c w k h s = absurd (true≢false (sym e))
      form_copied_adds p n (prefix (before u) a) g e c w k h s = absurd (true≢false (sym e))
      form_copied_adds p n (prefix size_of a) g e c w k h s = absurd (true≢false (sym e))
      form_copied_adds p n (size_of_type y) g e c w k h s = absurd (true≢false (sym e))
      form_copied_adds p n (cast y a) g e c w k h s = absurd (true≢false (sym e))
      form_copied_adds p n (suffix a (behind u)) g e c w k h s = absurd (true≢false (sym e))
      form_copied_adds p n (two u a b) g e c w k h s = absurd (true≢false (sym e))
      form_copied_adds p n (choose a b d) g e c w k h s = absurd (true≢false (sym e))
      form_copied_adds p n (probe u a) g e c w k h s = absurd g

      arguments_adds : (args : NodeShapes) → AreOrderly args → (ts : List TypeOf) (c : Around) (w : Walked) (k : Comes) → k [] → (s : State) → Adds P F (nodes_go P.tables c args w k) s (arguments P.tables kn args ts (heard c w) s) (λ vs. k)
      arguments_adds no_nodes g ts c w k h s = adds_still P F k s _ _ (λ w p. p)
      arguments_adds (more_nodes a rest) g ts c w k h s =
          let back = nodes_nil P.tables c rest (walk_node c Read a w) k h in
          adds_then P F _ s _ _ _ _ (wanted a (value_adds a g.0) c w _ back s) (λ v s.
          adds_then P F _ s _ _ _ _ (arguments_adds rest g.1 (drop 1 ts) c (walk_node c Read a w) k h s) (λ vs s. adds_still P F k s _ _ (λ w p. p)))
