-- What leaves names as they were, expressions leave so.
use Rattle.std.proofs.Common.{refl, ℕ, List, [], ◌∷◌, drop, Option, Some, None, Bool, true, false}
use Rattle.std.specs.Prelude.{is_some}
use Rattle.c_base.specs.declared.place.Pos.{Pos}
use Rattle.c_arith.specs.Arith.{truth}
use Rattle.c_syntax.specs.declared.text.Text.{Text}
use Rattle.c_syntax.specs.declared.tree.UnaryOp.{UnaryOp}
use Rattle.c_syntax.specs.declared.tree.UnaryOp.TheVariants as front
use Rattle.c_syntax.specs.Shape.{TypeOf, int, pointer, array, structure, nothing, NoteShape, bare, typed, known, Leaf, number, char, str, name, Step, unary, before, size_of, plain, and, or, assign, comma, dot, arrow, NodeShape, node, ExprShape, leaf, paren, call, prefix, size_of_type, cast, suffix, two, choose, probe, index, field, behind, simple, select, block, test, used, def, NodeShapes, no_nodes, more_nodes}
use Rattle.c_constants.specs.Numbers.{number_of}
use Rattle.c_store.specs.declared.value.Value.{Value}
use Rattle.c_store.specs.declared.value.Value.TheVariants.{Int}
use Rattle.c_store.specs.declared.value.Pointer.{Pointer}
use Rattle.c_tables.specs.Tables.{FunctionShape, TablesShape}
use Rattle.c_tables.specs.Rows.{row}
use Rattle.c_walk.specs.declared.around.Taken.{Taken}
use Rattle.c_walk.specs.declared.around.Taken.TheVariants.{Read, Written, Changed, Copied, Addressed}
use Rattle.c_walk.specs.Places.{holds_structure}
use Rattle.c_meaning.specs.State.{State}
use Rattle.c_meaning.specs.Results.{Got, Gives, then_do, settled, needed}
use Rattle.c_meaning.specs.Operators.{is_true, operated, stepped_by_one, element_pointer, of_one, target, pointed}
use Rattle.c_meaning.specs.Firsts.{First, at_test, at_arm, behind_test, behind_arm, noted_block}
use Rattle.c_meaning.specs.Places.{marks, fetched}
use Rattle.c_meaning.specs.Constants.{type_at, kind_noted}
use Rattle.c_meaning.specs.Knot.{Knot}
use Rattle.c_meaning.specs.Builtins.{called, called_row, params_of}
use Rattle.c_meaning.specs.Expressions.{Meaning, as_value, as_place, gives, operand, name_meaning, leaf_meaning, cast_value, tested, arm, last_test, assigned, step_value, meaning, form_meaning, arguments}
use Rattle.flow_names.proofs.Steps.{Leaves, Follows, stays, same, at_rest, behind_step, then_kept, if_kept, turn_kept, settled_kept, needed_kept, logs_kept, block_kept, test_kept, loaded_kept, fetched_kept, variable_kept, field_kept, written_kept, stepped_kept, number_kept, literal_kept, noted_kept, built_in_kept}
use Rattle.flow_names.proofs.Copied.{copied_kept}

-- an expression leaves it so, as a value and as a place
pub record Steady (R : State → State → Type 0) (m : Meaning) : Type 0 where
  pub value_steady : (i : First) (s : State) → Leaves R s (m.value i s)
  pub place_steady : (r : Taken) (i : First) (s : State) → Leaves R s (m.place r i s)

-- and each call does
pub record Keeping (R : State → State → Type 0) (k : Knot) : Type 0 where
  pub call_keeps : (f : ℕ) (vs : List Value) (s : State) → Leaves R s (k.call f vs s)

module _ (R : State → State → Type 0) (lasts : Follows R) where
  still : {A : Type 0} (a : A) (s : State) → Leaves R s (Gives a s)
  still a s = at_rest R lasts _ _ (same R lasts s)

  value_steadies : (g : First → State → Got (Option Value)) → ((i : First) (s : State) → Leaves R s (g i s)) → Steady R (as_value g)
  value_steadies g go = record {
    value_steady = λ i s. turn_kept R lasts s (g i) (λ s. go i s);
    place_steady = λ r i s. at_rest R lasts _ _ (same R lasts s);
  }

  place_steadies : (t : TablesShape) (n : NoteShape) (xs : List Text) (g : Taken → First → State → Got Pointer) → ((r : Taken) (i : First) (s : State) → Leaves R s (g r i s)) → Steady R (as_place t n xs g)
  place_steadies t n xs g go = record {
    value_steady = λ i s. then_kept R lasts s (g Read i s) (fetched t n xs i) (go Read i s) (λ q s. fetched_kept R lasts t n xs i q s);
    place_steady = go;
  }

  name_steadies : (t : TablesShape) (n : NoteShape) → Steady R (name_meaning t n)
  name_steadies t (typed k (Some v)) = place_steadies t (typed k (Some v)) [] _ (λ r i s. turn_kept R lasts s _ (λ s. variable_kept R lasts t k v s))
  name_steadies t (typed k None) = value_steadies _ (λ i s. at_rest R lasts _ _ (same R lasts s))
  name_steadies t (known k v) = value_steadies _ (λ i s. at_rest R lasts _ _ (same R lasts s))
  name_steadies t bare = value_steadies _ (λ i s. at_rest R lasts _ _ (same R lasts s))

  leaf_steadies : (t : TablesShape) (n : NoteShape) (l : Leaf) → Steady R (leaf_meaning t n l)
  leaf_steadies t n (number x) = value_steadies _ (λ i s. number_kept R lasts (number_of x) s)
  leaf_steadies t n (char c) = value_steadies _ (λ i s. at_rest R lasts _ _ (same R lasts s))
  leaf_steadies t n (str x) = value_steadies _ (λ i s. literal_kept R lasts n x s)
  leaf_steadies t n (name x) = name_steadies t n

  -- ---- parts of operators

  cast_kept : (y : TypeOf) (s : State) (r : Got (Option Value)) → Leaves R s r → Leaves R s (cast_value y r)
  cast_kept nothing s r p = then_kept R lasts s r _ p (λ v s. still None s)
  cast_kept (int k) s r p = then_kept R lasts s _ _ (needed_kept R lasts s r p) (λ v s. still _ s)
  cast_kept (pointer k) s r p = then_kept R lasts s _ _ (needed_kept R lasts s r p) (λ v s. still _ s)
  cast_kept (array k n) s r p = then_kept R lasts s _ _ (needed_kept R lasts s r p) (λ v s. still _ s)
  cast_kept (structure n) s r p = then_kept R lasts s _ _ (needed_kept R lasts s r p) (λ v s. still _ s)

  pub tested_kept : (a : NodeShape) (m : Meaning) → Steady R m → (i : First) (s : State) → Leaves R s (tested a m i s)
  tested_kept a m st i s = then_kept R lasts s _ _ (needed_kept R lasts s _ (st.value_steady (at_test a i) s)) (λ v s. at_rest R lasts _ _ (test_kept R lasts a i (is_true v) s))

  pub arm_kept : {A : Type 0} (a : NodeShape) (i : First) (s : State) (g : First → State → Got A) → ((j : First) (s : State) → Leaves R s (g j s)) → Leaves R s (arm a i s g)
  arm_kept a i s g go = behind_step R lasts s (noted_block true i s) _ (block_kept R lasts true i s) (go (at_arm a i) (noted_block true i s))

  last_kept : (a : NodeShape) (m : Meaning) → Steady R m → (i : First) (s : State) → Leaves R s (last_test a m i s)
  last_kept a m st i s = arm_kept a i s (λ j s. then_do (tested a m j s) (λ x. gives (Int (truth x)))) (λ j s. then_kept R lasts s _ _ (tested_kept a m st j s) (λ x s. still _ s))

  assigned_kept : (copies : Bool) (y : TypeOf) (ds us : List Text) (m : Meaning) → Steady R m → (i j : First) (q : Pointer) (s : State) → Leaves R s (assigned copies y ds us m i j q s)
  assigned_kept true y ds us m st i j q s = then_kept R lasts s _ _ (st.place_steady Copied j s) (λ r s. copied_kept R lasts ds us i j q r s)
  assigned_kept false y xs us m st i j q s = then_kept R lasts s _ _ (needed_kept R lasts s _ (st.value_steady j s)) (λ v s. written_kept R lasts y xs i q v s)

  step_kept : (f : Bool) (u : Step) (a : NodeShape) (m : Meaning) → Steady R m → (i : First) (s : State) → Leaves R s (step_value f u a m i s)
  step_kept f u a m st i s =
      then_kept R lasts s _ _ (st.place_steady Changed i s) (λ q s.
      then_kept R lasts s _ _ (loaded_kept R lasts (marks used a) i q s) (λ x s.
      then_kept R lasts s _ _ (settled_kept R lasts (stepped_by_one u (operand a) x) s) (λ v s.
      then_kept R lasts s _ _ (written_kept R lasts (type_at a) (marks def a) i q v s) (λ v s. stepped_kept R lasts f x v s))))

  unary_steadies : (u : UnaryOp) (y : TypeOf) (m : Meaning) → Steady R m → Steady R (as_value (λ i s. then_do (needed (m.value i s)) (λ v s. then_do (settled (of_one u y v) s) gives)))
  unary_steadies u y m st = value_steadies _ (λ i s. then_kept R lasts s _ _ (needed_kept R lasts s _ (st.value_steady i s)) (λ v s. then_kept R lasts s _ _ (settled_kept R lasts (of_one u y v) s) (λ v s. still _ s)))

  row_kept : (k : Knot) → Keeping R k → (f : ℕ) (r : Option FunctionShape) (vs : List Value) (s : State) → Leaves R s (called_row k f r vs s)
  row_kept k keeps f None vs s = at_rest R lasts _ _ (same R lasts s)
  row_kept k keeps f (Some r) vs s = if_kept R lasts s (is_some r.defined) _ _ (keeps.call_keeps f vs s) (built_in_kept R lasts r.name vs s)

  called_kept : (t : TablesShape) (k : Knot) → Keeping R k → (n : NoteShape) (vs : List Value) (s : State) → Leaves R s (called t k n vs s)
  called_kept t k keeps (typed y (Some f)) vs s = row_kept k keeps f (row t.functions f) vs s
  called_kept t k keeps (typed y None) vs s = at_rest R lasts _ _ (same R lasts s)
  called_kept t k keeps (known y v) vs s = at_rest R lasts _ _ (same R lasts s)
  called_kept t k keeps bare vs s = at_rest R lasts _ _ (same R lasts s)

-- ---- expressions

module _ (R : State → State → Type 0) (lasts : Follows R) (t : TablesShape) (k : Knot) (keeps : Keeping R k) where
  mutual
    pub node_steady : (e : NodeShape) → Steady R (meaning t k e)
    node_steady (node p o n f) = form_steady p n f

    form_steady : (p : Pos) (n : NoteShape) (f : ExprShape) → Steady R (form_meaning t k p n f)
    form_steady p n (leaf x) = leaf_steadies R lasts t n x
    form_steady p n (paren a) = node_steady a
    form_steady p n (call x args) = value_steadies R lasts _ (λ i s. then_kept R lasts s _ _ (arguments_kept args (params_of t n) i s) (λ vs s. called_kept R lasts t k keeps n vs s))
    form_steady p n (prefix (unary front.AddressOf) a) = value_steadies R lasts _ (λ i s. then_kept R lasts s _ _ ((node_steady a).place_steady Addressed i s) (λ q s. still R lasts _ s))
    form_steady p n (prefix (unary front.Deref) a) = place_steadies R lasts t n [] _ (λ r i s. turn_kept R lasts s _ (λ s.
        then_kept R lasts s _ _ (needed_kept R lasts s _ ((node_steady a).value_steady _ s)) (λ v s. settled_kept R lasts (target v) s)))
    form_steady p n (prefix (unary front.Plus) a) = unary_steadies R lasts front.Plus (operand a) _ (node_steady a)
    form_steady p n (prefix (unary front.Minus) a) = unary_steadies R lasts front.Minus (operand a) _ (node_steady a)
    form_steady p n (prefix (unary front.Flip) a) = unary_steadies R lasts front.Flip (operand a) _ (node_steady a)
    form_steady p n (prefix (unary front.Not) a) = unary_steadies R lasts front.Not (operand a) _ (node_steady a)
    form_steady p n (prefix (before u) a) = value_steadies R lasts _ (λ i s. step_kept R lasts true u a _ (node_steady a) i s)
    form_steady p n (prefix size_of a) = value_steadies R lasts _ (λ i s. noted_kept R lasts n s)
    form_steady p n (size_of_type y) = value_steadies R lasts _ (λ i s. noted_kept R lasts n s)
    form_steady p n (cast y a) = value_steadies R lasts _ (λ i s. cast_kept R lasts (kind_noted n) s _ ((node_steady a).value_steady i s))
    form_steady p n (suffix a (index b)) = place_steadies R lasts t n [] _ (λ r i s. turn_kept R lasts s _ (λ s.
        then_kept R lasts s _ _ (needed_kept R lasts s _ ((node_steady a).value_steady _ s)) (λ v s.
        then_kept R lasts s _ _ (needed_kept R lasts s _ ((node_steady b).value_steady _ s)) (λ w s.
        then_kept R lasts s _ _ (settled_kept R lasts (element_pointer (operand a) (operand b) v w) s) (λ v s. settled_kept R lasts (target v) s)))))
    form_steady p n (suffix a (field dot x q)) = place_steadies R lasts t n [] _ (λ r i s. turn_kept R lasts s _ (λ s.
        then_kept R lasts s _ _ ((node_steady a).place_steady Read _ s) (λ q s. field_kept R lasts t x (type_at a) q s)))
    form_steady p n (suffix a (field arrow x q)) = place_steadies R lasts t n [] _ (λ r i s. turn_kept R lasts s _ (λ s.
        then_kept R lasts s _ _ (needed_kept R lasts s _ ((node_steady a).value_steady _ s)) (λ v s.
        then_kept R lasts s _ _ (settled_kept R lasts (target v) s) (λ q s. field_kept R lasts t x (pointed (operand a)) q s))))
    form_steady p n (suffix a (behind u)) = value_steadies R lasts _ (λ i s. step_kept R lasts false u a _ (node_steady a) i s)
    form_steady p n (two (plain u) a b) = value_steadies R lasts _ (λ i s.
        then_kept R lasts s _ _ (needed_kept R lasts s _ ((node_steady a).value_steady i s)) (λ v s.
        then_kept R lasts s _ _ (needed_kept R lasts s _ ((node_steady b).value_steady _ s)) (λ w s.
        then_kept R lasts s _ _ (settled_kept R lasts (operated u (operand a) (operand b) v w) s) (λ v s. still R lasts _ s))))
    form_steady p n (two and a b) = value_steadies R lasts _ (λ i s.
        then_kept R lasts s _ _ (tested_kept R lasts a _ (node_steady a) i s) (λ x s. if_kept R lasts s x _ _ (last_kept R lasts b _ (node_steady b) (behind_test a i) s) (still R lasts _ s)))
    form_steady p n (two or a b) = value_steadies R lasts _ (λ i s.
        then_kept R lasts s _ _ (tested_kept R lasts a _ (node_steady a) i s) (λ x s. if_kept R lasts s x _ _ (still R lasts _ s) (last_kept R lasts b _ (node_steady b) (behind_test a i) s)))
    form_steady p n (two (assign None) a b) = value_steadies R lasts _ (λ i s.
        then_kept R lasts s _ _ ((node_steady a).place_steady Written i s) (λ q s. assigned_kept R lasts (holds_structure a) (type_at a) (marks def a) (marks used b) _ (node_steady b) i _ q s))
    form_steady p n (two (assign (Some u)) a b) = value_steadies R lasts _ (λ i s.
        then_kept R lasts s _ _ ((node_steady a).place_steady Changed i s) (λ q s.
        then_kept R lasts s _ _ (loaded_kept R lasts (marks used a) i q s) (λ x s.
        then_kept R lasts s _ _ (needed_kept R lasts s _ ((node_steady b).value_steady _ s)) (λ y s.
        then_kept R lasts s _ _ (settled_kept R lasts (operated u (operand a) (operand b) x y) s) (λ v s. written_kept R lasts (type_at a) (marks def a) i q v s)))))
    form_steady p n (two comma a b) = record {
      value_steady = λ i s. turn_kept R lasts s _ (λ s. then_kept R lasts s _ _ ((node_steady a).value_steady i s) (λ v s. (node_steady b).value_steady _ s));
      place_steady = λ r i s. turn_kept R lasts s _ (λ s. then_kept R lasts s _ _ ((node_steady a).value_steady i s) (λ v s. (node_steady b).place_steady Read _ s));
    }
    form_steady p n (choose a b c) = value_steadies R lasts _ (λ i s.
        then_kept R lasts s _ _ (tested_kept R lasts a _ (node_steady a) i s) (λ x s.
        then_kept R lasts s _ _
        (if_kept R lasts s x _ _ (arm_kept R lasts b (behind_test a i) s (meaning t k b).value (λ j s. (node_steady b).value_steady j s)) (arm_kept R lasts c (behind_arm b (behind_test a i)) s (meaning t k c).value (λ j s. (node_steady c).value_steady j s)))
        (λ v s. still R lasts _ s)))
    form_steady p n (probe (simple block x) a) = record {
      value_steady = λ i s. logs_kept R lasts _ (x ∷ []) s _ (λ m s. stays R lasts s _ refl refl) (λ s. (node_steady a).value_steady i s);
      place_steady = λ r i s. logs_kept R lasts _ (x ∷ []) s _ (λ m s. stays R lasts s _ refl refl) (λ s. (node_steady a).place_steady r i s);
    }
    form_steady p n (probe (simple test x) a) = record {
      value_steady = λ i s. then_kept R lasts s _ _ (needed_kept R lasts s _ ((node_steady a).value_steady i s)) (λ v s. logs_kept R lasts _ (x ∷ []) s _ (λ m s. stays R lasts s _ refl refl) (λ s. still R lasts _ s));
      place_steady = λ r i s. at_rest R lasts _ _ (same R lasts s);
    }
    form_steady p n (probe (simple used x) a) = place_steadies R lasts t n _ _ (λ r i s. (node_steady a).place_steady r i s)
    form_steady p n (probe (simple def x) a) = place_steadies R lasts t n _ _ (λ r i s. (node_steady a).place_steady r i s)
    form_steady p n (probe (select x cs) a) = record {
      value_steady = λ i s. then_kept R lasts s _ _ (needed_kept R lasts s _ ((node_steady a).value_steady i s)) (λ v s. logs_kept R lasts _ (x ∷ []) s _ (λ m s. stays R lasts s _ refl refl) (λ s. still R lasts _ s));
      place_steady = λ r i s. at_rest R lasts _ _ (same R lasts s);
    }

    arguments_kept : (es : NodeShapes) (ts : List TypeOf) (i : First) (s : State) → Leaves R s (arguments t k es ts i s)
    arguments_kept no_nodes ts i s = still R lasts _ s
    arguments_kept (more_nodes a rest) ts i s =
        then_kept R lasts s _ _ (needed_kept R lasts s _ ((node_steady a).value_steady i s)) (λ v s.
        then_kept R lasts s _ _ (arguments_kept rest (drop 1 ts) _ s) (λ vs s. still R lasts _ s))
