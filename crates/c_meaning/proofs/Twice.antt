-- What an expression gives over two knots that agree on states with fewer turns is the same.
use Rattle.std.proofs.Common.{◌≡◌, ℕ, suc, ◌<◌, pos, List, [], ◌∷◌, drop, Option, Some, None, Bool, true, false, refl, arith}
use Rattle.std.specs.Prelude.{is_some, if◌then◌else◌}
use Rattle.c_base.specs.declared.place.Pos.{Pos}
use Rattle.c_syntax.specs.declared.text.Text.{Text}
use Rattle.c_syntax.specs.declared.tree.UnaryOp.{UnaryOp}
use Rattle.c_syntax.specs.declared.tree.UnaryOp.TheVariants as front
use Rattle.c_syntax.specs.Shape.{TypeOf, int, pointer, array, structure, nothing, NoteShape, bare, typed, known, Leaf, number, char, str, name, Step, unary, before, size_of, plain, and, or, assign, comma, dot, arrow, NodeShape, node, ExprShape, leaf, paren, call, prefix, size_of_type, cast, suffix, two, choose, probe, index, field, behind, simple, select, block, test, used, def, NodeShapes, no_nodes, more_nodes}
use Rattle.c_constants.specs.Numbers.{number_of}
use Rattle.c_store.specs.declared.value.Value.{Value}
use Rattle.c_store.specs.declared.value.Value.TheVariants.{Int}
use Rattle.c_arith.specs.Arith.{truth}
use Rattle.c_store.specs.declared.value.Pointer.{Pointer}
use Rattle.c_tables.specs.Tables.{FunctionShape, TablesShape}
use Rattle.c_tables.specs.Rows.{row}
use Rattle.c_walk.specs.declared.around.Taken.{Taken}
use Rattle.c_walk.specs.declared.around.Taken.TheVariants.{Read, Written, Changed, Copied, Addressed}
use Rattle.c_walk.specs.Places.{holds_structure}
use Rattle.c_meaning.specs.State.{State}
use Rattle.c_meaning.specs.Results.{Got, then_do, settled, needed}
use Rattle.c_meaning.specs.Operators.{is_true, operated, stepped_by_one, element_pointer, of_one, target, pointed}
use Rattle.c_meaning.specs.Firsts.{First, noted_block, noted_test, noted_outcome, at_test, at_arm, behind_test, behind_arm, quiet, heard}
use Rattle.c_meaning.specs.Places.{marks, fetched}
use Rattle.c_meaning.specs.Constants.{type_at, kind_noted}
use Rattle.c_meaning.specs.Knot.{Loop, Knot}
use Rattle.c_meaning.specs.Builtins.{called, called_row, params_of}
use Rattle.c_meaning.specs.Expressions.{Meaning, as_value, as_place, gives, operand, name_meaning, leaf_meaning, cast_value, tested, arm, last_test, assigned, step_value, meaning, form_meaning, arguments}
use Rattle.c_meaning.proofs.Alike.{Alike, alike_same, left_then, alike_then, if_alike, alike_turn, settled_left, needed_alike, logs_alike, logs_left, block_turns}
use Rattle.c_meaning.proofs.Copies.{copied_left}
use Rattle.c_meaning.proofs.Fewer.{loaded_left, fetched_left, variable_left, field_left, written_left, stepped_left, number_left, literal_left, noted_left, built_in_left}

-- on states with fewer than n turns
pub record Same (n : ℕ) (k l : Knot) : Type 0 where
  pub call_same : (f : ℕ) (vs : List Value) (s : State) → s.turns < n → Alike n (k.call f vs s) (l.call f vs s)
  pub again_same : (lp : Loop) (s : State) → s.turns < n → Alike n (k.again lp s) (l.again lp s)

-- an expression takes a turn at least
pub record Twice (n : ℕ) (a b : Meaning) : Type 0 where
  pub value_alike : (i : First) (s : State) → s.turns < suc n → Alike n (a.value i s) (b.value i s)
  pub place_alike : (r : Taken) (i : First) (s : State) → s.turns < suc n → Alike n (a.place r i s) (b.place r i s)

-- ---- forms of meanings

value_twice : (n : ℕ) (g h : First → State → Got (Option Value)) → ((i : First) (s : State) → s.turns < n → Alike n (g i s) (h i s)) → Twice n (as_value g) (as_value h)
value_twice n g h go = record {
  value_alike = λ i s lt. alike_turn n s (g i) (h i) lt (λ s lt. go i s lt);
  place_alike = λ r i s lt. alike_same n _ tt;
}

place_twice : (t : TablesShape) (n : ℕ) (m : NoteShape) (xs : List Text) (g h : Taken → First → State → Got Pointer) → ((r : Taken) (i : First) (s : State) → s.turns < suc n → Alike n (g r i s) (h r i s)) → Twice n (as_place t m xs g) (as_place t m xs h)
place_twice t n m xs g h go = record {
  value_alike = λ i s lt. alike_then n (g Read i s) (h Read i s) (fetched t m xs i) (fetched t m xs i) (go Read i s lt) (λ q s lt. alike_same n _ (fetched_left t n m xs i q s lt));
  place_alike = go;
}

name_twice : (t : TablesShape) (n : ℕ) (m : NoteShape) → Twice n (name_meaning t m) (name_meaning t m)
name_twice t n (typed k (Some v)) = place_twice t n (typed k (Some v)) [] _ _ (λ r i s lt. alike_turn n s _ _ lt (λ s lt. alike_same n _ (variable_left t n k v s lt)))
name_twice t n (typed k None) = value_twice n _ _ (λ i s lt. alike_same n _ tt)
name_twice t n (known k v) = value_twice n _ _ (λ i s lt. alike_same n _ lt)
name_twice t n bare = value_twice n _ _ (λ i s lt. alike_same n _ tt)

leaf_twice : (t : TablesShape) (n : ℕ) (m : NoteShape) (l : Leaf) → Twice n (leaf_meaning t m l) (leaf_meaning t m l)
leaf_twice t n m (number x) = value_twice n _ _ (λ i s lt. alike_same n _ (number_left n (number_of x) s lt))
leaf_twice t n m (char c) = value_twice n _ _ (λ i s lt. alike_same n _ lt)
leaf_twice t n m (str x) = value_twice n _ _ (λ i s lt. alike_same n _ (literal_left n m x s lt))
leaf_twice t n m (name x) = name_twice t n m

-- ---- parts of operators

cast_alike : (n : ℕ) (y : TypeOf) (r q : Got (Option Value)) → Alike n r q → Alike n (cast_value y r) (cast_value y q)
cast_alike n nothing r q al = alike_then n r q _ _ al (λ v s lt. alike_same n _ lt)
cast_alike n (int k) r q al = alike_then n _ _ _ _ (needed_alike n r q al) (λ v s lt. alike_same n _ lt)
cast_alike n (pointer k) r q al = alike_then n _ _ _ _ (needed_alike n r q al) (λ v s lt. alike_same n _ lt)
cast_alike n (array k m) r q al = alike_then n _ _ _ _ (needed_alike n r q al) (λ v s lt. alike_same n _ lt)
cast_alike n (structure m) r q al = alike_then n _ _ _ _ (needed_alike n r q al) (λ v s lt. alike_same n _ lt)

pub outcome_turns : (i : First) (o : ℕ) (s : State) → (noted_outcome i o s).turns ≡ s.turns
outcome_turns (quiet m) o s = refl
outcome_turns (heard c w) o s = refl

pick_turns : (b : Bool) (s q : State) → s.turns ≡ q.turns → (if b then q else s).turns ≡ q.turns
pick_turns true s q e = refl
pick_turns false s q e = e

test_turns : (a : NodeShape) (i : First) (b : Bool) (s : State) → (noted_test a i b s).turns ≡ s.turns
test_turns a (quiet m) b s = refl
test_turns a (heard c w) b s = pick_turns _ _ s refl

pub tested_alike : (n : ℕ) (a : NodeShape) (m m' : Meaning) → Twice n m m' → (i : First) (s : State) → s.turns < suc n → Alike n (tested a m i s) (tested a m' i s)
tested_alike n a m m' tw i s lt =
    alike_then n _ _ _ _ (needed_alike n _ _ (tw.value_alike (at_test a i) s lt)) (λ v s lt. alike_same n _ (omega (arith, test_turns a i (is_true v) s)))

pub arm_alike : {A : Type 0} (n m : ℕ) (a : NodeShape) (i : First) (s : State) (g h : First → State → Got A) → s.turns < m → ((j : First) (s : State) → s.turns < m → Alike n (g j s) (h j s)) → Alike n (arm a i s g) (arm a i s h)
arm_alike n m a i s g h lt go = go (at_arm a i) (noted_block true i s) (omega (arith, block_turns true i s))

last_alike : (n : ℕ) (a : NodeShape) (m m' : Meaning) → Twice n m m' → (i : First) (s : State) → s.turns < suc n → Alike n (last_test a m i s) (last_test a m' i s)
last_alike n a m m' tw i s lt =
    arm_alike n (suc n) a i s (λ j s. then_do (tested a m j s) (λ x. gives (Int (truth x)))) (λ j s. then_do (tested a m' j s) (λ x. gives (Int (truth x)))) lt
    (λ j s lt. alike_then n _ _ _ _ (tested_alike n a m m' tw j s lt) (λ x s lt. alike_same n (gives (Int (truth x)) s) lt))

assigned_alike : (n : ℕ) (copies : Bool) (y : TypeOf) (ds us : List Text) (m m' : Meaning) → Twice n m m' → (i j : First) (q : Pointer) (s : State) → s.turns < n → Alike n (assigned copies y ds us m i j q s) (assigned copies y ds us m' i j q s)
assigned_alike n true y ds us m m' tw i j q s lt = alike_then n _ _ _ _ (tw.place_alike Copied j s (omega arith)) (λ r s lt. alike_same n _ (copied_left n ds us i j q r s lt))
assigned_alike n false y xs us m m' tw i j q s lt = alike_then n _ _ _ _ (needed_alike n _ _ (tw.value_alike j s (omega arith))) (λ v s lt. alike_same n _ (written_left n y xs i q v s lt))

step_alike : (n : ℕ) (f : Bool) (u : Step) (a : NodeShape) (m m' : Meaning) → Twice n m m' → (i : First) (s : State) → s.turns < n → Alike n (step_value f u a m i s) (step_value f u a m' i s)
step_alike n f u a m m' tw i s lt =
    alike_then n _ _ _ _ (tw.place_alike Changed i s (omega arith)) (λ q s lt. alike_same n _
    (left_then n _ _ (loaded_left n (marks used a) i q s lt) (λ x s lt.
    left_then n _ _ (settled_left n (stepped_by_one u (operand a) x) s lt) (λ v s lt.
    left_then n _ _ (written_left n (type_at a) (marks def a) i q v s lt) (λ v s lt. stepped_left n f x v s lt)))))

row_alike : (n : ℕ) (k l : Knot) → Same n k l → (f : ℕ) (r : Option FunctionShape) (vs : List Value) (s : State) → s.turns < n → Alike n (called_row k f r vs s) (called_row l f r vs s)
row_alike n k l same f None vs s lt = alike_same n _ tt
row_alike n k l same f (Some r) vs s lt = if_alike n (is_some r.defined) _ _ _ _ (same.call_same f vs s lt) (alike_same n _ (built_in_left n r.name vs s lt))

called_alike : (t : TablesShape) (n : ℕ) (k l : Knot) → Same n k l → (m : NoteShape) (vs : List Value) (s : State) → s.turns < n → Alike n (called t k m vs s) (called t l m vs s)
called_alike t n k l same (typed y (Some f)) vs s lt = row_alike n k l same f (row t.functions f) vs s lt
called_alike t n k l same (typed y None) vs s lt = alike_same n _ tt
called_alike t n k l same (known y v) vs s lt = alike_same n _ tt
called_alike t n k l same bare vs s lt = alike_same n _ tt

unary_twice : (n : ℕ) (u : UnaryOp) (y : TypeOf) (m m' : Meaning) → Twice n m m' → Twice n (as_value (λ i s. then_do (needed (m.value i s)) (λ v s. then_do (settled (of_one u y v) s) gives))) (as_value (λ i s. then_do (needed (m'.value i s)) (λ v s. then_do (settled (of_one u y v) s) gives)))
unary_twice n u y m m' tw = value_twice n _ _ (λ i s lt. alike_then n _ _ _ _ (needed_alike n _ _ (tw.value_alike i s (omega arith))) (λ v s lt. alike_same n _ (left_then n _ _ (settled_left n (of_one u y v) s lt) (λ v s lt. lt))))

-- ---- expressions

module _ (t : TablesShape) (n : ℕ) (k l : Knot) (same : Same n k l) where
  mutual
    pub node_twice : (e : NodeShape) → Twice n (meaning t k e) (meaning t l e)
    node_twice (node p o m f) = form_twice p m f

    form_twice : (p : Pos) (m : NoteShape) (f : ExprShape) → Twice n (form_meaning t k p m f) (form_meaning t l p m f)
    form_twice p m (leaf x) = leaf_twice t n m x
    form_twice p m (paren a) = node_twice a
    form_twice p m (call x args) = value_twice n _ _ (λ i s lt. alike_then n _ _ _ _ (arguments_alike args (params_of t m) i s lt) (λ vs s lt. called_alike t n k l same m vs s lt))
    form_twice p m (prefix (unary front.AddressOf) a) = value_twice n _ _ (λ i s lt. alike_then n _ _ _ _ ((node_twice a).place_alike Addressed i s (omega arith)) (λ q s lt. alike_same n _ lt))
    form_twice p m (prefix (unary front.Deref) a) = place_twice t n m [] _ _ (λ r i s lt. alike_turn n s _ _ lt (λ s lt. alike_then n _ _ _ _ (needed_alike n _ _ ((node_twice a).value_alike _ s (omega arith))) (λ v s lt. alike_same n _ (settled_left n (target v) s lt))))
    form_twice p m (prefix (unary front.Plus) a) = unary_twice n front.Plus (operand a) _ _ (node_twice a)
    form_twice p m (prefix (unary front.Minus) a) = unary_twice n front.Minus (operand a) _ _ (node_twice a)
    form_twice p m (prefix (unary front.Flip) a) = unary_twice n front.Flip (operand a) _ _ (node_twice a)
    form_twice p m (prefix (unary front.Not) a) = unary_twice n front.Not (operand a) _ _ (node_twice a)
    form_twice p m (prefix (before u) a) = value_twice n _ _ (λ i s lt. step_alike n true u a _ _ (node_twice a) i s lt)
    form_twice p m (prefix size_of a) = value_twice n _ _ (λ i s lt. alike_same n _ (noted_left n m s lt))
    form_twice p m (size_of_type y) = value_twice n _ _ (λ i s lt. alike_same n _ (noted_left n m s lt))
    form_twice p m (cast y a) = value_twice n _ _ (λ i s lt. cast_alike n (kind_noted m) _ _ ((node_twice a).value_alike i s (omega arith)))
    form_twice p m (suffix a (index b)) = place_twice t n m [] _ _ (λ r i s lt. alike_turn n s _ _ lt (λ s lt.
        alike_then n _ _ _ _ (needed_alike n _ _ ((node_twice a).value_alike _ s (omega arith))) (λ v s lt.
        alike_then n _ _ _ _ (needed_alike n _ _ ((node_twice b).value_alike _ s (omega arith))) (λ w s lt.
        alike_same n _ (left_then n _ _ (settled_left n (element_pointer (operand a) (operand b) v w) s lt) (λ v s lt. settled_left n (target v) s lt))))))
    form_twice p m (suffix a (field dot x q)) = place_twice t n m [] _ _ (λ r i s lt. alike_turn n s _ _ lt (λ s lt.
        alike_then n _ _ _ _ ((node_twice a).place_alike Read _ s (omega arith)) (λ q s lt. alike_same n _ (field_left t n x (type_at a) q s lt))))
    form_twice p m (suffix a (field arrow x q)) = place_twice t n m [] _ _ (λ r i s lt. alike_turn n s _ _ lt (λ s lt.
        alike_then n _ _ _ _ (needed_alike n _ _ ((node_twice a).value_alike _ s (omega arith))) (λ v s lt.
        alike_same n _ (left_then n _ _ (settled_left n (target v) s lt) (λ q s lt. field_left t n x (pointed (operand a)) q s lt)))))
    form_twice p m (suffix a (behind u)) = value_twice n _ _ (λ i s lt. step_alike n false u a _ _ (node_twice a) i s lt)
    form_twice p m (two (plain u) a b) = value_twice n _ _ (λ i s lt.
        alike_then n _ _ _ _ (needed_alike n _ _ ((node_twice a).value_alike i s (omega arith))) (λ v s lt.
        alike_then n _ _ _ _ (needed_alike n _ _ ((node_twice b).value_alike _ s (omega arith))) (λ w s lt.
        alike_same n _ (left_then n _ _ (settled_left n (operated u (operand a) (operand b) v w) s lt) (λ v s lt. lt)))))
    form_twice p m (two and a b) = value_twice n _ _ (λ i s lt.
        alike_then n _ _ _ _ (tested_alike n a _ _ (node_twice a) i s (omega arith)) (λ x s lt.
        if_alike n x _ _ (gives (Int (pos 0)) s) (gives (Int (pos 0)) s) (last_alike n b _ _ (node_twice b) (behind_test a i) s (omega arith)) (alike_same n _ lt)))
    form_twice p m (two or a b) = value_twice n _ _ (λ i s lt.
        alike_then n _ _ _ _ (tested_alike n a _ _ (node_twice a) i s (omega arith)) (λ x s lt.
        if_alike n x (gives (Int (pos 1)) s) (gives (Int (pos 1)) s) _ _ (alike_same n _ lt) (last_alike n b _ _ (node_twice b) (behind_test a i) s (omega arith))))
    form_twice p m (two (assign None) a b) = value_twice n _ _ (λ i s lt.
        alike_then n _ _ _ _ ((node_twice a).place_alike Written i s (omega arith)) (λ q s lt. assigned_alike n (holds_structure a) (type_at a) (marks def a) (marks used b) _ _ (node_twice b) i _ q s lt))
    form_twice p m (two (assign (Some u)) a b) = value_twice n _ _ (λ i s lt.
        alike_then n _ _ _ _ ((node_twice a).place_alike Changed i s (omega arith)) (λ q s lt.
        alike_then n _ _ _ _ (alike_same n _ (loaded_left n (marks used a) i q s lt)) (λ x s lt.
        alike_then n _ _ _ _ (needed_alike n _ _ ((node_twice b).value_alike _ s (omega arith))) (λ y s lt.
        alike_same n _ (left_then n _ _ (settled_left n (operated u (operand a) (operand b) x y) s lt) (λ v s lt. written_left n (type_at a) (marks def a) i q v s lt))))))
    form_twice p m (two comma a b) = record {
      value_alike = λ i s lt. alike_turn n s _ _ lt (λ s lt. alike_then n _ _ _ _ ((node_twice a).value_alike i s (omega arith)) (λ v s lt. (node_twice b).value_alike _ s (omega arith)));
      place_alike = λ r i s lt. alike_turn n s _ _ lt (λ s lt. alike_then n _ _ _ _ ((node_twice a).value_alike i s (omega arith)) (λ v s lt. (node_twice b).place_alike Read _ s (omega arith)));
    }
    form_twice p m (choose a b c) = value_twice n _ _ (λ i s lt.
        alike_then n _ _ _ _ (tested_alike n a _ _ (node_twice a) i s (omega arith)) (λ x s lt.
        alike_then n _ _ _ _
        (if_alike n x _ _ _ _ (arm_alike n (suc n) b (behind_test a i) s _ _ (omega arith) (λ j s lt. (node_twice b).value_alike j s lt)) (arm_alike n (suc n) c (behind_arm b (behind_test a i)) s _ _ (omega arith) (λ j s lt. (node_twice c).value_alike j s lt)))
        (λ v s lt. alike_same n _ lt)))
    form_twice p m (probe (simple block x) a) = record {
      value_alike = λ i s lt. logs_alike n (suc n) _ (x ∷ []) s _ _ (λ m s. refl) lt (λ s lt. (node_twice a).value_alike i s lt);
      place_alike = λ r i s lt. logs_alike n (suc n) _ (x ∷ []) s _ _ (λ m s. refl) lt (λ s lt. (node_twice a).place_alike r i s lt);
    }
    form_twice p m (probe (simple test x) a) = record {
      value_alike = λ i s lt. alike_then n _ _ _ _ (needed_alike n _ _ ((node_twice a).value_alike i s lt)) (λ v s lt. alike_same n _ (logs_left n _ (x ∷ []) s _ (λ m s. refl) lt (λ s lt. lt)));
      place_alike = λ r i s lt. alike_same n _ tt;
    }
    form_twice p m (probe (simple used x) a) = place_twice t n m _ _ _ (λ r i s lt. (node_twice a).place_alike r i s lt)
    form_twice p m (probe (simple def x) a) = place_twice t n m _ _ _ (λ r i s lt. (node_twice a).place_alike r i s lt)
    form_twice p m (probe (select x cs) a) = record {
      value_alike = λ i s lt. alike_then n _ _ _ _ (needed_alike n _ _ ((node_twice a).value_alike i s lt)) (λ v s lt. alike_same n _ (logs_left n _ (x ∷ []) s _ (λ m s. refl) lt (λ s lt. lt)));
      place_alike = λ r i s lt. alike_same n _ tt;
    }

    arguments_alike : (es : NodeShapes) (ts : List TypeOf) (i : First) (s : State) → s.turns < n → Alike n (arguments t k es ts i s) (arguments t l es ts i s)
    arguments_alike no_nodes ts i s lt = alike_same n _ lt
    arguments_alike (more_nodes a rest) ts i s lt =
        alike_then n _ _ _ _ (needed_alike n _ _ ((node_twice a).value_alike i s (omega arith))) (λ v s lt.
        alike_then n _ _ _ _ (arguments_alike rest (drop 1 ts) _ s lt) (λ vs s lt. alike_same n _ lt))
