-- A run of which nothing is told does what one does of which all is told: the same is written, it ends alike, in as many turns, and
-- probes log the same.
use Rattle.std.proofs.Common.{◌≡◌, ℕ, List, [], ◌∷◌, drop, Option, Some, None, Bool, true, false, ◌∙◌, refl, ap}
use Rattle.std.specs.Prelude.{pos, is_some}
use Rattle.c_base.specs.declared.place.Pos.{Pos}
use Rattle.c_arith.specs.Arith.{truth}
use Rattle.c_syntax.specs.declared.text.Text.{Text}
use Rattle.c_syntax.specs.declared.tree.UnaryOp.{UnaryOp}
use Rattle.c_syntax.specs.declared.tree.UnaryOp.TheVariants as front
use Rattle.c_syntax.specs.Shape.{TypeOf, int, pointer, array, structure, nothing, NoteShape, bare, typed, known, Leaf, number, char, str, name, Step, unary, before, size_of, plain, and, or, assign, comma, dot, arrow, NodeShape, node, ExprShape, leaf, paren, call, prefix, size_of_type, cast, suffix, two, choose, probe, index, field, behind, simple, select, block, test, used, def, NodeShapes, no_nodes, more_nodes}
use Rattle.c_constants.specs.Numbers.{number_of}
use Rattle.c_store.specs.declared.value.Value.{Value}
use Rattle.c_store.specs.declared.value.Value.TheVariants.{Int}
use Rattle.c_store.specs.declared.value.Pointer.{Pointer}
use Rattle.c_tables.specs.Tables.{FunctionShape, TablesShape}
use Rattle.c_tables.specs.Rows.{row}
use Rattle.c_walk.specs.declared.around.Taken.{Taken}
use Rattle.c_walk.specs.declared.around.Taken.TheVariants.{Read, Written, Changed, Copied, Addressed}
use Rattle.c_walk.specs.Places.{holds_structure}
use Rattle.c_meaning.specs.State.{State}
use Rattle.c_meaning.specs.Results.{Got, Gives, then_do, settled, needed}
use Rattle.c_meaning.specs.Operators.{is_true, operated, stepped_by_one, element_pointer, of_one, target, pointed}
use Rattle.c_meaning.specs.Firsts as firsts
use Rattle.c_meaning.specs.Firsts.{First, quiet, heard, within, at_test, at_arm, behind_test, behind_arm, noted_block, noted_test}
use Rattle.c_meaning.specs.Places.{marks, fetched}
use Rattle.c_meaning.specs.Constants.{type_at, kind_noted}
use Rattle.c_meaning.specs.Knot.{Loop, Knot}
use Rattle.c_meaning.specs.Builtins.{called, called_row, params_of}
use Rattle.c_meaning.specs.Expressions.{Meaning, as_value, as_place, gives, operand, name_meaning, leaf_meaning, cast_value, tested, arm, last_test, assigned, step_value, meaning, form_meaning, arguments}
use Rattle.c_meaning.proofs.Copies.{copied_hush}
use Rattle.c_meaning.proofs.Hushed.{hush, hushed, hush_then, hush_turn, hush_if, hush_settled, hush_needed, hush_logs, block_hush, test_hush, loaded_hush, fetched_hush, variable_hush, field_hush, written_hush, stepped_hush, number_hush, literal_hush, noted_hush, built_in_hush}

-- what stands before a node, where nothing is told
abbrev pub quieted : First → First
quieted (quiet n) = quiet n
quieted (heard c w) = quiet w.variables

abbrev pub quiet_loop : Loop → Loop
quiet_loop l = record l { at_test = quieted l.at_test; at_body = quieted l.at_body; at_step = quieted l.at_step }

-- the first knot does quietly what the other does
pub record Follows (k l : Knot) : Type 0 where
  pub call_follows : (f : ℕ) (vs : List Value) (s : State) → k.call f vs (hush s) ≡ hushed (l.call f vs s)
  pub again_follows : (lp : Loop) (s : State) → k.again (quiet_loop lp) (hush s) ≡ hushed (l.again lp s)

-- so does an expression, wherever it stands
pub record Quiets (a b : Meaning) : Type 0 where
  pub value_quiet : (m : ℕ) (i : First) (s : State) → a.value (quiet m) (hush s) ≡ hushed (b.value i s)
  pub place_quiet : (r : Taken) (m : ℕ) (i : First) (s : State) → a.place r (quiet m) (hush s) ≡ hushed (b.place r i s)

-- ---- forms of meanings

value_quiets : (g h : First → State → Got (Option Value)) → ((m : ℕ) (i : First) (s : State) → g (quiet m) (hush s) ≡ hushed (h i s)) → Quiets (as_value g) (as_value h)
value_quiets g h go = record {
  value_quiet = λ m i s. hush_turn s (g (quiet m)) (h i) (λ s. go m i s);
  place_quiet = λ r m i s. refl;
}

place_quiets : (t : TablesShape) (n : NoteShape) (xs : List Text) (g h : Taken → First → State → Got Pointer) → ((r : Taken) (m : ℕ) (i : First) (s : State) → g r (quiet m) (hush s) ≡ hushed (h r i s)) → Quiets (as_place t n xs g) (as_place t n xs h)
place_quiets t n xs g h go = record {
  value_quiet = λ m i s. hush_then (g Read (quiet m) (hush s)) (h Read i s) (fetched t n xs (quiet m)) (fetched t n xs i) (go Read m i s) (λ q s. fetched_hush t n xs m i q s);
  place_quiet = go;
}

name_quiets : (t : TablesShape) (n : NoteShape) → Quiets (name_meaning t n) (name_meaning t n)
name_quiets t (typed k (Some v)) = place_quiets t (typed k (Some v)) [] _ _ (λ r m i s. hush_turn s _ _ (λ s. variable_hush t k v s))
name_quiets t (typed k None) = value_quiets _ _ (λ m i s. refl)
name_quiets t (known k v) = value_quiets _ _ (λ m i s. refl)
name_quiets t bare = value_quiets _ _ (λ m i s. refl)

leaf_quiets : (t : TablesShape) (n : NoteShape) (l : Leaf) → Quiets (leaf_meaning t n l) (leaf_meaning t n l)
leaf_quiets t n (number x) = value_quiets _ _ (λ m i s. number_hush (number_of x) s)
leaf_quiets t n (char c) = value_quiets _ _ (λ m i s. refl)
leaf_quiets t n (str x) = value_quiets _ _ (λ m i s. literal_hush n x s)
leaf_quiets t n (name x) = name_quiets t n

-- ---- parts of operators

cast_quiet : (y : TypeOf) (q r : Got (Option Value)) → q ≡ hushed r → cast_value y q ≡ hushed (cast_value y r)
cast_quiet nothing q r e = hush_then q r _ _ e (λ v s. refl)
cast_quiet (int k) q r e = hush_then _ _ _ _ (hush_needed q r e) (λ v s. refl)
cast_quiet (pointer k) q r e = hush_then _ _ _ _ (hush_needed q r e) (λ v s. refl)
cast_quiet (array k n) q r e = hush_then _ _ _ _ (hush_needed q r e) (λ v s. refl)
cast_quiet (structure n) q r e = hush_then _ _ _ _ (hush_needed q r e) (λ v s. refl)

pub tested_quiet : (a : NodeShape) (x y : Meaning) → Quiets x y → (m : ℕ) (i : First) (s : State) → tested a x (quiet m) (hush s) ≡ hushed (tested a y i s)
tested_quiet a x y qs m i s = hush_then _ _ _ _ (hush_needed _ _ (qs.value_quiet m (at_test a i) s)) (λ v s. ap (Gives (is_true v)) (test_hush a i (is_true v) s))

pub arm_quiet : {A : Type 0} (a : NodeShape) (m : ℕ) (i : First) (s : State) (g h : First → State → Got A) → ((j : First) (s : State) → g (quiet m) (hush s) ≡ hushed (h j s)) → arm a (quiet m) (hush s) g ≡ hushed (arm a i s h)
arm_quiet a m i s g h go = ap (g (quiet m)) (block_hush true i s) ∙ go (at_arm a i) (noted_block true i s)

last_quiet : (a : NodeShape) (x y : Meaning) → Quiets x y → (m : ℕ) (i : First) (s : State) → last_test a x (quiet m) (hush s) ≡ hushed (last_test a y i s)
last_quiet a x y qs m i s =
    arm_quiet a m i s (λ j s. then_do (tested a x j s) (λ b. gives (Int (truth b)))) (λ j s. then_do (tested a y j s) (λ b. gives (Int (truth b)))) (λ j s. hush_then _ _ _ _ (tested_quiet a x y qs m j s) (λ b s. refl))

assigned_quiet : (copies : Bool) (k : TypeOf) (ds us : List Text) (x y : Meaning) → Quiets x y → (m m' : ℕ) (i j : First) (q : Pointer) (s : State) → assigned copies k ds us x (quiet m) (quiet m') q (hush s) ≡ hushed (assigned copies k ds us y i j q s)
assigned_quiet true k ds us x y qs m m' i j q s = hush_then _ _ _ _ (qs.place_quiet Copied m' j s) (λ r s. copied_hush ds us m m' i j q r s)
assigned_quiet false k ds us x y qs m m' i j q s = hush_then _ _ _ _ (hush_needed _ _ (qs.value_quiet m' j s)) (λ v s. written_hush k ds m i q v s)

step_quiet : (f : Bool) (u : Step) (a : NodeShape) (x y : Meaning) → Quiets x y → (m : ℕ) (i : First) (s : State) → step_value f u a x (quiet m) (hush s) ≡ hushed (step_value f u a y i s)
step_quiet f u a x y qs m i s =
    hush_then _ _ _ _ (qs.place_quiet Changed m i s) (λ q s.
    hush_then _ _ _ _ (loaded_hush (marks used a) m i q s) (λ v s.
    hush_then _ _ _ _ (hush_settled (stepped_by_one u (operand a) v) s) (λ w s.
    hush_then _ _ _ _ (written_hush (type_at a) (marks def a) m i q w s) (λ w s. stepped_hush f v w s))))

unary_quiets : (u : UnaryOp) (k : TypeOf) (x y : Meaning) → Quiets x y → Quiets (as_value (λ i s. then_do (needed (x.value i s)) (λ v s. then_do (settled (of_one u k v) s) gives))) (as_value (λ i s. then_do (needed (y.value i s)) (λ v s. then_do (settled (of_one u k v) s) gives)))
unary_quiets u k x y qs = value_quiets _ _ (λ m i s. hush_then _ _ _ _ (hush_needed _ _ (qs.value_quiet m i s)) (λ v s. hush_then _ _ _ _ (hush_settled (of_one u k v) s) (λ v s. refl)))

row_quiet : (k l : Knot) → Follows k l → (f : ℕ) (r : Option FunctionShape) (vs : List Value) (s : State) → called_row k f r vs (hush s) ≡ hushed (called_row l f r vs s)
row_quiet k l follows f None vs s = refl
row_quiet k l follows f (Some r) vs s = hush_if (is_some r.defined) _ _ _ _ (follows.call_follows f vs s) (built_in_hush r.name vs s)

called_quiet : (t : TablesShape) (k l : Knot) → Follows k l → (n : NoteShape) (vs : List Value) (s : State) → called t k n vs (hush s) ≡ hushed (called t l n vs s)
called_quiet t k l follows (typed y (Some f)) vs s = row_quiet k l follows f (row t.functions f) vs s
called_quiet t k l follows (typed y None) vs s = refl
called_quiet t k l follows (known y v) vs s = refl
called_quiet t k l follows bare vs s = refl

-- ---- expressions

module _ (t : TablesShape) (k l : Knot) (follows : Follows k l) where
  mutual
    pub node_quiets : (e : NodeShape) → Quiets (meaning t k e) (meaning t l e)
    node_quiets (node p o n f) = form_quiets p n f

    form_quiets : (p : Pos) (n : NoteShape) (f : ExprShape) → Quiets (form_meaning t k p n f) (form_meaning t l p n f)
    form_quiets p n (leaf x) = leaf_quiets t n x
    form_quiets p n (paren a) = node_quiets a
    form_quiets p n (call x args) = value_quiets _ _ (λ m i s. hush_then _ _ _ _ (arguments_quiet args (params_of t n) m i s) (λ vs s. called_quiet t k l follows n vs s))
    form_quiets p n (prefix (unary front.AddressOf) a) = value_quiets _ _ (λ m i s. hush_then _ _ _ _ ((node_quiets a).place_quiet Addressed m i s) (λ q s. refl))
    form_quiets p n (prefix (unary front.Deref) a) = place_quiets t n [] _ _ (λ r m i s. hush_turn s _ _ (λ s.
        hush_then _ _ _ _ (hush_needed _ _ ((node_quiets a).value_quiet m (within r p n (prefix (unary front.Deref) a) i) s)) (λ v s. hush_settled (target v) s)))
    form_quiets p n (prefix (unary front.Plus) a) = unary_quiets front.Plus (operand a) _ _ (node_quiets a)
    form_quiets p n (prefix (unary front.Minus) a) = unary_quiets front.Minus (operand a) _ _ (node_quiets a)
    form_quiets p n (prefix (unary front.Flip) a) = unary_quiets front.Flip (operand a) _ _ (node_quiets a)
    form_quiets p n (prefix (unary front.Not) a) = unary_quiets front.Not (operand a) _ _ (node_quiets a)
    form_quiets p n (prefix (before u) a) = value_quiets _ _ (λ m i s. step_quiet true u a _ _ (node_quiets a) m i s)
    form_quiets p n (prefix size_of a) = value_quiets _ _ (λ m i s. noted_hush n s)
    form_quiets p n (size_of_type y) = value_quiets _ _ (λ m i s. noted_hush n s)
    form_quiets p n (cast y a) = value_quiets _ _ (λ m i s. cast_quiet (kind_noted n) _ _ ((node_quiets a).value_quiet m i s))
    form_quiets p n (suffix a (index b)) = place_quiets t n [] _ _ (λ r m i s. hush_turn s _ _ (λ s.
        let j = within r p n (suffix a (index b)) i in
        hush_then _ _ _ _ (hush_needed _ _ ((node_quiets a).value_quiet m j s)) (λ v s.
        hush_then _ _ _ _ (hush_needed _ _ ((node_quiets b).value_quiet m (firsts.behind Read a j) s)) (λ w s.
        hush_then _ _ _ _ (hush_settled (element_pointer (operand a) (operand b) v w) s) (λ v s. hush_settled (target v) s)))))
    form_quiets p n (suffix a (field dot x q)) = place_quiets t n [] _ _ (λ r m i s. hush_turn s _ _ (λ s.
        hush_then _ _ _ _ ((node_quiets a).place_quiet Read m (within r p n (suffix a (field dot x q)) i) s) (λ q s. field_hush t x (type_at a) q s)))
    form_quiets p n (suffix a (field arrow x q)) = place_quiets t n [] _ _ (λ r m i s. hush_turn s _ _ (λ s.
        hush_then _ _ _ _ (hush_needed _ _ ((node_quiets a).value_quiet m (within r p n (suffix a (field arrow x q)) i) s)) (λ v s.
        hush_then _ _ _ _ (hush_settled (target v) s) (λ q s. field_hush t x (pointed (operand a)) q s))))
    form_quiets p n (suffix a (behind u)) = value_quiets _ _ (λ m i s. step_quiet false u a _ _ (node_quiets a) m i s)
    form_quiets p n (two (plain u) a b) = value_quiets _ _ (λ m i s.
        hush_then _ _ _ _ (hush_needed _ _ ((node_quiets a).value_quiet m i s)) (λ v s.
        hush_then _ _ _ _ (hush_needed _ _ ((node_quiets b).value_quiet m (firsts.behind Read a i) s)) (λ w s.
        hush_then _ _ _ _ (hush_settled (operated u (operand a) (operand b) v w) s) (λ v s. refl))))
    form_quiets p n (two and a b) = value_quiets _ _ (λ m i s.
        hush_then _ _ _ _ (tested_quiet a _ _ (node_quiets a) m i s) (λ x s.
        hush_if x _ _ (gives (Int (pos 0)) (hush s)) (gives (Int (pos 0)) s) (last_quiet b _ _ (node_quiets b) m (behind_test a i) s) refl))
    form_quiets p n (two or a b) = value_quiets _ _ (λ m i s.
        hush_then _ _ _ _ (tested_quiet a _ _ (node_quiets a) m i s) (λ x s.
        hush_if x (gives (Int (pos 1)) (hush s)) (gives (Int (pos 1)) s) _ _ refl (last_quiet b _ _ (node_quiets b) m (behind_test a i) s)))
    form_quiets p n (two (assign None) a b) = value_quiets _ _ (λ m i s.
        hush_then _ _ _ _ ((node_quiets a).place_quiet Written m i s) (λ q s. assigned_quiet (holds_structure a) (type_at a) (marks def a) (marks used b) _ _ (node_quiets b) m m i (firsts.behind Written a i) q s))
    form_quiets p n (two (assign (Some u)) a b) = value_quiets _ _ (λ m i s.
        hush_then _ _ _ _ ((node_quiets a).place_quiet Changed m i s) (λ q s.
        hush_then _ _ _ _ (loaded_hush (marks used a) m i q s) (λ x s.
        hush_then _ _ _ _ (hush_needed _ _ ((node_quiets b).value_quiet m (firsts.behind Changed a i) s)) (λ y s.
        hush_then _ _ _ _ (hush_settled (operated u (operand a) (operand b) x y) s) (λ v s. written_hush (type_at a) (marks def a) m i q v s)))))
    form_quiets p n (two comma a b) = record {
      value_quiet = λ m i s. hush_turn s _ _ (λ s. hush_then _ _ _ _ ((node_quiets a).value_quiet m i s) (λ v s. (node_quiets b).value_quiet m (firsts.behind Read a i) s));
      place_quiet = λ r m i s. hush_turn s _ _ (λ s. hush_then _ _ _ _ ((node_quiets a).value_quiet m i s) (λ v s. (node_quiets b).place_quiet Read m (firsts.behind Read a i) s));
    }
    form_quiets p n (choose a b c) = value_quiets _ _ (λ m i s.
        hush_then _ _ _ _ (tested_quiet a _ _ (node_quiets a) m i s) (λ x s.
        hush_then _ _ _ _
        (hush_if x _ _ _ _ (arm_quiet b m (behind_test a i) s (meaning t k b).value (meaning t l b).value (λ j s. (node_quiets b).value_quiet m j s)) (arm_quiet c m (behind_arm b (behind_test a i)) s (meaning t k c).value (meaning t l c).value (λ j s. (node_quiets c).value_quiet m j s)))
        (λ v s. refl)))
    form_quiets p n (probe (simple block x) a) = record {
      value_quiet = λ m i s. hush_logs _ (x ∷ []) (hush s) s _ _ (λ m s. refl) refl (λ s. (node_quiets a).value_quiet m i s);
      place_quiet = λ r m i s. hush_logs _ (x ∷ []) (hush s) s _ _ (λ m s. refl) refl (λ s. (node_quiets a).place_quiet r m i s);
    }
    form_quiets p n (probe (simple test x) a) = record {
      value_quiet = λ m i s. hush_then _ _ _ _ (hush_needed _ _ ((node_quiets a).value_quiet m i s)) (λ v s. hush_logs _ (x ∷ []) (hush s) s _ _ (λ m s. refl) refl (λ s. refl));
      place_quiet = λ r m i s. refl;
    }
    form_quiets p n (probe (simple used x) a) = place_quiets t n _ _ _ (λ r m i s. (node_quiets a).place_quiet r m i s)
    form_quiets p n (probe (simple def x) a) = place_quiets t n _ _ _ (λ r m i s. (node_quiets a).place_quiet r m i s)
    form_quiets p n (probe (select x cs) a) = record {
      value_quiet = λ m i s. hush_then _ _ _ _ (hush_needed _ _ ((node_quiets a).value_quiet m i s)) (λ v s. hush_logs _ (x ∷ []) (hush s) s _ _ (λ m s. refl) refl (λ s. refl));
      place_quiet = λ r m i s. refl;
    }

    arguments_quiet : (es : NodeShapes) (ts : List TypeOf) (m : ℕ) (i : First) (s : State) → arguments t k es ts (quiet m) (hush s) ≡ hushed (arguments t l es ts i s)
    arguments_quiet no_nodes ts m i s = refl
    arguments_quiet (more_nodes a rest) ts m i s =
        hush_then _ _ _ _ (hush_needed _ _ ((node_quiets a).value_quiet m i s)) (λ v s.
        hush_then _ _ _ _ (arguments_quiet rest (drop 1 ts) m (firsts.behind Read a i) s) (λ vs s. refl))
