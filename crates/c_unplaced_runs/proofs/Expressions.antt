-- Expressions do the same without their places, where nothing is told.
use Rattle.std.proofs.Common.{◌≡◌, ℕ, List, [], ◌∷◌, ◌++◌, drop, Option, Some, None, Bool, true, false, refl, ap, ap₂, ◌∙◌}
use Rattle.std.specs.Prelude.{is_some}
use Rattle.c_base.specs.declared.place.Pos.{Pos}
use Rattle.c_syntax.specs.declared.text.Text.{Text}
use Rattle.c_syntax.specs.declared.tree.UnaryOp.{UnaryOp}
use Rattle.c_syntax.specs.declared.tree.UnaryOp.TheVariants as front
use Rattle.c_syntax.specs.Start.{start}
use Rattle.c_syntax.specs.Shape.{TypeOf, NoteShape, bare, typed, known, Step, unary, before, size_of, plain, and, or, assign, comma, dot, arrow, NodeShape, node, ExprShape, leaf, paren, call, prefix, size_of_type, cast, suffix, two, choose, probe, index, field, behind, block, test, used, def, simple, select, NodeShapes, no_nodes, more_nodes, MaybeNode, StmtShape}
use Rattle.c_store.specs.declared.value.Value.{Value}
use Rattle.c_store.specs.declared.value.Pointer.{Pointer}
use Rattle.c_tables.specs.Tables.{FunctionShape, TablesShape}
use Rattle.c_tables.specs.Rows.{row}
use Rattle.c_placing.specs.Unplaced.{unplaced_node, unplaced_form, unplaced_nodes, unplaced_maybe, unplaced_stmt}
use Rattle.c_walk.specs.declared.around.Taken.{Taken}
use Rattle.c_walk.specs.declared.around.Taken.TheVariants.{Read, Written, Changed, Copied, Addressed}
use Rattle.c_walk.specs.Places.{holds_structure}
use Rattle.c_meaning.specs.State.{State}
use Rattle.c_meaning.specs.Results.{Got, then_do, turn, settled, needed}
use Rattle.c_meaning.specs.Operators.{operated, stepped_by_one, element_pointer, of_one, target, pointed}
use Rattle.c_meaning.specs.Firsts.{quiet}
use Rattle.c_meaning.specs.Places.{field_place, logs, marks, loaded, copied, fetched}
use Rattle.c_meaning.specs.Constants.{select_constants, chosen_among, kind_noted, type_at}
use Rattle.c_walk.specs.Tests.{choosing}
use Rattle.c_meaning.specs.Knot.{Loop, Knot}
use Rattle.c_meaning.specs.Builtins.{called, called_row, params_of}
use Rattle.c_meaning.specs.Expressions.{gives, operand, cast_value, tested, last_test, written, assigned, step_value, log_block, log_test, meaning, form_meaning, arguments}
use Rattle.c_unplaced_runs.proofs.Same.{type_same, structure_same, operand_same, choosing_same, uses_same, defs_same, select_same}
use Rattle.c_unplaced_runs.proofs.Results.{both, turned, chosen, logged_all}

-- a loop whose parts stand behind so many variables
abbrev pub loop_at : MaybeNode → ℕ → StmtShape → ℕ → MaybeNode → ℕ → Loop
loop_at e n a m g j = record { test = e; at_test = quiet n; body = a; at_body = quiet m; step = g; at_step = quiet j }

-- the first knot does what the other does: a call, and the further turns of a loop without its places
pub record Follows (k l : Knot) : Type 0 where
  pub call : (f : ℕ) (vs : List Value) (s : State) → k.call f vs s ≡ l.call f vs s
  pub again : (e : MaybeNode) (n : ℕ) (a : StmtShape) (m : ℕ) (g : MaybeNode) (j : ℕ) (s : State) → k.again (loop_at (unplaced_maybe e) n (unplaced_stmt a) m (unplaced_maybe g) j) s ≡ l.again (loop_at e n a m g j) s

pub needed_both : {B : Type 0} (q r : Got (Option Value)) (f g : Value → State → Got B) → q ≡ r → ((v : Value) (s : State) → f v s ≡ g v s) → then_do (needed q) f ≡ then_do (needed r) g
needed_both q r f g e h = both (needed q) (needed r) f g (ap needed e) h

module _ (t : TablesShape) (k l : Knot) (follows : Follows k l) where
  row_called : (f : ℕ) (r : Option FunctionShape) (vs : List Value) (s : State) → called_row k f r vs s ≡ called_row l f r vs s
  row_called f None vs s = refl
  row_called f (Some r) vs s = chosen (is_some r.defined) _ _ _ _ (follows.call f vs s) refl

  is_called : (n : NoteShape) (vs : List Value) (s : State) → called t k n vs s ≡ called t l n vs s
  is_called (typed y (Some f)) vs s = row_called f (row t.functions f) vs s
  is_called (typed y None) vs s = refl
  is_called (known y v) vs s = refl
  is_called bare vs s = refl

  -- ---- forms, where their parts do the same

  abbrev AsValue : NodeShape → Type 0
  AsValue a = (n : ℕ) (s : State) → (meaning t k (unplaced_node a)).value (quiet n) s ≡ (meaning t l a).value (quiet n) s

  abbrev AsPlace : NodeShape → Type 0
  AsPlace a = (r : Taken) (n : ℕ) (s : State) → (meaning t k (unplaced_node a)).place r (quiet n) s ≡ (meaning t l a).place r (quiet n) s

  deref : (a : NodeShape) → AsValue a → (n : ℕ) (s : State) → turn s (λ s. then_do (needed ((meaning t k (unplaced_node a)).value (quiet n) s)) (λ v s. settled (target v) s)) ≡ turn s (λ s. then_do (needed ((meaning t l a).value (quiet n) s)) (λ v s. settled (target v) s))
  deref a go n s = turned s _ _ (λ s. needed_both _ _ _ _ (go n s) (λ v s. refl))

  element : (a b : NodeShape) → AsValue a → AsValue b → (n : ℕ) (s : State) → turn s (λ s. then_do (needed ((meaning t k (unplaced_node a)).value (quiet n) s)) (λ v s. then_do (needed ((meaning t k (unplaced_node b)).value (quiet n) s)) (λ w s. then_do (settled (element_pointer (operand (unplaced_node a)) (operand (unplaced_node b)) v w) s) (λ v s. settled (target v) s)))) ≡ turn s (λ s. then_do (needed ((meaning t l a).value (quiet n) s)) (λ v s. then_do (needed ((meaning t l b).value (quiet n) s)) (λ w s. then_do (settled (element_pointer (operand a) (operand b) v w) s) (λ v s. settled (target v) s))))
  element a b go then_go n s = turned s _ _ (λ s.
      needed_both _ _ _ _ (go n s) (λ v s.
      needed_both _ _ _ _ (then_go n s) (λ w s.
      ap₂ (λ d e. then_do (settled (element_pointer d e v w) s) (λ v s. settled (target v) s)) (operand_same a) (operand_same b))))

  dotted : (a : NodeShape) (x : Text) → AsPlace a → (n : ℕ) (s : State) → turn s (λ s. then_do ((meaning t k (unplaced_node a)).place Read (quiet n) s) (field_place t x (type_at (unplaced_node a)))) ≡ turn s (λ s. then_do ((meaning t l a).place Read (quiet n) s) (field_place t x (type_at a)))
  dotted a x go n s = turned s _ _ (λ s. both _ _ _ _ (go Read n s) (λ q s. ap (λ y. field_place t x y q s) (type_same a)))

  pointed_to : (a : NodeShape) (x : Text) → AsValue a → (n : ℕ) (s : State) → turn s (λ s. then_do (needed ((meaning t k (unplaced_node a)).value (quiet n) s)) (λ v s. then_do (settled (target v) s) (field_place t x (pointed (operand (unplaced_node a)))))) ≡ turn s (λ s. then_do (needed ((meaning t l a).value (quiet n) s)) (λ v s. then_do (settled (target v) s) (field_place t x (pointed (operand a)))))
  pointed_to a x go n s = turned s _ _ (λ s. needed_both _ _ _ _ (go n s) (λ v s. ap (λ y. then_do (settled (target v) s) (field_place t x (pointed y))) (operand_same a)))

  -- a place's value is fetched from it
  fetched_from : (n : NoteShape) (xs ys : List Text) (q r : Got Pointer) (i : ℕ) → xs ≡ ys → q ≡ r → then_do q (fetched t n xs (quiet i)) ≡ then_do r (fetched t n ys (quiet i))
  fetched_from n xs ys q r i e f = ap₂ (λ zs z. then_do z (fetched t n zs (quiet i))) e f

  of_operand : (u : UnaryOp) (a : NodeShape) → AsValue a → (n : ℕ) (s : State) → turn s (λ s. then_do (needed ((meaning t k (unplaced_node a)).value (quiet n) s)) (λ v s. then_do (settled (of_one u (operand (unplaced_node a)) v) s) gives)) ≡ turn s (λ s. then_do (needed ((meaning t l a).value (quiet n) s)) (λ v s. then_do (settled (of_one u (operand a) v) s) gives))
  of_operand u a go n s = turned s _ _ (λ s. needed_both _ _ _ _ (go n s) (λ v s. ap (λ y. then_do (settled (of_one u y v) s) gives) (operand_same a)))

  is_written : (a : NodeShape) (n : ℕ) (q : Pointer) (v : Value) (s : State) → written (type_at (unplaced_node a)) (marks def (unplaced_node a)) (quiet n) q v s ≡ written (type_at a) (marks def a) (quiet n) q v s
  is_written a n q v s = ap₂ (λ y xs. written y xs (quiet n) q v s) (type_same a) (defs_same a)

  is_loaded : (a : NodeShape) (n : ℕ) (q : Pointer) (s : State) → loaded (marks used (unplaced_node a)) (quiet n) q s ≡ loaded (marks used a) (quiet n) q s
  is_loaded a n q s = ap (λ xs. loaded xs (quiet n) q s) (uses_same a)

  -- a value that is written, or a structure that is copied
  is_assigned : (z : Bool) (a b : NodeShape) → AsValue b → AsPlace b → (n : ℕ) (q : Pointer) (s : State)
      → assigned z (type_at (unplaced_node a)) (marks def (unplaced_node a)) (marks used (unplaced_node b)) (meaning t k (unplaced_node b)) (quiet n) (quiet n) q s ≡ assigned z (type_at a) (marks def a) (marks used b) (meaning t l b) (quiet n) (quiet n) q s
  is_assigned true a b go place n q s = both _ _ _ _ (place Copied n s) (λ r s. ap₂ (λ ds us. copied ds us (quiet n) (quiet n) q r s) (defs_same a) (uses_same b))
  is_assigned false a b go place n q s = needed_both _ _ _ _ (go n s) (λ v s. is_written a n q v s)

  stepped : (b : Bool) (u : Step) (a : NodeShape) → AsPlace a → (n : ℕ) (s : State) → step_value b u (unplaced_node a) (meaning t k (unplaced_node a)) (quiet n) s ≡ step_value b u a (meaning t l a) (quiet n) s
  stepped b u a go n s =
      both _ _ _ _ (go Changed n s) (λ q s.
      both _ _ _ _ (is_loaded a n q s) (λ x s.
      both _ _ _ _ (ap (λ y. settled (stepped_by_one u y x) s) (operand_same a)) (λ v s.
      both _ _ _ _ (is_written a n q v s) (λ v s. refl))))

  pub is_tested : (a : NodeShape) → AsValue a → (n : ℕ) (s : State) → tested (unplaced_node a) (meaning t k (unplaced_node a)) (quiet n) s ≡ tested a (meaning t l a) (quiet n) s
  is_tested a go n s = needed_both _ _ _ _ (go n s) (λ v s. refl)

  last_tested : (a : NodeShape) → AsValue a → (n : ℕ) (s : State) → last_test (unplaced_node a) (meaning t k (unplaced_node a)) (quiet n) s ≡ last_test a (meaning t l a) (quiet n) s
  last_tested a go n s = both _ _ _ _ (is_tested a go n s) (λ x s. refl)

  -- ---- expressions

  mutual
    pub value_alike : (a : NodeShape) → AsValue a
    value_alike (node p o n f) i s = form_alike p o n f i s

    form_alike : (p o : Pos) (n : NoteShape) (f : ExprShape) (i : ℕ) (s : State) → (form_meaning t k start n (unplaced_form f)).value (quiet i) s ≡ (form_meaning t l p n f).value (quiet i) s
    form_alike p o n (leaf x) i s = refl
    form_alike p o n (paren a) i s = value_alike a i s
    form_alike p o n (call x args) i s = turned s _ _ (λ s. both _ _ _ _ (arguments_alike args (params_of t n) i s) (λ vs s. is_called n vs s))
    form_alike p o n (prefix (unary front.AddressOf) a) i s = turned s _ _ (λ s. both _ _ _ _ (place_alike a Addressed i s) (λ q s. refl))
    form_alike p o n (prefix (unary front.Deref) a) i s = fetched_from n [] [] _ _ i refl (deref a (value_alike a) i s)
    form_alike p o n (prefix (unary front.Plus) a) i s = of_operand front.Plus a (value_alike a) i s
    form_alike p o n (prefix (unary front.Minus) a) i s = of_operand front.Minus a (value_alike a) i s
    form_alike p o n (prefix (unary front.Flip) a) i s = of_operand front.Flip a (value_alike a) i s
    form_alike p o n (prefix (unary front.Not) a) i s = of_operand front.Not a (value_alike a) i s
    form_alike p o n (prefix (before u) a) i s = turned s _ _ (λ s. stepped true u a (place_alike a) i s)
    form_alike p o n (prefix size_of a) i s = refl
    form_alike p o n (size_of_type y) i s = refl
    form_alike p o n (cast y a) i s = turned s _ _ (λ s. ap (cast_value (kind_noted n)) (value_alike a i s))
    form_alike p o n (suffix a (index b)) i s = fetched_from n [] [] _ _ i refl (element a b (value_alike a) (value_alike b) i s)
    form_alike p o n (suffix a (field dot x q)) i s = fetched_from n [] [] _ _ i refl (dotted a x (place_alike a) i s)
    form_alike p o n (suffix a (field arrow x q)) i s = fetched_from n [] [] _ _ i refl (pointed_to a x (value_alike a) i s)
    form_alike p o n (suffix a (behind u)) i s = turned s _ _ (λ s. stepped false u a (place_alike a) i s)
    form_alike p o n (two (plain u) a b) i s = turned s _ _ (λ s.
        needed_both _ _ _ _ (value_alike a i s) (λ v s.
        needed_both _ _ _ _ (value_alike b i s) (λ w s.
        ap₂ (λ d e. then_do (settled (operated u d e v w) s) gives) (operand_same a) (operand_same b))))
    form_alike p o n (two and a b) i s = turned s _ _ (λ s. both _ _ _ _ (is_tested a (value_alike a) i s) (λ x s. chosen x _ _ _ _ (last_tested b (value_alike b) i s) refl))
    form_alike p o n (two or a b) i s = turned s _ _ (λ s. both _ _ _ _ (is_tested a (value_alike a) i s) (λ x s. chosen x _ _ _ _ refl (last_tested b (value_alike b) i s)))
    form_alike p o n (two (assign None) a b) i s = turned s _ _ (λ s.
        both _ _ _ _ (place_alike a Written i s) (λ q s.
        ap (λ z. assigned z (type_at (unplaced_node a)) (marks def (unplaced_node a)) (marks used (unplaced_node b)) (meaning t k (unplaced_node b)) (quiet i) (quiet i) q s) (structure_same a)
        ∙ is_assigned (holds_structure a) a b (value_alike b) (place_alike b) i q s))
    form_alike p o n (two (assign (Some u)) a b) i s = turned s _ _ (λ s.
        both _ _ _ _ (place_alike a Changed i s) (λ q s.
        both _ _ _ _ (is_loaded a i q s) (λ x s.
        needed_both _ _ _ _ (value_alike b i s) (λ y s.
        both _ _ _ _ (ap₂ (λ d e. settled (operated u d e x y) s) (operand_same a) (operand_same b)) (λ v s. is_written a i q v s)))))
    form_alike p o n (two comma a b) i s = turned s _ _ (λ s. both _ _ _ _ (value_alike a i s) (λ v s. value_alike b i s))
    form_alike p o n (choose a b c) i s = turned s _ _ (λ s.
        both _ _ _ _ (is_tested a (value_alike a) i s) (λ x s.
        both _ _ _ _ (chosen x _ _ _ _ (value_alike b i s) (value_alike c i s)) (λ v s. refl)))
    form_alike p o n (probe (simple block x) a) i s = logged_all log_block (x ∷ []) s _ _ (λ s. value_alike a i s)
    form_alike p o n (probe (simple test x) a) i s = needed_both _ _ _ _ (value_alike a i s) (λ v s. refl)
    form_alike p o n (probe (simple used x) a) i s = fetched_from n _ _ _ _ i (ap (λ xs. xs ++ x ∷ []) (uses_same a)) (place_alike a Read i s)
    form_alike p o n (probe (simple def x) a) i s = fetched_from n _ _ _ _ i (uses_same a) (place_alike a Read i s)
    form_alike p o n (probe (select x cs) a) i s = needed_both _ _ _ _ (value_alike a i s) (λ v s.
        ap (λ j. logs (log_test j) (x ∷ []) s (gives v))
        (ap (λ z. chosen_among z v (select_constants z (unplaced_nodes cs))) (choosing_same a) ∙ ap (chosen_among (choosing a) v) (select_same (choosing a) cs)))

    arguments_alike : (es : NodeShapes) (ts : List TypeOf) (i : ℕ) (s : State) → arguments t k (unplaced_nodes es) ts (quiet i) s ≡ arguments t l es ts (quiet i) s
    arguments_alike no_nodes ts i s = refl
    arguments_alike (more_nodes a rest) ts i s =
        needed_both _ _ _ _ (value_alike a i s) (λ v s.
        both _ _ _ _ (arguments_alike rest (drop 1 ts) i s) (λ vs s. refl))

    pub place_alike : (a : NodeShape) → AsPlace a
    place_alike (node p o n f) r i s = inner_alike p o n f r i s

    inner_alike : (p o : Pos) (n : NoteShape) (f : ExprShape) (r : Taken) (i : ℕ) (s : State) → (form_meaning t k start n (unplaced_form f)).place r (quiet i) s ≡ (form_meaning t l p n f).place r (quiet i) s
    inner_alike p o n (leaf x) r i s = refl
    inner_alike p o n (paren a) r i s = place_alike a r i s
    inner_alike p o n (call x args) r i s = refl
    inner_alike p o n (prefix (unary front.AddressOf) a) r i s = refl
    inner_alike p o n (prefix (unary front.Deref) a) r i s = deref a (value_alike a) i s
    inner_alike p o n (prefix (unary front.Plus) a) r i s = refl
    inner_alike p o n (prefix (unary front.Minus) a) r i s = refl
    inner_alike p o n (prefix (unary front.Flip) a) r i s = refl
    inner_alike p o n (prefix (unary front.Not) a) r i s = refl
    inner_alike p o n (prefix (before u) a) r i s = refl
    inner_alike p o n (prefix size_of a) r i s = refl
    inner_alike p o n (size_of_type y) r i s = refl
    inner_alike p o n (cast y a) r i s = refl
    inner_alike p o n (suffix a (index b)) r i s = element a b (value_alike a) (value_alike b) i s
    inner_alike p o n (suffix a (field dot x q)) r i s = dotted a x (place_alike a) i s
    inner_alike p o n (suffix a (field arrow x q)) r i s = pointed_to a x (value_alike a) i s
    inner_alike p o n (suffix a (behind u)) r i s = refl
    inner_alike p o n (two (plain u) a b) r i s = refl
    inner_alike p o n (two and a b) r i s = refl
    inner_alike p o n (two or a b) r i s = refl
    inner_alike p o n (two (assign None) a b) r i s = refl
    inner_alike p o n (two (assign (Some u)) a b) r i s = refl
    inner_alike p o n (two comma a b) r i s = turned s _ _ (λ s. both _ _ _ _ (value_alike a i s) (λ v s. place_alike b Read i s))
    inner_alike p o n (choose a b c) r i s = refl
    inner_alike p o n (probe (simple block x) a) r i s = logged_all log_block (x ∷ []) s _ _ (λ s. place_alike a r i s)
    inner_alike p o n (probe (simple test x) a) r i s = refl
    inner_alike p o n (probe (simple used x) a) r i s = place_alike a r i s
    inner_alike p o n (probe (simple def x) a) r i s = place_alike a r i s
    inner_alike p o n (probe (select x cs) a) r i s = refl
