-- An expression with its probes does what the expression does, and logs what it tells.
use Rattle.std.proofs.Common.{◌≡◌, ℕ, ◌≤◌, ◌<◌, List, [], ◌∷◌, drop, Option, Some, None, Bool, true, false, ◌∙◌, refl, sym, ap, ap₂, true≢false, arith}
use Rattle.std.specs.Prelude.{pos, is_some, if◌then◌else◌}
use Rattle.std.specs.Fmt.{decimal}
use Rattle.c_base.specs.declared.place.Pos.{Pos}
use Rattle.c_syntax.specs.declared.text.Text.{Text}
use Rattle.c_syntax.specs.declared.tree.UnaryOp.{UnaryOp}
use Rattle.c_syntax.specs.declared.tree.UnaryOp.TheVariants as front
use Rattle.c_syntax.specs.Shape.{TypeOf, int, pointer, array, structure, nothing, NoteShape, bare, typed, known, number, char, str, name, Step, unary, before, size_of, plain, and, or, assign, comma, dot, arrow, NodeShape, node, ExprShape, leaf, paren, call, prefix, size_of_type, cast, suffix, two, choose, probe, index, field, behind, used, def, NodeShapes, no_nodes, more_nodes}
use Rattle.c_constants.specs.Numbers.{number_of}
use Rattle.c_store.specs.declared.value.Value.{Value}
use Rattle.c_store.specs.declared.value.Value.TheVariants.{Int}
use Rattle.c_store.specs.declared.value.Pointer.{Pointer}
use Rattle.c_tables.specs.Tables.{FunctionShape, TablesShape}
use Rattle.c_tables.specs.Rows.{row}
use Rattle.c_walk.specs.declared.around.Around.{Around}
use Rattle.c_walk.specs.declared.around.Taken.{Taken}
use Rattle.c_walk.specs.declared.around.Taken.TheVariants.{Read, Written, Changed, Addressed, Copied}
use Rattle.c_walk.specs.Places.{is_place, has_scalar, holds_structure}
use Rattle.c_walk.specs.Tests.{is_logical_form}
use Rattle.c_walk.specs.Walked.{Walked, pos_of, with_block, with_test, with_site, inside_test, next_decision, right_taken}
use Rattle.c_walk.specs.Walking.{walk_node, walk_form, walk_test, walk_arm, walk_nodes}
use Rattle.c_meaning.specs.State.{State}
use Rattle.c_meaning.specs.Results.{Got, Gives, Stops, then_do, turn, settled, needed}
use Rattle.c_meaning.specs.Operators.{is_true, operated, stepped_by_one, element_pointer, of_one, target, pointed}
use Rattle.c_meaning.specs.Firsts.{First, quiet, heard, outcome, noted_block, noted_outcome}
use Rattle.c_walk.specs.Counted.{block_count, def_count, use_count}
use Rattle.c_meaning.specs.Places.{marks, logs, loaded, field_place}
use Rattle.c_meaning.specs.Constants.{type_at, kind_noted}
use Rattle.c_meaning.specs.Knot.{Knot}
use Rattle.c_meaning.specs.Builtins.{called, called_row, params_of}
use Rattle.c_meaning.specs.Expressions.{Meaning, as_place, gives, operand, cast_value, tested, arm, last_test, written, step_value, meaning, form_meaning, arguments, log_block, log_test, assigned}
use Rattle.c_meaning.proofs.Walks.{node_on, test_node_on, arm_on}
use Rattle.probe_rules.specs.Marks.{in_block, in_test}
use Rattle.c_walk.specs.Counted.{next_block, next_def, next_use}
use Rattle.probe_rules.specs.ProbedExpressions.{in_sites, probed_node, probed_form, probed_test, probed_arm, probed_nodes}
use Rattle.probe_rules.specs.Fitting.{HasFewItems, IsName}
use Rattle.probe_rules.proofs.Ready.{IsReady, HasReadyParts, AreReady}
use Rattle.probe_rules.proofs.Few.{few_before, few_blocks, few_tests, few_read, form_before, nodes_before, right_before}
use Rattle.probe_rules.proofs.Loops.{Follows}
use Rattle.probe_rules.proofs.Told.{as_log, with_log, sim_then, sim_turn, sim_if, sim_settled, sim_needed, logs_is, logs_sim, block_told, outcome_told, loaded_sim, variable_sim, field_sim, written_sim, stepped_sim, number_sim, literal_sim, noted_sim, built_in_sim}
use Rattle.probe_rules.proofs.Rounds.{same_type, same_operand, form_uses, sited_place, block_value, test_value, read_sim, written_at, changed_at, no_uses, no_defs, same_structure, copied_at, IsWrittenAt}
use Rattle.probe_rules.proofs.Copied.{copied_to}

-- ---- parts of operators

loaded_at : (xs ys : List Text) (m : ℕ) (c : Around) (w : Walked) (q : Pointer) (s : State) → xs ≡ decimal (next_use w) ∷ [] → ys ≡ [] → use_count w.items < 16383 → loaded xs (quiet m) q (as_log s) ≡ with_log (loaded ys (heard c w) q s)
loaded_at xs ys m c w q s one none few =
    ap (λ z. loaded z (quiet m) q (as_log s)) one ∙ (loaded_sim m c w q s few ∙ ap (λ z. with_log (loaded z (heard c w) q s)) (sym none))

written_to : (j k : TypeOf) (xs ys : List Text) (m : ℕ) (c : Around) (w : Walked) (q : Pointer) (v : Value) (s : State) → j ≡ k → xs ≡ decimal (next_def w) ∷ [] → ys ≡ [] → def_count w.items < 16383 → written j xs (quiet m) q v (as_log s) ≡ with_log (written k ys (heard c w) q v s)
written_to j k xs ys m c w q v s same one none few =
    ap₂ (λ y z. written y z (quiet m) q v (as_log s)) same one ∙ (written_sim k m c w q v s few ∙ ap (λ z. with_log (written k z (heard c w) q v s)) (sym none))

cast_sim : (y : TypeOf) (q r : Got (Option Value)) → q ≡ with_log r → cast_value y q ≡ with_log (cast_value y r)
cast_sim nothing q r e = sim_then q r _ _ e (λ v s. refl)
cast_sim (int k) q r e = sim_then _ _ _ _ (sim_needed q r e) (λ v s. refl)
cast_sim (pointer k) q r e = sim_then _ _ _ _ (sim_needed q r e) (λ v s. refl)
cast_sim (array k n) q r e = sim_then _ _ _ _ (sim_needed q r e) (λ v s. refl)
cast_sim (structure n) q r e = sim_then _ _ _ _ (sim_needed q r e) (λ v s. refl)

-- ---- tests and blocks

-- what a test comes to, and its probe
abbrev test_logged : ℕ → Value → State → Got (Option Value)
test_logged k v s = logs (log_test (outcome (is_true v))) (decimal k ∷ []) s (gives v)

test_then : (c : Around) (w : Walked) (q r : Got Value) → next_decision w ≤ 16383 → q ≡ with_log r → then_do (needed (then_do q (test_logged (next_decision w)))) (λ v s. Gives (is_true v) s) ≡ with_log (then_do r (λ v s. Gives (is_true v) (noted_outcome (heard c w) (outcome (is_true v)) s)))
test_then c w q (Gives v s) few e =
    let k = next_decision w in
    ap (λ z. then_do (needed (then_do z (test_logged k))) (λ v s. Gives (is_true v) s)) e
    ∙ (ap (λ z. then_do (needed z) (λ v s. Gives (is_true v) s)) (logs_is (log_test (outcome (is_true v))) k (as_log s) (gives v) (omega arith) few)
    ∙ ap (Gives (is_true v)) (outcome_told c w (outcome (is_true v)) s))
test_then c w q (Stops why s) few e = ap (λ z. then_do (needed (then_do z (test_logged (next_decision w)))) (λ v s. Gives (is_true v) s)) e

module _ (t : TablesShape) (k : Knot) where
  -- a probe of a test round what does what the expression does
  round_test : (b : Bool) (m : ℕ) (c : Around) (w : Walked) (a : NodeShape) (r : Got (Option Value)) (s : State) → (b ≡ false → next_decision w ≤ 16383) → (meaning t k a).value (quiet m) (as_log s) ≡ with_log r → tested (in_test b w a) (meaning t k (in_test b w a)) (quiet m) (as_log s) ≡ with_log (then_do (needed r) (λ v s. Gives (is_true v) (if b then s else noted_outcome (heard c w) (outcome (is_true v)) s)))
  round_test true m c w a r s few e = sim_then _ _ _ _ (sim_needed _ r e) (λ v s. refl)
  round_test false m c w a r s few e =
      ap (λ z. then_do (needed z) (λ v s. Gives (is_true v) s)) (test_value t k (decimal (next_decision w)) a (quiet m) (as_log s)) ∙ test_then c w (needed ((meaning t k a).value (quiet m) (as_log s))) (needed r) (few refl) (sim_needed _ r e)

  -- a probe of a block
  pub round_block : (m : ℕ) (c : Around) (w : Walked) (a : NodeShape) (s : State) (g : State → Got (Option Value)) → block_count w.items < 16383 → ((s : State) → (meaning t k a).value (quiet m) (as_log s) ≡ with_log (g s)) → (meaning t k (in_block w a)).value (quiet m) (as_log s) ≡ with_log (g (noted_block true (heard c w) s))
  round_block m c w a s g few go =
      block_value t k (decimal (next_block w)) a (quiet m) (as_log s)
      ∙ logs_sim log_block (next_block w) s (noted_block true (heard c w) s) ((meaning t k a).value (quiet m)) g (omega arith) (omega arith) (block_told c w s) go

  -- a test that is a block
  pub round_right : (m : ℕ) (c : Around) (w : Walked) (a : NodeShape) (s : State) (g : State → Got Bool) → block_count w.items < 16383 → ((s : State) → tested a (meaning t k a) (quiet m) (as_log s) ≡ with_log (g s)) → tested (in_block w a) (meaning t k (in_block w a)) (quiet m) (as_log s) ≡ with_log (g (noted_block true (heard c w) s))
  round_right m c w a s g few go =
      let x = decimal (next_block w) in
      ap (λ z. then_do (needed z) (λ v s. Gives (is_true v) s)) (block_value t k x a (quiet m) (as_log s) ∙ logs_is log_block (next_block w) (as_log s) ((meaning t k a).value (quiet m)) (omega arith) (omega arith))
      ∙ (ap (tested a (meaning t k a) (quiet m)) (block_told c w s) ∙ go (noted_block true (heard c w) s))

-- ---- expressions

module _ (t : TablesShape) (k l : Knot) (follows : Follows t k l) where
  row_sim : (f : ℕ) (r : Option FunctionShape) (vs : List Value) (s : State) → called_row k f r vs (as_log s) ≡ with_log (called_row l f r vs s)
  row_sim f None vs s = refl
  row_sim f (Some r) vs s = sim_if (is_some r.defined) _ _ _ _ (follows.call_follows f vs s) (built_in_sim r.name vs s)

  called_sim : (n : NoteShape) (vs : List Value) (s : State) → called t k n vs (as_log s) ≡ with_log (called t l n vs s)
  called_sim (typed y (Some f)) vs s = row_sim f (row t.functions f) vs s
  called_sim (typed y None) vs s = refl
  called_sim (known y v) vs s = refl
  called_sim bare vs s = refl

  -- a place that is read
  site_sim : (c : Around) (p o : Pos) (n : NoteShape) (f : ExprShape) (w : Walked) → is_place f ≡ true → (let g = probed_form c Read f (with_site c Read p n f w) in form_meaning t k p n g ≡ as_place t n [] (form_meaning t k p n g).place) → form_meaning t l p n f ≡ as_place t n [] (form_meaning t l p n f).place → HasFewItems (walk_node c Read (node p o n f) w) → (m : ℕ) → ((s : State) → (form_meaning t k p n (probed_form c Read f (with_site c Read p n f w))).place Read (quiet m) (as_log s) ≡ with_log ((form_meaning t l p n f).place Read (heard c w) s)) → (s : State) → (meaning t k (probed_node c Read (node p o n f) w)).value (quiet m) (as_log s) ≡ with_log ((form_meaning t l p n f).value (heard c w) s)
  site_sim c p o n f w place is here few m go s =
      let v = with_site c Read p n f w in
      let g = probed_form c Read f v in
      ap (λ b. (meaning t k (if b then in_sites Read (has_scalar n) w (node p o n g) else node p o n g)).value (quiet m) (as_log s)) place
      ∙ (read_sim t k m c w p o n g (form_meaning t l p n f).place (form_meaning t k p n g).place is (form_uses c Read f v place) go (λ scalar. few_read c p n f w place scalar (few_before (form_before c Read f v) few)) s
      ∙ ap (λ (z : Meaning). with_log (z.value (heard c w) s)) (sym here))

  name_sim : (c : Around) (p o : Pos) (n : NoteShape) (x : Text) (w : Walked) → IsName n → HasFewItems (walk_node c Read (node p o n (leaf (name x))) w) → (m : ℕ) (s : State) → (meaning t k (probed_node c Read (node p o n (leaf (name x))) w)).value (quiet m) (as_log s) ≡ with_log ((form_meaning t l p n (leaf (name x))).value (heard c w) s)
  name_sim c p o (typed y (Some v)) x w clean few m s = site_sim c p o (typed y (Some v)) (leaf (name x)) w refl refl refl few m (λ s. sim_turn s _ _ (λ s. variable_sim t y v s)) s
  name_sim c p o (typed (int y) None) x w clean few m s = absurd (true≢false clean)
  name_sim c p o (typed (pointer y) None) x w clean few m s = absurd (true≢false clean)
  name_sim c p o (typed (array y j) None) x w clean few m s = sim_turn s _ _ (λ s. refl)
  name_sim c p o (typed (structure j) None) x w clean few m s = sim_turn s _ _ (λ s. refl)
  name_sim c p o (typed nothing None) x w clean few m s = sim_turn s _ _ (λ s. refl)
  name_sim c p o (known y v) x w clean few m s = sim_turn s _ _ (λ s. refl)
  name_sim c p o bare x w clean few m s = sim_turn s _ _ (λ s. refl)

  -- what a place that is none of a name is found by
  deref_sim : (c : Around) (r : Taken) (p : Pos) (n : NoteShape) (a : NodeShape) (w : Walked) (m : ℕ) → (let u = with_site c r p n (prefix (unary front.Deref) a) w in (s : State) → (meaning t k (probed_node c Read a u)).value (quiet m) (as_log s) ≡ with_log ((meaning t l a).value (heard c u) s)) → (s : State) → (form_meaning t k p n (probed_form c r (prefix (unary front.Deref) a) (with_site c r p n (prefix (unary front.Deref) a) w))).place r (quiet m) (as_log s) ≡ with_log ((form_meaning t l p n (prefix (unary front.Deref) a)).place r (heard c w) s)
  deref_sim c r p n a w m go s = sim_turn s _ _ (λ s. sim_then _ _ _ _ (sim_needed _ _ (go s)) (λ v s. sim_settled (target v) s))

  element_sim : (c : Around) (r : Taken) (p : Pos) (n : NoteShape) (a b : NodeShape) (w : Walked) (m : ℕ) → (let u = with_site c r p n (suffix a (index b)) w in (s : State) → (meaning t k (probed_node c Read a u)).value (quiet m) (as_log s) ≡ with_log ((meaning t l a).value (heard c u) s)) → (let v = walk_node c Read a (with_site c r p n (suffix a (index b)) w) in (s : State) → (meaning t k (probed_node c Read b v)).value (quiet m) (as_log s) ≡ with_log ((meaning t l b).value (heard c v) s)) → (s : State) → (form_meaning t k p n (probed_form c r (suffix a (index b)) (with_site c r p n (suffix a (index b)) w))).place r (quiet m) (as_log s) ≡ with_log ((form_meaning t l p n (suffix a (index b))).place r (heard c w) s)
  element_sim c r p n a b w m go then_go s = sim_turn s _ _ (λ s.
      let u = with_site c r p n (suffix a (index b)) w in
      sim_then _ _ _ _ (sim_needed _ _ (go s)) (λ x s.
      sim_then _ _ _ _ (sim_needed _ _ (then_go s)) (λ y s.
      sim_then _ _ _ _ (ap₂ (λ d e. settled (element_pointer d e x y) (as_log s)) (same_operand c Read a u) (same_operand c Read b (walk_node c Read a u)) ∙ sim_settled (element_pointer (operand a) (operand b) x y) s) (λ v s. sim_settled (target v) s))))

  dot_sim : (c : Around) (r : Taken) (p : Pos) (n : NoteShape) (a : NodeShape) (x : Text) (q : Pos) (w : Walked) (m : ℕ) → (let u = with_site c r p n (suffix a (field dot x q)) w in (s : State) → (meaning t k (probed_node c Read a u)).place Read (quiet m) (as_log s) ≡ with_log ((meaning t l a).place Read (heard c u) s)) → (s : State) → (form_meaning t k p n (probed_form c r (suffix a (field dot x q)) (with_site c r p n (suffix a (field dot x q)) w))).place r (quiet m) (as_log s) ≡ with_log ((form_meaning t l p n (suffix a (field dot x q))).place r (heard c w) s)
  dot_sim c r p n a x q w m go s = sim_turn s _ _ (λ s.
      let u = with_site c r p n (suffix a (field dot x q)) w in
      sim_then _ _ _ _ (go s) (λ q s. ap (λ z. field_place t x z q (as_log s)) (same_type c Read a u) ∙ field_sim t x (type_at a) q s))

  arrow_sim : (c : Around) (r : Taken) (p : Pos) (n : NoteShape) (a : NodeShape) (x : Text) (q : Pos) (w : Walked) (m : ℕ) → (let u = with_site c r p n (suffix a (field arrow x q)) w in (s : State) → (meaning t k (probed_node c Read a u)).value (quiet m) (as_log s) ≡ with_log ((meaning t l a).value (heard c u) s)) → (s : State) → (form_meaning t k p n (probed_form c r (suffix a (field arrow x q)) (with_site c r p n (suffix a (field arrow x q)) w))).place r (quiet m) (as_log s) ≡ with_log ((form_meaning t l p n (suffix a (field arrow x q))).place r (heard c w) s)
  arrow_sim c r p n a x q w m go s = sim_turn s _ _ (λ s.
      let u = with_site c r p n (suffix a (field arrow x q)) w in
      sim_then _ _ _ _ (sim_needed _ _ (go s)) (λ v s.
      sim_then _ _ _ _ (sim_settled (target v) s) (λ q s. ap (λ z. field_place t x (pointed z) q (as_log s)) (same_operand c Read a u) ∙ field_sim t x (pointed (operand a)) q s)))

  unary_sim : (c : Around) (u : UnaryOp) (a : NodeShape) (w : Walked) (m : ℕ) → ((s : State) → (meaning t k (probed_node c Read a w)).value (quiet m) (as_log s) ≡ with_log ((meaning t l a).value (heard c w) s)) → (s : State) → turn (as_log s) (λ s. then_do (needed ((meaning t k (probed_node c Read a w)).value (quiet m) s)) (λ v s. then_do (settled (of_one u (operand (probed_node c Read a w)) v) s) gives)) ≡ with_log (turn s (λ s. then_do (needed ((meaning t l a).value (heard c w) s)) (λ v s. then_do (settled (of_one u (operand a) v) s) gives)))
  unary_sim c u a w m go s = sim_turn s _ _ (λ s.
      sim_then _ _ _ _ (sim_needed _ _ (go s)) (λ x s.
      sim_then _ _ _ _ (ap (λ d. settled (of_one u d x) (as_log s)) (same_operand c Read a w) ∙ sim_settled (of_one u (operand a) x) s) (λ v s. refl)))

  step_sim : (c : Around) (f : Bool) (u : Step) (a : NodeShape) (w : Walked) → IsReady Changed a → HasFewItems (walk_node c Changed a w) → (m : ℕ) → ((s : State) → (meaning t k (probed_node c Changed a w)).place Changed (quiet m) (as_log s) ≡ with_log ((meaning t l a).place Changed (heard c w) s)) → (s : State) → step_value f u (probed_node c Changed a w) (meaning t k (probed_node c Changed a w)) (quiet m) (as_log s) ≡ with_log (step_value f u a (meaning t l a) (heard c w) s)
  step_sim c f u a w clean few m go s =
      let i = changed_at c a w clean few in
      sim_then _ _ _ _ (go s) (λ q s.
      sim_then _ _ _ _ (loaded_at _ (marks used a) m c w q s i.uses (no_uses Changed a clean) i.few_uses) (λ x s.
      sim_then _ _ _ _ (ap (λ d. settled (stepped_by_one u d x) (as_log s)) (same_operand c Changed a w) ∙ sim_settled (stepped_by_one u (operand a) x) s) (λ v s.
      sim_then _ _ _ _ (written_to _ (type_at a) _ (marks def a) m c w q v s (same_type c Changed a w) i.defs (no_defs Changed a clean) i.few_defs) (λ v s. stepped_sim f x v s))))

  -- the right side of `=`: a structure's place is copied, and another's value is written
  right_sim : (copies : Bool) (c : Around) (a b : NodeShape) (w v : Walked) → IsReady Written a → IsWrittenAt (probed_node c Written a w) w → (let r = if copies then Copied else Read in IsReady r b → HasFewItems (walk_node c r b v) → (m : ℕ) → (IsReady Read b → HasFewItems (walk_node c Read b v) → (s : State) → (meaning t k (probed_node c Read b v)).value (quiet m) (as_log s) ≡ with_log ((meaning t l b).value (heard c v) s)) → (IsReady Copied b → HasFewItems (walk_node c Copied b v) → (s : State) → (meaning t k (probed_node c Copied b v)).place Copied (quiet m) (as_log s) ≡ with_log ((meaning t l b).place Copied (heard c v) s)) → (q : Pointer) (s : State) → (let x = probed_node c Written a w in let y = probed_node c r b v in assigned copies (type_at x) (marks def x) (marks used y) (meaning t k y) (quiet m) (quiet m) q (as_log s) ≡ with_log (assigned copies (type_at a) (marks def a) (marks used b) (meaning t l b) (heard c w) (heard c v) q s)))
  right_sim true c a b w v left i clean few m value place q s =
      let j = copied_at c b v clean few in
      sim_then _ _ _ _ (place clean few s) (λ p s. copied_to _ (marks def a) _ (marks used b) m c w v q p s i.defs (no_defs Written a left) j.uses (no_uses Copied b clean) i.few j.few)
  right_sim false c a b w v left i clean few m value place q s =
      sim_then _ _ _ _ (sim_needed _ _ (value clean few s)) (λ x s. written_to _ (type_at a) _ (marks def a) m c w q x s (same_type c Written a w) i.defs (no_defs Written a left) i.few)

  -- the right operand of `&&` and `||`
  last_sim : (c : Around) (a : NodeShape) (w : Walked) → HasFewItems (walk_test c a (with_block (pos_of a) w)) → (m : ℕ) → (let v = with_block (pos_of a) w in (s : State) → tested (probed_test c a v) (meaning t k (probed_test c a v)) (quiet m) (as_log s) ≡ with_log (tested a (meaning t l a) (heard c v) s)) → (s : State) → last_test (in_block w (probed_test c a (with_block (pos_of a) w))) (meaning t k (in_block w (probed_test c a (with_block (pos_of a) w)))) (quiet m) (as_log s) ≡ with_log (last_test a (meaning t l a) (heard c w) s)
  last_sim c a w few m go s =
      let v = with_block (pos_of a) w in
      sim_then _ _ _ _ (round_right t k m c w (probed_test c a v) s (tested a (meaning t l a) (heard c v)) (few_blocks (pos_of a) w (few_before (test_node_on c a v) few)) go) (λ x s. refl)

  mutual
    -- as a value
    pub value_sim : (c : Around) (a : NodeShape) (w : Walked) → IsReady Read a → HasFewItems (walk_node c Read a w) → (m : ℕ) (s : State) → (meaning t k (probed_node c Read a w)).value (quiet m) (as_log s) ≡ with_log ((meaning t l a).value (heard c w) s)
    value_sim c (node p o n f) w clean few m s = form_sim c p o n f w clean.1 few m s

    form_sim : (c : Around) (p o : Pos) (n : NoteShape) (f : ExprShape) (w : Walked) → HasReadyParts Read n f → HasFewItems (walk_node c Read (node p o n f) w) → (m : ℕ) (s : State) → (meaning t k (probed_node c Read (node p o n f) w)).value (quiet m) (as_log s) ≡ with_log ((form_meaning t l p n f).value (heard c w) s)
    form_sim c p o n (leaf (number x)) w clean few m s = sim_turn s _ _ (λ s. number_sim (number_of x) s)
    form_sim c p o n (leaf (char b)) w clean few m s = sim_turn s _ _ (λ s. refl)
    form_sim c p o n (leaf (str x)) w clean few m s = sim_turn s _ _ (λ s. literal_sim n x s)
    form_sim c p o n (leaf (name x)) w clean few m s = name_sim c p o n x w clean few m s
    form_sim c p o n (paren a) w clean few m s = value_sim c a w clean few m s
    form_sim c p o n (call x args) w clean few m s = sim_turn s _ _ (λ s. sim_then _ _ _ _ (arguments_sim c args (params_of t n) w clean few m s) (λ vs s. called_sim n vs s))
    form_sim c p o n (prefix (unary front.AddressOf) a) w clean few m s = sim_turn s _ _ (λ s. sim_then _ _ _ _ (place_sim c Addressed a w clean few m s) (λ q s. refl))
    form_sim c p o n (prefix (unary front.Deref) a) w clean few m s = site_sim c p o n (prefix (unary front.Deref) a) w refl refl refl few m (deref_sim c Read p n a w m (λ s. value_sim c a (with_site c Read p n (prefix (unary front.Deref) a) w) clean few m s)) s
    form_sim c p o n (prefix (unary front.Plus) a) w clean few m s = unary_sim c front.Plus a w m (λ s. value_sim c a w clean few m s) s
    form_sim c p o n (prefix (unary front.Minus) a) w clean few m s = unary_sim c front.Minus a w m (λ s. value_sim c a w clean few m s) s
    form_sim c p o n (prefix (unary front.Flip) a) w clean few m s = unary_sim c front.Flip a w m (λ s. value_sim c a w clean few m s) s
    form_sim c p o n (prefix (unary front.Not) a) w clean few m s = unary_sim c front.Not a w m (λ s. value_sim c a w clean few m s) s
    form_sim c p o n (prefix (before u) a) w clean few m s = sim_turn s _ _ (λ s. step_sim c true u a w clean few m (λ s. place_sim c Changed a w clean few m s) s)
    form_sim c p o n (prefix size_of a) w clean few m s = sim_turn s _ _ (λ s. noted_sim n s)
    form_sim c p o n (size_of_type y) w clean few m s = sim_turn s _ _ (λ s. noted_sim n s)
    form_sim c p o n (cast y a) w clean few m s = sim_turn s _ _ (λ s. cast_sim (kind_noted n) _ _ (value_sim c a w clean few m s))
    form_sim c p o n (suffix a (index b)) w clean few m s = site_sim c p o n (suffix a (index b)) w refl refl refl few m (element_sim c Read p n a b w m (λ s. value_sim c a (with_site c Read p n (suffix a (index b)) w) clean.0 (few_before (node_on c Read b (walk_node c Read a (with_site c Read p n (suffix a (index b)) w))) few) m s) (λ s. value_sim c b (walk_node c Read a (with_site c Read p n (suffix a (index b)) w)) clean.1 few m s)) s
    form_sim c p o n (suffix a (field dot x q)) w clean few m s = site_sim c p o n (suffix a (field dot x q)) w refl refl refl few m (dot_sim c Read p n a x q w m (λ s. place_sim c Read a (with_site c Read p n (suffix a (field dot x q)) w) clean few m s)) s
    form_sim c p o n (suffix a (field arrow x q)) w clean few m s = site_sim c p o n (suffix a (field arrow x q)) w refl refl refl few m (arrow_sim c Read p n a x q w m (λ s. value_sim c a (with_site c Read p n (suffix a (field arrow x q)) w) clean few m s)) s
    form_sim c p o n (suffix a (behind u)) w clean few m s = sim_turn s _ _ (λ s. step_sim c false u a w clean few m (λ s. place_sim c Changed a w clean few m s) s)
    form_sim c p o n (two (plain u) a b) w clean few m s = sim_turn s _ _ (λ s.
        let v = walk_node c Read a w in
        sim_then _ _ _ _ (sim_needed _ _ (value_sim c a w clean.0 (few_before (node_on c Read b v) few) m s)) (λ x s.
        sim_then _ _ _ _ (sim_needed _ _ (value_sim c b v clean.1 few m s)) (λ y s.
        sim_then _ _ _ _ (ap₂ (λ d e. settled (operated u d e x y) (as_log s)) (same_operand c Read a w) (same_operand c Read b v) ∙ sim_settled (operated u (operand a) (operand b) x y) s) (λ v s. refl))))
    form_sim c p o n (two and a b) w clean few m s = sim_turn s _ _ (λ s.
        sim_then _ _ _ _ (test_sim c a w clean.0 (few_before (right_before c a b w) few) m s) (λ x s.
        sim_if x _ _ (gives (Int (pos 0)) (as_log s)) (gives (Int (pos 0)) s) (last_sim c b (walk_test c a w) few m (λ s. test_sim c b (with_block (pos_of b) (walk_test c a w)) clean.1 few m s) s) refl))
    form_sim c p o n (two or a b) w clean few m s = sim_turn s _ _ (λ s.
        sim_then _ _ _ _ (test_sim c a w clean.0 (few_before (right_before c a b w) few) m s) (λ x s.
        sim_if x (gives (Int (pos 1)) (as_log s)) (gives (Int (pos 1)) s) _ _ refl (last_sim c b (walk_test c a w) few m (λ s. test_sim c b (with_block (pos_of b) (walk_test c a w)) clean.1 few m s) s)))
    form_sim c p o n (two (assign None) a b) w clean few m s = sim_turn s _ _ (λ s.
        let v = walk_node c Written a w in
        let few_a = few_before (node_on c (right_taken None a) b v) few in
        let x = probed_node c Written a w in
        let y = probed_node c (right_taken None a) b v in
        sim_then _ _ _ _ (place_sim c Written a w clean.0 few_a m s) (λ q s.
        ap (λ z. assigned z (type_at x) (marks def x) (marks used y) (meaning t k y) (quiet m) (quiet m) q (as_log s)) (same_structure c Written a w)
        ∙ right_sim (holds_structure a) c a b w v clean.0 (written_at c a w clean.0 few_a) clean.1 few m (λ is few s. value_sim c b v is few m s) (λ is few s. place_sim c Copied b v is few m s) q s))
    form_sim c p o n (two (assign (Some u)) a b) w clean few m s = sim_turn s _ _ (λ s.
        let v = walk_node c Changed a w in
        let few_a = few_before (node_on c Read b v) few in
        let i = changed_at c a w clean.0 few_a in
        sim_then _ _ _ _ (place_sim c Changed a w clean.0 few_a m s) (λ q s.
        sim_then _ _ _ _ (loaded_at _ (marks used a) m c w q s i.uses (no_uses Changed a clean.0) i.few_uses) (λ x s.
        sim_then _ _ _ _ (sim_needed _ _ (value_sim c b v clean.1 few m s)) (λ y s.
        sim_then _ _ _ _ (ap₂ (λ d e. settled (operated u d e x y) (as_log s)) (same_operand c Changed a w) (same_operand c Read b v) ∙ sim_settled (operated u (operand a) (operand b) x y) s) (λ z s.
        written_to _ (type_at a) _ (marks def a) m c w q z s (same_type c Changed a w) i.defs (no_defs Changed a clean.0) i.few_defs)))))
    form_sim c p o n (two comma a b) w clean few m s = sim_turn s _ _ (λ s.
        let v = walk_node c Read a w in
        sim_then _ _ _ _ (value_sim c a w clean.0 (few_before (node_on c Read b v) few) m s) (λ x s. value_sim c b v clean.1 few m s))
    form_sim c p o n (choose a b d) w clean few m s = sim_turn s _ _ (λ s.
        let u = walk_test c a w in
        let v = walk_arm c b u in
        let few_b = few_before (arm_on c d v) few in
        sim_then _ _ _ _ (test_sim c a w clean.0 (few_before (arm_on c b u) few_b) m s) (λ x s.
        sim_then _ _ _ _ (sim_if x _ _ _ _ (arm_sim c b u clean.1 few_b m s) (arm_sim c d v clean.2 few m s)) (λ z s. refl)))
    form_sim c p o n (probe u a) w clean few m s = absurd clean

    -- at a test position
    pub test_sim : (c : Around) (a : NodeShape) (w : Walked) → IsReady Read a → HasFewItems (walk_test c a w) → (m : ℕ) (s : State) → tested (probed_test c a w) (meaning t k (probed_test c a w)) (quiet m) (as_log s) ≡ with_log (tested a (meaning t l a) (heard c w) s)
    test_sim c (node p o n f) w clean few m s =
        let d = inside_test c f w in
        let v = with_test p f w in
        round_test t k (is_logical_form f) m c w (probed_node d Read (node p o n f) v) ((form_meaning t l p n f).value (heard d v) s) s (λ other. few_tests p f w other (few_before (node_on d Read (node p o n f) v) few)) (form_sim d p o n f v clean.1 few m s)

    -- an expression that is a block
    pub arm_sim : (c : Around) (a : NodeShape) (w : Walked) → IsReady Read a → HasFewItems (walk_arm c a w) → (m : ℕ) (s : State) → (meaning t k (probed_arm c a w)).value (quiet m) (as_log s) ≡ with_log (arm a (heard c w) s (meaning t l a).value)
    arm_sim c (node p o n f) w clean few m s =
        let v = with_block p w in
        round_block t k m c w (probed_node c Read (node p o n f) v) s ((form_meaning t l p n f).value (heard c v)) (few_blocks p w (few_before (node_on c Read (node p o n f) v) few)) (λ s. form_sim c p o n f v clean.1 few m s)

    arguments_sim : (c : Around) (es : NodeShapes) (ts : List TypeOf) (w : Walked) → AreReady es → HasFewItems (walk_nodes c es w) → (m : ℕ) (s : State) → arguments t k (probed_nodes c es w) ts (quiet m) (as_log s) ≡ with_log (arguments t l es ts (heard c w) s)
    arguments_sim c no_nodes ts w clean few m s = refl
    arguments_sim c (more_nodes a rest) ts w clean few m s =
        let v = walk_node c Read a w in
        sim_then _ _ _ _ (sim_needed _ _ (value_sim c a w clean.0 (few_before (nodes_before c rest v) few) m s)) (λ x s.
        sim_then _ _ _ _ (arguments_sim c rest (drop 1 ts) v clean.1 few m s) (λ vs s. refl))

    -- as a place
    pub place_sim : (c : Around) (r : Taken) (a : NodeShape) (w : Walked) → IsReady r a → HasFewItems (walk_node c r a w) → (m : ℕ) (s : State) → (meaning t k (probed_node c r a w)).place r (quiet m) (as_log s) ≡ with_log ((meaning t l a).place r (heard c w) s)
    place_sim c r (node p o n f) w clean few m s =
        ap (λ (z : Taken → First → State → Got Pointer). z r (quiet m) (as_log s)) (sited_place t k r p o n f (probed_form c r f (with_site c r p n f w)) w) ∙ inner_sim c r p n f w clean.1 few m s

    inner_sim : (c : Around) (r : Taken) (p : Pos) (n : NoteShape) (f : ExprShape) (w : Walked) → HasReadyParts r n f → HasFewItems (walk_form c r f (with_site c r p n f w)) → (m : ℕ) (s : State) → (form_meaning t k p n (probed_form c r f (with_site c r p n f w))).place r (quiet m) (as_log s) ≡ with_log ((form_meaning t l p n f).place r (heard c w) s)
    inner_sim c r p n (leaf (number x)) w clean few m s = refl
    inner_sim c r p n (leaf (char b)) w clean few m s = refl
    inner_sim c r p n (leaf (str x)) w clean few m s = refl
    inner_sim c r p (typed y (Some v)) (leaf (name x)) w clean few m s = sim_turn s _ _ (λ s. variable_sim t y v s)
    inner_sim c r p (typed y None) (leaf (name x)) w clean few m s = refl
    inner_sim c r p (known y v) (leaf (name x)) w clean few m s = refl
    inner_sim c r p bare (leaf (name x)) w clean few m s = refl
    inner_sim c r p n (paren a) w clean few m s = place_sim c r a w clean few m s
    inner_sim c r p n (call x args) w clean few m s = refl
    inner_sim c r p n (prefix (unary front.AddressOf) a) w clean few m s = refl
    inner_sim c r p n (prefix (unary front.Deref) a) w clean few m s = deref_sim c r p n a w m (λ s. value_sim c a (with_site c r p n (prefix (unary front.Deref) a) w) clean few m s) s
    inner_sim c r p n (prefix (unary front.Plus) a) w clean few m s = refl
    inner_sim c r p n (prefix (unary front.Minus) a) w clean few m s = refl
    inner_sim c r p n (prefix (unary front.Flip) a) w clean few m s = refl
    inner_sim c r p n (prefix (unary front.Not) a) w clean few m s = refl
    inner_sim c r p n (prefix (before u) a) w clean few m s = refl
    inner_sim c r p n (prefix size_of a) w clean few m s = refl
    inner_sim c r p n (size_of_type y) w clean few m s = refl
    inner_sim c r p n (cast y a) w clean few m s = refl
    inner_sim c r p n (suffix a (index b)) w clean few m s = element_sim c r p n a b w m (λ s. value_sim c a (with_site c r p n (suffix a (index b)) w) clean.0 (few_before (node_on c Read b (walk_node c Read a (with_site c r p n (suffix a (index b)) w))) few) m s) (λ s. value_sim c b (walk_node c Read a (with_site c r p n (suffix a (index b)) w)) clean.1 few m s) s
    inner_sim c r p n (suffix a (field dot x q)) w clean few m s = dot_sim c r p n a x q w m (λ s. place_sim c Read a (with_site c r p n (suffix a (field dot x q)) w) clean few m s) s
    inner_sim c r p n (suffix a (field arrow x q)) w clean few m s = arrow_sim c r p n a x q w m (λ s. value_sim c a (with_site c r p n (suffix a (field arrow x q)) w) clean few m s) s
    inner_sim c r p n (suffix a (behind u)) w clean few m s = refl
    inner_sim c r p n (two (plain u) a b) w clean few m s = refl
    inner_sim c r p n (two and a b) w clean few m s = refl
    inner_sim c r p n (two or a b) w clean few m s = refl
    inner_sim c r p n (two (assign None) a b) w clean few m s = refl
    inner_sim c r p n (two (assign (Some u)) a b) w clean few m s = refl
    inner_sim c r p n (two comma a b) w clean few m s = sim_turn s _ _ (λ s.
        let v = walk_node c Read a w in
        sim_then _ _ _ _ (value_sim c a w clean.0 (few_before (node_on c Read b v) few) m s) (λ x s. place_sim c Read b v clean.1 few m s))
    inner_sim c r p n (choose a b d) w clean few m s = refl
    inner_sim c r p n (probe u a) w clean few m s = absurd clean
