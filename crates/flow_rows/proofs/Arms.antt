-- The forms of expressions, each from its parts.
use Rattle.std.proofs.Common.{ℕ, ◌≡◌, false, Option, refl, sym, subst}
use Rattle.c_base.specs.declared.place.Pos.{Pos}
use Rattle.c_syntax.specs.declared.text.Text.{Text}
use Rattle.c_syntax.specs.declared.tree.StepOp.{StepOp}
use Rattle.c_syntax.specs.declared.tree.StepOp.TheVariants as way
use Rattle.c_syntax.specs.declared.tree.UnaryOp.{UnaryOp}
use Rattle.c_syntax.specs.declared.tree.BinaryOp.{BinaryOp}
use Rattle.c_syntax.specs.Shape.{NoteShape, Access, TypeShape, ProbeShape, unary, size_of, plain, assign, comma, NodeShape, ExprShape, Leaf, leaf, number, char, str, name, paren, call, prefix, size_of_type, cast, suffix, two, choose, probe, index, field, NodeShapes}
use Rattle.c_syntax.specs.View.{step_shape}
use Rattle.c_tables.specs.Tables.{TablesShape}
use Rattle.c_walk.specs.declared.around.Around.{Around}
use Rattle.c_walk.specs.declared.around.Taken.{Taken}
use Rattle.c_walk.specs.declared.around.Taken.TheVariants.{Read, Written, Changed, Copied, Addressed}
use Rattle.c_walk.specs.Items.{both}
use Rattle.c_walk.specs.Places.{is_place}
use Rattle.c_walk.specs.Tests.{outcomes_of_form}
use Rattle.c_walk.specs.Walked.{Walked, operand_taken, left_taken, right_taken, with_site}
use Rattle.c_walk.specs.Walking.{walk_node, walk_form, walk_test, walk_arm, walk_nodes}
use Rattle.c_walk.specs.Counted.{next_use}
use Rattle.flow_walks.specs.declared.action.Action.TheVariants.{Use}
use Rattle.flow_walks.specs.Comes.{Comes, act, emit_if, value, evaluated}
use Rattle.flow_walks.specs.Expressions.{reads, read_form, used_at, defined_at, changed_at, entered, node_goes, form_goes, test_goes, arm_goes, nodes_go}
use Rattle.flow_walks.proofs.More.{In, value_in, test_in, arm_in, nodes_in, changed_in}
use Rattle.flow_rows.specs.Paths.{Graph}
use Rattle.flow_rows.specs.Counts.{counts, Counted}
use Rattle.flow_rows.specs.Laying.{Grown, LedAt, Placed, ways}
use Rattle.flow_rows.specs.declared.numbers.Numbers.{Numbers}
use Rattle.flow_rows.specs.declared.targets.To.{To}
use Rattle.flow_rows.specs.declared.targets.To.TheVariants.{Value}
use Rattle.flow_rows.proofs.Laws.{lead_placed, counted_placed}

abbrev Goes : Type 1
Goes = Around → Walked → (ℕ → Comes) → Comes

abbrev Walks : Type 0
Walks = Around → Walked → Walked

not_read : (r : Taken) (x : NoteShape) (f : ExprShape) → is_place f ≡ false → reads r x f ≡ false
not_read Read x f e = rw e refl
not_read Written x f e = refl
not_read Changed x f e = refl
not_read Copied x f e = rw e refl
not_read Addressed x f e = refl

-- a form is laid
abbrev pub FormPlaced : TablesShape → Taken → Pos → NoteShape → ExprShape → To → Graph → Graph → Numbers → Numbers → ℕ → Type 0
FormPlaced t r p x f to g h n m at = Placed g h n m at (λ c w k. form_goes t c r p x f w (ways k to)) (λ c w. walk_form c r f (with_site c r p x f w))

module _ (t : TablesShape) (r : Taken) (p : Pos) (x : NoteShape) (f : ExprShape) (to : To) (at : ℕ) (n m : Numbers) where
  -- a part behind what is counted by itself, which leads to a row that was laid before
  part_placed : (g h i : Graph) (l : Numbers) (y : ℕ) (F : Around → Walked → Comes → Comes) (G : Walked → (ℕ → Comes) → Comes) (pre walk : Walks)
      → ((c : Around) (w : Walked) (j k : Comes) → In j k → In (F c w j) (F c w k))
      → Grown g h → ((w : Walked) → counts w ≡ n → LedAt h y (G w)) → Counted n l pre → Placed h i l m at (λ c w k. F c w (k y)) walk
      → Placed g i n m at (λ c w k. F c (pre c w) (G w k)) (λ c w. walk c (pre c w))
  part_placed g h i l y F G pre walk mono gh led count a =
      lead_placed n g h i m at y (λ c w k. F c (pre c w)) G (λ c w. walk c (pre c w)) (λ c w k j l. mono c (pre c w) j l) gh led
      (counted_placed n h i l m at (λ c w k. F c w (k y)) pre walk count a)

  -- ---- leaves

  unread : (g h : Graph) (l : Leaf) (walk : Walks) → reads r x (leaf l) ≡ false → Placed g h n m at (λ c w k. evaluated (outcomes_of_form (leaf l)) (ways k to)) walk → Placed g h n m at (λ c w k. read_form r x (leaf l) w (evaluated (outcomes_of_form (leaf l)) (ways k to))) walk
  unread g h l walk e a = subst (λ b. Placed g h n m at (λ c w k. emit_if b (act (Use (next_use w))) (evaluated (outcomes_of_form (leaf l)) (ways k to))) walk) (sym e) a

  abbrev Constant : Graph → Graph → ExprShape → Type 0
  Constant g h f = Placed g h n m at (λ c w k. evaluated (outcomes_of_form f) (ways k to)) (λ c w. w)

  abbrev Formed : Graph → Graph → ExprShape → Type 0
  Formed g h f = FormPlaced t r p x f to g h n m at

  pub number_arm : (g h : Graph) (z : Text) → f ≡ leaf (number z) → Constant g h f → Formed g h f
  number_arm g h z is = subst (λ f. Constant g h f → Formed g h f) (sym is) (λ a. unread g h (number z) (λ c w. w) (not_read r x (leaf (number z)) refl) a)

  pub char_arm : (g h : Graph) (z : ℕ) → f ≡ leaf (char z) → Constant g h f → Formed g h f
  char_arm g h z is = subst (λ f. Constant g h f → Formed g h f) (sym is) (λ a. unread g h (char z) (λ c w. w) (not_read r x (leaf (char z)) refl) a)

  pub str_arm : (g h : Graph) (z : Text) → f ≡ leaf (str z) → Constant g h f → Formed g h f
  str_arm g h z is = subst (λ f. Constant g h f → Formed g h f) (sym is) (λ a. unread g h (str z) (λ c w. w) (not_read r x (leaf (str z)) refl) a)

  pub name_arm : (g h : Graph) (z : Text) → f ≡ leaf (name z) → Placed g h n m at (λ c w k. read_form r x f w (evaluated both (ways k to))) (λ c w. with_site c r p x f w) → Formed g h f
  name_arm g h z is = subst (λ f. Placed g h n m at (λ c w k. read_form r x f w (evaluated both (ways k to))) (λ c w. with_site c r p x f w) → Formed g h f) (sym is) (λ a. a)

  -- ---- one part

  abbrev NodePlaced : Graph → Graph → Numbers → Taken → NodeShape → To → Type 0
  NodePlaced g h l s a to' = Placed g h l m at (λ c w k. node_goes t c s a w (ways k to')) (λ c w. walk_node c s a w)

  pub paren_arm : (g h : Graph) (a : NodeShape) → f ≡ paren a → NodePlaced g h n r a to → Formed g h f
  paren_arm g h a is l = subst (Formed g h) (sym is) l

  pub probe_arm : (g h : Graph) (u : ProbeShape) (a : NodeShape) → f ≡ probe u a → NodePlaced g h n r a to → Formed g h f
  probe_arm g h u a is l = subst (Formed g h) (sym is) l

  -- the row of its own use, behind which it is left
  abbrev ReadOut : Graph → ℕ → ExprShape → Type 0
  ReadOut g y f = (w : Walked) → counts w ≡ n → LedAt g y (λ k. read_form r x f w (evaluated both (ways k to)))

  abbrev Sited : Numbers → ExprShape → Type 0
  Sited l f = Counted n l (λ c w. with_site c r p x f w)

  pub unary_arm : (g h i : Graph) (l : Numbers) (y : ℕ) (q : UnaryOp) (a : NodeShape) → f ≡ prefix (unary q) a → Grown g h → ReadOut h y f → Sited l f → NodePlaced h i l (operand_taken q) a (Value y) → Formed g i f
  unary_arm g h i l y q a is gh out count part =
      subst (λ f. ReadOut h y f → Sited l f → Formed g i f) (sym is) (λ out count.
      part_placed g h i l y (λ c w j. node_goes t c (operand_taken q) a w (value j)) (λ w k. read_form r x (prefix (unary q) a) w (evaluated both (ways k to))) (λ c w. with_site c r p x (prefix (unary q) a) w) (λ c w. walk_node c (operand_taken q) a w)
      (λ c w. value_in t c (operand_taken q) a w) gh out count part) out count

  pub field_arm : (g h i : Graph) (l : Numbers) (y : ℕ) (a : NodeShape) (b : Access) (z : Text) (q : Pos) → f ≡ suffix a (field b z q) → Grown g h → ReadOut h y f → Sited l f → NodePlaced h i l Read a (Value y) → Formed g i f
  field_arm g h i l y a b z q is gh out count part =
      subst (λ f. ReadOut h y f → Sited l f → Formed g i f) (sym is) (λ out count.
      part_placed g h i l y (λ c w j. node_goes t c Read a w (value j)) (λ w k. read_form r x (suffix a (field b z q)) w (evaluated both (ways k to))) (λ c w. with_site c r p x (suffix a (field b z q)) w) (λ c w. walk_node c Read a w)
      (λ c w. value_in t c Read a w) gh out count part) out count

  -- the row at which it is left
  abbrev Out : Graph → ℕ → Type 0
  Out g y = LedAt g y (λ k. evaluated both (ways k to))

  pub cast_arm : (g h i : Graph) (y : ℕ) (z : TypeShape) (a : NodeShape) → f ≡ cast z a → Grown g h → Out h y → NodePlaced h i n Read a (Value y) → Formed g i f
  cast_arm g h i y z a is gh out part =
      subst (Formed g i) (sym is) (part_placed g h i n y (λ c w j. node_goes t c Read a w (value j)) (λ w k. evaluated both (ways k to)) (λ c w. w) (λ c w. walk_node c Read a w) (λ c w. value_in t c Read a w) gh (λ w e. out) (λ c w e. e) part)

  abbrev SteppedOut : Graph → ℕ → NodeShape → Type 0
  SteppedOut g y a = (w : Walked) → counts w ≡ n → LedAt g y (λ k. used_at a w (defined_at a w (evaluated both (ways k to))))

  stepped : (g h i : Graph) (y : ℕ) (q : StepOp) (a : NodeShape) → Placed g i n m at (λ c w k. node_goes t c Changed a w (value (used_at a w (defined_at a w (evaluated both (ways k to)))))) (λ c w. walk_node c Changed a w) → Formed g i (step_shape q a)
  stepped g h i y way.PreInc a l = l
  stepped g h i y way.PreDec a l = l
  stepped g h i y way.PostInc a l = l
  stepped g h i y way.PostDec a l = l

  pub step_arm : (g h i : Graph) (y : ℕ) (q : StepOp) (a : NodeShape) → f ≡ step_shape q a → Grown g h → SteppedOut h y a → NodePlaced h i n Changed a (Value y) → Formed g i f
  step_arm g h i y q a is gh out part =
      subst (Formed g i) (sym is) (stepped g h i y q a (part_placed g h i n y (λ c w j. node_goes t c Changed a w (value j)) (λ w k. used_at a w (defined_at a w (evaluated both (ways k to)))) (λ c w. w) (λ c w. walk_node c Changed a w) (λ c w. value_in t c Changed a w) gh out (λ c w e. e) part))

  pub size_arm : (g h : Graph) (a : NodeShape) → f ≡ prefix size_of a → Placed g h n m at (λ c w k. evaluated both (ways k to)) (λ c w. w) → Formed g h f
  size_arm g h a is l = subst (Formed g h) (sym is) l

  pub size_type_arm : (g h : Graph) (z : TypeShape) → f ≡ size_of_type z → Placed g h n m at (λ c w k. evaluated both (ways k to)) (λ c w. w) → Formed g h f
  size_type_arm g h z is l = subst (Formed g h) (sym is) l

  -- ---- two parts

  abbrev Pair : Around → NodeShape → NodeShape → Walked → Comes → Comes
  Pair c a b w j = node_goes t c Read a w (value (node_goes t c Read b (walk_node c Read a w) (value j)))

  pair_in : (a b : NodeShape) (c : Around) (w : Walked) (j k : Comes) → In j k → In (Pair c a b w j) (Pair c a b w k)
  pair_in a b c w j k u = value_in t c Read a w _ _ (value_in t c Read b (walk_node c Read a w) j k u)

  abbrev PairPlaced : Graph → Graph → Numbers → NodeShape → NodeShape → ℕ → Type 0
  PairPlaced g h l a b y = Placed g h l m at (λ c w k. Pair c a b w (k y)) (λ c w. walk_node c Read b (walk_node c Read a w))

  pub index_arm : (g h i : Graph) (l : Numbers) (y : ℕ) (a b : NodeShape) → f ≡ suffix a (index b) → Grown g h → ReadOut h y f → Sited l f → PairPlaced h i l a b y → Formed g i f
  index_arm g h i l y a b is gh out count part =
      subst (λ f. ReadOut h y f → Sited l f → Formed g i f) (sym is) (λ out count.
      part_placed g h i l y (λ c w j. Pair c a b w j) (λ w k. read_form r x (suffix a (index b)) w (evaluated both (ways k to))) (λ c w. with_site c r p x (suffix a (index b)) w) (λ c w. walk_node c Read b (walk_node c Read a w)) (pair_in a b) gh out count part) out count

  pair_out : (g h i : Graph) (y : ℕ) (a b : NodeShape) → Grown g h → Out h y → PairPlaced h i n a b y → Placed g i n m at (λ c w k. Pair c a b w (evaluated both (ways k to))) (λ c w. walk_node c Read b (walk_node c Read a w))
  pair_out g h i y a b gh out part = part_placed g h i n y (λ c w j. Pair c a b w j) (λ w k. evaluated both (ways k to)) (λ c w. w) (λ c w. walk_node c Read b (walk_node c Read a w)) (pair_in a b) gh (λ w e. out) (λ c w e. e) part

  pub plain_arm : (g h i : Graph) (y : ℕ) (q : BinaryOp) (a b : NodeShape) → f ≡ two (plain q) a b → Grown g h → Out h y → PairPlaced h i n a b y → Formed g i f
  plain_arm g h i y q a b is gh out part = subst (Formed g i) (sym is) (pair_out g h i y a b gh out part)

  pub comma_arm : (g h i : Graph) (y : ℕ) (a b : NodeShape) → f ≡ two comma a b → Grown g h → Out h y → PairPlaced h i n a b y → Formed g i f
  comma_arm g h i y a b is gh out part = subst (Formed g i) (sym is) (pair_out g h i y a b gh out part)

  abbrev Assigned : Taken → Taken → Around → NodeShape → NodeShape → Walked → Comes → Comes
  Assigned s z c a b w j = node_goes t c s a w (value (changed_at s a w (node_goes t c z b (walk_node c s a w) (value j))))

  pub assign_arm : (g h i : Graph) (y : ℕ) (q : Option BinaryOp) (s z : Taken) (a b : NodeShape) → f ≡ two (assign q) a b → s ≡ left_taken q → z ≡ right_taken q a → Grown g h → ((w : Walked) → counts w ≡ n → LedAt h y (λ k. defined_at a w (evaluated both (ways k to)))) → Placed h i n m at (λ c w k. Assigned s z c a b w (k y)) (λ c w. walk_node c z b (walk_node c s a w)) → Formed g i f
  assign_arm g h i y q s z a b is left right gh out part =
      subst (Formed g i) (sym is) (subst (λ z. Placed g i n m at (λ c w k. Assigned (left_taken q) z c a b w (defined_at a w (evaluated both (ways k to)))) (λ c w. walk_node c z b (walk_node c (left_taken q) a w))) right
      (subst (λ s. Placed g i n m at (λ c w k. Assigned s z c a b w (defined_at a w (evaluated both (ways k to)))) (λ c w. walk_node c z b (walk_node c s a w))) left
      (part_placed g h i n y (λ c w j. Assigned s z c a b w j) (λ w k. defined_at a w (evaluated both (ways k to))) (λ c w. w) (λ c w. walk_node c z b (walk_node c s a w))
      (λ c w j k u. value_in t c s a w _ _ (changed_in s a w _ _ (value_in t c z b (walk_node c s a w) j k u))) gh out (λ c w e. e) part)))

  pub call_arm : (g h i : Graph) (y : ℕ) (z : Text) (args : NodeShapes) → f ≡ call z args → Grown g h → LedAt h y (λ k. entered t x (evaluated both (ways k to))) → Placed h i n m at (λ c w k. nodes_go t c args w (k y)) (λ c w. walk_nodes c args w) → Formed g i f
  call_arm g h i y z args is gh out part =
      subst (Formed g i) (sym is) (part_placed g h i n y (λ c w j. nodes_go t c args w j) (λ w k. entered t x (evaluated both (ways k to))) (λ c w. w) (λ c w. walk_nodes c args w) (λ c w. nodes_in t c args w) gh (λ w e. out) (λ c w e. e) part)

  pub choose_arm : (g h i : Graph) (y : ℕ) (a b d : NodeShape) → f ≡ choose a b d → Grown g h → Out h y
      → Placed h i n m at (λ c w k. test_goes t c a w (arm_goes t c b (walk_test c a w) (k y)) (arm_goes t c d (walk_arm c b (walk_test c a w)) (k y))) (λ c w. walk_arm c d (walk_arm c b (walk_test c a w))) → Formed g i f
  choose_arm g h i y a b d is gh out part =
      subst (Formed g i) (sym is) (part_placed g h i n y (λ c w j. test_goes t c a w (arm_goes t c b (walk_test c a w) j) (arm_goes t c d (walk_arm c b (walk_test c a w)) j)) (λ w k. evaluated both (ways k to)) (λ c w. w) (λ c w. walk_arm c d (walk_arm c b (walk_test c a w)))
      (λ c w j k u. test_in t c a w _ _ _ _ (arm_in t c b (walk_test c a w) j k u) (arm_in t c d (walk_arm c b (walk_test c a w)) j k u)) gh (λ w e. out) (λ c w e. e) part)
