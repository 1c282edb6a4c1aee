-- An expression with its probes is one that the grammar allows, where the expression is, and has as many levels.
use Rattle.std.proofs.Common.{◌≡◌, ◌≤◌, ◌++◌, ℕ, suc, ℤ, pos, negsuc, max, List, [], ◌∷◌, Bool, true, false, Option, None, refl, sym, ap, true≢false, arith}
use Rattle.std.specs.Prelude.{if◌then◌else◌}
use Rattle.c_base.specs.declared.place.Pos.{Pos}
use Rattle.c_base.specs.declared.place.IntKind.{IntKind}
use Rattle.c_syntax.specs.declared.text.Text.{Text}
use Rattle.c_syntax.specs.declared.tree.BinaryOp.TheVariants as op
use Rattle.c_syntax.specs.Shape.{NoteShape, unary, before, size_of, Infix, plain, and, or, assign, comma, Probing, block, test, used, def, simple, NodeShape, node, ExprShape, leaf, paren, call, prefix, size_of_type, cast, suffix, two, choose, probe, index, field, behind, NodeShapes, no_nodes, more_nodes, MaybeNode, no_node, one_node, stmt, ItemShapes, no_items, more_items}
use Rattle.c_syntax.specs.Levels.{height, expr_height, nodes_height, maybe_height, items_height, chain, expr_chain, nodes_chain}
use Rattle.c_syntax.specs.Shaped.{probe_least, expr_level, level, infix_level, Shaped, ShapedExpr, ShapedNodes, ShapedMaybe}
use Rattle.c_tree.specs.Unnoted.{bare_node, bare_form, bare_nodes, bare_maybe, bare_items}
use Rattle.c_walk.specs.declared.around.Around.{Around}
use Rattle.c_walk.specs.declared.around.Taken.{Taken}
use Rattle.c_walk.specs.declared.around.Taken.TheVariants.{Read, Changed}
use Rattle.c_walk.specs.Items.{cases}
use Rattle.c_walk.specs.Places.{is_place}
use Rattle.c_walk.specs.Tests.{is_logical_form, choosing, label_values, case_values}
use Rattle.c_walk.specs.Walked.{Walked, is_written, operand_taken, left_taken, with_block, pos_of, inside, inside_test, with_decision, with_test, with_site, right_taken, is_used}
use Rattle.c_walk.specs.Walking.{walk_node, walk_test, walk_arm}
use Rattle.c_sites_probes.specs.Marked.{first, node_mark, form_mark, nodes_mark, maybe_mark, type_mark}
use Rattle.probe_rules.specs.Marks.{round_value, round_place, in_block, in_test, in_use, in_def, in_select, constants_at}
use Rattle.probe_rules.specs.ProbedExpressions.{sited, probed_node, probed_form, probed_test, probed_arm, probed_nodes, probed_maybe, probed_maybe_test, probed_step, probed_choice}
use Rattle.probe_rules.proofs.ReadyUnits.{some_none, none_first, none_second}

-- the second stands where the first did, with at most so many probes directly one inside another
pub record Firm (n : ℕ) (a b : NodeShape) : Type 0 where
  pub shaped : Shaped (bare_node b)
  pub level : level (bare_node a) ≤ level (bare_node b)
  pub height : height (bare_node b) ≡ height (bare_node a)
  pub chain : chain (bare_node b) ≤ n

-- and so of forms that are no probe
record FirmForm (f g : ExprShape) : Type 0 where
  pub shaped : ShapedExpr (bare_form g)
  pub level : expr_level (bare_form g) ≡ expr_level (bare_form f)
  pub height : expr_height (bare_form g) ≡ expr_height (bare_form f)
  pub chain : expr_chain (bare_form g) ≡ 0

pub looser : (n k : ℕ) (a b : NodeShape) → n ≤ k → Firm n a b → Firm k a b
looser n k a b le i = record { shaped = i.shaped; level = i.level; height = i.height; chain = omega (arith, i.chain) }

-- ---- how tightly forms bind

infix_most : (u : Infix) → infix_level u ≤ 16
infix_most (plain op.Mul) = omega arith
infix_most (plain op.Div) = omega arith
infix_most (plain op.Rem) = omega arith
infix_most (plain op.Add) = omega arith
infix_most (plain op.Sub) = omega arith
infix_most (plain op.Shl) = omega arith
infix_most (plain op.Shr) = omega arith
infix_most (plain op.Lt) = omega arith
infix_most (plain op.Gt) = omega arith
infix_most (plain op.Le) = omega arith
infix_most (plain op.Ge) = omega arith
infix_most (plain op.Eq) = omega arith
infix_most (plain op.Ne) = omega arith
infix_most (plain op.BitAnd) = omega arith
infix_most (plain op.BitXor) = omega arith
infix_most (plain op.BitOr) = omega arith
infix_most and = omega arith
infix_most or = omega arith
infix_most (assign u) = omega arith
infix_most comma = omega arith

form_most : (f : ExprShape) → expr_level (bare_form f) ≤ 16
form_most (leaf l) = omega arith
form_most (paren a) = omega arith
form_most (call x args) = omega arith
form_most (prefix u a) = omega arith
form_most (size_of_type t) = omega arith
form_most (cast t a) = omega arith
form_most (suffix a s) = omega arith
form_most (two u a b) = infix_most u
form_most (choose a b c) = omega arith
form_most (probe u a) = omega arith

node_most : (a : NodeShape) → level (bare_node a) ≤ 16
node_most (node p o n f) = form_most f

place_tight : (f : ExprShape) → is_place f ≡ true → 14 ≤ expr_level (bare_form f)
place_tight (leaf l) place = omega arith
place_tight (paren a) place = omega arith
place_tight (call x args) place = omega arith
place_tight (prefix u a) place = omega arith
place_tight (size_of_type t) place = omega arith
place_tight (cast t a) place = absurd (true≢false (sym place))
place_tight (suffix a s) place = omega arith
place_tight (two u a b) place = absurd (true≢false (sym place))
place_tight (choose a b c) place = absurd (true≢false (sym place))
place_tight (probe u a) place = omega arith

-- ---- probes round a node

value_firm : (u : Probing) (x : Text) (n : ℕ) (a b : NodeShape) → n ≤ 3 → probe_least u ≤ level (bare_node b) → Firm n a b → Firm (suc n) a (round_value (simple u x) b)
value_firm u x n a (node p o i f) le least firm = record {
  shaped = (refl, (least, firm.shaped, omega (arith, firm.chain)));
  level = node_most a;
  height = omega (arith, firm.height);
  chain = omega (arith, firm.chain);
}

around_firm : (u : Probing) (x : Text) (n : ℕ) (a b : NodeShape) → n ≤ 3 → probe_least u ≤ level (bare_node b) → Firm n a b → Firm (suc n) a (round_place (simple u x) b)
around_firm u x n a (node p o i f) le least firm = record {
  shaped = (refl, (least, firm.shaped, omega (arith, firm.chain)));
  level = node_most a;
  height = omega (arith, firm.height);
  chain = omega (arith, firm.chain);
}

block_firm : (w : Walked) (n : ℕ) (a b : NodeShape) → n ≤ 3 → Firm n a b → Firm (suc n) a (in_block w b)
block_firm w n a b le firm = value_firm block _ n a b le (omega arith) firm

test_in : (t : Bool) (w : Walked) (a b : NodeShape) → Firm 2 a b → Firm 3 a (in_test t w b)
test_in true w a b firm = looser 2 3 a b (omega arith) firm
test_in false w a b firm = value_firm test _ 2 a b (omega arith) (omega arith) firm

use_firm : (x : Bool) (w : Walked) (a b : NodeShape) → 14 ≤ level (bare_node a) → Firm 0 a b → Firm 1 a (in_use x w b)
use_firm true w a b tight firm = around_firm used _ 0 a b (omega arith) (omega (arith, firm.level)) firm
use_firm false w a b tight firm = looser 0 1 a b (omega arith) firm

def_firm : (y : Bool) (w : Walked) (a b : NodeShape) → 14 ≤ level (bare_node a) → Firm 1 a b → Firm 2 a (in_def y w b)
def_firm true w a b tight firm = around_firm def _ 1 a b (omega arith) (omega (arith, firm.level)) firm
def_firm false w a b tight firm = looser 1 2 a b (omega arith) firm

sites_firm : (b x y : Bool) (w : Walked) (a d : NodeShape) → (b ≡ true → 14 ≤ level (bare_node a)) → Firm 0 a d → Firm 2 a (if b then in_def y w (in_use x w d) else d)
sites_firm true x y w a d tight firm = def_firm y w a (in_use x w d) (tight refl) (use_firm x w a d (tight refl) firm)
sites_firm false x y w a d tight firm = looser 0 2 a d (omega arith) firm

formed_firm : (p o : Pos) (n : NoteShape) (f g : ExprShape) → FirmForm f g → Firm 0 (node p o n f) (node p o n g)
formed_firm p o n f g i = record { shaped = (refl, i.shaped); level = omega (arith, i.level); height = i.height; chain = omega (arith, i.chain) }

sited_firm : (r : Taken) (p o : Pos) (n : NoteShape) (f g : ExprShape) (w : Walked) → FirmForm f g → Firm 2 (node p o n f) (sited r p o n f g w)
sited_firm r p o n f g w i = sites_firm (is_place f) (is_used r n) (is_written r) w (node p o n f) (node p o n g) (place_tight f) (formed_firm p o n f g i)

-- ---- expressions

record FirmNodes (l : ℕ) (es fs : NodeShapes) : Type 0 where
  pub shaped : ShapedNodes l (bare_nodes fs)
  pub height : nodes_height (bare_nodes fs) ≡ nodes_height (bare_nodes es)

mutual
  pub node_firm : (c : Around) (r : Taken) (a : NodeShape) (w : Walked) → node_mark a ≡ None → Shaped (bare_node a) → Firm 2 a (probed_node c r a w)
  node_firm c r (node p o n f) w none s = let v = with_site c r p n f w in sited_firm r p o n f (probed_form c r f v) w (form_firm c r p f v none s.1)

  form_firm : (c : Around) (r : Taken) (p : Pos) (f : ExprShape) (w : Walked) → form_mark p f ≡ None → ShapedExpr (bare_form f) → FirmForm f (probed_form c r f w)
  form_firm c r p (leaf l) w none s = record { shaped = tt; level = refl; height = refl; chain = refl }
  form_firm c r p (paren a) w none s = let i = node_firm c r a w none s in record { shaped = i.shaped; level = refl; height = ap suc i.height; chain = refl }
  form_firm c r p (call x args) w none s = let i = nodes_firm c 1 args w none s in record { shaped = i.shaped; level = refl; height = ap suc i.height; chain = refl }
  form_firm c r p (prefix (unary u) a) w none s =
      let i = node_firm c (operand_taken u) a w none s.1 in
      record { shaped = (omega (arith, s.0, i.level), i.shaped); level = refl; height = ap suc i.height; chain = refl }
  form_firm c r p (prefix (before u) a) w none s =
      let i = node_firm c Changed a w none s.1 in
      record { shaped = (omega (arith, s.0, i.level), i.shaped); level = refl; height = ap suc i.height; chain = refl }
  form_firm c r p (prefix size_of a) w none s = record { shaped = s; level = refl; height = refl; chain = refl }
  form_firm c r p (size_of_type t) w none s = record { shaped = s; level = refl; height = refl; chain = refl }
  form_firm c r p (cast t a) w none s =
      let i = node_firm c Read a w (none_second (type_mark t) (node_mark a) none) s.2 in
      record { shaped = (s.0, omega (arith, s.1, i.level), i.shaped); level = refl; height = omega (arith, i.height); chain = refl }
  form_firm c r p (suffix a (index b)) w none s =
      let i = node_firm c Read a w (none_first (node_mark a) (node_mark b) none) s.1 in
      let j = node_firm c Read b (walk_node c Read a w) (none_second (node_mark a) (node_mark b) none) s.2 in
      record { shaped = (omega (arith, s.0, i.level), i.shaped, j.shaped); level = refl; height = omega (arith, i.height, j.height); chain = refl }
  form_firm c r p (suffix a (field h x q)) w none s =
      let i = node_firm c Read a w (none_first (node_mark a) None none) s.1 in
      record { shaped = (omega (arith, s.0, i.level), i.shaped, tt); level = refl; height = omega (arith, i.height); chain = refl }
  form_firm c r p (suffix a (behind u)) w none s =
      let i = node_firm c Changed a w (none_first (node_mark a) None none) s.1 in
      record { shaped = (omega (arith, s.0, i.level), i.shaped, tt); level = refl; height = omega (arith, i.height); chain = refl }
  form_firm c r p (two and a b) w none s =
      let i = tested_firm c a w (none_first (node_mark a) (node_mark b) none) s.2 in
      let j = right_firm c b (walk_test c a w) (none_second (node_mark a) (node_mark b) none) s.4 in
      record { shaped = (s.0, omega (arith, s.1, i.level), i.shaped, omega (arith, s.3, j.level), j.shaped); level = refl; height = omega (arith, i.height, j.height); chain = refl }
  form_firm c r p (two or a b) w none s =
      let i = tested_firm c a w (none_first (node_mark a) (node_mark b) none) s.2 in
      let j = right_firm c b (walk_test c a w) (none_second (node_mark a) (node_mark b) none) s.4 in
      record { shaped = (s.0, omega (arith, s.1, i.level), i.shaped, omega (arith, s.3, j.level), j.shaped); level = refl; height = omega (arith, i.height, j.height); chain = refl }
  form_firm c r p (two (assign u) a b) w none s =
      let i = node_firm c (left_taken u) a w (none_first (node_mark a) (node_mark b) none) s.2 in
      let j = node_firm c (right_taken u a) b (walk_node c (left_taken u) a w) (none_second (node_mark a) (node_mark b) none) s.4 in
      record { shaped = (s.0, omega (arith, s.1, i.level), i.shaped, omega (arith, s.3, j.level), j.shaped); level = refl; height = omega (arith, i.height, j.height); chain = refl }
  form_firm c r p (two (plain u) a b) w none s =
      let i = node_firm c Read a w (none_first (node_mark a) (node_mark b) none) s.2 in
      let j = node_firm c Read b (walk_node c Read a w) (none_second (node_mark a) (node_mark b) none) s.4 in
      record { shaped = (s.0, omega (arith, s.1, i.level), i.shaped, omega (arith, s.3, j.level), j.shaped); level = refl; height = omega (arith, i.height, j.height); chain = refl }
  form_firm c r p (two comma a b) w none s =
      let i = node_firm c Read a w (none_first (node_mark a) (node_mark b) none) s.2 in
      let j = node_firm c Read b (walk_node c Read a w) (none_second (node_mark a) (node_mark b) none) s.4 in
      record { shaped = (s.0, omega (arith, s.1, i.level), i.shaped, omega (arith, s.3, j.level), j.shaped); level = refl; height = omega (arith, i.height, j.height); chain = refl }
  form_firm c r p (choose a b d) w none s =
      let u = walk_test c a w in
      let rest = none_second (node_mark a) (first (node_mark b) (node_mark d)) none in
      let i = tested_firm c a w (none_first (node_mark a) (first (node_mark b) (node_mark d)) none) s.1 in
      let j = arm_firm c b u (none_first (node_mark b) (node_mark d) rest) s.2 in
      let l = arm_firm c d (walk_arm c b u) (none_second (node_mark b) (node_mark d) rest) s.4 in
      record { shaped = (omega (arith, s.0, i.level), i.shaped, j.shaped, omega (arith, s.3, l.level), l.shaped); level = refl; height = omega (arith, i.height, j.height, l.height); chain = refl }
  form_firm c r p (probe u a) w none s = absurd (some_none p none)

  pub tested_firm : (c : Around) (a : NodeShape) (w : Walked) → node_mark a ≡ None → Shaped (bare_node a) → Firm 3 a (probed_test c a w)
  tested_firm c (node p o n f) w none s =
      let d = inside_test c f w in
      let v = with_test p f w in
      let g = probed_form d Read f (with_site d Read p n f v) in
      test_in (is_logical_form f) w (node p o n f) (sited Read p o n f g v) (sited_firm Read p o n f g v (form_firm d Read p f (with_site d Read p n f v) none s.1))

  -- a test that is a block
  pub right_firm : (c : Around) (a : NodeShape) (w : Walked) → node_mark a ≡ None → Shaped (bare_node a) → Firm 4 a (in_block w (probed_test c a (with_block (pos_of a) w)))
  right_firm c (node p o n f) w none s =
      let z = with_block p w in
      let d = inside_test c f z in
      let v = with_test p f z in
      let g = probed_form d Read f (with_site d Read p n f v) in
      block_firm w 3 (node p o n f) (probed_test c (node p o n f) z) (omega arith)
      (test_in (is_logical_form f) z (node p o n f) (sited Read p o n f g v) (sited_firm Read p o n f g v (form_firm d Read p f (with_site d Read p n f v) none s.1)))

  pub arm_firm : (c : Around) (a : NodeShape) (w : Walked) → node_mark a ≡ None → Shaped (bare_node a) → Firm 3 a (probed_arm c a w)
  arm_firm c (node p o n f) w none s =
      let v = with_block p w in
      let g = probed_form c Read f (with_site c Read p n f v) in
      block_firm w 2 (node p o n f) (sited Read p o n f g v) (omega arith) (sited_firm Read p o n f g v (form_firm c Read p f (with_site c Read p n f v) none s.1))

  nodes_firm : (c : Around) (l : ℕ) (es : NodeShapes) (w : Walked) → nodes_mark es ≡ None → ShapedNodes l (bare_nodes es) → FirmNodes l es (probed_nodes c es w)
  nodes_firm c l no_nodes w none s = record { shaped = tt; height = refl }
  nodes_firm c l (more_nodes a rest) w none s =
      let i = node_firm c Read a w (none_first (node_mark a) (nodes_mark rest) none) s.1 in
      let j = nodes_firm c l rest (walk_node c Read a w) (none_second (node_mark a) (nodes_mark rest) none) s.2 in
      record { shaped = (omega (arith, s.0, i.level), i.shaped, j.shaped); height = omega (arith, i.height, j.height) }

-- ---- expressions that need not be there

pub record FirmMaybe (e f : MaybeNode) : Type 0 where
  pub shaped : ShapedMaybe 0 (bare_maybe f)
  pub height : maybe_height (bare_maybe f) ≡ maybe_height (bare_maybe e)

a_maybe : (n : ℕ) (a b : NodeShape) → Firm n a b → FirmMaybe (one_node a) (one_node b)
a_maybe n a b i = record { shaped = (omega arith, i.shaped); height = i.height }

pub maybe_firm : (c : Around) (e : MaybeNode) (w : Walked) → maybe_mark e ≡ None → ShapedMaybe 0 (bare_maybe e) → FirmMaybe e (probed_maybe c e w)
maybe_firm c no_node w none s = record { shaped = tt; height = refl }
maybe_firm c (one_node a) w none s = a_maybe 2 a _ (node_firm c Read a w none s.1)

pub maybe_test_firm : (c : Around) (e : MaybeNode) (w : Walked) → maybe_mark e ≡ None → ShapedMaybe 0 (bare_maybe e) → FirmMaybe e (probed_maybe_test c e w)
maybe_test_firm c no_node w none s = record { shaped = tt; height = refl }
maybe_test_firm c (one_node a) w none s = a_maybe 4 a _ (right_firm c a w none s.1)

pub step_firm : (c : Around) (e : MaybeNode) (w : Walked) → maybe_mark e ≡ None → ShapedMaybe 0 (bare_maybe e) → FirmMaybe e (probed_step c e w)
step_firm c no_node w none s = record { shaped = tt; height = refl }
step_firm c (one_node a) w none s = a_maybe 3 a _ (arm_firm c a w none s.1)

-- ---- what a switch chooses by: the constants of the probe have two levels at most, and so have cases

pub record FirmConstants (cs : NodeShapes) : Type 0 where
  pub shaped : ShapedNodes 2 (bare_nodes cs)
  pub chain : nodes_chain (bare_nodes cs) ≡ 0
  pub height : nodes_height (bare_nodes cs) ≤ 2

constants_firm : (p o : Pos) (zs : List ℤ) → FirmConstants (constants_at p o zs)
constants_firm p o [] = record { shaped = tt; chain = refl; height = omega arith }
constants_firm p o (pos n ∷ zs) = let i = constants_firm p o zs in record { shaped = (omega arith, (refl, tt), i.shaped); chain = omega (arith, i.chain); height = omega (arith, i.height) }
constants_firm p o (negsuc n ∷ zs) = let i = constants_firm p o zs in record { shaped = (omega arith, (refl, (omega arith, (refl, tt))), i.shaped); chain = omega (arith, i.chain); height = omega (arith, i.height) }

cases_low : (p o : Pos) (k : Option IntKind) (items : ItemShapes) → nodes_height (bare_nodes (constants_at p o (case_values k items))) ≤ items_height (bare_items items)
cases_low p o k no_items = omega arith
cases_low p o k (more_items [] a rest) = omega (arith, cases_low p o k rest)
cases_low p o k (more_items (l ∷ labels) (stmt q ms r f) rest) = omega (arith, (constants_firm p o (label_values k (l ∷ labels) ++ case_values k rest)).height)

pub record FirmChoice (a b : NodeShape) (items : ItemShapes) : Type 0 where
  pub shaped : Shaped (bare_node b)
  pub height : max (height (bare_node b)) (items_height (bare_items items)) ≡ max (height (bare_node a)) (items_height (bare_items items))

select_firm : (k : Option IntKind) (items : ItemShapes) (w : Walked) (a b : NodeShape) → Firm 2 a b → FirmChoice a (in_select (case_values k items) w b) items
select_firm k items w a (node p o n f) i =
    let j = constants_firm p o (case_values k items) in
    record {
      shaped = (refl, (j.shaped, i.shaped, omega (arith, i.chain, j.chain)));
      height = omega (arith, i.height, cases_low p o k items);
    }

pub choice_firm : (c : Around) (e : NodeShape) (items : ItemShapes) (w : Walked) → node_mark e ≡ None → Shaped (bare_node e) → FirmChoice e (probed_choice c e items w) items
choice_firm c e items w none s =
    let vs = case_values (choosing e) items in
    let v = with_decision (pos_of e) (cases vs) w in
    select_firm (choosing e) items w e (probed_node (inside c w) Read e v) (node_firm (inside c w) Read e v none s)
