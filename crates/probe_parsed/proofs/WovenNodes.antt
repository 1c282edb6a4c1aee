-- The tokens of an expression with its probes are those of the expression, with tokens of probes between them.
use Rattle.std.proofs.Common.{◌≡◌, ◌≤◌, ◌<◌, ◌^◌, ℕ, suc, ℤ, pos, negsuc, List, [], ◌∷◌, ◌++◌, Bool, true, false, Option, Some, None, refl, sym, subst, arith}
use Rattle.std.specs.Prelude.{if◌then◌else◌}
use Rattle.std.specs.Fmt.{decimal}
use Rattle.c_base.specs.declared.place.Pos.{Pos}
use Rattle.c_base.specs.declared.place.IntKind.{IntKind}
use Rattle.c_arith.specs.Arith.{InRange}
use Rattle.c_syntax.specs.declared.token.Mark.TheVariants as m
use Rattle.c_syntax.specs.declared.token.ProbeWord.{ProbeWord}
use Rattle.c_syntax.specs.declared.token.ProbeWord.TheVariants as word
use Rattle.c_syntax.specs.declared.token.TokenKind.{TokenKind}
use Rattle.c_syntax.specs.declared.token.TokenKind.TheVariants as kind
use Rattle.c_syntax.specs.Forms.{kinds}
use Rattle.c_syntax.specs.Grammar.{prefix_kind, infix_mark, probing_word, node_form, expr_form, suffix_form, type_form, nodes_form, led_nodes_form, maybe_node_form}
use Rattle.c_syntax.specs.Shape.{NoteShape, unary, before, size_of, plain, and, or, assign, comma, Probing, block, test, used, def, simple, NodeShape, node, ExprShape, leaf, paren, call, prefix, size_of_type, cast, suffix, two, choose, probe, index, field, behind, NodeShapes, no_nodes, more_nodes, MaybeNode, no_node, one_node, ItemShapes}
use Rattle.c_walk.specs.declared.around.Around.{Around}
use Rattle.c_walk.specs.declared.around.Taken.{Taken}
use Rattle.c_walk.specs.declared.around.Taken.TheVariants.{Read, Changed}
use Rattle.c_walk.specs.Items.{Direct, def as a_def, used as a_use, cases}
use Rattle.c_walk.specs.Places.{is_place, direct_form}
use Rattle.c_walk.specs.Tests.{is_logical_form, choosing, case_values}
use Rattle.c_walk.specs.Walked.{Walked, is_written, operand_taken, left_taken, with_block, pos_of, inside, inside_test, with_decision, next_decision, with_test, with_def, with_use, with_site, right_taken, is_used}
use Rattle.c_walk.specs.Walking.{walk_node, walk_form, walk_test, walk_arm, walk_nodes, walk_maybe, walk_maybe_test, walk_step}
use Rattle.c_walk.specs.Stating.{walk_choice}
use Rattle.c_sites_probes.specs.Marked.{first, node_mark, form_mark, nodes_mark, maybe_mark, type_mark}
use Rattle.c_walk.specs.Counted.{use_count}
use Rattle.c_meaning.proofs.Walks.{node_on, arm_on, site_on, test_on}
use Rattle.c_walk.specs.Counted.{next_block, next_def, next_use}
use Rattle.probe_rules.specs.Marks.{round_value, round_place, in_block, in_test, in_use, in_def, in_select, number_at, constant_at, constants_at}
use Rattle.probe_rules.specs.ProbedExpressions.{sited, probed_node, probed_form, probed_test, probed_arm, probed_nodes, probed_maybe, probed_maybe_test, probed_step, probed_choice}
use Rattle.probe_rules.specs.Fitting.{HasFewItems}
use Rattle.probe_rules.proofs.ReadyUnits.{some_none, none_first, none_second}
use Rattle.probe_rules.proofs.Few.{few_before, few_blocks, few_decisions, few_tests, few_defs, few_uses, few_item, uses_then, form_before, nodes_before, right_before}
use Rattle.probe_rules.proofs.SelectConstants.{highest, lowest, IsCase, AreCases, items_are_cases}
use Rattle.probe_parsed.proofs.Woven.{Woven, both, nothing_put, kept, before as put_before, behind as put_behind, same, number_right}

-- ---- probes round a node

abbrev pub Small : ℕ → Type 0
Small n = n < 2 ^ 64

pub round : (k : ProbeWord) (n : ℕ) {ks ls : List TokenKind} → Small n → Woven ks ls → Woven ks (kind.Probe k ∷ kind.Mark m.LeftParen ∷ kind.Number (decimal n) ∷ kind.Mark m.Comma ∷ (ls ++ kind.Mark m.RightParen ∷ []))
round k n small i =
    put_before (kind.Probe k) tt (put_before (kind.Mark m.LeftParen) tt (put_before (kind.Number (decimal n)) (number_right n small) (put_before (kind.Mark m.Comma) tt (put_behind (kind.Mark m.RightParen) tt i))))

value_woven : (u : Probing) (n : ℕ) (a : NodeShape) {ks : List TokenKind} → Small n → Woven ks (kinds (node_form a)) → Woven ks (kinds (node_form (round_value (simple u (decimal n)) a)))
value_woven u n (node p o i f) small a = round (probing_word u) n small a

place_woven : (u : Probing) (n : ℕ) (a : NodeShape) {ks : List TokenKind} → Small n → Woven ks (kinds (node_form a)) → Woven ks (kinds (node_form (round_place (simple u (decimal n)) a)))
place_woven u n (node p o i f) small a = round (probing_word u) n small a

block_woven : (p : Pos) (w : Walked) (a : NodeShape) {ks : List TokenKind} → HasFewItems (with_block p w) → Woven ks (kinds (node_form a)) → Woven ks (kinds (node_form (in_block w a)))
block_woven p w a few i = value_woven block (next_block w) a (omega (arith, few_blocks p w few)) i

test_woven : (b : Bool) (w : Walked) (a : NodeShape) {ks : List TokenKind} → (b ≡ false → next_decision w ≤ 16383) → Woven ks (kinds (node_form a)) → Woven ks (kinds (node_form (in_test b w a)))
test_woven true w a few i = i
test_woven false w a few i = value_woven test (next_decision w) a (omega (arith, few refl)) i

-- ---- the constants of a select

number_put : (p o : Pos) (n : ℕ) → Small n → Woven [] (kinds (node_form (number_at p o n)))
number_put p o n small = put_before (kind.Number (decimal n)) (number_right n small) nothing_put

value_put : (p o : Pos) (k : IntKind) (z : ℤ) → InRange k z → Woven [] (kinds (node_form (constant_at p o z)))
value_put p o k (pos n) is = number_put p o n (highest k n is)
value_put p o k (negsuc n) is = put_before (kind.Mark m.Minus) tt (number_put p o (suc n) (lowest k n is))

constant_put : (p o : Pos) (k : Option IntKind) (z : ℤ) → IsCase k z → Woven [] (kinds (node_form (constant_at p o z)))
constant_put p o (Some k) z is = value_put p o k z is
constant_put p o None z is = subst (λ y. Woven [] (kinds (node_form (constant_at p o y)))) (sym is) (number_put p o 0 (omega arith))

constants_put : (p o : Pos) (k : Option IntKind) (zs : List ℤ) → AreCases k zs → Woven [] (kinds (led_nodes_form (constants_at p o zs)))
constants_put p o k [] are = nothing_put
constants_put p o k (z ∷ zs) are = put_before (kind.Mark m.Comma) tt (both (constant_put p o k z are.0) (constants_put p o k zs are.1))

select_woven : (k : Option IntKind) (zs : List ℤ) (w : Walked) (a : NodeShape) {ks : List TokenKind} → AreCases k zs → next_decision w ≤ 16383 → Woven ks (kinds (node_form a)) → Woven ks (kinds (node_form (in_select zs w a)))
select_woven k zs w (node p o n f) {ks} are few i =
    put_before (kind.Probe word.Select) tt (put_before (kind.Mark m.LeftParen) tt (put_before (kind.Number (decimal (next_decision w))) (number_right (next_decision w) (omega (arith, few)))
    (put_behind (kind.Mark m.RightParen) tt (both (constants_put p o k zs are) (put_before (kind.Mark m.Semicolon) tt i)))))

-- ---- sites

uses_behind : (y : Bool) (c : Around) (p : Pos) (d : Option Direct) (w : Walked) → use_count (with_def y c p d w).items ≡ use_count w.items
uses_behind true c p d w = omega (arith, uses_then w.items (a_def p c.function d))
uses_behind false c p d w = refl

few_use : (x : Bool) (c : Around) (p : Pos) (d : Option Direct) (w : Walked) → HasFewItems (with_use x c p d w) → HasFewItems w
few_use true c p d w few = few_item (a_use p c.function d c.owner) w few
few_use false c p d w few = few

use_woven : (x : Bool) (w : Walked) (a : NodeShape) {ks : List TokenKind} → (x ≡ true → Small (next_use w)) → Woven ks (kinds (node_form a)) → Woven ks (kinds (node_form (in_use x w a)))
use_woven true w a small i = place_woven used (next_use w) a (small refl) i
use_woven false w a small i = i

def_woven : (y : Bool) (c : Around) (p : Pos) (d : Option Direct) (w : Walked) (a : NodeShape) {ks : List TokenKind} → HasFewItems (with_def y c p d w) → Woven ks (kinds (node_form a)) → Woven ks (kinds (node_form (in_def y w a)))
def_woven true c p d w a few i = place_woven def (next_def w) a (omega (arith, few_defs p c.function d w few)) i
def_woven false c p d w a few i = i

sites_woven : (b x y : Bool) (c : Around) (p : Pos) (d : Option Direct) (w : Walked) (a : NodeShape) {ks : List TokenKind} → HasFewItems (if b then with_use x c p d (with_def y c p d w) else w) → Woven ks (kinds (node_form a)) → Woven ks (kinds (node_form (if b then in_def y w (in_use x w a) else a)))
sites_woven false x y c p d w a few i = i
sites_woven true x y c p d w a few i =
    let v = with_def y c p d w in
    def_woven y c p d w (in_use x w a) (few_use x c p d v few) (use_woven x w a (λ e. omega (arith, few_uses x c p d v e few, uses_behind y c p d w)) i)

sited_woven : (c : Around) (r : Taken) (p o : Pos) (n : NoteShape) (f g : ExprShape) (w : Walked) {ks : List TokenKind} → HasFewItems (with_site c r p n f w) → Woven ks (kinds (expr_form o g)) → Woven ks (kinds (node_form (sited r p o n f g w)))
sited_woven c r p o n f g w few i = sites_woven (is_place f) (is_used r n) (is_written r) c p (direct_form n f) w (node p o n g) few i

-- ---- expressions

mutual
  pub node_woven : (c : Around) (r : Taken) (a : NodeShape) (w : Walked) → node_mark a ≡ None → HasFewItems (walk_node c r a w) → Woven (kinds (node_form a)) (kinds (node_form (probed_node c r a w)))
  node_woven c r (node p o n f) w none few =
      let v = with_site c r p n f w in
      sited_woven c r p o n f (probed_form c r f v) w (few_before (form_before c r f v) few) (form_woven c r p o f v none few)

  form_woven : (c : Around) (r : Taken) (p o : Pos) (f : ExprShape) (w : Walked) → form_mark p f ≡ None → HasFewItems (walk_form c r f w) → Woven (kinds (expr_form o f)) (kinds (expr_form o (probed_form c r f w)))
  form_woven c r p o (leaf l) w none few = same (kinds (expr_form o (leaf l)))
  form_woven c r p o (paren a) w none few = kept (kind.Mark m.LeftParen) (both (node_woven c r a w none few) (same (kind.Mark m.RightParen ∷ [])))
  form_woven c r p o (call x args) w none few = kept (kind.Word x) (kept (kind.Mark m.LeftParen) (both (nodes_woven c args w none few) (same (kind.Mark m.RightParen ∷ []))))
  form_woven c r p o (prefix (unary u) a) w none few = kept (prefix_kind (unary u)) (node_woven c (operand_taken u) a w none few)
  form_woven c r p o (prefix (before u) a) w none few = kept (prefix_kind (before u)) (node_woven c Changed a w none few)
  form_woven c r p o (prefix size_of a) w none few = same (kinds (expr_form o (prefix size_of a)))
  form_woven c r p o (size_of_type y) w none few = same (kinds (expr_form o (size_of_type y)))
  form_woven c r p o (cast y a) w none few =
      kept (kind.Mark m.LeftParen) (both (same (kinds (type_form y))) (kept (kind.Mark m.RightParen) (node_woven c Read a w (none_second (type_mark y) (node_mark a) none) few)))
  form_woven c r p o (suffix a (index b)) w none few =
      let v = walk_node c Read a w in
      both (node_woven c Read a w (none_first (node_mark a) (node_mark b) none) (few_before (node_on c Read b v) few))
      (kept (kind.Mark m.LeftBracket) (both (node_woven c Read b v (none_second (node_mark a) (node_mark b) none) few) (same (kind.Mark m.RightBracket ∷ []))))
  form_woven c r p o (suffix a (field h x q)) w none few = both (node_woven c Read a w (none_first (node_mark a) None none) few) (same (kinds (suffix_form o (field h x q))))
  form_woven c r p o (suffix a (behind u)) w none few = both (node_woven c Changed a w (none_first (node_mark a) None none) few) (same (kinds (suffix_form o (behind u))))
  form_woven c r p o (two and a b) w none few =
      let v = walk_test c a w in
      both (tested_woven c a w (none_first (node_mark a) (node_mark b) none) (few_before (right_before c a b w) few))
      (kept (kind.Mark (infix_mark and)) (right_woven c b v (none_second (node_mark a) (node_mark b) none) few))
  form_woven c r p o (two or a b) w none few =
      let v = walk_test c a w in
      both (tested_woven c a w (none_first (node_mark a) (node_mark b) none) (few_before (right_before c a b w) few))
      (kept (kind.Mark (infix_mark or)) (right_woven c b v (none_second (node_mark a) (node_mark b) none) few))
  form_woven c r p o (two (assign u) a b) w none few =
      let v = walk_node c (left_taken u) a w in
      let q = right_taken u a in
      both (node_woven c (left_taken u) a w (none_first (node_mark a) (node_mark b) none) (few_before (node_on c q b v) few))
      (kept (kind.Mark (infix_mark (assign u))) (node_woven c q b v (none_second (node_mark a) (node_mark b) none) few))
  form_woven c r p o (two (plain u) a b) w none few =
      let v = walk_node c Read a w in
      both (node_woven c Read a w (none_first (node_mark a) (node_mark b) none) (few_before (node_on c Read b v) few))
      (kept (kind.Mark (infix_mark (plain u))) (node_woven c Read b v (none_second (node_mark a) (node_mark b) none) few))
  form_woven c r p o (two comma a b) w none few =
      let v = walk_node c Read a w in
      both (node_woven c Read a w (none_first (node_mark a) (node_mark b) none) (few_before (node_on c Read b v) few))
      (kept (kind.Mark (infix_mark comma)) (node_woven c Read b v (none_second (node_mark a) (node_mark b) none) few))
  form_woven c r p o (choose a b d) w none few =
      let u = walk_test c a w in
      let v = walk_arm c b u in
      let rest = none_second (node_mark a) (first (node_mark b) (node_mark d)) none in
      let few_v = few_before (arm_on c d v) few in
      both (tested_woven c a w (none_first (node_mark a) (first (node_mark b) (node_mark d)) none) (few_before (arm_on c b u) few_v))
      (kept (kind.Mark m.Question) (both (arm_woven c b u (none_first (node_mark b) (node_mark d) rest) few_v)
      (kept (kind.Mark m.Colon) (arm_woven c d v (none_second (node_mark b) (node_mark d) rest) few))))
  form_woven c r p o (probe u a) w none few = absurd (some_none p none)

  pub tested_woven : (c : Around) (a : NodeShape) (w : Walked) → node_mark a ≡ None → HasFewItems (walk_test c a w) → Woven (kinds (node_form a)) (kinds (node_form (probed_test c a w)))
  tested_woven c (node p o n f) w none few =
      let d = inside_test c f w in
      let v = with_test p f w in
      let u = with_site d Read p n f v in
      let few_u = few_before (form_before d Read f u) few in
      let few_v = few_before (site_on d Read p n f v) few_u in
      test_woven (is_logical_form f) w (sited Read p o n f (probed_form d Read f u) v) (λ e. few_tests p f w e few_v) (sited_woven d Read p o n f (probed_form d Read f u) v few_u (form_woven d Read p o f u none few))

  -- a test that is a block
  pub right_woven : (c : Around) (a : NodeShape) (w : Walked) → node_mark a ≡ None → HasFewItems (walk_test c a (with_block (pos_of a) w)) → Woven (kinds (node_form a)) (kinds (node_form (in_block w (probed_test c a (with_block (pos_of a) w)))))
  right_woven c (node p o n f) w none few =
      let z = with_block p w in
      let d = inside_test c f z in
      let v = with_test p f z in
      let u = with_site d Read p n f v in
      let few_u = few_before (form_before d Read f u) few in
      let few_v = few_before (site_on d Read p n f v) few_u in
      block_woven p w (probed_test c (node p o n f) z) (few_before (test_on p f z) few_v)
      (test_woven (is_logical_form f) z (sited Read p o n f (probed_form d Read f u) v) (λ e. few_tests p f z e few_v) (sited_woven d Read p o n f (probed_form d Read f u) v few_u (form_woven d Read p o f u none few)))

  pub arm_woven : (c : Around) (a : NodeShape) (w : Walked) → node_mark a ≡ None → HasFewItems (walk_arm c a w) → Woven (kinds (node_form a)) (kinds (node_form (probed_arm c a w)))
  arm_woven c (node p o n f) w none few =
      let v = with_block p w in
      let u = with_site c Read p n f v in
      let few_u = few_before (form_before c Read f u) few in
      block_woven p w (sited Read p o n f (probed_form c Read f u) v) (few_before (site_on c Read p n f v) few_u) (sited_woven c Read p o n f (probed_form c Read f u) v few_u (form_woven c Read p o f u none few))

  nodes_woven : (c : Around) (es : NodeShapes) (w : Walked) → nodes_mark es ≡ None → HasFewItems (walk_nodes c es w) → Woven (kinds (nodes_form es)) (kinds (nodes_form (probed_nodes c es w)))
  nodes_woven c no_nodes w none few = nothing_put
  nodes_woven c (more_nodes a rest) w none few =
      let v = walk_node c Read a w in
      both (node_woven c Read a w (none_first (node_mark a) (nodes_mark rest) none) (few_before (nodes_before c rest v) few)) (led_woven c rest v (none_second (node_mark a) (nodes_mark rest) none) few)

  led_woven : (c : Around) (es : NodeShapes) (w : Walked) → nodes_mark es ≡ None → HasFewItems (walk_nodes c es w) → Woven (kinds (led_nodes_form es)) (kinds (led_nodes_form (probed_nodes c es w)))
  led_woven c no_nodes w none few = nothing_put
  led_woven c (more_nodes a rest) w none few =
      let v = walk_node c Read a w in
      kept (kind.Mark m.Comma) (both (node_woven c Read a w (none_first (node_mark a) (nodes_mark rest) none) (few_before (nodes_before c rest v) few)) (led_woven c rest v (none_second (node_mark a) (nodes_mark rest) none) few))

pub maybe_woven : (c : Around) (e : MaybeNode) (w : Walked) → maybe_mark e ≡ None → HasFewItems (walk_maybe c e w) → Woven (kinds (maybe_node_form e)) (kinds (maybe_node_form (probed_maybe c e w)))
maybe_woven c no_node w none few = nothing_put
maybe_woven c (one_node a) w none few = node_woven c Read a w none few

pub maybe_test_woven : (c : Around) (e : MaybeNode) (w : Walked) → maybe_mark e ≡ None → HasFewItems (walk_maybe_test c e w) → Woven (kinds (maybe_node_form e)) (kinds (maybe_node_form (probed_maybe_test c e w)))
maybe_test_woven c no_node w none few = nothing_put
maybe_test_woven c (one_node a) w none few = right_woven c a w none few

pub step_woven : (c : Around) (e : MaybeNode) (w : Walked) → maybe_mark e ≡ None → HasFewItems (walk_step c e w) → Woven (kinds (maybe_node_form e)) (kinds (maybe_node_form (probed_step c e w)))
step_woven c no_node w none few = nothing_put
step_woven c (one_node a) w none few = arm_woven c a w none few

-- what a switch chooses by
pub choice_woven : (c : Around) (e : NodeShape) (items : ItemShapes) (w : Walked) → node_mark e ≡ None → HasFewItems (walk_choice c e items w) → Woven (kinds (node_form e)) (kinds (node_form (probed_choice c e items w)))
choice_woven c e items w none few =
    let vs = case_values (choosing e) items in
    let v = with_decision (pos_of e) (cases vs) w in
    select_woven (choosing e) vs w (probed_node (inside c w) Read e v) (items_are_cases (choosing e) items) (few_decisions (pos_of e) (cases vs) w (few_before (node_on (inside c w) Read e v) few)) (node_woven (inside c w) Read e v none few)
