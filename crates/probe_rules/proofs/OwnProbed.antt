-- In an expression with its probes the innermost test or select round a use is that of the decision that holds the use.
use Rattle.std.proofs.Common.{◌≡◌, ℕ, suc, ◌+◌, ◌≤◌, ◌++◌, List, [], ◌∷◌, Option, Some, None, Bool, true, false, ◌∙◌, refl, sym, ap, append-nil, arith}
use Rattle.std.specs.Prelude.{ℤ, pos, negsuc, if◌then◌else◌}
use Rattle.std.specs.Fmt.{decimal}
use Rattle.c_base.specs.declared.place.Pos.{Pos}
use Rattle.c_syntax.specs.Shape.{NoteShape, unary, before, size_of, plain, and, or, assign, comma, NodeShape, node, ExprShape, leaf, paren, call, prefix, size_of_type, cast, suffix, two, choose, probe, index, field, behind, NodeShapes, no_nodes, more_nodes, MaybeNode, no_node, one_node, ItemShapes}
use Rattle.c_constants.specs.Probes.{probe_number_of}
use Rattle.c_walk.specs.declared.around.Around.{Around}
use Rattle.c_walk.specs.declared.around.Taken.{Taken}
use Rattle.c_walk.specs.declared.around.Taken.TheVariants.{Read, Changed}
use Rattle.c_walk.specs.Items.{Direct, Item, Outcomes, block as a_block, decision, def, used, cases}
use Rattle.c_walk.specs.Places.{is_place, direct_form}
use Rattle.c_walk.specs.Tests.{is_logical_form, outcomes_of_form, choosing, case_values}
use Rattle.c_walk.specs.Walked.{Walked, with_item, is_used, is_written, operand_taken, left_taken, with_block, pos_of, inside, inside_test, next_decision, with_decision, with_test, with_def, with_use, with_sites, with_site, right_taken}
use Rattle.c_walk.specs.Walking.{walk_node, walk_form, walk_test, walk_arm, walk_nodes, walk_maybe, walk_loop_test, walk_maybe_test, walk_step}
use Rattle.c_walk.specs.Stating.{walk_choice}
use Rattle.c_sites_probes.specs.Marked.{first, node_mark, form_mark, nodes_mark, maybe_mark, type_mark}
use Rattle.c_sites_probes.specs.Owned.{with_owner, own_node, own_form, own_nodes, own_maybe}
use Rattle.c_walk.specs.Counted.{use_count}
use Rattle.c_meaning.proofs.Walks.{node_on, arm_on}
use Rattle.probe_rules.specs.Marks.{in_block, in_test, in_use, in_def, constants_at, in_select}
use Rattle.c_walk.specs.Counted.{next_use}
use Rattle.probe_rules.specs.ProbedExpressions.{in_sites, sited, probed_node, probed_form, probed_test, probed_arm, probed_nodes, probed_maybe, probed_loop_test, probed_maybe_test, probed_step, probed_choice}
use Rattle.probe_rules.specs.Fitting.{HasFewItems}
use Rattle.probe_rules.specs.Owning.{owned_from}
use Rattle.probe_rules.proofs.ReadNumbers.{number_read}
use Rattle.probe_rules.proofs.ReadyUnits.{some_none, none_first, none_second}
use Rattle.probe_rules.proofs.Few.{few_before, few_uses, few_tests, form_before, nodes_before, right_before, uses_then}
use Rattle.probe_rules.proofs.OwnPlain.{node_none, type_none}

-- the owned uses among what is counted
abbrev pub found : Walked → List (ℕ × ℕ)
found w = owned_from 1 w.items

-- ---- one more item

owned_then : (n : ℕ) (items : List Item) (i : Item) → owned_from n (items ++ i ∷ []) ≡ owned_from n items ++ owned_from (n + use_count items) (i ∷ [])
owned_then n [] i = ap (λ m. owned_from m (i ∷ [])) (omega arith)
owned_then n (used p f d (Some k) ∷ items) i = ap (λ z. (n, k) ∷ z) (owned_then (n + 1) items i ∙ ap (λ m. owned_from (n + 1) items ++ owned_from m (i ∷ [])) (omega arith))
owned_then n (used p f d None ∷ items) i = owned_then (n + 1) items i ∙ ap (λ m. owned_from (n + 1) items ++ owned_from m (i ∷ [])) (omega arith)
owned_then n (a_block p ∷ items) i = owned_then n items i
owned_then n (decision p o ∷ items) i = owned_then n items i
owned_then n (def p f d ∷ items) i = owned_then n items i

pub found_block : (p : Pos) (w : Walked) → found w ≡ found (with_block p w)
found_block p w = sym (owned_then 1 w.items (a_block p) ∙ append-nil (found w))

pub found_decision : (p : Pos) (o : Outcomes) (w : Walked) → found w ≡ found (with_decision p o w)
found_decision p o w = sym (owned_then 1 w.items (decision p o) ∙ append-nil (found w))

pub found_def : (p : Pos) (f : ℕ) (d : Option Direct) (w : Walked) → found w ≡ found (with_item (def p f d) w)
found_def p f d w = sym (owned_then 1 w.items (def p f d) ∙ append-nil (found w))

found_use : (o : Option ℕ) (p : Pos) (f : ℕ) (d : Option Direct) (w : Walked) → with_owner (Some (next_use w)) o (found w) ≡ found (with_item (used p f d o) w)
found_use (Some k) p f d w = ap (λ m. found w ++ (m, k) ∷ []) (omega arith) ∙ sym (owned_then 1 w.items (used p f d (Some k)))
found_use None p f d w = sym (owned_then 1 w.items (used p f d None) ∙ append-nil (found w))

-- ---- probes round a node

use_own : (o : Option ℕ) (w : Walked) (a : NodeShape) (s : List (ℕ × ℕ)) → own_node o (in_use true w a) s ≡ own_node o a (with_owner (probe_number_of (decimal (next_use w))) o s)
use_own o w (node p q n f) s = refl

def_own : (b : Bool) (o : Option ℕ) (w : Walked) (a : NodeShape) (s : List (ℕ × ℕ)) → own_node o (in_def b w a) s ≡ own_node o a s
def_own true o w (node p q n f) s = refl
def_own false o w a s = refl

pub block_own : (o : Option ℕ) (w : Walked) (a : NodeShape) (s : List (ℕ × ℕ)) → own_node o (in_block w a) s ≡ own_node o a s
block_own o w (node p q n f) s = refl

test_own : (b : Bool) (c : Around) (w : Walked) (a : NodeShape) (s : List (ℕ × ℕ)) → (b ≡ false → next_decision w ≤ 16383) → own_node c.owner (in_test b w a) s ≡ own_node (if b then c else inside c w).owner a s
test_own true c w a s few = refl
test_own false c w (node p q n f) s few = ap (λ z. own_node z (node p q n f) s) (number_read (next_decision w) (omega arith) (few refl))

-- ---- sites

uses_own : (b : Bool) (c : Around) (p q : Pos) (n : NoteShape) (g : ExprShape) (d : Option Direct) (w v : Walked) → use_count v.items ≡ use_count w.items → found w ≡ found v → HasFewItems (with_use b c p d v) → own_node c.owner (in_use b w (node p q n g)) (found w) ≡ own_form c.owner g (found (with_use b c p d v))
uses_own true c p q n g d w v same is few =
    let below = few_uses true c p d v refl few in
    use_own c.owner w (node p q n g) (found w)
    ∙ ap (own_form c.owner g) (ap (λ z. with_owner z c.owner (found w)) (number_read (next_use w) (omega arith) (omega (arith, same, below))) ∙ (ap (λ z. with_owner (Some (next_use w)) c.owner z) is ∙ (ap (λ m. with_owner (Some (suc m)) c.owner (found v)) (sym same) ∙ found_use c.owner p c.function d v)))
uses_own false c p q n g d w v same is few = ap (own_form c.owner g) is

sites_own : (e b : Bool) (c : Around) (p q : Pos) (n : NoteShape) (g : ExprShape) (d : Option Direct) (w : Walked) → HasFewItems (with_use b c p d (with_def e c p d w)) → own_node c.owner (in_def e w (in_use b w (node p q n g))) (found w) ≡ own_form c.owner g (found (with_use b c p d (with_def e c p d w)))
sites_own true b c p q n g d w few =
    def_own true c.owner w (in_use b w (node p q n g)) (found w)
    ∙ uses_own b c p q n g d w (with_item (def p c.function d) w) (omega (arith, uses_then w.items (def p c.function d))) (found_def p c.function d w) few
sites_own false b c p q n g d w few = uses_own b c p q n g d w w refl refl few

pick_own : (b : Bool) (o : Option ℕ) (p q : Pos) (n : NoteShape) (g : ExprShape) (a : NodeShape) (w v : Walked) → HasFewItems (if b then v else w) → (HasFewItems v → own_node o a (found w) ≡ own_form o g (found v)) → own_node o (if b then a else node p q n g) (found w) ≡ own_form o g (found (if b then v else w))
pick_own true o p q n g a w v few go = go few
pick_own false o p q n g a w v few go = refl

sited_own : (c : Around) (r : Taken) (p q : Pos) (n : NoteShape) (f g : ExprShape) (w : Walked) → HasFewItems (with_site c r p n f w) → own_node c.owner (sited r p q n f g w) (found w) ≡ own_form c.owner g (found (with_site c r p n f w))
sited_own c r p q n f g w few =
    pick_own (is_place f) c.owner p q n g (in_sites r (is_used r n) w (node p q n g)) w (with_sites c r p (direct_form n f) (is_used r n) w) few (λ few.
    sites_own (is_written r) (is_used r n) c p q n g (direct_form n f) w few)

-- ---- tests and blocks

pick_found : (b : Bool) (v w : Walked) → found w ≡ found v → found w ≡ found (if b then w else v)
pick_found true v w e = refl
pick_found false v w e = e

-- where it is so of a node wherever it stands, it is so of the node as a test
abbrev Owns : NodeShape → Type 0
Owns a = (c : Around) (w : Walked) → HasFewItems (walk_node c Read a w) → own_node c.owner (probed_node c Read a w) (found w) ≡ found (walk_node c Read a w)

tested_own : (c : Around) (a : NodeShape) (w : Walked) → Owns a → HasFewItems (walk_test c a w) → own_node c.owner (probed_test c a w) (found w) ≡ found (walk_test c a w)
tested_own c (node p q n f) w owns few =
    let d = inside_test c f w in
    let v = with_test p f w in
    let a = probed_node d Read (node p q n f) v in
    test_own (is_logical_form f) c w a (found w) (λ other. few_tests p f w other (few_before (node_on d Read (node p q n f) v) few))
    ∙ (ap (own_node d.owner a) (pick_found (is_logical_form f) (with_decision p (outcomes_of_form f) w) w (found_decision p (outcomes_of_form f) w)) ∙ owns d v few)

right_own : (c : Around) (a : NodeShape) (w : Walked) → Owns a → HasFewItems (walk_test c a (with_block (pos_of a) w)) → own_node c.owner (in_block w (probed_test c a (with_block (pos_of a) w))) (found w) ≡ found (walk_test c a (with_block (pos_of a) w))
right_own c a w owns few =
    let v = with_block (pos_of a) w in
    block_own c.owner w (probed_test c a v) (found w) ∙ (ap (own_node c.owner (probed_test c a v)) (found_block (pos_of a) w) ∙ tested_own c a v owns few)

armed_own : (c : Around) (a : NodeShape) (w : Walked) → Owns a → HasFewItems (walk_arm c a w) → own_node c.owner (probed_arm c a w) (found w) ≡ found (walk_arm c a w)
armed_own c (node p q n f) w owns few =
    let v = with_block p w in
    let a = probed_node c Read (node p q n f) v in
    block_own c.owner w a (found w) ∙ (ap (own_node c.owner a) (found_block p w) ∙ owns c v few)

-- ---- expressions

mutual
  pub node_own : (c : Around) (r : Taken) (a : NodeShape) (w : Walked) → node_mark a ≡ None → HasFewItems (walk_node c r a w) → own_node c.owner (probed_node c r a w) (found w) ≡ found (walk_node c r a w)
  node_own c r (node p q n f) w none few =
      let v = with_site c r p n f w in
      sited_own c r p q n f (probed_form c r f v) w (few_before (form_before c r f v) few) ∙ form_own c r p f v none few

  form_own : (c : Around) (r : Taken) (p : Pos) (f : ExprShape) (w : Walked) → form_mark p f ≡ None → HasFewItems (walk_form c r f w) → own_form c.owner (probed_form c r f w) (found w) ≡ found (walk_form c r f w)
  form_own c r p (leaf l) w none few = refl
  form_own c r p (paren a) w none few = node_own c r a w none few
  form_own c r p (call x args) w none few = nodes_own c args w none few
  form_own c r p (prefix (unary u) a) w none few = node_own c (operand_taken u) a w none few
  form_own c r p (prefix (before u) a) w none few = node_own c Changed a w none few
  form_own c r p (prefix size_of a) w none few = node_none c.owner (found w) a none
  form_own c r p (size_of_type t) w none few = type_none c.owner (found w) t none
  form_own c r p (cast t a) w none few = ap (own_node c.owner (probed_node c Read a w)) (type_none c.owner (found w) t (none_first (type_mark t) (node_mark a) none)) ∙ node_own c Read a w (none_second (type_mark t) (node_mark a) none) few
  form_own c r p (suffix a (index b)) w none few =
      let v = walk_node c Read a w in
      ap (own_node c.owner (probed_node c Read b v)) (node_own c Read a w (none_first (node_mark a) (node_mark b) none) (few_before (node_on c Read b v) few)) ∙ node_own c Read b v (none_second (node_mark a) (node_mark b) none) few
  form_own c r p (suffix a (field h x q)) w none few = node_own c Read a w (none_first (node_mark a) None none) few
  form_own c r p (suffix a (behind u)) w none few = node_own c Changed a w (none_first (node_mark a) None none) few
  form_own c r p (two and a b) w none few =
      let v = walk_test c a w in
      ap (own_node c.owner (in_block v (probed_test c b (with_block (pos_of b) v)))) (tested_own c a w (λ d u few. node_own d Read a u (none_first (node_mark a) (node_mark b) none) few) (few_before (right_before c a b w) few))
      ∙ right_own c b v (λ d u few. node_own d Read b u (none_second (node_mark a) (node_mark b) none) few) few
  form_own c r p (two or a b) w none few =
      let v = walk_test c a w in
      ap (own_node c.owner (in_block v (probed_test c b (with_block (pos_of b) v)))) (tested_own c a w (λ d u few. node_own d Read a u (none_first (node_mark a) (node_mark b) none) few) (few_before (right_before c a b w) few))
      ∙ right_own c b v (λ d u few. node_own d Read b u (none_second (node_mark a) (node_mark b) none) few) few
  form_own c r p (two (assign u) a b) w none few =
      let v = walk_node c (left_taken u) a w in
      let r = right_taken u a in
      ap (own_node c.owner (probed_node c r b v)) (node_own c (left_taken u) a w (none_first (node_mark a) (node_mark b) none) (few_before (node_on c r b v) few)) ∙ node_own c r b v (none_second (node_mark a) (node_mark b) none) few
  form_own c r p (two (plain u) a b) w none few =
      let v = walk_node c Read a w in
      ap (own_node c.owner (probed_node c Read b v)) (node_own c Read a w (none_first (node_mark a) (node_mark b) none) (few_before (node_on c Read b v) few)) ∙ node_own c Read b v (none_second (node_mark a) (node_mark b) none) few
  form_own c r p (two comma a b) w none few =
      let v = walk_node c Read a w in
      ap (own_node c.owner (probed_node c Read b v)) (node_own c Read a w (none_first (node_mark a) (node_mark b) none) (few_before (node_on c Read b v) few)) ∙ node_own c Read b v (none_second (node_mark a) (node_mark b) none) few
  form_own c r p (choose a b d) w none few =
      let u = walk_test c a w in
      let v = walk_arm c b u in
      let few_v = few_before (arm_on c d v) few in
      let rest = none_second (node_mark a) (first (node_mark b) (node_mark d)) none in
      ap (λ z. own_node c.owner (probed_arm c d v) (own_node c.owner (probed_arm c b u) z)) (tested_own c a w (λ e x few. node_own e Read a x (none_first (node_mark a) (first (node_mark b) (node_mark d)) none) few) (few_before (arm_on c b u) few_v))
      ∙ (ap (own_node c.owner (probed_arm c d v)) (armed_own c b u (λ e x few. node_own e Read b x (none_first (node_mark b) (node_mark d) rest) few) few_v)
      ∙ armed_own c d v (λ e x few. node_own e Read d x (none_second (node_mark b) (node_mark d) rest) few) few)
  form_own c r p (probe u a) w none few = absurd (some_none p none)

  nodes_own : (c : Around) (es : NodeShapes) (w : Walked) → nodes_mark es ≡ None → HasFewItems (walk_nodes c es w) → own_nodes c.owner (probed_nodes c es w) (found w) ≡ found (walk_nodes c es w)
  nodes_own c no_nodes w none few = refl
  nodes_own c (more_nodes a rest) w none few =
      let v = walk_node c Read a w in
      ap (own_nodes c.owner (probed_nodes c rest v)) (node_own c Read a w (none_first (node_mark a) (nodes_mark rest) none) (few_before (nodes_before c rest v) few)) ∙ nodes_own c rest v (none_second (node_mark a) (nodes_mark rest) none) few

pub test_node_own : (c : Around) (a : NodeShape) (w : Walked) → node_mark a ≡ None → HasFewItems (walk_test c a w) → own_node c.owner (probed_test c a w) (found w) ≡ found (walk_test c a w)
test_node_own c a w none few = tested_own c a w (λ d u few. node_own d Read a u none few) few

pub maybe_own : (c : Around) (e : MaybeNode) (w : Walked) → maybe_mark e ≡ None → HasFewItems (walk_maybe c e w) → own_maybe c.owner (probed_maybe c e w) (found w) ≡ found (walk_maybe c e w)
maybe_own c no_node w none few = refl
maybe_own c (one_node a) w none few = node_own c Read a w none few

pub loop_test_own : (c : Around) (a : NodeShape) (w : Walked) → node_mark a ≡ None → HasFewItems (walk_loop_test c a w) → own_node c.owner (probed_loop_test c a w) (found w) ≡ found (walk_loop_test c a w)
loop_test_own c a w none few = right_own c a w (λ d u few. node_own d Read a u none few) few

pub maybe_test_own : (c : Around) (e : MaybeNode) (w : Walked) → maybe_mark e ≡ None → HasFewItems (walk_maybe_test c e w) → own_maybe c.owner (probed_maybe_test c e w) (found w) ≡ found (walk_maybe_test c e w)
maybe_test_own c no_node w none few = refl
maybe_test_own c (one_node a) w none few = loop_test_own c a w none few

pub step_own : (c : Around) (e : MaybeNode) (w : Walked) → maybe_mark e ≡ None → HasFewItems (walk_step c e w) → own_maybe c.owner (probed_step c e w) (found w) ≡ found (walk_step c e w)
step_own c no_node w none few = refl
step_own c (one_node a) w none few = armed_own c a w (λ d u few. node_own d Read a u none few) few

-- ---- what a switch chooses by

constants_own : (o : Option ℕ) (p q : Pos) (vs : List ℤ) (s : List (ℕ × ℕ)) → own_nodes o (constants_at p q vs) s ≡ s
constants_own o p q [] s = refl
constants_own o p q (pos n ∷ vs) s = constants_own o p q vs s
constants_own o p q (negsuc n ∷ vs) s = constants_own o p q vs s

select_own : (o : Option ℕ) (vs : List ℤ) (w : Walked) (a : NodeShape) (s : List (ℕ × ℕ)) → next_decision w ≤ 16383 → own_node o (in_select vs w a) s ≡ own_node (Some (next_decision w)) a s
select_own o vs w (node p q n f) s few =
    ap (λ z. own_node z (node p q n f) (own_nodes z (constants_at p q vs) s)) (number_read (next_decision w) (omega arith) few) ∙ ap (own_node (Some (next_decision w)) (node p q n f)) (constants_own (Some (next_decision w)) p q vs s)

pub choice_own : (c : Around) (e : NodeShape) (items : ItemShapes) (w : Walked) → node_mark e ≡ None → HasFewItems (walk_choice c e items w) → own_node c.owner (probed_choice c e items w) (found w) ≡ found (walk_choice c e items w)
choice_own c e items w none few =
    let vs = case_values (choosing e) items in
    let v = with_decision (pos_of e) (cases vs) w in
    let a = probed_node (inside c w) Read e v in
    let below = (few_before (node_on (inside c w) Read e v) few).decisions in
    select_own c.owner vs w a (found w) below ∙ (ap (own_node (inside c w).owner a) (found_decision (pos_of e) (cases vs) w) ∙ node_own (inside c w) Read e v none few)
