-- Reading an expression that the grammar allows comes to climbing on from it: a case for each form, by what is found of its parts.
use Rattle.std.proofs.Common.{◌≡◌, ℕ, suc, ◌+◌, ◌*◌, ◌≤◌, List, Some, None, true, refl, sym, ap, ◌∙◌, subst, arith}
use Rattle.std.specs.Prelude.{max}
use Rattle.c_base.specs.declared.place.Pos.{Pos}
use Rattle.c_syntax.specs.declared.text.Text.{Text}
use Rattle.c_syntax.specs.declared.token.Mark.{Mark}
use Rattle.c_syntax.specs.declared.token.Mark.TheVariants as marks
use Rattle.c_syntax.specs.declared.token.Token.{Token}
use Rattle.c_syntax.specs.declared.token.TokenKind.TheVariants as kind
use Rattle.c_syntax.specs.Forms.{a_token, head, place, Written}
use Rattle.c_syntax.specs.Shape.{NoteShape, bare, Leaf, number, char, str, name, Step, up, down, Prefix, unary, before, size_of, Infix, comma, Access, dot, arrow, Probing, NodeShape, node, ExprShape, leaf, paren, call, prefix, size_of_type, cast, suffix, two, choose, probe, index, field, behind, simple, select, NodeShapes, no_nodes, more_nodes, TypeShape}
use Rattle.c_syntax.specs.Grammar.{leaf_kind, access_mark, step_mark, node_form, led_nodes_form, type_form}
use Rattle.c_syntax.specs.Levels.{height, expr_height, nodes_height, type_height, chain, nodes_chain}
use Rattle.c_syntax.specs.Shaped.{right_least, prefix_least, probe_least, level, expr_level, Shaped, ShapedNodes, ShapedType}
use Rattle.c_grammar.specs.Look.{Got, got, go_after, Finds, after, a_number, number_head, word_head}
use Rattle.c_grammar.specs.Starts.{Oper, infix_oper, question, bracket, access, step, a_sign, no_sign, sign_head, sign, oper_level, oper_least, is_spec, spec_head, type_if, type_in, type_ahead}
use Rattle.c_grammar.specs.Reader.{reads, climbs, reads_led, reads_type, fronts}
use Rattle.c_grammar.specs.ExprReader.{place_of, type_behind, numbered}
use Rattle.c_grammar.proofs.Looking.{after_of}
use Rattle.c_grammar.proofs.Starting.{infix_sign}
use Rattle.c_grammar.proofs.ExprSteps.{closed_found, climb_on, read_on, grown, grow_infix, grow_choose, grow_index, grow_field, grow_step, led_end, led_on, listing_found, arguments_none, arguments_some, front_number, front_char, front_str, front_name, front_call, front_prefix, typed, front_size, front_paren, front_cast, probed_found, front_simple, front_select}
use Rattle.c_grammar.proofs.CompleteLooking.{StopsAt, after_level, right_high, oper_left, left_follows, after_one, stops_up, right_stops, prefix_stops, climb_none, takes_left, stops_none, stops_by, height_some, chain_few, chains_few, no_mark, leaf_start, prefix_start, paren_start, simple_start, select_start, node_begins, begins_at, paren_type, no_type_operand, no_call, no_comma}

-- WHAT IS TO BE SHOWN OF EACH PART

abbrev pub CompleteNode : NodeShape → Type 0
CompleteNode t = (n d g : ℕ) (ts x : List Token) (z : Got NodeShape) → Shaped t → Written (node_form t) ts x → n ≤ level t → height t + d ≤ 400 → g + 4 * height t + chain t ≤ 1604 → StopsAt (after_level t) (sign x) → Finds (climbs n d g t) x z → Finds (reads n d g) ts z

abbrev pub CompleteLed : NodeShapes → Type 0
CompleteLed as' = (n d g : ℕ) (ts x : List Token) → 1 ≤ n → ShapedNodes n as' → Written (led_nodes_form as') ts x → nodes_height as' + d ≤ 400 → g + 4 * nodes_height as' + nodes_chain as' ≤ 1604 → sign x ≡ no_sign → Finds (reads_led n d g) ts (got as' x)

-- type names stand in parentheses
abbrev pub CompleteType : TypeShape → Type 0
CompleteType t = (d g : ℕ) (ts x r : List Token) → ShapedType t → Written (type_form t) ts x → type_height t + d ≤ 400 → g + 4 * type_height t ≤ 1600 → head x ≡ a_token (kind.Mark marks.RightParen) r → Finds (reads_type d g) ts (got t x)

-- A NODE WITH NOTHING FURTHER

-- an operand behind which no operator of its own follows
pub at_rest : (t : NodeShape) → CompleteNode t → (n d g : ℕ) (ts x : List Token) → Shaped t → Written (node_form t) ts x → n ≤ level t → height t + d ≤ 400 → g + 4 * height t ≤ 1600 → StopsAt (after_level t) (sign x) → StopsAt n (sign x) → Finds (reads n d g) ts (got t x)
at_rest t c n d g ts x s w le low few st own = c n d g ts x (got t x) s w le low (omega (arith, few, chain_few t s)) st (climb_none n d g t x own)

-- where no operator follows
pub ended_node : (t : NodeShape) → CompleteNode t → (n d g : ℕ) (ts x : List Token) → Shaped t → Written (node_form t) ts x → n ≤ level t → height t + d ≤ 400 → g + 4 * height t ≤ 1600 → sign x ≡ no_sign → Finds (reads n d g) ts (got t x)
ended_node t c n d g ts x s w le low few e = at_rest t c n d g ts x s w le low few (stops_none (after_level t) x e) (stops_none n x e)

-- where at most a comma follows
pub listed_node : (t : NodeShape) → CompleteNode t → (n d g : ℕ) (ts x : List Token) → 1 ≤ n → Shaped t → Written (node_form t) ts x → n ≤ level t → height t + d ≤ 400 → g + 4 * height t ≤ 1600 → StopsAt 1 (sign x) → Finds (reads n d g) ts (got t x)
listed_node t c n d g ts x one s w le low few st = at_rest t c n d g ts x s w le low few (stops_up 1 (after_level t) (sign x) (after_one t) st) (stops_up 1 n (sign x) one st)

pub mark_ends : (m : Mark) (x r : List Token) → head x ≡ a_token (kind.Mark m) r → sign_head (a_token (kind.Mark m) r) ≡ no_sign → sign x ≡ no_sign
mark_ends m x r h e = ap sign_head h ∙ e

pub same_node : (p q o i : Pos) (n m : NoteShape) (f : ExprShape) → p ≡ q → o ≡ i → n ≡ m → node p o n f ≡ node q i m f
same_node p q o i n m f a b c = cc

-- an operand, found as another spelling of the same node
from_front : (n d g : ℕ) (ts x : List Token) (p o : Pos) (m : NoteShape) (f : ExprShape) (z : Got NodeShape) → p ≡ place ts → o ≡ place ts → m ≡ bare → expr_height f + d ≤ 400 → n ≤ expr_level f → Finds (fronts d g) ts (got (node (place ts) (place ts) bare f) x) → Finds (climbs n d g (node p o m f)) x z → Finds (reads n d g) ts z
from_front n d g ts x p o m f z a b c low le h q =
    read_on n d g ts (node (place ts) (place ts) bare f) x z (omega (arith, low, height_some (node p o m f))) h le (subst (λ t. Finds (climbs n d g t) x z) (same_node p (place ts) o (place ts) m bare f a b c) q)

-- an operand and the operator that takes it
on_left : (n d g : ℕ) (ts y r x : List Token) (o : Oper) (a : NodeShape) (p q : Pos) (m : NoteShape) (f : ExprShape) (z : Got NodeShape) → CompleteNode a → Shaped a → Written (node_form a) ts y → sign y ≡ a_sign o r → oper_least o ≤ level a → p ≡ place ts → q ≡ place y → m ≡ bare → n ≤ oper_level o → suc (height a) + d ≤ 400 → g + 4 * suc (height a) ≤ 1604 → Finds (grown d g a (place y) o) r (got (node (place_of a) (place y) bare f) x) → Finds (climbs n d g (node p q m f)) x z → Finds (reads n d g) ts z
on_left n d g ts y r x o a p q m f z c s w e left i j k le low few h on =
    let same : node p q m f ≡ node (place_of a) (place y) bare f = same_node p (place_of a) q (place y) m bare f (i ∙ sym (begins_at a ts y w)) j k in
    c n d g ts y z s w (omega (arith, le, left, oper_left o)) (omega (arith, low)) (omega (arith, few, chain_few a s)) (stops_by (after_level a) y r o e (left_follows o a left))
    (climb_on n d g a (node (place_of a) (place y) bare f) y r x o z e (takes_left n a o le left) (omega (arith, low)) h (subst (λ t. Finds (climbs n d g t) x z) same on))

-- LEAVES AND PARENTHESES

leaf_found : (l : Leaf) (d g : ℕ) (ts x : List Token) → head ts ≡ a_token (leaf_kind l) x → StopsAt 16 (sign x) → Finds (fronts d g) ts (got (node (place ts) (place ts) bare (leaf l)) x)
leaf_found (number v) d g ts x h st = front_number d g ts x v (leaf_start (number v) ts x h)
leaf_found (char v) d g ts x h st = front_char d g ts x v (leaf_start (char v) ts x h)
leaf_found (str v) d g ts x h st = front_str d g ts x v (leaf_start (str v) ts x h)
leaf_found (name v) d g ts x h st = front_name d g ts x v (leaf_start (name v) ts x h) (no_call x st)

pub leaf_case : (p o : Pos) (m : NoteShape) (l : Leaf) → CompleteNode (node p o m (leaf l))
leaf_case p o m l n d g ts x z s w le low few st q = from_front n d g ts x p o m (leaf l) z w.0 w.1.0 s.0 low le (leaf_found l d g ts x w.1.1 st) q

pub paren_case : (p o : Pos) (m : NoteShape) (a : NodeShape) → CompleteNode a → CompleteNode (node p o m (paren a))
paren_case p o m a c n d g ts x z s w le low few st q =
    let h = w.1 in
    let i = h.second in
    from_front n d g ts x p o m (paren a) z w.0 h.first.0 s.0 low le
    (front_paren d g ts h.middle i.middle x a (paren_start ts h.middle h.first.1) (paren_type a ts h.middle i.middle h.first.1 i.first)
    (ended_node a c 0 (suc d) g h.middle i.middle s.1 i.first (omega arith) (omega (arith, low)) (omega (arith, few)) (mark_ends marks.RightParen i.middle x i.second refl))
    (after_of marks.RightParen i.middle x i.second)) q

-- CALLS

-- a list of further nodes begins with a comma, or ends
pub led_stops : (as' : NodeShapes) (ts x : List Token) → Written (led_nodes_form as') ts x → sign x ≡ no_sign → StopsAt 1 (sign ts)
led_stops no_nodes ts x w e = stops_none 1 ts (ap sign w ∙ e)
led_stops (more_nodes a rest) ts x w e = stops_by 1 ts w.middle (infix_oper comma) (ap sign_head w.first) (omega arith)

pub no_nodes_case : CompleteLed no_nodes
no_nodes_case n d g ts x one s w low few e =
    subst (λ y. Finds (reads_led n d g) ts (got no_nodes y)) w (led_end n d g ts (no_comma ts (ap sign w ∙ e)))

pub more_nodes_case : (a : NodeShape) (rest : NodeShapes) → CompleteNode a → CompleteLed rest → CompleteLed (more_nodes a rest)
more_nodes_case a rest ca cr n d g ts x one s w low few e =
    let i = w.second in
    let st = led_stops rest i.middle x i.second e in
    led_on n d g a ts w.middle i.middle (got rest x) (after_of marks.Comma ts w.middle w.first)
    (ca n d g w.middle i.middle (got a i.middle) s.1 i.first s.0 (omega (arith, low)) (omega (arith, few)) (stops_up 1 (after_level a) (sign i.middle) (after_one a) st) (climb_none n d g a i.middle (stops_up 1 n (sign i.middle) one st)))
    (cr n d g i.middle x one s.2 i.second (omega (arith, low)) (omega (arith, few)) e)

pub call_none_case : (p o : Pos) (m : NoteShape) (v : Text) → CompleteNode (node p o m (call v no_nodes))
call_none_case p o m v n d g ts x z s w le low few st q =
    let h = w.1 in
    let i = h.second in
    from_front n d g ts x p o m (call v no_nodes) z w.0 h.first.0 s.0 low le
    (front_call d g ts h.middle i.middle x v no_nodes (leaf_start (name v) ts h.middle h.first.1) (after_of marks.LeftParen h.middle i.middle i.first)
    (arguments_none d g i.middle x (ap (after marks.RightParen) i.second.first ∙ after_of marks.RightParen i.second.middle x i.second.second))) q

pub call_some_case : (p o : Pos) (m : NoteShape) (v : Text) (a : NodeShape) (rest : NodeShapes) → CompleteNode a → CompleteLed rest → CompleteNode (node p o m (call v (more_nodes a rest)))
call_some_case p o m v a rest ca cr n d g ts x z s w le low few st q =
    let h = w.1 in
    let i = h.second in
    let j = i.second in
    let l = j.first in
    let e : sign j.middle ≡ no_sign = mark_ends marks.RightParen j.middle x j.second refl in
    let few' : g + 4 * suc (max (height a) (nodes_height rest)) + 0 ≤ 1604 = few in
    from_front n d g ts x p o m (call v (more_nodes a rest)) z w.0 h.first.0 s.0 low le
    (front_call d g ts h.middle i.middle x v (more_nodes a rest) (leaf_start (name v) ts h.middle h.first.1) (after_of marks.LeftParen h.middle i.middle i.first)
    (arguments_some d g (more_nodes a rest) i.middle j.middle x (no_mark marks.RightParen i.middle (node_begins a i.middle l.middle l.first) (λ r. refl))
    (listing_found 1 (suc d) g a i.middle l.middle (got rest j.middle)
    (listed_node a ca 1 (suc d) g i.middle l.middle (omega arith) s.1.1 l.first s.1.0 (omega (arith, low)) (omega (arith, few')) (led_stops rest l.middle j.middle l.second e))
    (cr 1 (suc d) g l.middle j.middle (omega arith) s.1.2 l.second (omega (arith, low)) (omega (arith, few', chains_few 1 rest s.1.2)) e))
    (after_of marks.RightParen j.middle x j.second))) q

-- IN FRONT OF AN OPERAND

no_size : (u : Prefix) (a : NodeShape) (r x : List Token) → Shaped a → Written (node_form a) r x → prefix_least u ≤ level a → type_behind u r ≡ None
no_size (unary u) a r x s w le = refl
no_size (before k) a r x s w le = refl
no_size size_of a r x s w le = no_type_operand a r x s w le

pub prefix_case : (p o : Pos) (m : NoteShape) (u : Prefix) (a : NodeShape) → CompleteNode a → CompleteNode (node p o m (prefix u a))
prefix_case p o m u a c n d g ts x z s w le low few st q =
    let h = w.1 in
    from_front n d g ts x p o m (prefix u a) z w.0 h.first.0 s.0 low le
    (front_prefix d g ts h.middle x u a (prefix_start u ts h.middle h.first.1) (no_size u a h.middle x s.1.1 h.second s.1.0)
    (at_rest a c (prefix_least u) (suc d) g h.middle x s.1.1 h.second s.1.0 (omega (arith, low)) (omega (arith, few)) (prefix_stops u a (sign x) s.1.0 st) st)) q

-- a type name stands behind the parenthesis
type_seen : (ts y : List Token) → head ts ≡ a_token (kind.Mark marks.LeftParen) y → is_spec (spec_head y) ≡ true → type_ahead ts ≡ Some y
type_seen ts y h b = ap type_in (after_of marks.LeftParen ts y h) ∙ ap (type_if y) b

type_closed : (t : TypeShape) → CompleteType t → (d g : ℕ) (ts y x : List Token) → ShapedType t → Written (type_form t) ts y → suc (type_height t) + d ≤ 400 → g + 4 * suc (type_height t) ≤ 1604 → head y ≡ a_token (kind.Mark marks.RightParen) x → Finds (typed d g) ts (got t x)
type_closed t c d g ts y x s w low few h =
    closed_found marks.RightParen (reads_type (suc d) g) ts t y x (c (suc d) g ts y x s w (omega (arith, low)) (omega (arith, few)) h) (after_of marks.RightParen y x h)

-- what a type name begins with
abbrev pub TypeBegins : TypeShape → Type 0
TypeBegins t = (ts x : List Token) → ShapedType t → Written (type_form t) ts x → is_spec (spec_head ts) ≡ true

pub size_case : (p o : Pos) (m : NoteShape) (t : TypeShape) → TypeBegins t → CompleteType t → CompleteNode (node p o m (size_of_type t))
size_case p o m t b c n d g ts x z s w le low few st q =
    let h = w.1 in
    let i = h.second in
    let j = i.second in
    from_front n d g ts x p o m (size_of_type t) z w.0 h.first.0 s.0 low le
    (front_size d g ts h.middle i.middle x t (prefix_start size_of ts h.middle h.first.1) (type_seen h.middle i.middle i.first (b i.middle j.middle s.1 j.first))
    (type_closed t c d g i.middle j.middle x s.1 j.first low (omega (arith, few)) j.second)) q

pub cast_case : (p o : Pos) (m : NoteShape) (t : TypeShape) (a : NodeShape) → TypeBegins t → CompleteType t → CompleteNode a → CompleteNode (node p o m (cast t a))
cast_case p o m t a b ct ca n d g ts x z s w le low few st q =
    let h = w.1 in
    let i = h.second in
    let j = i.second in
    from_front n d g ts x p o m (cast t a) z w.0 h.first.0 s.0 low le
    (front_cast d g ts h.middle h.middle j.middle x t a (paren_start ts h.middle h.first.1) (type_seen ts h.middle h.first.1 (b h.middle i.middle s.1.0 i.first))
    (type_closed t ct d g h.middle i.middle j.middle s.1.0 i.first (omega (arith, low)) (omega (arith, few)) j.first)
    (at_rest a ca 13 (suc d) g j.middle x s.1.2 j.second s.1.1 (omega (arith, low)) (omega (arith, few)) (right_stops a 13 (sign x) (omega arith) s.1.1 st) st)) q

-- BEHIND AN OPERAND

access_sign : (h : Access) (y r : List Token) → head y ≡ a_token (kind.Mark (access_mark h)) r → sign y ≡ a_sign (access h) r
access_sign dot y r e = ap sign_head e
access_sign arrow y r e = ap sign_head e

step_sign : (s : Step) (y r : List Token) → head y ≡ a_token (kind.Mark (step_mark s)) r → sign y ≡ a_sign (step s) r
step_sign up y r e = ap sign_head e
step_sign down y r e = ap sign_head e

pub index_case : (p o : Pos) (m : NoteShape) (a b : NodeShape) → CompleteNode a → CompleteNode b → CompleteNode (node p o m (suffix a (index b)))
index_case p o m a b ca cb n d g ts x z s w le low few st q =
    let h = w.1 in
    let y = h.middle in
    let i = h.second in
    let j = i.second in
    on_left n d g ts y i.middle x bracket a p o m (suffix a (index b)) z ca s.1.1 h.first (ap sign_head i.first.1) s.1.0 w.0 i.first.0 s.0 le (omega (arith, low)) (omega (arith, few))
    (grow_index d g a b (place y) i.middle j.middle x
    (ended_node b cb 0 (suc d) g i.middle j.middle s.1.2 j.first (omega arith) (omega (arith, low)) (omega (arith, few)) (mark_ends marks.RightBracket j.middle x j.second refl))
    (after_of marks.RightBracket j.middle x j.second)) q

pub field_case : (p o : Pos) (m : NoteShape) (a : NodeShape) (k : Access) (v : Text) (l : Pos) → CompleteNode a → CompleteNode (node p o m (suffix a (field k v l)))
field_case p o m a k v l ca n d g ts x z s w le low few st q =
    let h = w.1 in
    let y = h.middle in
    let i = h.second in
    let r = i.middle in
    on_left n d g ts y r x (access k) a p o m (suffix a (field k v (place r))) z ca s.1.1 h.first (access_sign k y r i.first.1) s.1.0 w.0 i.first.0 s.0 le (omega (arith, low)) (omega (arith, few))
    (grow_field d g a (place y) k v r x (ap word_head i.second.1))
    (subst (λ f. Finds (climbs n d g (node p o m (suffix a (field k v f)))) x z) i.second.0 q)

pub step_case : (p o : Pos) (m : NoteShape) (a : NodeShape) (k : Step) → CompleteNode a → CompleteNode (node p o m (suffix a (behind k)))
step_case p o m a k ca n d g ts x z s w le low few st q =
    let h = w.1 in
    let y = h.middle in
    on_left n d g ts y x x (step k) a p o m (suffix a (behind k)) z ca s.1.1 h.first (step_sign k y x h.second.1) s.1.0 w.0 h.second.0 s.0 le (omega (arith, low)) (omega (arith, few))
    (grow_step d g a (place y) k x) q

-- BETWEEN OPERANDS

pub two_case : (p o : Pos) (m : NoteShape) (u : Infix) (a b : NodeShape) → CompleteNode a → CompleteNode b → CompleteNode (node p o m (two u a b))
two_case p o m u a b ca cb n d g ts x z s w le low few st q =
    let h = w.1 in
    let y = h.middle in
    let i = h.second in
    on_left n d g ts y i.middle x (infix_oper u) a p o m (two u a b) z ca s.1.2 h.first (infix_sign u y i.middle s.1.0 i.first.1) s.1.1 w.0 i.first.0 s.0 le (omega (arith, low)) (omega (arith, few))
    (grow_infix d g a b (place y) u i.middle x
    (at_rest b cb (right_least u) (suc d) g i.middle x s.1.4 i.second s.1.3 (omega (arith, low)) (omega (arith, few)) (right_stops b (right_least u) (sign x) (right_high u) s.1.3 st) st)) q

pub choose_case : (p o : Pos) (m : NoteShape) (a b c : NodeShape) → CompleteNode a → CompleteNode b → CompleteNode c → CompleteNode (node p o m (choose a b c))
choose_case p o m a b c ca cb cc' n d g ts x z s w le low few st q =
    let h = w.1 in
    let y = h.middle in
    let i = h.second in
    let j = i.second in
    let k = j.second in
    on_left n d g ts y i.middle x question a p o m (choose a b c) z ca s.1.1 h.first (ap sign_head i.first.1) s.1.0 w.0 i.first.0 s.0 le (omega (arith, low)) (omega (arith, few))
    (grow_choose d g a b c (place y) i.middle j.middle k.middle x
    (ended_node b cb 0 (suc d) g i.middle j.middle s.1.2 j.first (omega arith) (omega (arith, low)) (omega (arith, few)) (mark_ends marks.Colon j.middle k.middle k.first refl))
    (after_of marks.Colon j.middle k.middle k.first)
    (at_rest c cc' 2 (suc d) g k.middle x s.1.4 k.second s.1.3 (omega (arith, low)) (omega (arith, few)) (right_stops c 2 (sign x) (omega arith) s.1.3 st) st)) q

-- PROBES

pub numbered_of : (v : Text) (ts y x : List Token) → head ts ≡ a_token (kind.Mark marks.LeftParen) y → head y ≡ a_token (kind.Number v) x → numbered ts ≡ Some (v, x)
numbered_of v ts y x a b = ap (λ o. go_after o a_number) (after_of marks.LeftParen ts y a) ∙ ap number_head b

pub simple_case : (p o : Pos) (m : NoteShape) (u : Probing) (v : Text) (a : NodeShape) → CompleteNode a → CompleteNode (node p o m (probe (simple u v) a))
simple_case p o m u v a ca n d g ts x z s w le low few st q =
    let h = w.1 in
    let i = h.second in
    let j = i.second in
    let k = j.first in
    let l = k.second in
    let e : sign j.middle ≡ no_sign = mark_ends marks.RightParen j.middle x j.second refl in
    from_front n d g ts x p o m (probe (simple u v) a) z w.0 h.first.0 s.0 low le
    (front_simple d g ts h.middle k.middle l.middle u v (got (node (place ts) (place ts) bare (probe (simple u v) a)) x) (simple_start u ts h.middle h.first.1) (omega (arith, few, height_some a))
    (numbered_of v h.middle i.middle k.middle i.first k.first) (after_of marks.Comma k.middle l.middle l.first)
    (probed_found (probe_least u) d g (place ts) (simple u v) a l.middle j.middle x
    (ca (probe_least u) d (suc g) l.middle j.middle (got a j.middle) s.1.1 l.second s.1.0 (omega (arith, low)) (omega (arith, few)) (stops_none (after_level a) j.middle e) (climb_none (probe_least u) d (suc g) a j.middle (stops_none (probe_least u) j.middle e)))
    (after_of marks.RightParen j.middle x j.second) s.1.2)) q

pub select_case : (p o : Pos) (m : NoteShape) (v : Text) (cs : NodeShapes) (a : NodeShape) → CompleteLed cs → CompleteNode a → CompleteNode (node p o m (probe (select v cs) a))
select_case p o m v cs a cl ca n d g ts x z s w le low few st q =
    let h = w.1 in
    let i = h.second in
    let j = i.second in
    let k = j.first in
    let l = k.second in
    let f = l.second in
    let e : sign j.middle ≡ no_sign = mark_ends marks.RightParen j.middle x j.second refl in
    from_front n d g ts x p o m (probe (select v cs) a) z w.0 h.first.0 s.0 low le
    (front_select d g ts h.middle k.middle l.middle f.middle v cs (got (node (place ts) (place ts) bare (probe (select v cs) a)) x) (select_start ts h.middle h.first.1) (omega (arith, few, height_some a))
    (numbered_of v h.middle i.middle k.middle i.first k.first)
    (cl 2 d (suc g) k.middle l.middle (omega arith) s.1.0 l.first (omega (arith, low)) (omega (arith, few)) (mark_ends marks.Semicolon l.middle f.middle f.first refl))
    (after_of marks.Semicolon l.middle f.middle f.first)
    (probed_found 0 d g (place ts) (select v cs) a f.middle j.middle x
    (ca 0 d (suc g) f.middle j.middle (got a j.middle) s.1.1 f.second (omega arith) (omega (arith, low)) (omega (arith, few)) (stops_none (after_level a) j.middle e) (climb_none 0 d (suc g) a j.middle (stops_none 0 j.middle e)))
    (after_of marks.RightParen j.middle x j.second) s.1.2)) q
