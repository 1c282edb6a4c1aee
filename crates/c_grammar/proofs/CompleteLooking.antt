-- What follows a part, and how parts begin.
use Rattle.std.proofs.Common.{◌≡◌, ℕ, ◌≤◌, ◌<◌, List, Option, Some, None, true, refl, sym, ap, ◌∙◌, subst, arith}
use Rattle.std.proofs.lemmas.Bool.{le-leb, lt-leb}
use Rattle.std.specs.Prelude.{nat_le, ◌&&◌, ◌≢◌}
use Rattle.c_syntax.specs.declared.token.Mark.{Mark}
use Rattle.c_syntax.specs.declared.token.Mark.TheVariants as marks
use Rattle.c_syntax.specs.declared.token.Key.{Key}
use Rattle.c_syntax.specs.declared.token.Key.TheVariants as keys
use Rattle.c_syntax.specs.declared.token.ProbeWord.TheVariants as words
use Rattle.c_syntax.specs.declared.token.Token.{Token}
use Rattle.c_syntax.specs.declared.token.TokenKind.TheVariants as kind
use Rattle.c_syntax.specs.declared.tree.UnaryOp.{UnaryOp}
use Rattle.c_syntax.specs.declared.tree.UnaryOp.TheVariants as unary_op
use Rattle.c_syntax.specs.declared.tree.BinaryOp.{BinaryOp}
use Rattle.c_syntax.specs.declared.tree.BinaryOp.TheVariants as op
use Rattle.c_syntax.specs.Forms.{Head, a_token, no_token, head, place, Written}
use Rattle.c_syntax.specs.Shape.{Leaf, number, char, str, name, Step, up, down, Prefix, unary, before, size_of, Infix, plain, and, or, assign, comma, Probing, NodeShape, node, ExprShape, leaf, paren, call, prefix, size_of_type, cast, suffix, two, choose, probe, simple, select, NodeShapes, no_nodes, more_nodes}
use Rattle.c_syntax.specs.Grammar.{leaf_kind, prefix_kind, probing_word, node_form}
use Rattle.c_syntax.specs.Levels.{height, chain, nodes_chain}
use Rattle.c_syntax.specs.Shaped.{binary_level, infix_level, right_least, prefix_least, level, Shaped, ShapedNodes}
use Rattle.c_grammar.specs.Look.{got, Finds, after, after_head, after_key}
use Rattle.c_grammar.specs.Starts.{Oper, infix_oper, question, bracket, access, step, open_paren, Sign, a_sign, no_sign, sign_head, sign, oper_level, oper_least, Start, at_leaf, at_prefix, at_paren, at_simple, at_select, no_start, start_mark, start_key, start_head, start, no_spec, spec_key, spec_of_head, spec_head, is_spec, type_if, type_in, type_ahead}
use Rattle.c_grammar.specs.Reader.{climbs}
use Rattle.c_grammar.specs.ExprReader.{place_of, takes}
use Rattle.c_grammar.proofs.Looking.{after_is, after_of, after_key_is}
use Rattle.c_grammar.proofs.Starting.{start_of}
use Rattle.c_grammar.proofs.ExprSteps.{climb_end, climb_stop}

-- OPERATORS

binary_low : (b : BinaryOp) → 5 ≤ binary_level b
binary_low op.Mul = omega arith
binary_low op.Div = omega arith
binary_low op.Rem = omega arith
binary_low op.Add = omega arith
binary_low op.Sub = omega arith
binary_low op.Shl = omega arith
binary_low op.Shr = omega arith
binary_low op.Lt = omega arith
binary_low op.Gt = omega arith
binary_low op.Le = omega arith
binary_low op.Ge = omega arith
binary_low op.Eq = omega arith
binary_low op.Ne = omega arith
binary_low op.BitAnd = omega arith
binary_low op.BitXor = omega arith
binary_low op.BitOr = omega arith

binary_high : (b : BinaryOp) → binary_level b ≤ 12
binary_high op.Mul = omega arith
binary_high op.Div = omega arith
binary_high op.Rem = omega arith
binary_high op.Add = omega arith
binary_high op.Sub = omega arith
binary_high op.Shl = omega arith
binary_high op.Shr = omega arith
binary_high op.Lt = omega arith
binary_high op.Gt = omega arith
binary_high op.Le = omega arith
binary_high op.Ge = omega arith
binary_high op.Eq = omega arith
binary_high op.Ne = omega arith
binary_high op.BitAnd = omega arith
binary_high op.BitXor = omega arith
binary_high op.BitOr = omega arith

pub infix_high : (u : Infix) → infix_level u ≤ 12
infix_high (plain b) = binary_high b
infix_high and = omega arith
infix_high or = omega arith
infix_high (assign o) = omega arith
infix_high comma = omega arith

pub right_some : (u : Infix) → 1 ≤ right_least u
right_some (plain b) = omega (arith, binary_low b)
right_some and = omega arith
right_some or = omega arith
right_some (assign o) = omega arith
right_some comma = omega arith

pub right_high : (u : Infix) → right_least u ≤ 13
right_high (plain b) = omega (arith, binary_high b)
right_high and = omega arith
right_high or = omega arith
right_high (assign o) = omega arith
right_high comma = omega arith

pub infix_right : (u : Infix) → infix_level u ≤ right_least u
infix_right (plain b) = omega arith
infix_right and = omega arith
infix_right or = omega arith
infix_right (assign o) = omega arith
infix_right comma = omega arith

pub oper_left : (o : Oper) → oper_level o ≤ oper_least o
oper_left (infix_oper (plain b)) = omega arith
oper_left (infix_oper and) = omega arith
oper_left (infix_oper or) = omega arith
oper_left (infix_oper (assign c)) = omega arith
oper_left (infix_oper comma) = omega arith
oper_left question = omega arith
oper_left bracket = omega arith
oper_left (access h) = omega arith
oper_left (step s) = omega arith
oper_left open_paren = omega arith

-- what takes a loose operand is a comma
left_loose : (o : Oper) → oper_least o ≤ 2 → oper_level o < 1
left_loose (infix_oper (plain b)) h = absurd (omega (arith, h, binary_low b))
left_loose (infix_oper and) h = absurd (omega (arith, h))
left_loose (infix_oper or) h = absurd (omega (arith, h))
left_loose (infix_oper (assign c)) h = absurd (omega (arith, h))
left_loose (infix_oper comma) h = omega arith
left_loose question h = absurd (omega (arith, h))
left_loose bracket h = absurd (omega (arith, h))
left_loose (access k) h = absurd (omega (arith, h))
left_loose (step s) h = absurd (omega (arith, h))
left_loose open_paren h = absurd (omega (arith, h))

-- no operator binds as casts or prefixes do
oper_gap : (o : Oper) → oper_level o < 15 → oper_level o ≤ 12
oper_gap (infix_oper u) h = infix_high u
oper_gap question h = omega arith
oper_gap bracket h = absurd (omega (arith, h))
oper_gap (access k) h = absurd (omega (arith, h))
oper_gap (step s) h = absurd (omega (arith, h))
oper_gap open_paren h = absurd (omega (arith, h))

left_tight : (o : Oper) → oper_least o ≤ 14 → oper_level o ≤ 12
left_tight o h = oper_gap o (omega (arith, h, oper_left o))

left_any : (o : Oper) → oper_least o ≤ 16 → oper_level o < 16
left_any (infix_oper u) h = omega (arith, infix_high u)
left_any question h = omega arith
left_any bracket h = omega arith
left_any (access k) h = omega arith
left_any (step s) h = omega arith
left_any open_paren h = absurd (omega (arith, h))

-- WHAT MAY FOLLOW A NODE

-- no operator follows that binds as tightly as this
abbrev pub StopsAt : ℕ → Sign → Type 0
StopsAt m (a_sign o r) = oper_level o < m
StopsAt m no_sign = Unit {0}

-- an operator may follow only if it is looser than this
abbrev pub expr_after : ExprShape → ℕ
expr_after (leaf l) = 16
expr_after (paren a) = 16
expr_after (call x args) = 16
expr_after (prefix u a) = prefix_least u
expr_after (size_of_type t) = 16
expr_after (cast t a) = 13
expr_after (suffix a s) = 16
expr_after (two u a b) = right_least u
expr_after (choose a b c) = 2
expr_after (probe u a) = 16

abbrev pub after_level : NodeShape → ℕ
after_level (node p o n f) = expr_after f

prefix_after : (u : Prefix) → 13 ≤ prefix_least u
prefix_after (unary u) = omega arith
prefix_after (before s) = omega arith
prefix_after size_of = omega arith

pub prefix_high : (u : Prefix) → prefix_least u ≤ 14
prefix_high (unary u) = omega arith
prefix_high (before s) = omega arith
prefix_high size_of = omega arith

two_takes : (u : Infix) (o : Oper) → oper_least o ≤ infix_level u → oper_level o < right_least u
two_takes (plain b) o h = omega (arith, h, oper_left o)
two_takes and o h = omega (arith, h, oper_left o)
two_takes or o h = omega (arith, h, oper_left o)
two_takes (assign c) o h = left_loose o (omega (arith, h))
two_takes comma o h = left_loose o (omega (arith, h))

-- an operand is followed by the operator that takes it
pub left_follows : (o : Oper) (a : NodeShape) → oper_least o ≤ level a → oper_level o < after_level a
left_follows o (node p q n (leaf l)) h = left_any o h
left_follows o (node p q n (paren a)) h = left_any o h
left_follows o (node p q n (call x args)) h = left_any o h
left_follows o (node p q n (prefix u a)) h = omega (arith, left_tight o h, prefix_after u)
left_follows o (node p q n (size_of_type t)) h = omega (arith, left_tight o h)
left_follows o (node p q n (cast t a)) h = omega (arith, left_tight o (omega (arith, h)))
left_follows o (node p q n (suffix a s)) h = left_any o (omega (arith, h))
left_follows o (node p q n (two u a b)) h = two_takes u o h
left_follows o (node p q n (choose a b c)) h = omega (arith, left_loose o h)
left_follows o (node p q n (probe u a)) h = left_any o h

after_some : (m : ℕ) (t : NodeShape) → m ≤ 13 → m ≤ level t → m ≤ after_level t
after_some m (node p q n (leaf l)) a b = omega (arith, a)
after_some m (node p q n (paren c)) a b = omega (arith, a)
after_some m (node p q n (call x args)) a b = omega (arith, a)
after_some m (node p q n (prefix u c)) a b = omega (arith, a, prefix_after u)
after_some m (node p q n (size_of_type t)) a b = omega (arith, a)
after_some m (node p q n (cast t c)) a b = omega (arith, a)
after_some m (node p q n (suffix c s)) a b = omega (arith, a)
after_some m (node p q n (two u c d)) a b = omega (arith, b, infix_right u)
after_some m (node p q n (choose c d e)) a b = omega (arith, b)
after_some m (node p q n (probe u c)) a b = omega (arith, a)

pub after_one : (t : NodeShape) → 1 ≤ after_level t
after_one (node p q n (leaf l)) = omega arith
after_one (node p q n (paren c)) = omega arith
after_one (node p q n (call x args)) = omega arith
after_one (node p q n (prefix u c)) = omega (arith, prefix_after u)
after_one (node p q n (size_of_type t)) = omega arith
after_one (node p q n (cast t c)) = omega arith
after_one (node p q n (suffix c s)) = omega arith
after_one (node p q n (two u c d)) = right_some u
after_one (node p q n (choose c d e)) = omega arith
after_one (node p q n (probe u c)) = omega arith

pub stops_up : (m n : ℕ) (s : Sign) → m ≤ n → StopsAt m s → StopsAt n s
stops_up m n no_sign le h = tt
stops_up m n (a_sign o r) le h = omega (arith, le, h)

-- operators looser than prefixes are looser than casts
stops_gap : (m : ℕ) (s : Sign) → m ≤ 14 → StopsAt m s → StopsAt 13 s
stops_gap m no_sign le h = tt
stops_gap m (a_sign o r) le h = omega (arith, oper_gap o (omega (arith, le, h)))

pub after_tight : (t : NodeShape) → 13 ≤ level t → 13 ≤ after_level t
after_tight t h = after_some 13 t (omega arith) h

stops_tight : (t : NodeShape) (m : ℕ) (s : Sign) → 13 ≤ m → m ≤ 14 → m ≤ level t → StopsAt m s → StopsAt (after_level t) s
stops_tight t m s low high le h = stops_up 13 (after_level t) s (after_tight t (omega (arith, low, le))) (stops_gap m s high h)

-- an operand on the right is followed by what follows the whole
pub right_stops : (t : NodeShape) (m : ℕ) (s : Sign) → m ≤ 13 → m ≤ level t → StopsAt m s → StopsAt (after_level t) s
right_stops t m s low le h = stops_up m (after_level t) s (after_some m t low le) h

pub prefix_stops : (u : Prefix) (t : NodeShape) (s : Sign) → prefix_least u ≤ level t → StopsAt (prefix_least u) s → StopsAt (after_level t) s
prefix_stops u t s le h = stops_tight t (prefix_least u) s (prefix_after u) (prefix_high u) le h

-- nothing is taken any more
pub climb_none : (n d g : ℕ) (t : NodeShape) (x : List Token) → StopsAt n (sign x) → Finds (climbs n d g t) x (got t x)
climb_none n d g t x h = go (sign x) refl h
  where
    go : (s : Sign) → sign x ≡ s → StopsAt n s → Finds (climbs n d g t) x (got t x)
    go no_sign e h = climb_end n d g t x e
    go (a_sign o r) e h = climb_stop n d g t x r o e (ap (λ b. b && nat_le (oper_least o) (level t)) (lt-leb n (oper_level o) h))

pub takes_left : (n : ℕ) (a : NodeShape) (o : Oper) → n ≤ oper_level o → oper_least o ≤ level a → takes n a o ≡ true
takes_left n a o h k = ap (λ b. b && nat_le (oper_least o) (level a)) (le-leb n (oper_level o) h) ∙ le-leb (oper_least o) (level a) k

pub stops_none : (m : ℕ) (x : List Token) → sign x ≡ no_sign → StopsAt m (sign x)
stops_none m x e = subst (StopsAt m) (sym e) tt

pub stops_by : (m : ℕ) (x r : List Token) (o : Oper) → sign x ≡ a_sign o r → oper_level o < m → StopsAt m (sign x)
stops_by m x r o e h = subst (StopsAt m) (sym e) h

-- HEIGHTS

pub height_some : (t : NodeShape) → 1 ≤ height t
height_some (node p o n (leaf l)) = omega arith
height_some (node p o n (paren a)) = omega arith
height_some (node p o n (call x args)) = omega arith
height_some (node p o n (prefix u a)) = omega arith
height_some (node p o n (size_of_type t)) = omega arith
height_some (node p o n (cast t a)) = omega arith
height_some (node p o n (suffix a s)) = omega arith
height_some (node p o n (two u a b)) = omega arith
height_some (node p o n (choose a b c)) = omega arith
height_some (node p o n (probe u a)) = omega (arith, height_some a)

pub chain_few : (t : NodeShape) → Shaped t → chain t ≤ 4
chain_few (node p o n (leaf l)) s = omega arith
chain_few (node p o n (paren a)) s = omega arith
chain_few (node p o n (call x args)) s = omega arith
chain_few (node p o n (prefix u a)) s = omega arith
chain_few (node p o n (size_of_type t)) s = omega arith
chain_few (node p o n (cast t a)) s = omega arith
chain_few (node p o n (suffix a k)) s = omega arith
chain_few (node p o n (two u a b)) s = omega arith
chain_few (node p o n (choose a b c)) s = omega arith
chain_few (node p o n (probe u a)) s = omega (arith, s.1.2)

pub chains_few : (l : ℕ) (as' : NodeShapes) → ShapedNodes l as' → nodes_chain as' ≤ 4
chains_few l no_nodes s = omega arith
chains_few l (more_nodes a rest) s = omega (arith, chain_few a s.1, chains_few l rest s.2)

-- WHAT THE FIRST TOKEN ISN'T

pub none_if : (o : Option (List Token)) → ((r : List Token) → o ≡ Some r → ⊥) → o ≡ None
none_if None h = refl
none_if (Some r) h = absurd (h r refl)

-- the tokens begin as an expression does
abbrev pub Begins : List Token → Type 0
Begins ts = start ts ≢ no_start

pub no_mark : (m : Mark) (ts : List Token) → Begins ts → ((r : List Token) → start_mark m r ≡ no_start) → after m ts ≡ None
no_mark m ts b h = none_if (after m ts) (λ r e. b (ap start_head (after_is m ts r e) ∙ h r))

pub no_key : (k : Key) (ts : List Token) → Begins ts → ((r : List Token) → start_key k r ≡ no_start) → after_key k ts ≡ None
no_key k ts b h = none_if (after_key k ts) (λ r e. b (ap start_head (after_key_is k ts r e) ∙ h r))

key_no_spec : (k : Key) (r : List Token) → start_key k r ≢ no_start → spec_key k r ≡ no_spec
key_no_spec keys.Break r n = refl
key_no_spec keys.Case r n = refl
key_no_spec keys.Char r n = absurd (n refl)
key_no_spec keys.Const r n = absurd (n refl)
key_no_spec keys.Continue r n = refl
key_no_spec keys.Default r n = refl
key_no_spec keys.Do r n = refl
key_no_spec keys.Else r n = refl
key_no_spec keys.Enum r n = absurd (n refl)
key_no_spec keys.For r n = refl
key_no_spec keys.If r n = refl
key_no_spec keys.Int r n = absurd (n refl)
key_no_spec keys.Long r n = absurd (n refl)
key_no_spec keys.Return r n = refl
key_no_spec keys.Short r n = absurd (n refl)
key_no_spec keys.Signed r n = absurd (n refl)
key_no_spec keys.Sizeof r n = refl
key_no_spec keys.Static r n = absurd (n refl)
key_no_spec keys.Struct r n = absurd (n refl)
key_no_spec keys.Switch r n = refl
key_no_spec keys.Unsigned r n = absurd (n refl)
key_no_spec keys.Void r n = absurd (n refl)
key_no_spec keys.While r n = refl

head_no_spec : (h : Head) → start_head h ≢ no_start → spec_of_head h ≡ no_spec
head_no_spec no_token n = refl
head_no_spec (a_token (kind.Word x) r) n = refl
head_no_spec (a_token (kind.Number x) r) n = refl
head_no_spec (a_token (kind.Char x) r) n = refl
head_no_spec (a_token (kind.Str x) r) n = refl
head_no_spec (a_token (kind.Mark x) r) n = refl
head_no_spec (a_token (kind.Key x) r) n = key_no_spec x r n
head_no_spec (a_token (kind.Probe x) r) n = refl

-- an expression begins no declaration
pub no_spec_there : (ts : List Token) → Begins ts → spec_head ts ≡ no_spec
no_spec_there ts b = head_no_spec (head ts) b

begun : (s : Start) (ts : List Token) → start ts ≡ s → s ≢ no_start → Begins ts
begun s ts e n b = n (sym e ∙ b)

pub leaf_start : (l : Leaf) (ts r : List Token) → head ts ≡ a_token (leaf_kind l) r → start ts ≡ at_leaf l r
leaf_start l ts r h = start_of ts (at_leaf l r) h (λ e. (let q : at_leaf l r ≡ no_start = e in cc))

pub prefix_start : (u : Prefix) (ts r : List Token) → head ts ≡ a_token (prefix_kind u) r → start ts ≡ at_prefix u r
prefix_start u ts r h = start_of ts (at_prefix u r) h (λ e. (let q : at_prefix u r ≡ no_start = e in cc))

pub paren_start : (ts r : List Token) → head ts ≡ a_token (kind.Mark marks.LeftParen) r → start ts ≡ at_paren r
paren_start ts r h = ap start_head h

pub simple_start : (u : Probing) (ts r : List Token) → head ts ≡ a_token (kind.Probe (probing_word u)) r → start ts ≡ at_simple u r
simple_start u ts r h = start_of ts (at_simple u r) h (λ e. (let q : at_simple u r ≡ no_start = e in cc))

pub select_start : (ts r : List Token) → head ts ≡ a_token (kind.Probe words.Select) r → start ts ≡ at_select r
select_start ts r h = ap start_head h

leaf_begins : (l : Leaf) (ts r : List Token) → head ts ≡ a_token (leaf_kind l) r → Begins ts
leaf_begins l ts r h = begun (at_leaf l r) ts (leaf_start l ts r h) (λ e. (let q : at_leaf l r ≡ no_start = e in cc))

prefix_begins : (u : Prefix) (ts r : List Token) → head ts ≡ a_token (prefix_kind u) r → Begins ts
prefix_begins u ts r h = begun (at_prefix u r) ts (prefix_start u ts r h) (λ e. (let q : at_prefix u r ≡ no_start = e in cc))

paren_begins : (ts r : List Token) → head ts ≡ a_token (kind.Mark marks.LeftParen) r → Begins ts
paren_begins ts r h = begun (at_paren r) ts (paren_start ts r h) (λ e. (let q : at_paren r ≡ no_start = e in cc))

simple_begins : (u : Probing) (ts r : List Token) → head ts ≡ a_token (kind.Probe (probing_word u)) r → Begins ts
simple_begins u ts r h = begun (at_simple u r) ts (simple_start u ts r h) (λ e. (let q : at_simple u r ≡ no_start = e in cc))

select_begins : (ts r : List Token) → head ts ≡ a_token (kind.Probe words.Select) r → Begins ts
select_begins ts r h = begun (at_select r) ts (select_start ts r h) (λ e. (let q : at_select r ≡ no_start = e in cc))

pub node_begins : (t : NodeShape) (ts x : List Token) → Written (node_form t) ts x → Begins ts
node_begins (node p o n (leaf l)) ts x w = leaf_begins l ts x w.1.1
node_begins (node p o n (paren a)) ts x w = paren_begins ts w.1.middle w.1.first.1
node_begins (node p o n (call v args)) ts x w = leaf_begins (name v) ts w.1.middle w.1.first.1
node_begins (node p o n (prefix u a)) ts x w = prefix_begins u ts w.1.middle w.1.first.1
node_begins (node p o n (size_of_type t)) ts x w = prefix_begins size_of ts w.1.middle w.1.first.1
node_begins (node p o n (cast t a)) ts x w = paren_begins ts w.1.middle w.1.first.1
node_begins (node p o n (suffix a s)) ts x w = node_begins a ts w.1.middle w.1.first
node_begins (node p o n (two u a b)) ts x w = node_begins a ts w.1.middle w.1.first
node_begins (node p o n (choose a b c)) ts x w = node_begins a ts w.1.middle w.1.first
node_begins (node p o n (probe (simple u v) a)) ts x w = simple_begins u ts w.1.middle w.1.first.1
node_begins (node p o n (probe (select v cs) a)) ts x w = select_begins ts w.1.middle w.1.first.1

-- a node begins where its tokens begin
pub begins_at : (t : NodeShape) (ts x : List Token) → Written (node_form t) ts x → place_of t ≡ place ts
begins_at (node p o n f) ts x w = w.0

-- a parenthesis, and no type name behind it
no_type_behind : (ts r : List Token) → head ts ≡ a_token (kind.Mark marks.LeftParen) r → Begins r → type_ahead ts ≡ None
no_type_behind ts r h b = ap type_in (after_of marks.LeftParen ts r h) ∙ ap (λ s. type_if r (is_spec s)) (no_spec_there r b)

pub paren_type : (a : NodeShape) (ts r x : List Token) → head ts ≡ a_token (kind.Mark marks.LeftParen) r → Written (node_form a) r x → type_ahead ts ≡ None
paren_type a ts r x h w = no_type_behind ts r h (node_begins a r x w)

no_paren_type : (ts : List Token) → after marks.LeftParen ts ≡ None → type_ahead ts ≡ None
no_paren_type ts e = ap type_in e

start_leaf_paren : (l : Leaf) (r : List Token) → after_head marks.LeftParen (a_token (leaf_kind l) r) ≡ None
start_leaf_paren (number v) r = refl
start_leaf_paren (char v) r = refl
start_leaf_paren (str v) r = refl
start_leaf_paren (name v) r = refl

unary_paren : (u : UnaryOp) (r : List Token) → after_head marks.LeftParen (a_token (prefix_kind (unary u)) r) ≡ None
unary_paren unary_op.AddressOf r = refl
unary_paren unary_op.Deref r = refl
unary_paren unary_op.Plus r = refl
unary_paren unary_op.Minus r = refl
unary_paren unary_op.Flip r = refl
unary_paren unary_op.Not r = refl

before_paren : (s : Step) (r : List Token) → after_head marks.LeftParen (a_token (prefix_kind (before s)) r) ≡ None
before_paren up r = refl
before_paren down r = refl

start_prefix_paren : (u : Prefix) (r : List Token) → after_head marks.LeftParen (a_token (prefix_kind u) r) ≡ None
start_prefix_paren (unary u) r = unary_paren u r
start_prefix_paren (before s) r = before_paren s r
start_prefix_paren size_of r = refl

-- no operand of `sizeof` begins as a type name in parentheses
pub no_type_operand : (t : NodeShape) (ts x : List Token) → Shaped t → Written (node_form t) ts x → 14 ≤ level t → type_ahead ts ≡ None
no_type_operand (node p o n (leaf l)) ts x s w le = no_paren_type ts (ap (after_head marks.LeftParen) w.1.1 ∙ start_leaf_paren l x)
no_type_operand (node p o n (paren a)) ts x s w le = paren_type a ts w.1.middle w.1.second.middle w.1.first.1 w.1.second.first
no_type_operand (node p o n (call v args)) ts x s w le = no_paren_type ts (ap (after_head marks.LeftParen) w.1.first.1)
no_type_operand (node p o n (prefix u a)) ts x s w le = no_paren_type ts (ap (after_head marks.LeftParen) w.1.first.1 ∙ start_prefix_paren u w.1.middle)
no_type_operand (node p o n (size_of_type t)) ts x s w le = no_paren_type ts (ap (after_head marks.LeftParen) w.1.first.1)
no_type_operand (node p o n (cast t a)) ts x s w le = absurd (omega (arith, le))
no_type_operand (node p o n (suffix a k)) ts x s w le = no_type_operand a ts w.1.middle s.1.1 w.1.first (omega (arith, s.1.0))
no_type_operand (node p o n (two u a b)) ts x s w le = absurd (omega (arith, le, infix_high u))
no_type_operand (node p o n (choose a b c)) ts x s w le = absurd (omega (arith, le))
no_type_operand (node p o n (probe (simple u v) a)) ts x s w le = no_paren_type ts (ap (after_head marks.LeftParen) w.1.first.1)
no_type_operand (node p o n (probe (select v cs) a)) ts x s w le = no_paren_type ts (ap (after_head marks.LeftParen) w.1.first.1)

-- what stops an operand of the highest level is no parenthesis
pub no_call : (x : List Token) → StopsAt 16 (sign x) → after marks.LeftParen x ≡ None
no_call x h = none_if (after marks.LeftParen x) (λ r e. (let q : StopsAt 16 (a_sign open_paren r) = subst (StopsAt 16) (ap sign_head (after_is marks.LeftParen x r e)) h in omega (arith, q)))

-- what is no operator is none of the marks that are
pub no_oper_mark : (m : Mark) (o : Oper) (x : List Token) → sign x ≡ no_sign → ((r : List Token) → sign_head (a_token (kind.Mark m) r) ≡ a_sign o r) → after m x ≡ None
no_oper_mark m o x e h = none_if (after m x) (λ r a. (let q : no_sign ≡ a_sign o r = sym e ∙ ap sign_head (after_is m x r a) ∙ h r in cc))

pub no_comma : (x : List Token) → sign x ≡ no_sign → after marks.Comma x ≡ None
no_comma x e = no_oper_mark marks.Comma (infix_oper comma) x e (λ r. refl)
