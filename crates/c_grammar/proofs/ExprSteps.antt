-- The steps of the reader of expressions: one for each way that reading goes.
pub use Rattle.c_grammar.specs.Parts.{closed, grown, whole, arguments, listing, typed, probed, inner, constants}
use Rattle.std.proofs.Common.{◌≡◌, ℕ, zero, suc, ◌+◌, ◌≤◌, ◌<◌, List, Option, Some, None, Bool, true, false, refl, sym, ap, ◌∙◌, subst, arith, le-ltb}
use Rattle.std.proofs.lemmas.Bool.{lt-ltb, le-leb, lt-leb}
use Rattle.std.specs.Prelude.{nat_lt, nat_le, max}
use Rattle.c_base.specs.declared.place.Pos.{Pos}
use Rattle.c_syntax.specs.declared.text.Text.{Text}
use Rattle.c_syntax.specs.declared.token.Mark.{Mark}
use Rattle.c_syntax.specs.declared.token.Mark.TheVariants as marks
use Rattle.c_syntax.specs.declared.token.Token.{Token}
use Rattle.c_syntax.specs.Forms.{place}
use Rattle.c_syntax.specs.Shape.{bare, number, char, str, name, Step, Prefix, size_of, Infix, Access, Probing, NodeShape, node, leaf, paren, call, prefix, size_of_type, cast, suffix, two, choose, probe, index, field, behind, ProbeShape, simple, select, NodeShapes, no_nodes, more_nodes, TypeShape}
use Rattle.c_syntax.specs.Levels.{height, chain, cases_chain}
use Rattle.c_syntax.specs.Shaped.{right_least, prefix_least, probe_least, level}
use Rattle.c_grammar.specs.Look.{Got, got, then_go, go_after, either_way, where_true, if_so, Finds, after, wanted, expect, a_number, a_word}
use Rattle.c_grammar.specs.Starts.{Oper, infix_oper, question, bracket, access, step, open_paren, Sign, a_sign, no_sign, sign, Start, at_leaf, at_prefix, at_paren, at_simple, at_select, no_start, start, type_ahead}
use Rattle.c_grammar.specs.Reader.{reads, climbs, reads_led, reads_type, below, fronts}
use Rattle.c_grammar.specs.ExprReader.{place_of, most_probes, Below, onto, one_more, args, leaf_at, call_at, calling, prefix_at, size_at, paren_at, cast_at, in_type, sizing, casting, casting_from, type_behind, numbered, probe_at, probing, simple_from, selected, select_from, front, two_on, choose_on, choose_from, index_on, field_on, grow, takes, next}
use Rattle.c_grammar.proofs.Looking.{find_from}

-- TESTS

pub low_go : {A : Type 0} (a b : ℕ) (go : Got A) → a < b → where_true (nat_lt a b) go ≡ go
low_go a b go h = ap (λ t. where_true t go) (lt-ltb a b h)

pub high_none : {A : Type 0} (a b : ℕ) (go : Got A) → b ≤ a → where_true (nat_lt a b) go ≡ None
high_none a b go h = ap (λ t. where_true t go) (le-ltb a b h)

-- A READER AND ANOTHER BEHIND IT

pub then_found : {A B : Type 0} (f : ℕ → List Token → Got A) (go : ℕ → A → List Token → Got B) (ts : List Token) (a : A) (x : List Token) (r : Got B) → Finds f ts (got a x) → Finds (λ k l. go k a l) x r → Finds (λ k l. then_go (f k l) (go k)) ts r
then_found f go ts a x r p q = record { from = p.from + q.from; holds = λ k h. ap (λ z. then_go z (go k)) (p.holds k (omega (arith, h))) ∙ q.holds k (omega (arith, h)) }

pub then_fails : {A B : Type 0} (f : ℕ → List Token → Got A) (go : ℕ → A → List Token → Got B) (ts : List Token) → Finds f ts None → Finds (λ k l. then_go (f k l) (go k)) ts None
then_fails f go ts p = record { from = p.from; holds = λ k h. ap (λ z. then_go z (go k)) (p.holds k h) }

pub closed_found : {A : Type 0} (m : Mark) (f : ℕ → List Token → Got A) (ts : List Token) (a : A) (x y : List Token) → Finds f ts (got a x) → after m x ≡ Some y → Finds (closed m f) ts (got a y)
closed_found m f ts a x y p e = then_found f (λ k. expect m) ts a x (got a y) p (record { from = 0; holds = λ k h. ap (wanted a) e })

pub closed_fails : {A : Type 0} (m : Mark) (f : ℕ → List Token → Got A) (ts : List Token) → Finds f ts None → Finds (closed m f) ts None
closed_fails m f ts p = then_fails f (λ k. expect m) ts p

pub closed_open : {A : Type 0} (m : Mark) (f : ℕ → List Token → Got A) (ts : List Token) (a : A) (x : List Token) → Finds f ts (got a x) → after m x ≡ None → Finds (closed m f) ts None
closed_open m f ts a x p e = then_found f (λ k. expect m) ts a x None p (record { from = 0; holds = λ k h. ap (wanted a) e })

-- ANSWERS THAT TAKE NO STEP
at_once : {A : Type 0} (f : List Token → Got A) (ts : List Token) (r : Got A) → f ts ≡ r → Finds (λ k l. f l) ts r
at_once f ts r e = record { from = 0; holds = λ k h. e }

-- OPERATORS

then_assoc : {A B C : Type 0} (x : Got A) (f : A → List Token → Got B) (g : B → List Token → Got C) → then_go (then_go x f) g ≡ then_go x (λ a l. then_go (f a l) g)
then_assoc None f g = refl
then_assoc (Some p) f g = refl

choose_apart : (B : Below) (on : NodeShape → List Token → Got NodeShape) (a : NodeShape) (q : Pos) (x : Got NodeShape) → then_go x (choose_from B on a q) ≡ then_go (then_go x (choose_from B (λ b l. got b l) a q)) on
choose_apart B on a q None = refl
choose_apart B on a q (Some p) = sym (then_assoc (B.operand 2 p.1) (choose_on (λ b l. got b l) a q p.0) on)

-- growing by one operator, then going on
grow_apart : (B : Below) (on : NodeShape → List Token → Got NodeShape) (a : NodeShape) (q : Pos) (r : List Token) (o : Oper) → grow B on a q r o ≡ then_go (grow B (λ b l. got b l) a q r o) on
grow_apart B on a q r (infix_oper u) = sym (then_assoc (B.operand (right_least u) r) (two_on (λ b l. got b l) a q u) on)
grow_apart B on a q r question = choose_apart B on a q (then_go (B.operand 0 r) (expect marks.Colon))
grow_apart B on a q r bracket = sym (then_assoc (then_go (B.operand 0 r) (expect marks.RightBracket)) (index_on (λ b l. got b l) a q) on)
grow_apart B on a q r (access h) = sym (then_assoc (a_word r) (field_on (λ b l. got b l) a q h (place r)) on)
grow_apart B on a q r (step s) = refl
grow_apart B on a q r open_paren = refl

abbrev on_from : ℕ → ℕ → ℕ → ℕ → NodeShape → List Token → Got NodeShape
on_from n d g k b l = climbs n d g b k l

to_grow : (n d g : ℕ) (a : NodeShape) (ts r : List Token) (o : Oper) → sign ts ≡ a_sign o r → takes n a o ≡ true → (j : ℕ) → climbs n d g a (suc j) ts ≡ where_true (nat_lt (height a + d) 400) (grow (below d g j) (on_from n d g j) a (place ts) r o)
to_grow n d g a ts r o e t j = ap (next (below d g j) (on_from n d g j) n d a ts) e ∙ ap (λ b. if_so b (where_true (nat_lt (height a + d) 400) (grow (below d g j) (on_from n d g j) a (place ts) r o)) (got a ts)) t

pub climb_on : (n d g : ℕ) (a b : NodeShape) (ts r y : List Token) (o : Oper) (z : Got NodeShape) → sign ts ≡ a_sign o r → takes n a o ≡ true → height a + d < 400 → Finds (grown d g a (place ts) o) r (Some (b, y)) → Finds (climbs n d g b) y z → Finds (climbs n d g a) ts z
climb_on n d g a b ts r y o z e t low p q =
    find_from (climbs n d g a) ts z (p.from + q.from) (λ j h.
    to_grow n d g a ts r o e t j
    ∙ low_go (height a + d) 400 (grow (below d g j) (on_from n d g j) a (place ts) r o) low
    ∙ grow_apart (below d g j) (on_from n d g j) a (place ts) r o
    ∙ ap (λ f. then_go f (on_from n d g j)) (p.holds j (omega (arith, h)))
    ∙ q.holds j (omega (arith, h)))

pub climb_fails : (n d g : ℕ) (a : NodeShape) (ts r : List Token) (o : Oper) → sign ts ≡ a_sign o r → takes n a o ≡ true → height a + d < 400 → Finds (grown d g a (place ts) o) r None → Finds (climbs n d g a) ts None
climb_fails n d g a ts r o e t low p =
    find_from (climbs n d g a) ts None p.from (λ j h.
    to_grow n d g a ts r o e t j
    ∙ low_go (height a + d) 400 (grow (below d g j) (on_from n d g j) a (place ts) r o) low
    ∙ grow_apart (below d g j) (on_from n d g j) a (place ts) r o
    ∙ ap (λ f. then_go f (on_from n d g j)) (p.holds j h))

pub climb_high : (n d g : ℕ) (a : NodeShape) (ts r : List Token) (o : Oper) → sign ts ≡ a_sign o r → takes n a o ≡ true → 400 ≤ height a + d → Finds (climbs n d g a) ts None
climb_high n d g a ts r o e t high =
    find_from (climbs n d g a) ts None 0 (λ j h. to_grow n d g a ts r o e t j ∙ high_none (height a + d) 400 (grow (below d g j) (on_from n d g j) a (place ts) r o) high)

pub climb_end : (n d g : ℕ) (a : NodeShape) (ts : List Token) → sign ts ≡ no_sign → Finds (climbs n d g a) ts (Some (a, ts))
climb_end n d g a ts e = find_from (climbs n d g a) ts (got a ts) 0 (λ j h. ap (next (below d g j) (on_from n d g j) n d a ts) e)

pub climb_stop : (n d g : ℕ) (a : NodeShape) (ts r : List Token) (o : Oper) → sign ts ≡ a_sign o r → takes n a o ≡ false → Finds (climbs n d g a) ts (Some (a, ts))
climb_stop n d g a ts r o e t =
    find_from (climbs n d g a) ts (got a ts) 0 (λ j h.
    ap (next (below d g j) (on_from n d g j) n d a ts) e ∙ ap (λ b. if_so b (where_true (nat_lt (height a + d) 400) (grow (below d g j) (on_from n d g j) a (place ts) r o)) (got a ts)) t)

-- from an operand on

abbrev from_front : ℕ → ℕ → ℕ → ℕ → NodeShape → List Token → Got NodeShape
from_front n d g k a r = where_true (nat_le n (level a)) (climbs n d g a k r)

pub read_on : (n d g : ℕ) (ts : List Token) (a : NodeShape) (y : List Token) (z : Got NodeShape) → d < 400 → Finds (fronts d g) ts (Some (a, y)) → n ≤ level a → Finds (climbs n d g a) y z → Finds (reads n d g) ts z
read_on n d g ts a y z low p le q =
    find_from (reads n d g) ts z (p.from + q.from) (λ j h.
    low_go d 400 (then_go (fronts d g j ts) (from_front n d g j)) low
    ∙ ap (λ f. then_go f (from_front n d g j)) (p.holds j (omega (arith, h)))
    ∙ ap (λ b. where_true b (climbs n d g a j y)) (le-leb n (level a) le)
    ∙ q.holds j (omega (arith, h)))

pub read_fails : (n d g : ℕ) (ts : List Token) → d < 400 → Finds (fronts d g) ts None → Finds (reads n d g) ts None
read_fails n d g ts low p =
    find_from (reads n d g) ts None p.from (λ j h. low_go d 400 (then_go (fronts d g j ts) (from_front n d g j)) low ∙ ap (λ f. then_go f (from_front n d g j)) (p.holds j h))

pub read_loose : (n d g : ℕ) (ts : List Token) (a : NodeShape) (y : List Token) → d < 400 → Finds (fronts d g) ts (Some (a, y)) → level a < n → Finds (reads n d g) ts None
read_loose n d g ts a y low p lt =
    find_from (reads n d g) ts None p.from (λ j h.
    low_go d 400 (then_go (fronts d g j ts) (from_front n d g j)) low
    ∙ ap (λ f. then_go f (from_front n d g j)) (p.holds j h)
    ∙ ap (λ b. where_true b (climbs n d g a j y)) (lt-leb n (level a) lt))

pub read_deep : (n d g : ℕ) (ts : List Token) → 400 ≤ d → Finds (reads n d g) ts None
read_deep n d g ts high = find_from (reads n d g) ts None 0 (λ j h. high_none d 400 (then_go (fronts d g j ts) (from_front n d g j)) high)

-- THE OPERATORS ONE BY ONE

pub grow_infix : (d g : ℕ) (a b : NodeShape) (q : Pos) (u : Infix) (r y : List Token) → Finds (reads (right_least u) (suc d) g) r (Some (b, y)) → Finds (grown d g a q (infix_oper u)) r (Some (node (place_of a) q bare (two u a b), y))
grow_infix d g a b q u r y p = record { from = p.from; holds = λ k h. ap (λ f. then_go f (two_on (λ b l. got b l) a q u)) (p.holds k h) }

pub grow_infix_fails : (d g : ℕ) (a : NodeShape) (q : Pos) (u : Infix) (r : List Token) → Finds (reads (right_least u) (suc d) g) r None → Finds (grown d g a q (infix_oper u)) r None
grow_infix_fails d g a q u r p = record { from = p.from; holds = λ k h. ap (λ f. then_go f (two_on (λ b l. got b l) a q u)) (p.holds k h) }

pub grow_choose : (d g : ℕ) (a b c : NodeShape) (q : Pos) (r x y z : List Token) → Finds (whole d g) r (Some (b, x)) → after marks.Colon x ≡ Some y → Finds (reads 2 (suc d) g) y (Some (c, z)) → Finds (grown d g a q question) r (Some (node (place_of a) q bare (choose a b c), z))
grow_choose d g a b c q r x y z p e s =
    then_found (closed marks.Colon (whole d g)) (λ k. choose_from (below d g k) (λ b l. got b l) a q) r b y (got (node (place_of a) q bare (choose a b c)) z) (closed_found marks.Colon (whole d g) r b x y p e) (record { from = s.from; holds = λ k h. ap (λ f. then_go f (choose_on (λ b l. got b l) a q b)) (s.holds k h) })

pub grow_choose_fails : (d g : ℕ) (a : NodeShape) (q : Pos) (r : List Token) → Finds (whole d g) r None → Finds (grown d g a q question) r None
grow_choose_fails d g a q r p = then_fails (closed marks.Colon (whole d g)) (λ k. choose_from (below d g k) (λ b l. got b l) a q) r (closed_fails marks.Colon (whole d g) r p)

pub grow_choose_open : (d g : ℕ) (a b : NodeShape) (q : Pos) (r x : List Token) → Finds (whole d g) r (Some (b, x)) → after marks.Colon x ≡ None → Finds (grown d g a q question) r None
grow_choose_open d g a b q r x p e = then_fails (closed marks.Colon (whole d g)) (λ k. choose_from (below d g k) (λ b l. got b l) a q) r (closed_open marks.Colon (whole d g) r b x p e)

pub grow_choose_last : (d g : ℕ) (a b : NodeShape) (q : Pos) (r x y : List Token) → Finds (whole d g) r (Some (b, x)) → after marks.Colon x ≡ Some y → Finds (reads 2 (suc d) g) y None → Finds (grown d g a q question) r None
grow_choose_last d g a b q r x y p e s =
    then_found (closed marks.Colon (whole d g)) (λ k. choose_from (below d g k) (λ b l. got b l) a q) r b y None (closed_found marks.Colon (whole d g) r b x y p e) (record { from = s.from; holds = λ k h. ap (λ f. then_go f (choose_on (λ b l. got b l) a q b)) (s.holds k h) })

pub grow_index : (d g : ℕ) (a b : NodeShape) (q : Pos) (r x y : List Token) → Finds (whole d g) r (Some (b, x)) → after marks.RightBracket x ≡ Some y → Finds (grown d g a q bracket) r (Some (node (place_of a) q bare (suffix a (index b)), y))
grow_index d g a b q r x y p e =
    then_found (closed marks.RightBracket (whole d g)) (λ k. index_on (λ b l. got b l) a q) r b y (got (node (place_of a) q bare (suffix a (index b))) y) (closed_found marks.RightBracket (whole d g) r b x y p e) (record { from = 0; holds = λ k h. refl })

pub grow_index_fails : (d g : ℕ) (a : NodeShape) (q : Pos) (r : List Token) → Finds (whole d g) r None → Finds (grown d g a q bracket) r None
grow_index_fails d g a q r p = then_fails (closed marks.RightBracket (whole d g)) (λ k. index_on (λ b l. got b l) a q) r (closed_fails marks.RightBracket (whole d g) r p)

pub grow_field : (d g : ℕ) (a : NodeShape) (q : Pos) (h : Access) (x : Text) (r y : List Token) → a_word r ≡ Some (x, y) → Finds (grown d g a q (access h)) r (Some (node (place_of a) q bare (suffix a (field h x (place r))), y))
grow_field d g a q h x r y e = record { from = 0; holds = λ k _. ap (λ f. then_go f (field_on (λ b l. got b l) a q h (place r))) e }

pub grow_field_fails : (d g : ℕ) (a : NodeShape) (q : Pos) (h : Access) (r : List Token) → a_word r ≡ None → Finds (grown d g a q (access h)) r None
grow_field_fails d g a q h r e = record { from = 0; holds = λ k _. ap (λ f. then_go f (field_on (λ b l. got b l) a q h (place r))) e }

pub grow_step : (d g : ℕ) (a : NodeShape) (q : Pos) (s : Step) (r : List Token) → Finds (grown d g a q (step s)) r (Some (node (place_of a) q bare (suffix a (behind s)), r))
grow_step d g a q s r = record { from = 0; holds = λ k h. refl }

-- LISTS

pub led_end : (n d g : ℕ) (ts : List Token) → after marks.Comma ts ≡ None → Finds (reads_led n d g) ts (Some (no_nodes, ts))
led_end n d g ts e = find_from (reads_led n d g) ts (got no_nodes ts) 0 (λ j h. ap (λ o. either_way o (λ r. then_go (reads n d g j r) (one_more (λ l. reads_led n d g j l))) (got no_nodes ts)) e)

led_at : (n d g : ℕ) (ts r : List Token) → after marks.Comma ts ≡ Some r → (j : ℕ) → reads_led n d g (suc j) ts ≡ then_go (reads n d g j r) (one_more (λ l. reads_led n d g j l))
led_at n d g ts r e j = ap (λ o. either_way o (λ r. then_go (reads n d g j r) (one_more (λ l. reads_led n d g j l))) (got no_nodes ts)) e

pub led_on : (n d g : ℕ) (a : NodeShape) (ts r x : List Token) (z : Got NodeShapes) → after marks.Comma ts ≡ Some r → Finds (reads n d g) r (Some (a, x)) → Finds (reads_led n d g) x z → Finds (reads_led n d g) ts (then_go z (onto a))
led_on n d g a ts r x z e p q =
    find_from (reads_led n d g) ts (then_go z (onto a)) (p.from + q.from) (λ j h.
    led_at n d g ts r e j ∙ ap (λ f. then_go f (one_more (λ l. reads_led n d g j l))) (p.holds j (omega (arith, h))) ∙ ap (λ f. then_go f (onto a)) (q.holds j (omega (arith, h))))

pub led_fails : (n d g : ℕ) (ts r : List Token) → after marks.Comma ts ≡ Some r → Finds (reads n d g) r None → Finds (reads_led n d g) ts None
led_fails n d g ts r e p = find_from (reads_led n d g) ts None p.from (λ j h. led_at n d g ts r e j ∙ ap (λ f. then_go f (one_more (λ l. reads_led n d g j l))) (p.holds j h))

pub listing_found : (n d g : ℕ) (a : NodeShape) (ts x : List Token) (z : Got NodeShapes) → Finds (reads n d g) ts (Some (a, x)) → Finds (reads_led n d g) x z → Finds (listing n d g) ts (then_go z (onto a))
listing_found n d g a ts x z p q =
    then_found (reads n d g) (λ k. one_more (λ r. reads_led n d g k r)) ts a x (then_go z (onto a)) p (record { from = q.from; holds = λ k h. ap (λ f. then_go f (onto a)) (q.holds k h) })

pub arguments_none : (d g : ℕ) (ts r : List Token) → after marks.RightParen ts ≡ Some r → Finds (arguments d g) ts (Some (no_nodes, r))
arguments_none d g ts r e = record { from = 0; holds = λ k h. ap (λ o. either_way o (got no_nodes) (closed marks.RightParen (listing 1 (suc d) g) k ts)) e }

some_arguments : (d g : ℕ) (ts : List Token) (z : Got NodeShapes) → after marks.RightParen ts ≡ None → Finds (closed marks.RightParen (listing 1 (suc d) g)) ts z → Finds (arguments d g) ts z
some_arguments d g ts z e p = record { from = p.from; holds = λ k h. ap (λ o. either_way o (got no_nodes) (closed marks.RightParen (listing 1 (suc d) g) k ts)) e ∙ p.holds k h }

pub arguments_some : (d g : ℕ) (as' : NodeShapes) (ts x y : List Token) → after marks.RightParen ts ≡ None → Finds (listing 1 (suc d) g) ts (Some (as', x)) → after marks.RightParen x ≡ Some y → Finds (arguments d g) ts (Some (as', y))
arguments_some d g as' ts x y e p c = some_arguments d g ts (got as' y) e (closed_found marks.RightParen (listing 1 (suc d) g) ts as' x y p c)

pub arguments_fail : (d g : ℕ) (ts : List Token) → after marks.RightParen ts ≡ None → Finds (listing 1 (suc d) g) ts None → Finds (arguments d g) ts None
arguments_fail d g ts e p = some_arguments d g ts None e (closed_fails marks.RightParen (listing 1 (suc d) g) ts p)

pub arguments_open : (d g : ℕ) (as' : NodeShapes) (ts x : List Token) → after marks.RightParen ts ≡ None → Finds (listing 1 (suc d) g) ts (Some (as', x)) → after marks.RightParen x ≡ None → Finds (arguments d g) ts None
arguments_open d g as' ts x e p c = some_arguments d g ts None e (closed_open marks.RightParen (listing 1 (suc d) g) ts as' x p c)

-- OPERANDS

by_start : (d g : ℕ) (ts : List Token) (s : Start) (z : Got NodeShape) → start ts ≡ s → Finds (λ k l. front (below d g k) g l s) ts z → Finds (fronts d g) ts z
by_start d g ts s z e p = record { from = p.from; holds = λ k h. ap (front (below d g k) g ts) e ∙ p.holds k h }

pub front_none : (d g : ℕ) (ts : List Token) → start ts ≡ no_start → Finds (fronts d g) ts None
front_none d g ts e = by_start d g ts no_start None e (record { from = 0; holds = λ k h. refl })

pub front_number : (d g : ℕ) (ts r : List Token) (x : Text) → start ts ≡ at_leaf (number x) r → Finds (fronts d g) ts (Some (leaf_at (place ts) (number x), r))
front_number d g ts r x e = by_start d g ts (at_leaf (number x) r) (got (leaf_at (place ts) (number x)) r) e (record { from = 0; holds = λ k h. refl })

pub front_char : (d g : ℕ) (ts r : List Token) (x : ℕ) → start ts ≡ at_leaf (char x) r → Finds (fronts d g) ts (Some (leaf_at (place ts) (char x), r))
front_char d g ts r x e = by_start d g ts (at_leaf (char x) r) (got (leaf_at (place ts) (char x)) r) e (record { from = 0; holds = λ k h. refl })

pub front_str : (d g : ℕ) (ts r : List Token) (x : Text) → start ts ≡ at_leaf (str x) r → Finds (fronts d g) ts (Some (leaf_at (place ts) (str x), r))
front_str d g ts r x e = by_start d g ts (at_leaf (str x) r) (got (leaf_at (place ts) (str x)) r) e (record { from = 0; holds = λ k h. refl })

pub front_name : (d g : ℕ) (ts r : List Token) (x : Text) → start ts ≡ at_leaf (name x) r → after marks.LeftParen r ≡ None → Finds (fronts d g) ts (Some (leaf_at (place ts) (name x), r))
front_name d g ts r x e n =
    by_start d g ts (at_leaf (name x) r) (got (leaf_at (place ts) (name x)) r) e (record { from = 0; holds = λ k h. ap (λ o. either_way o (calling (below d g k) (place ts) x) (got (leaf_at (place ts) (name x)) r)) n })

pub front_call : (d g : ℕ) (ts r y z : List Token) (x : Text) (as' : NodeShapes) → start ts ≡ at_leaf (name x) r → after marks.LeftParen r ≡ Some y → Finds (arguments d g) y (Some (as', z)) → Finds (fronts d g) ts (Some (node (place ts) (place ts) bare (call x as'), z))
front_call d g ts r y z x as' e n p =
    by_start d g ts (at_leaf (name x) r) (got (node (place ts) (place ts) bare (call x as')) z) e (record { from = p.from; holds = λ k h. ap (λ o. either_way o (calling (below d g k) (place ts) x) (got (leaf_at (place ts) (name x)) r)) n ∙ ap (λ f. then_go f (call_at (place ts) x)) (p.holds k h) })

pub front_call_fails : (d g : ℕ) (ts r y : List Token) (x : Text) → start ts ≡ at_leaf (name x) r → after marks.LeftParen r ≡ Some y → Finds (arguments d g) y None → Finds (fronts d g) ts None
front_call_fails d g ts r y x e n p =
    by_start d g ts (at_leaf (name x) r) None e (record { from = p.from; holds = λ k h. ap (λ o. either_way o (calling (below d g k) (place ts) x) (got (leaf_at (place ts) (name x)) r)) n ∙ ap (λ f. then_go f (call_at (place ts) x)) (p.holds k h) })

by_prefix : (d g : ℕ) (ts r : List Token) (u : Prefix) (o : Option (List Token)) (z : Got NodeShape) → start ts ≡ at_prefix u r → type_behind u r ≡ o → Finds (λ k l. either_way o (sizing (below d g k) (place ts)) (then_go (reads (prefix_least u) (suc d) g k r) (prefix_at (place ts) u))) ts z → Finds (fronts d g) ts z
by_prefix d g ts r u o z e t p =
    by_start d g ts (at_prefix u r) z e (record { from = p.from; holds = λ k h. ap (λ o. either_way o (sizing (below d g k) (place ts)) (then_go (reads (prefix_least u) (suc d) g k r) (prefix_at (place ts) u))) t ∙ p.holds k h })

pub front_prefix : (d g : ℕ) (ts r y : List Token) (u : Prefix) (a : NodeShape) → start ts ≡ at_prefix u r → type_behind u r ≡ None → Finds (reads (prefix_least u) (suc d) g) r (Some (a, y)) → Finds (fronts d g) ts (Some (node (place ts) (place ts) bare (prefix u a), y))
front_prefix d g ts r y u a e t p =
    by_prefix d g ts r u None (got (node (place ts) (place ts) bare (prefix u a)) y) e t (record { from = p.from; holds = λ k h. ap (λ f. then_go f (prefix_at (place ts) u)) (p.holds k h) })

pub front_prefix_fails : (d g : ℕ) (ts r : List Token) (u : Prefix) → start ts ≡ at_prefix u r → type_behind u r ≡ None → Finds (reads (prefix_least u) (suc d) g) r None → Finds (fronts d g) ts None
front_prefix_fails d g ts r u e t p = by_prefix d g ts r u None None e t (record { from = p.from; holds = λ k h. ap (λ f. then_go f (prefix_at (place ts) u)) (p.holds k h) })

pub front_size : (d g : ℕ) (ts r y z : List Token) (t : TypeShape) → start ts ≡ at_prefix size_of r → type_ahead r ≡ Some y → Finds (typed d g) y (Some (t, z)) → Finds (fronts d g) ts (Some (node (place ts) (place ts) bare (size_of_type t), z))
front_size d g ts r y z t e a p =
    by_prefix d g ts r size_of (Some y) (got (node (place ts) (place ts) bare (size_of_type t)) z) e a (record { from = p.from; holds = λ k h. ap (λ f. then_go f (size_at (place ts))) (p.holds k h) })

pub front_size_fails : (d g : ℕ) (ts r y : List Token) → start ts ≡ at_prefix size_of r → type_ahead r ≡ Some y → Finds (typed d g) y None → Finds (fronts d g) ts None
front_size_fails d g ts r y e a p = by_prefix d g ts r size_of (Some y) None e a (record { from = p.from; holds = λ k h. ap (λ f. then_go f (size_at (place ts))) (p.holds k h) })

pub by_paren : (d g : ℕ) (ts r : List Token) (o : Option (List Token)) (z : Got NodeShape) → start ts ≡ at_paren r → type_ahead ts ≡ o → Finds (λ k l. either_way o (casting_from (below d g k) (place ts)) (then_go (closed marks.RightParen (whole d g) k r) (paren_at (place ts)))) ts z → Finds (fronts d g) ts z
by_paren d g ts r o z e t p =
    by_start d g ts (at_paren r) z e (record { from = p.from; holds = λ k h. ap (λ o. either_way o (casting_from (below d g k) (place ts)) (then_go (closed marks.RightParen (whole d g) k r) (paren_at (place ts)))) t ∙ p.holds k h })

pub front_paren : (d g : ℕ) (ts r x y : List Token) (a : NodeShape) → start ts ≡ at_paren r → type_ahead ts ≡ None → Finds (whole d g) r (Some (a, x)) → after marks.RightParen x ≡ Some y → Finds (fronts d g) ts (Some (node (place ts) (place ts) bare (paren a), y))
front_paren d g ts r x y a e t p c =
    let q = closed_found marks.RightParen (whole d g) r a x y p c in
    by_paren d g ts r None (got (node (place ts) (place ts) bare (paren a)) y) e t (record { from = q.from; holds = λ k h. ap (λ f. then_go f (paren_at (place ts))) (q.holds k h) })

pub front_paren_fails : (d g : ℕ) (ts r : List Token) → start ts ≡ at_paren r → type_ahead ts ≡ None → Finds (whole d g) r None → Finds (fronts d g) ts None
front_paren_fails d g ts r e t p =
    let q = closed_fails marks.RightParen (whole d g) r p in
    by_paren d g ts r None None e t (record { from = q.from; holds = λ k h. ap (λ f. then_go f (paren_at (place ts))) (q.holds k h) })

pub front_cast : (d g : ℕ) (ts r y x z : List Token) (t : TypeShape) (a : NodeShape) → start ts ≡ at_paren r → type_ahead ts ≡ Some y → Finds (typed d g) y (Some (t, x)) → Finds (reads 13 (suc d) g) x (Some (a, z)) → Finds (fronts d g) ts (Some (node (place ts) (place ts) bare (cast t a), z))
front_cast d g ts r y x z t a e b p q =
    by_paren d g ts r (Some y) (got (node (place ts) (place ts) bare (cast t a)) z) e b (record { from = p.from + q.from; holds = λ k h. ap (λ f. then_go f (casting (below d g k) (place ts))) (p.holds k (omega (arith, h))) ∙ ap (λ f. then_go f (cast_at (place ts) t)) (q.holds k (omega (arith, h))) })

pub front_cast_fails : (d g : ℕ) (ts r y : List Token) → start ts ≡ at_paren r → type_ahead ts ≡ Some y → Finds (typed d g) y None → Finds (fronts d g) ts None
front_cast_fails d g ts r y e b p = by_paren d g ts r (Some y) None e b (record { from = p.from; holds = λ k h. ap (λ f. then_go f (casting (below d g k) (place ts))) (p.holds k h) })

pub front_cast_last : (d g : ℕ) (ts r y x : List Token) (t : TypeShape) → start ts ≡ at_paren r → type_ahead ts ≡ Some y → Finds (typed d g) y (Some (t, x)) → Finds (reads 13 (suc d) g) x None → Finds (fronts d g) ts None
front_cast_last d g ts r y x t e b p q =
    by_paren d g ts r (Some y) None e b (record { from = p.from + q.from; holds = λ k h. ap (λ f. then_go f (casting (below d g k) (place ts))) (p.holds k (omega (arith, h))) ∙ ap (λ f. then_go f (cast_at (place ts) t)) (q.holds k (omega (arith, h))) })

-- PROBES

pub probed_found : (n d g : ℕ) (p : Pos) (u : ProbeShape) (a : NodeShape) (ts x y : List Token) → Finds (inner n d g) ts (Some (a, x)) → after marks.RightParen x ≡ Some y → max (cases_chain u) (chain a) < 4 → Finds (probed n d g p u) ts (Some (node p p bare (probe u a), y))
probed_found n d g p u a ts x y s c few =
    let q = closed_found marks.RightParen (inner n d g) ts a x y s c in
    record { from = q.from; holds = λ k h. ap (λ f. then_go f (probe_at p u)) (q.holds k h) ∙ low_go (max (cases_chain u) (chain a)) 4 (Some (node p p bare (probe u a), y)) few }

pub probed_many : (n d g : ℕ) (p : Pos) (u : ProbeShape) (a : NodeShape) (ts x y : List Token) → Finds (inner n d g) ts (Some (a, x)) → after marks.RightParen x ≡ Some y → 4 ≤ max (cases_chain u) (chain a) → Finds (probed n d g p u) ts None
probed_many n d g p u a ts x y s c many =
    let q = closed_found marks.RightParen (inner n d g) ts a x y s c in
    record { from = q.from; holds = λ k h. ap (λ f. then_go f (probe_at p u)) (q.holds k h) ∙ high_none (max (cases_chain u) (chain a)) 4 (Some (node p p bare (probe u a), y)) many }

pub probed_fails : (n d g : ℕ) (p : Pos) (u : ProbeShape) (ts : List Token) → Finds (inner n d g) ts None → Finds (probed n d g p u) ts None
probed_fails n d g p u ts s =
    let q = closed_fails marks.RightParen (inner n d g) ts s in
    record { from = q.from; holds = λ k h. ap (λ f. then_go f (probe_at p u)) (q.holds k h) }

pub probed_open : (n d g : ℕ) (p : Pos) (u : ProbeShape) (a : NodeShape) (ts x : List Token) → Finds (inner n d g) ts (Some (a, x)) → after marks.RightParen x ≡ None → Finds (probed n d g p u) ts None
probed_open n d g p u a ts x s c =
    let q = closed_open marks.RightParen (inner n d g) ts a x s c in
    record { from = q.from; holds = λ k h. ap (λ f. then_go f (probe_at p u)) (q.holds k h) }

by_simple : (d g : ℕ) (ts r : List Token) (u : Probing) (z : Got NodeShape) → start ts ≡ at_simple u r → g < most_probes → Finds (λ k l. then_go (numbered r) (simple_from (below d g k) (place ts) u)) ts z → Finds (fronts d g) ts z
by_simple d g ts r u z e few p =
    by_start d g ts (at_simple u r) z e (record { from = p.from; holds = λ k h. low_go g most_probes (then_go (numbered r) (simple_from (below d g k) (place ts) u)) few ∙ p.holds k h })

pub front_simple : (d g : ℕ) (ts r x y : List Token) (u : Probing) (n : Text) (z : Got NodeShape) → start ts ≡ at_simple u r → g < most_probes → numbered r ≡ Some (n, x) → after marks.Comma x ≡ Some y → Finds (probed (probe_least u) d g (place ts) (simple u n)) y z → Finds (fronts d g) ts z
front_simple d g ts r x y u n z e few m c p =
    by_simple d g ts r u z e few (record { from = p.from; holds = λ k h. ap (λ f. then_go f (simple_from (below d g k) (place ts) u)) m ∙ ap (λ o. go_after o (probing (below d g k) (probe_least u) (place ts) (simple u n))) c ∙ p.holds k h })

pub front_simple_unnumbered : (d g : ℕ) (ts r : List Token) (u : Probing) → start ts ≡ at_simple u r → g < most_probes → numbered r ≡ None → Finds (fronts d g) ts None
front_simple_unnumbered d g ts r u e few m = by_simple d g ts r u None e few (record { from = 0; holds = λ k h. ap (λ f. then_go f (simple_from (below d g k) (place ts) u)) m })

pub front_simple_alone : (d g : ℕ) (ts r x : List Token) (u : Probing) (n : Text) → start ts ≡ at_simple u r → g < most_probes → numbered r ≡ Some (n, x) → after marks.Comma x ≡ None → Finds (fronts d g) ts None
front_simple_alone d g ts r x u n e few m c =
    by_simple d g ts r u None e few (record { from = 0; holds = λ k h. ap (λ f. then_go f (simple_from (below d g k) (place ts) u)) m ∙ ap (λ o. go_after o (probing (below d g k) (probe_least u) (place ts) (simple u n))) c })

pub front_simple_many : (d g : ℕ) (ts r : List Token) (u : Probing) → start ts ≡ at_simple u r → most_probes ≤ g → Finds (fronts d g) ts None
front_simple_many d g ts r u e many = by_start d g ts (at_simple u r) None e (record { from = 0; holds = λ k h. high_none g most_probes (then_go (numbered r) (simple_from (below d g k) (place ts) u)) many })

by_select : (d g : ℕ) (ts r : List Token) (z : Got NodeShape) → start ts ≡ at_select r → g < most_probes → Finds (λ k l. then_go (numbered r) (select_from (below d g k) (place ts))) ts z → Finds (fronts d g) ts z
by_select d g ts r z e few p =
    by_start d g ts (at_select r) z e (record { from = p.from; holds = λ k h. low_go g most_probes (then_go (numbered r) (select_from (below d g k) (place ts))) few ∙ p.holds k h })

pub front_select : (d g : ℕ) (ts r x y w : List Token) (n : Text) (cs : NodeShapes) (z : Got NodeShape) → start ts ≡ at_select r → g < most_probes → numbered r ≡ Some (n, x) → Finds (constants d g) x (Some (cs, y)) → after marks.Semicolon y ≡ Some w → Finds (probed 0 d g (place ts) (select n cs)) w z → Finds (fronts d g) ts z
front_select d g ts r x y w n cs z e few m s c p =
    by_select d g ts r z e few (record {
      from = s.from + p.from;
      holds = λ k h.
          ap (λ f. then_go f (select_from (below d g k) (place ts))) m
          ∙ ap (λ f. then_go f (selected (below d g k) (place ts) n)) (s.holds k (omega (arith, h)))
          ∙ ap (λ o. go_after o (probing (below d g k) 0 (place ts) (select n cs))) c
          ∙ p.holds k (omega (arith, h));
    })

pub front_select_unnumbered : (d g : ℕ) (ts r : List Token) → start ts ≡ at_select r → g < most_probes → numbered r ≡ None → Finds (fronts d g) ts None
front_select_unnumbered d g ts r e few m = by_select d g ts r None e few (record { from = 0; holds = λ k h. ap (λ f. then_go f (select_from (below d g k) (place ts))) m })

pub front_select_fails : (d g : ℕ) (ts r x : List Token) (n : Text) → start ts ≡ at_select r → g < most_probes → numbered r ≡ Some (n, x) → Finds (constants d g) x None → Finds (fronts d g) ts None
front_select_fails d g ts r x n e few m s =
    by_select d g ts r None e few (record { from = s.from; holds = λ k h. ap (λ f. then_go f (select_from (below d g k) (place ts))) m ∙ ap (λ f. then_go f (selected (below d g k) (place ts) n)) (s.holds k h) })

pub front_select_open : (d g : ℕ) (ts r x y : List Token) (n : Text) (cs : NodeShapes) → start ts ≡ at_select r → g < most_probes → numbered r ≡ Some (n, x) → Finds (constants d g) x (Some (cs, y)) → after marks.Semicolon y ≡ None → Finds (fronts d g) ts None
front_select_open d g ts r x y n cs e few m s c =
    by_select d g ts r None e few (record {
      from = s.from;
      holds = λ k h.
          ap (λ f. then_go f (select_from (below d g k) (place ts))) m ∙ ap (λ f. then_go f (selected (below d g k) (place ts) n)) (s.holds k h) ∙ ap (λ o. go_after o (probing (below d g k) 0 (place ts) (select n cs))) c;
    })

pub front_select_many : (d g : ℕ) (ts r : List Token) → start ts ≡ at_select r → most_probes ≤ g → Finds (fronts d g) ts None
front_select_many d g ts r e many = by_start d g ts (at_select r) None e (record { from = 0; holds = λ k h. high_none g most_probes (then_go (numbered r) (select_from (below d g k) (place ts))) many })

pub grow_paren : (d g : ℕ) (a : NodeShape) (q : Pos) (r : List Token) → Finds (grown d g a q open_paren) r None
grow_paren d g a q r = record { from = 0; holds = λ k h. refl }
