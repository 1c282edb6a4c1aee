-- What the code of expressions reads, and how deep it is: one step for each way that reading goes.
use Rattle.std.proofs.Common.{arith, ◌≡◌, ℕ, suc, ◌+◌, ◌≤◌, ◌<◌, List, [], ◌∷◌, ◌++◌, Option, Some, None, Bool, true, false, refl, sym, ap, ◌∙◌, subst}
use Rattle.std.specs.Prelude.{max}
use Rattle.c_base.specs.declared.place.Pos.{Pos}
use Rattle.c_syntax.specs.declared.text.Text.{Text}
use Rattle.c_syntax.specs.declared.token.Mark.{Mark}
use Rattle.c_syntax.specs.declared.token.Mark.TheVariants as marks
use Rattle.c_syntax.specs.declared.token.Token.{Token}
use Rattle.c_syntax.specs.declared.tree.Node.{Node}
use Rattle.c_syntax.specs.Forms.{place}
use Rattle.c_syntax.specs.Shape.{bare, number, char, str, name, Step, Prefix, unary, before, size_of, Infix, Access, Probing, NodeShape, node, leaf, paren, call, prefix, size_of_type, cast, suffix, two, choose, probe, index, field, behind, ProbeShape, simple, select, NodeShapes, no_nodes, TypeShape}
use Rattle.c_syntax.specs.View.{node_shape, node_list}
use Rattle.c_syntax.specs.Levels.{height, nodes_height, type_height, chain, nodes_chain, cases_height, cases_chain}
use Rattle.c_syntax.specs.Shaped.{right_least, prefix_least, probe_least, level}
use Rattle.c_grammar.specs.declared.size.Size.{Size}
use Rattle.c_grammar.specs.Look.{Got, got, then_go, Finds, after, a_word}
use Rattle.c_grammar.specs.Starts.{Oper, infix_oper, question, bracket, access, step, open_paren, Sign, a_sign, no_sign, sign, at_leaf, at_prefix, at_paren, at_simple, at_select, start, type_ahead}
use Rattle.c_grammar.specs.Reader.{below, reads_type, reads, climbs, reads_led, fronts}
use Rattle.c_grammar.specs.ExprReader.{place_of, leaf_at, type_behind, numbered, takes, choose_on, choose_from, index_on, paren_at}
use Rattle.c_grammar.specs.Parts.{closed, grown, whole, arguments, typed, probed, constants, listing, LedFrom}
use Rattle.c_grammar.specs.Found.{Measured, NodeFound, Found, AllMeasured, LedFound, LedFails, CasesMeasured, CasesFound, InsideFound, InsideFails}
use Rattle.c_grammar.proofs.ExprSteps.{by_paren, front_select_open, then_found, then_fails, closed_found, closed_fails, closed_open, climb_on, climb_fails, climb_high, climb_end, climb_stop, read_on, read_fails, read_loose, read_deep, grow_infix, grow_infix_fails, grow_choose, grow_choose_fails, grow_choose_open, grow_choose_last, grow_index, grow_index_fails, grow_field, grow_field_fails, grow_step, grow_paren, arguments_none, arguments_some, arguments_fail, arguments_open, front_none, front_number, front_char, front_str, front_name, front_call, front_call_fails, front_prefix, front_prefix_fails, front_size, front_size_fails, front_paren, front_paren_fails, front_cast, front_cast_fails, front_cast_last, probed_found, probed_many, probed_fails, probed_open, front_simple, front_select}
use Rattle.c_grammar.proofs.ListSteps.{led_start, listing_start, led_more, led_done, led_failed, nodes_now, chains_now}
use Rattle.c_grammar.proofs.CodeSteps.{listing_fails, typed_found, typed_fails, typed_open}

-- LEVELS

next_level : (n v w : ℕ) → n ≡ v + 1 → v ≡ w → n ≡ suc w
next_level n v w e f = omega (arith, e, f)

no_more : (n : ℕ) → max n 0 ≡ n
no_more n = grind arith

two_levels : (h k x y v n : ℕ) → v ≡ max h k → h ≡ x → k ≡ y → n ≡ v + 1 → n ≡ suc (max x y)
two_levels h k x y v n m e f l = next_level n v (max x y) l (rw (m, e, f))

found_as : (f : ℕ → List Token → Got NodeShape) (ts : List Token) (a c : NodeShape) (s : Size) (y : List Token) → c ≡ a → Finds f ts (got a y) → s.levels ≡ height a → s.probes ≡ chain a → NodeFound f ts c s y
found_as f ts a c s y same p l q = record {
  finds = subst (λ x. Finds f ts (got x y)) (sym same) p;
  size = record { levels = l ∙ ap height (sym same); chain = q ∙ ap chain (sym same) };
}

-- ONE LEVEL DOWN, as the code counts it

one_up : (n : ℕ) → n + 1 ≡ suc n
one_up n = omega arith

reads_down : (n d g : ℕ) (ts : List Token) (z : Got NodeShape) → Finds (reads n (d + 1) g) ts z → Finds (reads n (suc d) g) ts z
reads_down n d g ts z p = subst (λ e. Finds (reads n e g) ts z) (one_up d) p

inner_down : (n d g : ℕ) (ts : List Token) (z : Got NodeShape) → Finds (reads n d (g + 1)) ts z → Finds (reads n d (suc g)) ts z
inner_down n d g ts z p = subst (λ e. Finds (reads n d e) ts z) (one_up g) p

type_down : (d g : ℕ) (ts : List Token) (z : Got TypeShape) → Finds (reads_type (d + 1) g) ts z → Finds (reads_type (suc d) g) ts z
type_down d g ts z p = subst (λ e. Finds (reads_type e g) ts z) (one_up d) p

node_down : (n d g : ℕ) (ts x : List Token) (a : NodeShape) (s : Size) → NodeFound (reads n (d + 1) g) ts a s x → NodeFound (reads n (suc d) g) ts a s x
node_down n d g ts x a s p = subst (λ e. NodeFound (reads n e g) ts a s x) (one_up d) p

led_down : (n d g : ℕ) (b : List Node) (ts : List Token) (l : NodeShapes) (s : Size) (x : List Token) → LedFound n (d + 1) g b ts l s x → LedFound n (suc d) g b ts l s x
led_down n d g b ts l s x p = subst (λ e. LedFound n e g b ts l s x) (one_up d) p

fails_down : (n d g : ℕ) (b : List Node) (ts : List Token) → LedFails n (d + 1) g b ts → LedFails n (suc d) g b ts
fails_down n d g b ts p = subst (λ e. LedFails n e g b ts) (one_up d) p

-- OPERATORS

choose_closed : (d g : ℕ) (a b c : NodeShape) (q : Pos) (r y z : List Token) → Finds (closed marks.Colon (whole d g)) r (got b y) → Finds (reads 2 (suc d) g) y (got c z) → Finds (grown d g a q question) r (got (node (place_of a) q bare (choose a b c)) z)
choose_closed d g a b c q r y z p s =
    then_found (closed marks.Colon (whole d g)) (λ k. choose_from (below d g k) (λ b l. got b l) a q) r b y (got (node (place_of a) q bare (choose a b c)) z) p (record { from = s.from; holds = λ k h. ap (λ f. then_go f (choose_on (λ b l. got b l) a q b)) (s.holds k h) })

index_closed : (d g : ℕ) (a b : NodeShape) (q : Pos) (r y : List Token) → Finds (closed marks.RightBracket (whole d g)) r (got b y) → Finds (grown d g a q bracket) r (got (node (place_of a) q bare (suffix a (index b))) y)
index_closed d g a b q r y p = then_found (closed marks.RightBracket (whole d g)) (λ k. index_on (λ b l. got b l) a q) r b y (got (node (place_of a) q bare (suffix a (index b))) y) p (record { from = 0; holds = λ k h. refl })

pub infix_read : (d g n : ℕ) (a b c : NodeShape) (h v : ℕ) (s z : Size) (q : Pos) (u : Infix) (r y : List Token) → n ≡ right_least u → NodeFound (reads n (d + 1) g) r b s y → h ≡ height a → c ≡ node (place_of a) q bare (two u a b) → v ≡ max h s.levels → z.levels ≡ v + 1 → z.probes ≡ 0 → NodeFound (grown d g a q (infix_oper u)) r c z y
infix_read d g n a b c h v s z q u r y e f k same m l p =
    found_as (grown d g a q (infix_oper u)) r (node (place_of a) q bare (two u a b)) c z y same (grow_infix d g a b q u r y (subst (λ n. Finds (reads n (suc d) g) r (got b y)) e (reads_down n d g r (got b y) f.finds))) (two_levels h s.levels (height a) (height b) v z.levels m k f.size.levels l) p

pub infix_unread : (d g n : ℕ) (a : NodeShape) (q : Pos) (u : Infix) (r : List Token) → n ≡ right_least u → Finds (reads n (d + 1) g) r None → Finds (grown d g a q (infix_oper u)) r None
infix_unread d g n a q u r e f = grow_infix_fails d g a q u r (subst (λ n. Finds (reads n (suc d) g) r None) e (reads_down n d g r None f))

pub choice_read : (d g : ℕ) (a b c x : NodeShape) (h v w : ℕ) (s t z : Size) (q : Pos) (r y e : List Token) → NodeFound (closed marks.Colon (whole d g)) r b s y → NodeFound (reads 2 (d + 1) g) y c t e → h ≡ height a → x ≡ node (place_of a) q bare (choose a b c) → w ≡ max s.levels t.levels → v ≡ max h w → z.levels ≡ v + 1 → z.probes ≡ 0 → NodeFound (grown d g a q question) r x z e
choice_read d g a b c x h v w s t z q r y e f k m same i j l p =
    found_as (grown d g a q question) r (node (place_of a) q bare (choose a b c)) x z e same (choose_closed d g a b c q r y e f.finds (reads_down 2 d g y (got c e) k.finds)) (next_level z.levels v (max (height a) (max (height b) (height c))) l (rw (j, i, m, f.size.levels, k.size.levels))) p

pub choice_unread : (d g : ℕ) (a : NodeShape) (q : Pos) (r : List Token) → Finds (closed marks.Colon (whole d g)) r None → Finds (grown d g a q question) r None
choice_unread d g a q r p = then_fails (closed marks.Colon (whole d g)) (λ k. choose_from (below d g k) (λ b l. got b l) a q) r p

pub choice_unended : (d g : ℕ) (a b : NodeShape) (s : Size) (q : Pos) (r y : List Token) → NodeFound (closed marks.Colon (whole d g)) r b s y → Finds (reads 2 (d + 1) g) y None → Finds (grown d g a q question) r None
choice_unended d g a b s q r y f p =
    then_found (closed marks.Colon (whole d g)) (λ k. choose_from (below d g k) (λ b l. got b l) a q) r b y None f.finds (let p = reads_down 2 d g y None p in record { from = p.from; holds = λ k h. ap (λ f. then_go f (choose_on (λ b l. got b l) a q b)) (p.holds k h) })

pub index_read : (d g : ℕ) (a b x : NodeShape) (h v : ℕ) (s z : Size) (q : Pos) (r y : List Token) → NodeFound (closed marks.RightBracket (whole d g)) r b s y → h ≡ height a → x ≡ node (place_of a) q bare (suffix a (index b)) → v ≡ max h s.levels → z.levels ≡ v + 1 → z.probes ≡ 0 → NodeFound (grown d g a q bracket) r x z y
index_read d g a b x h v s z q r y f k same m l p =
    found_as (grown d g a q bracket) r (node (place_of a) q bare (suffix a (index b))) x z y same (index_closed d g a b q r y f.finds) (two_levels h s.levels (height a) (height b) v z.levels m k f.size.levels l) p

pub index_unread : (d g : ℕ) (a : NodeShape) (q : Pos) (r : List Token) → Finds (closed marks.RightBracket (whole d g)) r None → Finds (grown d g a q bracket) r None
index_unread d g a q r p = then_fails (closed marks.RightBracket (whole d g)) (λ k. index_on (λ b l. got b l) a q) r p

pub field_read : (d g : ℕ) (a x : NodeShape) (h : ℕ) (z : Size) (q : Pos) (u : Access) (t : Text) (r y : List Token) → a_word r ≡ Some (t, y) → h ≡ height a → x ≡ node (place_of a) q bare (suffix a (field u t (place r))) → z.levels ≡ h + 1 → z.probes ≡ 0 → NodeFound (grown d g a q (access u)) r x z y
field_read d g a x h z q u t r y e k same l p =
    found_as (grown d g a q (access u)) r (node (place_of a) q bare (suffix a (field u t (place r)))) x z y same (grow_field d g a q u t r y e) (next_level z.levels h (max (height a) 0) l (k ∙ sym (no_more (height a)))) p

pub step_read : (d g : ℕ) (a x : NodeShape) (h : ℕ) (z : Size) (q : Pos) (u : Step) (r : List Token) → h ≡ height a → x ≡ node (place_of a) q bare (suffix a (behind u)) → z.levels ≡ h + 1 → z.probes ≡ 0 → NodeFound (grown d g a q (step u)) r x z r
step_read d g a x h z q u r k same l p = found_as (grown d g a q (step u)) r (node (place_of a) q bare (suffix a (behind u))) x z r same (grow_step d g a q u r) (next_level z.levels h (max (height a) 0) l (k ∙ sym (no_more (height a)))) p

pub mark_read : (m : Mark) (d g : ℕ) (a : NodeShape) (s : Size) (r x y : List Token) → NodeFound (reads 0 (d + 1) g) r a s x → after m x ≡ Some y → NodeFound (closed m (whole d g)) r a s y
mark_read m d g a s r x y f e = record { finds = closed_found m (whole d g) r a x y (reads_down 0 d g r (got a x) f.finds) e; size = f.size }

pub mark_unread : (m : Mark) (d g : ℕ) (r : List Token) → Finds (reads 0 (d + 1) g) r None → Finds (closed m (whole d g)) r None
mark_unread m d g r p = closed_fails m (whole d g) r (reads_down 0 d g r None p)

pub mark_missing : (m : Mark) (d g : ℕ) (a : NodeShape) (s : Size) (r x : List Token) → NodeFound (reads 0 (d + 1) g) r a s x → after m x ≡ None → Finds (closed m (whole d g)) r None
mark_missing m d g a s r x f e = closed_open m (whole d g) r a x (reads_down 0 d g r (got a x) f.finds) e

-- CLIMBING

-- what is read from `now` on at rest, is read from `first` on at ts
pub record ClimbsFrom (n d g : ℕ) (first now : NodeShape) (ts rest : List Token) : Type 0 where
  pub on : (z : Got NodeShape) → Finds (climbs n d g now) rest z → Finds (climbs n d g first) ts z

pub climb_start : (n d g : ℕ) (a : NodeShape) (ts : List Token) → ClimbsFrom n d g a a ts ts
climb_start n d g a ts = record { on = λ z p. p }

pub climb_more : (n d g : ℕ) (q : Pos) (first a b : NodeShape) (h : ℕ) (s : Size) (o : Oper) (ts rest r y : List Token) → ClimbsFrom n d g first a ts rest → (sign rest ≡ a_sign o r) × (takes n a o ≡ true) → h ≡ height a → h + d < 400 → q ≡ place rest → NodeFound (grown d g a q o) r b s y → ClimbsFrom n d g first b ts y
climb_more n d g q first a b h s o ts rest r y c e same low at' f = record { on = λ z p. c.on z (climb_on n d g a b rest r y o z e.0 e.1 (subst (λ h. h + d < 400) same low) (subst (λ q. Finds (grown d g a q o) r (got b y)) at' f.finds) p) }

pub climb_ended : (n d g : ℕ) (first a : NodeShape) (s : Size) (ts rest : List Token) → ClimbsFrom n d g first a ts rest → Measured a s → ((d g : ℕ) → Finds (climbs n d g a) rest (Some (a, rest))) → NodeFound (climbs n d g first) ts a s rest
climb_ended n d g first a s ts rest c m e = record { finds = c.on (got a rest) (e d g); size = m }

pub climb_unread : (n d g : ℕ) (q : Pos) (first a : NodeShape) (h : ℕ) (o : Oper) (ts rest r : List Token) → ClimbsFrom n d g first a ts rest → (sign rest ≡ a_sign o r) × (takes n a o ≡ true) → h ≡ height a → h + d < 400 → q ≡ place rest → Finds (grown d g a q o) r None → Finds (climbs n d g first) ts None
climb_unread n d g q first a h o ts rest r c e same low at' p = c.on None (climb_fails n d g a rest r o e.0 e.1 (subst (λ h. h + d < 400) same low) (subst (λ q. Finds (grown d g a q o) r None) at' p))

pub climb_too_high : (n d g : ℕ) (first a : NodeShape) (h : ℕ) (o : Oper) (ts rest r : List Token) → ClimbsFrom n d g first a ts rest → (sign rest ≡ a_sign o r) × (takes n a o ≡ true) → h ≡ height a → 400 ≤ h + d → Finds (climbs n d g first) ts None
climb_too_high n d g first a h o ts rest r c e same high = c.on None (climb_high n d g a rest r o e.0 e.1 (subst (λ h. 400 ≤ h + d) same high))

pub ends_there : (n : ℕ) (a : NodeShape) (ts : List Token) → sign ts ≡ no_sign → (d g : ℕ) → Finds (climbs n d g a) ts (Some (a, ts))
ends_there n a ts e d g = climb_end n d g a ts e

pub stops_there : (n : ℕ) (a : NodeShape) (ts r : List Token) (o : Oper) → sign ts ≡ a_sign o r → takes n a o ≡ false → (d g : ℕ) → Finds (climbs n d g a) ts (Some (a, ts))
stops_there n a ts r o e t d g = climb_stop n d g a ts r o e t

pub takes_inner : (n : ℕ) (a b : Node) (o : Oper) (ts r : List Token) → a ≡ b → (sign ts ≡ a_sign o r) × (takes n (node_shape a) o ≡ true) → (sign ts ≡ a_sign o r) × (takes n (node_shape b) o ≡ true)
takes_inner n a b o ts r e p = subst (λ x. (sign ts ≡ a_sign o r) × (takes n (node_shape x) o ≡ true)) e p

pub level_inner : (h : ℕ) (a b : Node) → a ≡ b → h ≡ level (node_shape a) → h ≡ level (node_shape b)
level_inner h a b e p = subst (λ x. h ≡ level (node_shape x)) e p

-- WHOLE EXPRESSIONS

pub node_read : (n d g : ℕ) (a b : NodeShape) (h : ℕ) (s t : Size) (ts x y : List Token) → d < 400 → NodeFound (fronts d g) ts a s x → h ≡ level a → n ≤ h → NodeFound (climbs n d g a) x b t y → NodeFound (reads n d g) ts b t y
node_read n d g a b h s t ts x y low f e le c = record { finds = read_on n d g ts a x (got b y) low f.finds (subst (λ h. n ≤ h) e le) c.finds; size = c.size }

pub node_frontless : (n d g : ℕ) (ts : List Token) → d < 400 → Finds (fronts d g) ts None → Finds (reads n d g) ts None
node_frontless n d g ts low p = read_fails n d g ts low p

pub node_loose : (n d g : ℕ) (a : NodeShape) (h : ℕ) (s : Size) (ts x : List Token) → d < 400 → NodeFound (fronts d g) ts a s x → h ≡ level a → h < n → Finds (reads n d g) ts None
node_loose n d g a h s ts x low f e lt = read_loose n d g ts a x low f.finds (subst (λ h. h < n) e lt)

pub node_unended : (n d g : ℕ) (a : NodeShape) (h : ℕ) (s : Size) (ts x : List Token) → d < 400 → NodeFound (fronts d g) ts a s x → h ≡ level a → n ≤ h → Finds (climbs n d g a) x None → Finds (reads n d g) ts None
node_unended n d g a h s ts x low f e le p = read_on n d g ts a x None low f.finds (subst (λ h. n ≤ h) e le) p

-- LISTS OF EXPRESSIONS

-- the expressions of `begun` were read up to ts, so those of `now` are read up to rest
pub record LedBehind (n d g : ℕ) (begun now : List Node) (ts rest : List Token) : Type 0 where
  pub on : (R : ℕ → List Token → Got NodeShapes) (t : List Token) → LedFrom n d g R begun t ts → LedFrom n d g R now t rest

pub led_begun : (n d g : ℕ) (l : List Node) (ts : List Token) → LedBehind n d g l l ts ts
led_begun n d g l ts = record { on = λ R t f. f }

pub led_further : (n d g : ℕ) (begun l' l : List Node) (a : Node) (s : Size) (ts rest r x : List Token) → LedBehind n d g begun l ts rest → after marks.Comma rest ≡ Some r → NodeFound (reads n d g) r (node_shape a) s x → l' ≡ l ++ a ∷ [] → LedBehind n d g begun l' ts x
led_further n d g begun l' l a s ts rest r x b e f same = record { on = λ R t p. led_more l' n d g R l a t rest r x (b.on R t p) e f.finds same }

pub led_measured : (n d g : ℕ) (l' l : List Node) (a : Node) (s t z : Size) (r x : List Token) → NodeFound (reads n d g) r (node_shape a) s x → AllMeasured (node_list l) t → l' ≡ l ++ a ∷ [] → z.levels ≡ max t.levels s.levels → z.probes ≡ max t.probes s.probes → AllMeasured (node_list l') z
led_measured n d g l' l a s t z r x f m same h c = record {
  levels = h ∙ nodes_now l' l a t.levels s.levels m.levels f.size.levels same;
  chain = c ∙ chains_now l' l a t.probes s.probes m.chain f.size.chain same;
}

pub led_ended : (n d g : ℕ) (begun l : List Node) (s : Size) (ts rest : List Token) → LedBehind n d g begun l ts rest → AllMeasured (node_list l) s → after marks.Comma rest ≡ None → LedFound n d g begun ts (node_list l) s rest
led_ended n d g begun l s ts rest b m e = record { finds = λ R t p. led_done n d g R l t rest (b.on R t p) e; size = m }

pub led_unread : (n d g : ℕ) (begun l : List Node) (ts rest r : List Token) → LedBehind n d g begun l ts rest → after marks.Comma rest ≡ Some r → Finds (reads n d g) r None → LedFails n d g begun ts
led_unread n d g begun l ts rest r b e p = record { finds = λ R t f. led_failed n d g R l t rest r (b.on R t f) e p }

pub none_measured : (l : List Node) (s : Size) → l ≡ [] → s.levels ≡ 0 → s.probes ≡ 0 → AllMeasured (node_list l) s
none_measured l s e h c = record { levels = h ∙ sym (ap (λ l. nodes_height (node_list l)) e); chain = c ∙ sym (ap (λ l. nodes_chain (node_list l)) e) }

pub one_measured : (f : ℕ → List Token → Got NodeShape) (l l' : List Node) (a : Node) (s : Size) (ts x : List Token) → NodeFound f ts (node_shape a) s x → l ≡ [] → l' ≡ l ++ a ∷ [] → AllMeasured (node_list l') s
one_measured f l l' a s ts x p e same =
    let q : l' ≡ a ∷ [] = same ∙ ap (λ l. l ++ a ∷ []) e in
    record { levels = p.size.levels ∙ sym (no_more (height (node_shape a))) ∙ sym (ap (λ l. nodes_height (node_list l)) q); chain = p.size.chain ∙ sym (no_more (chain (node_shape a))) ∙ sym (ap (λ l. nodes_chain (node_list l)) q) }

pub no_arguments : (d g : ℕ) (l : List Node) (ts r : List Token) → after marks.RightParen ts ≡ Some r → l ≡ [] → Found (arguments d g) nodes_height ts (node_list l) 0 r
no_arguments d g l ts r e none = subst (λ l. Found (arguments d g) nodes_height ts (node_list l) 0 r) (sym none) (record { finds = arguments_none d g ts r e; levels = refl })

first_led : (n d g : ℕ) (l l' : List Node) (a : Node) (s : Size) (ts x : List Token) → NodeFound (reads n d g) ts (node_shape a) s x → l ≡ [] → l' ≡ l ++ a ∷ [] → LedFrom n d g (listing n d g) l' ts x
first_led n d g l l' a s ts x f e same = subst (λ l. LedFrom n d g (listing n d g) l ts x) (sym (same ∙ ap (λ l. l ++ a ∷ []) e)) (listing_start n d g a ts x f.finds)

pub arguments_read : (d g : ℕ) (l l' : List Node) (a : Node) (as' : NodeShapes) (s t : Size) (ts x y z : List Token) → after marks.RightParen ts ≡ None → NodeFound (reads 1 (d + 1) g) ts (node_shape a) s x → l ≡ [] → l' ≡ l ++ a ∷ [] → LedFound 1 (d + 1) g l' x as' t y → after marks.RightParen y ≡ Some z → Found (arguments d g) nodes_height ts as' t.levels z
arguments_read d g l l' a as' s t ts x y z n f e same p c = record { finds = arguments_some d g as' ts y z n ((led_down 1 d g l' x as' t y p).finds (listing 1 (suc d) g) ts (first_led 1 (suc d) g l l' a s ts x (node_down 1 d g ts x (node_shape a) s f) e same)) c; levels = p.size.levels }

pub arguments_unread : (d g : ℕ) (ts : List Token) → after marks.RightParen ts ≡ None → Finds (reads 1 (d + 1) g) ts None → Finds (arguments d g) ts None
arguments_unread d g ts n p = arguments_fail d g ts n (listing_fails 1 (suc d) g ts (reads_down 1 d g ts None p))

pub arguments_broken : (d g : ℕ) (l l' : List Node) (a : Node) (s : Size) (ts x : List Token) → after marks.RightParen ts ≡ None → NodeFound (reads 1 (d + 1) g) ts (node_shape a) s x → l ≡ [] → l' ≡ l ++ a ∷ [] → LedFails 1 (d + 1) g l' x → Finds (arguments d g) ts None
arguments_broken d g l l' a s ts x n f e same p = arguments_fail d g ts n ((fails_down 1 d g l' x p).finds (listing 1 (suc d) g) ts (first_led 1 (suc d) g l l' a s ts x (node_down 1 d g ts x (node_shape a) s f) e same))

pub arguments_unclosed : (d g : ℕ) (l l' : List Node) (a : Node) (as' : NodeShapes) (s t : Size) (ts x y : List Token) → after marks.RightParen ts ≡ None → NodeFound (reads 1 (d + 1) g) ts (node_shape a) s x → l ≡ [] → l' ≡ l ++ a ∷ [] → LedFound 1 (d + 1) g l' x as' t y → after marks.RightParen y ≡ None → Finds (arguments d g) ts None
arguments_unclosed d g l l' a as' s t ts x y n f e same p c = arguments_open d g as' ts y n ((led_down 1 d g l' x as' t y p).finds (listing 1 (suc d) g) ts (first_led 1 (suc d) g l l' a s ts x (node_down 1 d g ts x (node_shape a) s f) e same)) c

pub cases_read : (d g : ℕ) (b : List Node) (l : NodeShapes) (s : Size) (ts rest : List Token) → b ≡ [] → LedFound 2 d (g + 1) b ts l s rest → CasesFound d g ts l s rest
cases_read d g b l s ts rest e p = let p = subst (λ g. LedFound 2 d g b ts l s rest) (one_up g) p in record { finds = p.finds (constants d g) ts (subst (λ b. LedFrom 2 d (suc g) (reads_led 2 d (suc g)) b ts ts) (sym e) (led_start 2 d (suc g) ts)); size = p.size }

pub cases_unread : (d g : ℕ) (b : List Node) (ts : List Token) → b ≡ [] → LedFails 2 d (g + 1) b ts → Finds (constants d g) ts None
cases_unread d g b ts e p = let p = subst (λ g. LedFails 2 d g b ts) (one_up g) p in p.finds (constants d g) ts (subst (λ b. LedFrom 2 d (suc g) (reads_led 2 d (suc g)) b ts ts) (sym e) (led_start 2 d (suc g) ts))

-- OPERANDS

pub number_read : (d g : ℕ) (c : NodeShape) (s : Size) (x : Text) (ts r : List Token) → start ts ≡ at_leaf (number x) r → c ≡ node (place ts) (place ts) bare (leaf (number x)) → s.levels ≡ 1 → s.probes ≡ 0 → NodeFound (fronts d g) ts c s r
number_read d g c s x ts r e same h p = found_as (fronts d g) ts (leaf_at (place ts) (number x)) c s r same (front_number d g ts r x e) h p

pub char_read : (d g : ℕ) (c : NodeShape) (s : Size) (x : ℕ) (ts r : List Token) → start ts ≡ at_leaf (char x) r → c ≡ node (place ts) (place ts) bare (leaf (char x)) → s.levels ≡ 1 → s.probes ≡ 0 → NodeFound (fronts d g) ts c s r
char_read d g c s x ts r e same h p = found_as (fronts d g) ts (leaf_at (place ts) (char x)) c s r same (front_char d g ts r x e) h p

pub string_read : (d g : ℕ) (c : NodeShape) (s : Size) (x : Text) (ts r : List Token) → start ts ≡ at_leaf (str x) r → c ≡ node (place ts) (place ts) bare (leaf (str x)) → s.levels ≡ 1 → s.probes ≡ 0 → NodeFound (fronts d g) ts c s r
string_read d g c s x ts r e same h p = found_as (fronts d g) ts (leaf_at (place ts) (str x)) c s r same (front_str d g ts r x e) h p

pub name_read : (d g : ℕ) (c : NodeShape) (s : Size) (x : Text) (ts r : List Token) → start ts ≡ at_leaf (name x) r → after marks.LeftParen r ≡ None → c ≡ node (place ts) (place ts) bare (leaf (name x)) → s.levels ≡ 1 → s.probes ≡ 0 → NodeFound (fronts d g) ts c s r
name_read d g c s x ts r e n same h p = found_as (fronts d g) ts (leaf_at (place ts) (name x)) c s r same (front_name d g ts r x e n) h p

pub call_read : (d g : ℕ) (q : Pos) (c : NodeShape) (l : NodeShapes) (h : ℕ) (s : Size) (x : Text) (ts r y z : List Token) → start ts ≡ at_leaf (name x) r → after marks.LeftParen r ≡ Some y → Found (arguments d g) nodes_height y l h z → q ≡ place ts → c ≡ node q q bare (call x l) → s.levels ≡ h + 1 → s.probes ≡ 0 → NodeFound (fronts d g) ts c s z
call_read d g q c l h s x ts r y z e n f at' same i p =
    found_as (fronts d g) ts (node (place ts) (place ts) bare (call x l)) c s z (same ∙ ap (λ q. node q q bare (call x l)) at') (front_call d g ts r y z x l e n f.finds) (next_level s.levels h (nodes_height l) i f.levels) p

pub prefix_read : (d g n : ℕ) (a c : NodeShape) (s z : Size) (u : Prefix) (ts r y : List Token) → start ts ≡ at_prefix u r → type_behind u r ≡ None → n ≡ prefix_least u → NodeFound (reads n (d + 1) g) r a s y → c ≡ node (place ts) (place ts) bare (prefix u a) → z.levels ≡ s.levels + 1 → z.probes ≡ 0 → NodeFound (fronts d g) ts c z y
prefix_read d g n a c s z u ts r y e t l f same i p =
    found_as (fronts d g) ts (node (place ts) (place ts) bare (prefix u a)) c z y same (front_prefix d g ts r y u a e t (subst (λ n. Finds (reads n (suc d) g) r (got a y)) l (reads_down n d g r (got a y) f.finds))) (next_level z.levels s.levels (height a) i f.size.levels) p

pub prefix_unread : (d g n : ℕ) (u : Prefix) (ts r : List Token) → start ts ≡ at_prefix u r → type_behind u r ≡ None → n ≡ prefix_least u → Finds (reads n (d + 1) g) r None → Finds (fronts d g) ts None
prefix_unread d g n u ts r e t l p = front_prefix_fails d g ts r u e t (subst (λ n. Finds (reads n (suc d) g) r None) l (reads_down n d g r None p))

sized : (u : Prefix) (r y : List Token) → type_behind u r ≡ Some y → (u ≡ size_of) × (type_ahead r ≡ Some y)
sized (unary u) r y e = absurd (let h : None ≡ Some y = e in cc)
sized (before s) r y e = absurd (let h : None ≡ Some y = e in cc)
sized size_of r y e = (refl, e)

pub size_read : (d g : ℕ) (c : NodeShape) (t : TypeShape) (h : ℕ) (s : Size) (u : Prefix) (ts r y z : List Token) → start ts ≡ at_prefix u r → type_behind u r ≡ Some y → Found (typed d g) type_height y t h z → c ≡ node (place ts) (place ts) bare (size_of_type t) → s.levels ≡ h + 1 → s.probes ≡ 0 → NodeFound (fronts d g) ts c s z
size_read d g c t h s u ts r y z e b f same i p =
    let v = sized u r y b in
    found_as (fronts d g) ts (node (place ts) (place ts) bare (size_of_type t)) c s z same (front_size d g ts r y z t (e ∙ ap (λ u. at_prefix u r) v.0) v.1 f.finds) (next_level s.levels h (type_height t) i f.levels) p

pub size_unread : (d g : ℕ) (u : Prefix) (ts r y : List Token) → start ts ≡ at_prefix u r → type_behind u r ≡ Some y → Finds (typed d g) y None → Finds (fronts d g) ts None
size_unread d g u ts r y e b p = let v = sized u r y b in front_size_fails d g ts r y (e ∙ ap (λ u. at_prefix u r) v.0) v.1 p

pub typed_read : (d g h : ℕ) (t : TypeShape) (ts x y : List Token) → Found (reads_type (d + 1) g) type_height ts t h x → after marks.RightParen x ≡ Some y → Found (typed d g) type_height ts t h y
typed_read d g h t ts x y f e = record { finds = typed_found d g ts x y t (type_down d g ts (got t x) f.finds) e; levels = f.levels }

pub typed_unread : (d g : ℕ) (ts : List Token) → Finds (reads_type (d + 1) g) ts None → Finds (typed d g) ts None
typed_unread d g ts p = typed_fails d g ts (type_down d g ts None p)

pub typed_unclosed : (d g h : ℕ) (t : TypeShape) (ts x : List Token) → Found (reads_type (d + 1) g) type_height ts t h x → after marks.RightParen x ≡ None → Finds (typed d g) ts None
typed_unclosed d g h t ts x f e = typed_open d g ts x t (type_down d g ts (got t x) f.finds) e

paren_closed : (d g : ℕ) (ts r y : List Token) (a : NodeShape) → start ts ≡ at_paren r → type_ahead ts ≡ None → Finds (closed marks.RightParen (whole d g)) r (got a y) → Finds (fronts d g) ts (got (node (place ts) (place ts) bare (paren a)) y)
paren_closed d g ts r y a e t q = by_paren d g ts r None (got (node (place ts) (place ts) bare (paren a)) y) e t (record { from = q.from; holds = λ k h. ap (λ f. then_go f (paren_at (place ts))) (q.holds k h) })

pub paren_read : (d g : ℕ) (a c : NodeShape) (s z : Size) (ts r y : List Token) → start ts ≡ at_paren r → type_ahead ts ≡ None → NodeFound (closed marks.RightParen (whole d g)) r a s y → c ≡ node (place ts) (place ts) bare (paren a) → z.levels ≡ s.levels + 1 → z.probes ≡ 0 → NodeFound (fronts d g) ts c z y
paren_read d g a c s z ts r y e t f same i p =
    found_as (fronts d g) ts (node (place ts) (place ts) bare (paren a)) c z y same (paren_closed d g ts r y a e t f.finds) (next_level z.levels s.levels (height a) i f.size.levels) p

pub paren_unread : (d g : ℕ) (ts r : List Token) → start ts ≡ at_paren r → type_ahead ts ≡ None → Finds (closed marks.RightParen (whole d g)) r None → Finds (fronts d g) ts None
paren_unread d g ts r e t q = by_paren d g ts r None None e t (record { from = q.from; holds = λ k h. ap (λ f. then_go f (paren_at (place ts))) (q.holds k h) })

pub cast_read : (d g : ℕ) (q : Pos) (a c : NodeShape) (t : TypeShape) (h v : ℕ) (s z : Size) (ts r y x w : List Token) → start ts ≡ at_paren r → type_ahead ts ≡ Some y → Found (typed d g) type_height y t h x → NodeFound (reads 13 (d + 1) g) x a s w → q ≡ place ts → c ≡ node q q bare (cast t a) → v ≡ max h s.levels → z.levels ≡ v + 1 → z.probes ≡ 0 → NodeFound (fronts d g) ts c z w
cast_read d g q a c t h v s z ts r y x w e b f k at' same m i p =
    found_as (fronts d g) ts (node (place ts) (place ts) bare (cast t a)) c z w (same ∙ ap (λ q. node q q bare (cast t a)) at') (front_cast d g ts r y x w t a e b f.finds (reads_down 13 d g x (got a w) k.finds)) (two_levels h s.levels (type_height t) (height a) v z.levels m f.levels k.size.levels i) p

pub cast_unread : (d g : ℕ) (ts r y : List Token) → start ts ≡ at_paren r → type_ahead ts ≡ Some y → Finds (typed d g) y None → Finds (fronts d g) ts None
cast_unread d g ts r y e b p = front_cast_fails d g ts r y e b p

pub cast_unended : (d g h : ℕ) (t : TypeShape) (ts r y x : List Token) → start ts ≡ at_paren r → type_ahead ts ≡ Some y → Found (typed d g) type_height y t h x → Finds (reads 13 (d + 1) g) x None → Finds (fronts d g) ts None
cast_unended d g h t ts r y x e b f p = front_cast_last d g ts r y x t e b f.finds (reads_down 13 d g x None p)

-- PROBES

simple_measured : (u : Probing) (n : Text) (s : Size) → s.levels ≡ 0 → s.probes ≡ 0 → CasesMeasured (simple u n) s
simple_measured u n s h c = record { levels = h; chain = c }

select_measured : (n : Text) (l : NodeShapes) (d g : ℕ) (s : Size) (ts rest : List Token) → CasesFound d g ts l s rest → CasesMeasured (select n l) s
select_measured n l d g s ts rest p = record { levels = p.size.levels; chain = p.size.chain }

probed_read : (n d g : ℕ) (q : Pos) (u : ProbeShape) (a b : NodeShape) (c s z : Size) (ts x y : List Token) → NodeFound (reads n d (g + 1)) ts a s x → after marks.RightParen x ≡ Some y → CasesMeasured u c → max c.probes s.probes < 4 → b ≡ node q q bare (probe u a) → z.levels ≡ max c.levels s.levels → z.probes ≡ max c.probes s.probes + 1 → NodeFound (probed n d g q u) ts b z y
probed_read n d g q u a b c s z ts x y f e m few same h p =
    found_as (probed n d g q u) ts (node q q bare (probe u a)) b z y same (probed_found n d g q u a ts x y (inner_down n d g ts (got a x) f.finds) e (subst (λ n. n < 4) (rw (m.chain, f.size.chain)) few)) (rw (h, m.levels, f.size.levels)) (next_level z.probes (max c.probes s.probes) (max (cases_chain u) (chain a)) p (rw (m.chain, f.size.chain)))

probed_too_many : (n d g : ℕ) (q : Pos) (u : ProbeShape) (a : NodeShape) (c s : Size) (ts x y : List Token) → NodeFound (reads n d (g + 1)) ts a s x → after marks.RightParen x ≡ Some y → CasesMeasured u c → 4 ≤ max c.probes s.probes → Finds (probed n d g q u) ts None
probed_too_many n d g q u a c s ts x y f e m many = probed_many n d g q u a ts x y (inner_down n d g ts (got a x) f.finds) e (subst (λ n. 4 ≤ n) (rw (m.chain, f.size.chain)) many)

probed_unread : (n d g : ℕ) (q : Pos) (u : ProbeShape) (ts : List Token) → Finds (reads n d (g + 1)) ts None → Finds (probed n d g q u) ts None
probed_unread n d g q u ts p = probed_fails n d g q u ts (inner_down n d g ts None p)

probed_unclosed : (n d g : ℕ) (q : Pos) (u : ProbeShape) (a : NodeShape) (s : Size) (ts x : List Token) → NodeFound (reads n d (g + 1)) ts a s x → after marks.RightParen x ≡ None → Finds (probed n d g q u) ts None
probed_unclosed n d g q u a s ts x f e = probed_open n d g q u a ts x (inner_down n d g ts (got a x) f.finds) e

pub inside_read : (n d g : ℕ) (a : NodeShape) (c s z : Size) (ts x y : List Token) → NodeFound (reads n d (g + 1)) ts a s x → after marks.RightParen x ≡ Some y → max c.probes s.probes < 4 → z.levels ≡ max c.levels s.levels → z.probes ≡ max c.probes s.probes + 1 → InsideFound n d g c ts a z y
inside_read n d g a c s z ts x y f e few h p = record { on = λ q u m. probed_read n d g q u a (node q q bare (probe u a)) c s z ts x y f e m few refl h p }

pub inside_too_many : (n d g : ℕ) (a : NodeShape) (c s : Size) (ts x y : List Token) → NodeFound (reads n d (g + 1)) ts a s x → after marks.RightParen x ≡ Some y → 4 ≤ max c.probes s.probes → InsideFails n d g c ts
inside_too_many n d g a c s ts x y f e many = record { on = λ q u m. probed_too_many n d g q u a c s ts x y f e m many }

pub inside_unread : (n d g : ℕ) (c : Size) (ts : List Token) → Finds (reads n d (g + 1)) ts None → InsideFails n d g c ts
inside_unread n d g c ts p = record { on = λ q u m. probed_unread n d g q u ts p }

pub inside_unclosed : (n d g : ℕ) (a : NodeShape) (c s : Size) (ts x : List Token) → NodeFound (reads n d (g + 1)) ts a s x → after marks.RightParen x ≡ None → InsideFails n d g c ts
inside_unclosed n d g a c s ts x f e = record { on = λ q u m. probed_unclosed n d g q u a s ts x f e }

pub simple_read : (d g l : ℕ) (q : Pos) (a b : NodeShape) (c s : Size) (u : Probing) (n : Text) (ts r x y z : List Token) → start ts ≡ at_simple u r → q ≡ place ts → g < 1600 → numbered r ≡ Some (n, x) → after marks.Comma x ≡ Some y → l ≡ probe_least u → c.levels ≡ 0 → c.probes ≡ 0 → InsideFound l d g c y a s z → b ≡ node q q bare (probe (simple u n) a) → NodeFound (fronts d g) ts b s z
simple_read d g l q a b c s u n ts r x y z e at' few m k h v w p same =
    let f = p.on (place ts) (simple u n) (simple_measured u n c v w) in
    found_as (fronts d g) ts (node (place ts) (place ts) bare (probe (simple u n) a)) b s z (same ∙ ap (λ q. node q q bare (probe (simple u n) a)) at') (front_simple d g ts r x y u n (got (node (place ts) (place ts) bare (probe (simple u n) a)) z) e few m k (subst (λ l. Finds (probed l d g (place ts) (simple u n)) y (got (node (place ts) (place ts) bare (probe (simple u n) a)) z)) h f.finds)) f.size.levels f.size.chain

pub simple_unread : (d g l : ℕ) (c : Size) (u : Probing) (n : Text) (ts r x y : List Token) → start ts ≡ at_simple u r → g < 1600 → numbered r ≡ Some (n, x) → after marks.Comma x ≡ Some y → l ≡ probe_least u → c.levels ≡ 0 → c.probes ≡ 0 → InsideFails l d g c y → Finds (fronts d g) ts None
simple_unread d g l c u n ts r x y e few m k h v w p =
    front_simple d g ts r x y u n None e few m k (subst (λ l. Finds (probed l d g (place ts) (simple u n)) y None) h (p.on (place ts) (simple u n) (simple_measured u n c v w)))

pub select_read : (d g : ℕ) (q : Pos) (a b : NodeShape) (l : NodeShapes) (s t : Size) (n : Text) (ts r x y w z : List Token) → start ts ≡ at_select r → q ≡ place ts → g < 1600 → numbered r ≡ Some (n, x) → CasesFound d g x l s y → after marks.Semicolon y ≡ Some w → InsideFound 0 d g s w a t z → b ≡ node q q bare (probe (select n l) a) → NodeFound (fronts d g) ts b t z
select_read d g q a b l s t n ts r x y w z e at' few m k c p same =
    let f = p.on (place ts) (select n l) (select_measured n l d g s x y k) in
    found_as (fronts d g) ts (node (place ts) (place ts) bare (probe (select n l) a)) b t z (same ∙ ap (λ q. node q q bare (probe (select n l) a)) at') (front_select d g ts r x y w n l (got (node (place ts) (place ts) bare (probe (select n l) a)) z) e few m k.finds c f.finds) f.size.levels f.size.chain

pub select_unread : (d g : ℕ) (l : NodeShapes) (s : Size) (n : Text) (ts r x y w : List Token) → start ts ≡ at_select r → g < 1600 → numbered r ≡ Some (n, x) → CasesFound d g x l s y → after marks.Semicolon y ≡ Some w → InsideFails 0 d g s w → Finds (fronts d g) ts None
select_unread d g l s n ts r x y w e few m k c p =
    front_select d g ts r x y w n l None e few m k.finds c (p.on (place ts) (select n l) (select_measured n l d g s x y k))

pub select_unended : (d g : ℕ) (l : NodeShapes) (s : Size) (n : Text) (ts r x y : List Token) → start ts ≡ at_select r → g < 1600 → numbered r ≡ Some (n, x) → CasesFound d g x l s y → after marks.Semicolon y ≡ None → Finds (fronts d g) ts None
select_unended d g l s n ts r x y e few m k c = front_select_open d g ts r x y n l e few m k.finds c
