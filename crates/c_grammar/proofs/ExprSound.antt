-- What the reader of expressions finds is written by the tokens, and is allowed.
use Rattle.std.proofs.Common.{◌≡◌, ℕ, zero, suc, ◌+◌, ◌≤◌, ◌<◌, List, [], ◌∷◌, length, Option, Some, None, Bool, true, false, refl, sym, ap, ◌∙◌, subst, arith}
use Rattle.std.proofs.lemmas.Bool.{ltb-true, leb-true}
use Rattle.std.specs.Prelude.{nat_lt, nat_le, max}
use Rattle.c_base.specs.declared.place.Pos.{Pos}
use Rattle.c_syntax.specs.declared.text.Text.{Text}
use Rattle.c_syntax.specs.declared.token.Mark.TheVariants as marks
use Rattle.c_syntax.specs.declared.token.Key.TheVariants as keys
use Rattle.c_syntax.specs.declared.token.ProbeWord.TheVariants as words
use Rattle.c_syntax.specs.declared.token.Token.{Token}
use Rattle.c_syntax.specs.declared.token.TokenKind.TheVariants as kind
use Rattle.c_syntax.specs.Forms.{Form, seq, Written, head, a_token, place}
use Rattle.c_syntax.specs.Shape.{bare, Leaf, number, char, str, name, Prefix, unary, before, size_of, Infix, Probing, NodeShape, node, leaf, paren, call, prefix, size_of_type, cast, suffix, two, choose, probe, index, field, behind, ProbeShape, simple, select, NodeShapes, no_nodes, more_nodes, TypeShape}
use Rattle.c_syntax.specs.Grammar.{leaf_kind, prefix_kind, probing_word, node_form, nodes_form, led_nodes_form, type_form, expr_form}
use Rattle.c_syntax.specs.Levels.{height, nodes_height, type_height, chain, cases_chain, cases_height}
use Rattle.c_syntax.specs.Shaped.{level, right_least, prefix_least, probe_least, Shaped, ShapedNodes, ShapedType, ShapedProbe}
use Rattle.c_grammar.specs.Look.{Got, got, then_go, go_after, either_way, where_true, if_so, after, expect, a_number, a_word}
use Rattle.c_grammar.specs.Starts.{Oper, infix_oper, question, bracket, access, step, open_paren, Sign, a_sign, no_sign, sign, oper_level, oper_least, Start, at_leaf, at_prefix, at_paren, at_simple, at_select, no_start, start, is_spec, spec_head, type_if, type_in, type_ahead}
use Rattle.c_grammar.specs.ExprReader.{place_of, most_probes, Below, onto, one_more, args, leaf_at, call_at, calling, leaf_or_call, prefix_at, size_at, paren_at, cast_at, in_type, sizing, casting, casting_from, type_behind, numbered, probe_at, probing, simple_from, selected, select_from, front, two_on, choose_on, choose_from, index_on, field_on, grow, takes, next}
use Rattle.c_grammar.proofs.Looking.{got_eq, not_got, went, opened, passed, both, after_is, expect_is, closed_by, number_is, word_is}
use Rattle.c_grammar.proofs.Starting.{oper_mark, sign_is, start_is}

-- a part that was read: it is written at the front of ts, before rest, it is allowed, and its h levels have d above them
pub record Fits (f : Form) (S : Type 0) (h d : ℕ) (ts rest : List Token) : Type 0 where
  pub written : Written f ts rest
  pub shaped : S
  pub low : h + d ≤ 400

abbrev pub NodeFits : ℕ → ℕ → List Token → NodeShape → List Token → Type 0
NodeFits n d ts t rest = Fits (node_form t) ((n ≤ level t) × Shaped t) (height t) d ts rest

-- an operand, or the tree so far
abbrev pub FrontFits : ℕ → List Token → NodeShape → List Token → Type 0
FrontFits d ts t rest = Fits (node_form t) (Shaped t) (height t) d ts rest

abbrev pub LedFits : ℕ → ℕ → List Token → NodeShapes → List Token → Type 0
LedFits n d ts as' rest = Fits (led_nodes_form as') (ShapedNodes n as') (nodes_height as') d ts rest

abbrev pub NodesFits : ℕ → List Token → NodeShapes → List Token → Type 0
NodesFits d ts as' rest = Fits (nodes_form as') (ShapedNodes 1 as') (nodes_height as') d ts rest

abbrev pub TypeFits : ℕ → List Token → TypeShape → List Token → Type 0
TypeFits d ts t rest = Fits (type_form t) (ShapedType t) (type_height t) d ts rest

-- the same answer, spelled otherwise
pub moved : {A : Type 0} (P : A → List Token → Type 0) (s t : A) (x y : List Token) → got s x ≡ got t y → P s x → P t y
moved P s t x y e f = let p = got_eq s t x y e in subst (λ q. P q y) p.0 (subst (λ q. P s q) p.1 f)

-- what the readers below an expression find fits, with d levels above it
pub record BelowFits (B : Below) (d : ℕ) : Type 0 where
  pub operand : (n : ℕ) (ts : List Token) (t : NodeShape) (rest : List Token) → B.operand n ts ≡ got t rest → NodeFits n (suc d) ts t rest
  pub inner : (n : ℕ) (ts : List Token) (t : NodeShape) (rest : List Token) → B.inner n ts ≡ got t rest → NodeFits n d ts t rest
  pub listed : (ts : List Token) (as' : NodeShapes) (rest : List Token) → B.listed ts ≡ got as' rest → LedFits 1 (suc d) ts as' rest
  pub cases : (ts : List Token) (as' : NodeShapes) (rest : List Token) → B.cases ts ≡ got as' rest → LedFits 2 d ts as' rest
  pub type : (ts : List Token) (t : TypeShape) (rest : List Token) → B.type ts ≡ got t rest → TypeFits (suc d) ts t rest

-- OPERANDS

args_sound : (B : Below) (d : ℕ) → BelowFits B d → d < 400 → (ts : List Token) (o : Option (List Token)) (as' : NodeShapes) (rest : List Token) → after marks.RightParen ts ≡ o → either_way o (got no_nodes) (then_go (then_go (B.operand 1 ts) (one_more B.listed)) (expect marks.RightParen)) ≡ got as' rest → (y : List Token) × NodesFits (suc d) ts as' y × (head y ≡ a_token (kind.Mark marks.RightParen) rest)
args_sound B d ih deep ts (Some r) as' rest b e =
    (ts, moved (λ q z. NodesFits (suc d) ts q ts) no_nodes as' r rest e (record { written = refl; shaped = tt; low = omega (arith, deep) }), subst (λ z. head ts ≡ a_token (kind.Mark marks.RightParen) z) (got_eq no_nodes as' r rest e).1 (after_is marks.RightParen ts r b))
args_sound B d ih deep ts None as' rest b e =
    let c = closed_by marks.RightParen (then_go (B.operand 1 ts) (one_more B.listed)) as' rest e in
    let v = went (B.operand 1 ts) (one_more B.listed) as' c.0 c.1 in
    let w = went (B.listed v.1) (onto v.0) as' c.0 v.3 in
    let f = ih.operand 1 ts v.0 v.1 v.2 in
    let l = ih.listed v.1 w.0 w.1 w.2 in
    let low : height v.0 + suc d ≤ 400 = f.low in
    let lows : nodes_height w.0 + suc d ≤ 400 = l.low in (
      c.0,
      moved (NodesFits (suc d) ts) (more_nodes v.0 w.0) as' w.1 c.0 w.3 (record {
        written = record { middle = v.1; first = f.written; second = l.written };
        shaped = (f.shaped.0, f.shaped.1, l.shaped);
        low = omega (arith, low, lows);
      }),
      c.2,
    )

leaf_fits : (d : ℕ) → d < 400 → (ts : List Token) (l : Leaf) (r : List Token) → head ts ≡ a_token (leaf_kind l) r → FrontFits d ts (leaf_at (place ts) l) r
leaf_fits d deep ts l r h = record { written = (refl, (refl, h)); shaped = (refl, tt); low = omega (arith, deep) }

name_sound : (B : Below) (d : ℕ) → BelowFits B d → d < 400 → (ts : List Token) (x : Text) (r : List Token) (o : Option (List Token)) (t : NodeShape) (rest : List Token) → head ts ≡ a_token (kind.Word x) r → after marks.LeftParen r ≡ o → either_way o (calling B (place ts) x) (got (leaf_at (place ts) (name x)) r) ≡ got t rest → FrontFits d ts t rest
name_sound B d ih deep ts x r None t rest h b e = moved (FrontFits d ts) (leaf_at (place ts) (name x)) t r rest e (leaf_fits d deep ts (name x) r h)
name_sound B d ih deep ts x r (Some y) t rest h b e =
    let v = went (args (B.operand 1) B.listed y) (call_at (place ts) x) t rest e in
    let a = args_sound B d ih deep y (after marks.RightParen y) v.0 v.1 refl v.2 in
    let low : nodes_height v.0 + suc d ≤ 400 = a.1.low in
    moved (FrontFits d ts) (node (place ts) (place ts) bare (call x v.0)) t v.1 rest v.3 (record {
      written = (refl, record { middle = r; first = (refl, h); second = record { middle = y; first = after_is marks.LeftParen r y b; second = record { middle = a.0; first = a.1.written; second = a.2 } } });
      shaped = (refl, a.1.shaped);
      low = omega (arith, low);
    })

leaf_sound : (B : Below) (d : ℕ) → BelowFits B d → d < 400 → (ts : List Token) (l : Leaf) (r : List Token) (t : NodeShape) (rest : List Token) → head ts ≡ a_token (leaf_kind l) r → leaf_or_call B (place ts) l r ≡ got t rest → FrontFits d ts t rest
leaf_sound B d ih deep ts (number x) r t rest h e = moved (FrontFits d ts) (leaf_at (place ts) (number x)) t r rest e (leaf_fits d deep ts (number x) r h)
leaf_sound B d ih deep ts (char x) r t rest h e = moved (FrontFits d ts) (leaf_at (place ts) (char x)) t r rest e (leaf_fits d deep ts (char x) r h)
leaf_sound B d ih deep ts (str x) r t rest h e = moved (FrontFits d ts) (leaf_at (place ts) (str x)) t r rest e (leaf_fits d deep ts (str x) r h)
leaf_sound B d ih deep ts (name x) r t rest h e = name_sound B d ih deep ts x r (after marks.LeftParen r) t rest h refl e

-- behind a parenthesis, where a type name follows
pub type_is : (ts y : List Token) → type_ahead ts ≡ Some y → head ts ≡ a_token (kind.Mark marks.LeftParen) y
type_is ts y e = go (after marks.LeftParen ts) refl e
  where
    go : (o : Option (List Token)) → after marks.LeftParen ts ≡ o → type_in o ≡ Some y → head ts ≡ a_token (kind.Mark marks.LeftParen) y
    go None b q = absurd (let z : None ≡ Some y = q in cc)
    go (Some r) b q = after_is marks.LeftParen ts y (b ∙ cut r (is_spec (spec_head r)) q)
      where
        cut : (l : List Token) (c : Bool) → type_if l c ≡ Some y → Some l ≡ Some y
        cut l true q = q
        cut l false q = absurd (let z : None ≡ Some y = q in cc)

type_sound : (B : Below) (d : ℕ) → BelowFits B d → (ts : List Token) (t : TypeShape) (rest : List Token) → in_type B ts ≡ got t rest → (y : List Token) × TypeFits (suc d) ts t y × (head y ≡ a_token (kind.Mark marks.RightParen) rest)
type_sound B d ih ts t rest e =
    let c = closed_by marks.RightParen (B.type ts) t rest e in
    (c.0, ih.type ts t c.0 c.1, c.2)

prefix_sound : (B : Below) (d : ℕ) → BelowFits B d → (ts : List Token) (u : Prefix) (r : List Token) (t : NodeShape) (rest : List Token) → head ts ≡ a_token (prefix_kind u) r → then_go (B.operand (prefix_least u) r) (prefix_at (place ts) u) ≡ got t rest → FrontFits d ts t rest
prefix_sound B d ih ts u r t rest h e =
    let v = went (B.operand (prefix_least u) r) (prefix_at (place ts) u) t rest e in
    let f = ih.operand (prefix_least u) r v.0 v.1 v.2 in
    let low : height v.0 + suc d ≤ 400 = f.low in
    moved (FrontFits d ts) (node (place ts) (place ts) bare (prefix u v.0)) t v.1 rest v.3 (record {
      written = (refl, record { middle = r; first = (refl, h); second = f.written });
      shaped = (refl, f.shaped);
      low = omega (arith, low);
    })

-- `sizeof` and a type name
sizing_sound : (B : Below) (d : ℕ) → BelowFits B d → (ts r y : List Token) (t : NodeShape) (rest : List Token) → head ts ≡ a_token (kind.Key keys.Sizeof) r → type_ahead r ≡ Some y → sizing B (place ts) y ≡ got t rest → FrontFits d ts t rest
sizing_sound B d ih ts r y t rest h b e =
    let v = went (in_type B y) (size_at (place ts)) t rest e in
    let f = type_sound B d ih y v.0 v.1 v.2 in
    let low : type_height v.0 + suc d ≤ 400 = f.1.low in
    moved (FrontFits d ts) (node (place ts) (place ts) bare (size_of_type v.0)) t v.1 rest v.3 (record {
      written = (refl, record { middle = r; first = (refl, h); second = record { middle = y; first = type_is r y b; second = record { middle = f.0; first = f.1.written; second = f.2 } } });
      shaped = (refl, f.1.shaped);
      low = omega (arith, low);
    })

prefixes_sound : (B : Below) (d : ℕ) → BelowFits B d → (ts : List Token) (u : Prefix) (r : List Token) (o : Option (List Token)) (t : NodeShape) (rest : List Token) → head ts ≡ a_token (prefix_kind u) r → type_behind u r ≡ o → either_way o (sizing B (place ts)) (then_go (B.operand (prefix_least u) r) (prefix_at (place ts) u)) ≡ got t rest → FrontFits d ts t rest
prefixes_sound B d ih ts u r None t rest h b e = prefix_sound B d ih ts u r t rest h e
prefixes_sound B d ih ts size_of r (Some y) t rest h b e = sizing_sound B d ih ts r y t rest h b e
prefixes_sound B d ih ts (unary u) r (Some y) t rest h b e = absurd (let z : None ≡ Some y = b in cc)
prefixes_sound B d ih ts (before s) r (Some y) t rest h b e = absurd (let z : None ≡ Some y = b in cc)

paren_sound : (B : Below) (d : ℕ) → BelowFits B d → (ts r : List Token) (o : Option (List Token)) (t : NodeShape) (rest : List Token) → head ts ≡ a_token (kind.Mark marks.LeftParen) r → type_ahead ts ≡ o → either_way o (casting_from B (place ts)) (then_go (then_go (B.operand 0 r) (expect marks.RightParen)) (paren_at (place ts))) ≡ got t rest → FrontFits d ts t rest
paren_sound B d ih ts r None t rest h b e =
    let v = went (then_go (B.operand 0 r) (expect marks.RightParen)) (paren_at (place ts)) t rest e in
    let c = closed_by marks.RightParen (B.operand 0 r) v.0 v.1 v.2 in
    let f = ih.operand 0 r v.0 c.0 c.1 in
    let low : height v.0 + suc d ≤ 400 = f.low in
    moved (FrontFits d ts) (node (place ts) (place ts) bare (paren v.0)) t v.1 rest v.3 (record {
      written = (refl, record { middle = r; first = (refl, h); second = record { middle = c.0; first = f.written; second = c.2 } });
      shaped = (refl, f.shaped.1);
      low = omega (arith, low);
    })
paren_sound B d ih ts r (Some y) t rest h b e =
    let v = went (in_type B y) (casting B (place ts)) t rest e in
    let f = type_sound B d ih y v.0 v.1 v.2 in
    let w = went (B.operand 13 v.1) (cast_at (place ts) v.0) t rest v.3 in
    let a = ih.operand 13 v.1 w.0 w.1 w.2 in
    let low : type_height v.0 + suc d ≤ 400 = f.1.low in
    let under : height w.0 + suc d ≤ 400 = a.low in
    moved (FrontFits d ts) (node (place ts) (place ts) bare (cast v.0 w.0)) t w.1 rest w.3 (record {
      written = (refl, record { middle = y; first = (refl, type_is ts y b); second = record { middle = f.0; first = f.1.written; second = record { middle = v.1; first = f.2; second = a.written } } });
      shaped = (refl, (f.1.shaped, a.shaped.0, a.shaped.1));
      low = omega (arith, low, under);
    })

-- PROBES

-- a number behind a parenthesis
pub numbered_is : (ts : List Token) (n : Text) (rest : List Token) → numbered ts ≡ got n rest → (y : List Token) × (head ts ≡ a_token (kind.Mark marks.LeftParen) y) × (head y ≡ a_token (kind.Number n) rest)
numbered_is ts n rest e =
    let o = opened (after marks.LeftParen ts) a_number n rest e in
    (o.0, after_is marks.LeftParen ts o.0 o.1, number_is o.0 n rest o.2)

-- the expression of a probe, and the probe round it
record Probed (B : Below) (d l : ℕ) (p : Pos) (u : ProbeShape) (ts : List Token) (t : NodeShape) (rest : List Token) : Type 0 where
  in_it : NodeShape
  behind_it : List Token
  fits : NodeFits l d ts in_it behind_it
  closes : head behind_it ≡ a_token (kind.Mark marks.RightParen) rest
  few : suc (max (cases_chain u) (chain in_it)) ≤ 4
  same : node p p bare (probe u in_it) ≡ t

probing_sound : (B : Below) (d l : ℕ) → BelowFits B d → (p : Pos) (u : ProbeShape) (ts : List Token) (t : NodeShape) (rest : List Token) → probing B l p u ts ≡ got t rest → Probed B d l p u ts t rest
probing_sound B d l ih p u ts t rest e =
    let v = went (then_go (B.inner l ts) (expect marks.RightParen)) (probe_at p u) t rest e in
    let c = closed_by marks.RightParen (B.inner l ts) v.0 v.1 v.2 in
    let b = passed (nat_lt (max (cases_chain u) (chain v.0)) 4) (Some (node p p bare (probe u v.0), v.1)) t rest v.3 in
    let q = got_eq (node p p bare (probe u v.0)) t v.1 rest b.1 in
    record {
      in_it = v.0;
      behind_it = c.0;
      fits = ih.inner l ts v.0 c.0 c.1;
      closes = subst (λ z. head c.0 ≡ a_token (kind.Mark marks.RightParen) z) q.1 c.2;
      few = ltb-true (max (cases_chain u) (chain v.0)) 4 b.0;
      same = q.0;
    }

simple_sound : (B : Below) (d g : ℕ) → BelowFits B d → (ts : List Token) (u : Probing) (r : List Token) (t : NodeShape) (rest : List Token) → head ts ≡ a_token (kind.Probe (probing_word u)) r → where_true (nat_lt g most_probes) (then_go (numbered r) (simple_from B (place ts) u)) ≡ got t rest → FrontFits d ts t rest
simple_sound B d g ih ts u r t rest h e =
    let b = passed (nat_lt g most_probes) (then_go (numbered r) (simple_from B (place ts) u)) t rest e in
    let v = went (numbered r) (simple_from B (place ts) u) t rest b.1 in
    let n = numbered_is r v.0 v.1 v.2 in
    let o = opened (after marks.Comma v.1) (probing B (probe_least u) (place ts) (simple u v.0)) t rest v.3 in
    let q = probing_sound B d (probe_least u) ih (place ts) (simple u v.0) o.0 t rest o.2 in
    let low : height q.in_it + d ≤ 400 = q.fits.low in
    subst (λ z. FrontFits d ts z rest) q.same (record {
      written = (refl, record { middle = r; first = (refl, h); second = record { middle = n.0; first = n.1; second = record { middle = q.behind_it; first = record { middle = v.1; first = n.2; second = record { middle = o.0; first = after_is marks.Comma v.1 o.0 o.1; second = q.fits.written } }; second = q.closes } } });
      shaped = (refl, (q.fits.shaped.0, q.fits.shaped.1, q.few));
      low = omega (arith, low);
    })

select_sound : (B : Below) (d g : ℕ) → BelowFits B d → (ts r : List Token) (t : NodeShape) (rest : List Token) → head ts ≡ a_token (kind.Probe words.Select) r → where_true (nat_lt g most_probes) (then_go (numbered r) (select_from B (place ts))) ≡ got t rest → FrontFits d ts t rest
select_sound B d g ih ts r t rest h e =
    let b = passed (nat_lt g most_probes) (then_go (numbered r) (select_from B (place ts))) t rest e in
    let v = went (numbered r) (select_from B (place ts)) t rest b.1 in
    let n = numbered_is r v.0 v.1 v.2 in
    let w = went (B.cases v.1) (selected B (place ts) v.0) t rest v.3 in
    let c = ih.cases v.1 w.0 w.1 w.2 in
    let o = opened (after marks.Semicolon w.1) (probing B 0 (place ts) (select v.0 w.0)) t rest w.3 in
    let q = probing_sound B d 0 ih (place ts) (select v.0 w.0) o.0 t rest o.2 in
    let low : height q.in_it + d ≤ 400 = q.fits.low in
    let lows : nodes_height w.0 + d ≤ 400 = c.low in
    subst (λ z. FrontFits d ts z rest) q.same (record {
      written = (refl, record { middle = r; first = (refl, h); second = record { middle = n.0; first = n.1; second = record { middle = q.behind_it; first = record { middle = v.1; first = n.2; second = record { middle = w.1; first = c.written; second = record { middle = o.0; first = after_is marks.Semicolon w.1 o.0 o.1; second = q.fits.written } } }; second = q.closes } } });
      shaped = (refl, (c.shaped, q.fits.shaped.1, q.few));
      low = omega (arith, low, lows);
    })

pub front_sound : (B : Below) (d g : ℕ) → BelowFits B d → d < 400 → (ts : List Token) (s : Start) (t : NodeShape) (rest : List Token) → start ts ≡ s → front B g ts s ≡ got t rest → FrontFits d ts t rest
front_sound B d g ih deep ts (at_leaf l r) t rest b e = leaf_sound B d ih deep ts l r t rest (start_is ts (at_leaf l r) b) e
front_sound B d g ih deep ts (at_prefix u r) t rest b e = prefixes_sound B d ih ts u r (type_behind u r) t rest (start_is ts (at_prefix u r) b) refl e
front_sound B d g ih deep ts (at_paren r) t rest b e = paren_sound B d ih ts r (type_ahead ts) t rest (start_is ts (at_paren r) b) refl e
front_sound B d g ih deep ts (at_simple u r) t rest b e = simple_sound B d g ih ts u r t rest (start_is ts (at_simple u r) b) e
front_sound B d g ih deep ts (at_select r) t rest b e = select_sound B d g ih ts r t rest (start_is ts (at_select r) b) e
front_sound B d g ih deep ts no_start t rest b e = not_got t rest e

-- OPERATORS

-- a tree begins where its place says
pub begins_at : (a : NodeShape) (ts x : List Token) → Written (node_form a) ts x → place_of a ≡ place ts
begins_at (node p o n f) ts x w = w.0

-- what climbing on comes to, from a tree that fits
abbrev OnFits : (NodeShape → List Token → Got NodeShape) → ℕ → ℕ → List Token → Type 0
OnFits on n d ts = (a : NodeShape) (x : List Token) (t : NodeShape) (rest : List Token) → NodeFits n d ts a x → on a x ≡ got t rest → NodeFits n d ts t rest

grow_sound : (B : Below) (on : NodeShape → List Token → Got NodeShape) (n d : ℕ) (ts : List Token) → BelowFits B d → OnFits on n d ts → (a : NodeShape) (x r : List Token) (o : Oper) (t : NodeShape) (rest : List Token) → FrontFits d ts a x → sign x ≡ a_sign o r → n ≤ oper_level o → oper_least o ≤ level a → height a + d < 400 → grow B on a (place x) r o ≡ got t rest → NodeFits n d ts t rest
grow_sound B on n d ts ih go a x r (infix_oper u) t rest f s tight left deep e =
    let v = went (B.operand (right_least u) r) (two_on on a (place x) u) t rest e in
    let b = ih.operand (right_least u) r v.0 v.1 v.2 in
    let i = sign_is x (infix_oper u) r s in
    let low : height v.0 + suc d ≤ 400 = b.low in
    go (node (place_of a) (place x) bare (two u a v.0)) v.1 t rest (record {
      written = (begins_at a ts x f.written, record { middle = x; first = f.written; second = record { middle = r; first = (refl, i.0); second = b.written } });
      shaped = (tight, (refl, (i.1, left, f.shaped, b.shaped.0, b.shaped.1)));
      low = omega (arith, deep, low);
    }) v.3
grow_sound B on n d ts ih go a x r question t rest f s tight left deep e =
    let v = went (then_go (B.operand 0 r) (expect marks.Colon)) (choose_from B on a (place x)) t rest e in
    let c = closed_by marks.Colon (B.operand 0 r) v.0 v.1 v.2 in
    let b = ih.operand 0 r v.0 c.0 c.1 in
    let w = went (B.operand 2 v.1) (choose_on on a (place x) v.0) t rest v.3 in
    let l = ih.operand 2 v.1 w.0 w.1 w.2 in
    let i = sign_is x question r s in
    let low : height v.0 + suc d ≤ 400 = b.low in
    let last : height w.0 + suc d ≤ 400 = l.low in
    go (node (place_of a) (place x) bare (choose a v.0 w.0)) w.1 t rest (record {
      written = (begins_at a ts x f.written, record { middle = x; first = f.written; second = record { middle = r; first = (refl, i.0); second = record { middle = c.0; first = b.written; second = record { middle = v.1; first = c.2; second = l.written } } } });
      shaped = (tight, (refl, (left, f.shaped, b.shaped.1, l.shaped.0, l.shaped.1)));
      low = omega (arith, deep, low, last);
    }) w.3
grow_sound B on n d ts ih go a x r bracket t rest f s tight left deep e =
    let v = went (then_go (B.operand 0 r) (expect marks.RightBracket)) (index_on on a (place x)) t rest e in
    let c = closed_by marks.RightBracket (B.operand 0 r) v.0 v.1 v.2 in
    let b = ih.operand 0 r v.0 c.0 c.1 in
    let i = sign_is x bracket r s in
    let low : height v.0 + suc d ≤ 400 = b.low in
    go (node (place_of a) (place x) bare (suffix a (index v.0))) v.1 t rest (record {
      written = (begins_at a ts x f.written, record { middle = x; first = f.written; second = record { middle = r; first = (refl, i.0); second = record { middle = c.0; first = b.written; second = c.2 } } });
      shaped = (tight, (refl, (left, f.shaped, b.shaped.1)));
      low = omega (arith, deep, low);
    }) v.3
grow_sound B on n d ts ih go a x r (access h) t rest f s tight left deep e =
    let v = went (a_word r) (field_on on a (place x) h (place r)) t rest e in
    let i = sign_is x (access h) r s in
    go (node (place_of a) (place x) bare (suffix a (field h v.0 (place r)))) v.1 t rest (record {
      written = (begins_at a ts x f.written, record { middle = x; first = f.written; second = record { middle = r; first = (refl, i.0); second = (refl, word_is r v.0 v.1 v.2) } });
      shaped = (tight, (refl, (left, f.shaped, tt)));
      low = omega (arith, deep);
    }) v.3
grow_sound B on n d ts ih go a x r (step w) t rest f s tight left deep e =
    let i = sign_is x (step w) r s in
    go (node (place_of a) (place x) bare (suffix a (behind w))) r t rest (record {
      written = (begins_at a ts x f.written, record { middle = x; first = f.written; second = (refl, i.0) });
      shaped = (tight, (refl, (left, f.shaped, tt)));
      low = omega (arith, deep);
    }) e
grow_sound B on n d ts ih go a x r open_paren t rest f s tight left deep e = not_got t rest e

sign_sound : (B : Below) (on : NodeShape → List Token → Got NodeShape) (n d : ℕ) (ts : List Token) → BelowFits B d → OnFits on n d ts → (a : NodeShape) (x r : List Token) (o : Oper) (c : Bool) (t : NodeShape) (rest : List Token) → NodeFits n d ts a x → sign x ≡ a_sign o r → takes n a o ≡ c → if_so c (where_true (nat_lt (height a + d) 400) (grow B on a (place x) r o)) (got a x) ≡ got t rest → NodeFits n d ts t rest
sign_sound B on n d ts ih go a x r o false t rest f s b e = moved (NodeFits n d ts) a t x rest e f
sign_sound B on n d ts ih go a x r o true t rest f s b e =
    let q = both (nat_le n (oper_level o)) (nat_le (oper_least o) (level a)) b in
    let p = passed (nat_lt (height a + d) 400) (grow B on a (place x) r o) t rest e in
    grow_sound B on n d ts ih go a x r o t rest (record { written = f.written; shaped = f.shaped.1; low = f.low }) s (leb-true n (oper_level o) q.0) (leb-true (oper_least o) (level a) q.1) (ltb-true (height a + d) 400 p.0) p.1

pub next_sound : (B : Below) (on : NodeShape → List Token → Got NodeShape) (n d : ℕ) (ts : List Token) → BelowFits B d → OnFits on n d ts → (a : NodeShape) (x : List Token) (s : Sign) (t : NodeShape) (rest : List Token) → NodeFits n d ts a x → sign x ≡ s → next B on n d a x s ≡ got t rest → NodeFits n d ts t rest
next_sound B on n d ts ih go a x no_sign t rest f s e = moved (NodeFits n d ts) a t x rest e f
next_sound B on n d ts ih go a x (a_sign o r) t rest f s e = sign_sound B on n d ts ih go a x r o (takes n a o) t rest f s refl e
