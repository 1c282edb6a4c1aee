-- What the reader finds, by the number of its steps.
use Rattle.std.proofs.Common.{◌≡◌, ℕ, zero, suc, ◌+◌, ◌≤◌, ◌<◌, List, Option, Some, None, Bool, true, false, refl, sym, ap, ◌∙◌, subst, arith}
use Rattle.std.proofs.lemmas.Bool.{ltb-true, leb-true}
use Rattle.std.specs.Prelude.{nat_lt, nat_le, max}
use Rattle.c_base.specs.declared.place.Pos.{Pos}
use Rattle.c_syntax.specs.declared.token.Mark.TheVariants as marks
use Rattle.c_syntax.specs.declared.token.Token.{Token}
use Rattle.c_syntax.specs.declared.token.TokenKind.TheVariants as kind
use Rattle.c_syntax.specs.Forms.{Form, seq, ◌▷◌, mark, Written, head, a_token, place}
use Rattle.c_syntax.specs.Shape.{NodeShape, NodeShapes, no_nodes, more_nodes, InitShape, one, listed, InitShapes, no_inits, more_inits}
use Rattle.c_syntax.specs.Grammar.{led_inits_form, inits_form, comma_form}
use Rattle.c_syntax.specs.Levels.{height, nodes_height, init_height, inits_height}
use Rattle.c_syntax.specs.Shaped.{level, Standing, in_members, in_params, may_be_open, ShapedInit, ShapedInits}
use Rattle.c_grammar.specs.Look.{Got, got, then_go, either_way, where_true, after, expect}
use Rattle.c_grammar.specs.Starts.{sign, start, is_spec, spec_head}
use Rattle.c_grammar.specs.Reader.{init_got, init_onto, init_more, listed_end, void_ahead, declarator_name, unless_closed, unless_last, further, reads, climbs, reads_led, reads_lengths, reads_specs, reads_enumers, reads_decls, reads_declarators, reads_declarator, reads_params, reads_init, reads_inits, reads_some, reads_type, below, lists, reads_param, reads_parameters, behinds, reads_decl}
use Rattle.c_grammar.specs.ExprReader.{onto, one_more, front, reads_stars}
use Rattle.c_grammar.proofs.Looking.{got_eq, not_got, went, passed, after_is, expect_is, closed_by}
use Rattle.c_grammar.proofs.ExprSound.{Fits, NodeFits, LedFits, TypeFits, FrontFits, moved, BelowFits, front_sound, next_sound}
use Rattle.c_grammar.proofs.DeclSound.{BehindFits, declarator_sound, declarators_sound, decl_sound, decls_sound, param_sound, params_sound, parameters_sound}
use Rattle.c_grammar.proofs.TypeSound.{LengthsFits, SpecsSay, EnumersFits, DeclsFits, DeclFits, DeclaratorsFits, DeclaratorFits, ParamsFits, ParamFits, ParametersFits, InitFits, InitsFits, SomeFits, Sound, lengths_sound, stars_sound, type_name_sound, ListsFit, enumers_sound, specs_sound, some_sound}

-- INITIALISERS

further_at : (ts : List Token) (o : Option (List Token)) (r : List Token) → after marks.Comma ts ≡ o → unless_last o ≡ Some r → head ts ≡ a_token (kind.Mark marks.Comma) r
further_at ts None r b e = absurd (let q : None ≡ Some r = e in cc)
further_at ts (Some y) r b e = cut (after marks.RightBrace y) e
  where
    cut : (c : Option (List Token)) → unless_closed y c ≡ Some r → head ts ≡ a_token (kind.Mark marks.Comma) r
    cut None q = after_is marks.Comma ts r (b ∙ q)
    cut (Some z) q = absurd (let q' : None ≡ Some r = q in cc)

further_is : (ts r : List Token) → further ts ≡ Some r → head ts ≡ a_token (kind.Mark marks.Comma) r
further_is ts r e = further_at ts (after marks.Comma ts) r refl e

-- behind the items of a list in braces
listed_sound : (p : Pos) (is' : InitShapes) (ts : List Token) (o : Option (List Token)) (t : InitShape) (rest : List Token) → after marks.Comma ts ≡ o → either_way o (expect marks.RightBrace (listed p is' true)) (expect marks.RightBrace (listed p is' false) ts) ≡ got t rest → (last : Bool) × (listed p is' last ≡ t) × Written (comma_form last ▷ mark marks.RightBrace) ts rest
listed_sound p is' ts None t rest b e =
    let c = expect_is marks.RightBrace (listed p is' false) t ts rest e in
    (false, c.0, record { middle = ts; first = refl; second = c.1 })
listed_sound p is' ts (Some r) t rest b e =
    let c = expect_is marks.RightBrace (listed p is' true) t r rest e in
    (true, c.0, record { middle = r; first = after_is marks.Comma ts r b; second = c.1 })

init_sound : (d : ℕ) (single : List Token → Got InitShape) (more : List Token → Got InitShapes) (e : List Token → Got NodeShape) → Sound single (InitFits (suc d)) → Sound more (InitsFits (suc d)) → Sound e (NodeFits 1 (suc d)) → (ts : List Token) (o : Option (List Token)) (t : InitShape) (rest : List Token) → after marks.LeftBrace ts ≡ o → either_way o (λ r. then_go (then_go (single r) (init_more more)) (listed_end (place ts))) (then_go (e ts) init_got) ≡ got t rest → InitFits d ts t rest
init_sound d single more e f on n ts None t rest b q =
    let v = went (e ts) init_got t rest q in
    let a = n ts v.0 v.1 v.2 in
    let low : height v.0 + suc d ≤ 400 = a.low in
    moved (InitFits d ts) (one v.0) t v.1 rest v.3 (record { written = a.written; shaped = a.shaped; low = omega (arith, low) })
init_sound d single more e f on n ts (Some r) t rest b q =
    let v = went (then_go (single r) (init_more more)) (listed_end (place ts)) t rest q in
    let w = went (single r) (init_more more) v.0 v.1 v.2 in
    let x = went (more w.1) (init_onto w.0) v.0 v.1 w.3 in
    let a = f r w.0 w.1 w.2 in
    let l = on w.1 x.0 x.1 x.2 in
    let g = got_eq (more_inits w.0 x.0) v.0 x.1 v.1 x.3 in
    let c = listed_sound (place ts) v.0 v.1 (after marks.Comma v.1) t rest refl v.3 in
    let low : init_height w.0 + suc d ≤ 400 = a.low in
    let lows : inits_height x.0 + suc d ≤ 400 = l.low in
    subst (λ t. InitFits d ts t rest) (ap (λ (z : InitShapes). listed (place ts) z c.0) g.0 ∙ c.1) (record {
      written = record { middle = r; first = (refl, after_is marks.LeftBrace ts r b); second = record { middle = x.1; first = record { middle = w.1; first = a.written; second = l.written }; second = subst (λ z. Written (comma_form c.0 ▷ mark marks.RightBrace) z rest) (sym g.1) c.2 } };
      shaped = (a.shaped, l.shaped);
      low = omega (arith, low, lows);
    })

inits_sound : (d : ℕ) (single : List Token → Got InitShape) (more : List Token → Got InitShapes) → Sound single (InitFits d) → Sound more (InitsFits d) → d ≤ 400 → (ts : List Token) (o : Option (List Token)) (t : InitShapes) (rest : List Token) → further ts ≡ o → either_way o (λ r. then_go (single r) (init_more more)) (got no_inits ts) ≡ got t rest → InitsFits d ts t rest
inits_sound d single more f on deep ts None t rest b q = moved (InitsFits d ts) no_inits t ts rest q (record { written = refl; shaped = tt; low = omega (arith, deep) })
inits_sound d single more f on deep ts (Some r) t rest b q =
    let v = went (single r) (init_more more) t rest q in
    let a = f r v.0 v.1 v.2 in
    let w = went (more v.1) (init_onto v.0) t rest v.3 in
    let l = on v.1 w.0 w.1 w.2 in
    let low : init_height v.0 + d ≤ 400 = a.low in
    let lows : inits_height w.0 + d ≤ 400 = l.low in
    moved (InitsFits d ts) (more_inits v.0 w.0) t w.1 rest w.3 (record {
      written = record { middle = r; first = further_is ts r b; second = record { middle = v.1; first = a.written; second = l.written } };
      shaped = (a.shaped, l.shaped);
      low = omega (arith, low, lows);
    })

-- EXPRESSIONS WITH A COMMA IN FRONT OF EACH

led_sound : (n d : ℕ) (e : List Token → Got NodeShape) (more : List Token → Got NodeShapes) → Sound e (NodeFits n d) → Sound more (LedFits n d) → d ≤ 400 → (ts : List Token) (o : Option (List Token)) (t : NodeShapes) (rest : List Token) → after marks.Comma ts ≡ o → either_way o (λ r. then_go (e r) (one_more more)) (got no_nodes ts) ≡ got t rest → LedFits n d ts t rest
led_sound n d e more f on deep ts None t rest b q = moved (LedFits n d ts) no_nodes t ts rest q (record { written = refl; shaped = tt; low = omega (arith, deep) })
led_sound n d e more f on deep ts (Some r) t rest b q =
    let v = went (e r) (one_more more) t rest q in
    let a = f r v.0 v.1 v.2 in
    let w = went (more v.1) (onto v.0) t rest v.3 in
    let l = on v.1 w.0 w.1 w.2 in
    let low : height v.0 + d ≤ 400 = a.low in
    let lows : nodes_height w.0 + d ≤ 400 = l.low in
    moved (LedFits n d ts) (more_nodes v.0 w.0) t w.1 rest w.3 (record {
      written = record { middle = r; first = after_is marks.Comma ts r b; second = record { middle = v.1; first = a.written; second = l.written } };
      shaped = (a.shaped.0, a.shaped.1, l.shaped);
      low = omega (arith, low, lows);
    })

-- ALL READERS AT ONCE

pub record Good (k : ℕ) : Type 0 where
  pub node : (n d g : ℕ) → Sound (reads n d g k) (NodeFits n d)
  pub climb : (n d g : ℕ) (ts : List Token) (a : NodeShape) (x : List Token) (t : NodeShape) (rest : List Token) → d < 400 → NodeFits n d ts a x → climbs n d g a k x ≡ got t rest → NodeFits n d ts t rest
  pub led : (n d g : ℕ) → d ≤ 400 → Sound (reads_led n d g k) (LedFits n d)
  pub lengths : (free : Bool) (d g : ℕ) → d ≤ 400 → Sound (reads_lengths free d g k) (LengthsFits free d)
  pub specs : (d g : ℕ) → d ≤ 400 → Sound (reads_specs d g k) (SpecsSay d)
  pub enumers : (d g : ℕ) → d ≤ 400 → Sound (reads_enumers d g k) (EnumersFits d)
  pub decls : (s : Standing) (d g : ℕ) → d ≤ 400 → Sound (reads_decls s d g k) (DeclsFits s d)
  pub declarators : (s : Standing) (d g : ℕ) → d ≤ 400 → Sound (reads_declarators s d g k) (DeclaratorsFits s d)
  pub declarator : (s : Standing) (d g : ℕ) → Sound (reads_declarator s d g k) (DeclaratorFits s d)
  pub params : (d g : ℕ) → d ≤ 400 → Sound (reads_params d g k) (ParamsFits d)
  pub init : (d g : ℕ) → Sound (reads_init d g k) (InitFits d)
  pub inits : (d g : ℕ) → d ≤ 400 → Sound (reads_inits d g k) (InitsFits d)

some_good : (k d g : ℕ) → Good k → d ≤ 400 → Sound (reads_some d g k) (SomeFits d)
some_good k d g ih deep = some_sound (λ l. reads_specs d g k l) d (ih.specs d g deep)

type_good : (k d g : ℕ) → Good k → d ≤ 400 → Sound (reads_type d g k) (TypeFits d)
type_good k d g ih deep = type_name_sound (λ l. reads_some d g k l) (reads_stars d k) (λ c l. reads_lengths false (c + d) g k l) d (some_good k d g ih deep) (stars_sound k d deep) (λ c h. ih.lengths false (c + d) g h)

below_good : (k d g : ℕ) → Good k → d < 400 → BelowFits (below d g k) d
below_good k d g ih deep = record {
  operand = λ n ts t rest e. ih.node n (suc d) g ts t rest e;
  inner = λ n ts t rest e. ih.node n d (suc g) ts t rest e;
  listed = λ ts t rest e. ih.led 1 (suc d) g deep ts t rest e;
  cases = λ ts t rest e. ih.led 2 d (suc g) (omega (arith, deep)) ts t rest e;
  type = λ ts t rest e. type_good k (suc d) g ih deep ts t rest e;
}

lists_good : (k d g : ℕ) → Good k → d ≤ 400 → ListsFit (lists d g k) d
lists_good k d g ih deep = record {
  fields = λ h ts t rest e. ih.decls in_members (suc d) g h ts t rest e;
  value = λ ts t rest e. ih.node 2 d g ts t rest e;
  constants = λ ts t rest e. ih.enumers d g deep ts t rest e;
}

param_good : (k d g : ℕ) → Good k → d ≤ 400 → Sound (reads_param d g k) (ParamFits d)
param_good k d g ih deep = param_sound d (λ l. reads_some d g k l) (λ l. reads_declarator in_params d g k l) (some_good k d g ih deep) (ih.declarator in_params d g)

parameters_good : (k d g : ℕ) → Good k → d ≤ 400 → Sound (reads_parameters d g k) (ParametersFits d)
parameters_good k d g ih deep ts t rest e =
    parameters_sound d (λ l. reads_param d g k l) (λ l. reads_params d g k l) (param_good k d g ih deep) (ih.params d g deep) deep ts (after marks.RightParen ts) (void_ahead ts) t rest refl refl e

behind_good : (k : ℕ) (s : Standing) (d g : ℕ) → Good k → d < 400 → BehindFits s (behinds s d g k) d
behind_good k s d g ih deep = record {
  lengths = λ c h ts t rest e. ih.lengths (may_be_open s) (c + suc d) g h ts t rest e;
  parameters = λ ts t rest e. parameters_good k (suc d) g ih deep ts t rest e;
  initialiser = λ ts t rest e. ih.init (suc d) g ts t rest e;
}

node_step : (k n d g : ℕ) → Good k → Sound (reads n d g (suc k)) (NodeFits n d)
node_step k n d g ih ts t rest e =
    let p = passed (nat_lt d 400) (then_go (front (below d g k) g ts (start ts)) (λ a r. where_true (nat_le n (level a)) (climbs n d g a k r))) t rest e in
    let deep : d < 400 = ltb-true d 400 p.0 in
    let v = went (front (below d g k) g ts (start ts)) (λ a r. where_true (nat_le n (level a)) (climbs n d g a k r)) t rest p.1 in
    let f = front_sound (below d g k) d g (below_good k d g ih deep) deep ts (start ts) v.0 v.1 refl v.2 in
    let q = passed (nat_le n (level v.0)) (climbs n d g v.0 k v.1) t rest v.3 in
    ih.climb n d g ts v.0 v.1 t rest deep (record { written = f.written; shaped = (leb-true n (level v.0) q.0, f.shaped); low = f.low }) q.1

climb_step : (k n d g : ℕ) → Good k → (ts : List Token) (a : NodeShape) (x : List Token) (t : NodeShape) (rest : List Token) → d < 400 → NodeFits n d ts a x → climbs n d g a (suc k) x ≡ got t rest → NodeFits n d ts t rest
climb_step k n d g ih ts a x t rest deep f e =
    next_sound (below d g k) (λ b r. climbs n d g b k r) n d ts (below_good k d g ih deep) (λ b y u z fit q. ih.climb n d g ts b y u z deep fit q) a x (sign x) t rest f refl e

declarator_step : (k : ℕ) (s : Standing) (d g : ℕ) → Good k → Sound (reads_declarator s d g (suc k)) (DeclaratorFits s d)
declarator_step k s d g ih ts t rest e =
    let p = passed (nat_lt d 400) (then_go (reads_stars (suc d) k ts) (declarator_name s (behinds s d g k))) t rest e in
    let deep : d < 400 = ltb-true d 400 p.0 in
    declarator_sound s (behinds s d g k) (reads_stars (suc d) k) d (behind_good k s d g ih deep) (stars_sound k (suc d) deep) deep ts t rest p.1

init_step : (k d g : ℕ) → Good k → Sound (reads_init d g (suc k)) (InitFits d)
init_step k d g ih ts t rest e =
    let p = passed (nat_lt d 400) (either_way (after marks.LeftBrace ts) (λ r. then_go (then_go (reads_init (suc d) g k r) (init_more (λ l. reads_inits (suc d) g k l))) (listed_end (place ts))) (then_go (reads 1 (suc d) g k ts) init_got)) t rest e in
    let deep : d < 400 = ltb-true d 400 p.0 in
    init_sound d (λ l. reads_init (suc d) g k l) (λ l. reads_inits (suc d) g k l) (λ l. reads 1 (suc d) g k l) (ih.init (suc d) g) (ih.inits (suc d) g deep) (ih.node 1 (suc d) g) ts (after marks.LeftBrace ts) t rest refl p.1

pub good : (k : ℕ) → Good k
good zero = record {
  node = λ n d g ts t rest e. not_got t rest e;
  climb = λ n d g ts a x t rest deep f e. not_got t rest e;
  led = λ n d g deep ts t rest e. not_got t rest e;
  lengths = λ free d g deep ts t rest e. not_got t rest e;
  specs = λ d g deep ts t rest e. not_got t rest e;
  enumers = λ d g deep ts t rest e. not_got t rest e;
  decls = λ s d g deep ts t rest e. not_got t rest e;
  declarators = λ s d g deep ts t rest e. not_got t rest e;
  declarator = λ s d g ts t rest e. not_got t rest e;
  params = λ d g deep ts t rest e. not_got t rest e;
  init = λ d g ts t rest e. not_got t rest e;
  inits = λ d g deep ts t rest e. not_got t rest e;
}
good (suc k) =
    let ih = good k in
    record {
      node = λ n d g. node_step k n d g ih;
      climb = λ n d g. climb_step k n d g ih;
      led = λ n d g deep ts t rest e. led_sound n d (λ l. reads n d g k l) (λ l. reads_led n d g k l) (ih.node n d g) (ih.led n d g deep) deep ts (after marks.Comma ts) t rest refl e;
      lengths = λ free d g deep ts t rest e. lengths_sound free (λ l. reads 2 (suc d) g k l) (λ l. reads_lengths free (suc d) g k l) d (ih.node 2 (suc d) g) (ih.lengths free (suc d) g) deep ts (after marks.LeftBracket ts) t rest refl e;
      specs = λ d g deep ts t rest e. specs_sound (lists d g k) (λ l. reads_specs d g k l) d (lists_good k d g ih deep) (λ l u z q. (ih.specs d g deep l u z q).0) deep ts (spec_head ts) t rest refl e;
      enumers = λ d g deep ts t rest e. enumers_sound (λ l. reads 2 d g k l) (λ l. reads_enumers d g k l) d (ih.node 2 d g) (ih.enumers d g deep) deep ts (after marks.Comma ts) t rest refl e;
      decls = λ s d g deep ts t rest e. decls_sound s d (reads_decl s d g k) (λ l. reads_decls s d g k l) deep ts (is_spec (spec_head ts)) (λ b u z q. decl_sound s d (λ l. reads_specs d g k l) (λ l. reads_declarator s d g k l) (λ l. reads_declarators s d g k l) (ih.specs d g deep) (ih.declarator s d g) (ih.declarators s d g deep) ts b u z q) (ih.decls s d g deep) t rest e;
      declarators = λ s d g deep ts t rest e. declarators_sound s d (λ l. reads_declarator s d g k l) (λ l. reads_declarators s d g k l) (ih.declarator s d g) (ih.declarators s d g deep) deep ts (after marks.Comma ts) t rest refl e;
      declarator = λ s d g. declarator_step k s d g ih;
      params = λ d g deep ts t rest e. params_sound d (λ l. reads_param d g k l) (λ l. reads_params d g k l) (param_good k d g ih deep) (ih.params d g deep) deep ts (after marks.Comma ts) t rest refl e;
      init = λ d g. init_step k d g ih;
      inits = λ d g deep ts t rest e. inits_sound d (λ l. reads_init d g k l) (λ l. reads_inits d g k l) (ih.init d g) (ih.inits d g deep) deep ts (further ts) t rest refl e;
    }
