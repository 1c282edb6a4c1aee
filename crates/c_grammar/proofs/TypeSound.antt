-- What the reader of type names, names and specifiers finds is written by the tokens, and is allowed.
use Rattle.std.proofs.Common.{◌≡◌, ℕ, zero, suc, ◌+◌, ◌≤◌, ◌<◌, List, [], ◌∷◌, length, Option, Some, None, Bool, true, false, refl, sym, ap, ◌∙◌, subst, arith}
use Rattle.std.proofs.lemmas.Bool.{ltb-true}
use Rattle.std.specs.Prelude.{nat_lt, ◌||◌, ◌≢◌}
use Rattle.c_syntax.specs.declared.text.Text.{Text}
use Rattle.c_syntax.specs.declared.token.Mark.TheVariants as marks
use Rattle.c_syntax.specs.declared.token.Key.{Key}
use Rattle.c_syntax.specs.declared.token.Key.TheVariants as keys
use Rattle.c_syntax.specs.declared.token.ProbeWord.TheVariants as words
use Rattle.c_syntax.specs.declared.token.Token.{Token}
use Rattle.c_syntax.specs.declared.token.TokenKind.TheVariants as kind
use Rattle.c_syntax.specs.declared.tree.Star.{Star}
use Rattle.c_syntax.specs.declared.tree.Named.{Named}
use Rattle.c_syntax.specs.Forms.{Written, head, a_token, place}
use Rattle.c_syntax.specs.Shape.{NodeShape, MaybeNode, no_node, one_node, LengthShapes, no_lengths, more_lengths, TypeShape, type_name, SpecShapes, no_specs, more_specs, SpecShape, word, struct, enum, no_members, members, no_rows, rows, EnumerShapes, no_enumers, more_enumers, DeclShape, DeclShapes, no_decls, more_decls, DeclaratorShape, DeclaratorShapes, ParamsShape, InitShape, InitShapes}
use Rattle.c_syntax.specs.Forms.{◌▷◌, mark}
use Rattle.c_syntax.specs.Grammar.{maybe_node_form, lengths_form, specs_form, spec_form, enumers_form, led_enumers_form, value_form, decls_form, decl_form, led_declarators_form, declarator_form, params_form, led_params_form, param_form, init_form, led_inits_form, stars_form, consts_form, named_form, maybe_named_form}
use Rattle.c_syntax.specs.Levels.{height, maybe_height, lengths_height, specs_height, spec_height, enumers_height, decls_height, decl_height, declarators_height, declarator_height, params_height, init_height, inits_height}
use Rattle.c_syntax.specs.Shaped.{Standing, in_members, unprobed, is_there, ShapedMaybe, ShapedRows, ShapedMembers, ShapedLengths, SomeSpecs, AllSpecs, ShapedSpec, ShapedEnumers, ShapedDecls, ShapedDecl, ShapedDeclarators, ShapedDeclarator, ShapedParams, ShapedParamList, ShapedParam, ShapedInit, ShapedInits}
use Rattle.c_grammar.specs.Look.{Got, got, then_go, either_way, where_true, after, after_key, after_probe, expect, a_word}
use Rattle.c_grammar.specs.Starts.{SpecHead, a_spec_word, a_struct, an_enum, no_spec, spec_of_head, spec_head, is_spec}
use Rattle.c_grammar.specs.ExprReader.{one_got, length_onto, length_more, length_from, const_more, reads_consts, star_onto, star_more, reads_stars, type_made, type_lengths, type_stars, type_from, plain_name, tag_from, tag, probed_name, named_in, named_word, named_number, maybe_named, numbered, Lists, struct_made, struct_list, struct_tag, enum_made, enumer_onto, enumer_more, value_from, enumer_value, enumer_from, enum_list, enum_tag, spec_onto, spec_more, spec_list, some_from}
use Rattle.c_grammar.proofs.Looking.{got_eq, not_got, went, opened, passed, apart, after_is, after_key_is, after_probe_is, expect_is, closed_by, word_is}
use Rattle.c_grammar.proofs.Starting.{spec_is}
use Rattle.c_grammar.proofs.ExprSound.{Fits, NodeFits, TypeFits, moved, numbered_is}

-- WHAT FITS

abbrev pub LengthsFits : Bool → ℕ → List Token → LengthShapes → List Token → Type 0
LengthsFits free d ts ls rest = Fits (lengths_form ls) (ShapedLengths free ls) (lengths_height ls) d ts rest

abbrev pub StarsFits : ℕ → List Token → List Star → List Token → Type 0
StarsFits d ts ss rest = Fits (stars_form ss) (Unit {0}) (length ss) d ts rest

abbrev pub SpecsFits : ℕ → List Token → SpecShapes → List Token → Type 0
SpecsFits d ts ss rest = Fits (specs_form ss) (AllSpecs ss) (specs_height ss) d ts rest

abbrev pub SomeFits : ℕ → List Token → SpecShapes → List Token → Type 0
SomeFits d ts ss rest = Fits (specs_form ss) (SomeSpecs ss) (specs_height ss) d ts rest

abbrev pub SpecFits : ℕ → List Token → SpecShape → List Token → Type 0
SpecFits d ts s rest = Fits (spec_form s) (ShapedSpec s) (spec_height s) d ts rest

abbrev pub EnumersFits : ℕ → List Token → EnumerShapes → List Token → Type 0
EnumersFits d ts es rest = Fits (led_enumers_form es) (ShapedEnumers es) (enumers_height es) d ts rest

abbrev pub DeclsFits : Standing → ℕ → List Token → DeclShapes → List Token → Type 0
DeclsFits s d ts ds rest = Fits (decls_form ds) (ShapedDecls s ds) (decls_height ds) d ts rest

abbrev pub DeclFits : Standing → ℕ → List Token → DeclShape → List Token → Type 0
DeclFits s d ts x rest = Fits (decl_form x) (ShapedDecl s x) (decl_height x) d ts rest

abbrev pub DeclaratorsFits : Standing → ℕ → List Token → DeclaratorShapes → List Token → Type 0
DeclaratorsFits s d ts ds rest = Fits (led_declarators_form ds) (ShapedDeclarators s ds) (declarators_height ds) d ts rest

abbrev pub DeclaratorFits : Standing → ℕ → List Token → DeclaratorShape → List Token → Type 0
DeclaratorFits s d ts x rest = Fits (declarator_form x) (ShapedDeclarator s x) (declarator_height x) d ts rest

abbrev pub ParamsFits : ℕ → List Token → DeclShapes → List Token → Type 0
ParamsFits d ts ds rest = Fits (led_params_form ds) (ShapedParamList ds) (decls_height ds) d ts rest

abbrev pub ParamFits : ℕ → List Token → DeclShape → List Token → Type 0
ParamFits d ts x rest = Fits (param_form x) (ShapedParam x) (decl_height x) d ts rest

-- parameters and the closing parenthesis
abbrev pub ParametersFits : ℕ → List Token → ParamsShape → List Token → Type 0
ParametersFits d ts ps rest = Fits (params_form ps ▷ mark marks.RightParen) (ShapedParams ps) (params_height ps) d ts rest

abbrev pub InitFits : ℕ → List Token → InitShape → List Token → Type 0
InitFits d ts i rest = Fits (init_form i) (ShapedInit i) (init_height i) d ts rest

abbrev pub InitsFits : ℕ → List Token → InitShapes → List Token → Type 0
InitsFits d ts is' rest = Fits (led_inits_form is') (ShapedInits is') (inits_height is') d ts rest

-- a reader finds only what fits
abbrev pub Sound : {A : Type 0} → (List Token → Got A) → (List Token → A → List Token → Type 0) → Type 0
Sound {A} f P = (ts : List Token) (a : A) (rest : List Token) → f ts ≡ got a rest → P ts a rest

-- LENGTHS

length_sound : (free : Bool) (e : List Token → Got NodeShape) (d : ℕ) → Sound e (NodeFits 2 d) → (ts : List Token) (o : Option (List Token)) (l : MaybeNode) (rest : List Token) → after marks.RightBracket ts ≡ o → either_way o (λ r. where_true free (got no_node r)) (then_go (then_go (e ts) one_got) (expect marks.RightBracket)) ≡ got l rest → d ≤ 400 → Fits (maybe_node_form l ▷ mark marks.RightBracket) ((more : LengthShapes) → ShapedLengths free more → ShapedLengths free (more_lengths l more)) (maybe_height l) d ts rest
length_sound free e d ih ts (Some r) l rest b q deep =
    let p = passed free (got no_node r) l rest q in
    moved (λ l z. Fits (maybe_node_form l ▷ mark marks.RightBracket) ((more : LengthShapes) → ShapedLengths free more → ShapedLengths free (more_lengths l more)) (maybe_height l) d ts z) no_node l r rest p.1 (record {
      written = record { middle = ts; first = refl; second = after_is marks.RightBracket ts r b };
      shaped = λ more h. (p.0, h);
      low = omega (arith, deep);
    })
length_sound free e d ih ts None l rest b q deep =
    let c = closed_by marks.RightBracket (then_go (e ts) one_got) l rest q in
    let v = went (e ts) one_got l c.0 c.1 in
    let f = ih ts v.0 v.1 v.2 in
    let low : height v.0 + d ≤ 400 = f.low in
    let m = got_eq (one_node v.0) l v.1 c.0 v.3 in
    subst (λ l. Fits (maybe_node_form l ▷ mark marks.RightBracket) ((more : LengthShapes) → ShapedLengths free more → ShapedLengths free (more_lengths l more)) (maybe_height l) d ts rest) m.0 (record {
      written = record { middle = v.1; first = f.written; second = subst (λ z. head z ≡ a_token (kind.Mark marks.RightBracket) rest) (sym m.1) c.2 };
      shaped = λ more h. (f.shaped.0, f.shaped.1, h);
      low = low;
    })

pub lengths_sound : (free : Bool) (e : List Token → Got NodeShape) (more : List Token → Got LengthShapes) (d : ℕ) → Sound e (NodeFits 2 (suc d)) → (suc d ≤ 400 → Sound more (LengthsFits free (suc d))) → d ≤ 400 → (ts : List Token) (o : Option (List Token)) (ls : LengthShapes) (rest : List Token) → after marks.LeftBracket ts ≡ o → either_way o (λ r. where_true (nat_lt d 400) (then_go (length_from free e r) (length_more more))) (got no_lengths ts) ≡ got ls rest → LengthsFits free d ts ls rest
lengths_sound free e more d ih on deep ts None ls rest b q = moved (LengthsFits free d ts) no_lengths ls ts rest q (record { written = refl; shaped = tt; low = omega (arith, deep) })
lengths_sound free e more d ih on deep ts (Some r) ls rest b q =
    let p = passed (nat_lt d 400) (then_go (length_from free e r) (length_more more)) ls rest q in
    let under : d < 400 = ltb-true d 400 p.0 in
    let v = went (length_from free e r) (length_more more) ls rest p.1 in
    let f = length_sound free e (suc d) ih r (after marks.RightBracket r) v.0 v.1 refl v.2 under in
    let w = went (more v.1) (length_onto v.0) ls rest v.3 in
    let g = on under v.1 w.0 w.1 w.2 in
    let low : maybe_height v.0 + suc d ≤ 400 = f.low in
    let lows : lengths_height w.0 + suc d ≤ 400 = g.low in
    moved (LengthsFits free d ts) (more_lengths v.0 w.0) ls w.1 rest w.3 (record {
      written = record { middle = r; first = after_is marks.LeftBracket ts r b; second = record { middle = f.written.middle; first = f.written.first; second = record { middle = v.1; first = f.written.second; second = g.written } } };
      shaped = f.shaped w.0 g.shaped;
      low = omega (arith, low, lows);
    })

-- STARS

consts_at : (k : ℕ) → ((ts : List Token) (n : ℕ) (rest : List Token) → reads_consts k ts ≡ got n rest → Written (consts_form n) ts rest) → (ts : List Token) (o : Option (List Token)) (n : ℕ) (rest : List Token) → after_key keys.Const ts ≡ o → either_way o (λ r. then_go (reads_consts k r) const_more) (got 0 ts) ≡ got n rest → Written (consts_form n) ts rest
consts_at k ih ts None n rest b q = moved (λ n z. Written (consts_form n) ts z) 0 n ts rest q refl
consts_at k ih ts (Some r) n rest b q =
    let v = went (reads_consts k r) const_more n rest q in
    moved (λ n z. Written (consts_form n) ts z) (suc v.0) n v.1 rest v.3 (record { middle = r; first = after_key_is keys.Const ts r b; second = ih r v.0 v.1 v.2 })

consts_sound : (k : ℕ) (ts : List Token) (n : ℕ) (rest : List Token) → reads_consts k ts ≡ got n rest → Written (consts_form n) ts rest
consts_sound zero ts n rest e = not_got n rest e
consts_sound (suc k) ts n rest e = consts_at k (consts_sound k) ts (after_key keys.Const ts) n rest refl e

stars_at : (k d : ℕ) → d ≤ 400 → (suc d ≤ 400 → Sound (reads_stars (suc d) k) (StarsFits (suc d))) → (ts : List Token) (o : Option (List Token)) (ss : List Star) (rest : List Token) → after marks.Star ts ≡ o → either_way o (λ r. where_true (nat_lt d 400) (then_go (reads_consts k r) (star_more (λ l. reads_stars (suc d) k l) (place ts)))) (got [] ts) ≡ got ss rest → StarsFits d ts ss rest
stars_at k d deep ih ts None ss rest b q = moved (StarsFits d ts) [] ss ts rest q (record { written = refl; shaped = tt; low = omega (arith, deep) })
stars_at k d deep ih ts (Some r) ss rest b q =
    let p = passed (nat_lt d 400) (then_go (reads_consts k r) (star_more (λ l. reads_stars (suc d) k l) (place ts))) ss rest q in
    let v = went (reads_consts k r) (star_more (λ l. reads_stars (suc d) k l) (place ts)) ss rest p.1 in
    let w = went (reads_stars (suc d) k v.1) (star_onto (place ts) v.0) ss rest v.3 in
    let f = ih (ltb-true d 400 p.0) v.1 w.0 w.1 w.2 in
    let low : length w.0 + suc d ≤ 400 = f.low in
    moved (StarsFits d ts) (record { pos = place ts; consts = v.0 } ∷ w.0) ss w.1 rest w.3 (record {
      written = record { middle = r; first = (refl, after_is marks.Star ts r b); second = record { middle = v.1; first = consts_sound k r v.0 v.1 v.2; second = f.written } };
      shaped = tt;
      low = omega (arith, low);
    })

pub stars_sound : (k d : ℕ) → d ≤ 400 → Sound (reads_stars d k) (StarsFits d)
stars_sound zero d deep ts ss rest e = not_got ss rest e
stars_sound (suc k) d deep ts ss rest e = stars_at k d deep (λ h. stars_sound k (suc d) h) ts (after marks.Star ts) ss rest refl e

-- TYPE NAMES

pub type_name_sound : (specs : List Token → Got SpecShapes) (stars : List Token → Got (List Star)) (ls : ℕ → List Token → Got LengthShapes) (d : ℕ) → Sound specs (SomeFits d) → Sound stars (StarsFits d) → ((c : ℕ) → c + d ≤ 400 → Sound (ls c) (LengthsFits false (c + d))) → (ts : List Token) (t : TypeShape) (rest : List Token) → type_from specs stars ls ts ≡ got t rest → TypeFits d ts t rest
type_name_sound specs stars ls d single two three ts t rest e =
    let v = went (specs ts) (type_stars stars ls (place ts)) t rest e in
    let a = single ts v.0 v.1 v.2 in
    let w = went (stars v.1) (type_lengths ls (place ts) v.0) t rest v.3 in
    let b = two v.1 w.0 w.1 w.2 in
    let x = went (ls (length w.0) w.1) (type_made (place ts) v.0 w.0) t rest w.3 in
    let c = three (length w.0) b.low w.1 x.0 x.1 x.2 in
    let low : specs_height v.0 + d ≤ 400 = a.low in
    let last : lengths_height x.0 + (length w.0 + d) ≤ 400 = c.low in
    moved (TypeFits d ts) (type_name (place ts) v.0 w.0 x.0) t x.1 rest x.3 (record {
      written = (refl, record { middle = v.1; first = a.written; second = record { middle = w.1; first = b.written; second = c.written } });
      shaped = (a.shaped, c.shaped);
      low = omega (arith, low, last);
    })

-- NAMES

pub tag_sound : (ts : List Token) (n : Option Named) (rest : List Token) → tag ts ≡ got n rest → Written (maybe_named_form n) ts rest × (unprobed n ≡ true)
tag_sound ts n rest e = go (a_word ts) refl e
  where
    go : (o : Got Text) → a_word ts ≡ o → tag_from (place ts) ts o ≡ got n rest → Written (maybe_named_form n) ts rest × (unprobed n ≡ true)
    go None b q = moved (λ n z. Written (maybe_named_form n) ts z × (unprobed n ≡ true)) None n ts rest q (refl, refl)
    go (Some x) b q = moved (λ n z. Written (maybe_named_form n) ts z × (unprobed n ≡ true)) (Some (plain_name (place ts) x.0)) n x.1 rest q ((refl, word_is ts x.0 x.1 b), refl)

pub named_sound : (ts : List Token) (n : Option Named) (rest : List Token) → maybe_named ts ≡ got n rest → Written (maybe_named_form n) ts rest
named_sound ts n rest e = go (after_probe words.Def ts) refl e
  where
    go : (o : Option (List Token)) → after_probe words.Def ts ≡ o → either_way o (λ r. then_go (numbered r) (named_number (place ts))) (tag ts) ≡ got n rest → Written (maybe_named_form n) ts rest
    go None b q = (tag_sound ts n rest q).0
    go (Some r) b q =
        let v = went (numbered r) (named_number (place ts)) n rest q in
        let m = numbered_is r v.0 v.1 v.2 in
        let o = opened (after marks.Comma v.1) (named_word (place ts) v.0) n rest v.3 in
        let w = went (a_word o.0) (named_in (place ts) v.0 (place o.0)) n rest o.2 in
        let x = expect_is marks.RightParen (probed_name (place ts) v.0 (place o.0) w.0) n w.1 rest w.3 in
        subst (λ n. Written (maybe_named_form n) ts rest) x.0 (record {
          middle = r;
          first = (refl, after_probe_is words.Def ts r b);
          second = record { middle = m.0; first = m.1; second = record { middle = w.1; first = record { middle = v.1; first = m.2; second = record { middle = o.0; first = after_is marks.Comma v.1 o.0 o.1; second = (refl, word_is o.0 w.0 w.1 w.2) } }; second = x.1 } };
        })

-- SPECIFIERS

pub record ListsFit (L : Lists) (d : ℕ) : Type 0 where
  pub fields : d < 400 → Sound L.fields (DeclsFits in_members (suc d))
  pub value : Sound L.value (NodeFits 2 d)
  pub constants : Sound L.constants (EnumersFits d)

there_or : (n : Option Named) → (is_there n || true) ≡ true
there_or None = refl
there_or (Some n) = refl

there_alone : (n : Option Named) → is_there n ≡ true → (is_there n || false) ≡ true
there_alone (Some n) e = refl
there_alone None e = e

-- a list that begins with a specifier has a line
some_members : (ds : DeclShapes) (y m r : List Token) → ShapedDecls in_members ds → is_spec (spec_head y) ≡ true → Written (decls_form ds) y m → head m ≡ a_token (kind.Mark marks.RightBrace) r → ShapedMembers (members ds)
some_members no_decls y m r sh b w c = apart (sym b ∙ ap (λ l. is_spec (spec_head l)) w ∙ ap (λ h. is_spec (spec_of_head h)) c)
some_members (more_decls d rest) y m r sh b w c = sh

-- what stands behind `struct` and a tag
struct_sound : (L : Lists) (d : ℕ) → ListsFit L d → d ≤ 400 → (z x ts : List Token) (n : Option Named) (o : Option (List Token)) (s : SpecShape) (rest : List Token) → head z ≡ a_token (kind.Key keys.Struct) x → Written (maybe_named_form n) x ts → unprobed n ≡ true → after marks.LeftBrace ts ≡ o → either_way o (struct_list L d n) (where_true (is_there n) (got (struct n no_members) ts)) ≡ got s rest → SpecFits d z s rest
struct_sound L d ih deep z x ts n None s rest h w u b e =
    let p = passed (is_there n) (got (struct n no_members) ts) s rest e in
    moved (SpecFits d z) (struct n no_members) s ts rest p.1 (record {
      written = record { middle = x; first = h; second = record { middle = ts; first = w; second = refl } };
      shaped = (u, there_alone n p.0, tt);
      low = omega (arith, deep);
    })
struct_sound L d ih deep z x ts n (Some y) s rest h w u b e =
    let p = passed (nat_lt d 400) (where_true (is_spec (spec_head y)) (then_go (then_go (L.fields y) (expect marks.RightBrace)) (struct_made n))) s rest e in
    let q = passed (is_spec (spec_head y)) (then_go (then_go (L.fields y) (expect marks.RightBrace)) (struct_made n)) s rest p.1 in
    let v = went (then_go (L.fields y) (expect marks.RightBrace)) (struct_made n) s rest q.1 in
    let c = closed_by marks.RightBrace (L.fields y) v.0 v.1 v.2 in
    let f = ih.fields (ltb-true d 400 p.0) y v.0 c.0 c.1 in
    let low : decls_height v.0 + suc d ≤ 400 = f.low in
    moved (SpecFits d z) (struct n (members v.0)) s v.1 rest v.3 (record {
      written = record { middle = x; first = h; second = record { middle = ts; first = w; second = record { middle = y; first = after_is marks.LeftBrace ts y b; second = record { middle = c.0; first = f.written; second = c.2 } } } };
      shaped = (u, there_or n, some_members v.0 y c.0 v.1 f.shaped q.0 f.written c.2);
      low = omega (arith, low);
    })

value_sound : (e : List Token → Got NodeShape) (d : ℕ) → Sound e (NodeFits 2 d) → d ≤ 400 → (ts : List Token) (o : Option (List Token)) (v : MaybeNode) (rest : List Token) → after marks.Equal ts ≡ o → either_way o (λ r. then_go (e r) one_got) (got no_node ts) ≡ got v rest → Fits (value_form v) (ShapedMaybe 2 v) (maybe_height v) d ts rest
value_sound e d ih deep ts None v rest b q = moved (λ v z. Fits (value_form v) (ShapedMaybe 2 v) (maybe_height v) d ts z) no_node v ts rest q (record { written = refl; shaped = tt; low = omega (arith, deep) })
value_sound e d ih deep ts (Some r) v rest b q =
    let w = went (e r) one_got v rest q in
    let f = ih r w.0 w.1 w.2 in
    moved (λ v z. Fits (value_form v) (ShapedMaybe 2 v) (maybe_height v) d ts z) (one_node w.0) v w.1 rest w.3 (record {
      written = record { middle = r; first = after_is marks.Equal ts r b; second = f.written };
      shaped = f.shaped;
      low = f.low;
    })

-- an enumerator and those that follow it
record EnumerFits (d : ℕ) (ts : List Token) (es : EnumerShapes) (rest : List Token) : Type 0 where
  written : Written (enumers_form es) ts rest
  shaped : ShapedRows (rows es)
  all : ShapedEnumers es
  low : enumers_height es + d ≤ 400
  led : (z : List Token) → head z ≡ a_token (kind.Mark marks.Comma) ts → Written (led_enumers_form es) z rest

enumer_sound : (e : List Token → Got NodeShape) (more : List Token → Got EnumerShapes) (d : ℕ) → Sound e (NodeFits 2 d) → Sound more (EnumersFits d) → d ≤ 400 → Sound (enumer_from e more) (EnumerFits d)
enumer_sound e more d ih on deep ts es rest q =
    let v = went (a_word ts) (enumer_value e more (place ts)) es rest q in
    let w = went (value_from e v.1) (enumer_more more (plain_name (place ts) v.0)) es rest v.3 in
    let f = value_sound e d ih deep v.1 (after marks.Equal v.1) w.0 w.1 refl w.2 in
    let x = went (more w.1) (enumer_onto (plain_name (place ts) v.0) w.0) es rest w.3 in
    let l = on w.1 x.0 x.1 x.2 in
    let low : maybe_height w.0 + d ≤ 400 = f.low in
    let lows : enumers_height x.0 + d ≤ 400 = l.low in
    let name : Written (named_form (plain_name (place ts) v.0)) ts v.1 = (refl, word_is ts v.0 v.1 v.2) in
    moved (EnumerFits d ts) (more_enumers (plain_name (place ts) v.0) w.0 x.0) es x.1 rest x.3 (record {
      written = record { middle = v.1; first = name; second = record { middle = w.1; first = f.written; second = l.written } };
      shaped = (refl, f.shaped, l.shaped);
      all = (refl, f.shaped, l.shaped);
      low = omega (arith, low, lows);
      led = λ z h. record { middle = ts; first = h; second = record { middle = v.1; first = name; second = record { middle = w.1; first = f.written; second = l.written } } };
    })

pub enumers_sound : (e : List Token → Got NodeShape) (more : List Token → Got EnumerShapes) (d : ℕ) → Sound e (NodeFits 2 d) → Sound more (EnumersFits d) → d ≤ 400 → (ts : List Token) (o : Option (List Token)) (es : EnumerShapes) (rest : List Token) → after marks.Comma ts ≡ o → either_way o (enumer_from e more) (got no_enumers ts) ≡ got es rest → EnumersFits d ts es rest
enumers_sound e more d ih on deep ts None es rest b q = moved (EnumersFits d ts) no_enumers es ts rest q (record { written = refl; shaped = tt; low = omega (arith, deep) })
enumers_sound e more d ih on deep ts (Some r) es rest b q =
    let f = enumer_sound e more d ih on deep r es rest q in
    record { written = f.led ts (after_is marks.Comma ts r b); shaped = f.all; low = f.low }

enum_sound : (L : Lists) (d : ℕ) → ListsFit L d → d ≤ 400 → (z x ts : List Token) (n : Option Named) (o : Option (List Token)) (s : SpecShape) (rest : List Token) → head z ≡ a_token (kind.Key keys.Enum) x → Written (maybe_named_form n) x ts → unprobed n ≡ true → after marks.LeftBrace ts ≡ o → either_way o (enum_list L n) (where_true (is_there n) (got (enum n no_rows) ts)) ≡ got s rest → SpecFits d z s rest
enum_sound L d ih deep z x ts n None s rest h w u b e =
    let p = passed (is_there n) (got (enum n no_rows) ts) s rest e in
    moved (SpecFits d z) (enum n no_rows) s ts rest p.1 (record {
      written = record { middle = x; first = h; second = record { middle = ts; first = w; second = refl } };
      shaped = (u, there_alone n p.0, tt);
      low = omega (arith, deep);
    })
enum_sound L d ih deep z x ts n (Some y) s rest h w u b e =
    let v = went (then_go (enumer_from L.value L.constants y) (expect marks.RightBrace)) (enum_made n) s rest e in
    let c = closed_by marks.RightBrace (enumer_from L.value L.constants y) v.0 v.1 v.2 in
    let f = enumer_sound L.value L.constants d ih.value ih.constants deep y v.0 c.0 c.1 in
    let low : enumers_height v.0 + d ≤ 400 = f.low in
    moved (SpecFits d z) (enum n (rows v.0)) s v.1 rest v.3 (record {
      written = record { middle = x; first = h; second = record { middle = ts; first = w; second = record { middle = y; first = after_is marks.LeftBrace ts y b; second = record { middle = c.0; first = f.written; second = c.2 } } } };
      shaped = (u, there_or n, f.shaped);
      low = omega (arith, low);
    })

-- a specifier, and those behind it
spec_then : (more : List Token → Got SpecShapes) (d : ℕ) → Sound more (SpecsFits d) → (ts : List Token) (s : SpecShape) (x : List Token) (ss : SpecShapes) (rest : List Token) → SpecFits d ts s x → spec_more more (place ts) s x ≡ got ss rest → SpecsFits d ts ss rest × (spec_head ts ≢ no_spec → SomeSpecs ss)
spec_then more d on ts s x ss rest f e =
    let w = went (more x) (spec_onto (place ts) s) ss rest e in
    let l = on x w.0 w.1 w.2 in
    let low : spec_height s + d ≤ 400 = f.low in
    let lows : specs_height w.0 + d ≤ 400 = l.low in
    moved (λ ss z. SpecsFits d ts ss z × (spec_head ts ≢ no_spec → SomeSpecs ss)) (more_specs (place ts) s w.0) ss w.1 rest w.3 (
      record {
        written = record { middle = x; first = (refl, f.written); second = l.written };
        shaped = (f.shaped, l.shaped);
        low = omega (arith, low, lows);
      },
      λ n. (f.shaped, l.shaped),
    )

pub specs_sound : (L : Lists) (more : List Token → Got SpecShapes) (d : ℕ) → ListsFit L d → Sound more (SpecsFits d) → d ≤ 400 → (ts : List Token) (h : SpecHead) (ss : SpecShapes) (rest : List Token) → spec_head ts ≡ h → spec_list L d more ts h ≡ got ss rest → SpecsFits d ts ss rest × (spec_head ts ≢ no_spec → SomeSpecs ss)
specs_sound L more d ih on deep ts no_spec ss rest b e =
    (moved (SpecsFits d ts) no_specs ss ts rest e (record { written = refl; shaped = tt; low = omega (arith, deep) }), λ n. absurd (n b))
specs_sound L more d ih on deep ts (a_spec_word x r) ss rest b e =
    let i = spec_is ts (a_spec_word x r) b in
    spec_then more d on ts (word x) r ss rest (record { written = i.0; shaped = i.1; low = omega (arith, deep) }) e
specs_sound L more d ih on deep ts (a_struct r) ss rest b e =
    let v = went (then_go (tag r) (struct_tag L d)) (spec_more more (place ts)) ss rest e in
    let w = went (tag r) (struct_tag L d) v.0 v.1 v.2 in
    let n = tag_sound r w.0 w.1 w.2 in
    spec_then more d on ts v.0 v.1 ss rest (struct_sound L d ih deep ts r w.1 w.0 (after marks.LeftBrace w.1) v.0 v.1 (spec_is ts (a_struct r) b) n.0 n.1 refl w.3) v.3
specs_sound L more d ih on deep ts (an_enum r) ss rest b e =
    let v = went (then_go (tag r) (enum_tag L)) (spec_more more (place ts)) ss rest e in
    let w = went (tag r) (enum_tag L) v.0 v.1 v.2 in
    let n = tag_sound r w.0 w.1 w.2 in
    spec_then more d on ts v.0 v.1 ss rest (enum_sound L d ih deep ts r w.1 w.0 (after marks.LeftBrace w.1) v.0 v.1 (spec_is ts (an_enum r) b) n.0 n.1 refl w.3) v.3

-- the reader of specifiers, with what it says where single stands in front
abbrev pub SpecsSay : ℕ → List Token → SpecShapes → List Token → Type 0
SpecsSay d ts ss rest = SpecsFits d ts ss rest × (spec_head ts ≢ no_spec → SomeSpecs ss)

pub some_sound : (specs : List Token → Got SpecShapes) (d : ℕ) → Sound specs (SpecsSay d) → Sound (some_from specs) (SomeFits d)
some_sound specs d ih ts ss rest e =
    let p = passed (is_spec (spec_head ts)) (specs ts) ss rest e in
    let f = ih ts ss rest p.1 in
    record { written = f.0.written; shaped = f.1 (λ n. apart (sym p.0 ∙ ap is_spec n)); low = f.0.low }
