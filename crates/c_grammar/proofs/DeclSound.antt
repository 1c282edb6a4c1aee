-- What the reader of declarators, declarations and parameters finds is written by the tokens, and is allowed.
use Rattle.std.proofs.Common.{◌≡◌, ℕ, suc, ◌+◌, ◌≤◌, ◌<◌, List, [], ◌∷◌, length, Option, Some, None, Bool, true, false, refl, sym, ap, ◌∙◌, subst, arith}
use Rattle.std.specs.Prelude.{◌≢◌, ◌++◌}
use Rattle.c_syntax.specs.declared.token.Mark.TheVariants as marks
use Rattle.c_syntax.specs.declared.token.Key.{Key}
use Rattle.c_syntax.specs.declared.token.Key.TheVariants as keys
use Rattle.c_syntax.specs.declared.token.Token.{Token}
use Rattle.c_syntax.specs.declared.token.TokenKind.{TokenKind}
use Rattle.c_syntax.specs.declared.token.TokenKind.TheVariants as kind
use Rattle.c_syntax.specs.declared.tree.Star.{Star}
use Rattle.c_syntax.specs.declared.tree.Named.{Named}
use Rattle.c_syntax.specs.Forms.{Form, Written, head, a_token, place, kinds, kinds_of}
use Rattle.c_syntax.specs.Shape.{SpecShapes, DeclShape, decl, DeclShapes, no_decls, more_decls, DeclaratorShape, declarator, DeclaratorShapes, no_declarators, more_declarators, DeclFormShape, arrays, function, ParamsShape, empty, void, params, no_init, one_init}
use Rattle.c_syntax.specs.Grammar.{behind_form, param_list_form, maybe_named_form}
use Rattle.c_syntax.specs.Levels.{lengths_height, specs_height, decls_height, decl_height, declarators_height, declarator_height, behind_height, params_height, init_height}
use Rattle.c_syntax.specs.Shaped.{Standing, in_params, name_fits, may_be_open, is_in_names, may_begin, ShapedBehind}
use Rattle.c_grammar.specs.Look.{Got, got, then_go, either_way, where_true, if_so, after, after_key, after_key_kind, after_mark}
use Rattle.c_grammar.specs.Starts.{spec_head, is_spec}
use Rattle.c_syntax.proofs.Written.{head_kinds, written_kinds}
use Rattle.c_grammar.specs.Reader.{function_got, arrays_got, Behind, behind_from, declarator_made, declarator_init, declarator_behind, declarator_name, declarator_onto, declarator_more, decl_onto, decl_more, decl_end, decl_first, decl_specs, decl_from, param_made, param_specs, param_from, closing, void_ahead, params_end}
use Rattle.c_grammar.specs.ExprReader.{maybe_named}
use Rattle.c_grammar.proofs.Looking.{got_eq, went, passed, apart, after_is, after_key_is, expect_is}
use Rattle.c_grammar.proofs.ExprSound.{Fits, moved}
use Rattle.c_grammar.proofs.TypeSound.{LengthsFits, StarsFits, SomeFits, DeclsFits, DeclFits, DeclaratorsFits, DeclaratorFits, ParamsFits, ParamFits, ParametersFits, InitFits, Sound, named_sound, SpecsSay}

-- DECLARATORS

pub record BehindFits (s : Standing) (R : Behind) (d : ℕ) : Type 0 where
  pub lengths : (c : ℕ) → c + suc d ≤ 400 → Sound (R.lengths c) (LengthsFits (may_be_open s) (c + suc d))
  pub parameters : Sound R.parameters (ParametersFits (suc d))
  pub initialiser : Sound R.initialiser (InitFits (suc d))

-- what stands behind a name, with c stars in front of it
abbrev FormFits : Standing → ℕ → List Star → List Token → DeclFormShape → List Token → Type 0
FormFits s d ss ts f rest = Fits (behind_form f) (ShapedBehind s f) (behind_height ss f) d ts rest

behind_sound : (s : Standing) (R : Behind) (d : ℕ) → BehindFits s R d → (ss : List Star) → length ss + suc d ≤ 400 → (ts : List Token) (o : Option (List Token)) (f : DeclFormShape) (rest : List Token) → after marks.LeftParen ts ≡ o → either_way o (λ r. where_true (is_in_names s) (then_go (R.parameters r) function_got)) (then_go (R.lengths (length ss) ts) arrays_got) ≡ got f rest → FormFits s (suc d) ss ts f rest
behind_sound s R d ih ss deep ts None f rest b e =
    let v = went (R.lengths (length ss) ts) arrays_got f rest e in
    let l = ih.lengths (length ss) deep ts v.0 v.1 v.2 in
    let low : lengths_height v.0 + (length ss + suc d) ≤ 400 = l.low in
    moved (FormFits s (suc d) ss ts) (arrays v.0) f v.1 rest v.3 (record { written = l.written; shaped = l.shaped; low = omega (arith, low) })
behind_sound s R d ih ss deep ts (Some r) f rest b e =
    let p = passed (is_in_names s) (then_go (R.parameters r) function_got) f rest e in
    let v = went (R.parameters r) function_got f rest p.1 in
    let l = ih.parameters r v.0 v.1 v.2 in
    let low : params_height v.0 + suc d ≤ 400 = l.low in
    moved (FormFits s (suc d) ss ts) (function v.0) f v.1 rest v.3 (record {
      written = record { middle = r; first = after_is marks.LeftParen ts r b; second = l.written };
      shaped = (p.0, l.shaped);
      low = omega (arith, low, deep);
    })

init_sound : (s : Standing) (R : Behind) (d : ℕ) → BehindFits s R d → suc d ≤ 400 → (z y x ts : List Token) (ss : List Star) (n : Option Named) (f : DeclFormShape) (o : Option (List Token)) (t : DeclaratorShape) (rest : List Token) → StarsFits (suc d) z ss y → Written (maybe_named_form n) y x → name_fits s n ≡ true → FormFits s (suc d) ss x f ts → after marks.Equal ts ≡ o → either_way o (λ r. where_true (may_begin s f) (then_go (R.initialiser r) (declarator_made ss n f))) (got (declarator ss n f no_init) ts) ≡ got t rest → DeclaratorFits s d z t rest
init_sound s R d ih deep z y x ts ss n f None t rest a w u b q e =
    let low : behind_height ss f + suc d ≤ 400 = b.low in
    moved (DeclaratorFits s d z) (declarator ss n f no_init) t ts rest e (record {
      written = record { middle = y; first = a.written; second = record { middle = x; first = w; second = record { middle = ts; first = b.written; second = refl } } };
      shaped = (u, b.shaped, tt);
      low = omega (arith, low);
    })
init_sound s R d ih deep z y x ts ss n f (Some r) t rest a w u b q e =
    let p = passed (may_begin s f) (then_go (R.initialiser r) (declarator_made ss n f)) t rest e in
    let v = went (R.initialiser r) (declarator_made ss n f) t rest p.1 in
    let i = ih.initialiser r v.0 v.1 v.2 in
    let low : behind_height ss f + suc d ≤ 400 = b.low in
    let last : init_height v.0 + suc d ≤ 400 = i.low in
    moved (DeclaratorFits s d z) (declarator ss n f (one_init v.0)) t v.1 rest v.3 (record {
      written = record { middle = y; first = a.written; second = record { middle = x; first = w; second = record { middle = ts; first = b.written; second = record { middle = r; first = after_is marks.Equal ts r q; second = i.written } } } };
      shaped = (u, b.shaped, (p.0, i.shaped));
      low = omega (arith, low, last);
    })

pub declarator_sound : (s : Standing) (R : Behind) (stars : List Token → Got (List Star)) (d : ℕ) → BehindFits s R d → Sound stars (StarsFits (suc d)) → d < 400 → (ts : List Token) (t : DeclaratorShape) (rest : List Token) → then_go (stars ts) (declarator_name s R) ≡ got t rest → DeclaratorFits s d ts t rest
declarator_sound s R stars d ih single deep ts t rest e =
    let v = went (stars ts) (declarator_name s R) t rest e in
    let a = single ts v.0 v.1 v.2 in
    let w = went (maybe_named v.1) (declarator_behind s R v.0) t rest v.3 in
    let n = named_sound v.1 w.0 w.1 w.2 in
    let p = passed (name_fits s w.0) (then_go (behind_from s R (length v.0) w.1) (declarator_init s R v.0 w.0)) t rest w.3 in
    let x = went (behind_from s R (length v.0) w.1) (declarator_init s R v.0 w.0) t rest p.1 in
    let b = behind_sound s R d ih v.0 a.low w.1 (after marks.LeftParen w.1) x.0 x.1 refl x.2 in
    init_sound s R d ih deep ts v.1 w.1 x.1 v.0 w.0 x.0 (after marks.Equal x.1) t rest a n p.0 b refl x.3

pub declarators_sound : (s : Standing) (d : ℕ) (single : List Token → Got DeclaratorShape) (more : List Token → Got DeclaratorShapes) → Sound single (DeclaratorFits s d) → Sound more (DeclaratorsFits s d) → d ≤ 400 → (ts : List Token) (o : Option (List Token)) (ds : DeclaratorShapes) (rest : List Token) → after marks.Comma ts ≡ o → either_way o (λ r. then_go (single r) (declarator_more more)) (got no_declarators ts) ≡ got ds rest → DeclaratorsFits s d ts ds rest
declarators_sound s d single more a b deep ts None ds rest q e = moved (DeclaratorsFits s d ts) no_declarators ds ts rest e (record { written = refl; shaped = tt; low = omega (arith, deep) })
declarators_sound s d single more a b deep ts (Some r) ds rest q e =
    let v = went (single r) (declarator_more more) ds rest e in
    let f = a r v.0 v.1 v.2 in
    let w = went (more v.1) (declarator_onto v.0) ds rest v.3 in
    let l = b v.1 w.0 w.1 w.2 in
    let low : declarator_height v.0 + d ≤ 400 = f.low in
    let lows : declarators_height w.0 + d ≤ 400 = l.low in
    moved (DeclaratorsFits s d ts) (more_declarators v.0 w.0) ds w.1 rest w.3 (record {
      written = record { middle = r; first = after_is marks.Comma ts r q; second = record { middle = v.1; first = f.written; second = l.written } };
      shaped = (f.shaped, l.shaped);
      low = omega (arith, low, lows);
    })

-- DECLARATIONS

-- behind a first declarator
pub first_sound : (s : Standing) (d : ℕ) (more : List Token → Got DeclaratorShapes) → Sound more (DeclaratorsFits s d) → (z x y : List Token) (specs : SpecShapes) (c : DeclaratorShape) (t : DeclShape) (rest : List Token) → SomeFits d z specs x → DeclaratorFits s d x c y → decl_first more (place z) specs c y ≡ got t rest → DeclFits s d z t rest
first_sound s d more on z x y specs c t rest a b e =
    let v = went (more y) (decl_end (place z) specs c) t rest e in
    let l = on y v.0 v.1 v.2 in
    let q = expect_is marks.Semicolon (decl (place z) specs (more_declarators c v.0)) t v.1 rest v.3 in
    let low : specs_height specs + d ≤ 400 = a.low in
    let next : declarator_height c + d ≤ 400 = b.low in
    let last : declarators_height v.0 + d ≤ 400 = l.low in
    subst (λ t. DeclFits s d z t rest) q.0 (record {
      written = (refl, record { middle = x; first = a.written; second = record { middle = v.1; first = record { middle = y; first = b.written; second = l.written }; second = q.1 } });
      shaped = (a.shaped, b.shaped, l.shaped);
      low = omega (arith, low, next, last);
    })

specs_then : (s : Standing) (d : ℕ) (single : List Token → Got DeclaratorShape) (more : List Token → Got DeclaratorShapes) → Sound single (DeclaratorFits s d) → Sound more (DeclaratorsFits s d) → (z x : List Token) (specs : SpecShapes) (o : Option (List Token)) (t : DeclShape) (rest : List Token) → SomeFits d z specs x → after marks.Semicolon x ≡ o → either_way o (λ r. where_true (is_in_names s) (got (decl (place z) specs no_declarators) r)) (then_go (single x) (decl_first more (place z) specs)) ≡ got t rest → DeclFits s d z t rest
specs_then s d single more f on z x specs (Some r) t rest a b e =
    let p = passed (is_in_names s) (got (decl (place z) specs no_declarators) r) t rest e in
    let low : specs_height specs + d ≤ 400 = a.low in
    moved (DeclFits s d z) (decl (place z) specs no_declarators) t r rest p.1 (record {
      written = (refl, record { middle = x; first = a.written; second = record { middle = x; first = refl; second = after_is marks.Semicolon x r b } });
      shaped = (p.0, a.shaped);
      low = omega (arith, low);
    })
specs_then s d single more f on z x specs None t rest a b e =
    let v = went (single x) (decl_first more (place z) specs) t rest e in
    first_sound s d more on z x v.1 specs v.0 t rest a (f x v.0 v.1 v.2) v.3

pub decl_sound : (s : Standing) (d : ℕ) (specs : List Token → Got SpecShapes) (single : List Token → Got DeclaratorShape) (more : List Token → Got DeclaratorShapes) → Sound specs (SpecsSay d) → Sound single (DeclaratorFits s d) → Sound more (DeclaratorsFits s d) → (ts : List Token) → is_spec (spec_head ts) ≡ true → (t : DeclShape) (rest : List Token) → decl_from s specs single more ts ≡ got t rest → DeclFits s d ts t rest
decl_sound s d specs single more a f on ts h t rest e =
    let v = went (specs ts) (decl_specs s single more (place ts)) t rest e in
    let i = a ts v.0 v.1 v.2 in
    specs_then s d single more f on ts v.1 v.0 (after marks.Semicolon v.1) t rest (record { written = i.0.written; shaped = i.1 (λ n. apart (sym h ∙ ap is_spec n)); low = i.0.low }) refl v.3

pub decls_sound : (s : Standing) (d : ℕ) (single : List Token → Got DeclShape) (more : List Token → Got DeclShapes) → d ≤ 400 → (ts : List Token) (b : Bool) → (b ≡ true → (t : DeclShape) (rest : List Token) → single ts ≡ got t rest → DeclFits s d ts t rest) → Sound more (DeclsFits s d) → (ds : DeclShapes) (rest : List Token) → if_so b (then_go (single ts) (decl_more more)) (got no_decls ts) ≡ got ds rest → DeclsFits s d ts ds rest
decls_sound s d single more deep ts false f on ds rest e = moved (DeclsFits s d ts) no_decls ds ts rest e (record { written = refl; shaped = tt; low = omega (arith, deep) })
decls_sound s d single more deep ts true f on ds rest e =
    let v = went (single ts) (decl_more more) ds rest e in
    let a = f refl v.0 v.1 v.2 in
    let w = went (more v.1) (decl_onto v.0) ds rest v.3 in
    let l = on v.1 w.0 w.1 w.2 in
    let low : decl_height v.0 + d ≤ 400 = a.low in
    let lows : decls_height w.0 + d ≤ 400 = l.low in
    moved (DeclsFits s d ts) (more_decls v.0 w.0) ds w.1 rest w.3 (record {
      written = record { middle = v.1; first = a.written; second = l.written };
      shaped = (a.shaped, l.shaped);
      low = omega (arith, low, lows);
    })

-- PARAMETERS

pub param_sound : (d : ℕ) (specs : List Token → Got SpecShapes) (single : List Token → Got DeclaratorShape) → Sound specs (SomeFits d) → Sound single (DeclaratorFits in_params d) → Sound (param_from specs single) (ParamFits d)
param_sound d specs single a f ts t rest e =
    let v = went (specs ts) (param_specs single (place ts)) t rest e in
    let i = a ts v.0 v.1 v.2 in
    let w = went (single v.1) (param_made (place ts) v.0) t rest v.3 in
    let c = f v.1 w.0 w.1 w.2 in
    let low : specs_height v.0 + d ≤ 400 = i.low in
    let last : declarator_height w.0 + d ≤ 400 = c.low in
    moved (ParamFits d ts) (decl (place ts) v.0 (more_declarators w.0 no_declarators)) t w.1 rest w.3 (record {
      written = (refl, record { middle = v.1; first = i.written; second = record { middle = w.1; first = c.written; second = refl } });
      shaped = (i.shaped, c.shaped);
      low = omega (arith, low, last);
    })

pub params_sound : (d : ℕ) (single : List Token → Got DeclShape) (more : List Token → Got DeclShapes) → Sound single (ParamFits d) → Sound more (ParamsFits d) → d ≤ 400 → (ts : List Token) (o : Option (List Token)) (ds : DeclShapes) (rest : List Token) → after marks.Comma ts ≡ o → either_way o (λ r. then_go (single r) (decl_more more)) (got no_decls ts) ≡ got ds rest → ParamsFits d ts ds rest
params_sound d single more f on deep ts None ds rest q e = moved (ParamsFits d ts) no_decls ds ts rest e (record { written = refl; shaped = tt; low = omega (arith, deep) })
params_sound d single more f on deep ts (Some r) ds rest q e =
    let v = went (single r) (decl_more more) ds rest e in
    let a = f r v.0 v.1 v.2 in
    let w = went (more v.1) (decl_onto v.0) ds rest v.3 in
    let l = on v.1 w.0 w.1 w.2 in
    let low : decl_height v.0 + d ≤ 400 = a.low in
    let lows : decls_height w.0 + d ≤ 400 = l.low in
    moved (ParamsFits d ts) (more_decls v.0 w.0) ds w.1 rest w.3 (record {
      written = record { middle = r; first = after_is marks.Comma ts r q; second = record { middle = v.1; first = a.written; second = l.written } };
      shaped = (a.shaped, l.shaped);
      low = omega (arith, low, lows);
    })

-- a list is written as more than `void`, where `void )` doesn't follow

no_paren : (l : List Token) (ks : List TokenKind) → kinds_of l ≡ kind.Mark marks.RightParen ∷ ks → after marks.RightParen l ≡ None → ⊥
no_paren [] ks h n = absurd (let q : [] ≡ kind.Mark marks.RightParen ∷ ks = h in cc)
no_paren (u ∷ l) ks h n =
    let same : u.kind ≡ kind.Mark marks.RightParen = cc in
    absurd (let q : Some l ≡ None = sym (ap (λ x. after_mark marks.RightParen x l) same) ∙ n in cc)

no_void : (l ks : List Token) (z : List Token) → kinds_of l ≡ kind.Key keys.Void ∷ kinds_of ks → head ks ≡ a_token (kind.Mark marks.RightParen) z → void_ahead l ≡ None → ⊥
no_void [] ks z h c n = absurd (let q : [] ≡ kind.Key keys.Void ∷ kinds_of ks = h in cc)
no_void (t ∷ l) ks z h c n =
    let same : t.kind ≡ kind.Key keys.Void = cc in
    let rest : kinds_of l ≡ kinds_of ks = cc in
    no_paren l (kinds_of z) (rest ∙ head_kinds ks (kind.Mark marks.RightParen) z c) (sym (ap (λ x. closing (after_key_kind keys.Void x l)) same) ∙ n)

not_void : (f : Form) (ts rest z : List Token) → Written f ts rest → head rest ≡ a_token (kind.Mark marks.RightParen) z → void_ahead ts ≡ None → kinds f ≢ kind.Key keys.Void ∷ []
not_void f ts rest z w c n v = no_void ts rest z (written_kinds f ts rest w ∙ ap (λ l. l ++ kinds_of rest) v) c n

closing_is : (o : Option (List Token)) (r : List Token) → closing o ≡ Some r → (y : List Token) × (o ≡ Some y) × (head y ≡ a_token (kind.Mark marks.RightParen) r)
closing_is None r e = absurd (let q : None ≡ Some r = e in cc)
closing_is (Some y) r e = (y, refl, after_is marks.RightParen y r e)

pub parameters_sound : (d : ℕ) (single : List Token → Got DeclShape) (more : List Token → Got DeclShapes) → Sound single (ParamFits d) → Sound more (ParamsFits d) → d ≤ 400 → (ts : List Token) (o v : Option (List Token)) (ps : ParamsShape) (rest : List Token) → after marks.RightParen ts ≡ o → void_ahead ts ≡ v → either_way o (got empty) (either_way v (got void) (then_go (then_go (single ts) (decl_more more)) params_end)) ≡ got ps rest → ParametersFits d ts ps rest
parameters_sound d single more f on deep ts (Some r) v ps rest q h e =
    moved (ParametersFits d ts) empty ps r rest e (record { written = record { middle = ts; first = refl; second = after_is marks.RightParen ts r q }; shaped = tt; low = omega (arith, deep) })
parameters_sound d single more f on deep ts None (Some r) ps rest q h e =
    let i = closing_is (after_key keys.Void ts) r h in
    moved (ParametersFits d ts) void ps r rest e (record { written = record { middle = i.0; first = after_key_is keys.Void ts i.0 i.1; second = i.2 }; shaped = tt; low = omega (arith, deep) })
parameters_sound d single more f on deep ts None None ps rest q h e =
    let v = went (then_go (single ts) (decl_more more)) params_end ps rest e in
    let w = went (single ts) (decl_more more) v.0 v.1 v.2 in
    let x = went (more w.1) (decl_onto w.0) v.0 v.1 w.3 in
    let a = f ts w.0 w.1 w.2 in
    let l = on w.1 x.0 x.1 x.2 in
    let g = got_eq (more_decls w.0 x.0) v.0 x.1 v.1 x.3 in
    let c = expect_is marks.RightParen (params v.0) ps v.1 rest v.3 in
    let low : decl_height w.0 + d ≤ 400 = a.low in
    let lows : decls_height x.0 + d ≤ 400 = l.low in
    let written : Written (param_list_form (more_decls w.0 x.0)) ts x.1 = record { middle = w.1; first = a.written; second = l.written } in
    let closes : head x.1 ≡ a_token (kind.Mark marks.RightParen) rest = ap head g.1 ∙ c.1 in
    subst (λ p. ParametersFits d ts p rest) (ap (λ (z : DeclShapes). params z) g.0 ∙ c.0) (record {
      written = record { middle = x.1; first = written; second = closes };
      shaped = (a.shaped, l.shaped, not_void (param_list_form (more_decls w.0 x.0)) ts x.1 rest written closes h);
      low = omega (arith, low, lows);
    })
