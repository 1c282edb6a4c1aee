-- What the reader of statements finds is written by the tokens, and is allowed.
use Rattle.std.proofs.Common.{◌≡◌, ℕ, zero, suc, ◌+◌, ◌≤◌, ◌<◌, List, [], ◌∷◌, Option, Some, None, Bool, true, false, refl, sym, subst, arith}
use Rattle.std.proofs.lemmas.Bool.{ltb-true}
use Rattle.std.specs.Prelude.{nat_lt, ◌&&◌}
use Rattle.c_syntax.specs.declared.token.Mark.{Mark}
use Rattle.c_syntax.specs.declared.token.Mark.TheVariants as marks
use Rattle.c_syntax.specs.declared.token.Key.TheVariants as keys
use Rattle.c_syntax.specs.declared.token.Token.{Token}
use Rattle.c_syntax.specs.declared.token.TokenKind.TheVariants as kind
use Rattle.c_syntax.specs.Forms.{head, a_token, place}
use Rattle.c_syntax.specs.Shape.{NodeShape, SpecShapes, decl, DeclaratorShape, declarator, no_declarators, arrays, function, LabelShape, StmtShape, stmt, FormShape, compound, simply, when, either, while, do_while, for, switch, break, continue, return, CompoundShape, braces, ItemShapes, no_items, more_items, ExternalShape, defined, declared}
use Rattle.c_syntax.specs.Grammar.{external_form}
use Rattle.c_syntax.specs.Levels.{height, maybe_height, specs_height, decl_height, declarator_height, external_height, decls_height, labels_height, item_height, stmt_height, form_height, compound_height, items_height}
use Rattle.c_syntax.specs.Shaped.{in_names, ShapedExternal, IsFunction}
use Rattle.c_grammar.specs.Look.{got, then_go, either_way, if_so, after, after_key, expect}
use Rattle.c_grammar.specs.Reader.{decl_first, reads_decls, reads_specs, reads_some, reads_declarator, reads_declarators}
use Rattle.c_grammar_stmt.specs.StmtReader.{reads_marks, compound_got, either_made, if_then, if_from, while_made, while_from, do_end, do_from, for_made, for_third, for_second, for_first, switch_made, switch_from, return_got, simply_got, stmt_made, stmt_body, reads_labels, depth_behind, item_onto, item_more, item_stmt, compound_end, compound_items, reads_stmt, reads_items, reads_compound, inside, reads_form, is_function, body_ahead, defined_got, declared_got, external_body, external_first, external_specs, reads_external}
use Rattle.c_grammar_stmt.specs.StmtParts.{parens, optional, if_parts, while_parts, do_parts, for_parts, switch_parts, return_parts, simple_parts, compound_parts}
use Rattle.c_grammar.proofs.Looking.{not_got, went, opened, passed, both, apart, after_is, after_key_is, expect_is, closed_by}
use Rattle.c_grammar.proofs.ExprSound.{Fits, moved}
use Rattle.c_grammar.proofs.DeclSound.{first_sound}
use Rattle.c_grammar.proofs.TypeSound.{Sound, SomeFits, DeclaratorFits, some_sound}
use Rattle.c_grammar.proofs.Sound.{good}
use Rattle.c_grammar_stmt.proofs.FormSteps.{from_return, from_continue, from_break, from_switch, from_for, from_do, from_while, from_if}
use Rattle.c_grammar_stmt.proofs.LabelSound.{ends_closed, StmtFits, FormFits, ItemsFits, CompoundFits, ParensFits, marks_sound, parens_sound, optional_sound, labels_sound}

-- STATEMENTS

pub record GoodStmt (k : ℕ) : Type 0 where
  pub one : (d : ℕ) → Sound (reads_stmt d k) (StmtFits d)
  pub many : (d : ℕ) → d ≤ 400 → Sound (reads_items d k) (ItemsFits d)

-- behind its brace
pub compound_by : (k d : ℕ) → GoodStmt k → (ts r : List Token) (c : CompoundShape) (rest : List Token) → head ts ≡ a_token (kind.Mark marks.LeftBrace) r → reads_compound d (place ts) k r ≡ got c rest → CompoundFits d ts c rest
compound_by k d ih ts r c rest h e =
    let p = passed (nat_lt d 400) (then_go (reads_decls in_names (suc d) 0 k r) (compound_items (λ l. reads_items (suc d) k l) (place ts))) c rest e in
    let deep : d < 400 = ltb-true d 400 p.0 in
    let v = went (reads_decls in_names (suc d) 0 k r) (compound_items (λ l. reads_items (suc d) k l) (place ts)) c rest p.1 in
    let w = went (reads_items (suc d) k v.1) (compound_end (place ts) v.0) c rest v.3 in
    let x = expect_is marks.RightBrace (braces (place ts) v.0 w.0) c w.1 rest w.3 in
    let f = (good k).decls in_names (suc d) 0 deep r v.0 v.1 v.2 in
    let g = ih.many (suc d) deep v.1 w.0 w.1 w.2 in
    let low : decls_height v.0 + suc d ≤ 400 = f.low in
    let lows : items_height w.0 + suc d ≤ 400 = g.low in
    subst (λ t. CompoundFits d ts t rest) x.0 (record {
      written = record { middle = r; first = (refl, h); second = record { middle = v.1; first = f.written; second = record { middle = w.1; first = g.written; second = x.1 } } };
      shaped = (f.shaped, g.shaped);
      low = omega (arith, low, lows);
    })

compound_form_sound : (k d : ℕ) → GoodStmt k → (ts r : List Token) (f : FormShape) (rest : List Token) → head ts ≡ a_token (kind.Mark marks.LeftBrace) r → compound_parts d (place ts) k r ≡ got f rest → FormFits d ts f rest
compound_form_sound k d ih ts r f rest h e =
    let v = went (reads_compound (suc d) (place ts) k r) compound_got f rest e in
    let c = compound_by k (suc d) ih ts r v.0 v.1 h v.2 in
    let low : compound_height v.0 + suc d ≤ 400 = c.low in
    moved (FormFits d ts) (compound v.0) f v.1 rest v.3 (record { written = c.written; shaped = (c.shaped, tt); low = omega (arith, low) })

-- an `else`, or none
else_sound : (k d : ℕ) → GoodStmt k → (ts r x y : List Token) (c : NodeShape) (s : StmtShape) (o : Option (List Token)) (f : FormShape) (rest : List Token) → head ts ≡ a_token (kind.Key keys.If) r → ParensFits (suc d) r c x → StmtFits (suc d) x s y → after_key keys.Else y ≡ o → either_way o (λ l. then_go (reads_stmt (suc d) k l) (either_made c s)) (got (when c s) y) ≡ got f rest → FormFits d ts f rest
else_sound k d ih ts r x y c s None f rest h a b n e =
    let low : height c + suc d ≤ 400 = a.low in
    let lows : stmt_height s + suc d ≤ 400 = b.low in
    moved (FormFits d ts) (when c s) f y rest e (record {
      written = record { middle = r; first = h; second = record { middle = x; first = a.written; second = b.written } };
      shaped = ((a.shaped, b.shaped.0), n);
      low = omega (arith, low, lows);
    })
else_sound k d ih ts r x y c s (Some l) f rest h a b n e =
    let v = went (reads_stmt (suc d) k l) (either_made c s) f rest e in
    let g = ih.one (suc d) l v.0 v.1 v.2 in
    let low1 : height c + suc d ≤ 400 = a.low in
    let low2 : stmt_height s + suc d ≤ 400 = b.low in
    let low3 : stmt_height v.0 + suc d ≤ 400 = g.low in
    moved (FormFits d ts) (either c s v.0) f v.1 rest v.3 (record {
      written = record { middle = r; first = h; second = record { middle = x; first = a.written; second = record { middle = y; first = b.written; second = record { middle = l; first = after_key_is keys.Else y l n; second = g.written } } } };
      shaped = ((a.shaped, b.shaped.0, ends_closed s y l n b.shaped.1, g.shaped.0), g.shaped.1);
      low = omega (arith, low1, low2, low3);
    })

if_sound : (k d : ℕ) → GoodStmt k → (ts r : List Token) (f : FormShape) (rest : List Token) → head ts ≡ a_token (kind.Key keys.If) r → if_parts d k r ≡ got f rest → FormFits d ts f rest
if_sound k d ih ts r f rest h e =
    let v = went (parens (suc d) k r) (if_from (inside d k)) f rest e in
    let w = went (reads_stmt (suc d) k v.1) (if_then (inside d k) v.0) f rest v.3 in
    else_sound k d ih ts r v.1 w.1 v.0 w.0 (after_key keys.Else w.1) f rest h (parens_sound k (suc d) r v.0 v.1 v.2) (ih.one (suc d) v.1 w.0 w.1 w.2) refl w.3

while_sound : (k d : ℕ) → GoodStmt k → (ts r : List Token) (f : FormShape) (rest : List Token) → head ts ≡ a_token (kind.Key keys.While) r → while_parts d k r ≡ got f rest → FormFits d ts f rest
while_sound k d ih ts r f rest h e =
    let v = went (parens (suc d) k r) (while_from (inside d k)) f rest e in
    let w = went (reads_stmt (suc d) k v.1) (while_made v.0) f rest v.3 in
    let a = parens_sound k (suc d) r v.0 v.1 v.2 in
    let b = ih.one (suc d) v.1 w.0 w.1 w.2 in
    let low : height v.0 + suc d ≤ 400 = a.low in
    let lows : stmt_height w.0 + suc d ≤ 400 = b.low in
    moved (FormFits d ts) (while v.0 w.0) f w.1 rest w.3 (record {
      written = record { middle = r; first = h; second = record { middle = v.1; first = a.written; second = b.written } };
      shaped = ((a.shaped, b.shaped.0), b.shaped.1);
      low = omega (arith, low, lows);
    })

do_sound : (k d : ℕ) → GoodStmt k → (ts r : List Token) (f : FormShape) (rest : List Token) → head ts ≡ a_token (kind.Key keys.Do) r → do_parts d k r ≡ got f rest → FormFits d ts f rest
do_sound k d ih ts r f rest h e =
    let v = went (reads_stmt (suc d) k r) (do_from (inside d k)) f rest e in
    let o = opened (after_key keys.While v.1) (λ l. then_go (parens (suc d) k l) (do_end v.0)) f rest v.3 in
    let w = went (parens (suc d) k o.0) (do_end v.0) f rest o.2 in
    let x = expect_is marks.Semicolon (do_while v.0 w.0) f w.1 rest w.3 in
    let a = parens_sound k (suc d) o.0 w.0 w.1 w.2 in
    let b = ih.one (suc d) r v.0 v.1 v.2 in
    let low : height w.0 + suc d ≤ 400 = a.low in
    let lows : stmt_height v.0 + suc d ≤ 400 = b.low in
    subst (λ t. FormFits d ts t rest) x.0 (record {
      written = record { middle = r; first = h; second = record { middle = v.1; first = b.written; second = record { middle = o.0; first = after_key_is keys.While v.1 o.0 o.1; second = record { middle = w.1; first = a.written; second = x.1 } } } };
      shaped = ((b.shaped.0, a.shaped), tt);
      low = omega (arith, low, lows);
    })

for_sound : (k d : ℕ) → GoodStmt k → d < 400 → (ts r : List Token) (f : FormShape) (rest : List Token) → head ts ≡ a_token (kind.Key keys.For) r → for_parts d k r ≡ got f rest → FormFits d ts f rest
for_sound k d ih deep ts r f rest h e =
    let o = opened (after marks.LeftParen r) (λ l. then_go (optional marks.Semicolon (suc d) k l) (for_first (inside d k))) f rest e in
    let u = went (optional marks.Semicolon (suc d) k o.0) (for_first (inside d k)) f rest o.2 in
    let v = went (optional marks.Semicolon (suc d) k u.1) (for_second (inside d k) u.0) f rest u.3 in
    let w = went (optional marks.RightParen (suc d) k v.1) (for_third (inside d k) u.0 v.0) f rest v.3 in
    let x = went (reads_stmt (suc d) k w.1) (for_made u.0 v.0 w.0) f rest w.3 in
    let a = optional_sound marks.Semicolon k (suc d) deep o.0 u.0 u.1 u.2 in
    let b = optional_sound marks.Semicolon k (suc d) deep u.1 v.0 v.1 v.2 in
    let c = optional_sound marks.RightParen k (suc d) deep v.1 w.0 w.1 w.2 in
    let s = ih.one (suc d) w.1 x.0 x.1 x.2 in
    let low1 : maybe_height u.0 + suc d ≤ 400 = a.low in
    let low2 : maybe_height v.0 + suc d ≤ 400 = b.low in
    let low3 : maybe_height w.0 + suc d ≤ 400 = c.low in
    let low4 : stmt_height x.0 + suc d ≤ 400 = s.low in
    let i = c.written in
    moved (FormFits d ts) (for u.0 v.0 w.0 x.0) f x.1 rest x.3 (record {
      written = record { middle = r; first = h; second = record { middle = w.1; first = record { middle = o.0; first = after_is marks.LeftParen r o.0 o.1; second = record { middle = i.middle; first = record { middle = u.1; first = a.written; second = record { middle = v.1; first = b.written; second = i.first } }; second = i.second } }; second = s.written } };
      shaped = ((a.shaped, b.shaped, c.shaped, s.shaped.0), s.shaped.1);
      low = omega (arith, low1, low2, low3, low4);
    })

switch_sound : (k d : ℕ) → GoodStmt k → d < 400 → (ts r : List Token) (f : FormShape) (rest : List Token) → head ts ≡ a_token (kind.Key keys.Switch) r → switch_parts d k r ≡ got f rest → FormFits d ts f rest
switch_sound k d ih deep ts r f rest h e =
    let v = went (parens (suc d) k r) (switch_from (inside d k)) f rest e in
    let o = opened (after marks.LeftBrace v.1) (λ l. then_go (then_go (reads_items (suc d) k l) (expect marks.RightBrace)) (switch_made v.0)) f rest v.3 in
    let w = went (then_go (reads_items (suc d) k o.0) (expect marks.RightBrace)) (switch_made v.0) f rest o.2 in
    let c = closed_by marks.RightBrace (reads_items (suc d) k o.0) w.0 w.1 w.2 in
    let a = parens_sound k (suc d) r v.0 v.1 v.2 in
    let b = ih.many (suc d) deep o.0 w.0 c.0 c.1 in
    let low : height v.0 + suc d ≤ 400 = a.low in
    let lows : items_height w.0 + suc d ≤ 400 = b.low in
    moved (FormFits d ts) (switch v.0 w.0) f w.1 rest w.3 (record {
      written = record { middle = r; first = h; second = record { middle = v.1; first = a.written; second = record { middle = o.0; first = after_is marks.LeftBrace v.1 o.0 o.1; second = record { middle = c.0; first = b.written; second = c.2 } } } };
      shaped = ((a.shaped, b.shaped), tt);
      low = omega (arith, low, lows);
    })

return_sound : (k d : ℕ) → d < 400 → (ts r : List Token) (f : FormShape) (rest : List Token) → head ts ≡ a_token (kind.Key keys.Return) r → return_parts d k r ≡ got f rest → FormFits d ts f rest
return_sound k d deep ts r f rest h e =
    let v = went (optional marks.Semicolon (suc d) k r) return_got f rest e in
    let a = optional_sound marks.Semicolon k (suc d) deep r v.0 v.1 v.2 in
    let low : maybe_height v.0 + suc d ≤ 400 = a.low in
    let i = a.written in
    moved (FormFits d ts) (return v.0) f v.1 rest v.3 (record { written = record { middle = i.middle; first = record { middle = r; first = h; second = i.first }; second = i.second }; shaped = (a.shaped, tt); low = omega (arith, low) })

simple_sound : (k d : ℕ) → d < 400 → (ts : List Token) (f : FormShape) (rest : List Token) → simple_parts d k ts ≡ got f rest → FormFits d ts f rest
simple_sound k d deep ts f rest e =
    let v = went (optional marks.Semicolon (suc d) k ts) simply_got f rest e in
    let a = optional_sound marks.Semicolon k (suc d) deep ts v.0 v.1 v.2 in
    let low : maybe_height v.0 + suc d ≤ 400 = a.low in
    moved (FormFits d ts) (simply v.0) f v.1 rest v.3 (record { written = a.written; shaped = (a.shaped, tt); low = omega (arith, low) })

-- BY THE FIRST TOKEN

at_return : (k d : ℕ) → d < 400 → (ts : List Token) (o : Option (List Token)) (f : FormShape) (rest : List Token) → after_key keys.Return ts ≡ o → either_way o (return_parts d k) (simple_parts d k ts) ≡ got f rest → FormFits d ts f rest
at_return k d deep ts (Some r) f rest b e = return_sound k d deep ts r f rest (after_key_is keys.Return ts r b) e
at_return k d deep ts None f rest b e = simple_sound k d deep ts f rest e

at_continue : (k d : ℕ) → d < 400 → (ts : List Token) (o : Option (List Token)) (f : FormShape) (rest : List Token) → after_key keys.Continue ts ≡ o → either_way o (expect marks.Semicolon continue) (from_return d k ts) ≡ got f rest → FormFits d ts f rest
at_continue k d deep ts (Some r) f rest b e =
    let x = expect_is marks.Semicolon continue f r rest e in
    subst (λ t. FormFits d ts t rest) x.0 (record { written = record { middle = r; first = after_key_is keys.Continue ts r b; second = x.1 }; shaped = (tt, tt); low = omega (arith, deep) })
at_continue k d deep ts None f rest b e = at_return k d deep ts (after_key keys.Return ts) f rest refl e

at_break : (k d : ℕ) → d < 400 → (ts : List Token) (o : Option (List Token)) (f : FormShape) (rest : List Token) → after_key keys.Break ts ≡ o → either_way o (expect marks.Semicolon break) (from_continue d k ts) ≡ got f rest → FormFits d ts f rest
at_break k d deep ts (Some r) f rest b e =
    let x = expect_is marks.Semicolon break f r rest e in
    subst (λ t. FormFits d ts t rest) x.0 (record { written = record { middle = r; first = after_key_is keys.Break ts r b; second = x.1 }; shaped = (tt, tt); low = omega (arith, deep) })
at_break k d deep ts None f rest b e = at_continue k d deep ts (after_key keys.Continue ts) f rest refl e

at_switch : (k d : ℕ) → GoodStmt k → d < 400 → (ts : List Token) (o : Option (List Token)) (f : FormShape) (rest : List Token) → after_key keys.Switch ts ≡ o → either_way o (switch_parts d k) (from_break d k ts) ≡ got f rest → FormFits d ts f rest
at_switch k d ih deep ts (Some r) f rest b e = switch_sound k d ih deep ts r f rest (after_key_is keys.Switch ts r b) e
at_switch k d ih deep ts None f rest b e = at_break k d deep ts (after_key keys.Break ts) f rest refl e

at_for : (k d : ℕ) → GoodStmt k → d < 400 → (ts : List Token) (o : Option (List Token)) (f : FormShape) (rest : List Token) → after_key keys.For ts ≡ o → either_way o (for_parts d k) (from_switch d k ts) ≡ got f rest → FormFits d ts f rest
at_for k d ih deep ts (Some r) f rest b e = for_sound k d ih deep ts r f rest (after_key_is keys.For ts r b) e
at_for k d ih deep ts None f rest b e = at_switch k d ih deep ts (after_key keys.Switch ts) f rest refl e

at_do : (k d : ℕ) → GoodStmt k → d < 400 → (ts : List Token) (o : Option (List Token)) (f : FormShape) (rest : List Token) → after_key keys.Do ts ≡ o → either_way o (do_parts d k) (from_for d k ts) ≡ got f rest → FormFits d ts f rest
at_do k d ih deep ts (Some r) f rest b e = do_sound k d ih ts r f rest (after_key_is keys.Do ts r b) e
at_do k d ih deep ts None f rest b e = at_for k d ih deep ts (after_key keys.For ts) f rest refl e

at_while : (k d : ℕ) → GoodStmt k → d < 400 → (ts : List Token) (o : Option (List Token)) (f : FormShape) (rest : List Token) → after_key keys.While ts ≡ o → either_way o (while_parts d k) (from_do d k ts) ≡ got f rest → FormFits d ts f rest
at_while k d ih deep ts (Some r) f rest b e = while_sound k d ih ts r f rest (after_key_is keys.While ts r b) e
at_while k d ih deep ts None f rest b e = at_do k d ih deep ts (after_key keys.Do ts) f rest refl e

at_if : (k d : ℕ) → GoodStmt k → d < 400 → (ts : List Token) (o : Option (List Token)) (f : FormShape) (rest : List Token) → after_key keys.If ts ≡ o → either_way o (if_parts d k) (from_while d k ts) ≡ got f rest → FormFits d ts f rest
at_if k d ih deep ts (Some r) f rest b e = if_sound k d ih ts r f rest (after_key_is keys.If ts r b) e
at_if k d ih deep ts None f rest b e = at_while k d ih deep ts (after_key keys.While ts) f rest refl e

at_brace : (k d : ℕ) → GoodStmt k → d < 400 → (ts : List Token) (o : Option (List Token)) (f : FormShape) (rest : List Token) → after marks.LeftBrace ts ≡ o → either_way o (compound_parts d (place ts) k) (from_if d k ts) ≡ got f rest → FormFits d ts f rest
at_brace k d ih deep ts (Some r) f rest b e = compound_form_sound k d ih ts r f rest (after_is marks.LeftBrace ts r b) e
at_brace k d ih deep ts None f rest b e = at_if k d ih deep ts (after_key keys.If ts) f rest refl e

-- ALL AT ONCE

stmt_step : (k d : ℕ) → GoodStmt k → Sound (reads_stmt d (suc k)) (StmtFits d)
stmt_step k d ih ts s rest e =
    let p = passed (nat_lt d 400) (then_go (reads_marks k ts) (stmt_body (inside d k) (place ts))) s rest e in
    let deep : d < 400 = ltb-true d 400 p.0 in
    let v = went (reads_marks k ts) (stmt_body (inside d k) (place ts)) s rest p.1 in
    let w = went (reads_form d k v.1) (stmt_made (place ts) v.0 (place v.1)) s rest v.3 in
    let f = at_brace k d ih deep v.1 (after marks.LeftBrace v.1) w.0 w.1 refl w.2 in
    let low : suc (form_height w.0) + d ≤ 400 = f.low in
    moved (StmtFits d ts) (stmt (place ts) v.0 (place v.1) w.0) s w.1 rest w.3 (record {
      written = (refl, record { middle = v.1; first = marks_sound k ts v.0 v.1 v.2; second = (refl, f.written) });
      shaped = f.shaped;
      low = low;
    })

stmt_some : (s : StmtShape) → 1 ≤ stmt_height s
stmt_some (stmt p ms q f) = omega arith

item_low : (d h : ℕ) (ls : List LabelShape) → 1 ≤ h → h + depth_behind d ls ≤ 400 → (suc d ≤ 400 → labels_height ls + suc d ≤ 400) → item_height ls h + d ≤ 400
item_low d h [] some low f = low
item_low d h (l ∷ ls) some low f =
    let under : suc d ≤ 400 = omega (arith, some, low) in
    let lows : labels_height (l ∷ ls) + suc d ≤ 400 = f under in
    let m = labels_height (l ∷ ls) in
    omega (arith, low, lows)

items_by : (k d : ℕ) → GoodStmt k → d ≤ 400 → (ts : List Token) (o : Option (List Token)) (is' : ItemShapes) (rest : List Token) → after marks.RightBrace ts ≡ o → either_way o (λ r. got no_items ts) (then_go (reads_labels d k ts) (item_stmt (λ e l. reads_stmt e k l) (λ l. reads_items d k l) d)) ≡ got is' rest → ItemsFits d ts is' rest
items_by k d ih deep ts (Some r) is' rest b e = moved (ItemsFits d ts) no_items is' ts rest e (record { written = refl; shaped = tt; low = omega (arith, deep) })
items_by k d ih deep ts None is' rest b e =
    let u = went (reads_labels d k ts) (item_stmt (λ e l. reads_stmt e k l) (λ l. reads_items d k l) d) is' rest e in
    let v = went (reads_stmt (depth_behind d u.0) k u.1) (item_more (λ l. reads_items d k l) u.0) is' rest u.3 in
    let w = went (reads_items d k v.1) (item_onto u.0 v.0) is' rest v.3 in
    let a = labels_sound k d ts u.0 u.1 u.2 in
    let b = ih.one (depth_behind d u.0) u.1 v.0 v.1 v.2 in
    let c = ih.many d deep v.1 w.0 w.1 w.2 in
    let low : item_height u.0 (stmt_height v.0) + d ≤ 400 = item_low d (stmt_height v.0) u.0 (stmt_some v.0) b.low a.low in
    let lows : items_height w.0 + d ≤ 400 = c.low in
    moved (ItemsFits d ts) (more_items u.0 v.0 w.0) is' w.1 rest w.3 (record {
      written = record { middle = u.1; first = a.written; second = record { middle = v.1; first = b.written; second = c.written } };
      shaped = (a.shaped, b.shaped.0, c.shaped);
      low = omega (arith, low, lows);
    })

pub good_stmt : (k : ℕ) → GoodStmt k
good_stmt zero = record {
  one = λ d ts s rest e. not_got s rest e;
  many = λ d deep ts s rest e. not_got s rest e;
}
good_stmt (suc k) =
    let ih = good_stmt k in
    record {
      one = λ d. stmt_step k d ih;
      many = λ d deep ts s rest e. items_by k d ih deep ts (after marks.RightBrace ts) s rest refl e;
    }

pub compound_sound : (k d : ℕ) (ts r : List Token) (c : CompoundShape) (rest : List Token) → head ts ≡ a_token (kind.Mark marks.LeftBrace) r → reads_compound d (place ts) k r ≡ got c rest → CompoundFits d ts c rest
compound_sound k d ts r c rest h e = compound_by k d (good_stmt k) ts r c rest h e

-- EXTERNAL DECLARATIONS

abbrev pub ExternalFits : List Token → ExternalShape → List Token → Type 0
ExternalFits ts e rest = Fits (external_form e) (ShapedExternal e) (external_height e) 0 ts rest

function_is : (t : DeclaratorShape) → is_function t ≡ true → IsFunction t
function_is (declarator ss n (arrays ls) i) e = apart (sym e)
function_is (declarator ss n (function ps) i) e = tt

first_by : (k : ℕ) (ts x y : List Token) (specs : SpecShapes) (t : DeclaratorShape) (b : Bool) (e : ExternalShape) (rest : List Token) → SomeFits 1 ts specs x → DeclaratorFits in_names 1 x t y → (is_function t && body_ahead y) ≡ b → if_so b (then_go (reads_marks k y) (external_body k specs t)) (then_go (decl_first (λ l. reads_declarators in_names 1 0 k l) (place ts) specs t y) declared_got) ≡ got e rest → ExternalFits ts e rest
first_by k ts x y specs t false e rest a c b q =
    let v = went (decl_first (λ l. reads_declarators in_names 1 0 k l) (place ts) specs t y) declared_got e rest q in
    let f = first_sound in_names 1 (λ l. reads_declarators in_names 1 0 k l) ((good k).declarators in_names 1 0 (omega arith)) ts x y specs t v.0 v.1 a c v.2 in
    let low : decl_height v.0 + 1 ≤ 400 = f.low in
    moved (ExternalFits ts) (declared v.0) e v.1 rest v.3 (record { written = f.written; shaped = f.shaped; low = omega (arith, low) })
first_by k ts x y specs t true e rest a c b q =
    let v = went (reads_marks k y) (external_body k specs t) e rest q in
    let o = opened (after marks.LeftBrace v.1) (λ l. then_go (reads_compound 1 (place v.1) k l) (defined_got specs t v.0)) e rest v.3 in
    let w = went (reads_compound 1 (place v.1) k o.0) (defined_got specs t v.0) e rest o.2 in
    let f = compound_sound k 1 v.1 o.0 w.0 w.1 (after_is marks.LeftBrace v.1 o.0 o.1) w.2 in
    let low1 : specs_height specs + 1 ≤ 400 = a.low in
    let low2 : declarator_height t + 1 ≤ 400 = c.low in
    let low3 : compound_height w.0 + 1 ≤ 400 = f.low in
    moved (ExternalFits ts) (defined specs t v.0 w.0) e w.1 rest w.3 (record {
      written = record { middle = x; first = a.written; second = record { middle = y; first = c.written; second = record { middle = v.1; first = marks_sound k y v.0 v.1 v.2; second = f.written } } };
      shaped = (a.shaped, function_is t (both (is_function t) (body_ahead y) b).0, c.shaped, f.shaped);
      low = omega (arith, low1, low2, low3);
    })

specs_by : (k : ℕ) (ts x : List Token) (specs : SpecShapes) (o : Option (List Token)) (e : ExternalShape) (rest : List Token) → SomeFits 1 ts specs x → after marks.Semicolon x ≡ o → either_way o (got (declared (decl (place ts) specs no_declarators))) (then_go (reads_declarator in_names 1 0 k x) (external_first k (place ts) specs)) ≡ got e rest → ExternalFits ts e rest
specs_by k ts x specs (Some r) e rest a b q =
    let low : specs_height specs + 1 ≤ 400 = a.low in
    moved (ExternalFits ts) (declared (decl (place ts) specs no_declarators)) e r rest q (record {
      written = (refl, record { middle = x; first = a.written; second = record { middle = x; first = refl; second = after_is marks.Semicolon x r b } });
      shaped = (refl, a.shaped);
      low = omega (arith, low);
    })
specs_by k ts x specs None e rest a b q =
    let v = went (reads_declarator in_names 1 0 k x) (external_first k (place ts) specs) e rest q in
    first_by k ts x v.1 specs v.0 (is_function v.0 && body_ahead v.1) e rest a ((good k).declarator in_names 1 0 x v.0 v.1 v.2) refl v.3

pub external_sound : (k : ℕ) → Sound (reads_external k) ExternalFits
external_sound k ts e rest q =
    let v = went (reads_some 1 0 k ts) (external_specs k (place ts)) e rest q in
    let a = some_sound (λ l. reads_specs 1 0 k l) 1 ((good k).specs 1 0 (omega arith)) ts v.0 v.1 v.2 in
    specs_by k ts v.1 v.0 (after marks.Semicolon v.1) e rest a refl v.3
