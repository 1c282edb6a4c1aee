-- What follows a statement; and what the readers of its block probes, expressions and labels find is written by the tokens.
use Rattle.std.proofs.Common.{◌≡◌, ℕ, zero, suc, ◌+◌, ◌≤◌, List, [], ◌∷◌, Option, Some, None, refl, sym, ◌∙◌, subst, arith}
use Rattle.c_syntax.specs.declared.text.Text.{Text}
use Rattle.c_syntax.specs.declared.token.Mark.{Mark}
use Rattle.c_syntax.specs.declared.token.Mark.TheVariants as marks
use Rattle.c_syntax.specs.declared.token.Key.TheVariants as keys
use Rattle.c_syntax.specs.declared.token.ProbeWord.TheVariants as words
use Rattle.c_syntax.specs.declared.token.Token.{Token}
use Rattle.c_syntax.specs.declared.token.TokenKind.TheVariants as kind
use Rattle.c_syntax.specs.declared.tree.ProbeMark.{ProbeMark}
use Rattle.c_syntax.specs.Forms.{◌▷◌, mark, Written, head, a_token, place}
use Rattle.c_syntax.specs.Shape.{NodeShape, MaybeNode, no_node, one_node, LabelShape, case, default, StmtShape, stmt, FormShape, compound, simply, when, either, while, do_while, for, switch, break, continue, return, CompoundShape, ItemShapes}
use Rattle.c_syntax.specs.Grammar.{node_form, maybe_node_form, marks_form, labels_form, stmt_form, body_form, compound_form, items_form}
use Rattle.c_syntax.specs.Levels.{height, maybe_height, labels_height, stmt_height, form_height, compound_height, items_height}
use Rattle.c_syntax.specs.Shaped.{Shaped, ShapedMaybe, Closed, ClosedForm, ShapedLabels, ShapedStmt, ShapedForm, ShapedCompound, ShapedItems}
use Rattle.c_grammar.specs.Look.{Got, got, then_go, go_after, either_way, after, after_key, after_probe, expect}
use Rattle.c_grammar.specs.Reader.{reads}
use Rattle.c_grammar.specs.ExprReader.{numbered, one_got}
use Rattle.c_grammar_stmt.specs.StmtReader.{colon_behind, mark_closed, mark_ahead, mark_onto, marks_from, reads_marks, label_onto, case_more, reads_labels}
use Rattle.c_grammar_stmt.specs.StmtParts.{parens, optional}
use Rattle.c_grammar.proofs.Looking.{got_eq, not_got, went, opened, after_is, after_key_is, after_probe_is, expect_is, closed_by}
use Rattle.c_grammar.proofs.ExprSound.{Fits, moved, numbered_is}
use Rattle.c_grammar.proofs.TypeSound.{Sound}
use Rattle.c_grammar.proofs.Sound.{good}

-- WHAT FOLLOWS A STATEMENT

-- no `else` follows an `if` without one
abbrev mutual
  pub Ends : StmtShape → List Token → Type 0
  Ends (stmt p ms q f) ts = EndsForm f ts

  pub EndsForm : FormShape → List Token → Type 0
  EndsForm (compound c) ts = Unit {0}
  EndsForm (simply e) ts = Unit {0}
  EndsForm (when e s) ts = after_key keys.Else ts ≡ None
  EndsForm (either e s t) ts = Ends t ts
  EndsForm (while e s) ts = Ends s ts
  EndsForm (do_while s e) ts = Unit {0}
  EndsForm (for a b c s) ts = Ends s ts
  EndsForm (switch e is') ts = Unit {0}
  EndsForm break ts = Unit {0}
  EndsForm continue ts = Unit {0}
  EndsForm (return e) ts = Unit {0}

mutual
  pub any_ends : (s : StmtShape) (ts : List Token) → after_key keys.Else ts ≡ None → Ends s ts
  any_ends (stmt p ms q f) ts e = any_ends_form f ts e

  any_ends_form : (f : FormShape) (ts : List Token) → after_key keys.Else ts ≡ None → EndsForm f ts
  any_ends_form (compound c) ts e = tt
  any_ends_form (simply a) ts e = tt
  any_ends_form (when a s) ts e = e
  any_ends_form (either a s t) ts e = any_ends t ts e
  any_ends_form (while a s) ts e = any_ends s ts e
  any_ends_form (do_while s a) ts e = tt
  any_ends_form (for a b c s) ts e = any_ends s ts e
  any_ends_form (switch a is') ts e = tt
  any_ends_form break ts e = tt
  any_ends_form continue ts e = tt
  any_ends_form (return a) ts e = tt

mutual
  pub closed_ends : (s : StmtShape) (ts : List Token) → Closed s → Ends s ts
  closed_ends (stmt p ms q f) ts c = closed_ends_form f ts c

  closed_ends_form : (f : FormShape) (ts : List Token) → ClosedForm f → EndsForm f ts
  closed_ends_form (compound c) ts e = tt
  closed_ends_form (simply a) ts e = tt
  closed_ends_form (when a s) ts e = absurd e
  closed_ends_form (either a s t) ts e = closed_ends t ts e
  closed_ends_form (while a s) ts e = closed_ends s ts e
  closed_ends_form (do_while s a) ts e = tt
  closed_ends_form (for a b c s) ts e = closed_ends s ts e
  closed_ends_form (switch a is') ts e = tt
  closed_ends_form break ts e = tt
  closed_ends_form continue ts e = tt
  closed_ends_form (return a) ts e = tt

mutual
  pub ends_closed : (s : StmtShape) (ts r : List Token) → after_key keys.Else ts ≡ Some r → Ends s ts → Closed s
  ends_closed (stmt p ms q f) ts r e h = ends_closed_form f ts r e h

  ends_closed_form : (f : FormShape) (ts r : List Token) → after_key keys.Else ts ≡ Some r → EndsForm f ts → ClosedForm f
  ends_closed_form (compound c) ts r e h = tt
  ends_closed_form (simply a) ts r e h = tt
  ends_closed_form (when a s) ts r e h = absurd (let z : None ≡ Some r = sym h ∙ e in cc)
  ends_closed_form (either a s t) ts r e h = ends_closed t ts r e h
  ends_closed_form (while a s) ts r e h = ends_closed s ts r e h
  ends_closed_form (do_while s a) ts r e h = tt
  ends_closed_form (for a b c s) ts r e h = ends_closed s ts r e h
  ends_closed_form (switch a is') ts r e h = tt
  ends_closed_form break ts r e h = tt
  ends_closed_form continue ts r e h = tt
  ends_closed_form (return a) ts r e h = tt

-- WHAT FITS

abbrev pub StmtFits : ℕ → List Token → StmtShape → List Token → Type 0
StmtFits d ts s rest = Fits (stmt_form s) (ShapedStmt s × Ends s rest) (stmt_height s) d ts rest

abbrev pub FormFits : ℕ → List Token → FormShape → List Token → Type 0
FormFits d ts f rest = Fits (body_form f) (ShapedForm f × EndsForm f rest) (suc (form_height f)) d ts rest

abbrev pub ItemsFits : ℕ → List Token → ItemShapes → List Token → Type 0
ItemsFits d ts is' rest = Fits (items_form is') (ShapedItems is') (items_height is') d ts rest

abbrev pub CompoundFits : ℕ → List Token → CompoundShape → List Token → Type 0
CompoundFits d ts c rest = Fits (compound_form c) (ShapedCompound c) (compound_height c) d ts rest

-- an expression in parentheses
abbrev pub ParensFits : ℕ → List Token → NodeShape → List Token → Type 0
ParensFits d ts a rest = Fits (mark marks.LeftParen ▷ node_form a ▷ mark marks.RightParen) (Shaped a) (height a) d ts rest

-- an expression, or none, and this mark
abbrev pub OptionalFits : Mark → ℕ → List Token → MaybeNode → List Token → Type 0
OptionalFits m d ts e rest = Fits (maybe_node_form e ▷ mark m) (ShapedMaybe 0 e) (maybe_height e) d ts rest

-- labels take a level where there are some
pub record LabelsFit (d : ℕ) (ts : List Token) (ls : List LabelShape) (rest : List Token) : Type 0 where
  pub written : Written (labels_form ls) ts rest
  pub shaped : ShapedLabels ls
  pub low : suc d ≤ 400 → labels_height ls + suc d ≤ 400

-- BLOCK PROBES

colon_is : (n t : Text) (y : List Token) (o : Option (List Token)) (rest : List Token) → after marks.RightParen y ≡ o → colon_behind n o ≡ got t rest → (u : List Token) × (n ≡ t) × (head y ≡ a_token (kind.Mark marks.RightParen) u) × (head u ≡ a_token (kind.Mark marks.Colon) rest)
colon_is n t y None rest b e = not_got t rest e
colon_is n t y (Some u) rest b e = let c = expect_is marks.Colon n t u rest e in (u, c.0, after_is marks.RightParen y u b, c.1)

-- the tokens of a block probe
pub record MarkThere (ts : List Token) (n : Text) (rest : List Token) : Type 0 where
  pub r1 : List Token
  pub r2 : List Token
  pub r3 : List Token
  pub r4 : List Token
  pub word : head ts ≡ a_token (kind.Probe words.Block) r1
  pub opens : head r1 ≡ a_token (kind.Mark marks.LeftParen) r2
  pub number : head r2 ≡ a_token (kind.Number n) r3
  pub closes : head r3 ≡ a_token (kind.Mark marks.RightParen) r4
  pub colon : head r4 ≡ a_token (kind.Mark marks.Colon) rest

pub mark_is : (ts : List Token) (n : Text) (rest : List Token) → mark_ahead ts ≡ got n rest → MarkThere ts n rest
mark_is ts n rest e =
    let o = opened (after_probe words.Block ts) (λ r. then_go (numbered r) mark_closed) n rest e in
    let v = went (numbered o.0) mark_closed n rest o.2 in
    let i = numbered_is o.0 v.0 v.1 v.2 in
    let c = colon_is v.0 n v.1 (after marks.RightParen v.1) rest refl v.3 in
    record {
      r1 = o.0;
      r2 = i.0;
      r3 = v.1;
      r4 = c.0;
      word = after_probe_is words.Block ts o.0 o.1;
      opens = i.1;
      number = subst (λ t. head i.0 ≡ a_token (kind.Number t) v.1) c.1 i.2;
      closes = c.2;
      colon = c.3;
    }

abbrev MarksWritten : List Token → List ProbeMark → List Token → Type 0
MarksWritten ts ms rest = Written (marks_form ms) ts rest

marks_by : (more : List Token → Got (List ProbeMark)) → Sound more MarksWritten → (ts : List Token) (o : Got Text) (ms : List ProbeMark) (rest : List Token) → mark_ahead ts ≡ o → marks_from more ts o ≡ got ms rest → Written (marks_form ms) ts rest
marks_by more f ts None ms rest b e = moved (MarksWritten ts) [] ms ts rest e refl
marks_by more f ts (Some p) ms rest b e =
    let v = went (more p.1) (mark_onto (place ts) p.0) ms rest e in
    let i = mark_is ts p.0 p.1 b in
    moved (MarksWritten ts) (record { pos = place ts; number = p.0 } ∷ v.0) ms v.1 rest v.3 (record {
      middle = i.r1;
      first = (refl, i.word);
      second = record { middle = i.r4; first = record { middle = i.r2; first = i.opens; second = record { middle = i.r3; first = i.number; second = i.closes } }; second = record { middle = p.1; first = i.colon; second = f p.1 v.0 v.1 v.2 } };
    })

pub marks_sound : (k : ℕ) (ts : List Token) (ms : List ProbeMark) (rest : List Token) → reads_marks k ts ≡ got ms rest → Written (marks_form ms) ts rest
marks_sound zero ts ms rest e = not_got ms rest e
marks_sound (suc k) ts ms rest e = marks_by (reads_marks k) (marks_sound k) ts (mark_ahead ts) ms rest refl e

-- EXPRESSIONS

pub parens_sound : (k d : ℕ) (ts : List Token) (a : NodeShape) (rest : List Token) → parens d k ts ≡ got a rest → ParensFits d ts a rest
parens_sound k d ts a rest e =
    let o = opened (after marks.LeftParen ts) (λ r. then_go (reads 0 d 0 k r) (expect marks.RightParen)) a rest e in
    let c = closed_by marks.RightParen (reads 0 d 0 k o.0) a rest o.2 in
    let f = (good k).node 0 d 0 o.0 a c.0 c.1 in
    record { written = record { middle = o.0; first = after_is marks.LeftParen ts o.0 o.1; second = record { middle = c.0; first = f.written; second = c.2 } }; shaped = f.shaped.1; low = f.low }

optional_by : (m : Mark) (k d : ℕ) → d ≤ 400 → (ts : List Token) (o : Option (List Token)) (e : MaybeNode) (rest : List Token) → after m ts ≡ o → either_way o (got no_node) (then_go (then_go (reads 0 d 0 k ts) one_got) (expect m)) ≡ got e rest → OptionalFits m d ts e rest
optional_by m k d deep ts (Some r) e rest b q = moved (OptionalFits m d ts) no_node e r rest q (record { written = record { middle = ts; first = refl; second = after_is m ts r b }; shaped = tt; low = omega (arith, deep) })
optional_by m k d deep ts None e rest b q =
    let c = closed_by m (then_go (reads 0 d 0 k ts) one_got) e rest q in
    let v = went (reads 0 d 0 k ts) one_got e c.0 c.1 in
    let f = (good k).node 0 d 0 ts v.0 v.1 v.2 in
    let g = got_eq (one_node v.0) e v.1 c.0 v.3 in
    subst (λ (t : MaybeNode). OptionalFits m d ts t rest) g.0 (record {
      written = record { middle = v.1; first = f.written; second = subst (λ z. head z ≡ a_token (kind.Mark m) rest) (sym g.1) c.2 };
      shaped = f.shaped;
      low = f.low;
    })

pub optional_sound : (m : Mark) (k d : ℕ) → d ≤ 400 → (ts : List Token) (e : MaybeNode) (rest : List Token) → optional m d k ts ≡ got e rest → OptionalFits m d ts e rest
optional_sound m k d deep ts e rest q = optional_by m k d deep ts (after m ts) e rest refl q

-- LABELS

label_case_sound : (k d : ℕ) → Sound (reads_labels d k) (LabelsFit d) → (ts r : List Token) (ls : List LabelShape) (rest : List Token) → head ts ≡ a_token (kind.Key keys.Case) r → then_go (reads 2 (suc d) 0 k r) (case_more (λ l. reads_labels d k l) (place ts)) ≡ got ls rest → LabelsFit d ts ls rest
label_case_sound k d ih ts r ls rest h e =
    let v = went (reads 2 (suc d) 0 k r) (case_more (λ l. reads_labels d k l) (place ts)) ls rest e in
    let o = opened (after marks.Colon v.1) (λ l. then_go (reads_labels d k l) (label_onto (case (place ts) v.0))) ls rest v.3 in
    let w = went (reads_labels d k o.0) (label_onto (case (place ts) v.0)) ls rest o.2 in
    let f = (good k).node 2 (suc d) 0 r v.0 v.1 v.2 in
    let l = ih o.0 w.0 w.1 w.2 in
    let low : height v.0 + suc d ≤ 400 = f.low in
    moved (LabelsFit d ts) (case (place ts) v.0 ∷ w.0) ls w.1 rest w.3 (record {
      written = record { middle = r; first = (refl, h); second = record { middle = v.1; first = f.written; second = record { middle = o.0; first = after_is marks.Colon v.1 o.0 o.1; second = l.written } } };
      shaped = (f.shaped.0, f.shaped.1, l.shaped);
      low = λ under. let lows : labels_height w.0 + suc d ≤ 400 = l.low under in omega (arith, low, lows);
    })

label_default_sound : (k d : ℕ) → Sound (reads_labels d k) (LabelsFit d) → (ts r : List Token) (ls : List LabelShape) (rest : List Token) → head ts ≡ a_token (kind.Key keys.Default) r → go_after (after marks.Colon r) (λ l. then_go (reads_labels d k l) (label_onto (default (place ts)))) ≡ got ls rest → LabelsFit d ts ls rest
label_default_sound k d ih ts r ls rest h e =
    let o = opened (after marks.Colon r) (λ l. then_go (reads_labels d k l) (label_onto (default (place ts)))) ls rest e in
    let w = went (reads_labels d k o.0) (label_onto (default (place ts))) ls rest o.2 in
    let l = ih o.0 w.0 w.1 w.2 in
    moved (LabelsFit d ts) (default (place ts) ∷ w.0) ls w.1 rest w.3 (record {
      written = record { middle = r; first = (refl, h); second = record { middle = o.0; first = after_is marks.Colon r o.0 o.1; second = l.written } };
      shaped = l.shaped;
      low = λ under. let lows : labels_height w.0 + suc d ≤ 400 = l.low under in omega (arith, lows);
    })

abbrev other_label : ℕ → ℕ → List Token → Option (List Token) → Got (List LabelShape)
other_label k d ts o = either_way o (λ r. go_after (after marks.Colon r) (λ l. then_go (reads_labels d k l) (label_onto (default (place ts))))) (got [] ts)

other_label_sound : (k d : ℕ) → Sound (reads_labels d k) (LabelsFit d) → (ts : List Token) (o : Option (List Token)) (ls : List LabelShape) (rest : List Token) → after_key keys.Default ts ≡ o → other_label k d ts o ≡ got ls rest → LabelsFit d ts ls rest
other_label_sound k d ih ts None ls rest b e = moved (LabelsFit d ts) [] ls ts rest e (record { written = refl; shaped = tt; low = λ under. omega (arith, under) })
other_label_sound k d ih ts (Some r) ls rest b e = label_default_sound k d ih ts r ls rest (after_key_is keys.Default ts r b) e

labels_by : (k d : ℕ) → Sound (reads_labels d k) (LabelsFit d) → (ts : List Token) (o : Option (List Token)) (ls : List LabelShape) (rest : List Token) → after_key keys.Case ts ≡ o → either_way o (λ r. then_go (reads 2 (suc d) 0 k r) (case_more (λ l. reads_labels d k l) (place ts))) (other_label k d ts (after_key keys.Default ts)) ≡ got ls rest → LabelsFit d ts ls rest
labels_by k d ih ts (Some r) ls rest b e = label_case_sound k d ih ts r ls rest (after_key_is keys.Case ts r b) e
labels_by k d ih ts None ls rest b e = other_label_sound k d ih ts (after_key keys.Default ts) ls rest refl e

pub labels_sound : (k d : ℕ) → Sound (reads_labels d k) (LabelsFit d)
labels_sound zero d ts ls rest e = not_got ls rest e
labels_sound (suc k) d ts ls rest e = labels_by k d (labels_sound k d) ts (after_key keys.Case ts) ls rest refl e
