-- Every statement and external declaration that the grammar allows is found in the tokens that write it.
use Rattle.std.proofs.Common.{◌≡◌, ℕ, suc, ◌+◌, ◌≤◌, List, [], ◌∷◌, None, Bool, true, false, refl, sym, ap, ◌∙◌, subst, arith}
use Rattle.std.specs.Prelude.{◌&&◌, ◌||◌, is_some}
use Rattle.c_syntax.specs.declared.token.Mark.{Mark}
use Rattle.c_syntax.specs.declared.token.Mark.TheVariants as marks
use Rattle.c_syntax.specs.declared.token.Key.TheVariants as keys
use Rattle.c_syntax.specs.declared.token.ProbeWord.TheVariants as words
use Rattle.c_syntax.specs.declared.token.Token.{Token}
use Rattle.c_syntax.specs.declared.token.TokenKind.TheVariants as kind
use Rattle.c_syntax.specs.declared.tree.ProbeMark.{ProbeMark}
use Rattle.c_syntax.specs.Forms.{◌▷◌, mark, Written, Head, head, a_token, place}
use Rattle.c_syntax.specs.Shape.{NodeShape, MaybeNode, no_node, one_node, DeclShape, decl, no_declarators, more_declarators, LabelShape, case, default, StmtShape, stmt, FormShape, compound, simply, when, either, while, do_while, for, switch, break, continue, return, CompoundShape, braces, ItemShapes, no_items, more_items, ExternalShape, defined, declared}
use Rattle.c_syntax.specs.Grammar.{node_form, maybe_node_form, marks_form, labels_form, stmt_form, body_form, compound_form, items_form, external_form}
use Rattle.c_syntax.specs.Levels.{height, maybe_height, labels_height, item_height, stmt_height, form_height, compound_height, items_height, external_height}
use Rattle.c_syntax.specs.Shaped.{in_names, Shaped, ShapedMaybe, ShapedLabels, ShapedStmt, ShapedForm, ShapedCompound, ShapedItems, ShapedExternal}
use Rattle.c_grammar.specs.Look.{got, then_go, go_after, Finds, after, after_head, after_key, after_key_head, after_probe, after_probe_head}
use Rattle.c_grammar.specs.Starts.{no_sign, sign_head, no_start, start_mark, no_spec, spec_of_head, spec_head}
use Rattle.c_grammar.specs.ExprReader.{numbered}
use Rattle.c_grammar_stmt.specs.StmtReader.{mark_closed, mark_ahead, reads_marks, reads_labels, depth_behind, reads_stmt, reads_items, reads_compound, reads_form, is_function, body_ahead, reads_external}
use Rattle.c_grammar_stmt.specs.StmtParts.{parens, optional}
use Rattle.c_grammar.proofs.Looking.{after_of, after_key_of, after_probe_of}
use Rattle.c_grammar.proofs.DeclSteps.{declaring_found}
use Rattle.c_grammar_stmt.proofs.StmtSteps.{stmt_found, labels_stop, labels_case, labels_default, items_end, items_on, compound_found, external_found, external_plain, external_named, external_defined, external_declared, function_found}
use Rattle.c_grammar_stmt.proofs.FormSteps.{mark_found, marks_stop, marks_on, parens_found, optional_none, optional_found, if_plain, if_else, while_found, do_found, for_found, switch_found, return_found, simple_found, compound_form_found, form_compound, form_if, form_while, form_do, form_for, form_switch, form_return, form_break, form_continue, form_simple}
use Rattle.c_grammar_stmt.proofs.LabelSound.{Ends, EndsForm, any_ends, closed_ends}
use Rattle.c_grammar.proofs.CompleteExpr.{numbered_of}
use Rattle.c_grammar.proofs.CompleteNames as names
use Rattle.c_grammar.proofs.CompleteNames.{ends_brace, ends_block, led_declarators_end, ends_semicolon}
use Rattle.c_grammar.proofs.Complete.{complete_before, complete_declarations, complete_some, complete_first, complete_further}
use Rattle.c_grammar_stmt.proofs.CompleteAhead.{node_not_mark, node_ahead, declarator_ahead, function_there, no_body}

-- WHAT STATEMENTS BEGIN WITH

-- what the tokens of a statement don't begin with
pub record StmtAhead (ts : List Token) : Type 0 where
  pub no_right_brace : after marks.RightBrace ts ≡ None
  pub no_case : after_key keys.Case ts ≡ None
  pub no_default : after_key keys.Default ts ≡ None
  pub no_else : after_key keys.Else ts ≡ None
  pub no_specifier : spec_head ts ≡ no_spec

-- the same behind its block probes
pub record FormAhead (ts : List Token) : Type 0 where
  pub no_block_probe : mark_ahead ts ≡ None
  pub ahead : StmtAhead ts

unmarked : (ts : List Token) → after_probe words.Block ts ≡ None → mark_ahead ts ≡ None
unmarked ts e = ap (λ o. go_after o (λ r. then_go (numbered r) mark_closed)) e

stmt_by : (ts : List Token) (h : Head) → head ts ≡ h → after_head marks.RightBrace h ≡ None → after_key_head keys.Case h ≡ None → after_key_head keys.Default h ≡ None → after_key_head keys.Else h ≡ None → spec_of_head h ≡ no_spec → StmtAhead ts
stmt_by ts h e a b c d f = record {
  no_right_brace = ap (after_head marks.RightBrace) e ∙ a;
  no_case = ap (after_key_head keys.Case) e ∙ b;
  no_default = ap (after_key_head keys.Default) e ∙ c;
  no_else = ap (after_key_head keys.Else) e ∙ d;
  no_specifier = ap spec_of_head e ∙ f;
}

form_by : (ts : List Token) (h : Head) → head ts ≡ h → after_probe_head words.Block h ≡ None → StmtAhead ts → FormAhead ts
form_by ts h e a s = record { no_block_probe = unmarked ts (ap (after_probe_head words.Block) e ∙ a); ahead = s }

pub form_ahead : (f : FormShape) (ts x : List Token) → Written (body_form f) ts x → FormAhead ts
form_ahead (compound (braces p ds is')) ts x w = let h = a_token (kind.Mark marks.LeftBrace) w.middle in form_by ts h w.first.1 refl (stmt_by ts h w.first.1 refl refl refl refl refl)
form_ahead (simply no_node) ts x w =
    let h = a_token (kind.Mark marks.Semicolon) x in
    let e : head ts ≡ h = ap head w.first ∙ w.second in
    form_by ts h e refl (stmt_by ts h e refl refl refl refl refl)
form_ahead (simply (one_node a)) ts x w =
    let n = node_ahead a ts w.middle w.first in
    record { no_block_probe = n.no_block_probe; ahead = record { no_right_brace = n.no_right_brace; no_case = n.no_case; no_default = n.no_default; no_else = n.no_else; no_specifier = n.no_specifier } }
form_ahead (when a s) ts x w = let h = a_token (kind.Key keys.If) w.middle in form_by ts h w.first refl (stmt_by ts h w.first refl refl refl refl refl)
form_ahead (either a s t) ts x w = let h = a_token (kind.Key keys.If) w.middle in form_by ts h w.first refl (stmt_by ts h w.first refl refl refl refl refl)
form_ahead (while a s) ts x w = let h = a_token (kind.Key keys.While) w.middle in form_by ts h w.first refl (stmt_by ts h w.first refl refl refl refl refl)
form_ahead (do_while s a) ts x w = let h = a_token (kind.Key keys.Do) w.middle in form_by ts h w.first refl (stmt_by ts h w.first refl refl refl refl refl)
form_ahead (for a b c s) ts x w = let h = a_token (kind.Key keys.For) w.middle in form_by ts h w.first refl (stmt_by ts h w.first refl refl refl refl refl)
form_ahead (switch a is') ts x w = let h = a_token (kind.Key keys.Switch) w.middle in form_by ts h w.first refl (stmt_by ts h w.first refl refl refl refl refl)
form_ahead break ts x w = let h = a_token (kind.Key keys.Break) w.middle in form_by ts h w.first refl (stmt_by ts h w.first refl refl refl refl refl)
form_ahead continue ts x w = let h = a_token (kind.Key keys.Continue) w.middle in form_by ts h w.first refl (stmt_by ts h w.first refl refl refl refl refl)
form_ahead (return e) ts x w = let h = a_token (kind.Key keys.Return) w.first.middle in form_by ts h w.first.first refl (stmt_by ts h w.first.first refl refl refl refl refl)

pub stmt_ahead : (s : StmtShape) (ts x : List Token) → Written (stmt_form s) ts x → StmtAhead ts
stmt_ahead (stmt p [] q f) ts x w = let m = w.1.middle in subst StmtAhead (sym w.1.first) (form_ahead f m x w.1.second.1).ahead
stmt_ahead (stmt p (b ∷ ms) q f) ts x w = let i = w.1.first in stmt_by ts (a_token (kind.Probe words.Block) i.middle) i.first.1 refl refl refl refl refl

-- what the tokens of items, up to a closing brace, don't begin with
pub record ItemsAhead (ts : List Token) : Type 0 where
  pub no_else : after_key keys.Else ts ≡ None
  pub no_specifier : spec_head ts ≡ no_spec

items_by_head : (ts : List Token) (h : Head) → head ts ≡ h → after_key_head keys.Else h ≡ None → spec_of_head h ≡ no_spec → ItemsAhead ts
items_by_head ts h e a b = record { no_else = ap (after_key_head keys.Else) e ∙ a; no_specifier = ap spec_of_head e ∙ b }

pub items_ahead : (is' : ItemShapes) (ts x y : List Token) → Written (items_form is') ts x → head x ≡ a_token (kind.Mark marks.RightBrace) y → ItemsAhead ts
items_ahead no_items ts x y w h = items_by_head ts (a_token (kind.Mark marks.RightBrace) y) (ap head w ∙ h) refl refl
items_ahead (more_items [] s rest) ts x y w h =
    let i = w.second in
    let a = stmt_ahead s w.middle i.middle i.first in
    record { no_else = ap (after_key keys.Else) w.first ∙ a.no_else; no_specifier = ap spec_head w.first ∙ a.no_specifier }
items_ahead (more_items (case p e ∷ ls) s rest) ts x y w h = let i = w.first in items_by_head ts (a_token (kind.Key keys.Case) i.middle) i.first.1 refl refl
items_ahead (more_items (default p ∷ ls) s rest) ts x y w h = let i = w.first in items_by_head ts (a_token (kind.Key keys.Default) i.middle) i.first.1 refl refl

-- an item isn't the closing brace
item_no_brace : (ls : List LabelShape) (s : StmtShape) (ts u v : List Token) → Written (labels_form ls) ts u → Written (stmt_form s) u v → after marks.RightBrace ts ≡ None
item_no_brace [] s ts u v w i = ap (after marks.RightBrace) w ∙ (stmt_ahead s u v i).no_right_brace
item_no_brace (case p e ∷ ls) s ts u v w i = ap (after_head marks.RightBrace) w.first.1
item_no_brace (default p ∷ ls) s ts u v w i = ap (after_head marks.RightBrace) w.first.1

-- PARTS

pub marks_found : (ms : List ProbeMark) (ts x : List Token) → Written (marks_form ms) ts x → mark_ahead x ≡ None → Finds reads_marks ts (got ms x)
marks_found [] ts x w e = subst (λ y. Finds reads_marks ts (got [] y)) w (marks_stop ts (ap mark_ahead w ∙ e))
marks_found (b ∷ ms) ts x w e =
    let r = w.middle in
    let i = w.second in
    let j = i.first in
    let k = j.second in
    let l = i.second in
    subst (λ p. Finds reads_marks ts (got (record { pos = p; number = b.number } ∷ ms) x)) (sym w.first.0)
    (marks_on ts l.middle b.number (got ms x)
    (mark_found ts r k.middle i.middle l.middle b.number (after_probe_of words.Block ts r w.first.1) (numbered_of b.number r j.middle k.middle j.first k.first) (after_of marks.RightParen k.middle i.middle k.second) (after_of marks.Colon i.middle l.middle l.first))
    (marks_found ms l.middle x l.second e))

parens_at : (a : NodeShape) (d : ℕ) (ts x : List Token) → Shaped a → Written (mark marks.LeftParen ▷ node_form a ▷ mark marks.RightParen) ts x → height a + d ≤ 400 → Finds (parens d) ts (got a x)
parens_at a d ts x s w low =
    let i = w.second in
    parens_found d a ts w.middle i.middle x (after_of marks.LeftParen ts w.middle w.first) (complete_before a 0 d w.middle i.middle x marks.RightParen s i.first (omega arith) low i.second refl) (after_of marks.RightParen i.middle x i.second)

optional_at : (m : Mark) (e : MaybeNode) (d : ℕ) (ts x : List Token) → ShapedMaybe 0 e → Written (maybe_node_form e ▷ mark m) ts x → maybe_height e + d ≤ 400 → ((r : List Token) → sign_head (a_token (kind.Mark m) r) ≡ no_sign) → ((r : List Token) → start_mark m r ≡ no_start) → Finds (optional m d) ts (got e x)
optional_at m no_node d ts x s w low h n = optional_none m d ts x (ap (after m) w.first ∙ after_of m w.middle x w.second)
optional_at m (one_node a) d ts x s w low h n =
    optional_found m d a ts w.middle x (node_not_mark m a ts w.middle w.first n) (complete_before a 0 d ts w.middle x m s.1 w.first (omega arith) low w.second (h x)) (after_of m w.middle x w.second)

-- labels stand a level above their expressions
abbrev LabelsLow : ℕ → List LabelShape → Type 0
LabelsLow d [] = Unit {0}
LabelsLow d (l ∷ ls) = labels_height (l ∷ ls) + suc d ≤ 400

lower_labels : (d : ℕ) (l : LabelShape) (ls : List LabelShape) → LabelsLow d (l ∷ ls) → LabelsLow d ls
lower_labels d l [] low = tt
lower_labels d l (m ∷ ls) low =
    let h = labels_height (m ∷ ls) in
    omega (arith, low)

labels_found : (ls : List LabelShape) (d : ℕ) (ts x : List Token) → ShapedLabels ls → Written (labels_form ls) ts x → LabelsLow d ls → after_key keys.Case x ≡ None → after_key keys.Default x ≡ None → Finds (reads_labels d) ts (got ls x)
labels_found [] d ts x s w low e f = subst (λ y. Finds (reads_labels d) ts (got [] y)) w (labels_stop d ts (ap (after_key keys.Case) w ∙ e) (ap (after_key keys.Default) w ∙ f))
labels_found (case p a ∷ ls) d ts x s w low e f =
    let i = w.second in
    let j = i.second in
    subst (λ p. Finds (reads_labels d) ts (got (case p a ∷ ls) x)) (sym w.first.0)
    (labels_case d a ts w.middle i.middle j.middle (got ls x) (after_key_of keys.Case ts w.middle w.first.1)
    (complete_before a 2 (suc d) w.middle i.middle j.middle marks.Colon s.1 i.first s.0 (omega (arith, low)) j.first refl)
    (after_of marks.Colon i.middle j.middle j.first)
    (labels_found ls d j.middle x s.2 j.second (lower_labels d (case p a) ls low) e f))
labels_found (default p ∷ ls) d ts x s w low e f =
    let i = w.second in
    subst (λ p. Finds (reads_labels d) ts (got (default p ∷ ls) x)) (sym w.first.0)
    (labels_default d ts w.middle i.middle (got ls x) (after_key_of keys.Default ts w.middle w.first.1) (after_of marks.Colon w.middle i.middle i.first)
    (labels_found ls d i.middle x s i.second (lower_labels d (default p) ls low) e f))

item_labels_low : (ls : List LabelShape) (h d : ℕ) → item_height ls h + d ≤ 400 → LabelsLow d ls
item_labels_low [] h d low = tt
item_labels_low (l ∷ ls) h d low =
    let m = labels_height (l ∷ ls) in
    omega (arith, low)

item_stmt_low : (ls : List LabelShape) (h d : ℕ) → item_height ls h + d ≤ 400 → h + depth_behind d ls ≤ 400
item_stmt_low [] h d low = low
item_stmt_low (l ∷ ls) h d low =
    let m = labels_height (l ∷ ls) in
    omega (arith, low)

-- STATEMENTS

mutual
  pub complete_stmt : (s : StmtShape) (d : ℕ) (ts x : List Token) → ShapedStmt s → Written (stmt_form s) ts x → stmt_height s + d ≤ 400 → Ends s x → Finds (reads_stmt d) ts (got s x)
  complete_stmt (stmt p ms q f) d ts x s w low e =
      let m = w.1.middle in
      let b = w.1.second in
      subst (λ p. Finds (reads_stmt d) ts (got (stmt p ms q f) x)) (sym w.0)
      (subst (λ q. Finds (reads_stmt d) ts (got (stmt (place ts) ms q f) x)) (sym b.0)
      (stmt_found d ms f ts m x (omega (arith, low)) (marks_found ms ts m w.1.first (form_ahead f m x b.1).no_block_probe) (complete_form f d m x s b.1 low e)))

  pub complete_form : (f : FormShape) (d : ℕ) (ts x : List Token) → ShapedForm f → Written (body_form f) ts x → suc (form_height f) + d ≤ 400 → EndsForm f x → Finds (reads_form d) ts (got f x)
  complete_form (compound c) d ts x s w low e =
      let i = complete_compound c (suc d) ts x s w (omega (arith, low)) in
      form_compound d ts i.0 (got (compound c) x) (after_of marks.LeftBrace ts i.0 i.1) (compound_form_found d (place ts) c i.0 x i.2)
  complete_form (simply no_node) d ts x s w low e =
      let h : head ts ≡ a_token (kind.Mark marks.Semicolon) x = ap head w.first ∙ w.second in
      form_simple d ts (got (simply no_node) x) (ap (after_head marks.LeftBrace) h) (ap (after_key_head keys.If) h) (ap (after_key_head keys.While) h) (ap (after_key_head keys.Do) h) (ap (after_key_head keys.For) h) (ap (after_key_head keys.Switch) h) (ap (after_key_head keys.Break) h) (ap (after_key_head keys.Continue) h) (ap (after_key_head keys.Return) h)
      (simple_found d no_node ts x (optional_at marks.Semicolon no_node (suc d) ts x s w (omega (arith, low)) (λ r. refl) (λ r. refl)))
  complete_form (simply (one_node a)) d ts x s w low e =
      let n = node_ahead a ts w.middle w.first in
      form_simple d ts (got (simply (one_node a)) x) n.no_left_brace n.no_if n.no_while n.no_do n.no_for n.no_switch n.no_break n.no_continue n.no_return
      (simple_found d (one_node a) ts x (optional_at marks.Semicolon (one_node a) (suc d) ts x s w (omega (arith, low)) (λ r. refl) (λ r. refl)))
  complete_form (when a s) d ts x sh w low e =
      let r = w.middle in
      let i = w.second in
      form_if d ts r (got (when a s) x) (after_key_of keys.If ts r w.first)
      (if_plain d a s r i.middle x (parens_at a (suc d) r i.middle sh.0 i.first (omega (arith, low))) (complete_stmt s (suc d) i.middle x sh.1 i.second (omega (arith, low)) (any_ends s x e)) e)
  complete_form (either a s t) d ts x sh w low e =
      let r = w.middle in
      let i = w.second in
      let j = i.second in
      let k = j.second in
      form_if d ts r (got (either a s t) x) (after_key_of keys.If ts r w.first)
      (if_else d a s t r i.middle j.middle k.middle x (parens_at a (suc d) r i.middle sh.0 i.first (omega (arith, low)))
      (complete_stmt s (suc d) i.middle j.middle sh.1 j.first (omega (arith, low)) (closed_ends s j.middle sh.2))
      (after_key_of keys.Else j.middle k.middle k.first)
      (complete_stmt t (suc d) k.middle x sh.3 k.second (omega (arith, low)) e))
  complete_form (while a s) d ts x sh w low e =
      let r = w.middle in
      let i = w.second in
      form_while d ts r (got (while a s) x) (after_key_of keys.While ts r w.first)
      (while_found d a s r i.middle x (parens_at a (suc d) r i.middle sh.0 i.first (omega (arith, low))) (complete_stmt s (suc d) i.middle x sh.1 i.second (omega (arith, low)) e))
  complete_form (do_while s a) d ts x sh w low e =
      let r = w.middle in
      let i = w.second in
      let j = i.second in
      let k = j.second in
      form_do d ts r (got (do_while s a) x) (after_key_of keys.Do ts r w.first)
      (do_found d s a r i.middle j.middle k.middle x
      (complete_stmt s (suc d) r i.middle sh.0 i.first (omega (arith, low)) (any_ends s i.middle (ap (after_key_head keys.Else) j.first)))
      (after_key_of keys.While i.middle j.middle j.first)
      (parens_at a (suc d) j.middle k.middle sh.1 k.first (omega (arith, low)))
      (after_of marks.Semicolon k.middle x k.second))
  complete_form (for a b c s) d ts x sh w low e =
      let r = w.middle in
      let i = w.second in
      let j = i.first in
      let k = j.second in
      let l = k.first in
      let n = l.second in
      form_for d ts r (got (for a b c s) x) (after_key_of keys.For ts r w.first)
      (for_found d a b c s r j.middle l.middle n.middle i.middle x (after_of marks.LeftParen r j.middle j.first)
      (optional_at marks.Semicolon a (suc d) j.middle l.middle sh.0 l.first (omega (arith, low)) (λ r. refl) (λ r. refl))
      (optional_at marks.Semicolon b (suc d) l.middle n.middle sh.1 n.first (omega (arith, low)) (λ r. refl) (λ r. refl))
      (optional_at marks.RightParen c (suc d) n.middle i.middle sh.2 (record { middle = k.middle; first = n.second; second = k.second }) (omega (arith, low)) (λ r. refl) (λ r. refl))
      (complete_stmt s (suc d) i.middle x sh.3 i.second (omega (arith, low)) e))
  complete_form (switch a is') d ts x sh w low e =
      let r = w.middle in
      let i = w.second in
      let j = i.second in
      let k = j.second in
      form_switch d ts r (got (switch a is') x) (after_key_of keys.Switch ts r w.first)
      (switch_found d a is' r i.middle j.middle k.middle x (parens_at a (suc d) r i.middle sh.0 i.first (omega (arith, low))) (after_of marks.LeftBrace i.middle j.middle j.first)
      (complete_items is' (suc d) j.middle k.middle x sh.1 k.first k.second (omega (arith, low)))
      (after_of marks.RightBrace k.middle x k.second))
  complete_form break d ts x sh w low e = form_break d ts w.middle x (after_key_of keys.Break ts w.middle w.first) (after_of marks.Semicolon w.middle x w.second)
  complete_form continue d ts x sh w low e = form_continue d ts w.middle x (after_key_of keys.Continue ts w.middle w.first) (after_of marks.Semicolon w.middle x w.second)
  complete_form (return a) d ts x sh w low e =
      let i = w.first in
      form_return d ts i.middle (got (return a) x) (after_key_of keys.Return ts i.middle i.first)
      (return_found d a i.middle x (optional_at marks.Semicolon a (suc d) i.middle x sh (record { middle = w.middle; first = i.second; second = w.second }) (omega (arith, low)) (λ r. refl) (λ r. refl)))

  -- behind its brace
  pub complete_compound : (c : CompoundShape) (d : ℕ) (ts x : List Token) → ShapedCompound c → Written (compound_form c) ts x → compound_height c + d ≤ 400 → (r : List Token) × (head ts ≡ a_token (kind.Mark marks.LeftBrace) r) × Finds (reads_compound d (place ts)) r (got c x)
  complete_compound (braces p ds is') d ts x sh w low =
      let r = w.middle in
      let i = w.second in
      let j = i.second in (
        r,
        w.first.1,
        subst (λ p. Finds (reads_compound d (place ts)) r (got (braces p ds is') x)) (sym w.first.0)
            (compound_found d (place ts) ds is' r i.middle j.middle x (omega (arith, low))
            (complete_declarations ds (suc d) r i.middle sh.0 i.first (omega (arith, low)) (items_ahead is' i.middle j.middle x j.first j.second).no_specifier)
            (complete_items is' (suc d) i.middle j.middle x sh.1 j.first j.second (omega (arith, low)))
            (after_of marks.RightBrace j.middle x j.second)),
      )

  -- up to a closing brace
  pub complete_items : (is' : ItemShapes) (d : ℕ) (ts x y : List Token) → ShapedItems is' → Written (items_form is') ts x → head x ≡ a_token (kind.Mark marks.RightBrace) y → items_height is' + d ≤ 400 → Finds (reads_items d) ts (got is' x)
  complete_items no_items d ts x y sh w h low = subst (λ z. Finds (reads_items d) ts (got no_items z)) w (items_end d ts y (ap (after marks.RightBrace) w ∙ after_of marks.RightBrace x y h))
  complete_items (more_items ls s rest) d ts x y sh w h low =
      let u = w.middle in
      let i = w.second in
      let v = i.middle in
      let own : item_height ls (stmt_height s) + d ≤ 400 = omega (arith, low) in
      let a = stmt_ahead s u v i.first in
      items_on d ls s ts u v (got rest x) (item_no_brace ls s ts u v w.first i.first)
      (labels_found ls d ts u sh.0 w.first (item_labels_low ls (stmt_height s) d own) a.no_case a.no_default)
      (complete_stmt s (depth_behind d ls) u v sh.1 i.first (item_stmt_low ls (stmt_height s) d own) (any_ends s v (items_ahead rest v x y i.second h).no_else))
      (complete_items rest d v x y sh.2 i.second h (omega (arith, low)))

-- EXTERNAL DECLARATIONS

never_both : (b c : Bool) → c ≡ false → (b && c) ≡ false
never_both true c e = e
never_both false c e = refl

always_both : (b c : Bool) → b ≡ true → c ≡ true → (b && c) ≡ true
always_both true c d e = e
always_both false c d e = d

-- a body, or a block probe before it
body_there : (ms : List ProbeMark) (ts x r : List Token) → Written (marks_form ms) ts x → head x ≡ a_token (kind.Mark marks.LeftBrace) r → body_ahead ts ≡ true
body_there [] ts x r w h = ap (λ o. is_some o || is_some (after_probe words.Block ts)) (ap (after_head marks.LeftBrace) (ap head w ∙ h))
body_there (b ∷ ms) ts x r w h = ap (λ o. is_some o || is_some (after_probe words.Block ts)) (ap (after_head marks.LeftBrace) w.first.1) ∙ ap is_some (ap (after_probe_head words.Block) w.first.1)

-- what may follow a function's declarator
body_ends : (ms : List ProbeMark) (ts x r : List Token) → Written (marks_form ms) ts x → head x ≡ a_token (kind.Mark marks.LeftBrace) r → names.Ends ts
body_ends [] ts x r w h = ends_brace ts r (ap head w ∙ h)
body_ends (b ∷ ms) ts x r w h = ends_block ts w.middle w.first.1

pub complete_external : (e : ExternalShape) (ts x : List Token) → ShapedExternal e → Written (external_form e) ts x → external_height e ≤ 400 → Finds reads_external ts (got e x)
complete_external (declared (decl p specs no_declarators)) ts x sh w low =
    let i = w.1 in
    let j = i.second in
    let h : head i.middle ≡ a_token (kind.Mark marks.Semicolon) x = ap head j.first ∙ j.second in
    subst (λ p. Finds reads_external ts (got (declared (decl p specs no_declarators)) x)) (sym w.0)
    (external_found specs ts i.middle (got (declared (decl (place ts) specs no_declarators)) x)
    (complete_some specs 1 ts i.middle sh.1 i.first (omega (arith, low)) (ap spec_of_head h) (ap (after_head marks.LeftBrace) h))
    (external_plain (place ts) specs i.middle x (after_of marks.Semicolon i.middle x h)))
complete_external (declared (decl p specs (more_declarators t rest))) ts x sh w low =
    let i = w.1 in
    let j = i.second in
    let k = j.first in
    let y = i.middle in
    let u = k.middle in
    let v = j.middle in
    let a = declarator_ahead t y u sh.1 k.first in
    let tree : DeclShape = decl (place ts) specs (more_declarators t rest) in
    subst (λ p. Finds reads_external ts (got (declared (decl p specs (more_declarators t rest))) x)) (sym w.0)
    (external_found specs ts y (got (declared tree) x)
    (complete_some specs 1 ts y sh.0 i.first (omega (arith, low)) a.no_specifier a.no_left_brace)
    (external_named (place ts) specs t y u (got (declared tree) x) a.no_semicolon
    (complete_first t 1 y u sh.1 k.first (omega (arith, low)) (led_declarators_end rest u v k.second (ends_semicolon v x j.second)))
    (external_declared (place ts) specs t tree u x (never_both (is_function t) (body_ahead u) (no_body rest u v x k.second j.second))
    (declaring_found in_names 1 0 (place ts) specs t u v x rest (complete_further rest 1 u v x sh.2 k.second (omega (arith, low)) j.second) (after_of marks.Semicolon v x j.second)))))
complete_external (defined specs t ms c) ts x sh w low =
    let i = w.second in
    let j = i.second in
    let y = w.middle in
    let u = i.middle in
    let v = j.middle in
    let a = declarator_ahead t y u sh.2 i.first in
    let b = complete_compound c 1 v x sh.3 j.second (omega (arith, low)) in
    external_found specs ts y (got (defined specs t ms c) x)
    (complete_some specs 1 ts y sh.0 w.first (omega (arith, low)) a.no_specifier a.no_left_brace)
    (external_named (place ts) specs t y u (got (defined specs t ms c) x) a.no_semicolon
    (complete_first t 1 y u sh.2 i.first (omega (arith, low)) (body_ends ms u v b.0 j.first b.1))
    (external_defined (place ts) specs t u (got (defined specs t ms c) x) (always_both (is_function t) (body_ahead u) (function_there t sh.1) (body_there ms u v b.0 j.first b.1))
    (function_found specs t ms c u v b.0 x (marks_found ms u v j.first (unmarked v (ap (after_probe_head words.Block) b.1))) (after_of marks.LeftBrace v b.0 b.1) b.2)))
