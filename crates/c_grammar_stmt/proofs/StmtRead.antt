-- What the code of statements reads, and how deep it is: one step for each way that reading goes.
use Rattle.std.proofs.Common.{◌≡◌, ℕ, zero, suc, ◌+◌, ◌≤◌, ◌<◌, List, [], ◌∷◌, ◌++◌, length, Option, Some, None, Result, Ok, Err, true, false, refl, sym, ap, ◌∙◌, subst, arith}
use Rattle.std.specs.Prelude.{max, map, is_some, IfOk}
use Rattle.c_base.specs.declared.place.Pos.{Pos}
use Rattle.c_syntax.specs.declared.token.Mark.{Mark}
use Rattle.c_syntax.specs.declared.token.Mark.TheVariants as marks
use Rattle.c_syntax.specs.declared.token.Key.TheVariants as keys
use Rattle.c_syntax.specs.declared.token.Token.{Token}
use Rattle.c_syntax.specs.declared.tree.ProbeMark.{ProbeMark}
use Rattle.c_syntax.specs.declared.tree.Label.{Label}
use Rattle.c_syntax.specs.declared.tree.Item.{Item}
use Rattle.c_syntax.specs.declared.tree.Stmt.{Stmt}
use Rattle.c_syntax.specs.Forms.{place}
use Rattle.c_syntax.specs.Shape.{NodeShape, MaybeNode, no_node, one_node, DeclShapes, LabelShape, case, default, StmtShape, stmt, FormShape, compound, simply, when, either, while, do_while, for, switch, break, continue, return, CompoundShape, braces, ItemShapes, no_items}
use Rattle.c_syntax.specs.Shaped.{in_names}
use Rattle.c_syntax.specs.View.{label_shape, stmt_shape, item_list}
use Rattle.c_syntax.specs.Levels.{height, maybe_height, decls_height, case_height, labels_height, item_height, stmt_height, form_height, compound_height, items_height}
use Rattle.c_grammar.specs.declared.size.Size.{Size}
use Rattle.c_grammar.specs.Look.{Got, got, then_go, either_way, Finds, after, after_key}
use Rattle.c_grammar.specs.Reader.{reads, reads_decls}
use Rattle.c_grammar.specs.Found.{NodeFound, Found}
use Rattle.c_grammar_stmt.specs.StmtReader.{for_made, reads_marks, reads_labels, depth_behind, item_more, item_stmt, reads_stmt, reads_items, reads_compound, reads_form}
use Rattle.c_grammar_stmt.specs.StmtParts.{parens, optional, if_parts, while_parts, do_parts, for_parts, switch_parts, one_label, label_there, item_cons, LabelsFrom, ItemsFrom}
use Rattle.c_grammar_stmt.specs.StmtFound.{brace_there, NoNest, HeadFound, ItemFound}
use Rattle.c_grammar.proofs.Looking.{find_from}
use Rattle.c_grammar.proofs.Leading.{leads_more, leads_fail}
use Rattle.c_grammar.proofs.ExprSteps.{high_none}
use Rattle.c_grammar_stmt.proofs.StmtSteps.{stmt_found, items_on, items_labels_fail, items_stmt_fail, item_list_done, depth_plain, depth_labelled, compound_found, compound_decls_fail, compound_items_fail, compound_open}
use Rattle.c_grammar_stmt.proofs.FormSteps.{parens_found, parens_open, optional_none, optional_found, optional_open, if_plain, if_else, if_fails, if_then_fails, if_else_fails, while_found, while_fails, while_body_fails, do_found, do_fails, do_whileless, do_condition_fails, do_unended, for_found, for_first_fails, for_second_fails, for_third_fails, for_body_fails, switch_found, switch_fails, switch_bare, switch_items_fail, switch_open, return_found, return_fails, simple_found, simple_fails, compound_form_found, compound_form_fails, form_compound, form_if, form_while, form_do, form_for, form_switch, form_return, form_break, form_continue, form_simple}
use Rattle.c_grammar_stmt.proofs.StmtLabels.{one_case, one_case_fails, one_case_open, one_default, label_list_more, label_list_end}

-- LEVELS

one_above : (h x n : ℕ) → h ≡ x → n ≡ h + 1 → n ≡ suc x
one_above h x n e l = omega (arith, e, l)

two_most : (h k x y n : ℕ) → n ≡ max h k → h ≡ x → k ≡ y → n ≡ max x y
two_most h k x y n m e f = omega (arith, m, e, f)

two_above : (h k x y v n : ℕ) → v ≡ max h k → h ≡ x → k ≡ y → n ≡ v + 1 → n ≡ suc (max x y)
two_above h k x y v n m e f l = omega (arith, m, e, f, l)

three_most : (h k l x y z v n : ℕ) → v ≡ max k l → n ≡ max h v → h ≡ x → k ≡ y → l ≡ z → n ≡ max x (max y z)
three_most h k l x y z v n m i e f g = omega (arith, m, i, e, f, g)

found_as : {A : Type 0} (f : ℕ → List Token → Got A) (levels_of : A → ℕ) (ts : List Token) (a c : A) (h : ℕ) (y : List Token) → c ≡ a → Finds f ts (got a y) → h ≡ levels_of a → Found f levels_of ts c h y
found_as f levels_of ts a c h y same p l = record {
  finds = subst (λ x. Finds f ts (got x y)) (sym same) p;
  levels = l ∙ ap levels_of (sym same);
}

-- the code's `depth + 1` is the reader's `suc depth`
up : {A : Type 0} {ts : List Token} {z : Got A} (f : ℕ → ℕ → List Token → Got A) (d : ℕ) → Finds (f (d + 1)) ts z → Finds (f (suc d)) ts z
up {ts = ts} {z = z} f d p = subst (λ e. Finds (f e) ts z) (omega arith) p

-- EXPRESSIONS IN PARENTHESES, AND EXPRESSIONS THAT MAY BE LEFT OUT

pub parens_read : (d : ℕ) (a : NodeShape) (s : Size) (ts r x y : List Token) → after marks.LeftParen ts ≡ Some r → NodeFound (reads 0 d 0) r a s x → after marks.RightParen x ≡ Some y → Found (parens d) height ts a s.levels y
parens_read d a s ts r x y e f c = record { finds = parens_found d a ts r x y e f.finds c; levels = f.size.levels }

pub parens_unclosed : (d : ℕ) (a : NodeShape) (s : Size) (ts r x : List Token) → after marks.LeftParen ts ≡ Some r → NodeFound (reads 0 d 0) r a s x → after marks.RightParen x ≡ None → Finds (parens d) ts None
parens_unclosed d a s ts r x e f c = parens_open d a ts r x e f.finds c

pub optional_left : (m : Mark) (d : ℕ) (ts r : List Token) → after m ts ≡ Some r → Found (optional m d) maybe_height ts no_node 0 r
optional_left m d ts r e = record { finds = optional_none m d ts r e; levels = refl }

pub optional_read : (m : Mark) (d : ℕ) (a : NodeShape) (s : Size) (ts x y : List Token) → after m ts ≡ None → NodeFound (reads 0 d 0) ts a s x → after m x ≡ Some y → Found (optional m d) maybe_height ts (one_node a) s.levels y
optional_read m d a s ts x y e f c = record { finds = optional_found m d a ts x y e f.finds c; levels = f.size.levels }

pub optional_unclosed : (m : Mark) (d : ℕ) (a : NodeShape) (s : Size) (ts x : List Token) → after m ts ≡ None → NodeFound (reads 0 d 0) ts a s x → after m x ≡ None → Finds (optional m d) ts None
optional_unclosed m d a s ts x e f c = optional_open m d a ts x e f.finds c

-- FORMS THAT HOLD NO STATEMENT

pub break_read : (d : ℕ) (ts r x : List Token) → after_key keys.Break ts ≡ Some r → after marks.Semicolon r ≡ Some x → Found (reads_form d) form_height ts break 0 x
break_read d ts r x e c = record { finds = form_break d ts r x e c; levels = refl }

pub continue_read : (d : ℕ) (ts r x : List Token) → after_key keys.Continue ts ≡ Some r → after marks.Semicolon r ≡ Some x → Found (reads_form d) form_height ts continue 0 x
continue_read d ts r x e c = record { finds = form_continue d ts r x e c; levels = refl }

pub return_read : (d h : ℕ) (v : MaybeNode) (ts r x : List Token) → after_key keys.Return ts ≡ Some r → Found (optional marks.Semicolon (d + 1)) maybe_height r v h x → Found (reads_form d) form_height ts (return v) h x
return_read d h v ts r x e p = record { finds = form_return d ts r (got (return v) x) e (return_found d v r x (up (optional marks.Semicolon) d p.finds)); levels = p.levels }

pub return_unread : (d : ℕ) (ts r : List Token) → after_key keys.Return ts ≡ Some r → Finds (optional marks.Semicolon (d + 1)) r None → Finds (reads_form d) ts None
return_unread d ts r e p = form_return d ts r None e (return_fails d r (up (optional marks.Semicolon) d p))

pub plain_read : (d h : ℕ) (v : MaybeNode) (ts x : List Token) → NoNest ts → after_key keys.Break ts ≡ None → after_key keys.Continue ts ≡ None → after_key keys.Return ts ≡ None → Found (optional marks.Semicolon (d + 1)) maybe_height ts v h x → Found (reads_form d) form_height ts (simply v) h x
plain_read d h v ts x n a b c p = record { finds = form_simple d ts (got (simply v) x) n.no_brace n.no_if n.no_while n.no_do n.no_for n.no_switch a b c (simple_found d v ts x (up (optional marks.Semicolon) d p.finds)); levels = p.levels }

pub plain_unread : (d : ℕ) (ts : List Token) → NoNest ts → after_key keys.Break ts ≡ None → after_key keys.Continue ts ≡ None → after_key keys.Return ts ≡ None → Finds (optional marks.Semicolon (d + 1)) ts None → Finds (reads_form d) ts None
plain_unread d ts n a b c p = form_simple d ts None n.no_brace n.no_if n.no_while n.no_do n.no_for n.no_switch a b c (simple_fails d ts (up (optional marks.Semicolon) d p))

-- LABELS

pub case_read : (d : ℕ) (a : NodeShape) (l : LabelShape) (s : Size) (ts r x y : List Token) → after_key keys.Case ts ≡ Some r → NodeFound (reads 2 (d + 1) 0) r a s x → after marks.Colon x ≡ Some y → l ≡ case (place ts) a → Found (one_label d) case_height ts l s.levels y
case_read d a l s ts r x y e f c same = found_as (one_label d) case_height ts (case (place ts) a) l s.levels y same (one_case d a ts r x y e (up (λ e. reads 2 e 0) d f.finds) c) f.size.levels

pub case_unended : (d : ℕ) (a : NodeShape) (s : Size) (ts r x : List Token) → after_key keys.Case ts ≡ Some r → NodeFound (reads 2 (d + 1) 0) r a s x → after marks.Colon x ≡ None → Finds (one_label d) ts None
case_unended d a s ts r x e f c = one_case_open d a ts r x e (up (λ e. reads 2 e 0) d f.finds) c

pub case_unread : (d : ℕ) (ts r : List Token) → after_key keys.Case ts ≡ Some r → Finds (reads 2 (d + 1) 0) r None → Finds (one_label d) ts None
case_unread d ts r e p = one_case_fails d ts r e (up (λ e. reads 2 e 0) d p)

pub default_read : (d : ℕ) (l : LabelShape) (ts r x : List Token) → after_key keys.Default ts ≡ Some r → after marks.Colon r ≡ Some x → l ≡ default (place ts) → Found (one_label d) case_height ts l 0 x
default_read d l ts r x e c same = found_as (one_label d) case_height ts (default (place ts)) l 0 x same (one_default d ts r x e c) refl

labels_higher : (l : List Label) (a : Label) → labels_height (map label_shape (l ++ a ∷ [])) ≡ max (labels_height (map label_shape l)) (case_height (label_shape a))
labels_higher [] a = omega arith
labels_higher (b ∷ l) a = ap (max (case_height (label_shape b))) (labels_higher l a) ∙ omega arith

pub labels_measured : (d : ℕ) (l' l : List Label) (a : Label) (h k n : ℕ) (ts x : List Token) → h ≡ labels_height (map label_shape l) → Found (one_label d) case_height ts (label_shape a) k x → n ≡ max h k → l' ≡ l ++ a ∷ [] → n ≡ labels_height (map label_shape l')
labels_measured d l' l a h k n ts x p f m same = omega (arith, p, f.levels, m, labels_higher l a, ap (λ z. labels_height (map label_shape z)) same)

pub labels_further : (d : ℕ) (l' l : List Label) (a : Label) (h : ℕ) (ts rest x : List Token) → LabelsFrom d l ts rest → label_there rest ≡ true → Found (one_label d) case_height rest (label_shape a) h x → l' ≡ l ++ a ∷ [] → LabelsFrom d l' ts x
labels_further d l' l a h ts rest x p e f same = label_list_more l' d l a ts rest x p e f.finds same

pub labels_read : (d h : ℕ) (l : List Label) (ts rest : List Token) → LabelsFrom d l ts rest → label_there rest ≡ false → h ≡ labels_height (map label_shape l) → Found (reads_labels d) labels_height ts (map label_shape l) h rest
labels_read d h l ts rest p e m = record { finds = label_list_end d l ts rest p e; levels = m }

-- FORMS BEHIND THEIR KEYWORDS

pub when_read : (d h k n : ℕ) (c : NodeShape) (s : StmtShape) (f : FormShape) (ts x y : List Token) → Found (parens (d + 1)) height ts c h x → Found (reads_stmt (d + 1)) stmt_height x s k y → after_key keys.Else y ≡ None → f ≡ when c s → n ≡ max h k → Found (if_parts d) form_height ts f n y
when_read d h k n c s f ts x y p q e same m =
    found_as (if_parts d) form_height ts (when c s) f n y same (if_plain d c s ts x y (up parens d p.finds) (up reads_stmt d q.finds) e) (two_most h k (height c) (stmt_height s) n m p.levels q.levels)

pub either_read : (d h k l v n : ℕ) (c : NodeShape) (s t : StmtShape) (f : FormShape) (ts x y u w : List Token) → Found (parens (d + 1)) height ts c h x → Found (reads_stmt (d + 1)) stmt_height x s k y → after_key keys.Else y ≡ Some u → Found (reads_stmt (d + 1)) stmt_height u t l w → f ≡ either c s t → v ≡ max k l → n ≡ max h v → Found (if_parts d) form_height ts f n w
either_read d h k l v n c s t f ts x y u w p q e z same m i =
    found_as (if_parts d) form_height ts (either c s t) f n w same (if_else d c s t ts x y u w (up parens d p.finds) (up reads_stmt d q.finds) e (up reads_stmt d z.finds)) (three_most h k l (height c) (stmt_height s) (stmt_height t) v n m i p.levels q.levels z.levels)

pub if_testless : (d : ℕ) (ts : List Token) → Finds (parens (d + 1)) ts None → Finds (if_parts d) ts None
if_testless d ts p = if_fails d ts (up parens d p)

pub if_unread : (d h : ℕ) (c : NodeShape) (ts x : List Token) → Found (parens (d + 1)) height ts c h x → Finds (reads_stmt (d + 1)) x None → Finds (if_parts d) ts None
if_unread d h c ts x p q = if_then_fails d c ts x (up parens d p.finds) (up reads_stmt d q)

pub else_unread : (d h k : ℕ) (c : NodeShape) (s : StmtShape) (ts x y u : List Token) → Found (parens (d + 1)) height ts c h x → Found (reads_stmt (d + 1)) stmt_height x s k y → after_key keys.Else y ≡ Some u → Finds (reads_stmt (d + 1)) u None → Finds (if_parts d) ts None
else_unread d h k c s ts x y u p q e z = if_else_fails d c s ts x y u (up parens d p.finds) (up reads_stmt d q.finds) e (up reads_stmt d z)

pub while_read : (d h k n : ℕ) (c : NodeShape) (s : StmtShape) (f : FormShape) (ts x y : List Token) → Found (parens (d + 1)) height ts c h x → Found (reads_stmt (d + 1)) stmt_height x s k y → f ≡ while c s → n ≡ max h k → Found (while_parts d) form_height ts f n y
while_read d h k n c s f ts x y p q same m =
    found_as (while_parts d) form_height ts (while c s) f n y same (while_found d c s ts x y (up parens d p.finds) (up reads_stmt d q.finds)) (two_most h k (height c) (stmt_height s) n m p.levels q.levels)

pub while_testless : (d : ℕ) (ts : List Token) → Finds (parens (d + 1)) ts None → Finds (while_parts d) ts None
while_testless d ts p = while_fails d ts (up parens d p)

pub while_unread : (d h : ℕ) (c : NodeShape) (ts x : List Token) → Found (parens (d + 1)) height ts c h x → Finds (reads_stmt (d + 1)) x None → Finds (while_parts d) ts None
while_unread d h c ts x p q = while_body_fails d c ts x (up parens d p.finds) (up reads_stmt d q)

pub do_read : (d h k n : ℕ) (s : StmtShape) (c : NodeShape) (f : FormShape) (ts x y u v : List Token) → Found (reads_stmt (d + 1)) stmt_height ts s h x → after_key keys.While x ≡ Some y → Found (parens (d + 1)) height y c k u → after marks.Semicolon u ≡ Some v → f ≡ do_while s c → n ≡ max h k → Found (do_parts d) form_height ts f n v
do_read d h k n s c f ts x y u v p a q e same m =
    found_as (do_parts d) form_height ts (do_while s c) f n v same (do_found d s c ts x y u v (up reads_stmt d p.finds) a (up parens d q.finds) e) (two_most h k (stmt_height s) (height c) n m p.levels q.levels)

pub do_bodiless : (d : ℕ) (ts : List Token) → Finds (reads_stmt (d + 1)) ts None → Finds (do_parts d) ts None
do_bodiless d ts p = do_fails d ts (up reads_stmt d p)

pub do_bare : (d h : ℕ) (s : StmtShape) (ts x : List Token) → Found (reads_stmt (d + 1)) stmt_height ts s h x → after_key keys.While x ≡ None → Finds (do_parts d) ts None
do_bare d h s ts x p a = do_whileless d s ts x (up reads_stmt d p.finds) a

pub do_unread : (d h : ℕ) (s : StmtShape) (ts x y : List Token) → Found (reads_stmt (d + 1)) stmt_height ts s h x → after_key keys.While x ≡ Some y → Finds (parens (d + 1)) y None → Finds (do_parts d) ts None
do_unread d h s ts x y p a q = do_condition_fails d s ts x y (up reads_stmt d p.finds) a (up parens d q)

pub do_open : (d h k : ℕ) (s : StmtShape) (c : NodeShape) (ts x y u : List Token) → Found (reads_stmt (d + 1)) stmt_height ts s h x → after_key keys.While x ≡ Some y → Found (parens (d + 1)) height y c k u → after marks.Semicolon u ≡ None → Finds (do_parts d) ts None
do_open d h k s c ts x y u p a q e = do_unended d s c ts x y u (up reads_stmt d p.finds) a (up parens d q.finds) e

for_on : (d : ℕ) (a b c : MaybeNode) (ts r x y u : List Token) → after marks.LeftParen ts ≡ Some r → Finds (optional marks.Semicolon (suc d)) r (got a x) → Finds (optional marks.Semicolon (suc d)) x (got b y) → Finds (optional marks.RightParen (suc d)) y (got c u) → (z : Got StmtShape) → Finds (reads_stmt (suc d)) u z → Finds (for_parts d) ts (then_go z (for_made a b c))
for_on d a b c ts r x y u e p q w None t = for_body_fails d a b c ts r x y u e p q w t
for_on d a b c ts r x y u e p q w (Some g) t = for_found d a b c g.0 ts r x y u g.1 e p q w t

pub head_read : (d h k l v n : ℕ) (a b c : MaybeNode) (ts r x y u : List Token) → after marks.LeftParen ts ≡ Some r → Found (optional marks.Semicolon (d + 1)) maybe_height r a h x → Found (optional marks.Semicolon (d + 1)) maybe_height x b k y → Found (optional marks.RightParen (d + 1)) maybe_height y c l u → v ≡ max k l → n ≡ max h v → HeadFound d ts a b c n u
head_read d h k l v n a b c ts r x y u e p q w m i = record {
  on = for_on d a b c ts r x y u e (up (optional marks.Semicolon) d p.finds) (up (optional marks.Semicolon) d q.finds) (up (optional marks.RightParen) d w.finds);
  levels = three_most h k l (maybe_height a) (maybe_height b) (maybe_height c) v n m i p.levels q.levels w.levels;
}

pub head_first : (d : ℕ) (ts r : List Token) → after marks.LeftParen ts ≡ Some r → Finds (optional marks.Semicolon (d + 1)) r None → Finds (for_parts d) ts None
head_first d ts r e p = for_first_fails d ts r e (up (optional marks.Semicolon) d p)

pub head_second : (d h : ℕ) (a : MaybeNode) (ts r x : List Token) → after marks.LeftParen ts ≡ Some r → Found (optional marks.Semicolon (d + 1)) maybe_height r a h x → Finds (optional marks.Semicolon (d + 1)) x None → Finds (for_parts d) ts None
head_second d h a ts r x e p q = for_second_fails d a ts r x e (up (optional marks.Semicolon) d p.finds) (up (optional marks.Semicolon) d q)

pub head_third : (d h k : ℕ) (a b : MaybeNode) (ts r x y : List Token) → after marks.LeftParen ts ≡ Some r → Found (optional marks.Semicolon (d + 1)) maybe_height r a h x → Found (optional marks.Semicolon (d + 1)) maybe_height x b k y → Finds (optional marks.RightParen (d + 1)) y None → Finds (for_parts d) ts None
head_third d h k a b ts r x y e p q w = for_third_fails d a b ts r x y e (up (optional marks.Semicolon) d p.finds) (up (optional marks.Semicolon) d q.finds) (up (optional marks.RightParen) d w)

pub for_read : (d h k n : ℕ) (a b c : MaybeNode) (s : StmtShape) (f : FormShape) (ts u v : List Token) → HeadFound d ts a b c h u → Found (reads_stmt (d + 1)) stmt_height u s k v → f ≡ for a b c s → n ≡ max h k → Found (for_parts d) form_height ts f n v
for_read d h k n a b c s f ts u v p q same m =
    found_as (for_parts d) form_height ts (for a b c s) f n v same (p.on (got s v) (up reads_stmt d q.finds)) (omega (arith, m, p.levels, q.levels))

pub for_unread : (d h : ℕ) (a b c : MaybeNode) (ts u : List Token) → HeadFound d ts a b c h u → Finds (reads_stmt (d + 1)) u None → Finds (for_parts d) ts None
for_unread d h a b c ts u p q = p.on None (up reads_stmt d q)

pub switch_read : (d h k n : ℕ) (c : NodeShape) (l : ItemShapes) (f : FormShape) (ts x y u v : List Token) → Found (parens (d + 1)) height ts c h x → after marks.LeftBrace x ≡ Some y → Found (reads_items (d + 1)) items_height y l k u → after marks.RightBrace u ≡ Some v → f ≡ switch c l → n ≡ max h k → Found (switch_parts d) form_height ts f n v
switch_read d h k n c l f ts x y u v p a q e same m =
    found_as (switch_parts d) form_height ts (switch c l) f n v same (switch_found d c l ts x y u v (up parens d p.finds) a (up reads_items d q.finds) e) (two_most h k (height c) (items_height l) n m p.levels q.levels)

pub switch_testless : (d : ℕ) (ts : List Token) → Finds (parens (d + 1)) ts None → Finds (switch_parts d) ts None
switch_testless d ts p = switch_fails d ts (up parens d p)

pub switch_braceless : (d h : ℕ) (c : NodeShape) (ts x : List Token) → Found (parens (d + 1)) height ts c h x → after marks.LeftBrace x ≡ None → Finds (switch_parts d) ts None
switch_braceless d h c ts x p a = switch_bare d c ts x (up parens d p.finds) a

pub switch_unread : (d h : ℕ) (c : NodeShape) (ts x y : List Token) → Found (parens (d + 1)) height ts c h x → after marks.LeftBrace x ≡ Some y → Finds (reads_items (d + 1)) y None → Finds (switch_parts d) ts None
switch_unread d h c ts x y p a q = switch_items_fail d c ts x y (up parens d p.finds) a (up reads_items d q)

pub switch_unclosed : (d h k : ℕ) (c : NodeShape) (l : ItemShapes) (ts x y u : List Token) → Found (parens (d + 1)) height ts c h x → after marks.LeftBrace x ≡ Some y → Found (reads_items (d + 1)) items_height y l k u → after marks.RightBrace u ≡ None → Finds (switch_parts d) ts None
switch_unclosed d h k c l ts x y u p a q e = switch_open d c l ts x y u (up parens d p.finds) a (up reads_items d q.finds) e

-- FORMS BY THEIR FIRST TOKEN

pub where_ok : {T E : Type 0} {P Q : T → Type 0} (r : Result T E) → ((p : T) → P p → Q p) → IfOk r P → IfOk r Q
where_ok (Ok p) f h = f p h
where_ok (Err e) f h = h

pub no_nest : (ts : List Token) → after marks.LeftBrace ts ≡ None → after_key keys.If ts ≡ None → after_key keys.While ts ≡ None → after_key keys.Do ts ≡ None → after_key keys.For ts ≡ None → after_key keys.Switch ts ≡ None → NoNest ts
no_nest ts a b c e f g = record { no_brace = a; no_if = b; no_while = c; no_do = e; no_for = f; no_switch = g }

pub braced_read : (d h : ℕ) (q : Pos) (c : CompoundShape) (ts r x : List Token) → after marks.LeftBrace ts ≡ Some r → q ≡ place ts → Found (reads_compound (d + 1) q) compound_height r c h x → Found (reads_form d) form_height ts (compound c) h x
braced_read d h q c ts r x e at' p = record {
  finds = form_compound d ts r (got (compound c) x) e (compound_form_found d (place ts) c r x (subst (λ q. Finds (reads_compound (suc d) q) r (got c x)) at' (up (λ e. reads_compound e q) d p.finds)));
  levels = p.levels;
}

pub braced_unread : (d : ℕ) (q : Pos) (ts r : List Token) → after marks.LeftBrace ts ≡ Some r → q ≡ place ts → Finds (reads_compound (d + 1) q) r None → Finds (reads_form d) ts None
braced_unread d q ts r e at' p = form_compound d ts r None e (compound_form_fails d (place ts) r (subst (λ q. Finds (reads_compound (suc d) q) r None) at' (up (λ e. reads_compound e q) d p)))

pub at_if : (d h : ℕ) (f : FormShape) (ts r x : List Token) → after_key keys.If ts ≡ Some r → Found (if_parts d) form_height r f h x → Found (reads_form d) form_height ts f h x
at_if d h f ts r x e p = record { finds = form_if d ts r (got f x) e p.finds; levels = p.levels }

pub at_while : (d h : ℕ) (f : FormShape) (ts r x : List Token) → after_key keys.While ts ≡ Some r → Found (while_parts d) form_height r f h x → Found (reads_form d) form_height ts f h x
at_while d h f ts r x e p = record { finds = form_while d ts r (got f x) e p.finds; levels = p.levels }

pub at_do : (d h : ℕ) (f : FormShape) (ts r x : List Token) → after_key keys.Do ts ≡ Some r → Found (do_parts d) form_height r f h x → Found (reads_form d) form_height ts f h x
at_do d h f ts r x e p = record { finds = form_do d ts r (got f x) e p.finds; levels = p.levels }

pub at_for : (d h : ℕ) (f : FormShape) (ts r x : List Token) → after_key keys.For ts ≡ Some r → Found (for_parts d) form_height r f h x → Found (reads_form d) form_height ts f h x
at_for d h f ts r x e p = record { finds = form_for d ts r (got f x) e p.finds; levels = p.levels }

pub at_switch : (d h : ℕ) (f : FormShape) (ts r x : List Token) → after_key keys.Switch ts ≡ Some r → Found (switch_parts d) form_height r f h x → Found (reads_form d) form_height ts f h x
at_switch d h f ts r x e p = record { finds = form_switch d ts r (got f x) e p.finds; levels = p.levels }

pub no_if_there : (d : ℕ) (ts r : List Token) → after_key keys.If ts ≡ Some r → Finds (if_parts d) r None → Finds (reads_form d) ts None
no_if_there d ts r e p = form_if d ts r None e p

pub no_while_there : (d : ℕ) (ts r : List Token) → after_key keys.While ts ≡ Some r → Finds (while_parts d) r None → Finds (reads_form d) ts None
no_while_there d ts r e p = form_while d ts r None e p

pub no_do_there : (d : ℕ) (ts r : List Token) → after_key keys.Do ts ≡ Some r → Finds (do_parts d) r None → Finds (reads_form d) ts None
no_do_there d ts r e p = form_do d ts r None e p

pub no_for_there : (d : ℕ) (ts r : List Token) → after_key keys.For ts ≡ Some r → Finds (for_parts d) r None → Finds (reads_form d) ts None
no_for_there d ts r e p = form_for d ts r None e p

pub no_switch_there : (d : ℕ) (ts r : List Token) → after_key keys.Switch ts ≡ Some r → Finds (switch_parts d) r None → Finds (reads_form d) ts None
no_switch_there d ts r e p = form_switch d ts r None e p

-- STATEMENTS

pub stmt_read : (d h n : ℕ) (ms : List ProbeMark) (f : FormShape) (s : StmtShape) (ts x y : List Token) → d < 400 → Finds reads_marks ts (Some (ms, x)) → Found (reads_form d) form_height x f h y → s ≡ stmt (place ts) ms (place x) f → n ≡ h + 1 → Found (reads_stmt d) stmt_height ts s n y
stmt_read d h n ms f s ts x y low p q same l =
    found_as (reads_stmt d) stmt_height ts (stmt (place ts) ms (place x) f) s n y same (stmt_found d ms f ts x y low p q.finds) (one_above h (form_height f) n q.levels l)

-- ITEMS

none_there : (o : Option (List Token)) → is_some o ≡ false → o ≡ None
none_there None e = refl
none_there (Some r) e = absurd (let h : true ≡ false = e in cc)

some_there : (o : Option (List Token)) → is_some o ≡ true → (r : List Token) × (o ≡ Some r)
some_there None e = absurd (let h : false ≡ true = e in cc)
some_there (Some r) e = (r, refl)

item_as : (d e h : ℕ) (i : Item) (ts x y : List Token) → brace_there ts ≡ false → Finds (reads_labels d) ts (got (map label_shape i.labels.items) x) → e ≡ depth_behind d (map label_shape i.labels.items) → Finds (reads_stmt e) x (got (stmt_shape i.stmt) y) → h ≡ item_height (map label_shape i.labels.items) (stmt_height (stmt_shape i.stmt)) → ItemFound d ts i h y
item_as d e h i ts x y n p deep q l = record {
  on = λ z w. items_on d (map label_shape i.labels.items) (stmt_shape i.stmt) ts x y z (none_there (after marks.RightBrace ts) n) p (subst (λ e. Finds (reads_stmt e) x (got (stmt_shape i.stmt) y)) deep q) w;
  levels = l;
}

plain_levels : (l : List Label) (h : ℕ) → length l ≡ 0 → h ≡ item_height (map label_shape l) h
plain_levels [] h e = refl
plain_levels (a ∷ l) h e = absurd (omega (arith, e))

labelled_levels : (l : List Label) (h k v n : ℕ) → (length l ≡ 0 → ⊥) → h ≡ labels_height (map label_shape l) → v ≡ max h k → n ≡ v + 1 → n ≡ item_height (map label_shape l) k
labelled_levels [] h k v n e p m i = absurd (e refl)
labelled_levels (a ∷ l) h k v n e p m i = omega (arith, p, m, i)

plain_item : (d h k : ℕ) (i : Item) (ts x y : List Token) → brace_there ts ≡ false → Found (reads_labels d) labels_height ts (map label_shape i.labels.items) k x → length i.labels.items ≡ 0 → Found (reads_stmt d) stmt_height x (stmt_shape i.stmt) h y → ItemFound d ts i h y
plain_item d h k i ts x y n p e q =
    item_as d d h i ts x y n p.finds (depth_plain d i.labels.items e) q.finds (q.levels ∙ plain_levels i.labels.items (stmt_height (stmt_shape i.stmt)) e)

labelled_item : (d h k v n : ℕ) (i : Item) (ts x y : List Token) → brace_there ts ≡ false → Found (reads_labels d) labels_height ts (map label_shape i.labels.items) h x → (length i.labels.items ≡ 0 → ⊥) → Found (reads_stmt (d + 1)) stmt_height x (stmt_shape i.stmt) k y → v ≡ max h k → n ≡ v + 1 → ItemFound d ts i n y
labelled_item d h k v n i ts x y b p e q m l =
    item_as d (suc d) n i ts x y b p.finds (omega (arith, depth_labelled d i.labels.items e)) (up reads_stmt d q.finds) (subst (λ k. n ≡ item_height (map label_shape i.labels.items) k) q.levels (labelled_levels i.labels.items h k v n e p.levels m l))

pub item_plain : (d h k : ℕ) (i : Item) (s : Stmt) (ts x y : List Token) → brace_there ts ≡ false → Found (reads_labels d) labels_height ts (map label_shape i.labels.items) k x → length i.labels.items ≡ 0 → i.stmt ≡ s → Found (reads_stmt d) stmt_height x (stmt_shape s) h y → ItemFound d ts i h y
item_plain d h k i s ts x y n p e same q = plain_item d h k i ts x y n p e (subst (λ s. Found (reads_stmt d) stmt_height x (stmt_shape s) h y) (sym same) q)

pub item_labelled : (d h k v n : ℕ) (i : Item) (s : Stmt) (ts x y : List Token) → brace_there ts ≡ false → Found (reads_labels d) labels_height ts (map label_shape i.labels.items) h x → (length i.labels.items ≡ 0 → ⊥) → i.stmt ≡ s → Found (reads_stmt (d + 1)) stmt_height x (stmt_shape s) k y → v ≡ max h k → n ≡ v + 1 → ItemFound d ts i n y
item_labelled d h k v n i s ts x y b p e same q m l = labelled_item d h k v n i ts x y b p e (subst (λ s. Found (reads_stmt (d + 1)) stmt_height x (stmt_shape s) k y) (sym same) q) m l

pub item_unlabelled : (d : ℕ) (ts : List Token) → brace_there ts ≡ false → Finds (reads_labels d) ts None → Finds (reads_items d) ts None
item_unlabelled d ts n p = items_labels_fail d ts (none_there (after marks.RightBrace ts) n) p

pub item_plain_unread : (d k : ℕ) (l : List Label) (ts x : List Token) → brace_there ts ≡ false → Found (reads_labels d) labels_height ts (map label_shape l) k x → length l ≡ 0 → Finds (reads_stmt d) x None → Finds (reads_items d) ts None
item_plain_unread d k l ts x n p e q =
    items_stmt_fail d (map label_shape l) ts x (none_there (after marks.RightBrace ts) n) p.finds (subst (λ e. Finds (reads_stmt e) x None) (depth_plain d l e) q)

pub item_labelled_unread : (d k : ℕ) (l : List Label) (ts x : List Token) → brace_there ts ≡ false → Found (reads_labels d) labels_height ts (map label_shape l) k x → (length l ≡ 0 → ⊥) → Finds (reads_stmt (d + 1)) x None → Finds (reads_items d) ts None
item_labelled_unread d k l ts x n p e q =
    let deep : suc d ≡ depth_behind d (map label_shape l) = omega (arith, depth_labelled d l e) in
    items_stmt_fail d (map label_shape l) ts x (none_there (after marks.RightBrace ts) n) p.finds (subst (λ e. Finds (reads_stmt e) x None) deep (up reads_stmt d q))

abbrev an_item : ℕ → ℕ → List LabelShape → List Token → Got ItemShapes
an_item d k ls l = item_stmt (λ e r. reads_stmt e k r) (λ r. reads_items d k r) d ls l

behind_deep : (d : ℕ) (ls : List LabelShape) → 400 ≤ d → 400 ≤ depth_behind d ls
behind_deep d [] high = high
behind_deep d (l ∷ ls) high = omega (arith, high)

stmt_none : (e k : ℕ) (ts : List Token) → 400 ≤ e → reads_stmt e k ts ≡ None
stmt_none e zero ts high = refl
stmt_none e (suc k) ts high = high_none e 400 _ high

item_none : (d k : ℕ) (x : Got (List LabelShape)) → 400 ≤ d → then_go x (an_item d k) ≡ None
item_none d k None high = refl
item_none d k (Some g) high = ap (λ f. then_go f (item_more (λ r. reads_items d k r) g.0)) (stmt_none (depth_behind d g.0) k g.1 (behind_deep d g.0 high))

items_deep : (d : ℕ) (ts : List Token) → 400 ≤ d → brace_there ts ≡ false → Finds (reads_items d) ts None
items_deep d ts high n =
    find_from (reads_items d) ts None 0 (λ j h.
    ap (λ o. either_way o (λ r. got no_items ts) (then_go (reads_labels d j ts) (an_item d j))) (none_there (after marks.RightBrace ts) n) ∙ item_none d j (reads_labels d j ts) high)

items_higher : (l : List Item) (a : Item) → items_height (item_list (l ++ a ∷ [])) ≡ max (items_height (item_list l)) (item_height (map label_shape a.labels.items) (stmt_height (stmt_shape a.stmt)))
items_higher [] a = omega arith
items_higher (b ∷ l) a = ap (max (item_height (map label_shape b.labels.items) (stmt_height (stmt_shape b.stmt)))) (items_higher l a) ∙ omega arith

pub items_measured : (d : ℕ) (l' l : List Item) (a : Item) (h k n : ℕ) (ts x : List Token) → h ≡ items_height (item_list l) → ItemFound d ts a k x → n ≡ max h k → l' ≡ l ++ a ∷ [] → n ≡ items_height (item_list l')
items_measured d l' l a h k n ts x p f m same = omega (arith, p, f.levels, m, items_higher l a, ap (λ z. items_height (item_list z)) same)

pub items_further : (d : ℕ) (l' l : List Item) (a : Item) (h : ℕ) (ts rest x : List Token) → ItemsFrom d l ts rest → ItemFound d rest a h x → l' ≡ l ++ a ∷ [] → ItemsFrom d l' ts x
items_further d l' l a h ts rest x p f same = subst (λ l'. ItemsFrom d l' ts x) (sym same) (record { read = leads_more item_cons (reads_items d) (reads_items d) (reads_items d) l a ts rest x p.read (λ z w. f.on z w) })

pub items_read : (d h : ℕ) (l : List Item) (ts rest : List Token) → ItemsFrom d l ts rest → brace_there rest ≡ true → h ≡ items_height (item_list l) → Found (reads_items d) items_height ts (item_list l) h rest
items_read d h l ts rest p e m = let s = some_there (after marks.RightBrace rest) e in record { finds = item_list_done d l ts rest s.0 p s.1; levels = m }

pub items_unread : (d : ℕ) (l : List Item) (ts rest : List Token) → ItemsFrom d l ts rest → Finds (reads_items d) rest None → Finds (reads_items d) ts None
items_unread d l ts rest p q = leads_fail item_cons (reads_items d) (reads_items d) l ts rest p.read q

pub items_too_deep : (d : ℕ) (l : List Item) (ts rest : List Token) → ItemsFrom d l ts rest → 400 ≤ d → brace_there rest ≡ false → Finds (reads_items d) ts None
items_too_deep d l ts rest p high n = items_unread d l ts rest p (items_deep d rest high n)

-- COMPOUNDS

pub compound_read : (d h k v n : ℕ) (p : Pos) (ds : DeclShapes) (l : ItemShapes) (c : CompoundShape) (ts x y z : List Token) → d < 400 → Found (reads_decls in_names (d + 1) 0) decls_height ts ds h x → Found (reads_items (d + 1)) items_height x l k y → after marks.RightBrace y ≡ Some z → c ≡ braces p ds l → v ≡ max h k → n ≡ v + 1 → Found (reads_compound d p) compound_height ts c n z
compound_read d h k v n p ds l c ts x y z low q w e same m i =
    found_as (reads_compound d p) compound_height ts (braces p ds l) c n z same (compound_found d p ds l ts x y z low (up (λ e. reads_decls in_names e 0) d q.finds) (up reads_items d w.finds) e) (two_above h k (decls_height ds) (items_height l) v n m q.levels w.levels i)

pub compound_declless : (d : ℕ) (p : Pos) (ts : List Token) → d < 400 → Finds (reads_decls in_names (d + 1) 0) ts None → Finds (reads_compound d p) ts None
compound_declless d p ts low q = compound_decls_fail d p ts low (up (λ e. reads_decls in_names e 0) d q)

pub compound_unread : (d h : ℕ) (p : Pos) (ds : DeclShapes) (ts x : List Token) → d < 400 → Found (reads_decls in_names (d + 1) 0) decls_height ts ds h x → Finds (reads_items (d + 1)) x None → Finds (reads_compound d p) ts None
compound_unread d h p ds ts x low q w = compound_items_fail d p ds ts x low (up (λ e. reads_decls in_names e 0) d q.finds) (up reads_items d w)

pub compound_unclosed : (d h k : ℕ) (p : Pos) (ds : DeclShapes) (l : ItemShapes) (ts x y : List Token) → d < 400 → Found (reads_decls in_names (d + 1) 0) decls_height ts ds h x → Found (reads_items (d + 1)) items_height x l k y → after marks.RightBrace y ≡ None → Finds (reads_compound d p) ts None
compound_unclosed d h k p ds l ts x y low q w e = compound_open d p ds l ts x y low (up (λ e. reads_decls in_names e 0) d q.finds) (up reads_items d w.finds) e
