-- The steps of the reader of statements, labels, compounds and units: one for each way that reading goes.
pub use Rattle.c_grammar_stmt.specs.StmtParts.{external_parts, external_rest, function_parts, LabelsFrom, ItemsFrom, ExternalsFrom}
use Rattle.std.proofs.Common.{◌≡◌, ℕ, suc, ◌+◌, ◌≤◌, ◌<◌, List, [], ◌∷◌, ◌++◌, length, Option, Some, None, true, false, refl, sym, ap, ◌∙◌, subst, arith}
use Rattle.std.specs.Prelude.{◌&&◌, map}
use Rattle.c_base.specs.declared.place.Pos.{Pos}
use Rattle.c_syntax.specs.declared.text.Text.{Text}
use Rattle.c_syntax.specs.declared.token.Mark.TheVariants as marks
use Rattle.c_syntax.specs.declared.token.Key.TheVariants as keys
use Rattle.c_syntax.specs.declared.token.ProbeWord.TheVariants as words
use Rattle.c_syntax.specs.declared.token.Token.{Token}
use Rattle.c_syntax.specs.declared.tree.ProbeMark.{ProbeMark}
use Rattle.c_syntax.specs.declared.tree.ProgramLine.{ProgramLine}
use Rattle.c_syntax.specs.declared.tree.Label.{Label}
use Rattle.c_syntax.specs.declared.tree.Item.{Item}
use Rattle.c_syntax.specs.declared.tree.External.{External}
use Rattle.c_syntax.specs.Forms.{Head, place}
use Rattle.c_syntax.specs.Shape.{NodeShape, SpecShapes, DeclShape, decl, DeclShapes, DeclaratorShape, no_declarators, LabelShape, case, default, StmtShape, stmt, FormShape, CompoundShape, braces, ItemShapes, no_items, ExternalShape, defined, declared}
use Rattle.c_syntax.specs.Shaped.{in_names}
use Rattle.c_syntax.specs.View.{label_shape, stmt_shape, item_list, external_shape}
use Rattle.c_grammar.specs.Look.{Got, got, then_go, go_after, either_way, if_so, Finds, after, after_key, after_key_head, after_probe, wanted, a_string}
use Rattle.c_grammar.specs.Reader.{reads, reads_decls, reads_declarator, reads_some}
use Rattle.c_grammar.specs.Parts.{declaring}
use Rattle.c_grammar.specs.Leads.{Leads}
use Rattle.c_grammar_stmt.specs.StmtParts.{label_cons, item_cons, ReadExternals}
use Rattle.c_grammar_stmt.specs.StmtReader.{reads_marks, stmt_made, stmt_body, label_onto, case_more, reads_labels, depth_behind, item_onto, item_more, item_stmt, compound_end, compound_items, reads_stmt, reads_items, reads_compound, inside, reads_form, is_function, body_ahead, defined_got, declared_got, external_body, external_first, external_specs, reads_external, external_onto, external_more, reads_externals, line_end, line_closed, line_from, line_got, reads_line}
use Rattle.c_grammar.proofs.Looking.{after_key_is, find_from, same_answer}
use Rattle.c_grammar.proofs.Leading.{Builds, leads_more, leads_end, leads_fail}
use Rattle.c_grammar.proofs.ExprSteps.{low_go, high_none, read_deep}

-- STATEMENTS

abbrev stmt_rest : ℕ → ℕ → Pos → List ProbeMark → List Token → Got StmtShape
stmt_rest d k p ms l = stmt_body (inside d k) p ms l

stmt_at : (d : ℕ) (ts : List Token) → d < 400 → (j : ℕ) → reads_stmt d (suc j) ts ≡ then_go (reads_marks j ts) (stmt_rest d j (place ts))
stmt_at d ts low j = low_go d 400 (then_go (reads_marks j ts) (stmt_rest d j (place ts))) low

pub stmt_found : (d : ℕ) (ms : List ProbeMark) (f : FormShape) (ts x y : List Token) → d < 400 → Finds reads_marks ts (Some (ms, x)) → Finds (reads_form d) x (Some (f, y)) → Finds (reads_stmt d) ts (Some (stmt (place ts) ms (place x) f, y))
stmt_found d ms f ts x y low p q =
    find_from (reads_stmt d) ts (got (stmt (place ts) ms (place x) f) y) (p.from + q.from) (λ j h.
    stmt_at d ts low j ∙ ap (λ g. then_go g (stmt_rest d j (place ts))) (p.holds j (omega (arith, h))) ∙ ap (λ g. then_go g (stmt_made (place ts) ms (place x))) (q.holds j (omega (arith, h))))

pub stmt_fails : (d : ℕ) (ms : List ProbeMark) (ts x : List Token) → d < 400 → Finds reads_marks ts (Some (ms, x)) → Finds (reads_form d) x None → Finds (reads_stmt d) ts None
stmt_fails d ms ts x low p q =
    find_from (reads_stmt d) ts None (p.from + q.from) (λ j h.
    stmt_at d ts low j ∙ ap (λ g. then_go g (stmt_rest d j (place ts))) (p.holds j (omega (arith, h))) ∙ ap (λ g. then_go g (stmt_made (place ts) ms (place x))) (q.holds j (omega (arith, h))))

pub stmt_deep : (d : ℕ) (ts : List Token) → 400 ≤ d → Finds (reads_stmt d) ts None
stmt_deep d ts high = find_from (reads_stmt d) ts None 0 (λ j h. high_none d 400 (then_go (reads_marks j ts) (stmt_rest d j (place ts))) high)

-- LABELS

abbrev label_expression : ℕ → ℕ → List Token → List Token → Got (List LabelShape)
label_expression d k ts r = then_go (reads 2 (suc d) 0 k r) (case_more (λ l. reads_labels d k l) (place ts))

abbrev label_default : ℕ → ℕ → List Token → List Token → Got (List LabelShape)
label_default d k ts r = go_after (after marks.Colon r) (λ l. then_go (reads_labels d k l) (label_onto (default (place ts))))

abbrev labels_by : ℕ → ℕ → List Token → Head → Got (List LabelShape)
labels_by d k ts h = either_way (after_key_head keys.Case h) (label_expression d k ts) (either_way (after_key_head keys.Default h) (label_default d k ts) (got [] ts))

pub labels_stop : (d : ℕ) (ts : List Token) → after_key keys.Case ts ≡ None → after_key keys.Default ts ≡ None → Finds (reads_labels d) ts (Some ([], ts))
labels_stop d ts e c =
    find_from (reads_labels d) ts (got [] ts) 0 (λ j h.
    ap (λ o. either_way o (label_expression d j ts) (either_way (after_key keys.Default ts) (label_default d j ts) (got [] ts))) e ∙ ap (λ o. either_way o (label_default d j ts) (got [] ts)) c)

pub labels_case : (d : ℕ) (a : NodeShape) (ts r x y : List Token) (z : Got (List LabelShape)) → after_key keys.Case ts ≡ Some r → Finds (reads 2 (suc d) 0) r (Some (a, x)) → after marks.Colon x ≡ Some y → Finds (reads_labels d) y z → Finds (reads_labels d) ts (then_go z (label_onto (case (place ts) a)))
labels_case d a ts r x y z e p c q =
    find_from (reads_labels d) ts (then_go z (label_onto (case (place ts) a))) (p.from + q.from) (λ j h.
    ap (labels_by d j ts) (after_key_is keys.Case ts r e)
    ∙ ap (λ f. then_go f (case_more (λ l. reads_labels d j l) (place ts))) (p.holds j (omega (arith, h)))
    ∙ ap (λ o. go_after o (λ l. then_go (reads_labels d j l) (label_onto (case (place ts) a)))) c
    ∙ ap (λ f. then_go f (label_onto (case (place ts) a))) (q.holds j (omega (arith, h))))

pub labels_case_fails : (d : ℕ) (ts r : List Token) → after_key keys.Case ts ≡ Some r → Finds (reads 2 (suc d) 0) r None → Finds (reads_labels d) ts None
labels_case_fails d ts r e p =
    find_from (reads_labels d) ts None p.from (λ j h. ap (labels_by d j ts) (after_key_is keys.Case ts r e) ∙ ap (λ f. then_go f (case_more (λ l. reads_labels d j l) (place ts))) (p.holds j h))

pub labels_case_deep : (d : ℕ) (ts r : List Token) → after_key keys.Case ts ≡ Some r → 400 ≤ d → Finds (reads_labels d) ts None
labels_case_deep d ts r e high = labels_case_fails d ts r e (read_deep 2 (suc d) 0 r (omega (arith, high)))

pub labels_case_open : (d : ℕ) (a : NodeShape) (ts r x : List Token) → after_key keys.Case ts ≡ Some r → Finds (reads 2 (suc d) 0) r (Some (a, x)) → after marks.Colon x ≡ None → Finds (reads_labels d) ts None
labels_case_open d a ts r x e p c =
    find_from (reads_labels d) ts None p.from (λ j h.
    ap (labels_by d j ts) (after_key_is keys.Case ts r e)
    ∙ ap (λ f. then_go f (case_more (λ l. reads_labels d j l) (place ts))) (p.holds j h)
    ∙ ap (λ o. go_after o (λ l. then_go (reads_labels d j l) (label_onto (case (place ts) a)))) c)

pub labels_default : (d : ℕ) (ts r x : List Token) (z : Got (List LabelShape)) → after_key keys.Default ts ≡ Some r → after marks.Colon r ≡ Some x → Finds (reads_labels d) x z → Finds (reads_labels d) ts (then_go z (label_onto (default (place ts))))
labels_default d ts r x z e c q =
    find_from (reads_labels d) ts (then_go z (label_onto (default (place ts)))) q.from (λ j h.
    ap (labels_by d j ts) (after_key_is keys.Default ts r e)
    ∙ ap (λ o. go_after o (λ l. then_go (reads_labels d j l) (label_onto (default (place ts))))) c
    ∙ ap (λ f. then_go f (label_onto (default (place ts)))) (q.holds j h))

pub labels_default_open : (d : ℕ) (ts r : List Token) → after_key keys.Default ts ≡ Some r → after marks.Colon r ≡ None → Finds (reads_labels d) ts None
labels_default_open d ts r e c =
    find_from (reads_labels d) ts None 0 (λ j h.
    ap (labels_by d j ts) (after_key_is keys.Default ts r e) ∙ ap (λ o. go_after o (λ l. then_go (reads_labels d j l) (label_onto (default (place ts))))) c)

label_builds : Builds label_cons [] (map label_shape)
label_builds = record { empty = refl; more = λ a l. refl }

pub label_list_start : (d : ℕ) (ts : List Token) → LabelsFrom d [] ts ts
label_list_start d ts = record { read = record { on = λ z p. p } }

at_case_more : (d : ℕ) (l : List Label) (a : Label) (n : NodeShape) (ts rest r x y : List Token) → Leads label_cons (reads_labels d) (reads_labels d) l ts rest → after_key keys.Case rest ≡ Some r → Finds (reads 2 (suc d) 0) r (Some (n, x)) → after marks.Colon x ≡ Some y → label_shape a ≡ case (place rest) n → Leads label_cons (reads_labels d) (reads_labels d) (l ++ a ∷ []) ts y
at_case_more d l a n ts rest r x y p e q c same =
    leads_more label_cons (reads_labels d) (reads_labels d) (reads_labels d) l a ts rest y p (λ z h.
    subst (λ s. Finds (reads_labels d) rest (then_go z (label_onto s))) (sym same) (labels_case d n rest r x y z e q c h))

at_default_more : (d : ℕ) (l : List Label) (a : Label) (ts rest r x : List Token) → Leads label_cons (reads_labels d) (reads_labels d) l ts rest → after_key keys.Default rest ≡ Some r → after marks.Colon r ≡ Some x → label_shape a ≡ default (place rest) → Leads label_cons (reads_labels d) (reads_labels d) (l ++ a ∷ []) ts x
at_default_more d l a ts rest r x p e c same =
    leads_more label_cons (reads_labels d) (reads_labels d) (reads_labels d) l a ts rest x p (λ z h.
    subst (λ s. Finds (reads_labels d) rest (then_go z (label_onto s))) (sym same) (labels_default d rest r x z e c h))

pub label_list_done : (d : ℕ) (l : List Label) (ts rest : List Token) → LabelsFrom d l ts rest → after_key keys.Case rest ≡ None → after_key keys.Default rest ≡ None → Finds (reads_labels d) ts (Some (map label_shape l, rest))
label_list_done d l ts rest p e c = leads_end label_cons [] (map label_shape) label_builds (reads_labels d) (reads_labels d) l ts rest rest p.read (labels_stop d rest e c)

-- ITEMS

abbrev one_item : ℕ → ℕ → List LabelShape → List Token → Got ItemShapes
one_item d k ls l = item_stmt (λ e r. reads_stmt e k r) (λ r. reads_items d k r) d ls l

abbrev an_item : ℕ → ℕ → List Token → Got ItemShapes
an_item d k ts = then_go (reads_labels d k ts) (one_item d k)

pub items_end : (d : ℕ) (ts r : List Token) → after marks.RightBrace ts ≡ Some r → Finds (reads_items d) ts (Some (no_items, ts))
items_end d ts r e = find_from (reads_items d) ts (got no_items ts) 0 (λ j h. ap (λ o. either_way o (λ r. got no_items ts) (an_item d j ts)) e)

pub items_on : (d : ℕ) (ls : List LabelShape) (s : StmtShape) (ts x y : List Token) (z : Got ItemShapes) → after marks.RightBrace ts ≡ None → Finds (reads_labels d) ts (Some (ls, x)) → Finds (reads_stmt (depth_behind d ls)) x (Some (s, y)) → Finds (reads_items d) y z → Finds (reads_items d) ts (then_go z (item_onto ls s))
items_on d ls s ts x y z e p q w =
    find_from (reads_items d) ts (then_go z (item_onto ls s)) (p.from + (q.from + w.from)) (λ j h.
    ap (λ o. either_way o (λ r. got no_items ts) (an_item d j ts)) e
    ∙ ap (λ f. then_go f (one_item d j)) (p.holds j (omega (arith, h)))
    ∙ ap (λ f. then_go f (item_more (λ r. reads_items d j r) ls)) (q.holds j (omega (arith, h)))
    ∙ ap (λ f. then_go f (item_onto ls s)) (w.holds j (omega (arith, h))))

pub items_labels_fail : (d : ℕ) (ts : List Token) → after marks.RightBrace ts ≡ None → Finds (reads_labels d) ts None → Finds (reads_items d) ts None
items_labels_fail d ts e p = find_from (reads_items d) ts None p.from (λ j h. ap (λ o. either_way o (λ r. got no_items ts) (an_item d j ts)) e ∙ ap (λ f. then_go f (one_item d j)) (p.holds j h))

pub items_stmt_fail : (d : ℕ) (ls : List LabelShape) (ts x : List Token) → after marks.RightBrace ts ≡ None → Finds (reads_labels d) ts (Some (ls, x)) → Finds (reads_stmt (depth_behind d ls)) x None → Finds (reads_items d) ts None
items_stmt_fail d ls ts x e p q =
    find_from (reads_items d) ts None (p.from + q.from) (λ j h.
    ap (λ o. either_way o (λ r. got no_items ts) (an_item d j ts)) e
    ∙ ap (λ f. then_go f (one_item d j)) (p.holds j (omega (arith, h)))
    ∙ ap (λ f. then_go f (item_more (λ r. reads_items d j r) ls)) (q.holds j (omega (arith, h))))

item_builds : Builds item_cons no_items item_list
item_builds = record { empty = refl; more = λ a l. refl }

pub item_list_start : (d : ℕ) (ts : List Token) → ItemsFrom d [] ts ts
item_list_start d ts = record { read = record { on = λ z p. p } }

at_item_more : (d : ℕ) (l : List Item) (a : Item) (ts rest x y : List Token) → Leads item_cons (reads_items d) (reads_items d) l ts rest → after marks.RightBrace rest ≡ None → Finds (reads_labels d) rest (Some (map label_shape a.labels.items, x)) → Finds (reads_stmt (depth_behind d (map label_shape a.labels.items))) x (Some (stmt_shape a.stmt, y)) → Leads item_cons (reads_items d) (reads_items d) (l ++ a ∷ []) ts y
at_item_more d l a ts rest x y p e q w =
    leads_more item_cons (reads_items d) (reads_items d) (reads_items d) l a ts rest y p (λ z h. items_on d (map label_shape a.labels.items) (stmt_shape a.stmt) rest x y z e q w h)

pub item_list_done : (d : ℕ) (l : List Item) (ts rest r : List Token) → ItemsFrom d l ts rest → after marks.RightBrace rest ≡ Some r → Finds (reads_items d) ts (Some (item_list l, rest))
item_list_done d l ts rest r p e = leads_end item_cons no_items item_list item_builds (reads_items d) (reads_items d) l ts rest rest p.read (items_end d rest r e)

pub item_list_failed : (d e : ℕ) (l : List Item) (ls : List LabelShape) (ts rest x : List Token) → ItemsFrom d l ts rest → after marks.RightBrace rest ≡ None → Finds (reads_labels d) rest (Some (ls, x)) → e ≡ depth_behind d ls → Finds (reads_stmt e) x None → Finds (reads_items d) ts None
item_list_failed d e l ls ts rest x p n q deep w = leads_fail item_cons (reads_items d) (reads_items d) l ts rest p.read (items_stmt_fail d ls rest x n q (subst (λ e. Finds (reads_stmt e) x None) deep w))

-- labels take a level

pub depth_plain : (d : ℕ) (l : List Label) → length l ≡ 0 → d ≡ depth_behind d (map label_shape l)
depth_plain d [] e = refl
depth_plain d (a ∷ l) e = absurd (omega (arith, e))

pub depth_labelled : (d : ℕ) (l : List Label) → (length l ≡ 0 → ⊥) → d + 1 ≡ depth_behind d (map label_shape l)
depth_labelled d [] n = absurd (n refl)
depth_labelled d (a ∷ l) n = omega arith

-- COMPOUNDS

abbrev compound_rest : ℕ → Pos → ℕ → DeclShapes → List Token → Got CompoundShape
compound_rest d p k ds l = compound_items (λ r. reads_items (suc d) k r) p ds l

compound_at : (d : ℕ) (p : Pos) (ts : List Token) → d < 400 → (k : ℕ) → reads_compound d p k ts ≡ then_go (reads_decls in_names (suc d) 0 k ts) (compound_rest d p k)
compound_at d p ts low k = low_go d 400 (then_go (reads_decls in_names (suc d) 0 k ts) (compound_rest d p k)) low

pub compound_found : (d : ℕ) (p : Pos) (ds : DeclShapes) (is' : ItemShapes) (ts x y z : List Token) → d < 400 → Finds (reads_decls in_names (suc d) 0) ts (Some (ds, x)) → Finds (reads_items (suc d)) x (Some (is', y)) → after marks.RightBrace y ≡ Some z → Finds (reads_compound d p) ts (Some (braces p ds is', z))
compound_found d p ds is' ts x y z low q w e = record {
  from = q.from + w.from;
  holds = λ k h.
      compound_at d p ts low k
      ∙ ap (λ f. then_go f (compound_rest d p k)) (q.holds k (omega (arith, h)))
      ∙ ap (λ f. then_go f (compound_end p ds)) (w.holds k (omega (arith, h)))
      ∙ ap (wanted (braces p ds is')) e;
}

pub compound_deep : (d : ℕ) (p : Pos) (ts : List Token) → 400 ≤ d → Finds (reads_compound d p) ts None
compound_deep d p ts high = record { from = 0; holds = λ k h. high_none d 400 (then_go (reads_decls in_names (suc d) 0 k ts) (compound_rest d p k)) high }

pub compound_decls_fail : (d : ℕ) (p : Pos) (ts : List Token) → d < 400 → Finds (reads_decls in_names (suc d) 0) ts None → Finds (reads_compound d p) ts None
compound_decls_fail d p ts low q = record { from = q.from; holds = λ k h. compound_at d p ts low k ∙ ap (λ f. then_go f (compound_rest d p k)) (q.holds k h) }

pub compound_items_fail : (d : ℕ) (p : Pos) (ds : DeclShapes) (ts x : List Token) → d < 400 → Finds (reads_decls in_names (suc d) 0) ts (Some (ds, x)) → Finds (reads_items (suc d)) x None → Finds (reads_compound d p) ts None
compound_items_fail d p ds ts x low q w = record {
  from = q.from + w.from;
  holds = λ k h. compound_at d p ts low k ∙ ap (λ f. then_go f (compound_rest d p k)) (q.holds k (omega (arith, h))) ∙ ap (λ f. then_go f (compound_end p ds)) (w.holds k (omega (arith, h)));
}

pub compound_open : (d : ℕ) (p : Pos) (ds : DeclShapes) (is' : ItemShapes) (ts x y : List Token) → d < 400 → Finds (reads_decls in_names (suc d) 0) ts (Some (ds, x)) → Finds (reads_items (suc d)) x (Some (is', y)) → after marks.RightBrace y ≡ None → Finds (reads_compound d p) ts None
compound_open d p ds is' ts x y low q w e = record {
  from = q.from + w.from;
  holds = λ k h.
      compound_at d p ts low k
      ∙ ap (λ f. then_go f (compound_rest d p k)) (q.holds k (omega (arith, h)))
      ∙ ap (λ f. then_go f (compound_end p ds)) (w.holds k (omega (arith, h)))
      ∙ ap (wanted (braces p ds is')) e;
}

-- EXTERNAL DECLARATIONS

pub external_found : (specs : SpecShapes) (ts x : List Token) (z : Got ExternalShape) → Finds (reads_some 1 0) ts (Some (specs, x)) → Finds (external_parts (place ts) specs) x z → Finds reads_external ts z
external_found specs ts x z p q = record {
  from = p.from + q.from;
  holds = λ k h. ap (λ f. then_go f (external_specs k (place ts))) (p.holds k (omega (arith, h))) ∙ q.holds k (omega (arith, h));
}

pub external_fails : (ts : List Token) → Finds (reads_some 1 0) ts None → Finds reads_external ts None
external_fails ts p = record { from = p.from; holds = λ k h. ap (λ f. then_go f (external_specs k (place ts))) (p.holds k h) }

abbrev external_declarators : Pos → SpecShapes → ℕ → List Token → Got ExternalShape
external_declarators p specs k ts = then_go (reads_declarator in_names 1 0 k ts) (external_first k p specs)

pub external_plain : (p : Pos) (specs : SpecShapes) (ts r : List Token) → after marks.Semicolon ts ≡ Some r → Finds (external_parts p specs) ts (Some (declared (decl p specs no_declarators), r))
external_plain p specs ts r e = record { from = 0; holds = λ k h. ap (λ o. either_way o (got (declared (decl p specs no_declarators))) (external_declarators p specs k ts)) e }

pub external_named : (p : Pos) (specs : SpecShapes) (t : DeclaratorShape) (ts x : List Token) (z : Got ExternalShape) → after marks.Semicolon ts ≡ None → Finds (reads_declarator in_names 1 0) ts (Some (t, x)) → Finds (external_rest p specs t) x z → Finds (external_parts p specs) ts z
external_named p specs t ts x z e q w = record {
  from = q.from + w.from;
  holds = λ k h.
      ap (λ o. either_way o (got (declared (decl p specs no_declarators))) (external_declarators p specs k ts)) e
      ∙ ap (λ f. then_go f (external_first k p specs)) (q.holds k (omega (arith, h)))
      ∙ w.holds k (omega (arith, h));
}

pub external_nameless : (p : Pos) (specs : SpecShapes) (ts : List Token) → after marks.Semicolon ts ≡ None → Finds (reads_declarator in_names 1 0) ts None → Finds (external_parts p specs) ts None
external_nameless p specs ts e q = record {
  from = q.from;
  holds = λ k h. ap (λ o. either_way o (got (declared (decl p specs no_declarators))) (external_declarators p specs k ts)) e ∙ ap (λ f. then_go f (external_first k p specs)) (q.holds k h);
}

abbrev external_declaration : Pos → SpecShapes → DeclaratorShape → ℕ → List Token → Got ExternalShape
external_declaration p specs t k ts = then_go (declaring in_names 1 0 p specs t k ts) declared_got

pub external_defined : (p : Pos) (specs : SpecShapes) (t : DeclaratorShape) (ts : List Token) (z : Got ExternalShape) → (is_function t && body_ahead ts) ≡ true → Finds (function_parts specs t) ts z → Finds (external_rest p specs t) ts z
external_defined p specs t ts z e q = record { from = q.from; holds = λ k h. ap (λ b. if_so b (function_parts specs t k ts) (external_declaration p specs t k ts)) e ∙ q.holds k h }

pub external_declared : (p : Pos) (specs : SpecShapes) (t : DeclaratorShape) (c : DeclShape) (ts x : List Token) → (is_function t && body_ahead ts) ≡ false → Finds (declaring in_names 1 0 p specs t) ts (Some (c, x)) → Finds (external_rest p specs t) ts (Some (declared c, x))
external_declared p specs t c ts x e q = record { from = q.from; holds = λ k h. ap (λ b. if_so b (function_parts specs t k ts) (external_declaration p specs t k ts)) e ∙ ap (λ f. then_go f declared_got) (q.holds k h) }

pub external_undeclared : (p : Pos) (specs : SpecShapes) (t : DeclaratorShape) (ts : List Token) → (is_function t && body_ahead ts) ≡ false → Finds (declaring in_names 1 0 p specs t) ts None → Finds (external_rest p specs t) ts None
external_undeclared p specs t ts e q = record { from = q.from; holds = λ k h. ap (λ b. if_so b (function_parts specs t k ts) (external_declaration p specs t k ts)) e ∙ ap (λ f. then_go f declared_got) (q.holds k h) }

abbrev function_body : SpecShapes → DeclaratorShape → List ProbeMark → ℕ → Pos → List Token → Got ExternalShape
function_body specs t ms k p r = then_go (reads_compound 1 p k r) (defined_got specs t ms)

pub function_found : (specs : SpecShapes) (t : DeclaratorShape) (ms : List ProbeMark) (c : CompoundShape) (ts x y z : List Token) → Finds reads_marks ts (Some (ms, x)) → after marks.LeftBrace x ≡ Some y → Finds (reads_compound 1 (place x)) y (Some (c, z)) → Finds (function_parts specs t) ts (Some (defined specs t ms c, z))
function_found specs t ms c ts x y z p e q = record {
  from = p.from + q.from;
  holds = λ k h.
      ap (λ f. then_go f (external_body k specs t)) (p.holds k (omega (arith, h)))
      ∙ ap (λ o. go_after o (function_body specs t ms k (place x))) e
      ∙ ap (λ f. then_go f (defined_got specs t ms)) (q.holds k (omega (arith, h)));
}

pub function_bare : (specs : SpecShapes) (t : DeclaratorShape) (ms : List ProbeMark) (ts x : List Token) → Finds reads_marks ts (Some (ms, x)) → after marks.LeftBrace x ≡ None → Finds (function_parts specs t) ts None
function_bare specs t ms ts x p e = record { from = p.from; holds = λ k h. ap (λ f. then_go f (external_body k specs t)) (p.holds k h) ∙ ap (λ o. go_after o (function_body specs t ms k (place x))) e }

pub function_fails : (specs : SpecShapes) (t : DeclaratorShape) (ms : List ProbeMark) (ts x y : List Token) → Finds reads_marks ts (Some (ms, x)) → after marks.LeftBrace x ≡ Some y → Finds (reads_compound 1 (place x)) y None → Finds (function_parts specs t) ts None
function_fails specs t ms ts x y p e q = record {
  from = p.from + q.from;
  holds = λ k h.
      ap (λ f. then_go f (external_body k specs t)) (p.holds k (omega (arith, h)))
      ∙ ap (λ o. go_after o (function_body specs t ms k (place x))) e
      ∙ ap (λ f. then_go f (defined_got specs t ms)) (q.holds k (omega (arith, h)));
}

-- LISTS OF EXTERNAL DECLARATIONS

pub externals_end : Finds reads_externals [] (Some ([], []))
externals_end = find_from reads_externals [] (got [] []) 0 (λ j h. refl)

pub externals_on : (t : Token) (e : ExternalShape) (ts x : List Token) (z : Got (List ExternalShape)) → Finds reads_external (t ∷ ts) (Some (e, x)) → Finds reads_externals x z → Finds reads_externals (t ∷ ts) (then_go z (external_onto e))
externals_on t e ts x z p q =
    find_from reads_externals (t ∷ ts) (then_go z (external_onto e)) (p.from + q.from) (λ j h.
    ap (λ f. then_go f (external_more (λ l. reads_externals j l))) (p.holds j (omega (arith, h))) ∙ ap (λ f. then_go f (external_onto e)) (q.holds j (omega (arith, h))))

pub externals_fail : (t : Token) (ts : List Token) → Finds reads_external (t ∷ ts) None → Finds reads_externals (t ∷ ts) None
externals_fail t ts p = find_from reads_externals (t ∷ ts) None p.from (λ j h. ap (λ f. then_go f (external_more (λ l. reads_externals j l))) (p.holds j h))

-- no external declaration is written by no tokens
pub nothing_external : (e : ExternalShape) (x : List Token) → Finds reads_external [] (Some (e, x)) → ⊥
nothing_external e x p =
    let q : Finds reads_external [] None = record { from = 0; holds = λ k h. refl } in
    let h : None ≡ got e x = same_answer reads_external [] None (got e x) q p in
    absurd cc

pub external_item : (e : ExternalShape) (ts x : List Token) (z : Got (List ExternalShape)) → Finds reads_external ts (Some (e, x)) → Finds reads_externals x z → Finds reads_externals ts (then_go z (external_onto e))
external_item e [] x z p q = absurd (nothing_external e x p)
external_item e (t ∷ ts) x z p q = externals_on t e ts x z p q

pub external_list_start : (ts : List Token) → ExternalsFrom [] ts ts
external_list_start ts = record { read = refl }

one_more : (l : List External) (a : External) (ts rest x : List Token) → ReadExternals (map external_shape l) ts rest → Finds reads_external rest (got (external_shape a) x) → ReadExternals (map external_shape (l ++ a ∷ [])) ts x
one_more [] a ts rest x p q = record { middle = x; first = subst (λ y. Finds reads_external y (got (external_shape a) x)) (sym p) q; second = refl }
one_more (b ∷ l) a ts rest x p q = record { middle = p.middle; first = p.first; second = one_more l a p.middle rest x p.second q }

pub external_list_more : (l' l : List External) (a : External) (ts rest x : List Token) → ExternalsFrom l ts rest → Finds reads_external rest (Some (external_shape a, x)) → l' ≡ l ++ a ∷ [] → ExternalsFrom l' ts x
external_list_more l' l a ts rest x p q same = subst (λ l'. ExternalsFrom l' ts x) (sym same) (record { read = one_more l a ts rest x p.read q })

none_left : (ts : List Token) → length ts ≡ 0 → Finds reads_externals ts (Some ([], ts))
none_left [] e = externals_end
none_left (t ∷ ts) e = absurd (omega (arith, e))

pub externals_read : (es : List ExternalShape) (ts rest : List Token) → ReadExternals es ts rest → length rest ≡ 0 → Finds reads_externals ts (Some (es, rest))
externals_read [] ts rest p e = subst (λ y. Finds reads_externals y (got [] rest)) (sym p) (none_left rest e)
externals_read (a ∷ es) ts rest p e = external_item a ts p.middle (got es rest) p.first (externals_read es p.middle rest p.second e)

some_left : (ts : List Token) → (length ts ≡ 0 → ⊥) → Finds reads_external ts None → Finds reads_externals ts None
some_left [] n p = absurd (n refl)
some_left (t ∷ ts) n p = externals_fail t ts p

externals_unread : (es : List ExternalShape) (ts rest : List Token) → ReadExternals es ts rest → Finds reads_externals rest None → Finds reads_externals ts None
externals_unread [] ts rest p q = subst (λ y. Finds reads_externals y None) (sym p) q
externals_unread (a ∷ es) ts rest p q = external_item a ts p.middle None p.first (externals_unread es p.middle rest p.second q)

-- PROGRAM LINES

abbrev line_behind : List Token → List Token → Got (Option ProgramLine)
line_behind ts r = then_go (line_from (place ts) r) line_got

abbrev line_digest : Pos → List Token → Got ProgramLine
line_digest p r = then_go (a_string r) (line_closed p)

pub line_none : (ts : List Token) → after_probe words.Program ts ≡ None → reads_line ts ≡ Some (None, ts)
line_none ts e = ap (λ o. either_way o (line_behind ts) (got None ts)) e

pub line_found : (t : Text) (ts r x y u v : List Token) → after_probe words.Program ts ≡ Some r → after marks.LeftParen r ≡ Some x → a_string x ≡ Some (t, y) → after marks.RightParen y ≡ Some u → after marks.Semicolon u ≡ Some v → reads_line ts ≡ Some (Some (record { pos = place ts; digest = t }), v)
line_found t ts r x y u v e a b c f =
    ap (λ o. either_way o (line_behind ts) (got None ts)) e
    ∙ ap (λ o. then_go (go_after o (line_digest (place ts))) line_got) a
    ∙ ap (λ g. then_go (then_go g (line_closed (place ts))) line_got) b
    ∙ ap (λ o. then_go (go_after o (line_end (place ts) t)) line_got) c
    ∙ ap (λ o. then_go (wanted (record { pos = place ts; digest = t }) o) line_got) f

pub line_bare : (ts r : List Token) → after_probe words.Program ts ≡ Some r → after marks.LeftParen r ≡ None → reads_line ts ≡ None
line_bare ts r e a = ap (λ o. either_way o (line_behind ts) (got None ts)) e ∙ ap (λ o. then_go (go_after o (line_digest (place ts))) line_got) a

pub line_stringless : (ts r x : List Token) → after_probe words.Program ts ≡ Some r → after marks.LeftParen r ≡ Some x → a_string x ≡ None → reads_line ts ≡ None
line_stringless ts r x e a b =
    ap (λ o. either_way o (line_behind ts) (got None ts)) e ∙ ap (λ o. then_go (go_after o (line_digest (place ts))) line_got) a ∙ ap (λ g. then_go (then_go g (line_closed (place ts))) line_got) b

pub line_open : (t : Text) (ts r x y : List Token) → after_probe words.Program ts ≡ Some r → after marks.LeftParen r ≡ Some x → a_string x ≡ Some (t, y) → after marks.RightParen y ≡ None → reads_line ts ≡ None
line_open t ts r x y e a b c =
    ap (λ o. either_way o (line_behind ts) (got None ts)) e
    ∙ ap (λ o. then_go (go_after o (line_digest (place ts))) line_got) a
    ∙ ap (λ g. then_go (then_go g (line_closed (place ts))) line_got) b
    ∙ ap (λ o. then_go (go_after o (line_end (place ts) t)) line_got) c

pub line_unended : (t : Text) (ts r x y u : List Token) → after_probe words.Program ts ≡ Some r → after marks.LeftParen r ≡ Some x → a_string x ≡ Some (t, y) → after marks.RightParen y ≡ Some u → after marks.Semicolon u ≡ None → reads_line ts ≡ None
line_unended t ts r x y u e a b c f =
    ap (λ o. either_way o (line_behind ts) (got None ts)) e
    ∙ ap (λ o. then_go (go_after o (line_digest (place ts))) line_got) a
    ∙ ap (λ g. then_go (then_go g (line_closed (place ts))) line_got) b
    ∙ ap (λ o. then_go (go_after o (line_end (place ts) t)) line_got) c
    ∙ ap (λ o. then_go (wanted (record { pos = place ts; digest = t }) o) line_got) f
