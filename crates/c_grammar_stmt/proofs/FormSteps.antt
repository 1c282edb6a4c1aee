-- The steps of the reader of block probes and of the forms of statements: one for each way that reading goes.
pub use Rattle.c_grammar_stmt.specs.StmtParts.{parens, optional, if_parts, while_parts, do_parts, for_parts, switch_parts, return_parts, simple_parts, compound_parts, MarksFrom}
use Rattle.std.proofs.Common.{◌≡◌, ℕ, suc, ◌+◌, List, [], ◌∷◌, ◌++◌, Some, None, refl, sym, ap, ◌∙◌, subst, arith}
use Rattle.c_base.specs.declared.place.Pos.{Pos}
use Rattle.c_syntax.specs.declared.text.Text.{Text}
use Rattle.c_syntax.specs.declared.token.Mark.{Mark}
use Rattle.c_syntax.specs.declared.token.Mark.TheVariants as marks
use Rattle.c_syntax.specs.declared.token.Key.TheVariants as keys
use Rattle.c_syntax.specs.declared.token.ProbeWord.TheVariants as words
use Rattle.c_syntax.specs.declared.token.Token.{Token}
use Rattle.c_syntax.specs.declared.tree.ProbeMark.{ProbeMark}
use Rattle.c_syntax.specs.Forms.{Head, place}
use Rattle.c_syntax.specs.Shape.{NodeShape, MaybeNode, no_node, one_node, StmtShape, FormShape, compound, simply, when, either, while, do_while, for, switch, break, continue, return, CompoundShape, ItemShapes}
use Rattle.c_grammar.specs.Look.{Got, got, then_go, go_after, either_way, Finds, after, after_head, after_key, after_key_head, after_probe, wanted, expect}
use Rattle.c_grammar.specs.Reader.{reads}
use Rattle.c_grammar.specs.ExprReader.{numbered, one_got}
use Rattle.c_grammar.specs.Parts.{closed}
use Rattle.c_grammar_stmt.specs.StmtParts.{mark_cons}
use Rattle.c_grammar_stmt.specs.StmtReader.{colon_behind, mark_closed, mark_ahead, mark_onto, marks_from, reads_marks, compound_got, either_made, if_then, if_from, while_made, while_from, do_end, do_from, for_made, for_third, for_second, for_first, switch_made, switch_from, return_got, simply_got, reads_stmt, reads_items, reads_compound, inside, reads_form}
use Rattle.c_grammar.proofs.Looking.{after_is, after_key_is, find_from}
use Rattle.c_grammar.proofs.Leading.{Builds, leads_more, leads_end}
use Rattle.c_grammar.proofs.ExprSteps.{then_found, then_fails, closed_found, closed_fails, closed_open}

-- BLOCK PROBES

pub mark_found : (ts r x y z : List Token) (n : Text) → after_probe words.Block ts ≡ Some r → numbered r ≡ Some (n, x) → after marks.RightParen x ≡ Some y → after marks.Colon y ≡ Some z → mark_ahead ts ≡ Some (n, z)
mark_found ts r x y z n a b c e =
    ap (λ o. go_after o (λ r. then_go (numbered r) mark_closed)) a
    ∙ ap (λ g. then_go g mark_closed) b
    ∙ ap (colon_behind n) c
    ∙ ap (wanted n) e

pub mark_none : (ts : List Token) → after_probe words.Block ts ≡ None → mark_ahead ts ≡ None
mark_none ts a = ap (λ o. go_after o (λ r. then_go (numbered r) mark_closed)) a

pub mark_numberless : (ts r : List Token) → after_probe words.Block ts ≡ Some r → numbered r ≡ None → mark_ahead ts ≡ None
mark_numberless ts r a b = ap (λ o. go_after o (λ r. then_go (numbered r) mark_closed)) a ∙ ap (λ g. then_go g mark_closed) b

pub mark_open : (ts r x : List Token) (n : Text) → after_probe words.Block ts ≡ Some r → numbered r ≡ Some (n, x) → after marks.RightParen x ≡ None → mark_ahead ts ≡ None
mark_open ts r x n a b c =
    ap (λ o. go_after o (λ r. then_go (numbered r) mark_closed)) a
    ∙ ap (λ g. then_go g mark_closed) b
    ∙ ap (colon_behind n) c

pub mark_no_colon : (ts r x y : List Token) (n : Text) → after_probe words.Block ts ≡ Some r → numbered r ≡ Some (n, x) → after marks.RightParen x ≡ Some y → after marks.Colon y ≡ None → mark_ahead ts ≡ None
mark_no_colon ts r x y n a b c e =
    ap (λ o. go_after o (λ r. then_go (numbered r) mark_closed)) a
    ∙ ap (λ g. then_go g mark_closed) b
    ∙ ap (colon_behind n) c
    ∙ ap (wanted n) e

pub marks_stop : (ts : List Token) → mark_ahead ts ≡ None → Finds reads_marks ts (Some ([], ts))
marks_stop ts e = find_from reads_marks ts (got [] ts) 0 (λ j h. ap (marks_from (reads_marks j) ts) e)

pub marks_on : (ts r : List Token) (n : Text) (z : Got (List ProbeMark)) → mark_ahead ts ≡ Some (n, r) → Finds reads_marks r z → Finds reads_marks ts (then_go z (mark_onto (place ts) n))
marks_on ts r n z e p = find_from reads_marks ts (then_go z (mark_onto (place ts) n)) p.from (λ j h. ap (marks_from (reads_marks j) ts) e ∙ ap (λ f. then_go f (mark_onto (place ts) n)) (p.holds j h))

mark_builds : Builds mark_cons [] (λ (l : List ProbeMark). l)
mark_builds = record { empty = refl; more = λ a l. refl }

pub marks_start : (ts : List Token) → MarksFrom [] ts ts
marks_start ts = record { on = λ z p. p }

at_marks_more : (l : List ProbeMark) (a : ProbeMark) (ts rest r : List Token) → MarksFrom l ts rest → mark_ahead rest ≡ Some (a.number, r) → a.pos ≡ place rest → MarksFrom (l ++ a ∷ []) ts r
at_marks_more l a ts rest r p e at' =
    leads_more mark_cons reads_marks reads_marks reads_marks l a ts rest r p (λ z h.
    subst (λ q. Finds reads_marks rest (then_go z (mark_onto q a.number))) (sym at') (marks_on rest r a.number z e h))

pub marks_more : (l' l : List ProbeMark) (a : ProbeMark) (n : Text) (ts rest r : List Token) → MarksFrom l ts rest → mark_ahead rest ≡ Some (n, r) → a.pos ≡ place rest → a.number ≡ n → l' ≡ l ++ a ∷ [] → MarksFrom l' ts r
marks_more l' l a n ts rest r p e at' number same = subst (λ l'. MarksFrom l' ts r) (sym same) (at_marks_more l a ts rest r p (e ∙ ap (λ m. got m r) (sym number)) at')

pub marks_done : (l : List ProbeMark) (ts rest : List Token) → MarksFrom l ts rest → mark_ahead rest ≡ None → Finds reads_marks ts (Some (l, rest))
marks_done l ts rest p e = leads_end mark_cons [] (λ (l : List ProbeMark). l) mark_builds reads_marks reads_marks l ts rest rest p (marks_stop rest e)

-- EXPRESSIONS IN PARENTHESES, AND EXPRESSIONS THAT MAY BE LEFT OUT

pub parens_found : (d : ℕ) (a : NodeShape) (ts r x y : List Token) → after marks.LeftParen ts ≡ Some r → Finds (reads 0 d 0) r (Some (a, x)) → after marks.RightParen x ≡ Some y → Finds (parens d) ts (Some (a, y))
parens_found d a ts r x y e p c =
    let q = closed_found marks.RightParen (reads 0 d 0) r a x y p c in
    record { from = q.from; holds = λ k h. ap (λ o. go_after o (λ l. closed marks.RightParen (reads 0 d 0) k l)) e ∙ q.holds k h }

pub parens_bare : (d : ℕ) (ts : List Token) → after marks.LeftParen ts ≡ None → Finds (parens d) ts None
parens_bare d ts e = record { from = 0; holds = λ k h. ap (λ o. go_after o (λ l. closed marks.RightParen (reads 0 d 0) k l)) e }

pub parens_fail : (d : ℕ) (ts r : List Token) → after marks.LeftParen ts ≡ Some r → Finds (reads 0 d 0) r None → Finds (parens d) ts None
parens_fail d ts r e p =
    let q = closed_fails marks.RightParen (reads 0 d 0) r p in
    record { from = q.from; holds = λ k h. ap (λ o. go_after o (λ l. closed marks.RightParen (reads 0 d 0) k l)) e ∙ q.holds k h }

pub parens_open : (d : ℕ) (a : NodeShape) (ts r x : List Token) → after marks.LeftParen ts ≡ Some r → Finds (reads 0 d 0) r (Some (a, x)) → after marks.RightParen x ≡ None → Finds (parens d) ts None
parens_open d a ts r x e p c =
    let q = closed_open marks.RightParen (reads 0 d 0) r a x p c in
    record { from = q.from; holds = λ k h. ap (λ o. go_after o (λ l. closed marks.RightParen (reads 0 d 0) k l)) e ∙ q.holds k h }

abbrev an_expression : ℕ → ℕ → List Token → Got MaybeNode
an_expression d k l = then_go (reads 0 d 0 k l) one_got

an_expression_found : (d : ℕ) (a : NodeShape) (ts x : List Token) → Finds (reads 0 d 0) ts (got a x) → Finds (an_expression d) ts (got (one_node a) x)
an_expression_found d a ts x p = then_found (reads 0 d 0) (λ k. one_got) ts a x (got (one_node a) x) p (record { from = 0; holds = λ k h. refl })

pub optional_none : (m : Mark) (d : ℕ) (ts r : List Token) → after m ts ≡ Some r → Finds (optional m d) ts (Some (no_node, r))
optional_none m d ts r e = record { from = 0; holds = λ k h. ap (λ o. either_way o (got no_node) (closed m (an_expression d) k ts)) e }

pub optional_found : (m : Mark) (d : ℕ) (a : NodeShape) (ts x y : List Token) → after m ts ≡ None → Finds (reads 0 d 0) ts (Some (a, x)) → after m x ≡ Some y → Finds (optional m d) ts (Some (one_node a, y))
optional_found m d a ts x y e p c =
    let q = closed_found m (an_expression d) ts (one_node a) x y (an_expression_found d a ts x p) c in
    record { from = q.from; holds = λ k h. ap (λ o. either_way o (got no_node) (closed m (an_expression d) k ts)) e ∙ q.holds k h }

pub optional_fails : (m : Mark) (d : ℕ) (ts : List Token) → after m ts ≡ None → Finds (reads 0 d 0) ts None → Finds (optional m d) ts None
optional_fails m d ts e p =
    let q = closed_fails m (an_expression d) ts (then_fails (reads 0 d 0) (λ k. one_got) ts p) in
    record { from = q.from; holds = λ k h. ap (λ o. either_way o (got no_node) (closed m (an_expression d) k ts)) e ∙ q.holds k h }

pub optional_open : (m : Mark) (d : ℕ) (a : NodeShape) (ts x : List Token) → after m ts ≡ None → Finds (reads 0 d 0) ts (Some (a, x)) → after m x ≡ None → Finds (optional m d) ts None
optional_open m d a ts x e p c =
    let q = closed_open m (an_expression d) ts (one_node a) x (an_expression_found d a ts x p) c in
    record { from = q.from; holds = λ k h. ap (λ o. either_way o (got no_node) (closed m (an_expression d) k ts)) e ∙ q.holds k h }

-- THE FORMS BEHIND THEIR KEYWORDS

pub if_plain : (d : ℕ) (c : NodeShape) (s : StmtShape) (ts x y : List Token) → Finds (parens (suc d)) ts (Some (c, x)) → Finds (reads_stmt (suc d)) x (Some (s, y)) → after_key keys.Else y ≡ None → Finds (if_parts d) ts (Some (when c s, y))
if_plain d c s ts x y p q e = record {
  from = p.from + q.from;
  holds = λ k h.
      ap (λ f. then_go f (if_from (inside d k))) (p.holds k (omega (arith, h)))
      ∙ ap (λ f. then_go f (if_then (inside d k) c)) (q.holds k (omega (arith, h)))
      ∙ ap (λ o. either_way o (λ r. then_go (reads_stmt (suc d) k r) (either_made c s)) (got (when c s) y)) e;
}

pub if_else : (d : ℕ) (c : NodeShape) (s t : StmtShape) (ts x y u v : List Token) → Finds (parens (suc d)) ts (Some (c, x)) → Finds (reads_stmt (suc d)) x (Some (s, y)) → after_key keys.Else y ≡ Some u → Finds (reads_stmt (suc d)) u (Some (t, v)) → Finds (if_parts d) ts (Some (either c s t, v))
if_else d c s t ts x y u v p q e w = record {
  from = p.from + (q.from + w.from);
  holds = λ k h.
      ap (λ f. then_go f (if_from (inside d k))) (p.holds k (omega (arith, h)))
      ∙ ap (λ f. then_go f (if_then (inside d k) c)) (q.holds k (omega (arith, h)))
      ∙ ap (λ o. either_way o (λ r. then_go (reads_stmt (suc d) k r) (either_made c s)) (got (when c s) y)) e
      ∙ ap (λ f. then_go f (either_made c s)) (w.holds k (omega (arith, h)));
}

pub if_fails : (d : ℕ) (ts : List Token) → Finds (parens (suc d)) ts None → Finds (if_parts d) ts None
if_fails d ts p = then_fails (parens (suc d)) (λ k. if_from (inside d k)) ts p

pub if_then_fails : (d : ℕ) (c : NodeShape) (ts x : List Token) → Finds (parens (suc d)) ts (Some (c, x)) → Finds (reads_stmt (suc d)) x None → Finds (if_parts d) ts None
if_then_fails d c ts x p q = record {
  from = p.from + q.from;
  holds = λ k h. ap (λ f. then_go f (if_from (inside d k))) (p.holds k (omega (arith, h))) ∙ ap (λ f. then_go f (if_then (inside d k) c)) (q.holds k (omega (arith, h)));
}

pub if_else_fails : (d : ℕ) (c : NodeShape) (s : StmtShape) (ts x y u : List Token) → Finds (parens (suc d)) ts (Some (c, x)) → Finds (reads_stmt (suc d)) x (Some (s, y)) → after_key keys.Else y ≡ Some u → Finds (reads_stmt (suc d)) u None → Finds (if_parts d) ts None
if_else_fails d c s ts x y u p q e w = record {
  from = p.from + (q.from + w.from);
  holds = λ k h.
      ap (λ f. then_go f (if_from (inside d k))) (p.holds k (omega (arith, h)))
      ∙ ap (λ f. then_go f (if_then (inside d k) c)) (q.holds k (omega (arith, h)))
      ∙ ap (λ o. either_way o (λ r. then_go (reads_stmt (suc d) k r) (either_made c s)) (got (when c s) y)) e
      ∙ ap (λ f. then_go f (either_made c s)) (w.holds k (omega (arith, h)));
}

pub while_found : (d : ℕ) (c : NodeShape) (s : StmtShape) (ts x y : List Token) → Finds (parens (suc d)) ts (Some (c, x)) → Finds (reads_stmt (suc d)) x (Some (s, y)) → Finds (while_parts d) ts (Some (while c s, y))
while_found d c s ts x y p q = record {
  from = p.from + q.from;
  holds = λ k h. ap (λ f. then_go f (while_from (inside d k))) (p.holds k (omega (arith, h))) ∙ ap (λ f. then_go f (while_made c)) (q.holds k (omega (arith, h)));
}

pub while_fails : (d : ℕ) (ts : List Token) → Finds (parens (suc d)) ts None → Finds (while_parts d) ts None
while_fails d ts p = then_fails (parens (suc d)) (λ k. while_from (inside d k)) ts p

pub while_body_fails : (d : ℕ) (c : NodeShape) (ts x : List Token) → Finds (parens (suc d)) ts (Some (c, x)) → Finds (reads_stmt (suc d)) x None → Finds (while_parts d) ts None
while_body_fails d c ts x p q = record {
  from = p.from + q.from;
  holds = λ k h. ap (λ f. then_go f (while_from (inside d k))) (p.holds k (omega (arith, h))) ∙ ap (λ f. then_go f (while_made c)) (q.holds k (omega (arith, h)));
}

abbrev do_condition : StmtShape → ℕ → ℕ → List Token → Got FormShape
do_condition s d k r = then_go (parens (suc d) k r) (do_end s)

pub do_found : (d : ℕ) (s : StmtShape) (c : NodeShape) (ts x y u v : List Token) → Finds (reads_stmt (suc d)) ts (Some (s, x)) → after_key keys.While x ≡ Some y → Finds (parens (suc d)) y (Some (c, u)) → after marks.Semicolon u ≡ Some v → Finds (do_parts d) ts (Some (do_while s c, v))
do_found d s c ts x y u v p a q e = record {
  from = p.from + q.from;
  holds = λ k h.
      ap (λ f. then_go f (do_from (inside d k))) (p.holds k (omega (arith, h)))
      ∙ ap (λ o. go_after o (do_condition s d k)) a
      ∙ ap (λ f. then_go f (do_end s)) (q.holds k (omega (arith, h)))
      ∙ ap (wanted (do_while s c)) e;
}

pub do_fails : (d : ℕ) (ts : List Token) → Finds (reads_stmt (suc d)) ts None → Finds (do_parts d) ts None
do_fails d ts p = then_fails (reads_stmt (suc d)) (λ k. do_from (inside d k)) ts p

pub do_whileless : (d : ℕ) (s : StmtShape) (ts x : List Token) → Finds (reads_stmt (suc d)) ts (Some (s, x)) → after_key keys.While x ≡ None → Finds (do_parts d) ts None
do_whileless d s ts x p a = record { from = p.from; holds = λ k h. ap (λ f. then_go f (do_from (inside d k))) (p.holds k h) ∙ ap (λ o. go_after o (do_condition s d k)) a }

pub do_condition_fails : (d : ℕ) (s : StmtShape) (ts x y : List Token) → Finds (reads_stmt (suc d)) ts (Some (s, x)) → after_key keys.While x ≡ Some y → Finds (parens (suc d)) y None → Finds (do_parts d) ts None
do_condition_fails d s ts x y p a q = record {
  from = p.from + q.from;
  holds = λ k h.
      ap (λ f. then_go f (do_from (inside d k))) (p.holds k (omega (arith, h)))
      ∙ ap (λ o. go_after o (do_condition s d k)) a
      ∙ ap (λ f. then_go f (do_end s)) (q.holds k (omega (arith, h)));
}

pub do_unended : (d : ℕ) (s : StmtShape) (c : NodeShape) (ts x y u : List Token) → Finds (reads_stmt (suc d)) ts (Some (s, x)) → after_key keys.While x ≡ Some y → Finds (parens (suc d)) y (Some (c, u)) → after marks.Semicolon u ≡ None → Finds (do_parts d) ts None
do_unended d s c ts x y u p a q e = record {
  from = p.from + q.from;
  holds = λ k h.
      ap (λ f. then_go f (do_from (inside d k))) (p.holds k (omega (arith, h)))
      ∙ ap (λ o. go_after o (do_condition s d k)) a
      ∙ ap (λ f. then_go f (do_end s)) (q.holds k (omega (arith, h)))
      ∙ ap (wanted (do_while s c)) e;
}

-- behind the parenthesis of a `for`
abbrev for_rest : ℕ → ℕ → List Token → Got FormShape
for_rest d k r = then_go (optional marks.Semicolon (suc d) k r) (for_first (inside d k))

pub for_found : (d : ℕ) (a b c : MaybeNode) (s : StmtShape) (ts r x y u v : List Token) → after marks.LeftParen ts ≡ Some r → Finds (optional marks.Semicolon (suc d)) r (Some (a, x)) → Finds (optional marks.Semicolon (suc d)) x (Some (b, y)) → Finds (optional marks.RightParen (suc d)) y (Some (c, u)) → Finds (reads_stmt (suc d)) u (Some (s, v)) → Finds (for_parts d) ts (Some (for a b c s, v))
for_found d a b c s ts r x y u v e p q w z = record {
  from = p.from + (q.from + (w.from + z.from));
  holds = λ k h.
      ap (λ o. go_after o (for_rest d k)) e
      ∙ ap (λ f. then_go f (for_first (inside d k))) (p.holds k (omega (arith, h)))
      ∙ ap (λ f. then_go f (for_second (inside d k) a)) (q.holds k (omega (arith, h)))
      ∙ ap (λ f. then_go f (for_third (inside d k) a b)) (w.holds k (omega (arith, h)))
      ∙ ap (λ f. then_go f (for_made a b c)) (z.holds k (omega (arith, h)));
}

pub for_bare : (d : ℕ) (ts : List Token) → after marks.LeftParen ts ≡ None → Finds (for_parts d) ts None
for_bare d ts e = record { from = 0; holds = λ k h. ap (λ o. go_after o (for_rest d k)) e }

pub for_first_fails : (d : ℕ) (ts r : List Token) → after marks.LeftParen ts ≡ Some r → Finds (optional marks.Semicolon (suc d)) r None → Finds (for_parts d) ts None
for_first_fails d ts r e p = record { from = p.from; holds = λ k h. ap (λ o. go_after o (for_rest d k)) e ∙ ap (λ f. then_go f (for_first (inside d k))) (p.holds k h) }

pub for_second_fails : (d : ℕ) (a : MaybeNode) (ts r x : List Token) → after marks.LeftParen ts ≡ Some r → Finds (optional marks.Semicolon (suc d)) r (Some (a, x)) → Finds (optional marks.Semicolon (suc d)) x None → Finds (for_parts d) ts None
for_second_fails d a ts r x e p q = record {
  from = p.from + q.from;
  holds = λ k h.
      ap (λ o. go_after o (for_rest d k)) e
      ∙ ap (λ f. then_go f (for_first (inside d k))) (p.holds k (omega (arith, h)))
      ∙ ap (λ f. then_go f (for_second (inside d k) a)) (q.holds k (omega (arith, h)));
}

pub for_third_fails : (d : ℕ) (a b : MaybeNode) (ts r x y : List Token) → after marks.LeftParen ts ≡ Some r → Finds (optional marks.Semicolon (suc d)) r (Some (a, x)) → Finds (optional marks.Semicolon (suc d)) x (Some (b, y)) → Finds (optional marks.RightParen (suc d)) y None → Finds (for_parts d) ts None
for_third_fails d a b ts r x y e p q w = record {
  from = p.from + (q.from + w.from);
  holds = λ k h.
      ap (λ o. go_after o (for_rest d k)) e
      ∙ ap (λ f. then_go f (for_first (inside d k))) (p.holds k (omega (arith, h)))
      ∙ ap (λ f. then_go f (for_second (inside d k) a)) (q.holds k (omega (arith, h)))
      ∙ ap (λ f. then_go f (for_third (inside d k) a b)) (w.holds k (omega (arith, h)));
}

pub for_body_fails : (d : ℕ) (a b c : MaybeNode) (ts r x y u : List Token) → after marks.LeftParen ts ≡ Some r → Finds (optional marks.Semicolon (suc d)) r (Some (a, x)) → Finds (optional marks.Semicolon (suc d)) x (Some (b, y)) → Finds (optional marks.RightParen (suc d)) y (Some (c, u)) → Finds (reads_stmt (suc d)) u None → Finds (for_parts d) ts None
for_body_fails d a b c ts r x y u e p q w z = record {
  from = p.from + (q.from + (w.from + z.from));
  holds = λ k h.
      ap (λ o. go_after o (for_rest d k)) e
      ∙ ap (λ f. then_go f (for_first (inside d k))) (p.holds k (omega (arith, h)))
      ∙ ap (λ f. then_go f (for_second (inside d k) a)) (q.holds k (omega (arith, h)))
      ∙ ap (λ f. then_go f (for_third (inside d k) a b)) (w.holds k (omega (arith, h)))
      ∙ ap (λ f. then_go f (for_made a b c)) (z.holds k (omega (arith, h)));
}

abbrev switch_rest : ℕ → ℕ → NodeShape → List Token → Got FormShape
switch_rest d k c r = then_go (closed marks.RightBrace (reads_items (suc d)) k r) (switch_made c)

pub switch_found : (d : ℕ) (c : NodeShape) (is' : ItemShapes) (ts x y u v : List Token) → Finds (parens (suc d)) ts (Some (c, x)) → after marks.LeftBrace x ≡ Some y → Finds (reads_items (suc d)) y (Some (is', u)) → after marks.RightBrace u ≡ Some v → Finds (switch_parts d) ts (Some (switch c is', v))
switch_found d c is' ts x y u v p a q e =
    let w = closed_found marks.RightBrace (reads_items (suc d)) y is' u v q e in
    record {
      from = p.from + w.from;
      holds = λ k h.
          ap (λ f. then_go f (switch_from (inside d k))) (p.holds k (omega (arith, h)))
          ∙ ap (λ o. go_after o (switch_rest d k c)) a
          ∙ ap (λ f. then_go f (switch_made c)) (w.holds k (omega (arith, h)));
    }

pub switch_fails : (d : ℕ) (ts : List Token) → Finds (parens (suc d)) ts None → Finds (switch_parts d) ts None
switch_fails d ts p = then_fails (parens (suc d)) (λ k. switch_from (inside d k)) ts p

pub switch_bare : (d : ℕ) (c : NodeShape) (ts x : List Token) → Finds (parens (suc d)) ts (Some (c, x)) → after marks.LeftBrace x ≡ None → Finds (switch_parts d) ts None
switch_bare d c ts x p a = record { from = p.from; holds = λ k h. ap (λ f. then_go f (switch_from (inside d k))) (p.holds k h) ∙ ap (λ o. go_after o (switch_rest d k c)) a }

switch_closed : (d : ℕ) (c : NodeShape) (ts x y : List Token) → Finds (parens (suc d)) ts (Some (c, x)) → after marks.LeftBrace x ≡ Some y → Finds (closed marks.RightBrace (reads_items (suc d))) y None → Finds (switch_parts d) ts None
switch_closed d c ts x y p a w = record {
  from = p.from + w.from;
  holds = λ k h.
      ap (λ f. then_go f (switch_from (inside d k))) (p.holds k (omega (arith, h)))
      ∙ ap (λ o. go_after o (switch_rest d k c)) a
      ∙ ap (λ f. then_go f (switch_made c)) (w.holds k (omega (arith, h)));
}

pub switch_items_fail : (d : ℕ) (c : NodeShape) (ts x y : List Token) → Finds (parens (suc d)) ts (Some (c, x)) → after marks.LeftBrace x ≡ Some y → Finds (reads_items (suc d)) y None → Finds (switch_parts d) ts None
switch_items_fail d c ts x y p a q = switch_closed d c ts x y p a (closed_fails marks.RightBrace (reads_items (suc d)) y q)

pub switch_open : (d : ℕ) (c : NodeShape) (is' : ItemShapes) (ts x y u : List Token) → Finds (parens (suc d)) ts (Some (c, x)) → after marks.LeftBrace x ≡ Some y → Finds (reads_items (suc d)) y (Some (is', u)) → after marks.RightBrace u ≡ None → Finds (switch_parts d) ts None
switch_open d c is' ts x y u p a q e = switch_closed d c ts x y p a (closed_open marks.RightBrace (reads_items (suc d)) y is' u q e)

pub return_found : (d : ℕ) (e : MaybeNode) (ts x : List Token) → Finds (optional marks.Semicolon (suc d)) ts (Some (e, x)) → Finds (return_parts d) ts (Some (return e, x))
return_found d e ts x p = record { from = p.from; holds = λ k h. ap (λ f. then_go f return_got) (p.holds k h) }

pub return_fails : (d : ℕ) (ts : List Token) → Finds (optional marks.Semicolon (suc d)) ts None → Finds (return_parts d) ts None
return_fails d ts p = record { from = p.from; holds = λ k h. ap (λ f. then_go f return_got) (p.holds k h) }

pub simple_found : (d : ℕ) (e : MaybeNode) (ts x : List Token) → Finds (optional marks.Semicolon (suc d)) ts (Some (e, x)) → Finds (simple_parts d) ts (Some (simply e, x))
simple_found d e ts x p = record { from = p.from; holds = λ k h. ap (λ f. then_go f simply_got) (p.holds k h) }

pub simple_fails : (d : ℕ) (ts : List Token) → Finds (optional marks.Semicolon (suc d)) ts None → Finds (simple_parts d) ts None
simple_fails d ts p = record { from = p.from; holds = λ k h. ap (λ f. then_go f simply_got) (p.holds k h) }

pub compound_form_found : (d : ℕ) (p : Pos) (c : CompoundShape) (ts x : List Token) → Finds (reads_compound (suc d) p) ts (Some (c, x)) → Finds (compound_parts d p) ts (Some (compound c, x))
compound_form_found d p c ts x q = record { from = q.from; holds = λ k h. ap (λ f. then_go f compound_got) (q.holds k h) }

pub compound_form_fails : (d : ℕ) (p : Pos) (ts : List Token) → Finds (reads_compound (suc d) p) ts None → Finds (compound_parts d p) ts None
compound_form_fails d p ts q = record { from = q.from; holds = λ k h. ap (λ f. then_go f compound_got) (q.holds k h) }

-- FORMS BY THEIR FIRST TOKEN

-- the forms from one keyword on
abbrev pub from_return : ℕ → ℕ → List Token → Got FormShape
from_return d k ts = either_way (after_key keys.Return ts) (return_parts d k) (simple_parts d k ts)

abbrev pub from_continue : ℕ → ℕ → List Token → Got FormShape
from_continue d k ts = either_way (after_key keys.Continue ts) (expect marks.Semicolon continue) (from_return d k ts)

abbrev pub from_break : ℕ → ℕ → List Token → Got FormShape
from_break d k ts = either_way (after_key keys.Break ts) (expect marks.Semicolon break) (from_continue d k ts)

abbrev pub from_switch : ℕ → ℕ → List Token → Got FormShape
from_switch d k ts = either_way (after_key keys.Switch ts) (switch_parts d k) (from_break d k ts)

abbrev pub from_for : ℕ → ℕ → List Token → Got FormShape
from_for d k ts = either_way (after_key keys.For ts) (for_parts d k) (from_switch d k ts)

abbrev pub from_do : ℕ → ℕ → List Token → Got FormShape
from_do d k ts = either_way (after_key keys.Do ts) (do_parts d k) (from_for d k ts)

abbrev pub from_while : ℕ → ℕ → List Token → Got FormShape
from_while d k ts = either_way (after_key keys.While ts) (while_parts d k) (from_do d k ts)

abbrev pub from_if : ℕ → ℕ → List Token → Got FormShape
from_if d k ts = either_way (after_key keys.If ts) (if_parts d k) (from_while d k ts)

-- a form by what it begins with
abbrev form_by : ℕ → ℕ → List Token → Head → Got FormShape
form_by d k ts h =
    either_way (after_head marks.LeftBrace h) (compound_parts d (place ts) k)
    (either_way (after_key_head keys.If h) (if_parts d k)
    (either_way (after_key_head keys.While h) (while_parts d k)
    (either_way (after_key_head keys.Do h) (do_parts d k)
    (either_way (after_key_head keys.For h) (for_parts d k)
    (either_way (after_key_head keys.Switch h) (switch_parts d k)
    (either_way (after_key_head keys.Break h) (expect marks.Semicolon break)
    (either_way (after_key_head keys.Continue h) (expect marks.Semicolon continue)
    (either_way (after_key_head keys.Return h) (return_parts d k) (simple_parts d k ts)))))))))

pub form_compound : (d : ℕ) (ts r : List Token) (z : Got FormShape) → after marks.LeftBrace ts ≡ Some r → Finds (compound_parts d (place ts)) r z → Finds (reads_form d) ts z
form_compound d ts r z e p = record { from = p.from; holds = λ k h. ap (form_by d k ts) (after_is marks.LeftBrace ts r e) ∙ p.holds k h }

pub form_if : (d : ℕ) (ts r : List Token) (z : Got FormShape) → after_key keys.If ts ≡ Some r → Finds (if_parts d) r z → Finds (reads_form d) ts z
form_if d ts r z e p = record { from = p.from; holds = λ k h. ap (form_by d k ts) (after_key_is keys.If ts r e) ∙ p.holds k h }

pub form_while : (d : ℕ) (ts r : List Token) (z : Got FormShape) → after_key keys.While ts ≡ Some r → Finds (while_parts d) r z → Finds (reads_form d) ts z
form_while d ts r z e p = record { from = p.from; holds = λ k h. ap (form_by d k ts) (after_key_is keys.While ts r e) ∙ p.holds k h }

pub form_do : (d : ℕ) (ts r : List Token) (z : Got FormShape) → after_key keys.Do ts ≡ Some r → Finds (do_parts d) r z → Finds (reads_form d) ts z
form_do d ts r z e p = record { from = p.from; holds = λ k h. ap (form_by d k ts) (after_key_is keys.Do ts r e) ∙ p.holds k h }

pub form_for : (d : ℕ) (ts r : List Token) (z : Got FormShape) → after_key keys.For ts ≡ Some r → Finds (for_parts d) r z → Finds (reads_form d) ts z
form_for d ts r z e p = record { from = p.from; holds = λ k h. ap (form_by d k ts) (after_key_is keys.For ts r e) ∙ p.holds k h }

pub form_switch : (d : ℕ) (ts r : List Token) (z : Got FormShape) → after_key keys.Switch ts ≡ Some r → Finds (switch_parts d) r z → Finds (reads_form d) ts z
form_switch d ts r z e p = record { from = p.from; holds = λ k h. ap (form_by d k ts) (after_key_is keys.Switch ts r e) ∙ p.holds k h }

pub form_return : (d : ℕ) (ts r : List Token) (z : Got FormShape) → after_key keys.Return ts ≡ Some r → Finds (return_parts d) r z → Finds (reads_form d) ts z
form_return d ts r z e p = record { from = p.from; holds = λ k h. ap (form_by d k ts) (after_key_is keys.Return ts r e) ∙ p.holds k h }

pub form_break : (d : ℕ) (ts r x : List Token) → after_key keys.Break ts ≡ Some r → after marks.Semicolon r ≡ Some x → Finds (reads_form d) ts (Some (break, x))
form_break d ts r x e c = record { from = 0; holds = λ k h. ap (form_by d k ts) (after_key_is keys.Break ts r e) ∙ ap (wanted break) c }

pub form_break_unended : (d : ℕ) (ts r : List Token) → after_key keys.Break ts ≡ Some r → after marks.Semicolon r ≡ None → Finds (reads_form d) ts None
form_break_unended d ts r e c = record { from = 0; holds = λ k h. ap (form_by d k ts) (after_key_is keys.Break ts r e) ∙ ap (wanted break) c }

pub form_continue : (d : ℕ) (ts r x : List Token) → after_key keys.Continue ts ≡ Some r → after marks.Semicolon r ≡ Some x → Finds (reads_form d) ts (Some (continue, x))
form_continue d ts r x e c = record { from = 0; holds = λ k h. ap (form_by d k ts) (after_key_is keys.Continue ts r e) ∙ ap (wanted continue) c }

pub form_continue_unended : (d : ℕ) (ts r : List Token) → after_key keys.Continue ts ≡ Some r → after marks.Semicolon r ≡ None → Finds (reads_form d) ts None
form_continue_unended d ts r e c = record { from = 0; holds = λ k h. ap (form_by d k ts) (after_key_is keys.Continue ts r e) ∙ ap (wanted continue) c }

pub form_simple : (d : ℕ) (ts : List Token) (z : Got FormShape) → after marks.LeftBrace ts ≡ None → after_key keys.If ts ≡ None → after_key keys.While ts ≡ None → after_key keys.Do ts ≡ None → after_key keys.For ts ≡ None → after_key keys.Switch ts ≡ None → after_key keys.Break ts ≡ None → after_key keys.Continue ts ≡ None → after_key keys.Return ts ≡ None → Finds (simple_parts d) ts z → Finds (reads_form d) ts z
form_simple d ts z n1 n2 n3 n4 n5 n6 n7 n8 n9 p = record {
  from = p.from;
  holds = λ k h.
      ap (λ o. either_way o (compound_parts d (place ts) k) (from_if d k ts)) n1
      ∙ ap (λ o. either_way o (if_parts d k) (from_while d k ts)) n2
      ∙ ap (λ o. either_way o (while_parts d k) (from_do d k ts)) n3
      ∙ ap (λ o. either_way o (do_parts d k) (from_for d k ts)) n4
      ∙ ap (λ o. either_way o (for_parts d k) (from_switch d k ts)) n5
      ∙ ap (λ o. either_way o (switch_parts d k) (from_break d k ts)) n6
      ∙ ap (λ o. either_way o (expect marks.Semicolon break) (from_continue d k ts)) n7
      ∙ ap (λ o. either_way o (expect marks.Semicolon continue) (from_return d k ts)) n8
      ∙ ap (λ o. either_way o (return_parts d k) (simple_parts d k ts)) n9
      ∙ p.holds k h;
}
