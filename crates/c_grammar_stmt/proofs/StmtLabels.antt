-- Labels one by one, as the code reads them.
use Rattle.std.proofs.Common.{◌≡◌, ℕ, suc, ◌+◌, ◌≤◌, List, [], ◌∷◌, ◌++◌, Option, Some, None, true, false, refl, sym, ap, ◌∙◌, subst, arith}
use Rattle.std.specs.Prelude.{◌||◌, is_some, map}
use Rattle.c_base.specs.declared.place.Pos.{Pos}
use Rattle.c_syntax.specs.declared.token.Mark.TheVariants as marks
use Rattle.c_syntax.specs.declared.token.Key.TheVariants as keys
use Rattle.c_syntax.specs.declared.token.Token.{Token}
use Rattle.c_syntax.specs.declared.tree.Label.{Label}
use Rattle.c_syntax.specs.Forms.{Head, place}
use Rattle.c_syntax.specs.Shape.{NodeShape, LabelShape, case, default}
use Rattle.c_syntax.specs.View.{label_shape}
use Rattle.c_grammar.specs.Look.{Got, got, then_go, go_after, either_way, Finds, after, after_key, after_key_head, wanted, expect}
use Rattle.c_grammar.specs.Reader.{reads}
use Rattle.c_grammar_stmt.specs.StmtReader.{label_onto, case_more, reads_labels}
use Rattle.c_grammar_stmt.specs.StmtParts.{label_there, case_got, one_label, label_cons, LabelsFrom}
use Rattle.c_grammar.proofs.Looking.{after_key_is, find_from}
use Rattle.c_grammar.proofs.Leading.{leads_more, leads_fail}
use Rattle.c_grammar.proofs.ExprSteps.{read_deep}
use Rattle.c_grammar_stmt.proofs.StmtSteps.{label_list_done}

-- ONE LABEL

abbrev label_by : ℕ → ℕ → List Token → Head → Got LabelShape
label_by d k ts h = either_way (after_key_head keys.Case h) (λ r. then_go (reads 2 (suc d) 0 k r) (case_got (place ts))) (go_after (after_key_head keys.Default h) (expect marks.Colon (default (place ts))))

pub one_case : (d : ℕ) (a : NodeShape) (ts r x y : List Token) → after_key keys.Case ts ≡ Some r → Finds (reads 2 (suc d) 0) r (Some (a, x)) → after marks.Colon x ≡ Some y → Finds (one_label d) ts (Some (case (place ts) a, y))
one_case d a ts r x y e p c = record { from = p.from; holds = λ k h. ap (label_by d k ts) (after_key_is keys.Case ts r e) ∙ ap (λ f. then_go f (case_got (place ts))) (p.holds k h) ∙ ap (wanted (case (place ts) a)) c }

pub one_case_open : (d : ℕ) (a : NodeShape) (ts r x : List Token) → after_key keys.Case ts ≡ Some r → Finds (reads 2 (suc d) 0) r (Some (a, x)) → after marks.Colon x ≡ None → Finds (one_label d) ts None
one_case_open d a ts r x e p c = record { from = p.from; holds = λ k h. ap (label_by d k ts) (after_key_is keys.Case ts r e) ∙ ap (λ f. then_go f (case_got (place ts))) (p.holds k h) ∙ ap (wanted (case (place ts) a)) c }

pub one_case_fails : (d : ℕ) (ts r : List Token) → after_key keys.Case ts ≡ Some r → Finds (reads 2 (suc d) 0) r None → Finds (one_label d) ts None
one_case_fails d ts r e p = record { from = p.from; holds = λ k h. ap (label_by d k ts) (after_key_is keys.Case ts r e) ∙ ap (λ f. then_go f (case_got (place ts))) (p.holds k h) }

pub one_default : (d : ℕ) (ts r x : List Token) → after_key keys.Default ts ≡ Some r → after marks.Colon r ≡ Some x → Finds (one_label d) ts (Some (default (place ts), x))
one_default d ts r x e c = record { from = 0; holds = λ k h. ap (label_by d k ts) (after_key_is keys.Default ts r e) ∙ ap (wanted (default (place ts))) c }

pub one_default_open : (d : ℕ) (ts r : List Token) → after_key keys.Default ts ≡ Some r → after marks.Colon r ≡ None → Finds (one_label d) ts None
one_default_open d ts r e c = record { from = 0; holds = λ k h. ap (label_by d k ts) (after_key_is keys.Default ts r e) ∙ ap (wanted (default (place ts))) c }

-- no label begins there
pub one_none : (d : ℕ) (ts : List Token) → after_key keys.Case ts ≡ None → after_key keys.Default ts ≡ None → Finds (one_label d) ts None
one_none d ts e c = record {
  from = 0;
  holds = λ k h.
      ap (λ o. either_way o (λ r. then_go (reads 2 (suc d) 0 k r) (case_got (place ts))) (go_after (after_key keys.Default ts) (expect marks.Colon (default (place ts))))) e
      ∙ ap (λ o. go_after o (expect marks.Colon (default (place ts)))) c;
}

-- LISTS OF LABELS

abbrev label_more : (List Token → Got (List LabelShape)) → LabelShape → List Token → Got (List LabelShape)
label_more more l ts = then_go (more ts) (label_onto l)

colon_apart : (more : List Token → Got (List LabelShape)) (l : LabelShape) (o : Option (List Token)) → go_after o (λ r. then_go (more r) (label_onto l)) ≡ then_go (wanted l o) (label_more more)
colon_apart more l None = refl
colon_apart more l (Some r) = refl

case_apart : (more : List Token → Got (List LabelShape)) (p : Pos) (x : Got NodeShape) → then_go x (case_more more p) ≡ then_go (then_go x (case_got p)) (label_more more)
case_apart more p None = refl
case_apart more p (Some q) = colon_apart more (case p q.0) (after marks.Colon q.1)

labels_apart : (d k : ℕ) (ts : List Token) (o c : Option (List Token)) → (is_some o || is_some c) ≡ true → either_way o (λ r. then_go (reads 2 (suc d) 0 k r) (case_more (λ l. reads_labels d k l) (place ts))) (either_way c (λ r. go_after (after marks.Colon r) (λ l. then_go (reads_labels d k l) (label_onto (default (place ts))))) (got [] ts)) ≡ then_go (either_way o (λ r. then_go (reads 2 (suc d) 0 k r) (case_got (place ts))) (go_after c (expect marks.Colon (default (place ts))))) (label_more (λ l. reads_labels d k l))
labels_apart d k ts (Some r) c e = case_apart (λ l. reads_labels d k l) (place ts) (reads 2 (suc d) 0 k r)
labels_apart d k ts None (Some r) e = colon_apart (λ l. reads_labels d k l) (default (place ts)) (after marks.Colon r)
labels_apart d k ts None None e = absurd (let h : false ≡ true = e in cc)

label_on : (d : ℕ) (l : LabelShape) (ts x : List Token) (z : Got (List LabelShape)) → label_there ts ≡ true → Finds (one_label d) ts (got l x) → Finds (reads_labels d) x z → Finds (reads_labels d) ts (then_go z (label_onto l))
label_on d l ts x z e p q =
    find_from (reads_labels d) ts (then_go z (label_onto l)) (p.from + q.from) (λ j h.
    labels_apart d j ts (after_key keys.Case ts) (after_key keys.Default ts) e
    ∙ ap (λ f. then_go f (label_more (λ l. reads_labels d j l))) (p.holds j (omega (arith, h)))
    ∙ ap (λ f. then_go f (label_onto l)) (q.holds j (omega (arith, h))))

label_fails : (d : ℕ) (ts : List Token) → label_there ts ≡ true → Finds (one_label d) ts None → Finds (reads_labels d) ts None
label_fails d ts e p =
    find_from (reads_labels d) ts None p.from (λ j h. labels_apart d j ts (after_key keys.Case ts) (after_key keys.Default ts) e ∙ ap (λ f. then_go f (label_more (λ l. reads_labels d j l))) (p.holds j h))

pub label_list_more : (l' : List Label) (d : ℕ) (l : List Label) (a : Label) (ts rest x : List Token) → LabelsFrom d l ts rest → label_there rest ≡ true → Finds (one_label d) rest (Some (label_shape a, x)) → l' ≡ l ++ a ∷ [] → LabelsFrom d l' ts x
label_list_more l' d l a ts rest x p e q same =
    subst (λ l'. LabelsFrom d l' ts x) (sym same) (record { read = leads_more label_cons (reads_labels d) (reads_labels d) (reads_labels d) l a ts rest x p.read (λ z h. label_on d (label_shape a) rest x z e q h) })

neither : (o c : Option (List Token)) → (is_some o || is_some c) ≡ false → (o ≡ None) × (c ≡ None)
neither None None e = (refl, refl)
neither None (Some r) e = absurd (let h : true ≡ false = e in cc)
neither (Some r) c e = absurd (let h : true ≡ false = e in cc)

pub label_list_end : (d : ℕ) (l : List Label) (ts rest : List Token) → LabelsFrom d l ts rest → label_there rest ≡ false → Finds (reads_labels d) ts (Some (map label_shape l, rest))
label_list_end d l ts rest p e = let n = neither (after_key keys.Case rest) (after_key keys.Default rest) e in label_list_done d l ts rest p n.0 n.1

pub label_list_failed : (d : ℕ) (l : List Label) (ts rest : List Token) → LabelsFrom d l ts rest → label_there rest ≡ true → Finds (one_label d) rest None → Finds (reads_labels d) ts None
label_list_failed d l ts rest p e q = leads_fail label_cons (reads_labels d) (reads_labels d) l ts rest p.read (label_fails d rest e q)
