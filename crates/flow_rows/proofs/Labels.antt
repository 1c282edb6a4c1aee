-- The labels of one statement of a switch, laid in turn.
use Rattle.std.proofs.Common.{ℕ, suc, ◌+◌, ◌<◌, ◌≤◌, List, ◌∷◌, [], ◌++◌, map, take, get_or, length, ◌≡◌, sym, subst, ap, ◌∙◌, arith}
use Rattle.std.proofs.lemmas.List.{take_more, take_all, map-append}
use Rattle.c_syntax.specs.declared.tree.Label.{Label}
use Rattle.c_syntax.specs.Shape.{LabelShape, case, default}
use Rattle.c_syntax.specs.View.{label_shape}
use Rattle.c_walk.specs.Stating.{case_count}
use Rattle.flow_walks.specs.declared.action.Action.TheVariants.{Test}
use Rattle.flow_walks.specs.Comes.{Comes, act, emit, either}
use Rattle.flow_walks.specs.Statements.{cases_go}
use Rattle.flow_walks.proofs.More.{cases_in}
use Rattle.flow_rows.specs.Paths.{Graph, from, From}
use Rattle.flow_rows.specs.Laying.{Grown, Leads, LedAt}
use Rattle.flow_rows.proofs.Laws.{grown_self, grown_then, keeps_then, lead_self, leads_then}

-- ---- one label more

no_more : (o : ℕ) → o ≡ o + 0
no_more o = omega arith

one_more : (o n : ℕ) → suc o + n ≡ o + suc n
one_more o n = omega arith

labels_more : (d o : ℕ) (ls : List LabelShape) (l : LabelShape) (there k : Comes) → cases_go d o (ls ++ l ∷ []) there k ≡ cases_go d o ls there (cases_go d (o + case_count ls) (l ∷ []) there k)
labels_more d o [] l there k = ap (λ (n : ℕ). cases_go d n (l ∷ []) there k) (no_more o)
labels_more d o (case p a ∷ ls) l there k =
    ap (λ (j : Comes). either (emit (act (Test d o)) there) j) (labels_more d (suc o) ls l there k ∙ ap (λ (n : ℕ). cases_go d (suc o) ls there (cases_go d n (l ∷ []) there k)) (one_more o (case_count ls)))
labels_more d o (default p ∷ ls) l there k = labels_more d o ls l there k

count_more : (ls : List LabelShape) (l : LabelShape) → case_count (ls ++ l ∷ []) ≡ case_count ls + case_count (l ∷ [])
count_more [] l = omega arith
count_more (case p a ∷ ls) l = omega (arith, count_more ls l)
count_more (default p ∷ ls) l = count_more ls l

leads_as : (h : Graph) (r : ℕ) (F G : (ℕ → Comes) → Comes) → ((k : ℕ → Comes) → F k ≡ G k) → Leads h r F → Leads h r G
leads_as h r F G p f = record {
  down = λ m n le w q. subst (λ (C : Comes). C w) (p (from h m)) (f.down m n le w q);
  up = λ w q. f.up w (subst (λ (C : Comes). C w) (sym (p (From h))) q);
}

-- ---- laid: from the row `at`, where the first case has that number, to the row of another one, which has its number

pub record LabelsLed (g h : Graph) (d first at entry other order : ℕ) (labels : List Label) : Type 0 where
  pub grown : Grown g h
  pub led : LedAt h at (λ k. cases_go d first (map label_shape labels) (k entry) (k other))
  pub numbered : order ≡ first + case_count (map label_shape labels)

pub labels_none : (g : Graph) (d first at entry : ℕ) → LabelsLed g g d first at entry at first []
labels_none g d first at entry = record { grown = grown_self g; led = λ j k. lead_self j at; numbered = no_more first }

module _ (d first at entry : ℕ) (labels : List Label) (x : Label) where
  abbrev All : List LabelShape
  All = map label_shape labels

  is_one : map label_shape (labels ++ x ∷ []) ≡ All ++ label_shape x ∷ []
  is_one = map-append label_shape labels (x ∷ [])

  one_led : (g h : Graph) (other order next : ℕ) → order ≡ first + case_count All → Grown g h → LedAt g at (λ k. cases_go d first All (k entry) (k other)) → LedAt h other (λ k. cases_go d order (label_shape x ∷ []) (k entry) (k next))
      → LedAt h at (λ k. cases_go d first (map label_shape (labels ++ x ∷ [])) (k entry) (k next))
  one_led g h other order next is gh before led j k =
      let one = subst (λ n. Leads j other (λ m. cases_go d n (label_shape x ∷ []) (m entry) (m next))) is (led j k) in
      let all = leads_then j at other (λ m v. cases_go d first All (m entry) v) (λ m. cases_go d (first + case_count All) (label_shape x ∷ []) (m entry) (m next)) (λ m u v q. cases_in d first All (m entry) u (m entry) v (λ r z. z) q) (before j (keeps_then g h j gh.keeps k)) one in
      subst (λ ls. Leads j at (λ m. cases_go d first ls (m entry) (m next))) (sym is_one)
      (leads_as j at (λ m. cases_go d first All (m entry) (cases_go d (first + case_count All) (label_shape x ∷ []) (m entry) (m next))) (λ m. cases_go d first (All ++ label_shape x ∷ []) (m entry) (m next)) (λ m. sym (labels_more d first All (label_shape x) (m entry) (m next))) all)

  one_count : (order after : ℕ) → order ≡ first + case_count All → after ≡ order + case_count (label_shape x ∷ []) → after ≡ first + case_count (map label_shape (labels ++ x ∷ []))
  one_count order after is more = let e = ap case_count is_one ∙ count_more All (label_shape x) in omega (arith, is, more, e)

  pub labels_one : (g h i : Graph) (other order next after : ℕ) → LabelsLed g h d first at entry other order labels → Grown h i
      → LedAt i other (λ k. cases_go d order (label_shape x ∷ []) (k entry) (k next)) → after ≡ order + case_count (label_shape x ∷ [])
      → LabelsLed g i d first at entry next after (labels ++ x ∷ [])
  labels_one g h i other order next after before hi led more = record {
    grown = grown_then g h i before.grown hi;
    led = one_led h i other order next before.numbered hi before.led led;
    numbered = one_count order after before.numbered more;
  }

pub labels_next : (g h i : Graph) (d first at entry other order next after : ℕ) (all : List Label) (o : ℕ) (x : Label) → o < length all → x ≡ get_or all o x → LabelsLed g h d first at entry other order (take o all) → Grown h i
    → LedAt i other (λ k. cases_go d order (label_shape x ∷ []) (k entry) (k next)) → after ≡ order + case_count (label_shape x ∷ [])
    → LabelsLed g i d first at entry next after (take (o + 1) all)
labels_next g h i d first at entry other order next after all o x lt is before hi led more =
    subst (λ ls. LabelsLed g i d first at entry next after ls) (ap (λ y. take o all ++ y ∷ []) is ∙ sym (take_more all o x lt)) (labels_one d first at entry (take o all) x g h i other order next after before hi led more)

pub labels_all : (g h : Graph) (d first at entry other order o : ℕ) (all : List Label) → length all ≤ o → LabelsLed g h d first at entry other order (take o all) → LabelsLed g h d first at entry other order all
labels_all g h d first at entry other order o all le before = subst (λ ls. LabelsLed g h d first at entry other order ls) (take_all o all le) before
