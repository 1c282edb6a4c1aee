-- The least row of two lists, and the sum so far.
use Rattle.std.proofs.Common.{◌≡◌, ◌≢◌, ℕ, ◌+◌, ◌<◌, ◌≤◌, Bool, true, false, cond, eqb, ltb, min, List, [], ◌∷◌, ◌++◌, refl, sym, ap, subst, ◌∙◌, inl, inr, arith}
use Rattle.std.proofs.lemmas.Bool.{cases_eq, eq-eqb, ne_eqb, ltb-true}
use Rattle.atac_facts.specs.declared.fact.Fact.{Fact}
use Rattle.atac_facts.specs.declared.tally.Counted.{Counted}
use Rattle.atac_facts.specs.Facts.{rank}
use Rattle.atac_facts.specs.Tallies.{AscendsFrom, end_from, count_of}
use Rattle.atac_facts.specs.Sums.{IsStep, most}
use Rattle.atac_facts.proofs.Rows.{end_push, ascends_push}
use Rattle.atac_facts.proofs.Counting.{push_other}

count_here : (row : Counted) (rows : List Counted) (f : Fact) → rank f ≡ rank row.fact → count_of (row ∷ rows) f ≡ row.count
count_here row rows f same = ap (λ (b : Bool). cond b row.count (count_of rows f)) (eq-eqb (rank row.fact) (rank f) (sym same))

count_there : (row : Counted) (rows : List Counted) (f : Fact) → rank f ≢ rank row.fact → count_of (row ∷ rows) f ≡ count_of rows f
count_there row rows f differs = ap (λ (b : Bool). cond b row.count (count_of rows f)) (ne_eqb (rank row.fact) (rank f) (λ e. differs (sym e)))

-- no fact below the first is met
count_below : (low : ℕ) (rows : List Counted) (f : Fact) → AscendsFrom low rows → rank f < low → count_of rows f ≡ 0
count_below low [] f ordered lt = refl
count_below low (row ∷ rows) f ordered lt =
    let first = ordered.0 in
    let differs : rank f ≢ rank row.fact = λ e. omega arith in
    count_there row rows f differs ∙ count_below (rank row.fact + 1) rows f ordered.2 (omega arith)

end_low : (low : ℕ) (rows : List Counted) → AscendsFrom low rows → low ≤ end_from low rows
end_low low [] ordered = omega arith
end_low low (row ∷ rows) ordered = let more = end_low (rank row.fact + 1) rows ordered.2 in let first = ordered.0 in omega arith

-- nor one past the last
count_past : (low : ℕ) (rows : List Counted) (f : Fact) → AscendsFrom low rows → end_from low rows ≤ rank f → count_of rows f ≡ 0
count_past low [] f ordered le = refl
count_past low (row ∷ rows) f ordered le =
    let more = end_low (rank row.fact + 1) rows ordered.2 in
    let differs : rank f ≢ rank row.fact = λ e. omega arith in
    count_there row rows f differs ∙ count_past (rank row.fact + 1) rows f ordered.2 le

pushed_on : (b : Bool) (n m k r : ℕ) → 1 ≤ n → cond b n m ≡ 0 → (m ≡ 0 → k ≡ r) → cond b n k ≡ r
pushed_on true n m k r met none on = absurd (omega arith)
pushed_on false n m k r met none on = on none

pushed_here : (low : ℕ) (rows : List Counted) (row : Counted) (f : Fact) → AscendsFrom low rows → count_of rows f ≡ 0 → rank f ≡ rank row.fact → count_of (rows ++ row ∷ []) f ≡ row.count
pushed_here low [] row f ordered none same = count_here row [] f same
pushed_here low (first ∷ rows) row f ordered none same =
    pushed_on (eqb (rank first.fact) (rank f)) first.count (count_of rows f) (count_of (rows ++ row ∷ []) f) row.count ordered.1 none (λ none. pushed_here (rank first.fact + 1) rows row f ordered.2 none same)

pub step_left : (low : ℕ) (p : Counted) (a b : List Counted) → p.count ≤ most → AscendsFrom low (p ∷ a) → AscendsFrom (rank p.fact + 1) b → IsStep low (p ∷ a) b p a b
step_left low p a b small oa ob = record {
  from = oa.0;
  met = oa.1;
  order_a = oa.2;
  order_b = ob;
  here = λ f same. let x = count_here p a f same in let y = count_below (rank p.fact + 1) b f ob (omega arith) in omega arith;
  others_a = λ f differs. sym (count_there p a f differs);
  others_b = λ f differs. refl;
}

pub step_right : (low : ℕ) (q : Counted) (a b : List Counted) → q.count ≤ most → AscendsFrom (rank q.fact + 1) a → AscendsFrom low (q ∷ b) → IsStep low a (q ∷ b) q a b
step_right low q a b small oa ob = record {
  from = ob.0;
  met = ob.1;
  order_a = oa;
  order_b = ob.2;
  here = λ f same. let x = count_here q b f same in let y = count_below (rank q.fact + 1) a f oa (omega arith) in omega arith;
  others_a = λ f differs. refl;
  others_b = λ f differs. sym (count_there q b f differs);
}

pub step_both : (low n : ℕ) (p q : Counted) (a b : List Counted) → rank p.fact ≡ rank q.fact → n ≡ min (p.count + q.count) most → AscendsFrom low (p ∷ a) → AscendsFrom low (q ∷ b) → IsStep low (p ∷ a) (q ∷ b) (record { fact = p.fact; count = n }) a b
step_both low n p q a b one sum oa ob =
    let first = oa.1 in
    record {
      from = oa.0;
      met = omega arith;
      order_a = oa.2;
      order_b = subst (λ (r : ℕ). AscendsFrom (r + 1) b) (sym one) ob.2;
      here = λ f same. let x = count_here p a f same in let y = count_here q b f (same ∙ one) in omega arith;
      others_a = λ f differs. sym (count_there p a f differs);
      others_b = λ f differs. sym (count_there q b f (λ e. differs (e ∙ sym one)));
    }

-- a list whose first row comes later ascends from there
pub rises : (low n : ℕ) (q : Counted) (b : List Counted) → n < rank q.fact → AscendsFrom low (q ∷ b) → AscendsFrom (n + 1) (q ∷ b)
rises low n q b lt ob = (omega arith, ob.1, ob.2)

-- ---- the sum so far

abbrev pub IsSum : List Counted → List Counted → List Counted → List Counted → List Counted → Type 0
IsSum sum a b all_a all_b = (f : Fact) → min (count_of sum f + (count_of a f + count_of b f)) most ≡ min (count_of all_a f + count_of all_b f) most

pub sum_more : (sum a b rest_a rest_b all_a all_b : List Counted) (row : Counted) → AscendsFrom 0 sum → IsStep (end_from 0 sum) a b row rest_a rest_b → IsSum sum a b all_a all_b → IsSum (sum ++ row ∷ []) rest_a rest_b all_a all_b
sum_more sum a b rest_a rest_b all_a all_b row ordered step so_far f =
    elim (cases_eq (rank f) (rank row.fact)) [
      | inl same ↦
          let from = step.from in
          let none = count_past 0 sum f ordered (omega arith) in
          let now = pushed_here 0 sum row f ordered none same in
          let x = count_below (rank row.fact + 1) rest_a f step.order_a (omega arith) in
          let y = count_below (rank row.fact + 1) rest_b f step.order_b (omega arith) in
          let here = step.here f same in
          let before = so_far f in
          omega arith
      | inr differs ↦
          let now = push_other sum row f (λ e. differs (sym e)) in
          let x = step.others_a f differs in
          let y = step.others_b f differs in
          let before = so_far f in
          omega arith
    ]

pub small_more : (sum a b rest_a rest_b : List Counted) (row : Counted) → AscendsFrom 0 sum → IsStep (end_from 0 sum) a b row rest_a rest_b → ((f : Fact) → count_of sum f ≤ most) → (f : Fact) → count_of (sum ++ row ∷ []) f ≤ most
small_more sum a b rest_a rest_b row ordered step small f =
    elim (cases_eq (rank f) (rank row.fact)) [
      | inl same ↦
          let from = step.from in
          let none = count_past 0 sum f ordered (omega arith) in
          let now = pushed_here 0 sum row f ordered none same in
          let here = step.here f same in
          omega arith
      | inr differs ↦
          let now = push_other sum row f (λ e. differs (sym e)) in
          let before = small f in
          omega arith
    ]

-- what the loop keeps
pub record Keeps (sum a b all_a all_b : List Counted) : Type 0 where
  pub whole : IsSum sum a b all_a all_b
  pub order_a : AscendsFrom (end_from 0 sum) a
  pub order_b : AscendsFrom (end_from 0 sum) b
  pub ordered : AscendsFrom 0 sum
  pub small : (f : Fact) → count_of sum f ≤ most

pub begins : (all_a all_b : List Counted) → AscendsFrom 0 all_a → AscendsFrom 0 all_b → Keeps [] all_a all_b all_a all_b
begins all_a all_b oa ob = record { whole = λ f. omega arith; order_a = oa; order_b = ob; ordered = tt; small = λ f. omega arith }

pub keeps_on : (sum new a b rest_a rest_b all_a all_b : List Counted) (row : Counted) → Keeps sum a b all_a all_b → ((low : ℕ) → AscendsFrom low a → AscendsFrom low b → IsStep low a b row rest_a rest_b) → new ≡ sum ++ row ∷ [] → Keeps new rest_a rest_b all_a all_b
keeps_on sum new a b rest_a rest_b all_a all_b row kept steps is =
    let step = steps (end_from 0 sum) kept.order_a kept.order_b in
    let end : end_from 0 (sum ++ row ∷ []) ≡ rank row.fact + 1 = end_push 0 sum row in
    subst (λ (s : List Counted). Keeps s rest_a rest_b all_a all_b) (sym is) (record {
      whole = sum_more sum a b rest_a rest_b all_a all_b row kept.ordered step kept.whole;
      order_a = subst (λ (low : ℕ). AscendsFrom low rest_a) (sym end) step.order_a;
      order_b = subst (λ (low : ℕ). AscendsFrom low rest_b) (sym end) step.order_b;
      ordered = ascends_push 0 sum row kept.ordered step.from step.met;
      small = small_more sum a b rest_a rest_b row kept.ordered step kept.small;
    })

pub ends : (sum a b all_a all_b : List Counted) → Keeps sum a b all_a all_b → (a ≡ []) × (b ≡ []) → (f : Fact) → count_of sum f ≡ min (count_of all_a f + count_of all_b f) most
ends sum a b all_a all_b kept none f =
    let x : count_of a f ≡ 0 = ap (λ (rows : List Counted). count_of rows f) none.0 in
    let y : count_of b f ≡ 0 = ap (λ (rows : List Counted). count_of rows f) none.1 in
    let all = kept.whole f in
    let small = kept.small f in
    omega arith

pub left_first : (low : ℕ) (a b rest_a rest_b : List Counted) (p q first second : Counted) (t : Bool) → a ≡ p ∷ rest_a → b ≡ q ∷ rest_b → first ≡ p → first.count ≤ most → second ≡ q → t ≡ true → t ≡ ltb (rank first.fact) (rank second.fact)
    → AscendsFrom low a → AscendsFrom low b → IsStep low a b first rest_a b
left_first low a b rest_a rest_b p q first second t a-is b-is first-is small second-is is test oa ob =
    let lt = ltb-true _ _ (sym test ∙ is) in
    let a-at : a ≡ first ∷ rest_a = a-is ∙ ap (λ (r : Counted). r ∷ rest_a) (sym first-is) in
    let b-at : b ≡ second ∷ rest_b = b-is ∙ ap (λ (r : Counted). r ∷ rest_b) (sym second-is) in
    let later = subst (AscendsFrom (rank first.fact + 1)) (sym b-at) (rises low (rank first.fact) second rest_b lt (subst (AscendsFrom low) b-at ob)) in
    subst (λ (rows : List Counted). IsStep low rows b first rest_a b) (sym a-at) (step_left low first rest_a b small (subst (AscendsFrom low) a-at oa) later)

pub right_first : (low : ℕ) (a b rest_a rest_b : List Counted) (p q first second : Counted) (t : Bool) → a ≡ p ∷ rest_a → b ≡ q ∷ rest_b → first ≡ p → second ≡ q → second.count ≤ most → t ≡ true → t ≡ ltb (rank second.fact) (rank first.fact)
    → AscendsFrom low a → AscendsFrom low b → IsStep low a b second a rest_b
right_first low a b rest_a rest_b p q first second t a-is b-is first-is second-is small is test oa ob =
    let lt = ltb-true _ _ (sym test ∙ is) in
    let a-at : a ≡ first ∷ rest_a = a-is ∙ ap (λ (r : Counted). r ∷ rest_a) (sym first-is) in
    let b-at : b ≡ second ∷ rest_b = b-is ∙ ap (λ (r : Counted). r ∷ rest_b) (sym second-is) in
    let later = subst (AscendsFrom (rank second.fact + 1)) (sym a-at) (rises low (rank second.fact) first rest_a lt (subst (AscendsFrom low) a-at oa)) in
    subst (λ (rows : List Counted). IsStep low a rows second a rest_b) (sym b-at) (step_right low second a rest_b small later (subst (AscendsFrom low) b-at ob))

-- ---- one fact

pub added_last : (old new : List Counted) (row : Counted) → AscendsFrom 0 old → end_from 0 old ≤ rank row.fact → row.count ≤ most → new ≡ old ++ row ∷ [] → count_of new row.fact ≡ min (count_of old row.fact + row.count) most
added_last old new row ordered follows small is =
    let none = count_past 0 old row.fact ordered follows in
    let here = pushed_here 0 old row row.fact ordered none refl in
    ap (λ (rows : List Counted). count_of rows row.fact) is ∙ omega arith

pub others_last : (old new : List Counted) (row : Counted) → new ≡ old ++ row ∷ [] → (f : Fact) → rank f ≢ rank row.fact → count_of new f ≡ count_of old f
others_last old new row is f differs =
    ap (λ (rows : List Counted). count_of rows f) is ∙ push_other old row f (λ e. differs (sym e))

pub others_sum : (old new : List Counted) (row : Counted) → ((f : Fact) → count_of new f ≡ min (count_of old f + count_of (row ∷ []) f) most) → ((f : Fact) → count_of old f ≤ most) → (f : Fact) → rank f ≢ rank row.fact → count_of new f ≡ count_of old f
others_sum old new row sum small f differs =
    let none = count_there row [] f differs in
    let all = sum f in
    let le = small f in
    omega arith

pub there_sum : (old new : List Counted) (row : Counted) → ((f : Fact) → count_of new f ≡ min (count_of old f + count_of (row ∷ []) f) most) → count_of new row.fact ≡ min (count_of old row.fact + row.count) most
there_sum old new row sum =
    let here = count_here row [] row.fact refl in
    let all = sum row.fact in
    omega arith
