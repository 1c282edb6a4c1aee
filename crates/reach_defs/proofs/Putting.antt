-- Putting rows on a worklist, and taking them.
use Rattle.std.proofs.Common.{ℕ, ◌+◌, ◌<◌, ◌≤◌, ◌≡◌, ◌⊎◌, inl, inr, List, [], ◌∷◌, ◌++◌, length, get_or, Bool, true, false, cond, subst, sym, ap, ◌∙◌, refl, arith}
use Rattle.std.specs.Prelude.{Contains, count_by, ◌==◌}
use Rattle.std.proofs.lemmas.Bool.{cases_lt, eqb-true, eqb-false, eq-eqb}
use Rattle.std.proofs.lemmas.Map.Made.{Contains-tail}
use Rattle.std.proofs.lemmas.List.{length-append, get_or_past, get_or_default}
use Rattle.std.proofs.lemmas.List.Sums.{sum_by_push, sum_by-cons}
use Rattle.std.proofs.lemmas.List.Elements.{Contains-append_left, Contains-append_right, Contains-push, Contains-push_cases}
use Rattle.reach_defs.specs.Work.{IsMarked, Puts}

-- what a flag counts for
abbrev pub weight : Bool → ℕ
weight b = cond b 1 0

weight_small : (b : Bool) → weight b ≤ 1
weight_small true = omega arith
weight_small false = omega arith

abbrev pub times : ℕ → List ℕ → ℕ
times row queue = count_by (λ x. x == row) queue

times_cons : (row x : ℕ) (queue : List ℕ) (b : Bool) → (x == row) ≡ b → times row (x ∷ queue) ≡ weight b + times row queue
times_cons row x queue b e = sum_by-cons (λ x. weight (x == row)) x queue ∙ ap (λ b. weight b + times row queue) e

-- a list that counts a row has it, and the way back
counted : (row : ℕ) (queue : List ℕ) → 0 < times row queue → Contains queue row
counted row [] lt = absurd (omega arith)
counted row (x ∷ queue) lt = by (x == row) refl (counted row queue)
  where
    by : (b : Bool) → (x == row) ≡ b → (0 < times row queue → Contains queue row) → Contains (x ∷ queue) row
    by true e later = (0, omega arith, eqb-true x row e)
    by false e later = Contains-append_right (x ∷ []) queue row (later (omega (arith, lt, times_cons row x queue false e)))

counts : (row : ℕ) (queue : List ℕ) → Contains queue row → 0 < times row queue
counts row [] c = absurd (let lt = c.1 in omega arith)
counts row (x ∷ queue) c = by (x == row) refl (counts row queue)
  where
    by : (b : Bool) → (x == row) ≡ b → (Contains queue row → 0 < times row queue) → 0 < times row (x ∷ queue)
    by true e later = omega (arith, times_cons row x queue true e)
    by false e later = omega (arith, times_cons row x queue false e, later (Contains-tail x queue row (eqb-false x row e) c))

pub waits_at : (queue : List ℕ) (waiting : List Bool) (row : ℕ) (flag : Bool) → IsMarked queue waiting → row < length waiting → flag ≡ get_or waiting row flag → flag ≡ true → Contains queue row
waits_at queue waiting row flag marked lt read is =
    let same : get_or waiting row false ≡ true = sym (get_or_default waiting row flag false lt) ∙ sym read ∙ is in
    let m : times row queue ≡ 1 = marked row ∙ ap weight same in
    counted row queue (omega arith)

-- the row that is taken
module _ (queue rest : List ℕ) (waiting : List Bool) (row : ℕ) (marked : IsMarked queue waiting) (taken : queue ≡ rest ++ row ∷ []) where
  once_more : times row queue ≡ times row rest + 1
  once_more = ap (times row) taken ∙ sum_by_push (λ x. weight (x == row)) rest row ∙ ap (λ b. times row rest + weight b) (eq-eqb row row refl)

  pub taken_within : row < length waiting
  taken_within = elim (cases_lt row (length waiting)) [
    | inl lt ↦ lt
    | inr ge ↦ absurd (let none : times row queue ≡ 0 = marked row ∙ ap weight (get_or_past waiting row false ge) in let c = once_more in omega arith)
  ]

  pub taken_once : Contains rest row → ⊥
  taken_once c = let m : times row queue ≡ weight (get_or waiting row false) = marked row in omega (arith, m, weight_small (get_or waiting row false), once_more, counts row rest c)

-- a row that is put
module _ (old new : List ℕ) (row : ℕ) where
  pub put_new : Puts old row new → (Contains old row → ⊥) → new ≡ old ++ row ∷ []
  put_new (inl was) none = absurd (none was.0)
  put_new (inr put) none = put.1

  pub put_here : Puts old row new → Contains new row
  put_here (inl was) = subst (λ l. Contains l row) (sym was.1) was.0
  put_here (inr put) = subst (λ l. Contains l row) (sym put.1) (Contains-push old row)

  pub put_kept : Puts old row new → (q : ℕ) → Contains old q → Contains new q
  put_kept (inl was) q c = subst (λ l. Contains l q) (sym was.1) c
  put_kept (inr put) q c = subst (λ l. Contains l q) (sym put.1) (Contains-append_left old (row ∷ []) q c)

  pub put_only : Puts old row new → (q : ℕ) → Contains new q → Contains old q ⊎ (row ≡ q)
  put_only (inl was) q c = inl (subst (λ l. Contains l q) was.1 c)
  put_only (inr put) q c = Contains-push_cases old row q (subst (λ l. Contains l q) put.1 c)

  pub put_length : Puts old row new → length new ≤ length old + 1
  put_length (inl was) = omega (arith, ap length was.1)
  put_length (inr put) = omega (arith, ap length put.1, length-append old (row ∷ []))

-- all rows below a number are put
module _ (old new : List ℕ) (n : ℕ) (put : Puts old n new) where
  pub all_put : ((q : ℕ) → q < n → Contains old q) → (q : ℕ) → q < n + 1 → Contains new q
  all_put all q lt = elim (cases_lt q n) [
    | inl less ↦ put_kept old new n put q (all q less)
    | inr ge ↦ (let same : n ≡ q = omega arith in subst (Contains new) same (put_here old new n put))
  ]

  pub within_put : ((q : ℕ) → Contains old q → q < n) → (q : ℕ) → Contains new q → q < n + 1
  within_put within q c = elim (put_only old new n put q c) [ inl was ↦ (let lt = within q was in omega arith) | inr same ↦ omega arith ]

  pub count_put : ((q : ℕ) → Contains old q → q < n) → length old ≡ n → length new ≡ n + 1
  count_put within l = omega (arith, ap length (put_new old new n put (λ c. let lt = within n c in omega arith)), length-append old (n ∷ []))

pub last_in : (was rest : List ℕ) (row : ℕ) → was ≡ rest ++ row ∷ [] → Contains was row
last_in was rest row e = subst (λ l. Contains l row) (sym e) (Contains-push rest row)

pub within_less : (was rest : List ℕ) (row n : ℕ) → was ≡ rest ++ row ∷ [] → ((q : ℕ) → Contains was q → q < n) → (q : ℕ) → Contains rest q → q < n
within_less was rest row n e within q c = within q (subst (λ l. Contains l q) (sym e) (Contains-append_left rest (row ∷ []) q c))

pub length_less : (was rest : List ℕ) (row : ℕ) → was ≡ rest ++ row ∷ [] → length was ≡ length rest + 1
length_less was rest row e = omega (arith, ap length e, length-append rest (row ∷ []))
