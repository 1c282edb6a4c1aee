-- Items in the order of their lines.
use Rattle.std.proofs.Common.{◌≡◌, ℕ, zero, suc, ◌<◌, ◌≤◌, eqb, not, ◌&&◌, List, [], ◌∷◌, length, get_or, filter, nat_cmp, is_lt, sym, ◌∙◌, arith, suc-le-suc, zero-le}
use Rattle.std.proofs.lemmas.Bool.Decides.{nat_tests}
use Rattle.std.proofs.lemmas.List.Elements.{filter_agree}
use Rattle.std.specs.List.Sorted.{IsNonDecreasingBy, IsStableByKey}
use Rattle.cover_report.specs.declared.kinds.Kind.TheVariants.{Block}
use Rattle.cover_show.specs.declared.missed.Missed.{Missed}
use Rattle.cover_show.specs.Missed.{is_on, Rises}

rises_from : (n : ℕ) (ms : List Missed) → ((d : Missed) → 0 < length ms → n ≤ (get_or ms 0 d).line) → IsNonDecreasingBy (λ m. m.line) ms → Rises n ms
rises_from n [] low h = tt
rises_from n (m ∷ ms) low h = (
  low m (suc-le-suc zero-le),
  rises_from m.line ms (λ d lt. h zero (suc zero) d zero-le (suc-le-suc lt)) (λ i j d le lt. h (suc i) (suc j) d (suc-le-suc le) (suc-le-suc lt)),
)

pub rises : (ms : List Missed) → IsNonDecreasingBy (λ m. m.line) ms → Rises 0 ms
rises ms h = rises_from 0 ms (λ d lt. zero-le) h

tied : (m n : ℕ) → (not (is_lt (nat_cmp n m)) && not (is_lt (nat_cmp m n))) ≡ eqb m n
tied m n = grind (arith, nat_tests)

-- a stable sort keeps the order of those on one line
pub line_kept : (xs ys : List Missed) → IsStableByKey (λ m. m.line) nat_cmp xs ys → (n : ℕ) → filter (is_on n) ys ≡ filter (is_on n) xs
line_kept xs ys stable n =
    let x : Missed = record { line = n; kind = Block; place = 0 } in
    let same = λ (m : Missed). sym (tied m.line n) in
    filter_agree (is_on n) _ same ys ∙ stable x ∙ sym (filter_agree (is_on n) _ same xs)
