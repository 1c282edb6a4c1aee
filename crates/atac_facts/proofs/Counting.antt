-- The counts of rows, as pairs of a rank and a count, and the set of the facts that were met.
use Rattle.std.proofs.Common.{◌≡◌, ◌≢◌, ℕ, zero, suc, ◌+◌, ◌*◌, ◌^◌, ◌<◌, ◌≤◌, Bool, true, false, ◌&&◌, cond, eqb, ltb, List, [], ◌∷◌, ◌++◌, length, Option, Some, unwrap_or, refl, sym, ap, subst, ◌∙◌, inl, inr, arith}
use Rattle.std.proofs.lemmas.Bool.{lt-ltb, eq-eqb, ne_eqb, cases_eq}
use Rattle.atac_facts.specs.declared.fact.Fact.{Fact}
use Rattle.atac_facts.specs.declared.fact.Fact.TheVariants.{Block, Outcome, Pair, PUse}
use Rattle.atac_facts.specs.declared.tally.Counted.{Counted}
use Rattle.atac_facts.specs.Facts.{rank, key_of, place_of, fits}
use Rattle.atac_facts.specs.Pairs.{get, key_at, IsStrictlySorted}
use Rattle.atac_facts.specs.Sets.{FactSet, holds}
use Rattle.atac_facts.specs.Tallies.{AscendsFrom, end_from, count_of, is_met, HasMet, pairs_of}
use Rattle.atac_facts.specs.Sums.{most, AreSmall}
use Rattle.atac_facts.proofs.Rows.{ascends_push}
use Rattle.atac_facts.proofs.Bits.{in_range, one_fact, small_place}

pub rank_is : (f : Fact) → rank f ≡ key_of f * 64 + place_of f
rank_is (Block k) = omega arith
rank_is (Outcome k o) = omega arith
rank_is (Pair d u) = omega arith
rank_is (PUse d u o) = omega arith

-- a fact is told by its rank
one_rank : (a b : Fact) → fits a ≡ true → fits b ≡ true → rank a ≡ rank b → a ≡ b
one_rank a b fa fb same =
    let ra = rank_is a in
    let rb = rank_is b in
    let pa = small_place a in
    let pb = small_place b in
    let key : key_of a ≡ key_of b = omega arith in
    let place : place_of a ≡ place_of b = omega arith in
    one_fact a b (in_range a fa) (in_range b fb) key place

found_is : (b : Bool) (n : ℕ) (m : ℕ) (o : Option ℕ) → m ≡ unwrap_or o 0 → cond b n m ≡ unwrap_or (cond b (Some n) o) 0
found_is true n m o e = refl
found_is false n m o e = e

pub count_is : (rows : List Counted) (f : Fact) → count_of rows f ≡ unwrap_or (get (pairs_of rows) (rank f)) 0
count_is [] f = refl
count_is (row ∷ rows) f = found_is (eqb (rank row.fact) (rank f)) row.count (count_of rows f) (get (pairs_of rows) (rank f)) (count_is rows f)

from_low : (low : ℕ) (rows : List Counted) (j : ℕ) → AscendsFrom low rows → j < length (pairs_of rows) → low ≤ key_at (pairs_of rows) j
from_low low [] j ordered lt = absurd (omega arith)
from_low low (row ∷ rows) zero ordered lt = ordered.0
from_low low (row ∷ rows) (suc j) ordered lt =
    let rest = from_low (rank row.fact + 1) rows j ordered.2 (omega arith) in
    let first = ordered.0 in
    omega arith

pub sorted_rows : (low : ℕ) (rows : List Counted) → AscendsFrom low rows → IsStrictlySorted (pairs_of rows)
sorted_rows low [] ordered i j lt in_range = absurd (omega arith)
sorted_rows low (row ∷ rows) ordered zero zero lt in_range = absurd (omega arith)
sorted_rows low (row ∷ rows) ordered zero (suc j) lt in_range =
    let rest = from_low (rank row.fact + 1) rows j ordered.2 (omega arith) in omega arith
sorted_rows low (row ∷ rows) ordered (suc i) zero lt in_range = absurd (omega arith)
sorted_rows low (row ∷ rows) ordered (suc i) (suc j) lt in_range =
    sorted_rows (rank row.fact + 1) rows ordered.2 i j (omega arith) (omega arith)

-- ---- one more row

pub push_other : (rows : List Counted) (row : Counted) (g : Fact) → rank row.fact ≢ rank g → count_of (rows ++ row ∷ []) g ≡ count_of rows g
push_other [] row g differs = ap (λ (b : Bool). cond b row.count 0) (ne_eqb _ _ differs)
push_other (first ∷ rows) row g differs = ap (cond (eqb (rank first.fact) (rank g)) first.count) (push_other rows row g differs)

met_first : (b : Bool) (n m : ℕ) → 1 ≤ n → 1 ≤ m → 1 ≤ cond b n m
met_first true n m p q = p
met_first false n m p q = q

push_same : (low : ℕ) (rows : List Counted) (row : Counted) (g : Fact) → AscendsFrom low rows → 1 ≤ row.count → rank row.fact ≡ rank g → 1 ≤ count_of (rows ++ row ∷ []) g
push_same low [] row g ordered met same = subst (λ (b : Bool). 1 ≤ cond b row.count 0) (sym (eq-eqb _ _ same)) met
push_same low (first ∷ rows) row g ordered met same =
    met_first (eqb (rank first.fact) (rank g)) first.count (count_of (rows ++ row ∷ []) g) ordered.1 (push_same (rank first.fact + 1) rows row g ordered.2 met same)

and_true : (b : Bool) → b ≡ true → (c : Bool) → c ≡ true → (b && c) ≡ true
and_true true e c h = h
and_true false e c h = absurd cc

not_fit : (b c d : Bool) → b ≡ false → (b && c) ≡ (b && d)
not_fit true c d e = absurd cc
not_fit false c d e = refl

met_fits : (old new : FactSet) (rows : List Counted) (row : Counted) (g : Fact) (b : Bool) → fits g ≡ b → fits row.fact ≡ true → HasMet old rows → AscendsFrom 0 rows → 1 ≤ row.count → holds new row.fact ≡ true
    → ((g : Fact) → g ≢ row.fact → holds new g ≡ holds old g) → rank row.fact ≡ rank g → holds new g ≡ is_met (rows ++ row ∷ []) g
met_fits old new rows row g true is fit met ordered count there others same =
    let g-is : g ≡ row.fact = one_rank g row.fact is fit (sym same) in
    let more = push_same 0 rows row g ordered count same in
    ap (holds new) g-is ∙ there ∙ sym (and_true (fits g) is (ltb 0 (count_of (rows ++ row ∷ []) g)) (lt-ltb _ _ (omega arith)))
met_fits old new rows row g false is fit met ordered count there others same =
    let apart : g ≢ row.fact = λ e. let f : fits g ≡ true = ap fits e ∙ fit in absurd cc in
    others g apart ∙ met g ∙ not_fit (fits g) (ltb 0 (count_of rows g)) (ltb 0 (count_of (rows ++ row ∷ []) g)) is

pub met_push : (old new : FactSet) (rows : List Counted) (row : Counted) → fits row.fact ≡ true → HasMet old rows → AscendsFrom 0 rows → 1 ≤ row.count → holds new row.fact ≡ true
    → ((g : Fact) → g ≢ row.fact → holds new g ≡ holds old g) → HasMet new (rows ++ row ∷ [])
met_push old new rows row fit met ordered count there others g =
    elim (cases_eq (rank row.fact) (rank g)) [
      | inl same ↦ met_fits old new rows row g (fits g) refl fit met ordered count there others same
      | inr differs ↦
          let apart : g ≢ row.fact = λ e. differs (sym (ap rank e)) in
          others g apart ∙ met g ∙ ap (λ (n : ℕ). fits g && ltb 0 n) (sym (push_other rows row g differs))
    ]

no_met : (b : Bool) → (b && false) ≡ false
no_met true = refl
no_met false = refl

pub met_none : (set : FactSet) → ((g : Fact) → holds set g ≡ false) → HasMet set []
met_none set empty g = empty g ∙ sym (no_met (fits g))

held_fits : (b c : Bool) → (b && c) ≡ true → b ≡ true
held_fits true c e = refl
held_fits false c e = absurd cc

small_on : (b : Bool) (n m k : ℕ) → cond b n m ≤ most → (m ≤ most → k ≤ most) → cond b n k ≤ most
small_on true n m k le on = le
small_on false n m k le on = on le

small_first : (b : Bool) (n : ℕ) → n ≤ most → cond b n 0 ≤ most
small_first true n le = le
small_first false n le = omega arith

pub push_small : (rows : List Counted) (row : Counted) (f : Fact) → count_of rows f ≤ most → row.count ≤ most → count_of (rows ++ row ∷ []) f ≤ most
push_small [] row f le small = small_first (eqb (rank row.fact) (rank f)) row.count small
push_small (first ∷ rows) row f le small =
    small_on (eqb (rank first.fact) (rank f)) first.count (count_of rows f) (count_of (rows ++ row ∷ []) f) le (λ le. push_small rows row f le small)

-- what `append` leaves
pub appended : (old new : FactSet) (rows seen after : List Counted) (row : Counted) → AscendsFrom 0 rows × HasMet old rows × AreSmall rows → rows ≡ seen → end_from 0 seen ≤ rank row.fact → 1 ≤ row.count → row.count < 2 ^ 32 → holds new row.fact ≡ true
    → ((g : Fact) → g ≢ row.fact → holds new g ≡ holds old g) → after ≡ rows ++ row ∷ [] → AscendsFrom 0 after × HasMet new after × AreSmall after
appended old new rows seen after row kept same follows count small there others is =
    let last : end_from 0 rows ≤ rank row.fact = subst (λ (rs : List Counted). end_from 0 rs ≤ rank row.fact) (sym same) follows in
    let P = λ (rs : List Counted). AscendsFrom 0 rs × HasMet new rs × AreSmall rs in
    let little : row.count ≤ most = omega arith in
    subst P (sym is) (ascends_push 0 rows row kept.0 last count, met_push old new rows row (held_fits (fits row.fact) _ there) kept.1 kept.0 count there others, λ f. push_small rows row f (kept.2 f) little)
