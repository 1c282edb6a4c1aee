-- Sums of sound tallies are sound, and the tally of a set has each of its facts once.
use Rattle.std.proofs.Common.{◌≡◌, ◌≢◌, ℕ, ◌+◌, ◌<◌, ◌≤◌, Bool, true, cond, ltb, min, List, [], ◌∷◌, Option, Some, None, refl, ap, subst, inl, inr, arith}
use Rattle.std.specs.List.{AllByRecursion}
use Rattle.std.proofs.lemmas.Bool.{cases_eq, cases_lt, eq-eqb, ne_eqb, ltb-true, lt-ltb}
use Rattle.atac_facts.specs.declared.fact.Fact.{Fact}
use Rattle.atac_facts.specs.declared.fact.Fact.TheVariants.{Block, Outcome, Pair, PUse}
use Rattle.atac_facts.specs.declared.tally.Counted.{Counted}
use Rattle.atac_facts.specs.Facts.{rank, key_of, place_of, fits}
use Rattle.atac_facts.specs.Tallies.{AscendsFrom, count_of, is_met}
use Rattle.atac_facts.specs.Sums.{most, AreSmall}
use Rattle.atac_facts.proofs.Bits.{one_fact, in_range, fits_is, small_place, and_both, both_and}
use Rattle.atac_facts.proofs.Counting.{rank_is}
use Rattle.std.specs.Prelude.{Vec}
use Rattle.std.specs.Global.{Global}
use Rattle.trace_file.specs.Lists.{file_rows}
use Rattle.trace_file.specs.Rows.{kept_rows, AreOrderly}
use Rattle.trace_file.specs.Sound.{SoundFact, Orderly}
use Rattle.trace_file.specs.Sums.{AreSound, RowFits}

-- A FACT IS TOLD BY ITS RANK

pub one_rank : (a b : Fact) → fits a ≡ true → fits b ≡ true → rank a ≡ rank b → a ≡ b
one_rank a b fa fb same =
    let ra = rank_is a in
    let rb = rank_is b in
    let pa = small_place a in
    let pb = small_place b in
    let key : key_of a ≡ key_of b = omega arith in
    let place : place_of a ≡ place_of b = omega arith in
    one_fact a b (in_range a fa) (in_range b fb) key place

pub sound_fits : (f : Fact) → SoundFact f → fits f ≡ true
sound_fits (Block k) s = let a = s.1 in fits_is (Block k) (omega arith)
sound_fits (Outcome k o) s = let a = s.0.1 in let b = s.1.1 in fits_is (Outcome k o) (omega arith, omega arith)
sound_fits (Pair d u) s = let a = s.0.1 in let b = s.1.1 in fits_is (Pair d u) (omega arith, omega arith)
sound_fits (PUse d u o) s = let a = s.0.1 in let b = s.1.1 in let c = s.2.1 in fits_is (PUse d u o) (omega arith, omega arith, omega arith)

-- COUNTS OF ROWS

pub count_here : (row : Counted) (rows : List Counted) (f : Fact) → rank row.fact ≡ rank f → count_of (row ∷ rows) f ≡ row.count
count_here row rows f same = ap (λ (b : Bool). cond b row.count (count_of rows f)) (eq-eqb (rank row.fact) (rank f) same)

pub count_there : (row : Counted) (rows : List Counted) (f : Fact) → rank row.fact ≢ rank f → count_of (row ∷ rows) f ≡ count_of rows f
count_there row rows f differs = ap (λ (b : Bool). cond b row.count (count_of rows f)) (ne_eqb (rank row.fact) (rank f) differs)

pub met_is : (rows : List Counted) (f : Fact) → fits f ≡ true → 0 < count_of rows f → is_met rows f ≡ true
met_is rows f fit some = both_and (fits f) (ltb 0 (count_of rows f)) fit (lt-ltb _ _ some)

met_some : (rows : List Counted) (f : Fact) → is_met rows f ≡ true → (fits f ≡ true) × (0 < count_of rows f)
met_some rows f met = let p = and_both (fits f) (ltb 0 (count_of rows f)) met in (p.0, ltb-true _ _ p.1)

-- ORDERLY ROWS AND SOUND FACTS

met_sound : (low : ℕ) (rows : List Counted) (f : Fact) → Orderly low rows → fits f ≡ true → 0 < count_of rows f → SoundFact f
met_sound low [] f ordered fit some = absurd (omega arith)
met_sound low (row ∷ rows) f ordered fit some = elim (cases_eq (rank row.fact) (rank f)) [
  | inl same ↦ subst SoundFact (one_rank row.fact f (sound_fits row.fact ordered.1.0) fit same) ordered.1.0
  | inr differs ↦ met_sound (rank row.fact + 1) rows f ordered.2 fit (omega (arith, count_there row rows f differs))
]

pub are_sound : (rows : List Counted) → Orderly 0 rows → AreSound rows
are_sound rows ordered f met = let p = met_some rows f met in met_sound 0 rows f ordered p.0 p.1

later_met : (row : Counted) (rows : List Counted) (f : Fact) → 1 ≤ row.count → is_met rows f ≡ true → is_met (row ∷ rows) f ≡ true
later_met row rows f one met =
    let p = met_some rows f met in
    elim (cases_eq (rank row.fact) (rank f)) [
      | inl same ↦ met_is (row ∷ rows) f p.0 (omega (arith, count_here row rows f same))
      | inr differs ↦ met_is (row ∷ rows) f p.0 (omega (arith, p.1, count_there row rows f differs))
    ]

pub orderly_from : (low : ℕ) (rows : List Counted) → AscendsFrom low rows → AllByRecursion RowFits rows → AreSound rows → Orderly low rows
orderly_from low [] ascends fit sound = tt
orderly_from low (row ∷ rows) ascends fit sound =
    let one = ascends.1 in
    let here = count_here row rows row.fact refl in
    let mine : SoundFact row.fact = sound row.fact (met_is (row ∷ rows) row.fact fit.0.fact (omega arith)) in
    (ascends.0, (mine, (one, fit.0.count)), orderly_from (rank row.fact + 1) rows ascends.2 fit.1 (λ f met. sound f (later_met row rows f one met)))

-- SUMS

pub sum_sound : (new old from : List Counted) → ((f : Fact) → count_of new f ≡ min (count_of old f + count_of from f) most) → AreSound old → AreSound from → AreSound new
sum_sound new old from is sound_old sound_from f met =
    let p = met_some new f met in
    let some : 0 < count_of old f + count_of from f = omega (arith, is f, p.1) in
    elim (cases_lt 0 (count_of old f)) [
      | inl there ↦ sound_old f (met_is old f p.0 there)
      | inr none ↦ sound_from f (met_is from f p.0 (omega arith))
    ]

-- NUMBERS FIT

orderly_small : (low : ℕ) (rows : List Counted) → Orderly low rows → AreSmall rows
orderly_small low [] ordered f = omega arith
orderly_small low (row ∷ rows) ordered f = elim (cases_eq (rank row.fact) (rank f)) [
  | inl same ↦ let few = ordered.1.1.1 in omega (arith, few, count_here row rows f same)
  | inr differs ↦ let others = orderly_small (rank row.fact + 1) rows ordered.2 f in omega (arith, others, count_there row rows f differs)
]

pub kept_small : (made : List Counted) (read : Option (Vec ℕ Global)) → AreSmall made → AreOrderly read → AreSmall (kept_rows made read)
kept_small made None small ordered = small
kept_small made (Some bytes) small ordered = orderly_small 0 (file_rows bytes.items) ordered
