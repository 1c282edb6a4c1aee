-- The tally of a set has each of its facts once.
use Rattle.std.proofs.Common.{◌≡◌, ℕ, ◌+◌, ◌^◌, ◌<◌, ◌≤◌, Bool, true, false, ◌&&◌, cond, ltb, List, [], ◌∷◌, ◌++◌, Option, Some, None, refl, sym, ap, subst, ◌∙◌, inl, inr, arith}
use Rattle.std.specs.Prelude.{IsTrue}
use Rattle.std.proofs.lemmas.Bool.{cases_eq, cases_lt, cases_Bool, lt-ltb, le-ltb}
use Rattle.atac_facts.specs.declared.fact.Fact.{Fact}
use Rattle.atac_facts.specs.declared.fact.Fact.TheVariants.{Block, Outcome, Pair, PUse}
use Rattle.atac_facts.specs.declared.tally.Counted.{Counted}
use Rattle.atac_facts.specs.Facts.{rank, fits}
use Rattle.atac_facts.specs.Sets.{FactSet, holds, IsAfter, IsNext, start_of}
use Rattle.atac_facts.specs.Tallies.{AscendsFrom, end_from, count_of}
use Rattle.atac_facts.proofs.Bits.{in_range, and_both}
use Rattle.atac_facts.proofs.Counting.{push_other}
use Rattle.atac_facts.proofs.Rows.{ascends_push, end_push}
use Rattle.trace_file.specs.Sound.{Orderly}
use Rattle.trace_file.specs.Sums.{HoldsSound}
use Rattle.trace_file.proofs.Ordered.{orderly_push}
use Rattle.trace_file.proofs.Adding.{one_rank, count_here, count_there}

-- ranks are below 2 ^ 66
small_rank : (f : Fact) → fits f ≡ true → rank f < 2 ^ 66
small_rank (Block k) e = let r = in_range (Block k) e in omega arith
small_rank (Outcome k o) e = let r = in_range (Outcome k o) e in omega arith
small_rank (Pair d u) e = let r = in_range (Pair d u) e in omega arith
small_rank (PUse d u o) e = let r = in_range (PUse d u o) e in omega arith

held_fits : (set : FactSet) (f : Fact) → holds set f ≡ true → fits f ≡ true
held_fits set f held = (and_both (fits f) _ held).0

starts : (last : Option Fact) (f : Fact) → IsAfter last f → start_of last ≤ rank f
starts None f after = omega arith
starts (Some l) f after = omega arith

comes_after : (last : Option Fact) (f : Fact) → start_of last ≤ rank f → IsAfter last f
comes_after None f from = tt
comes_after (Some l) f from = omega arith

-- one row more, of a fact that isn't among them
pushed : (rows : List Counted) (row : Counted) (f : Fact) (low : ℕ) → AscendsFrom low rows → rank row.fact ≡ rank f → count_of rows f ≡ 0 → count_of (rows ++ row ∷ []) f ≡ row.count
pushed [] row f low ascends same none = count_here row [] f same
pushed (first ∷ rows) row f low ascends same none = elim (cases_eq (rank first.fact) (rank f)) [
  | inl here ↦ absurd (omega (arith, count_here first rows f here, ascends.1))
  | inr there ↦ count_there first (rows ++ row ∷ []) f there ∙ pushed rows row f (rank first.fact + 1) ascends.2 same (sym (count_there first rows f there) ∙ none)
]

-- THE FACTS UP TO THE LAST ONE ARE THERE

abbrev counted : FactSet → Option Fact → Fact → ℕ
counted set last f = cond (holds set f && ltb (rank f) (start_of last)) 1 0

pub record Kept (set : FactSet) (last : Option Fact) (tally : List Counted) : Type 0 where
  pub ascends : AscendsFrom 0 tally
  pub end : end_from 0 tally ≤ start_of last
  pub counts : (f : Fact) → fits f ≡ true → count_of tally f ≡ counted set last f
  pub sound : HoldsSound set → Orderly 0 tally

there : (b : Bool) (n m : ℕ) → b ≡ true → n < m → ◌≡◌ {A = ℕ} (cond (b && ltb n m) 1 0) 1
there true n m e l = ap (λ (c : Bool). cond c 1 0) (lt-ltb n m l)
there false n m e l = absurd (cc)

absent : (b : Bool) (n m : ℕ) → (b ≡ true → n < m → ⊥) → ◌≡◌ {A = ℕ} (cond (b && ltb n m) 1 0) 0
absent true n m none = elim (cases_lt n m) [
  | inl l ↦ absurd (none refl l)
  | inr past ↦ ap (λ (c : Bool). cond c 1 0) (le-ltb n m past)
]
absent false n m none = refl

pub begins : (set : FactSet) → Kept set None []
begins set = record { ascends = tt; end = omega arith; counts = λ f fit. sym (absent (holds set f) (rank f) 0 (λ held l. absurd (omega (arith, l)))); sound = λ s. tt }

pub follows : (set : FactSet) (last : Option Fact) (fact : Fact) (tally : List Counted) → Kept set last tally → IsNext set last fact → end_from 0 tally ≤ rank fact
follows set last fact tally kept next = let a = starts last fact next.after in let b = kept.end in omega arith

next_counts : (set : FactSet) (last : Option Fact) (fact : Fact) (tally : List Counted) (f : Fact) → Kept set last tally → IsNext set last fact → fits f ≡ true → count_of (tally ++ record { fact = fact; count = 1 } ∷ []) f ≡ counted set (Some fact) f
next_counts set last fact tally f kept next fit =
    let row : Counted = record { fact = fact; count = 1 } in
    let from = starts last fact next.after in
    let old = kept.counts f fit in
    elim (cases_eq (rank fact) (rank f)) [
      | inl same ↦
          let is : fact ≡ f = one_rank fact f (held_fits set fact next.there) fit same in
          let none = old ∙ absent (holds set f) (rank f) (start_of last) (λ held l. absurd (omega (arith, l, same, from))) in
          let here = there (holds set f) (rank f) (rank fact + 1) (ap (holds set) (sym is) ∙ next.there) (omega (arith, same)) in
          pushed tally row f 0 kept.ascends same none ∙ sym here
      | inr differs ↦ push_other tally row f differs ∙ old ∙ elim (cases_lt (rank f) (start_of last)) [
        | inl l ↦ elim (cases_Bool (holds set f)) [
          | inl held ↦ there (holds set f) (rank f) (start_of last) held l ∙ sym (there (holds set f) (rank f) (rank fact + 1) held (omega (arith, l, from)))
          | inr not_held ↦ absent (holds set f) (rank f) (start_of last) (λ held l. absurd (cc)) ∙ sym (absent (holds set f) (rank f) (rank fact + 1) (λ held l. absurd (cc)))
        ]
        | inr past ↦
            absent (holds set f) (rank f) (start_of last) (λ held l. absurd (omega (arith, l, past)))
            ∙ sym (absent (holds set f) (rank f) (rank fact + 1) (λ held l. let first = next.least f held (comes_after last f past) in differs (omega (arith, first, l))))
      ]
    ]

pub kept_more : (set : FactSet) (last : Option Fact) (fact : Fact) (tally new : List Counted) → Kept set last tally → IsNext set last fact → new ≡ tally ++ record { fact = fact; count = 1 } ∷ [] → Kept set (Some fact) new
kept_more set last fact tally new kept next is =
    let row : Counted = record { fact = fact; count = 1 } in
    let P : List Counted → Type 0 = λ rows. Kept set (Some fact) rows in
    let after = follows set last fact tally kept next in
    subst P (sym is) (record {
      ascends = ascends_push 0 tally row kept.ascends after (omega arith);
      end = omega (arith, end_push 0 tally row);
      counts = λ f fit. next_counts set last fact tally f kept next fit;
      sound = λ s. orderly_push 0 tally row (kept.sound s) after (s fact next.there, (omega arith, omega arith));
    })

pub all_counted : (set : FactSet) (last : Option Fact) (tally : List Counted) → Kept set last tally → ((other : Fact) → IsTrue (holds set other) → IsAfter last other → ⊥) → (f : Fact) → fits f ≡ true → count_of tally f ≡ cond (holds set f) 1 0
all_counted set last tally kept none f fit = kept.counts f fit ∙ elim (cases_Bool (holds set f)) [
  | inl held ↦ elim (cases_lt (rank f) (start_of last)) [
    | inl l ↦ there (holds set f) (rank f) (start_of last) held l ∙ sym (ap (λ (c : Bool). cond c 1 0) held)
    | inr past ↦ absurd (none f held (comes_after last f past))
  ]
  | inr not_held ↦ absent (holds set f) (rank f) (start_of last) (λ held l. absurd (cc)) ∙ sym (ap (λ (c : Bool). cond c 1 0) not_held)
]
