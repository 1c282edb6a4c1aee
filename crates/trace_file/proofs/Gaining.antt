-- The facts of records, added to a set one after the other.
use Rattle.std.proofs.Common.{◌≡◌, ◌≢◌, ℕ, ◌+◌, ◌-◌, ◌<◌, ◌≤◌, Bool, true, false, ◌&&◌, ltb, List, [], ◌∷◌, ◌++◌, drop, refl, sym, ap, subst, ◌∙◌, inl, inr, arith}
use Rattle.std.specs.Prelude.{◌||◌}
use Rattle.std.specs.List.{AllByRecursion}
use Rattle.std.proofs.lemmas.Bool.{cases_eq, cases_Bool}
use Rattle.atac_facts.specs.declared.fact.Fact.{Fact}
use Rattle.atac_facts.specs.declared.tally.Counted.{Counted}
use Rattle.atac_facts.specs.Facts.{rank, fits}
use Rattle.atac_facts.specs.Sets.{FactSet, holds}
use Rattle.atac_facts.specs.Tallies.{end_from, is_met}
use Rattle.trace_file.specs.declared.kind.Kind.{Kind}
use Rattle.trace_file.specs.Layout.{size}
use Rattle.trace_file.specs.Sound.{SoundRow, Orderly}
use Rattle.trace_file.specs.declared.kind.Kind.TheVariants.{Blocks, Outcomes, Pairs, PUses}
use Rattle.trace_file.specs.Reading.{FourLists, row_at, rows_at, rows_of}
use Rattle.trace_file.specs.Sums.{Gains}
use Rattle.trace_file.proofs.Adding.{one_rank, sound_fits, count_here, count_there, met_is}
use Rattle.trace_file.proofs.Loop.{next_row, orderly_first, orderly_second}

and_false : (a b : Bool) → a ≡ false → (a && b) ≡ false
and_false true b e = absurd cc
and_false false b e = refl

or_true : (a b : Bool) → b ≡ true → (a || b) ≡ true
or_true true b e = refl
or_true false b e = e

true_or : (a b : Bool) → a ≡ true → (a || b) ≡ true
true_or true b e = refl
true_or false b e = absurd cc

both_or : (a b c d : Bool) → a ≡ c → b ≡ d → (a || b) ≡ (c || d)
both_or a b c d e f = ap (λ (x : Bool). x || b) e ∙ ap (λ (x : Bool). c || x) f

or_none : (a b : Bool) → b ≡ false → a ≡ (a || b)
or_none true b e = refl
or_none false b e = sym e

or_again : (a b c : Bool) → ((a || b) || c) ≡ (a || (b || c))
or_again true b c = refl
or_again false b c = refl

-- no row has the fact
pub none_met : (f : Fact) → is_met [] f ≡ false
none_met f = elim (cases_Bool (fits f)) [
  | inl fit ↦ ap (λ (b : Bool). b && ltb 0 0) fit
  | inr unfit ↦ and_false (fits f) _ unfit
]

met_here : (row : Counted) (rows : List Counted) (f : Fact) → SoundRow row → fits f ≡ true → rank row.fact ≡ rank f → is_met (row ∷ rows) f ≡ true
met_here row rows f sound fit same = let some = sound.1.0 in met_is (row ∷ rows) f fit (omega (arith, some, count_here row rows f same))

met_there : (row : Counted) (rows : List Counted) (f : Fact) → rank row.fact ≢ rank f → is_met (row ∷ rows) f ≡ is_met rows f
met_there row rows f differs = ap (λ (n : ℕ). fits f && ltb 0 n) (count_there row rows f differs)

-- one fact more
gains_one : (now new : FactSet) (row : Counted) (left : List Counted) → SoundRow row → holds new row.fact ≡ true → ((other : Fact) → other ≢ row.fact → holds new other ≡ holds now other) → (f : Fact)
    → (holds new f || is_met left f) ≡ (holds now f || is_met (row ∷ left) f)
gains_one now new row left sound there others f = elim (cases_Bool (fits f)) [
  | inl fit ↦ elim (cases_eq (rank row.fact) (rank f)) [
    | inl same ↦
        let is : row.fact ≡ f = one_rank row.fact f (sound_fits row.fact sound.0) fit same in
        true_or (holds new f) (is_met left f) (ap (holds new) (sym is) ∙ there) ∙ sym (or_true (holds now f) (is_met (row ∷ left) f) (met_here row left f sound fit same))
    | inr differs ↦ both_or (holds new f) (is_met left f) (holds now f) (is_met (row ∷ left) f) (others f (λ e. differs (sym (ap rank e)))) (sym (met_there row left f differs))
  ]
  | inr unfit ↦ both_or (holds new f) (is_met left f) (holds now f) (is_met (row ∷ left) f) (and_false (fits f) _ unfit ∙ sym (and_false (fits f) _ unfit)) (and_false (fits f) _ unfit ∙ sym (and_false (fits f) _ unfit))
]

-- what the set will have is what it has and what is left
pub record Gaining (old now : FactSet) (total left : List Counted) : Type 0 where
  pub facts : (f : Fact) → (holds now f || is_met left f) ≡ (holds old f || is_met total f)
  pub sound : AllByRecursion SoundRow left

pub gains_on : (counted : Bool) (kind : Kind) (n i : ℕ) (bytes : List ℕ) (old now new : FactSet) (total : List Counted) (row : Counted) → i < n
    → Gaining old now total (rows_at counted kind (n - i) bytes) → row ≡ row_at counted kind bytes → holds new row.fact ≡ true → ((other : Fact) → other ≢ row.fact → holds new other ≡ holds now other)
    → (rest : List ℕ) (s : ℕ) → s ≡ size counted kind → rest ≡ drop s bytes → Gaining old new total (rows_at counted kind (n - (i + 1)) rest)
gains_on counted kind n i bytes old now new total row lt h row-is there others rest s s-is rest-is =
    let rest-at : rest ≡ drop (size counted kind) bytes = rest-is ∙ ap (λ (k : ℕ). drop k bytes) s-is in
    let first = row_at counted kind bytes in
    let left = rows_at counted kind (n - (i + 1)) (drop (size counted kind) bytes) in
    let k : Gaining old now total (first ∷ left) = subst (Gaining old now total) (next_row counted kind n i bytes lt) h in
    let there-at : holds new first.fact ≡ true = subst (λ (r : Counted). holds new r.fact ≡ true) row-is there in
    let others-at : (other : Fact) → other ≢ first.fact → holds new other ≡ holds now other = subst (λ (r : Counted). (other : Fact) → other ≢ r.fact → holds new other ≡ holds now other) row-is others in
    let next : Gaining old new total left = record { facts = λ f. gains_one now new first left k.sound.0 there-at others-at f ∙ k.facts f; sound = k.sound.1 } in
    rw rest-at next

pub gains_end : (counted : Bool) (kind : Kind) (n i : ℕ) (bytes : List ℕ) (old now : FactSet) (total : List Counted) → n ≤ i → Gaining old now total (rows_at counted kind (n - i) bytes) → Gains old now total
gains_end counted kind n i bytes old now total le h f =
    let k : n - i ≡ 0 = omega arith in
    let none : Gaining old now total [] = subst (λ (m : ℕ). Gaining old now total (rows_at counted kind m bytes)) k h in
    or_none (holds now f) (is_met [] f) (none_met f) ∙ none.facts f

-- ---- lists of rows, one behind the other

all_sound : (low : ℕ) (rows : List Counted) → Orderly low rows → AllByRecursion SoundRow rows
all_sound low [] ordered = tt
all_sound low (row ∷ rows) ordered = (ordered.1, all_sound (rank row.fact + 1) rows ordered.2)

met_behind : (a b : List Counted) → AllByRecursion SoundRow a → (f : Fact) → is_met (a ++ b) f ≡ (is_met a f || is_met b f)
met_behind [] b sound f = sym (ap (λ (x : Bool). x || is_met b f) (none_met f))
met_behind (row ∷ a) b sound f = elim (cases_Bool (fits f)) [
  | inl fit ↦ elim (cases_eq (rank row.fact) (rank f)) [
    | inl same ↦ met_here row (a ++ b) f sound.0 fit same ∙ sym (true_or (is_met (row ∷ a) f) (is_met b f) (met_here row a f sound.0 fit same))
    | inr differs ↦ met_there row (a ++ b) f differs ∙ met_behind a b sound.1 f ∙ ap (λ (x : Bool). x || is_met b f) (sym (met_there row a f differs))
  ]
  | inr unfit ↦ and_false (fits f) _ unfit ∙ sym (ap (λ (x : Bool). x || is_met b f) (and_false (fits f) _ unfit) ∙ and_false (fits f) _ unfit)
]

-- the rows of each list are sound
pub sound_first : (low : ℕ) (a b : List Counted) → Orderly low (a ++ b) → AllByRecursion SoundRow a
sound_first low a b ordered = all_sound low a (orderly_first low a b ordered)

pub sound_lists : (a b c d : List Counted) → Orderly 0 (a ++ (b ++ (c ++ d))) → AllByRecursion SoundRow a × AllByRecursion SoundRow b × AllByRecursion SoundRow c × AllByRecursion SoundRow d
sound_lists a b c d ordered =
    let second = orderly_second 0 a (b ++ (c ++ d)) ordered in
    let third = orderly_second (end_from 0 a) b (c ++ d) second in
    let fourth = orderly_second (end_from (end_from 0 a) b) c d third in
    (sound_first 0 a (b ++ (c ++ d)) ordered, sound_first _ b (c ++ d) second, sound_first _ c d third, all_sound _ d fourth)

gains_more : (old mid new : FactSet) (a b : List Counted) → AllByRecursion SoundRow a → Gains old mid a → Gains mid new b → Gains old new (a ++ b)
gains_more old mid new a b sound first second f =
    second f ∙ ap (λ (x : Bool). x || is_met b f) (first f) ∙ or_again (holds old f) (is_met a f) (is_met b f) ∙ ap (λ (x : Bool). holds old f || x) (sym (met_behind a b sound f))

pub gains_lists : (s0 s1 s2 s3 s4 : FactSet) (a b c d : List Counted) → Orderly 0 (a ++ (b ++ (c ++ d))) → Gains s0 s1 a → Gains s1 s2 b → Gains s2 s3 c → Gains s3 s4 d → Gains s0 s4 (a ++ (b ++ (c ++ d)))
gains_lists s0 s1 s2 s3 s4 a b c d ordered g1 g2 g3 g4 =
    let sound = sound_lists a b c d ordered in
    gains_more s0 s1 s4 a (b ++ (c ++ d)) sound.0 g1 (gains_more s1 s2 s4 b (c ++ d) sound.1 g2 (gains_more s2 s3 s4 c d sound.2 g3 g4))

-- the four lists of a file
abbrev blocks_of : Bool → FourLists → List Counted
blocks_of counted p = rows_at counted Blocks p.blocks.count p.blocks.records

abbrev outcomes_of : Bool → FourLists → List Counted
outcomes_of counted p = rows_at counted Outcomes p.outcomes.count p.outcomes.records

abbrev pairs_read : Bool → FourLists → List Counted
pairs_read counted p = rows_at counted Pairs p.pairs.count p.pairs.records

abbrev p_uses_of : Bool → FourLists → List Counted
p_uses_of counted p = rows_at counted PUses p.p_uses.count p.p_uses.records

pub sound_parts : (counted : Bool) (p : FourLists) → Orderly 0 (rows_of counted p)
    → AllByRecursion SoundRow (blocks_of counted p) × AllByRecursion SoundRow (outcomes_of counted p) × AllByRecursion SoundRow (pairs_read counted p) × AllByRecursion SoundRow (p_uses_of counted p)
sound_parts counted p ordered = sound_lists (blocks_of counted p) (outcomes_of counted p) (pairs_read counted p) (p_uses_of counted p) ordered

pub gains_parts : (counted : Bool) (p : FourLists) (s0 s1 s2 s3 s4 : FactSet) → Orderly 0 (rows_of counted p) → Gains s0 s1 (blocks_of counted p) → Gains s1 s2 (outcomes_of counted p) → Gains s2 s3 (pairs_read counted p) → Gains s3 s4 (p_uses_of counted p)
    → Gains s0 s4 (rows_of counted p)
gains_parts counted p s0 s1 s2 s3 s4 ordered g1 g2 g3 g4 = gains_lists s0 s1 s2 s3 s4 (blocks_of counted p) (outcomes_of counted p) (pairs_read counted p) (p_uses_of counted p) ordered g1 g2 g3 g4

-- a set that had none
pub gains_all : (none new : FactSet) (rows : List Counted) → ((f : Fact) → holds none f ≡ false) → Gains none new rows → (f : Fact) → holds new f ≡ is_met rows f
gains_all none new rows empty gains f = gains f ∙ ap (λ (x : Bool). x || is_met rows f) (empty f)

pub gains_nothing : (set : FactSet) (rows : List Counted) → ((f : Fact) → holds set f ≡ false) → rows ≡ [] → (f : Fact) → holds set f ≡ is_met rows f
gains_nothing set rows empty no_rows f = empty f ∙ sym (ap (λ (rs : List Counted). is_met rs f) no_rows ∙ none_met f)
