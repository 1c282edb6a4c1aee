-- The marks that the code finds are those of the rule, and its laws.
use Rattle.std.proofs.Common.{◌≡◌, ℕ, zero, suc, ◌<◌, Bool, true, false, not, ◌&&◌, ◌||◌, inl, inr, cond, List, [], ◌∷◌, ◌++◌, length, take, drop, refl, sym, ap, ◌∙◌, subst, append_assoc, arith, Some, slice_get, slice_set}
use Rattle.std.proofs.lemmas.Bool.{cases_Bool, false≢true, and_parts, not-true}
use Rattle.std.proofs.lemmas.List.{append-nil}
use Rattle.std.proofs.lemmas.List.Elements.{filter_agree}
use Rattle.std.specs.List.{filter, list_any}
use Rattle.atac_facts.specs.declared.fact.Fact.{Fact}
use Rattle.atac_facts.specs.Sets.{FactSet, holds}
use Rattle.run_pick.specs.Kept.{some_shows, marked, is_kept_for, AreKept, AreEnough}
use Rattle.run_pick.specs.Marks.{needs, taken_with, unshown, marks_of}
use Rattle.run_pick.proofs.Tests.{or_true, In, in_filter, filter_all, filter_filter, filter_agree_in, any_agree_in, any_filter, any_in, any_weaker}
use Rattle.run_pick.proofs.Runs.{shows_append, marked_none, without}

abbrev unseen : FactSet → Fact → Bool
unseen run fact = not (holds run fact)

pub length_marks : (taken : Fact → Bool) (fresh : List Fact) (runs : List FactSet) → length (marks_of taken fresh runs) ≡ length runs
length_marks taken fresh [] = refl
length_marks taken fresh (run ∷ runs) = ap suc (length_marks taken (filter (unseen run) fresh) runs)

-- WHAT THE RUNS SHOW OF THE OPEN FACTS, THE MARKED ONES SHOW

more : (t h r m : Bool) (run : FactSet) (rest : List FactSet) (fact : Fact) → (t || some_shows rest fact) ≡ true → (t || some_shows (cond m (run ∷ rest) rest) fact) ≡ true
more t h r false run rest fact e = e
more true h r true run rest fact e = refl
more false h r true run rest fact e = ap (λ b. holds run fact || b) e ∙ or_true (holds run fact)

by_itself : (t m : Bool) (run : FactSet) (rest : List FactSet) (fact : Fact) → holds run fact ≡ true → m ≡ true → (t || some_shows (cond m (run ∷ rest) rest) fact) ≡ true
by_itself t m run rest fact h e =
    ap (λ b. t || some_shows (cond b (run ∷ rest) rest) fact) e ∙ ap (λ b. t || (b || some_shows rest fact)) h ∙ or_true t

pub shown_again : (taken : Fact → Bool) (fresh : List Fact) (runs : List FactSet) (fact : Fact) → In fact fresh → some_shows runs fact ≡ true → taken_with taken runs (marks_of taken fresh runs) fact ≡ true
shown_again taken fresh [] fact i s = absurd (false≢true s)
shown_again taken fresh (run ∷ runs) fact i s =
    let rest = filter (unseen run) fresh in
    let later = marks_of taken rest runs in
    let m = needs (taken_with taken runs later) fresh run in
    elim (cases_Bool (holds run fact)) [
      | inl h ↦ elim (cases_Bool (taken_with taken runs later fact)) [
        | inl k ↦ more (taken fact) true true m run (marked runs later) fact k
        | inr k ↦
            let passes : (holds run fact && not (taken_with taken runs later fact)) ≡ true = ap (λ b. b && not (taken_with taken runs later fact)) h ∙ ap not k in
            by_itself (taken fact) m run (marked runs later) fact h (any_in (λ f. holds run f && not (taken_with taken runs later f)) fresh fact i passes)
      ]
      | inr h ↦
          let behind : some_shows runs fact ≡ true = ap (λ b. b || some_shows runs fact) (sym h) ∙ s in
          more (taken fact) true true m run (marked runs later) fact (shown_again taken rest runs fact (in_filter (unseen run) fresh fact i (ap not h)) behind)
    ]

-- THE RULE

abbrev none : Fact → Bool
none fact = false

settle : (before here behind kept : Bool) → (before ≡ false → here ≡ false → behind ≡ true → kept ≡ true) → (not before && (here && not kept)) ≡ ((before || (here || behind)) && (not before && not kept))
settle true here behind kept h = refl
settle false true behind kept h = refl
settle false false true true h = refl
settle false false true false h = absurd (false≢true (h refl refl refl))
settle false false false kept h = refl

-- run i behind those before it is kept for the fact
abbrev kept_for : List FactSet → List FactSet → List Bool → ℕ → Fact → Bool
kept_for before runs ms i fact =
    some_shows (before ++ runs) fact && (not (some_shows (before ++ take i runs) fact) && not (some_shows (marked (drop (suc i) runs) (drop (suc i) ms)) fact))

first : (facts : List Fact) (before : List FactSet) (run : FactSet) (runs : List FactSet) → let fresh = unshown before facts in let later = marks_of none (filter (unseen run) fresh) runs in needs (taken_with none runs later) fresh run ≡ list_any (λ fact. some_shows (before ++ run ∷ runs) fact && (not (some_shows (before ++ []) fact) && not (some_shows (marked runs later) fact))) facts
first facts before run runs =
    let fresh = unshown before facts in
    let rest = filter (unseen run) fresh in
    let later = marks_of none rest runs in
    any_filter (λ fact. holds run fact && not (taken_with none runs later fact)) (λ fact. not (some_shows before fact)) facts
    ∙ any_agree_in _ _ facts (λ fact i.
    let k = some_shows (marked runs later) fact in
    let again : some_shows before fact ≡ false → holds run fact ≡ false → some_shows runs fact ≡ true → k ≡ true = λ b h s.
    shown_again none rest runs fact (in_filter (unseen run) fresh fact (in_filter (λ f. not (some_shows before f)) facts fact i (ap not b)) (ap not h)) s in
    settle (some_shows before fact) (holds run fact) (some_shows runs fact) k again
    ∙ ap (λ b. b && (not (some_shows before fact) && not k)) (sym (shows_append before (run ∷ runs) fact))
    ∙ ap (λ l. some_shows (before ++ run ∷ runs) fact && (not (some_shows l fact) && not k)) (sym (append-nil before)))

still_fresh : (facts : List Fact) (before : List FactSet) (run : FactSet) → filter (unseen run) (unshown before facts) ≡ unshown (before ++ run ∷ []) facts
still_fresh facts before run =
    filter_filter (unseen run) (λ fact. not (some_shows before fact)) facts
    ∙ filter_agree _ _ (λ fact. both (some_shows before fact) (holds run fact) ∙ ap not (sym (shows_append before (run ∷ []) fact))) facts
  where
    both : (a b : Bool) → (not a && not b) ≡ not (a || (b || false))
    both true b = refl
    both false true = refl
    both false false = refl

pub rule_at : (facts : List Fact) (before runs : List FactSet) (i : ℕ) → i < length runs → slice_get (marks_of none (unshown before facts) runs) i ≡ Some (list_any (kept_for before runs (marks_of none (unshown before facts) runs) i) facts)
rule_at facts before [] i l = absurd (omega (arith, l))
rule_at facts before (run ∷ runs) zero l = ap Some (first facts before run runs)
rule_at facts before (run ∷ runs) (suc i) l =
    let next = before ++ run ∷ [] in
    let P : List Fact → Type 0 = λ fresh. slice_get (marks_of none fresh runs) i ≡ Some (list_any (kept_for next runs (marks_of none fresh runs) i) facts) in
    let fresh = filter (unseen run) (unshown before facts) in
    let ms = marks_of none fresh runs in
    let behind : Fact → Bool = λ fact. not (some_shows (marked (drop (suc i) runs) (drop (suc i) ms)) fact) in
    subst P (sym (still_fresh facts before run)) (rule_at facts next runs i (omega (arith, l)))
    ∙ ap (λ l. Some (list_any (λ fact. some_shows l fact && (not (some_shows (next ++ take i runs) fact) && behind fact)) facts)) (append_assoc before (run ∷ []) runs)
    ∙ ap (λ l. Some (list_any (λ fact. some_shows (before ++ run ∷ runs) fact && (not (some_shows l fact) && behind fact)) facts)) (append_assoc before (run ∷ []) (take i runs))

pub are_kept : (facts : List Fact) (runs : List FactSet) → AreKept facts runs (marks_of none facts runs)
are_kept facts runs =
    let P : List Fact → Type 0 = λ fresh. (i : ℕ) → i < length runs → slice_get (marks_of none fresh runs) i ≡ Some (list_any (is_kept_for runs (marks_of none fresh runs) i) facts) in
    record {
      for_each = length_marks none facts runs;
      exactly = subst P (filter_all facts) (rule_at facts [] runs);
    }

-- THE LAWS

pub are_enough : (facts : List Fact) (runs : List FactSet) → AreEnough facts runs (marks_of none facts runs)
are_enough facts runs =
    let ms = marks_of none facts runs in
    record {
      same = filter_agree_in (some_shows (marked runs ms)) (some_shows runs) facts (λ fact i.
          elim (cases_Bool (some_shows runs fact)) [
            | inl s ↦ shown_again none facts runs fact i s ∙ sym s
            | inr s ↦ marked_none runs ms fact s ∙ sym s
          ]);
      no_more = λ i l kept.
          let needed : list_any (is_kept_for runs ms i) facts ≡ true = let rule = (are_kept facts runs).exactly i l in cc in
          any_weaker (is_kept_for runs ms i) (λ fact. some_shows runs fact && not (some_shows (marked runs (slice_set ms i false)) fact)) facts (λ fact e.
          let one = and_parts (some_shows runs fact) _ e in
          let two = and_parts (not (some_shows (take i runs) fact)) (not (some_shows (marked (drop (suc i) runs) (drop (suc i) ms)) fact)) one.1 in
          let gone = without runs ms i fact (not-true _ two.0) (not-true _ two.1) in
          ap (λ b. b && not (some_shows (marked runs (slice_set ms i false)) fact)) one.0 ∙ ap not gone) needed;
    }
