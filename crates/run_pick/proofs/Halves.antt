-- Runs marked in two parts: first those behind, and then those in front.
use Rattle.std.proofs.Common.{◌≡◌, ℕ, Bool, true, false, not, ◌&&◌, ◌||◌, List, [], ◌∷◌, ◌++◌, ◌<◌, ◌≤◌, length, get_or, take, drop, replicate, reverse, refl, sym, ap, ◌∙◌, append_assoc, add-one, arith}
use Rattle.std.proofs.lemmas.List.{reverse-append, reverse-reverse, replicate_more, take-append-drop}
use Rattle.std.proofs.lemmas.List.Elements.{filter_agree}
use Rattle.std.specs.List.{filter}
use mathlib.Core.Path.{fun_ext}
use Rattle.atac_facts.specs.declared.fact.Fact.{Fact}
use Rattle.atac_facts.specs.Sets.{FactSet, holds}
use Rattle.run_pick.specs.Kept.{some_shows, marked}
use Rattle.run_pick.specs.Marks.{needs, taken_with, unshown, front_mark, marks_of}
use Rattle.run_pick.proofs.Tests.{or_false, or_true, or_swap, filter_all, filter_filter, filter_swap, any_agree, any_filter}
use Rattle.run_pick.proofs.Runs.{shows_append, marked_append}
use Rattle.run_pick.proofs.Rule.{length_marks}

abbrev unseen : FactSet → Fact → Bool
unseen run fact = not (holds run fact)

-- WHAT NO RUN SHOWS NEEDN'T BE OPEN

anyway : (q h x : Bool) → (h ≡ true → q ≡ true) → (q && (h && x)) ≡ (h && x)
anyway true h x e = refl
anyway false true x e = ap (λ b. b && x) (e refl)
anyway false false x e = refl

pub narrowed : (taken q : Fact → Bool) (fresh : List Fact) (runs : List FactSet) → ((fact : Fact) → some_shows runs fact ≡ true → q fact ≡ true) → marks_of taken (filter q fresh) runs ≡ marks_of taken fresh runs
narrowed taken q fresh [] all = refl
narrowed taken q fresh (run ∷ runs) all =
    let rest = filter (unseen run) fresh in
    let later = marks_of taken rest runs in
    let behind : marks_of taken (filter (unseen run) (filter q fresh)) runs ≡ later =
    ap (λ l. marks_of taken l runs) (filter_swap (unseen run) q fresh)
    ∙ narrowed taken q rest runs (λ fact s. all fact (ap (λ b. holds run fact || b) s ∙ or_true (holds run fact))) in
    ap (λ l. front_mark taken (filter q fresh) run runs l) behind
    ∙ ap (λ b. b ∷ later) (any_filter (λ fact. holds run fact && not (taken_with taken runs later fact)) q fresh
    ∙ any_agree _ _ fresh (λ fact. anyway (q fact) (holds run fact) (not (taken_with taken runs later fact)) (λ h. all fact (ap (λ b. b || some_shows runs fact) h))))

-- THE MARKS OF TWO PARTS

pub taken_both : (taken : Fact → Bool) (front back : List FactSet) (ms ns : List Bool) (fact : Fact) → length ms ≡ length front → taken_with taken (front ++ back) (ms ++ ns) fact ≡ taken_with (taken_with taken back ns) front ms fact
taken_both taken front back ms ns fact e =
    ap (λ l. taken fact || some_shows l fact) (marked_append front back ms ns e)
    ∙ ap (λ b. taken fact || b) (shows_append (marked front ms) (marked back ns) fact)
    ∙ or_swap (taken fact) (some_shows (marked front ms) fact) (some_shows (marked back ns) fact)

unshown_behind : (run : FactSet) (runs : List FactSet) (fresh : List Fact) → unshown runs (filter (unseen run) fresh) ≡ unshown (run ∷ runs) fresh
unshown_behind run runs fresh =
    filter_filter (λ fact. not (some_shows runs fact)) (unseen run) fresh ∙ filter_agree _ _ (λ fact. both (holds run fact) (some_shows runs fact)) fresh
  where
    both : (a b : Bool) → (not a && not b) ≡ not (a || b)
    both true b = refl
    both false b = refl

pub marks_append : (taken : Fact → Bool) (fresh : List Fact) (front back : List FactSet) → let later = marks_of taken (unshown front fresh) back in marks_of taken fresh (front ++ back) ≡ marks_of (taken_with taken back later) fresh front ++ later
marks_append taken fresh [] back = ap (λ l. marks_of taken l back) (sym (filter_all fresh))
marks_append taken fresh (run ∷ front) back =
    let rest = filter (unseen run) fresh in
    let later = marks_of taken (unshown front rest) back in
    let mine = marks_of (taken_with taken back later) rest front in
    let there : later ≡ marks_of taken (unshown (run ∷ front) fresh) back = ap (λ l. marks_of taken l back) (unshown_behind run front fresh) in
    ap (λ l. front_mark taken fresh run (front ++ back) l) (marks_append taken rest front back)
    ∙ ap (λ b. b ∷ (mine ++ later)) (any_agree _ _ fresh (λ fact. ap (λ b. holds run fact && not b) (taken_both taken front back mine later fact (length_marks (taken_with taken back later) rest front))))
    ∙ ap (λ l. marks_of (taken_with taken back l) fresh (run ∷ front) ++ l) there

-- THE CODE'S STEPS

-- where nothing is fresh, no run is kept
none_fresh : (taken : Fact → Bool) (runs : List FactSet) → reverse (marks_of taken [] runs) ≡ replicate (length runs) false
none_fresh taken [] = refl
none_fresh taken (run ∷ runs) =
    reverse-append (false ∷ []) (marks_of taken [] runs) ∙ ap (λ l. l ++ false ∷ []) (none_fresh taken runs)
    ∙ replicate_more (length runs) false ∙ ap (λ n. replicate n false) (add-one (length runs))

none_taken : (taken : Fact → Bool) (runs : List FactSet) (fact : Fact) → taken_with taken runs (marks_of taken [] runs) fact ≡ taken fact
none_taken taken [] fact = or_false (taken fact)
none_taken taken (run ∷ runs) fact = none_taken taken runs fact

pub marks_none : (taken : Fact → Bool) (fresh : List Fact) (runs : List FactSet) (old new : List Bool) → fresh ≡ [] → new ≡ old ++ replicate (length runs) false → new ≡ old ++ reverse (marks_of taken fresh runs)
marks_none taken fresh runs old new e n = n ∙ ap (λ l. old ++ l) (sym (ap (λ f. reverse (marks_of taken f runs)) e ∙ none_fresh taken runs))

pub taken_none : (taken : Fact → Bool) (fresh : List Fact) (runs : List FactSet) (fact : Fact) → fresh ≡ [] → taken fact ≡ taken_with taken runs (marks_of taken fresh runs) fact
taken_none taken fresh runs fact e = sym (ap (λ f. taken_with taken runs (marks_of taken f runs) fact) e ∙ none_taken taken runs fact)

-- one run
one_mark : (taken : Fact → Bool) (fresh : List Fact) (run : FactSet) → marks_of taken fresh (run ∷ []) ≡ needs taken fresh run ∷ []
one_mark taken fresh run = ap (λ b. b ∷ []) (any_agree _ _ fresh (λ fact. ap (λ b. holds run fact && not b) (or_false (taken fact))))

pub marks_one : (taken : Fact → Bool) (fresh given : List Fact) (run : FactSet) (runs : List FactSet) (old new : List Bool) → runs ≡ run ∷ [] → given ≡ fresh → new ≡ old ++ needs taken given run ∷ [] → new ≡ old ++ reverse (marks_of taken fresh runs)
marks_one taken fresh given run runs old new r g n =
    n ∙ ap (λ f. old ++ needs taken f run ∷ []) g ∙ ap (λ l. old ++ reverse l) (sym (one_mark taken fresh run)) ∙ ap (λ r. old ++ reverse (marks_of taken fresh r)) (sym r)

pub taken_one : (taken now : Fact → Bool) (fresh given : List Fact) (run : FactSet) (runs : List FactSet) → runs ≡ run ∷ [] → given ≡ fresh → ((fact : Fact) → now fact ≡ taken_with taken (run ∷ []) (needs taken given run ∷ []) fact) → (fact : Fact) → now fact ≡ taken_with taken runs (marks_of taken fresh runs) fact
taken_one taken now fresh given run runs r g n fact =
    n fact ∙ ap (λ f. taken_with taken (run ∷ []) (needs taken f run ∷ []) fact) g
    ∙ ap (λ ms. taken_with taken (run ∷ []) ms fact) (sym (one_mark taken fresh run)) ∙ ap (λ r. taken_with taken r (marks_of taken fresh r) fact) (sym r)

pub only_one : (runs : List FactSet) (run : FactSet) → 1 ≤ length runs → length runs < 2 → run ≡ get_or runs 0 run → runs ≡ run ∷ []
only_one [] run low high e = absurd (omega (arith, low))
only_one (r ∷ []) run low high e = ap (λ x. x ∷ []) (sym e)
only_one (r ∷ s ∷ runs) run low high e = absurd (omega (arith, high))

-- two parts: those behind are marked first, by the fresh facts that those in front don't show
pub record Halved (taken between : Fact → Bool) (fresh given inside outside : List Fact) (runs front back : List FactSet) : Type 0 where
  pub parts : front ++ back ≡ runs
  pub same : given ≡ fresh
  pub inside_is : inside ≡ filter (some_shows front) given
  pub outside_is : outside ≡ unshown front given
  pub between_is : (fact : Fact) → between fact ≡ taken_with taken back (marks_of taken outside back) fact

pub halves : (runs front back : List FactSet) (i : ℕ) → front ≡ take i runs → back ≡ drop i runs → front ++ back ≡ runs
halves runs front back i f b = ap (λ l. l ++ back) f ∙ ap (λ l. take i runs ++ l) b ∙ take-append-drop i runs

module _ (taken between : Fact → Bool) (fresh given inside outside : List Fact) (runs front back : List FactSet) (h : Halved taken between fresh given inside outside runs front back) where
  abbrev later : List Bool
  later = marks_of taken (unshown front fresh) back

  abbrev mine : List Bool
  mine = marks_of (taken_with taken back later) fresh front

  later_is : marks_of taken outside back ≡ later
  later_is = ap (λ l. marks_of taken l back) (h.outside_is ∙ ap (unshown front) h.same)

  between_same : between ≡ taken_with taken back later
  between_same = fun_ext (λ fact. h.between_is fact ∙ ap (λ l. taken_with taken back l fact) later_is)

  mine_is : marks_of between inside front ≡ mine
  mine_is =
      let within : inside ≡ filter (some_shows front) fresh = h.inside_is ∙ ap (filter (some_shows front)) h.same in
      ap (λ t. marks_of t inside front) between_same ∙ ap (λ l. marks_of (taken_with taken back later) l front) within
      ∙ narrowed (taken_with taken back later) (some_shows front) fresh front (λ fact s. s)

  whole : marks_of taken fresh runs ≡ mine ++ later
  whole = ap (marks_of taken fresh) (sym h.parts) ∙ marks_append taken fresh front back

  pub marks_halves : (old mid new : List Bool) → mid ≡ old ++ reverse (marks_of taken outside back) → new ≡ mid ++ reverse (marks_of between inside front) → new ≡ old ++ reverse (marks_of taken fresh runs)
  marks_halves old mid new first second =
      second ∙ ap (λ l. l ++ reverse (marks_of between inside front)) first
      ∙ ap (λ l. (old ++ reverse l) ++ reverse (marks_of between inside front)) later_is ∙ ap (λ l. (old ++ reverse later) ++ reverse l) mine_is
      ∙ append_assoc old (reverse later) (reverse mine) ∙ ap (λ l. old ++ l) (sym (reverse-append mine later)) ∙ ap (λ l. old ++ reverse l) (sym whole)

  pub taken_halves : (now : Fact → Bool) → ((fact : Fact) → now fact ≡ taken_with between front (marks_of between inside front) fact) → (fact : Fact) → now fact ≡ taken_with taken runs (marks_of taken fresh runs) fact
  taken_halves now e fact =
      e fact ∙ ap (λ l. taken_with between front l fact) mine_is ∙ ap (λ t. taken_with t front mine fact) between_same
      ∙ sym (taken_both taken front back mine later fact (length_marks (taken_with taken back later) fresh front))
      ∙ ap (λ r. taken_with taken r (mine ++ later) fact) h.parts ∙ ap (λ l. taken_with taken runs l fact) (sym whole)

-- at the start nothing is taken
pub picked : (facts fresh : List Fact) (runs : List FactSet) (taken : Fact → Bool) (none marks : List Bool) → ((fact : Fact) → taken fact ≡ false) → fresh ≡ facts → none ≡ [] → marks ≡ none ++ reverse (marks_of taken fresh runs) → reverse marks ≡ marks_of (λ fact. false) facts runs
picked facts fresh runs taken none marks t f n m =
    ap reverse (m ∙ ap (λ l. l ++ reverse (marks_of taken fresh runs)) n) ∙ reverse-reverse (marks_of taken fresh runs)
    ∙ ap (λ l. marks_of taken l runs) f ∙ ap (λ t. marks_of t facts runs) (fun_ext t)
