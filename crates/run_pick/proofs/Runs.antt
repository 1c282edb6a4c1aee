-- Runs in parts, and their marked ones.
use Rattle.std.proofs.Common.{◌≡◌, ℕ, zero, suc, Bool, true, false, ◌||◌, List, [], ◌∷◌, ◌++◌, length, take, drop, refl, ap, ◌∙◌, slice_set}
use Rattle.std.proofs.lemmas.List.Folds.{list_any-append}
use Rattle.atac_facts.specs.declared.fact.Fact.{Fact}
use Rattle.atac_facts.specs.Sets.{FactSet, holds}
use Rattle.run_pick.specs.Kept.{some_shows, marked}
use Rattle.run_pick.proofs.Tests.{none_left, none_right}

pub shows_append : (front back : List FactSet) (fact : Fact) → some_shows (front ++ back) fact ≡ (some_shows front fact || some_shows back fact)
shows_append front back fact = list_any-append (λ run. holds run fact) front back

pub marked_append : (front back : List FactSet) (ms ns : List Bool) → length ms ≡ length front → marked (front ++ back) (ms ++ ns) ≡ marked front ms ++ marked back ns
marked_append [] back [] ns e = refl
marked_append [] back (m ∷ ms) ns e = cc
marked_append (a ∷ front) back [] ns e = cc
marked_append (a ∷ front) back (true ∷ ms) ns e = ap (λ l. a ∷ l) (marked_append front back ms ns cc)
marked_append (a ∷ front) back (false ∷ ms) ns e = marked_append front back ms ns cc

-- what no run shows, no marked run shows
pub marked_none : (runs : List FactSet) (ms : List Bool) (fact : Fact) → some_shows runs fact ≡ false → some_shows (marked runs ms) fact ≡ false
marked_none [] ms fact e = refl
marked_none (run ∷ runs) [] fact e = refl
marked_none (run ∷ runs) (true ∷ ms) fact e =
    ap (λ b. b || some_shows (marked runs ms) fact) (none_left (holds run fact) (some_shows runs fact) e)
    ∙ marked_none runs ms fact (none_right (holds run fact) (some_shows runs fact) e)
marked_none (run ∷ runs) (false ∷ ms) fact e = marked_none runs ms fact (none_right (holds run fact) (some_shows runs fact) e)

-- without run i, what no run before it and no marked run behind it shows is shown by no marked run
pub without : (runs : List FactSet) (ms : List Bool) (i : ℕ) (fact : Fact) → some_shows (take i runs) fact ≡ false → some_shows (marked (drop (suc i) runs) (drop (suc i) ms)) fact ≡ false → some_shows (marked runs (slice_set ms i false)) fact ≡ false
without [] ms i fact before behind = refl
without (run ∷ runs) [] zero fact before behind = refl
without (run ∷ runs) [] (suc i) fact before behind = refl
without (run ∷ runs) (m ∷ ms) zero fact before behind = behind
without (run ∷ runs) (true ∷ ms) (suc i) fact before behind =
    ap (λ b. b || some_shows (marked runs (slice_set ms i false)) fact) (none_left (holds run fact) (some_shows (take i runs) fact) before)
    ∙ without runs ms i fact (none_right (holds run fact) (some_shows (take i runs) fact) before) behind
without (run ∷ runs) (false ∷ ms) (suc i) fact before behind = without runs ms i fact (none_right (holds run fact) (some_shows (take i runs) fact) before) behind
