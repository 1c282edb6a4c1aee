-- Traces that are fetched one after the other.
use Rattle.std.proofs.Common.{◌≡◌, ap, sym, ◌∙◌, refl, subst, List, [], ◌∷◌, ◌++◌, length, map, drop, ℕ, ◌+◌, ◌<◌, ◌≤◌, min, Option, append_assoc, append-nil, get_or, drop-cons, add-one}
use Rattle.std.proofs.lemmas.List.{at_drop_all}
use Rattle.atac_base.specs.Outside.{ShelfState, Said, Agrees}
use Rattle.atac_facts.specs.declared.fact.Fact.{Fact}
use Rattle.atac_facts.specs.Tallies.{count_of}
use Rattle.atac_facts.specs.Sums.{most}
use Rattle.trace_file.specs.Reading.{Accepts}
use Rattle.trace_file.specs.Sound.{IsSound}
use Rattle.trace_file.specs.declared.trace.Trace.{Trace}
use Rattle.atac_steps.specs.Ends.{End}
use Rattle.atac_steps.specs.Got.{gets, Gets, AllAgree}
use Rattle.atac_steps.specs.Grows.{ShelfGrows}
use Rattle.atac_steps.proofs.Growing.{shelf_stays, shelf_goes_on}
use Rattle.atac_traces.specs.Files.{trace_most, IsTraceOf, TraceStops}
use Rattle.atac_traces.specs.Totals.{NumbersFit, AddsUp}
use Rattle.atac_traces.specs.Joins.{AreTraces, Came, StopsAt}
use Rattle.atac_traces.proofs.Adding.{adds_none, adds_one}

pub left_cons : {A : Type 0} (f : A → List ℕ) (xs : List A) (k : ℕ) (x : A) (word : List ℕ) → k < length xs → x ≡ get_or xs k x → word ≡ f x → map f (drop k xs) ≡ word ∷ map f (drop (k + 1) xs)
left_cons f xs k x word lt is same = ap (map f) (drop-cons xs k x lt) ∙ rw (← is, ← same, add-one) refl

pub left_none : {A : Type 0} (f : A → List ℕ) (xs : List A) (k : ℕ) → length xs ≤ k → map f (drop k xs) ≡ []
left_none f xs k le = at_drop_all (map f) xs k le

pub agree_more : (says : List ℕ → Said) (names : List (List ℕ)) (found : List (Option (List ℕ))) (name : List ℕ) (f : Option (List ℕ)) → AllAgree says names found → Agrees (says name) f → AllAgree says (names ++ name ∷ []) (found ++ f ∷ [])
agree_more says [] [] name f h one = (one, tt)
agree_more says [] (g ∷ found) name f h one = absurd h
agree_more says (n ∷ names) [] name f h one = absurd h
agree_more says (n ∷ names) (g ∷ found) name f h one = (h.0, agree_more says names found name f h.1 one)

are_more : (digest : List ℕ) (names : List (List ℕ)) (found : List (Option (List ℕ))) (ts : List Trace) (name : List ℕ) (f : Option (List ℕ)) (t : Trace) → AreTraces digest names found ts
    → ((bytes : List ℕ) × (gets name trace_most f ≡ Gets bytes) × IsTraceOf digest bytes t) → AreTraces digest (names ++ name ∷ []) (found ++ f ∷ []) (ts ++ t ∷ [])
are_more digest [] [] [] name f t h one = (one, tt)
are_more digest [] [] (u ∷ ts) name f t h one = absurd h
are_more digest [] (g ∷ found) ts name f t h one = absurd h
are_more digest (n ∷ names) [] ts name f t h one = absurd h
are_more digest (n ∷ names) (g ∷ found) [] name f t h one = absurd h
are_more digest (n ∷ names) (g ∷ found) (u ∷ ts) name f t h one = (h.0, are_more digest names found ts name f t h.1 one)

pub came_first : (shelf : ShelfState) (old : Trace) (names : List (List ℕ)) → NumbersFit old → Came shelf shelf old names names old
came_first shelf old names fit = record {
  done = [];
  at = refl;
  found = [];
  agrees = tt;
  traces = [];
  are = tt;
  adds = adds_none old fit;
  says = refl;
  grows = shelf_stays shelf;
}

-- a trace that is read is sound
sound_of : (bytes : List ℕ) (t : Trace) → Accepts bytes t → IsSound t
sound_of bytes t h = h.3

module _ (shelf mid shelf' : ShelfState) (old sum new : Trace) (names left : List (List ℕ)) (name : List ℕ) (h : Came shelf mid old names (name ∷ left) sum) (says : shelf'.says ≡ mid.says) (grows : ShelfGrows mid shelf')
    (f : Option (List ℕ)) (agrees : Agrees (mid.says name) f) where
  -- the next trace is added
  pub came_on : (t : Trace) (bytes : List ℕ) → gets name trace_most f ≡ Gets bytes → IsTraceOf sum.digest bytes t → new.digest ≡ sum.digest → new.runs ≡ min (sum.runs + t.runs) most → new.old_runs ≡ min (sum.old_runs + t.old_runs) most
      → ((fact : Fact) → count_of new.tally fact ≡ min (count_of sum.tally fact + count_of t.tally fact) most) → (IsSound sum → IsSound t → IsSound new) → Came shelf shelf' old names left new
  came_on t bytes got is digest runs old_runs counts sound = record {
    done = h.done ++ name ∷ [];
    at = h.at ∙ sym (append_assoc h.done (name ∷ []) left);
    found = h.found ++ f ∷ [];
    agrees = agree_more shelf.says h.done h.found name f h.agrees (subst (λ (s : List ℕ → Said). Agrees (s name) f) h.says agrees);
    traces = h.traces ++ t ∷ [];
    are = are_more old.digest h.done h.found h.traces name f t h.are (bytes, got, (is.0, is.1 ∙ h.adds.digest));
    adds = adds_one old sum new t h.traces h.adds digest runs old_runs counts (λ s. sound s (sound_of bytes t is.0));
    says = says ∙ h.says;
    grows = shelf_goes_on _ _ _ h.grows grows;
  }

  -- the next trace stops it
  pub came_stops : (e : End) → TraceStops mid shelf' sum.digest name f e → StopsAt shelf shelf' old names e
  came_stops e stops = record {
    name = name;
    left = left;
    mid = mid;
    sum = sum;
    came = h;
    found = f;
    agrees = agrees;
    stops = subst (λ d. TraceStops mid shelf' d name f e) h.adds.digest stops;
    says = says;
    grows = grows;
  }

-- what is left, said in another way
pub came_by : (shelf mid : ShelfState) (old sum : Trace) (names left other : List (List ℕ)) → left ≡ other → Came shelf mid old names left sum → Came shelf mid old names other sum
came_by shelf mid old sum names left other same h = subst (λ l. Came shelf mid old names l sum) same h
