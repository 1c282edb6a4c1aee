-- Traces that are added up one after the other.
use Rattle.std.proofs.Common.{◌≡◌, ap, sym, ◌∙◌, refl, ℕ, ◌+◌, min, List, [], ◌∷◌, ◌++◌, arith}
use Rattle.atac_facts.specs.declared.fact.Fact.{Fact}
use Rattle.atac_facts.specs.Tallies.{count_of}
use Rattle.atac_facts.specs.Sums.{most}
use Rattle.trace_file.specs.Sound.{IsSound}
use Rattle.trace_file.specs.declared.trace.Trace.{Trace}
use Rattle.atac_traces.specs.Totals.{total, NumbersFit, AddsUp}

total-append : (number : Trace → ℕ) (ts : List Trace) (t : Trace) → total number (ts ++ t ∷ []) ≡ total number ts + number t
total-append number [] t = omega arith
total-append number (s ∷ ts) t = let h = total-append number ts t in omega (arith, h)

-- one more number, where sums stop
one_more : (a b c d e : ℕ) → c ≡ min (a + b) most → d ≡ b + e → min (c + e) most ≡ min (a + d) most
one_more a b c d e first second = omega (arith, first, second)

pub adds_none : (t : Trace) → NumbersFit t → AddsUp t [] t
adds_none t fit = record {
  digest = refl;
  runs = omega (arith, fit.runs);
  old_runs = omega (arith, fit.old_runs);
  counts = λ f. let h = fit.counts f in omega (arith, h);
  sound = λ s. s;
}

pub adds_one : (old mid new t : Trace) (ts : List Trace) → AddsUp old ts mid → new.digest ≡ mid.digest → new.runs ≡ min (mid.runs + t.runs) most → new.old_runs ≡ min (mid.old_runs + t.old_runs) most
    → ((f : Fact) → count_of new.tally f ≡ min (count_of mid.tally f + count_of t.tally f) most) → (IsSound mid → IsSound new) → AddsUp old (ts ++ t ∷ []) new
adds_one old mid new t ts h digest runs old_runs counts sound = record {
  digest = digest ∙ h.digest;
  runs = runs ∙ one_more old.runs (total (λ t. t.runs) ts) mid.runs _ t.runs h.runs (total-append (λ t. t.runs) ts t);
  old_runs = old_runs ∙ one_more old.old_runs (total (λ t. t.old_runs) ts) mid.old_runs _ t.old_runs h.old_runs (total-append (λ t. t.old_runs) ts t);
  counts = λ f. counts f ∙ one_more (count_of old.tally f) (total (λ t. count_of t.tally f) ts) (count_of mid.tally f) _ (count_of t.tally f) (h.counts f) (total-append (λ t. count_of t.tally f) ts t);
  sound = λ s. sound (h.sound s);
}
