-- What traces say together: each number is the sum of theirs, stopping at the end of its type.
use Rattle.std.specs.Prelude.{◌≡◌, ◌≤◌, ℕ, ◌+◌, min, List, [], ◌∷◌}
use Rattle.atac_facts.specs.declared.fact.Fact.{Fact}
use Rattle.atac_facts.specs.Tallies.{count_of}
use Rattle.atac_facts.specs.Sums.{most}
use Rattle.trace_file.specs.Sound.{IsSound}
use Rattle.trace_file.specs.declared.trace.Trace.{Trace}

abbrev pub total : (Trace → ℕ) → List Trace → ℕ
total number [] = 0
total number (t ∷ ts) = number t + total number ts

-- In how many runs a fact was met, by all of them.
abbrev pub count_in : List Trace → Fact → ℕ
count_in ts fact = min (total (λ t. count_of t.tally fact) ts) most

-- No number of a trace is past the end of its type.
pub record NumbersFit (t : Trace) : Type 0 where
  pub runs : t.runs ≤ most
  pub old_runs : t.old_runs ≤ most
  pub counts : (fact : Fact) → count_of t.tally fact ≤ most

-- The trace is an old one with these added.
pub record AddsUp (old : Trace) (ts : List Trace) (new : Trace) : Type 0 where
  pub digest : new.digest ≡ old.digest
  pub runs : new.runs ≡ min (old.runs + total (λ t. t.runs) ts) most
  pub old_runs : new.old_runs ≡ min (old.old_runs + total (λ t. t.old_runs) ts) most
  pub counts : (fact : Fact) → count_of new.tally fact ≡ min (count_of old.tally fact + total (λ t. count_of t.tally fact) ts) most
  pub sound : IsSound old → IsSound new

-- The sum of the traces of a program.
pub record IsSum (program : List ℕ) (ts : List Trace) (sum : Trace) : Type 0 where
  pub digest : sum.digest ≡ program
  pub runs : sum.runs ≡ min (total (λ t. t.runs) ts) most
  pub old_runs : sum.old_runs ≡ min (total (λ t. t.old_runs) ts) most
  pub counts : (fact : Fact) → count_of sum.tally fact ≡ count_in ts fact
  pub sound : IsSound sum
