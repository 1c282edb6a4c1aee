-- Sums of traces, and what is told of them.
use Rattle.std.proofs.Common.{◌≡◌, ap, subst, sym, ◌∙◌, List, [], ◌∷◌, ℕ, zero, suc, ◌≤◌, ◌<◌, Some, min, cond, nat_eq, nat_lt, arith}
use Rattle.std.proofs.lemmas.Bool.{le-leb, lt-leb, ne_eqb}
use Rattle.std.specs.Prelude.{◌&&◌, length, Result, Ok, Err, IfOk}
use mathlib.Core.Path.{fun_ext}
use Rattle.atac_facts.specs.declared.fact.Fact.{Fact}
use Rattle.atac_facts.specs.Facts.{fits}
use Rattle.atac_facts.specs.Sets.{FactSet, holds}
use Rattle.atac_facts.specs.Tallies.{count_of, is_met}
use Rattle.atac_facts.specs.Sums.{most}
use Rattle.trace_file.specs.Layout.{bytes_of}
use Rattle.trace_file.specs.Reading.{Accepts}
use Rattle.trace_file.specs.declared.trace.Trace.{Trace}
use Rattle.atac_steps.specs.declared.stop.TraceFault.TheVariants.{TooMuch}
use Rattle.atac_steps.specs.Ends.{NoTrace}
use Rattle.atac_traces.specs.Files.{trace_most}
use Rattle.atac_traces.specs.Totals.{total, count_in, AddsUp, IsSum}
use Rattle.atac_commands.specs.Readings.{met_in, are_exact}
use Rattle.atac_commands.specs.Answers.{keeping, refused}
use Rattle.atac_commands.proofs.Exits.{kept_answer}

-- the traces of a program, added to one without runs
pub sum_of : (digest : List ℕ) (ts : List Trace) (old sum : Trace) → old ≡ record { digest = digest; runs = 0; old_runs = 0; tally = [] } → AddsUp old ts sum → IsSum digest ts sum
sum_of digest ts old sum is h =
    let first = AddsUp-moved is h in
    record { digest = first.digest; runs = omega (arith, first.runs); old_runs = omega (arith, first.old_runs); counts = λ f. (let h = first.counts f in omega (arith, h)); sound = first.sound (omega arith, tt) }
  where
    AddsUp-moved : old ≡ record { digest = digest; runs = 0; old_runs = 0; tally = [] } → AddsUp old ts sum → AddsUp (record { digest = digest; runs = 0; old_runs = 0; tally = [] }) ts sum
    AddsUp-moved e k = subst (λ (o : Trace). AddsUp o ts sum) e k

-- those behind the first one, added to it
pub sum_behind : (bytes : List ℕ) (first sum : Trace) (ts : List Trace) → Accepts bytes first → AddsUp first ts sum → IsSum first.digest (first ∷ ts) sum
sum_behind bytes first sum ts accepts h = record { digest = h.digest; runs = h.runs; old_runs = h.old_runs; counts = h.counts; sound = h.sound accepts.3 }

module _ (digest : List ℕ) (ts : List Trace) (sum : Trace) (h : IsSum digest ts sum) where
  pub met_same : (set : FactSet) → ((f : Fact) → holds set f ≡ is_met sum.tally f) → holds set ≡ met_in ts
  met_same set is = fun_ext (λ f. is f ∙ ap (λ n. fits f && nat_lt 0 n) (h.counts f))

  pub counts_same : count_of sum.tally ≡ count_in ts
  counts_same = fun_ext h.counts

  zero_of : (n m : ℕ) → m ≡ min n most → nat_eq m 0 ≡ nat_eq n 0
  zero_of zero m is = ap (λ k. nat_eq k 0) (is_zero m is)
    where
      is_zero : (m : ℕ) → m ≡ min 0 most → m ≡ 0
      is_zero m is = omega (arith, is)
  zero_of (suc n) m is = ne_eqb m 0 (λ e. absurd (omega (arith, is, e))) ∙ sym (ne_eqb (suc n) 0 (λ e. absurd (omega (arith, e))))

  pub exact_same : nat_eq sum.old_runs 0 ≡ are_exact ts
  exact_same = zero_of (total (λ t. t.old_runs) ts) sum.old_runs h.old_runs

-- what holds of each result
pub if_ok : {T E : Type 0} (r : Result T E) (P Q : T → Type 0) → ((v : T) → P v → Q v) → IfOk r P → IfOk r Q
if_ok (Ok v) P Q f h = f v h
if_ok (Err e) P Q f h = tt

-- a trace that is small enough is kept, another is not
pub keeping_small : (name : List ℕ) (t : Trace) (rest : Trace → List ℕ) → length (bytes_of t) ≤ trace_most → keeping name (Some t) rest ≡ kept_answer name (bytes_of t) (rest t)
keeping_small name t rest small = ap (λ b. cond b (kept_answer name (bytes_of t) (rest t)) (refused [] (NoTrace name TooMuch))) (le-leb (length (bytes_of t)) trace_most small)

pub keeping_large : (name : List ℕ) (t : Trace) (rest : Trace → List ℕ) → trace_most < length (bytes_of t) → keeping name (Some t) rest ≡ refused [] (NoTrace name TooMuch)
keeping_large name t rest large = ap (λ b. cond b (kept_answer name (bytes_of t) (rest t)) (refused [] (NoTrace name TooMuch))) (lt-leb (length (bytes_of t)) trace_most large)
