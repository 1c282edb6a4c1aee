-- Traces of runs: one more run is counted, and several traces tell of all of their runs.
use Rattle.std.proofs.Common.{◌≡◌, ◌≤◌, ◌<◌, ◌+◌, ◌^◌, ◌++◌, ℕ, zero, suc, List, [], ◌∷◌, length, Bool, true, false, cond, ◌∙◌, refl, sym, ap, subst, arith, inl, inr}
use Rattle.std.specs.Prelude.{◌⊎◌, ◌&&◌, ◌||◌, min, nat_lt, nat_eq, if◌then◌else◌, IsTrue}
use Rattle.std.proofs.lemmas.Bool.{and_parts}
use Rattle.std.proofs.lemmas.Bool.Decides.{nat_tests}
use Rattle.std.proofs.lemmas.List.{length-append}
use Rattle.std.proofs.lemmas.List.Elements.{recursion_from_All}
use Rattle.c_lex_pieces.specs.Written.{AreBytes}
use Rattle.c_meaning.specs.Calls.{Source}
use Rattle.c_meaning.specs.Runs.{run}
use Rattle.sha2.specs.Sha256.{sha256}
use Rattle.atac_facts.specs.declared.fact.Fact.{Fact}
use Rattle.atac_facts.specs.declared.tally.Counted.{Counted}
use Rattle.atac_facts.specs.Facts.{fits}
use Rattle.atac_facts.specs.Tallies.{count_of, is_met}
use Rattle.atac_facts.specs.Sums.{most}
use Rattle.trace_file.specs.Layout.{bytes_of}
use Rattle.trace_file.specs.Reading.{Accepts}
use Rattle.trace_file.specs.Sound.{SoundFact, IsSound, IsTyped}
use Rattle.trace_file.specs.Sums.{AreSound, RowFits}
use Rattle.trace_file.specs.declared.trace.Trace.{Trace}
use Rattle.trace_file.proofs.Adding.{met_is, are_sound, orderly_from}
use Rattle.trace_file.proofs.Digest.{length-sha256}
use Rattle.trace_file.proofs.Lengths.{size_of, length-bytes_of, length-sum, written_so}
use Rattle.trace_file.proofs.Whole.{spelled_is_read}
use Rattle.cover_sound.proofs.Logs.{logs_are_told}
use Rattle.cover_sound.proofs.Facts.{covered_facts_are_sound}
use Rattle.atac_traces.specs.Totals.{total, count_in, IsSum}
use Rattle.atac_programs.specs.Programs.{IsInstrumented, program_in, shown_by, met_by, owner_in_probed}
use Rattle.atac_commands.specs.Claims.{IsFewBytes}
use Rattle.atac_commands.specs.Readings.{IsRunMore, met_in, are_exact}
use Rattle.atac_kept.specs.Recorded.{RunOn, some_shows, times_shown, CountsRuns, AreTraceOfRuns, OneMoreRunIsCounted, AllCountRuns, together, TellOfRuns, TracesTellOfRuns, SumsCountRuns}
use Rattle.atac_kept.proofs.Kept.{kept_texts_run}

-- ---- one more run

-- what a run of an accepted program shows has sound numbers: its text with probes logs it
shown_sound : (source text : List ℕ) → AreBytes source → (k : IsInstrumented source text) (limit : ℕ) (input : List ℕ) (f : Fact) → fits f ≡ true → shown_by (program_in k.accepted) limit input f ≡ true → SoundFact f
shown_sound source text bytes k limit input f fit shows =
    let kept = kept_texts_run source text bytes k in
    let q = kept.program in
    covered_facts_are_sound (owner_in_probed q) (run q input limit).log f (logs_are_told q input limit) fit (kept.met input limit f ∙ shows)

met_then : (rows : List Counted) (f : Fact) → AreSound rows → fits f ≡ true → 0 < count_of rows f → SoundFact f
met_then rows f sound fit some = sound f (met_is rows f fit some)

old_sound : (old : Trace) → (old.tally ≡ []) ⊎ ((bytes : List ℕ) × Accepts bytes old) → AreSound old.tally
old_sound old (inl none) f met =
    let p = and_parts (fits f) (nat_lt 0 (count_of old.tally f)) met in
    let no : count_of old.tally f ≡ 0 = ap (λ rows. count_of rows f) none in
    absurd (no_less (count_of old.tally f) no p.1)
  where
    no_less : (n : ℕ) → n ≡ 0 → nat_lt 0 n ≡ true → ⊥
    no_less n e h = grind (arith, nat_tests)
old_sound old (inr some) f met = are_sound old.tally some.1.3.1 f met

module _ (source text : List ℕ) (bytes : AreBytes source) (k : IsInstrumented source text) (limit : ℕ) (input : List ℕ) (old new : Trace) (more : IsRunMore old new (shown_by (program_in k.accepted) limit input)) (before : AreSound old.tally) where
  abbrev P : Source
  P = program_in k.accepted

  by_shown : (f : Fact) (b : Bool) → shown_by P limit input f ≡ b → fits f ≡ true → count_of new.tally f ≡ min (count_of old.tally f + (if b then 1 else 0)) most → 0 < count_of new.tally f → SoundFact f
  by_shown f true is fit e some = shown_sound source text bytes k limit input f fit is
  by_shown f false is fit e some = met_then old.tally f before fit (omega (arith, e, some))

  new_sound : AreSound new.tally
  new_sound f met =
      let p = and_parts (fits f) (nat_lt 0 (count_of new.tally f)) met in
      by_shown f (shown_by P limit input f) refl p.0 (more.counts f p.0) (some_count (count_of new.tally f) p.1)
    where
      some_count : (n : ℕ) → nat_lt 0 n ≡ true → 0 < n
      some_count n h = grind (arith, nat_tests)

capped : (s t x n : ℕ) → s ≡ min t most → n ≡ min (s + x) most → n ≡ min (x + t) most
capped s t x n e h = omega (arith, e, h)

-- the bytes of a sound trace are read as that trace
spelled : (P : Source) (digest : List ℕ) (t : Trace) (runs : List RunOn) → length digest ≡ 32 → IsSound t → IsFewBytes t → CountsRuns P digest t runs → AreTraceOfRuns P digest (bytes_of t) runs
spelled P digest t runs wide sound few counts =
    let len : length t.digest ≡ 32 = ap (λ (d : List ℕ). length d) counts.digest_is ∙ wide in
    let typed : IsTyped t = record { digest = len; runs = (let e = counts.runs_are in omega (arith, e)) } in
    let whole = length-bytes_of t len in
    let least = length-sum t.tally in
    let short : length t.tally < 2 ^ 32 = omega (arith, whole, least, few) in
    let read = spelled_is_read (bytes_of t) t typed sound (written_so (bytes_of t) t refl short) in
    record { trace = t; is = (read.parts, read.laid, sym read.same, sound, read.signed); counts = counts }

pub one_more_run_is_counted : OneMoreRunIsCounted
one_more_run_is_counted source text bytes k runs old new limit input counted before more few =
    let none : new.old_runs ≡ 0 = more.old_runs ∙ counted.exact in
    let rows = orderly_from 0 new.tally more.rows.ascend (recursion_from_All RowFits new.tally more.rows.fit) (new_sound source text bytes k limit input old new more (old_sound old before)) in
    spelled (program_in k.accepted) (sha256 source) new ((limit, input) ∷ runs) (length-sha256 source) (omega (arith, none), rows) few
    (record {
      digest_is = more.digest ∙ counted.digest_is;
      runs_are = (let e = more.runs in let h = counted.runs_are in omega (arith, e, h));
      exact = none;
      counts = λ f fit. capped _ _ _ _ (counted.counts f fit) (more.counts f fit);
    })

-- ---- several traces

some_append : (P : Source) (a b : List RunOn) (f : Fact) → some_shows P (a ++ b) f ≡ (some_shows P a f || some_shows P b f)
some_append P [] b f = refl
some_append P (r ∷ a) b f = ap (λ x. shown_by P r.0 r.1 f || x) (some_append P a b f) ∙ associates (shown_by P r.0 r.1 f) (some_shows P a f) (some_shows P b f)
  where
    associates : (x y z : Bool) → (x || (y || z)) ≡ ((x || y) || z)
    associates true y z = refl
    associates false y z = refl

times_append : (P : Source) (a b : List RunOn) (f : Fact) → times_shown P (a ++ b) f ≡ times_shown P a f + times_shown P b f
times_append P [] b f = omega arith
times_append P (r ∷ a) b f = let e = times_append P a b f in omega (arith, e)

-- some run shows it exactly where one at least does
some_times : (P : Source) (runs : List RunOn) (f : Fact) → nat_lt 0 (times_shown P runs f) ≡ some_shows P runs f
some_times P [] f = refl
some_times P (r ∷ runs) f = by (shown_by P r.0 r.1 f) (times_shown P runs f) (some_shows P runs f) (some_times P runs f)
  where
    by : (b : Bool) (n : ℕ) (c : Bool) → nat_lt 0 n ≡ c → nat_lt 0 ((if b then 1 else 0) + n) ≡ (b || c)
    by true n c e = one n
      where
        one : (n : ℕ) → nat_lt 0 (1 + n) ≡ true
        one n = grind (arith, nat_tests)
    by false n c e = let h : 0 + n ≡ n = omega arith in ap (nat_lt 0) h ∙ e

total_counts : (P : Source) (digest : List ℕ) (ts : List Trace) (all : List (List RunOn)) (f : Fact) → AllCountRuns P digest ts all → fits f ≡ true → min (total (λ t. count_of t.tally f) ts) most ≡ min (times_shown P (together all) f) most
total_counts P digest [] [] f h fit = refl
total_counts P digest (t ∷ ts) (runs ∷ all) f h fit =
    let one = h.0.counts f fit in
    let rest = total_counts P digest ts all f h.1 fit in
    let both = times_append P runs (together all) f in
    omega (arith, one, rest, both)
total_counts P digest [] (runs ∷ all) f h fit = absurd h
total_counts P digest (t ∷ ts) [] f h fit = absurd h

total_old : (P : Source) (digest : List ℕ) (ts : List Trace) (all : List (List RunOn)) → AllCountRuns P digest ts all → total (λ t. t.old_runs) ts ≡ 0
total_old P digest [] [] h = refl
total_old P digest (t ∷ ts) (runs ∷ all) h = let one = h.0.exact in let rest = total_old P digest ts all h.1 in omega (arith, one, rest)
total_old P digest [] (runs ∷ all) h = absurd h
total_old P digest (t ∷ ts) [] h = absurd h

lt_capped : (n m : ℕ) → n ≡ min m most → nat_lt 0 n ≡ nat_lt 0 m
lt_capped n zero e = ap (nat_lt 0) (let h : n ≡ 0 = omega (arith, e) in h)
lt_capped n (suc m) e = some n (omega (arith, e)) ∙ sym (some (suc m) (omega arith))
  where
    some : (n : ℕ) → 0 < n → nat_lt 0 n ≡ true
    some n h = grind (arith, nat_tests)

pub traces_tell_of_runs : TracesTellOfRuns
traces_tell_of_runs P digest ts all h = record {
  met = λ f fit.
      ap (λ b. b && nat_lt 0 (count_in ts f)) fit
      ∙ (lt_capped (count_in ts f) (times_shown P (together all) f) (total_counts P digest ts all f h fit) ∙ some_times P (together all) f);
  counts = λ f fit. total_counts P digest ts all f h fit;
  exact = ap (λ n. nat_eq n 0) (total_old P digest ts all h);
}

total_runs : (P : Source) (digest : List ℕ) (ts : List Trace) (all : List (List RunOn)) → AllCountRuns P digest ts all → min (total (λ t. t.runs) ts) most ≡ min (length (together all)) most
total_runs P digest [] [] h = refl
total_runs P digest (t ∷ ts) (runs ∷ all) h =
    let one = h.0.runs_are in
    let rest = total_runs P digest ts all h.1 in
    let both = length-append runs (together all) in
    omega (arith, one, rest, both)
total_runs P digest [] (runs ∷ all) h = absurd h
total_runs P digest (t ∷ ts) [] h = absurd h

pub sums_count_runs : SumsCountRuns
sums_count_runs P digest ts all sum wide h is few =
    spelled P digest sum (together all) wide is.sound few
    (record {
      digest_is = is.digest;
      runs_are = is.runs ∙ total_runs P digest ts all h;
      exact = is.old_runs ∙ ap (λ n. min n most) (total_old P digest ts all h);
      counts = λ f fit. is.counts f ∙ total_counts P digest ts all f h fit;
    })
