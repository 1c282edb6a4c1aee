-- What the commands show of a kept text and of traces of runs, by what they show of any text and of any traces.
use mathlib.Core.Path.{fun_ext}
use Rattle.std.specs.Prelude.{min, ◌||◌, if◌then◌else◌}
use Rattle.std.specs.Io.KnownBytes.{append_known}
use Rattle.std.proofs.Common.{◌≡◌, ◌≤◌, ◌+◌, ◌++◌, ℕ, List, [], ◌∷◌, length, map, Some, None, Bool, true, ◌∙◌, refl, sym, ap, subst, inl, inr}
use Rattle.c_lex_pieces.specs.Written.{AreBytes}
use Rattle.c_meaning.specs.Calls.{Source}
use Rattle.sha2.specs.Sha256.{sha256}
use Rattle.atac_facts.specs.declared.fact.Fact.{Fact}
use Rattle.atac_facts.specs.Tallies.{count_of}
use Rattle.atac_facts.specs.Sums.{most}
use Rattle.trace_file.specs.Layout.{bytes_of}
use Rattle.trace_file.specs.declared.trace.Trace.{Trace}
use Rattle.trace_file.proofs.Digest.{length-sha256}
use Rattle.atac_base.specs.Outside.{ShelfState, SinkState, Said}
use Rattle.atac_base.specs.Items.{ItemLists}
use Rattle.cover_report.specs.Texts.{report_text}
use Rattle.cover_hits.specs.Hits.{hits_text}
use Rattle.serde_json.specs.Written.{compact_text}
use Rattle.atac_traces.specs.Totals.{count_in}
use Rattle.atac_words.specs.declared.words.View.{View}
use Rattle.atac_words.specs.declared.words.View.TheVariants as view
use Rattle.atac_items.specs.Fitting.{ItemsFit}
use Rattle.atac_items.proofs.Facts.{items_of_programs_fit}
use Rattle.atac_items.proofs.Texts.{tests_have_one_text, counts_have_one_text}
use Rattle.atac_words.specs.Words.{Command, Check, ListItems, Instrument, Cover, Run, RunInto, Merge, Tell, Pick, Watch, SelfCover}
use Rattle.atac_programs.specs.Programs.{IsInstrumented, program_in, shown, shown_by, met_by}
use Rattle.atac_commands.specs.Claims.{IsHeld, IsRunnable, HoldsOld, HoldTraces, Shows}
use Rattle.atac_commands.specs.Readings.{IsRunMore, met_in, view_text}
use Rattle.atac_commands.specs.Runs.{Handed}
use Rattle.atac_kept.specs.Kept.{IsKeptOf}
use Rattle.atac_kept.specs.Recorded.{RunOn, some_shows, times_shown, AllCountRuns, AreTraceOfRuns, CountsRuns, TellOfRuns, together}
use Rattle.atac_kept.specs.Commands.{HoldsRuns, HoldAll, text_of_runs, ReportsAreThoseOfCovers, ShowsKept}
use Rattle.atac_kept.proofs.Kept.{kept_texts_run}
use Rattle.atac_kept.proofs.Recorded.{one_more_run_is_counted, traces_tell_of_runs, sums_count_runs}

-- the text is one that `run` takes
abbrev runnable : (source text : List ℕ) (bytes : AreBytes source) (k : IsInstrumented source text) (said : Said) → said ≡ Some (Some text) → IsRunnable said
runnable source text bytes k said held =
    let kept = kept_texts_run source text bytes k in
    record { held = record { bytes = text; is = held; short = subst (λ t. length t ≤ 67108864) (sym k.is) k.fits.text }; program = kept.program; read = kept.read }

-- a run more, with facts that are the same
more_same : (old new : Trace) (met shown : Fact → Bool) → ((f : Fact) → met f ≡ shown f) → IsRunMore old new met → IsRunMore old new shown
more_same old new met shown same more = record {
  digest = more.digest;
  runs = more.runs;
  old_runs = more.old_runs;
  counts = λ f fit. more.counts f fit ∙ ap (λ b. min (count_of old.tally f + (if b then 1 else 0)) most) (same f);
  rows = more.rows;
}

-- ---- what is held

-- the trace of no run counts none
none_counted : (P : Source) (digest : List ℕ) (old : Trace) → old ≡ record { digest = digest; runs = 0; old_runs = 0; tally = [] } → CountsRuns P digest old []
none_counted P digest old e = subst (λ t. CountsRuns P digest t []) (sym e) (record { digest_is = refl; runs_are = refl; exact = refl; counts = λ f fit. refl })

-- the traces that are held
record AreHeldSo (P : Source) (digest : List ℕ) (says : List ℕ → Said) (names : List (List ℕ)) (all : List (List RunOn)) : Type 0 where
  ts : List Trace
  hold : HoldTraces digest says names ts
  counts : AllCountRuns P digest ts all

held_so : (P : Source) (digest : List ℕ) (says : List ℕ → Said) (names : List (List ℕ)) (all : List (List RunOn)) → HoldAll P digest says names all → AreHeldSo P digest says names all
held_so P digest says [] [] h = record { ts = []; hold = tt; counts = tt }
held_so P digest says (name ∷ names) (runs ∷ all) h =
    let one = h.0 in
    let t = one.3 in
    let rest = held_so P digest says names all h.1 in
    record { ts = t.trace ∷ rest.ts; hold = ((one.0, one.1, one.2, (t.is, t.counts.digest_is)), rest.hold); counts = (t.counts, rest.counts) }
held_so P digest says [] (runs ∷ all) h = absurd h
held_so P digest says (name ∷ names) [] h = absurd h

-- ---- texts

told_text : (v : View) (source : List ℕ) (items : ItemLists) (P : Source) (ts : List Trace) (runs : List RunOn) → ItemsFit items → TellOfRuns P ts runs → view_text v source items ts ≡ text_of_runs v source items P runs
told_text view.Report source items P ts runs fit tell = (tests_have_one_text source items (met_in ts) (some_shows P runs) fit tell.met).report
told_text view.Show source items P ts runs fit tell = (tests_have_one_text source items (met_in ts) (some_shows P runs) fit tell.met).show
told_text view.Hits source items P ts runs fit tell =
    ap (λ b. hits_text b items (count_in ts)) tell.exact ∙ counts_have_one_text true items (count_in ts) (λ f. min (times_shown P runs f) most) fit tell.counts
told_text view.Json source items P ts runs fit tell = ap (λ j. compact_text j ++ 10 ∷ []) (tests_have_one_text source items (met_in ts) (some_shows P runs) fit tell.met).json

shown_alike : (P : Source) (limit : ℕ) (inputs : List (List ℕ)) (f : Fact) → some_shows P (map (λ b. (limit, b)) inputs) f ≡ shown P limit inputs f
shown_alike P limit [] f = refl
shown_alike P limit (b ∷ inputs) f = ap (λ x. shown_by P limit b f || x) (shown_alike P limit inputs f)

pub reports_are_those_of_covers : ReportsAreThoseOfCovers
reports_are_those_of_covers P items source limit inputs = ap (report_text items) (fun_ext (shown_alike P limit inputs))

-- ---- the commands

module _ (ws : Handed) (limit : ℕ) (name input trace : List ℕ) (shelf shelf' : ShelfState) (out out' : SinkState) (shows : Shows ws (RunInto limit name input trace) shelf shelf' out out') where
  into : ShowsKept (RunInto limit name input trace) shelf shelf' out out'
  into source text bytes k held i runs (inl none) =
      let kept = kept_texts_run source text bytes k in
      let P = program_in k.accepted in
      let old : Trace = record { digest = sha256 source; runs = 0; old_runs = 0; tally = [] } in
      let r = shows (runnable source text bytes k (shelf.says name) held) i (sha256 source) kept.line old (inl (none.0, refl)) in
      let more = more_same old r.0 (met_by kept.program limit i.bytes) (shown_by P limit i.bytes) (kept.met i.bytes limit) r.1 in
      let counts = one_more_run_is_counted source text bytes k [] old r.0 limit i.bytes (none_counted P (sha256 source) old refl) (inl refl) more r.2 in
      (r.3 ∙ ap (append_known out.bytes) (kept.same input i.bytes limit), (bytes_of r.0, subst (λ l. AreTraceOfRuns P (sha256 source) (bytes_of r.0) ((limit, i.bytes) ∷ l)) (sym none.1) counts, r.2, r.4))
  into source text bytes k held i runs (inr some) =
      let kept = kept_texts_run source text bytes k in
      let P = program_in k.accepted in
      let t = some.3 in
      let old = t.trace in
      let r = shows (runnable source text bytes k (shelf.says name) held) i (sha256 source) kept.line old (inr (some.0, some.1, some.2, (t.is, t.counts.digest_is))) in
      let more = more_same old r.0 (met_by kept.program limit i.bytes) (shown_by P limit i.bytes) (kept.met i.bytes limit) r.1 in
      let counts = one_more_run_is_counted source text bytes k runs old r.0 limit i.bytes t.counts (inr (some.0, t.is)) more r.2 in
      (r.3 ∙ ap (append_known out.bytes) (kept.same input i.bytes limit), (bytes_of r.0, counts, r.2, r.4))

-- what a call shows of any text and of any traces says so
pub commands_speak_of_programs : (ws : Handed) (command : Command) (shelf shelf' : ShelfState) (out out' : SinkState) → Shows ws command shelf shelf' out out' → ShowsKept command shelf shelf' out out'
commands_speak_of_programs ws (Run limit name input) shelf shelf' out out' shows = λ source text bytes k held i.
    let kept = kept_texts_run source text bytes k in
    shows (runnable source text bytes k (shelf.says name) held) i ∙ ap (append_known out.bytes) (kept.same input i.bytes limit)
commands_speak_of_programs ws (RunInto limit name input trace) shelf shelf' out out' shows = into ws limit name input trace shelf shelf' out out' shows
commands_speak_of_programs ws (Merge name []) shelf shelf' out out' shows = tt
commands_speak_of_programs ws (Merge name (first ∷ rest)) shelf shelf' out out' shows = λ source a all held.
    let h = held_so (program_in a) (sha256 source) shelf.says (first ∷ rest) all held in
    let r = shows (sha256 source) h.ts h.hold in
    (bytes_of r.0, sums_count_runs (program_in a) (sha256 source) h.ts all r.0 (length-sha256 source) h.counts r.1 r.2, r.2, r.4)
commands_speak_of_programs ws (Tell v name traces) shelf shelf' out out' shows = λ p bytes all held.
    let P = program_in p.accepted in
    let h = held_so P (sha256 p.held.bytes) shelf.says traces all held in
    let r = shows p h.ts h.hold in
    let fit = items_of_programs_fit p.held.bytes bytes p.accepted r.0 r.1 in
    let text = told_text v p.held.bytes r.0 P h.ts (together all) fit (traces_tell_of_runs P (sha256 p.held.bytes) h.ts all h.counts) in
    (r.0, r.1, r.2 ∙ ap (append_known out.bytes) text)
commands_speak_of_programs ws (Check name) shelf shelf' out out' shows = tt
commands_speak_of_programs ws (ListItems name) shelf shelf' out out' shows = tt
commands_speak_of_programs ws (Instrument name text) shelf shelf' out out' shows = tt
commands_speak_of_programs ws (Cover limit name inputs) shelf shelf' out out' shows = tt
commands_speak_of_programs ws (Pick limit name inputs) shelf shelf' out out' shows = tt
commands_speak_of_programs ws (Watch limit name input watcher) shelf shelf' out out' shows = tt
commands_speak_of_programs ws (SelfCover limit seed) shelf shelf' out out' shows = tt
