-- Runs that a watcher is told of, as the commands' answers have them, and what follows from a whole call.
use Rattle.std.proofs.Common.{◌≡◌, inl, inr, refl, ap, sym, ◌∙◌, subst, List, [], ◌∷◌, ◌++◌, ℕ, length, Option, None, Some, append-nil}
use Rattle.std.specs.List.{flat_map}
use Rattle.c_meaning.specs.declared.end.RunEnd.{RunEnd}
use Rattle.c_meaning.specs.Runs.{run}
use Rattle.probe_rules.specs.Simulation.{Simulates}
use Rattle.probe_watch.specs.Logs.{end_of, ends_of, log_of}
use Rattle.cover_report.specs.Texts.{totals_text}
use Rattle.atac_self.specs.Summary.{summary_text}
use Rattle.atac_programs.specs.Sections.{section_of, ended_line, end_line_text}
use Rattle.atac_programs.proofs.Running.{probed_section, probed_log, probed_logs, probed_lines}
use Rattle.atac_commands.specs.declared.watching.Fed.{Fed}
use Rattle.std.specs.Prelude.{Result}
use Rattle.atac_base.specs.Outside.{ShelfState, SinkState, Said, Agrees}
use Rattle.atac_base.specs.Items.{ItemLists}
use Rattle.c_walk.specs.Units.{items_of}
use Rattle.c_sites.specs.declared.numbered.Sites.{Sites}
use Rattle.c_sites.specs.Refused.{AreNumbered}
use Rattle.pair_list.specs.Items.{AreTooMany}
use Rattle.c_meaning.specs.Calls.{Source}
use Rattle.atac_self.specs.Generation.{program_text, input_bytes}
use Rattle.atac_words.specs.Words.{Watch, SelfCover}
use Rattle.atac_steps.specs.Ends.{End, IsDone, BadWords, NotAccepted, NotHeld, TooLong, NoTrace, ReadFailed, WriteFailed, KeepFailed, NotWatched, OutOfMemory}
use Rattle.atac_steps.specs.Got.{Got, Gets, Stops, gets, AllAgree}
use Rattle.atac_steps.specs.Grows.{ShelfGrows}
use Rattle.atac_steps.specs.Steps.{FetchStops, Puts}
use Rattle.atac_steps.specs.Stops.{ended}
use Rattle.atac_steps.specs.declared.stop.Stop.{Stop}
use Rattle.atac_steps.proofs.Growing.{sink_stays, shelf_stays, shelf_goes_on}
use Rattle.atac_programs.specs.Programs.{IsAccepted, HasItems, IsCovered, IsTaken, Unlisted, program_in, section, events, all_events, end_lines, shown}
use Rattle.atac_programs.proofs.Same.{same_source, not_rejected, not_unlisted, has_moved}
use Rattle.atac_commands.specs.Readings.{Reading, Refuses, Counted, Listed, Runs, Covers, Probes, Viewed, Merges, Records, Picks, Watches, Sums, Saying, Unasked, NoneNamed, Says, IsUnderstood, made_name, counter_name, summary}
use Rattle.atac_commands.specs.Answers.{Answer, asked, names, text, saying, input_most}
use Rattle.c_events.specs.declared.events.Event.{Event}
use Rattle.atac_commands.specs.Runs.{Handed, handed, IsSaid, IsSaidOf, Watched, UnderstandsWith, GoesWith}
use Rattle.atac_commands.specs.Watching.{FeedStops, IsFed, IsWatchText, IsSumText}
use Rattle.atac_commands.proofs.Asked.{watch_understands, watch_stops, watch_goes}
use Rattle.atac_commands.proofs.Exits.{wants_memory, fetch_stops, put_ends, known_nothing}
use Rattle.atac_commands.proofs.Sure.{IsSure}

-- the watchers of a list, by what each says of itself
abbrev pub handed_in : {W : Type 0} (ws : List W) → (W → List ℕ) → (W → List Event → Type 0) → (W → List Event → List ℕ) → Handed
handed_in ws called stands text_of = handed called stands text_of ws

-- what a watcher is found to say, where it isn't asked: whatever was got
pub unasked : (ws : Handed) (name : List ℕ) (P : Source) (n : ℕ) (g : Got) → IsSaidOf ws name P n g Unasked
unasked ws name P n (Gets bytes) = tt
unasked ws name P n (Stops end) = tt

-- what was said of what the program with its probes logs was said of the program's events
pub watch_text_of : (ws : Handed) (P Q : Source) (limit : ℕ) (input bytes name : List ℕ) (inputs : List (List ℕ)) (fed : Fed) (text : List ℕ) → inputs ≡ bytes ∷ [] → Simulates Q P → IsFed ws Q limit inputs name fed
    → ((end : RunEnd) → fed.ends.items ≡ end ∷ [] → text ≡ section_of input end.output end.turns end.end ++ fed.said.items) → IsWatchText ws P limit input bytes name text
watch_text_of ws P Q limit input bytes name inputs fed text one simulates f is =
    let log : log_of Q limit inputs ≡ events P limit bytes = ap (log_of Q limit) one ∙ (append-nil (run Q bytes limit).log ∙ probed_log P Q limit simulates bytes) in
    record {
      said = fed.said.items;
      says = subst (λ l. ws.says name l fed.said.items) log f.says;
      is = is (end_of (run Q bytes limit)) (f.ends ∙ ap (ends_of Q limit) one) ∙ ap (λ s. s ++ fed.said.items) (probed_section P Q limit simulates input bytes);
    }

lines_of_ends : (Q : Source) (limit : ℕ) (inputs : List (List ℕ)) → flat_map ended_line (ends_of Q limit inputs) ≡ flat_map (λ input. end_line_text (run Q input limit)) inputs
lines_of_ends Q limit [] = refl
lines_of_ends Q limit (i ∷ inputs) = ap (λ l. end_line_text (run Q i limit) ++ l) (lines_of_ends Q limit inputs)

pub sum_text_of : (ws : Handed) (P Q : Source) (items : ItemLists) (limit length : ℕ) (inputs : List (List ℕ)) (fed : Fed) (totals text : List ℕ) → Simulates Q P → IsFed ws Q limit inputs counter_name fed
    → totals ≡ totals_text items (shown P limit inputs) → text ≡ summary_text length (flat_map ended_line fed.ends.items) totals fed.said.items → IsSumText ws P items limit length inputs text
sum_text_of ws P Q items limit length inputs fed totals text simulates f same is =
    let lines : flat_map ended_line fed.ends.items ≡ end_lines P limit inputs = ap (flat_map ended_line) f.ends ∙ (lines_of_ends Q limit inputs ∙ probed_lines P Q limit simulates inputs) in
    record {
      said = fed.said.items;
      says = subst (λ l. ws.says counter_name l fed.said.items) (probed_logs P Q limit simulates inputs) f.says;
      is = is ∙ (ap (λ l. summary_text length l totals fed.said.items) lines ∙ ap (λ t. summary_text length (end_lines P limit inputs) t fed.said.items) same);
    }

-- what is put where a run is watched
abbrev pub watched_answer : List ℕ → Source → List ℕ → ℕ → List ℕ → Answer
watched_answer i P b n said = record { end = IsDone; sections = []; rest = section i P b n ++ said; kept = None }

module _ (ws : Handed) (n : ℕ) (p i w : List ℕ) (shelf mid shelf' : ShelfState) (out : SinkState) (fp fi : Option (List ℕ)) (agrees : Agrees (shelf.says p) fp) (agrees_i : Agrees (mid.says i) fi) (s : List ℕ) (gives : gets p 1048576 fp ≡ Gets s)
    (P : Source) (taken : IsTaken s P) (same : mid.says ≡ shelf.says) (grows : ShelfGrows shelf mid) (same' : shelf'.says ≡ mid.says) (grows' : ShelfGrows mid shelf') where
  all_agree : AllAgree shelf.says (names (Some (Watch n p i w))) (fp ∷ fi ∷ [])
  all_agree = (agrees, (subst (λ (says : List ℕ → Said). Agrees (says i) fi) same agrees_i, tt))

  understood : (told : Saying) → IsSaidOf ws w P n (gets i input_most fi) told → UnderstandsWith ws (Some (Watch n p i w)) (fp ∷ fi ∷ []) (Watches P told)
  understood told h = (watch_understands n p i w fp fi s gives P told taken, h)

  -- the fetch of the input stops
  pub watch_fetch : (e : End) → FetchStops mid shelf' i input_most fi e → GoesWith ws (Some (Watch n p i w)) shelf shelf' out out e
  watch_fetch e h =
      fetch_stops _ (Some (Watch n p i w)) shelf shelf' out out (fp ∷ fi ∷ []) all_agree (Watches P Unasked) (understood Unasked (unasked ws w P n _)) (same' ∙ same) (shelf_goes_on _ _ _ grows grows') (sink_stays _)
      1 i 16777216 fi mid [] e h refl grows
      (λ l. let stopped = watch_stops n p i w fp fi s gives P Unasked e l in (sym (ap (λ (a : Answer). a.end) stopped), sym (ap (λ (a : Answer). text a) stopped)))
      refl (known_nothing _)

  pub watch_wants : GoesWith ws (Some (Watch n p i w)) shelf shelf' out out OutOfMemory
  watch_wants = wants_memory _ (Some (Watch n p i w)) shelf shelf' out out (fp ∷ fi ∷ []) all_agree (Watches P Unasked) (understood Unasked (unasked ws w P n _)) (same' ∙ same) (shelf_goes_on _ _ _ grows grows') (sink_stays _) 0 [] refl (known_nothing _)

  module _ (b : List ℕ) (gives_i : gets i input_most fi ≡ Gets b) where
    said_of : (told : Saying) → IsSaid ws w (events P n b) told → IsSaidOf ws w P n (gets i input_most fi) told
    said_of told h = subst (λ g. IsSaidOf ws w P n g told) (sym gives_i) h

    -- no watcher has the name
    none_named : ws.none w → GoesWith ws (Some (Watch n p i w)) shelf shelf' out out (NotWatched w)
    none_named h =
        let is = watch_goes n p i w fp fi s gives P NoneNamed b gives_i in
        record {
          found = fp ∷ fi ∷ [];
          put = [];
          agrees = all_agree;
          comes = inr (record { understood = Watches P NoneNamed; is = understood NoneNamed (said_of NoneNamed h); comes = (sym (ap (λ (a : Answer). a.end) is), sym (ap (λ (a : Answer). text a) is)); keeps = same' ∙ same });
          bytes = known_nothing _;
          shelf_grows = shelf_goes_on _ _ _ grows grows';
          out_grows = sink_stays _;
        }

    pub watch_feeds : (e : End) → FeedStops ws w e → GoesWith ws (Some (Watch n p i w)) shelf shelf' out out e
    watch_feeds (NotWatched name) h = subst (λ x. GoesWith ws (Some (Watch n p i w)) shelf shelf' out out (NotWatched x)) (sym h.0) (none_named h.1)
    watch_feeds OutOfMemory h = watch_wants
    watch_feeds IsDone h = absurd h
    watch_feeds BadWords h = absurd h
    watch_feeds (NotAccepted file said) h = absurd h
    watch_feeds (NotHeld file) h = absurd h
    watch_feeds (TooLong file) h = absurd h
    watch_feeds (NoTrace file why) h = absurd h
    watch_feeds (ReadFailed file) h = absurd h
    watch_feeds WriteFailed h = absurd h
    watch_feeds (KeepFailed file) h = absurd h

    pub watch_ends : (t : List ℕ) → IsWatchText ws P n i b w t → (out' : SinkState) (piece : List ℕ) (r : Result (Unit {0}) Stop) → Puts out out' piece r → piece ≡ t → GoesWith ws (Some (Watch n p i w)) shelf shelf' out out' (ended r)
    watch_ends t h out' piece r put is_text =
        let whole = watch_goes n p i w fp fi s gives P (Says h.said) b gives_i in
        put_ends _ (Some (Watch n p i w)) shelf shelf' out out' (fp ∷ fi ∷ []) all_agree (Watches P (Says h.said)) (understood (Says h.said) (said_of (Says h.said) h.says)) (same' ∙ same) (shelf_goes_on _ _ _ grows grows') put.grows
        out [] piece r put (ap (λ (a : Answer). a.end) whole) (ap (λ (a : Answer). a.kept) whole) (ap (λ (a : Answer). text a) whole ∙ sym (is_text ∙ h.is)) (known_nothing _) (sink_stays _)

-- ---- a program that is made from a number

abbrev pub summed_answer : Source → ItemLists → ℕ → ℕ → List ℕ → Answer
summed_answer P items n seed said = record { end = IsDone; sections = []; rest = summary P items n (program_text seed) (input_bytes seed) said; kept = None }

module _ (ws : Handed) (n seed : ℕ) (shelf : ShelfState) (out : SinkState) where
  -- memory was wanted before it was understood
  pub self_wants_at_once : GoesWith ws (Some (SelfCover n seed)) shelf shelf out out OutOfMemory
  self_wants_at_once = record { found = []; put = []; agrees = tt; comes = inl (refl, refl); bytes = known_nothing _; shelf_grows = shelf_stays _; out_grows = sink_stays _ }

  pub self_refused : (said : List ℕ) → Unlisted (program_text seed) said → GoesWith ws (Some (SelfCover n seed)) shelf shelf out out (NotAccepted made_name said)
  self_refused said h = record { found = []; put = []; agrees = tt; comes = inr (record { understood = Refuses said; is = (h, tt); comes = (refl, refl); keeps = refl }); bytes = known_nothing _; shelf_grows = shelf_stays _; out_grows = sink_stays _ }

  module _ (P : Source) (items : ItemLists) (covered : IsCovered (program_text seed) P items) where
    self_none : ws.none counter_name → GoesWith ws (Some (SelfCover n seed)) shelf shelf out out (NotWatched counter_name)
    self_none h = record { found = []; put = []; agrees = tt; comes = inr (record { understood = Sums P items NoneNamed; is = (covered, h); comes = (refl, refl); keeps = refl }); bytes = known_nothing _; shelf_grows = shelf_stays _; out_grows = sink_stays _ }

    pub self_feeds : (e : End) → FeedStops ws counter_name e → GoesWith ws (Some (SelfCover n seed)) shelf shelf out out e
    self_feeds (NotWatched name) h = subst (λ x. GoesWith ws (Some (SelfCover n seed)) shelf shelf out out (NotWatched x)) (sym h.0) (self_none h.1)
    self_feeds OutOfMemory h = self_wants_at_once
    self_feeds IsDone h = absurd h
    self_feeds BadWords h = absurd h
    self_feeds (NotAccepted file said) h = absurd h
    self_feeds (NotHeld file) h = absurd h
    self_feeds (TooLong file) h = absurd h
    self_feeds (NoTrace file why) h = absurd h
    self_feeds (ReadFailed file) h = absurd h
    self_feeds WriteFailed h = absurd h
    self_feeds (KeepFailed file) h = absurd h

    pub self_ends : (said : List ℕ) → ws.says counter_name (all_events P n (input_bytes seed)) said → (out' : SinkState) (piece : List ℕ) (r : Result (Unit {0}) Stop) → Puts out out' piece r → piece ≡ summary P items n (program_text seed) (input_bytes seed) said
        → GoesWith ws (Some (SelfCover n seed)) shelf shelf out out' (ended r)
    self_ends said says out' piece r put is_text =
        put_ends _ (Some (SelfCover n seed)) shelf shelf out out' [] tt (Sums P items (Says said)) (covered, says) refl (shelf_stays _) put.grows
        out [] piece r put refl refl (sym is_text) (known_nothing _) (sink_stays _)

-- the summary of the program and inputs that are made
pub record IsSummary (ws : Handed) (P : Source) (items : ItemLists) (n seed : ℕ) (t : List ℕ) : Type 0 where
  pub said : List ℕ
  pub says : ws.says counter_name (all_events P n (input_bytes seed)) said
  pub is : t ≡ summary P items n (program_text seed) (input_bytes seed) said

pub sum_is : (ws : Handed) (P : Source) (items : ItemLists) (n seed size : ℕ) (inputs : List (List ℕ)) (t : List ℕ) → IsSumText ws P items n size inputs t → size ≡ length (program_text seed) → inputs ≡ input_bytes seed → IsSummary ws P items n seed t
sum_is ws P items n seed size inputs t h same_size same = record {
  said = h.said;
  says = subst (λ i. ws.says counter_name (all_events P n i) h.said) same h.says;
  is = h.is ∙ (ap (λ s. summary_text s (end_lines P n inputs) (totals_text items (shown P n inputs)) h.said) same_size ∙ ap (λ i. summary_text (length (program_text seed)) (end_lines P n i) (totals_text items (shown P n i)) h.said) same);
}

-- WHAT FOLLOWS FROM A WHOLE CALL

module _ (ws : Handed) (n : ℕ) (program input name : List ℕ) (p i : Option (List ℕ)) (source bytes : List ℕ) (g : gets program 1048576 p ≡ Gets source) (h : gets input input_most i ≡ Gets bytes) (a : IsAccepted source) where
  says_of : (P : Source) (told : Saying) → IsSaidOf ws name P n (gets input input_most i) told → IsSaid ws name (events P n bytes) told
  says_of P told k = subst (λ x. IsSaidOf ws name P n x told) h k

  said_sure : (P : Source) (told : Saying) → IsSaidOf ws name P n (gets input input_most i) told → (ws.none name → ⊥) → IsSure (saying name told (λ said. watched_answer input P bytes n said)).end
  said_sure P Unasked k w = inr refl
  said_sure P NoneNamed k w = absurd (w (says_of P NoneNamed k))
  said_sure P (Says said) k w = inl refl

  pub watched_done : (u : Reading) → IsUnderstood (Watch n program input name) source u → Watched ws (Some (Watch n program input name)) (p ∷ i ∷ []) u → (ws.none name → ⊥) → IsSure (asked (Some (Watch n program input name)) u (p ∷ i ∷ [])).end
  watched_done (Refuses said) is k w = absurd (not_rejected source said a is)
  watched_done (Watches P told) is k w = subst (λ (x : Answer). IsSure x.end) (sym (watch_goes n program input name p i source g P told bytes h)) (said_sure P told k w)
  watched_done (Counted m) is k w = absurd is
  watched_done (Listed t) is k w = absurd is
  watched_done (Runs R) is k w = absurd is
  watched_done (Covers R items) is k w = absurd is
  watched_done (Probes t) is k w = absurd is
  watched_done (Viewed R items reads) is k w = absurd is
  watched_done (Merges reads sum) is k w = absurd is
  watched_done (Records R old new) is k w = absurd is
  watched_done (Picks R items marks) is k w = absurd is
  watched_done (Sums R items told) is k w = absurd is

  -- what was put, and by which text of the watcher
  pub record IsWatchedSo (x : Answer) : Type 0 where
    pub said : List ℕ
    pub says : ws.says name (events (program_in a) n bytes) said
    pub answer : x ≡ watched_answer input (program_in a) bytes n said

  by_told : (P : Source) (told : Saying) → P ≡ program_in a → IsSaidOf ws name P n (gets input input_most i) told → (asked (Some (Watch n program input name)) (Watches P told) (p ∷ i ∷ [])).end ≡ IsDone
      → IsWatchedSo (asked (Some (Watch n program input name)) (Watches P told) (p ∷ i ∷ []))
  by_told P Unasked same k done = absurd (let e = sym (ap (λ (x : Answer). x.end) (watch_goes n program input name p i source g P Unasked bytes h)) ∙ done in cc)
  by_told P NoneNamed same k done = absurd (let e = sym (ap (λ (x : Answer). x.end) (watch_goes n program input name p i source g P NoneNamed bytes h)) ∙ done in cc)
  by_told P (Says said) same k done = record {
    said = said;
    says = subst (λ (x : Source). ws.says name (events x n bytes) said) same (says_of P (Says said) k);
    answer = watch_goes n program input name p i source g P (Says said) bytes h ∙ ap (λ (x : Source). watched_answer input x bytes n said) same;
  }

  pub watched_so : (u : Reading) → IsUnderstood (Watch n program input name) source u → Watched ws (Some (Watch n program input name)) (p ∷ i ∷ []) u → (asked (Some (Watch n program input name)) u (p ∷ i ∷ [])).end ≡ IsDone
      → IsWatchedSo (asked (Some (Watch n program input name)) u (p ∷ i ∷ []))
  watched_so (Refuses said) is k done = absurd (not_rejected source said a is)
  watched_so (Watches P told) is k done = by_told P told (is.program ∙ same_source source a is.accepted) k done
  watched_so (Counted m) is k done = absurd is
  watched_so (Listed t) is k done = absurd is
  watched_so (Runs R) is k done = absurd is
  watched_so (Covers R items) is k done = absurd is
  watched_so (Probes t) is k done = absurd is
  watched_so (Viewed R items reads) is k done = absurd is
  watched_so (Merges reads sum) is k done = absurd is
  watched_so (Records R old new) is k done = absurd is
  watched_so (Picks R items marks) is k done = absurd is
  watched_so (Sums R items told) is k done = absurd is

module _ (ws : Handed) (n seed : ℕ) (a : IsAccepted (program_text seed)) where
  summed_sure : (P : Source) (items : ItemLists) (told : Saying) → IsSaid ws counter_name (all_events P n (input_bytes seed)) told → (ws.none counter_name → ⊥) → IsSure (saying counter_name told (λ said. summed_answer P items n seed said)).end
  summed_sure P items Unasked k w = inr refl
  summed_sure P items NoneNamed k w = absurd (w k)
  summed_sure P items (Says said) k w = inl refl

  pub summed_done : (u : Reading) → IsUnderstood (SelfCover n seed) (program_text seed) u → Watched ws (Some (SelfCover n seed)) [] u → ((s : Sites) → AreNumbered a.tables.structures (items_of a.tables a.unit) s → AreTooMany a.tables a.unit s → ⊥) → (ws.none counter_name → ⊥)
      → IsSure (asked (Some (SelfCover n seed)) u []).end
  summed_done (Refuses said) is k few w = absurd (not_unlisted (program_text seed) said a few is)
  summed_done (Sums P items told) is k few w = summed_sure P items told k w
  summed_done (Counted m) is k few w = absurd is
  summed_done (Listed t) is k few w = absurd is
  summed_done (Runs R) is k few w = absurd is
  summed_done (Covers R items) is k few w = absurd is
  summed_done (Probes t) is k few w = absurd is
  summed_done (Viewed R items reads) is k few w = absurd is
  summed_done (Merges reads sum) is k few w = absurd is
  summed_done (Records R old new) is k few w = absurd is
  summed_done (Picks R items marks) is k few w = absurd is
  summed_done (Watches R told) is k few w = absurd is

  -- what was put, and by which text of the watcher
  pub record IsSummedSo (x : Answer) : Type 0 where
    pub items : ItemLists
    pub has : HasItems a items
    pub said : List ℕ
    pub says : ws.says counter_name (all_events (program_in a) n (input_bytes seed)) said
    pub answer : x ≡ summed_answer (program_in a) items n seed said

  by_sum : (P : Source) (items : ItemLists) (told : Saying) → IsCovered (program_text seed) P items → IsSaid ws counter_name (all_events P n (input_bytes seed)) told → (asked (Some (SelfCover n seed)) (Sums P items told) []).end ≡ IsDone
      → IsSummedSo (asked (Some (SelfCover n seed)) (Sums P items told) [])
  by_sum P items Unasked is k done = absurd (let e : BadWords ≡ IsDone = done in cc)
  by_sum P items NoneNamed is k done = absurd (let e : NotWatched counter_name ≡ IsDone = done in cc)
  by_sum P items (Says said) is k done =
      let same : P ≡ program_in a = is.program ∙ same_source (program_text seed) a is.accepted in
      record {
        items = items;
        has = has_moved (program_text seed) a is.accepted items is.has;
        said = said;
        says = subst (λ (x : Source). ws.says counter_name (all_events x n (input_bytes seed)) said) same k;
        answer = ap (λ (x : Source). summed_answer x items n seed said) same;
      }

  pub summed_so : (u : Reading) → IsUnderstood (SelfCover n seed) (program_text seed) u → Watched ws (Some (SelfCover n seed)) [] u → (asked (Some (SelfCover n seed)) u []).end ≡ IsDone → IsSummedSo (asked (Some (SelfCover n seed)) u [])
  summed_so (Refuses said) is k done = absurd (let e : NotAccepted made_name said ≡ IsDone = done in cc)
  summed_so (Sums P items told) is k done = by_sum P items told is k done
  summed_so (Counted m) is k done = absurd is
  summed_so (Listed t) is k done = absurd is
  summed_so (Runs R) is k done = absurd is
  summed_so (Covers R items) is k done = absurd is
  summed_so (Probes t) is k done = absurd is
  summed_so (Viewed R items reads) is k done = absurd is
  summed_so (Merges reads sum) is k done = absurd is
  summed_so (Records R old new) is k done = absurd is
  summed_so (Picks R items marks) is k done = absurd is
  summed_so (Watches R told) is k done = absurd is
