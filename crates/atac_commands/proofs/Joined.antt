-- Traces that a command joins, as its answer has them.
use Rattle.std.proofs.Common.{◌≡◌, refl, ap, sym, ◌∙◌, subst, List, [], ◌∷◌, ◌++◌, length, map, take, ℕ, zero, suc, ◌-◌, Option, append_assoc, append-nil}
use Rattle.std.specs.Prelude.{slice_get}
use Rattle.atac_base.specs.Outside.{ShelfState, SinkState, Said, Agrees}
use Rattle.trace_file.specs.declared.trace.Trace.{Trace}
use Rattle.atac_words.specs.Words.{Command}
use Rattle.atac_steps.specs.Ends.{End, IsDone, BadWords, NotAccepted, NotHeld, TooLong, NoTrace, ReadFailed, WriteFailed, KeepFailed, NotWatched, OutOfMemory}
use Rattle.atac_steps.specs.declared.stop.TraceFault.{TraceFault}
use Rattle.atac_steps.specs.Got.{gets, Gets, Stops, AllAgree}
use Rattle.atac_steps.specs.Grows.{ShelfGrows}
use Rattle.atac_steps.specs.Steps.{FetchStops}
use Rattle.atac_steps.proofs.Growing.{sink_stays, shelf_goes_on}
use Rattle.atac_traces.specs.Files.{Read, Has, Bad, IsFaulty, TraceStops, trace_most}
use Rattle.atac_traces.specs.Joins.{AreTraces, Came, StopsAt}
use Rattle.atac_commands.specs.Readings.{Reading}
use Rattle.atac_commands.specs.Answers.{Answer, asked, names, joined, text, refused, given, next_read, joining}
use Rattle.atac_commands.specs.Runs.{AreRead, IsReadIn, Understands, Goes}
use Rattle.atac_commands.proofs.Course.{guesses, guesses_agree, at_length}
use Rattle.atac_commands.proofs.Exits.{fetch_stops, no_trace, known_nothing}

-- where a trace of the program was found under each name so far, what is left is read behind them
joining_done : (digest : List ℕ) (done : List (List ℕ)) (found : List (Option (List ℕ))) (ts : List Trace) → AreTraces digest done found ts
    → (left : List (List ℕ)) (more : List (Option (List ℕ))) (reads : List Read) (before : List Trace) (go : List Trace → Answer)
    → joining (done ++ left) (found ++ more) (map Has ts ++ reads) before go ≡ joining left more reads (before ++ ts) go
joining_done digest [] [] [] h left more reads before go = ap (λ b. joining left more reads b go) (sym (append-nil before))
joining_done digest [] [] (t ∷ ts) h left more reads before go = absurd h
joining_done digest [] (f ∷ found) ts h left more reads before go = absurd h
joining_done digest (n ∷ done) [] ts h left more reads before go = absurd h
joining_done digest (n ∷ done) (f ∷ found) [] h left more reads before go = absurd h
joining_done digest (n ∷ done) (f ∷ found) (t ∷ ts) h left more reads before go =
    ap (λ got. given [] got (λ bytes. next_read n (Has t ∷ (map Has ts ++ reads)) (λ u rest. joining (done ++ left) (found ++ more) rest (before ++ u ∷ []) go))) h.0.1
    ∙ joining_done digest done found ts h.1 left more reads (before ++ t ∷ []) go
    ∙ ap (λ b. joining left more reads b go) (append_assoc before (t ∷ []) ts)

are_read : (digest : List ℕ) (done : List (List ℕ)) (found : List (Option (List ℕ))) (ts : List Trace) → AreTraces digest done found ts
    → (left : List (List ℕ)) (more : List (Option (List ℕ))) (reads : List Read) → AreRead digest left more reads → AreRead digest (done ++ left) (found ++ more) (map Has ts ++ reads)
are_read digest [] [] [] h left more reads k = k
are_read digest [] [] (t ∷ ts) h left more reads k = absurd h
are_read digest [] (f ∷ found) ts h left more reads k = absurd h
are_read digest (n ∷ done) [] ts h left more reads k = absurd h
are_read digest (n ∷ done) (f ∷ found) [] h left more reads k = absurd h
are_read digest (n ∷ done) (f ∷ found) (t ∷ ts) h left more reads k =
    (subst (λ got. IsReadIn digest got (Has t)) (sym h.0.1) h.0.2, are_read digest done found ts h.1 left more reads k)

all_agree : (says : List ℕ → Said) (done : List (List ℕ)) (found : List (Option (List ℕ))) (left : List (List ℕ)) (more : List (Option (List ℕ))) → AllAgree says done found → AllAgree says left more → AllAgree says (done ++ left) (found ++ more)
all_agree says [] [] left more h k = k
all_agree says [] (f ∷ found) left more h k = absurd h
all_agree says (n ∷ done) [] left more h k = absurd h
all_agree says (n ∷ done) (f ∷ found) left more h k = (h.0, all_agree says done found left more h.1 k)

-- traces alone put no section
given_sections : (got : _) (go : List ℕ → Answer) → ((bytes : List ℕ) → (go bytes).sections ≡ []) → (given [] got go).sections ≡ []
given_sections (Gets bytes) go h = h bytes
given_sections (Stops e) go h = refl

next_sections : (name : List ℕ) (reads : List Read) (go : Trace → List Read → Answer) → ((t : Trace) (rest : List Read) → (go t rest).sections ≡ []) → (next_read name reads go).sections ≡ []
next_sections name [] go h = refl
next_sections name (Bad why ∷ reads) go h = refl
next_sections name (Has t ∷ reads) go h = h t reads

pub joining_sections : (left : List (List ℕ)) (more : List (Option (List ℕ))) (reads : List Read) (before : List Trace) (go : List Trace → Answer) → ((ts : List Trace) → (go ts).sections ≡ []) → (joining left more reads before go).sections ≡ []
joining_sections [] more reads before go h = h before
joining_sections (n ∷ left) [] reads before go h = refl
joining_sections (n ∷ left) (f ∷ more) reads before go h =
    given_sections (gets n trace_most f) _ (λ bytes. next_sections n reads _ (λ t rest. joining_sections left more rest (before ++ t ∷ []) go h))

pub take_none : (n : ℕ) (xs : List (List ℕ)) → xs ≡ [] → take n xs ≡ []
take_none zero xs none = refl
take_none (suc n) xs none = rw none refl

-- A command that joins the traces of these names, behind what it found under those before them: `reading` is what is understood by
-- what is read in the traces, and `go` is what is left behind all of them.
module _ (c : Option Command) (shelf mid shelf' : ShelfState) (out : SinkState) (first : List (List ℕ)) (found : List (Option (List ℕ))) (left : List (List ℕ)) (digest : List ℕ) (reading : List Read → Reading) (before : List Trace) (go : List Trace → Answer)
    (at : names c ≡ first ++ left)
    (agrees : (more : List (Option (List ℕ))) → AllAgree shelf.says left more → AllAgree shelf.says (names c) (found ++ more))
    (understands : (more : List (Option (List ℕ))) (reads : List Read) → AreRead digest left more reads → Understands c (found ++ more) (reading reads))
    (is : (more : List (Option (List ℕ))) (reads : List Read) → asked c (reading reads) (found ++ more) ≡ joining left more reads before go)
    (plain : (ts : List Trace) → (go ts).sections ≡ [])
    (same : mid.says ≡ shelf.says) (grows : ShelfGrows shelf mid) where
  -- all of them were read
  pub record Joined (ts : List Trace) : Type 0 where
    pub more : List (Option (List ℕ))
    pub agree : AllAgree shelf.says (names c) (found ++ more)
    pub understood : Understands c (found ++ more) (reading (map Has ts))
    pub joined : (k : List Trace → Answer) → joining left more (map Has ts) before k ≡ k (before ++ ts)
    pub answer : asked c (reading (map Has ts)) (found ++ more) ≡ go (before ++ ts)
    pub are : AreRead digest left more (map Has ts)
    pub says : shelf'.says ≡ shelf.says
    pub shelf_grows : ShelfGrows shelf shelf'

  pub all_joined : (old sum : Trace) → old.digest ≡ digest → (h : Came mid shelf' old left [] sum) → Joined h.traces
  all_joined old sum d h =
      let all : left ≡ h.done = h.at ∙ append-nil h.done in
      let are : AreTraces digest h.done h.found h.traces = subst (λ x. AreTraces x h.done h.found h.traces) d h.are in
      let so_far : AllAgree shelf.says left h.found = subst (λ l. AllAgree shelf.says l h.found) (sym all) (subst (λ (says : List ℕ → Said). AllAgree says h.done h.found) same h.agrees) in
      let read : AreRead digest left h.found (map Has h.traces) =
      subst (λ l. AreRead digest l h.found (map Has h.traces)) (sym all)
      (subst (λ l. AreRead digest l h.found (map Has h.traces)) (append-nil h.done)
      (subst (λ l. AreRead digest (h.done ++ []) l (map Has h.traces)) (append-nil h.found)
      (subst (λ l. AreRead digest (h.done ++ []) (h.found ++ []) l) (append-nil (map Has h.traces)) (are_read digest h.done h.found h.traces are [] [] [] tt)))) in
      let joined : (k : List Trace → Answer) → joining left h.found (map Has h.traces) before k ≡ k (before ++ h.traces) = λ k.
      ap (λ l. joining l h.found (map Has h.traces) before k) (all ∙ sym (append-nil h.done))
      ∙ ap (λ l. joining (h.done ++ []) l (map Has h.traces) before k) (sym (append-nil h.found))
      ∙ ap (λ l. joining (h.done ++ []) (h.found ++ []) l before k) (sym (append-nil (map Has h.traces)))
      ∙ joining_done digest h.done h.found h.traces are [] [] [] before k in
      record {
        more = h.found;
        agree = agrees h.found so_far;
        understood = understands h.found (map Has h.traces) read;
        joined = joined;
        answer = is h.found (map Has h.traces) ∙ joined go;
        are = read;
        says = h.says ∙ same;
        shelf_grows = shelf_goes_on _ _ _ grows h.grows;
      }

  -- one of them stops the command
  module _ (old : Trace) (d : old.digest ≡ digest) (e : End) (h : StopsAt mid shelf' old left e) where
    abbrev more_found : List (Option (List ℕ))
    more_found = h.came.found ++ h.found ∷ guesses shelf.says h.left

    are_traces : AreTraces digest h.came.done h.came.found h.came.traces
    are_traces = subst (λ x. AreTraces x h.came.done h.came.found h.came.traces) d h.came.are

    all_found : AllAgree shelf.says left more_found
    all_found =
        subst (λ l. AllAgree shelf.says l more_found) (sym h.came.at)
        (all_agree shelf.says h.came.done h.came.found (h.name ∷ h.left) (h.found ∷ guesses shelf.says h.left)
        (subst (λ (says : List ℕ → Said). AllAgree says h.came.done h.came.found) same h.came.agrees)
        (subst (λ (says : List ℕ → Said). Agrees (says h.name) h.found) (h.came.says ∙ same) h.agrees, guesses_agree shelf.says h.left))

    read_to : (reads : List Read) → AreRead digest (h.name ∷ h.left) (h.found ∷ guesses shelf.says h.left) reads → AreRead digest left more_found (map Has h.came.traces ++ reads)
    read_to reads k = subst (λ l. AreRead digest l more_found (map Has h.came.traces ++ reads)) (sym h.came.at) (are_read digest h.came.done h.came.found h.came.traces are_traces _ _ reads k)

    answer_to : (reads : List Read) → joining left more_found (map Has h.came.traces ++ reads) before go ≡ joining (h.name ∷ h.left) (h.found ∷ guesses shelf.says h.left) reads (before ++ h.came.traces) go
    answer_to reads = ap (λ l. joining l more_found (map Has h.came.traces ++ reads) before go) h.came.at ∙ joining_done digest h.came.done h.came.found h.came.traces are_traces _ _ reads before go

    says_same : shelf'.says ≡ shelf.says
    says_same = h.says ∙ (h.came.says ∙ same)

    all_grows : ShelfGrows shelf shelf'
    all_grows = shelf_goes_on _ _ _ grows (shelf_goes_on _ _ _ h.came.grows h.grows)

    fetch_stopped : FetchStops h.mid shelf' h.name trace_most h.found e → Goes c shelf shelf' out out e
    fetch_stopped k =
        let reads : List Read = map Has h.came.traces ++ [] in
        let u = understands more_found reads (read_to [] tt) in
        fetch_stops _ c shelf shelf' out out (found ++ more_found) (agrees more_found all_found) (reading reads) u says_same all_grows (sink_stays out)
        (length (first ++ h.came.done)) h.name trace_most h.found h.mid [] e k
        (ap (λ l. slice_get l (length (first ++ h.came.done))) (at ∙ ap (λ l. first ++ l) h.came.at ∙ sym (append_assoc first h.came.done (h.name ∷ h.left))) ∙ at_length (first ++ h.came.done) h.name h.left)
        (shelf_goes_on _ _ _ grows h.came.grows)
        (λ stops.
        let stopped : asked c (reading reads) (found ++ more_found) ≡ refused [] e = is more_found reads ∙ answer_to [] ∙ ap (λ got. given [] got (λ bytes. next_read h.name [] (λ t rest. joining h.left (guesses shelf.says h.left) rest ((before ++ h.came.traces) ++ t ∷ []) go))) stops in
        (sym (ap (λ (a : Answer). a.end) stopped), sym (ap (λ (a : Answer). text a) stopped)))
        (sym (ap joined (take_none (length (first ++ h.came.done) - 1) _ (ap (λ (a : Answer). a.sections) (is more_found reads) ∙ joining_sections left more_found reads before go plain))))
        (known_nothing _)

    not_a_trace : (why : TraceFault) → ((bytes : List ℕ) × (gets h.name trace_most h.found ≡ Gets bytes) × IsFaulty digest bytes why) → Goes c shelf shelf' out out (NoTrace h.name why)
    not_a_trace why k =
        let reads : List Read = map Has h.came.traces ++ Bad why ∷ [] in
        let u = understands more_found reads (read_to (Bad why ∷ []) (subst (λ got. IsReadIn digest got (Bad why)) (sym k.1) k.2, tt)) in
        no_trace _ c shelf shelf' out out (found ++ more_found) (agrees more_found all_found) (reading reads) u says_same all_grows (sink_stays out) h.name why
        (is more_found reads ∙ answer_to (Bad why ∷ []) ∙ ap (λ got. given [] got (λ bytes. next_read h.name (Bad why ∷ []) (λ t rest. joining h.left (guesses shelf.says h.left) rest ((before ++ h.came.traces) ++ t ∷ []) go))) k.1)
        (known_nothing _)

  by_end : (old : Trace) (d : old.digest ≡ digest) (e : End) (h : StopsAt mid shelf' old left e) → TraceStops h.mid shelf' digest h.name h.found e → Goes c shelf shelf' out out e
  by_end old d (NoTrace file why) h k = subst (λ f. Goes c shelf shelf' out out (NoTrace f why)) (sym k.0) (not_a_trace old d (NoTrace file why) h why k.1)
  by_end old d (NotHeld file) h k = fetch_stopped old d (NotHeld file) h k
  by_end old d (TooLong file) h k = fetch_stopped old d (TooLong file) h k
  by_end old d (ReadFailed file) h k = fetch_stopped old d (ReadFailed file) h k
  by_end old d OutOfMemory h k = fetch_stopped old d OutOfMemory h k
  by_end old d IsDone h k = absurd k
  by_end old d BadWords h k = absurd k
  by_end old d (NotAccepted file said) h k = absurd k
  by_end old d WriteFailed h k = absurd k
  by_end old d (KeepFailed file) h k = absurd k
  by_end old d (NotWatched file) h k = absurd k

  pub join_stops : (old : Trace) → old.digest ≡ digest → (e : End) → StopsAt mid shelf' old left e → Goes c shelf shelf' out out e
  join_stops old d e h = by_end old d e h (subst (λ x. TraceStops h.mid shelf' x h.name h.found e) d h.stops)
