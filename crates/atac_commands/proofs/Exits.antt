-- The ways out of a command: at a fetch, at a program that isn't understood, at a put, for want of memory, and at its end.
use Rattle.std.proofs.Common.{◌≡◌, ◌≢◌, ◌⊎◌, inl, inr, refl, ap, sym, ◌∙◌, List, [], ◌∷◌, ◌++◌, ℕ, ◌-◌, Option, None, Some, take, append_assoc, append-nil}
use Rattle.std.specs.Prelude.{slice_get, Result, Ok, Err}
use Rattle.std.specs.Io.KnownBytes.{append_known}
use Rattle.atac_base.specs.Outside.{ShelfState, SinkState, Said, IsFront}
use Rattle.atac_words.specs.Words.{Command}
use Rattle.atac_steps.specs.Ends.{End, IsDone, BadWords, NotAccepted, NotHeld, TooLong, NoTrace, ReadFailed, WriteFailed, KeepFailed, NotWatched, OutOfMemory}
use Rattle.atac_commands.specs.Answers.{Answer, asked, names, joined, text, refused}
use Rattle.atac_steps.specs.Got.{gets, Stops, AllAgree}
use Rattle.atac_steps.specs.Grows.{ShelfGrows, SinkGrows}
use Rattle.atac_commands.specs.Readings.{Reading, Refuses}
use Rattle.atac_commands.specs.Runs.{StaysBut, Comes, Keeps, Breaks, AnswersBy, GoesBy}
use Rattle.atac_steps.specs.Steps.{FetchStops, PutStops, Puts, KeepStops, KeepsAs}
use Rattle.atac_steps.specs.Stops.{end_of, ended}
use Rattle.atac_steps.specs.declared.stop.Stop.{Stop}
use Rattle.atac_steps.specs.declared.stop.TraceFault.{TraceFault}
use Rattle.atac_steps.proofs.Growing.{rose_since, sink_stays, shelf_goes_on}

pub known_nothing : (known : Option (List ℕ)) → known ≡ append_known known []
known_nothing None = refl
known_nothing (Some bytes) = ap Some (sym (append-nil bytes))

pub known_twice : (known : Option (List ℕ)) (a b : List ℕ) → append_known (append_known known a) b ≡ append_known known (a ++ b)
known_twice None a b = refl
known_twice (Some bytes) a b = ap Some (append_assoc bytes a b)

stays : (kept : Option (List ℕ × List ℕ)) (shelf shelf' : ShelfState) → shelf'.says ≡ shelf.says → StaysBut kept shelf shelf'
stays None shelf shelf' same = same
stays (Some kept) shelf shelf' same = λ other ne. ap (λ f. f other) same

pub front_of : (before piece after front all : List ℕ) → IsFront front piece → all ≡ before ++ (piece ++ after) → IsFront (before ++ front) all
front_of before piece after front all h whole = (h.0 ++ after, whole ∙ rw h.1 (simp append_assoc))

module _ (U : List (Option (List ℕ)) → Reading → Type 0) (asked_for : Option Command) (shelf shelf' : ShelfState) (out out' : SinkState) (found : List (Option (List ℕ))) (agrees : AllAgree shelf.says (names asked_for) found)
    (understood : Reading) (is_understood : U found understood)
    (same : shelf'.says ≡ shelf.says) (shelf_grows : ShelfGrows shelf shelf') (out_grows : SinkGrows out out') where
  goes : (e : End) (put : List ℕ) → Comes shelf shelf' out out' (names asked_for) (asked asked_for understood found) e put → Keeps (asked asked_for understood found).kept e shelf shelf' → out'.bytes ≡ append_known out.bytes put → GoesBy U asked_for shelf shelf' out out' e
  goes e put comes keeps bytes =
      record { found = found; put = put; agrees = agrees; comes = inr (record { understood = understood; is = is_understood; comes = comes; keeps = keeps }); bytes = bytes; shelf_grows = shelf_grows; out_grows = out_grows }

  -- want of memory after some whole sections
  pub wants_memory : (k : ℕ) (put : List ℕ) → put ≡ joined (take k (asked asked_for understood found).sections) → out'.bytes ≡ append_known out.bytes put → GoesBy U asked_for shelf shelf' out out' OutOfMemory
  wants_memory k put front bytes =
      goes _ put (inl (k, front, same)) (stays _ shelf shelf' same) bytes

  -- P isn't understood
  pub not_accepted : (file said : List ℕ) → asked asked_for understood found ≡ refused [] (NotAccepted file said) → out'.bytes ≡ append_known out.bytes [] → GoesBy U asked_for shelf shelf' out out' (NotAccepted file said)
  not_accepted file said is bytes =
      goes _ [] ((sym (ap (λ (a : Answer). a.end) is), sym (ap (λ (a : Answer). text a) is))) same bytes

  -- a trace is none of the program, or is too large
  pub no_trace : (file : List ℕ) (why : TraceFault) → asked asked_for understood found ≡ refused [] (NoTrace file why) → out'.bytes ≡ append_known out.bytes [] → GoesBy U asked_for shelf shelf' out out' (NoTrace file why)
  no_trace file why is bytes =
      goes _ [] ((sym (ap (λ (a : Answer). a.end) is), sym (ap (λ (a : Answer). text a) is))) same bytes

  -- the fetch number k stops
  pub fetch_stops : (k : ℕ) (name : List ℕ) (most : ℕ) (f : Option (List ℕ)) (mid : ShelfState) (put : List ℕ) (e : End)
      → FetchStops mid shelf' name most f e
      → slice_get (names asked_for) k ≡ Some name
      → ShelfGrows shelf mid
      → (gets name most f ≡ Stops e → (e ≡ (asked asked_for understood found).end) × (put ≡ text (asked asked_for understood found)))
      → put ≡ joined (take (k - 1) (asked asked_for understood found).sections)
      → out'.bytes ≡ append_known out.bytes put
      → GoesBy U asked_for shelf shelf' out out' e
  fetch_stops k name most f mid put (NotHeld file) h at grows is front bytes =
      goes _ put (is h) same bytes
  fetch_stops k name most f mid put (TooLong file) h at grows is front bytes =
      goes _ put (is h) same bytes
  fetch_stops k name most f mid put (ReadFailed file) h at grows is front bytes =
      goes _ put ((rose_since _ _ _ grows.read_faults h.1, (k, at ∙ ap Some (sym h.0), front))) same bytes
  fetch_stops k name most f mid put OutOfMemory h at grows is front bytes = wants_memory (k - 1) put front bytes
  fetch_stops k name most f mid put IsDone h at grows is front bytes = absurd h
  fetch_stops k name most f mid put BadWords h at grows is front bytes = absurd h
  fetch_stops k name most f mid put (NotAccepted file said) h at grows is front bytes = absurd h
  fetch_stops k name most f mid put WriteFailed h at grows is front bytes = absurd h
  fetch_stops k name most f mid put (NoTrace file why) h at grows is front bytes = absurd h
  fetch_stops k name most f mid put (KeepFailed file) h at grows is front bytes = absurd h
  fetch_stops k name most f mid put (NotWatched file) h at grows is front bytes = absurd h

  -- a put stops, after the text `before` and a front of its piece
  pub put_stops : (mid : SinkState) (before front : List ℕ) (e : End)
      → PutStops mid out' e
      → IsFront (before ++ front) (text (asked asked_for understood found))
      → mid.bytes ≡ append_known out.bytes before → out'.bytes ≡ append_known mid.bytes front
      → SinkGrows out mid
      → GoesBy U asked_for shelf shelf' out out' e
  put_stops mid before front WriteFailed h is_front first second grows =
      goes _ (before ++ front) ((rose_since _ _ _ grows.faults h, is_front)) same (rw second (rw first (known_twice out.bytes before front)))
  put_stops mid before front OutOfMemory h is_front first second grows =
      goes _ (before ++ front) (inr (inr (rose_since _ _ _ grows.wants h, is_front, same))) (stays _ shelf shelf' same) (rw second (rw first (known_twice out.bytes before front)))
  put_stops mid before front IsDone h is_front first second grows = absurd h
  put_stops mid before front BadWords h is_front first second grows = absurd h
  put_stops mid before front (NotAccepted file said) h is_front first second grows = absurd h
  put_stops mid before front (NotHeld file) h is_front first second grows = absurd h
  put_stops mid before front (TooLong file) h is_front first second grows = absurd h
  put_stops mid before front (ReadFailed file) h is_front first second grows = absurd h
  put_stops mid before front (NoTrace file why) h is_front first second grows = absurd h
  put_stops mid before front (KeepFailed file) h is_front first second grows = absurd h
  put_stops mid before front (NotWatched file) h is_front first second grows = absurd h

  -- a put in the midst of the text
  pub put_breaks : (mid : SinkState) (before piece after : List ℕ) (stop : Stop)
      → Puts mid out' piece (Err stop)
      → text (asked asked_for understood found) ≡ before ++ (piece ++ after)
      → mid.bytes ≡ append_known out.bytes before
      → SinkGrows out mid
      → GoesBy U asked_for shelf shelf' out out' (end_of stop)
  put_breaks mid before piece after stop h whole first grows =
      put_stops mid before h.gives.0.0 (end_of stop) h.gives.1 (front_of before piece after _ _ h.gives.0.1 whole) first h.gives.0.2 grows

  -- a put, as the last step
  pub put_ends : (mid : SinkState) (before piece : List ℕ) (r : Result (Unit {0}) Stop)
      → Puts mid out' piece r
      → (asked asked_for understood found).end ≡ IsDone → (asked asked_for understood found).kept ≡ None → text (asked asked_for understood found) ≡ before ++ piece
      → mid.bytes ≡ append_known out.bytes before
      → SinkGrows out mid
      → GoesBy U asked_for shelf shelf' out out' (ended r)
  put_ends mid before piece (Ok x) h done kept whole first grows =
      goes _ (before ++ piece) ((sym done, sym whole)) (rw kept (same, tt)) (rw h.gives (rw first (known_twice out.bytes before piece)))
  put_ends mid before piece (Err stop) h done kept whole first grows =
      put_breaks mid before piece [] stop h (whole ∙ ap (λ xs. before ++ xs) (sym (append-nil piece))) first grows

-- the program's own fetch stops
module _ (U : List (Option (List ℕ)) → Reading → Type 0) (asked_for : Option Command) (shelf shelf' : ShelfState) (out : SinkState) (f : Option (List ℕ)) (others : List (Option (List ℕ))) (agrees : AllAgree shelf.says (names asked_for) (f ∷ others)) (same : shelf'.says ≡ shelf.says) (grows : ShelfGrows shelf shelf') where
  breaks : (e : End) → Breaks shelf shelf' (names asked_for) e [] → GoesBy U asked_for shelf shelf' out out e
  breaks e h = record { found = f ∷ others; put = []; agrees = agrees; comes = inl h; bytes = known_nothing _; shelf_grows = grows; out_grows = sink_stays _ }

  -- memory was wanted before the program was understood
  pub wants_at_once : GoesBy U asked_for shelf shelf' out out OutOfMemory
  wants_at_once = breaks OutOfMemory (refl, same)

  stops_at : (e : End) → U (f ∷ others) (Refuses []) → asked asked_for (Refuses []) (f ∷ others) ≡ refused [] e → Comes shelf shelf' out out (names asked_for) (refused [] e) e [] → Keeps None e shelf shelf' → GoesBy U asked_for shelf shelf' out out e
  stops_at e u is comes keeps =
      record { found = f ∷ others; put = []; agrees = agrees; comes = inr (record { understood = Refuses []; is = u; comes = rw is comes; keeps = rw is keeps }); bytes = known_nothing _; shelf_grows = grows; out_grows = sink_stays _ }

  pub program_stops : (name : List ℕ) (most : ℕ) (e : End)
      → FetchStops shelf shelf' name most f e
      → slice_get (names asked_for) 0 ≡ Some name
      → (gets name most f ≡ Stops e → U (f ∷ others) (Refuses []) × (asked asked_for (Refuses []) (f ∷ others) ≡ refused [] e))
      → GoesBy U asked_for shelf shelf' out out e
  program_stops name most (NotHeld file) h at is = stops_at _ (is h).0 (is h).1 (refl, refl) same
  program_stops name most (TooLong file) h at is = stops_at _ (is h).0 (is h).1 (refl, refl) same
  program_stops name most (ReadFailed file) h at is = breaks _ (h.1, at ∙ ap Some (sym h.0), refl, same)
  program_stops name most OutOfMemory h at is = wants_at_once
  program_stops name most IsDone h at is = absurd h
  program_stops name most BadWords h at is = absurd h
  program_stops name most (NotAccepted file said) h at is = absurd h
  program_stops name most WriteFailed h at is = absurd h
  program_stops name most (NoTrace file why) h at is = absurd h
  program_stops name most (KeepFailed file) h at is = absurd h
  program_stops name most (NotWatched file) h at is = absurd h

-- what is put and kept where nothing stops the call
abbrev pub kept_answer : List ℕ → List ℕ → List ℕ → Answer
kept_answer name bytes rest = record { end = IsDone; sections = []; rest = rest; kept = Some (name, bytes) }

-- a keep, as the last step
module _ (U : List (Option (List ℕ)) → Reading → Type 0) (asked_for : Option Command) (shelf mid shelf' : ShelfState) (out out' : SinkState) (found : List (Option (List ℕ))) (agrees : AllAgree shelf.says (names asked_for) found)
    (understood : Reading) (is_understood : U found understood) (same : mid.says ≡ shelf.says) (mid_grows : ShelfGrows shelf mid) (out_grows : SinkGrows out out')
    (name bytes rest : List ℕ) (is : asked asked_for understood found ≡ kept_answer name bytes rest) (put : out'.bytes ≡ append_known out.bytes rest) where
  others_stay : ((other : List ℕ) → other ≢ name → shelf'.says other ≡ mid.says other) → StaysBut (Some (name, bytes)) shelf shelf'
  others_stay h other ne = h other ne ∙ ap (λ (says : List ℕ → Said). says other) same

  ends : (e : End) → ShelfGrows mid shelf' → Comes shelf shelf' out out' (names asked_for) (kept_answer name bytes rest) e rest → Keeps (Some (name, bytes)) e shelf shelf' → GoesBy U asked_for shelf shelf' out out' e
  ends e grows comes keeps = record {
    found = found;
    put = rest;
    agrees = agrees;
    comes = inr (record { understood = understood; is = is_understood; comes = rw is comes; keeps = rw is keeps });
    bytes = put;
    shelf_grows = shelf_goes_on _ _ _ mid_grows grows;
    out_grows = out_grows;
  }

  keep_stops : (e : End) → KeepStops mid shelf' name e → ((other : List ℕ) → other ≢ name → shelf'.says other ≡ mid.says other) → ShelfGrows mid shelf' → GoesBy U asked_for shelf shelf' out out' e
  keep_stops (KeepFailed file) h others grows = ends _ grows (rose_since _ _ _ mid_grows.keep_faults h.1, (bytes, ap (λ (f : List ℕ). Some (f, bytes)) (sym h.0)), refl) (others_stay others)
  keep_stops OutOfMemory h others grows = ends _ grows (inr (inl (refl, refl))) (others_stay others)
  keep_stops IsDone h others grows = absurd h
  keep_stops BadWords h others grows = absurd h
  keep_stops (NotAccepted file said) h others grows = absurd h
  keep_stops (NotHeld file) h others grows = absurd h
  keep_stops (TooLong file) h others grows = absurd h
  keep_stops (NoTrace file why) h others grows = absurd h
  keep_stops (ReadFailed file) h others grows = absurd h
  keep_stops WriteFailed h others grows = absurd h
  keep_stops (NotWatched name) h others grows = absurd h

  pub keep_ends : (r : Result (Unit {0}) Stop) → KeepsAs mid shelf' name bytes r → GoesBy U asked_for shelf shelf' out out' (ended r)
  keep_ends (Ok x) h = ends IsDone h.grows (refl, refl) (others_stay h.others, λ tells. h.gives (mid_grows.tells ∙ tells))
  keep_ends (Err stop) h = keep_stops (end_of stop) h.gives h.others h.grows

-- what is understood in one way may be understood in another
pub goes_as : (U V : List (Option (List ℕ)) → Reading → Type 0) (asked_for : Option Command) (shelf shelf' : ShelfState) (out out' : SinkState) (end : End) → ((found : List (Option (List ℕ))) (u : Reading) → U found u → V found u)
    → GoesBy U asked_for shelf shelf' out out' end → GoesBy V asked_for shelf shelf' out out' end
goes_as U V asked_for shelf shelf' out out' end f g =
    record { found = g.found; put = g.put; agrees = g.agrees; comes = by g.comes; bytes = g.bytes; shelf_grows = g.shelf_grows; out_grows = g.out_grows }
  where
    by : Breaks shelf shelf' (names asked_for) end g.put ⊎ AnswersBy U asked_for shelf shelf' out out' g.found end g.put → Breaks shelf shelf' (names asked_for) end g.put ⊎ AnswersBy V asked_for shelf shelf' out out' g.found end g.put
    by (inl b) = inl b
    by (inr a) = inr (record { understood = a.understood; is = f g.found a.understood a.is; comes = a.comes; keeps = a.keeps })
