-- Traces that are merged, as the command's answer has them.
use Rattle.std.proofs.Common.{◌≡◌, refl, ap, sym, ◌∙◌, subst, Bool, true, false, cond, List, [], ◌∷◌, ◌++◌, map, ℕ, ◌-◌, ◌≤◌, ◌<◌, length, Option, None, Some, append-nil}
use Rattle.std.specs.Prelude.{Result, Ok, Err}
use Rattle.std.specs.Io.KnownBytes.{append_known}
use Rattle.atac_base.specs.Outside.{ShelfState, SinkState, Agrees}
use Rattle.trace_file.specs.Layout.{bytes_of}
use Rattle.trace_file.specs.Reading.{Accepts}
use Rattle.trace_file.specs.declared.trace.Trace.{Trace}
use Rattle.atac_words.specs.Words.{Merge}
use Rattle.atac_steps.specs.Ends.{End, IsDone, BadWords, NotAccepted, NotHeld, TooLong, NoTrace, ReadFailed, WriteFailed, KeepFailed, NotWatched, OutOfMemory}
use Rattle.atac_steps.specs.declared.stop.TraceFault.{TraceFault}
use Rattle.atac_steps.specs.declared.stop.TraceFault.TheVariants.{NotATrace, Version, Length, Order, Damaged, OtherProgram, TooMuch}
use Rattle.atac_steps.specs.Got.{gets, Gets}
use Rattle.atac_steps.specs.Grows.{ShelfGrows}
use Rattle.atac_steps.specs.Steps.{FetchStops, Puts, KeepsAs}
use Rattle.atac_steps.specs.Stops.{end_of, ended}
use Rattle.atac_steps.specs.declared.stop.Stop.{Stop}
use Rattle.atac_steps.proofs.Growing.{sink_stays, shelf_stays}
use Rattle.atac_traces.specs.Files.{Read, Has, Bad, IsFaulty, AnyStops, trace_most}
use Rattle.atac_traces.specs.Keeping.{SpellStops}
use Rattle.atac_traces.specs.Joins.{Came, StopsAt}
use Rattle.atac_traces.proofs.One.{not_other}
use Rattle.atac_commands.specs.Readings.{Merges, runs_text}
use Rattle.atac_commands.specs.Answers.{Answer, text, joined, given, next_read, joining, keeping, refused, asked}
use Rattle.atac_commands.specs.Runs.{AreRead, IsReadIn, AreMerged, IsOwn, Goes}
use Rattle.atac_commands.proofs.Course.{guesses, guesses_agree}
use Rattle.atac_commands.proofs.Exits.{wants_memory, fetch_stops, no_trace, put_breaks, keep_ends, kept_answer, known_nothing}
use Rattle.atac_commands.proofs.Joined.{Joined, all_joined, join_stops, joining_sections, take_none}
use Rattle.atac_commands.proofs.Sums.{sum_behind, keeping_small, keeping_large}

keeping_plain : (name : List ℕ) (sum : Option Trace) → (keeping name sum runs_text).sections ≡ []
keeping_plain name None = refl
keeping_plain name (Some t) = plain_cond _
  where
    plain_cond : (b : Bool) → (cond b (kept_answer name (bytes_of t) (runs_text t)) (refused [] (NoTrace name TooMuch))).sections ≡ []
    plain_cond true = refl
    plain_cond false = refl

-- the first trace stops it
module _ (o first : List ℕ) (rest : List (List ℕ)) (shelf shelf' : ShelfState) (out : SinkState) (f : Option (List ℕ)) (agrees : Agrees (shelf.says first) f) (same : shelf'.says ≡ shelf.says) (grows : ShelfGrows shelf shelf') where
  no_reads : AreMerged (first ∷ rest) (f ∷ guesses shelf.says rest) [] None
  no_reads = record { program = []; are = tt; first = tt; sums = tt }

  first_fetch : (e : End) → FetchStops shelf shelf' first trace_most f e → Goes (Some (Merge o (first ∷ rest))) shelf shelf' out out e
  first_fetch e k =
      fetch_stops _ (Some (Merge o (first ∷ rest))) shelf shelf' out out (f ∷ guesses shelf.says rest) (agrees, guesses_agree shelf.says rest) (Merges [] None) no_reads same grows (sink_stays out)
      0 first trace_most f shelf [] e k refl (shelf_stays shelf)
      (λ stops.
      let stopped : asked (Some (Merge o (first ∷ rest))) (Merges [] None) (f ∷ guesses shelf.says rest) ≡ refused [] e = ap (λ got. given [] got (λ bytes. next_read first [] (λ t reads. joining rest (guesses shelf.says rest) reads (t ∷ []) (λ all. keeping o None runs_text)))) stops in
      (sym (ap (λ (a : Answer). a.end) stopped), sym (ap (λ (a : Answer). text a) stopped)))
      (sym (ap joined (take_none (0 - 1) _ (joining_sections (first ∷ rest) (f ∷ guesses shelf.says rest) [] [] (λ all. keeping o None runs_text) (λ ts. refl)))))
      (known_nothing _)

  own : (bytes : List ℕ) (why : TraceFault) → ((digest : List ℕ) → IsFaulty digest bytes why) → (digest : List ℕ) × IsFaulty digest bytes why × IsOwn (Bad why ∷ [])
  own bytes NotATrace h = ([], h [], tt)
  own bytes Version h = ([], h [], tt)
  own bytes Length h = ([], h [], tt)
  own bytes Order h = ([], h [], tt)
  own bytes Damaged h = ([], h [], tt)
  own bytes OtherProgram h = absurd (not_other bytes h [])
  own bytes TooMuch h = absurd (h [])

  first_bad : (why : TraceFault) → ((bytes : List ℕ) × (gets first trace_most f ≡ Gets bytes) × ((digest : List ℕ) → IsFaulty digest bytes why)) → Goes (Some (Merge o (first ∷ rest))) shelf shelf' out out (NoTrace first why)
  first_bad why k =
      let w = own k.0 why k.2 in
      no_trace _ (Some (Merge o (first ∷ rest))) shelf shelf' out out (f ∷ guesses shelf.says rest) (agrees, guesses_agree shelf.says rest) (Merges (Bad why ∷ []) None)
      (record { program = w.0; are = (subst (λ got. IsReadIn w.0 got (Bad why)) (sym k.1) w.1, tt); first = w.2; sums = tt }) same grows (sink_stays out) first why
      (ap (λ got. given [] got (λ bytes. next_read first (Bad why ∷ []) (λ t reads. joining rest (guesses shelf.says rest) reads (t ∷ []) (λ all. keeping o None runs_text)))) k.1)
      (known_nothing _)

  pub first_stops : (e : End) → AnyStops shelf shelf' first f e → Goes (Some (Merge o (first ∷ rest))) shelf shelf' out out e
  first_stops (NoTrace file why) k = subst (λ x. Goes (Some (Merge o (first ∷ rest))) shelf shelf' out out (NoTrace x why)) (sym k.0) (first_bad why k.1)
  first_stops (NotHeld file) k = first_fetch (NotHeld file) k
  first_stops (TooLong file) k = first_fetch (TooLong file) k
  first_stops (ReadFailed file) k = first_fetch (ReadFailed file) k
  first_stops OutOfMemory k = first_fetch OutOfMemory k
  first_stops IsDone k = absurd k
  first_stops BadWords k = absurd k
  first_stops (NotAccepted file said) k = absurd k
  first_stops WriteFailed k = absurd k
  first_stops (KeepFailed file) k = absurd k
  first_stops (NotWatched file) k = absurd k

-- the others, behind the first one
module _ (o first : List ℕ) (rest : List (List ℕ)) (shelf mid shelf' : ShelfState) (out : SinkState) (f : Option (List ℕ)) (agrees : Agrees (shelf.says first) f) (bytes : List ℕ) (t : Trace) (gives : gets first trace_most f ≡ Gets bytes) (accepts : Accepts bytes t)
    (same : mid.says ≡ shelf.says) (grows : ShelfGrows shelf mid) where
  abbrev go : Option Trace → List Trace → Answer
  go sum all = keeping o sum runs_text

  merged : (more : List (Option (List ℕ))) (reads : List Read) → AreRead t.digest rest more reads → AreMerged (first ∷ rest) (f ∷ more) (Has t ∷ reads) None
  merged more reads k = record { program = t.digest; are = (subst (λ got. IsReadIn t.digest got (Has t)) (sym gives) (accepts, refl), k); first = tt; sums = tt }

  behind : (sum : Option Trace) (more : List (Option (List ℕ))) (reads : List Read) → asked (Some (Merge o (first ∷ rest))) (Merges (Has t ∷ reads) sum) (f ∷ more) ≡ joining rest more reads (t ∷ []) (go sum)
  behind sum more reads = ap (λ got. given [] got (λ b. next_read first (Has t ∷ reads) (λ u left. joining rest more left (u ∷ []) (go sum)))) gives

  pub rest_stops : (e : End) → StopsAt mid shelf' t rest e → Goes (Some (Merge o (first ∷ rest))) shelf shelf' out out e
  rest_stops e h =
      join_stops (Some (Merge o (first ∷ rest))) shelf mid shelf' out (first ∷ []) (f ∷ []) rest t.digest (λ reads. Merges (Has t ∷ reads) None) (t ∷ []) (go None) refl (λ more k. (agrees, k))
      merged (behind None) (λ ts. keeping_plain o None) same grows t refl e h

  module _ (sum : Trace) (h : Came mid shelf' t rest [] sum) where
    joined_so : Joined (Some (Merge o (first ∷ rest))) shelf mid shelf' out (first ∷ []) (f ∷ []) rest t.digest (λ reads. Merges (Has t ∷ reads) None) (t ∷ []) (go None) refl (λ more k. (agrees, k))
        merged (behind None) (λ ts. keeping_plain o None) same grows h.traces
    joined_so =
        all_joined (Some (Merge o (first ∷ rest))) shelf mid shelf' out (first ∷ []) (f ∷ []) rest t.digest (λ reads. Merges (Has t ∷ reads) None) (t ∷ []) (go None) refl (λ more k. (agrees, k))
        merged (behind None) (λ ts. keeping_plain o None) same grows t sum refl h

    pub rest_wants : Goes (Some (Merge o (first ∷ rest))) shelf shelf' out out OutOfMemory
    rest_wants =
        let j = joined_so in
        wants_memory _ (Some (Merge o (first ∷ rest))) shelf shelf' out out ((f ∷ []) ++ j.more) j.agree (Merges (Has t ∷ map Has h.traces) None) j.understood j.says j.shelf_grows (sink_stays out) 0 [] refl (known_nothing _)

    -- with the sum
    abbrev found : List (Option (List ℕ))
    found = f ∷ joined_so.more

    summed : AreMerged (first ∷ rest) found (Has t ∷ map Has h.traces) (Some sum)
    summed =
        let j = joined_so in
        record {
          program = t.digest;
          are = (subst (λ got. IsReadIn t.digest got (Has t)) (sym gives) (accepts, refl), j.are);
          first = tt;
          sums = (t ∷ h.traces, refl, sum_behind bytes t sum h.traces accepts h.adds);
        }

    answer : asked (Some (Merge o (first ∷ rest))) (Merges (Has t ∷ map Has h.traces) (Some sum)) found ≡ keeping o (Some sum) runs_text
    answer = behind (Some sum) joined_so.more (map Has h.traces) ∙ joined_so.joined (go (Some sum))

    pub rest_large : trace_most < length (bytes_of sum) → Goes (Some (Merge o (first ∷ rest))) shelf shelf' out out (NoTrace o TooMuch)
    rest_large large =
        let j = joined_so in
        no_trace _ (Some (Merge o (first ∷ rest))) shelf shelf' out out found j.agree (Merges (Has t ∷ map Has h.traces) (Some sum)) summed j.says j.shelf_grows (sink_stays out) o TooMuch
        (answer ∙ keeping_large o sum runs_text large) (known_nothing _)

    large_of : (file : List ℕ) (why : TraceFault) → SpellStops o sum (NoTrace file why) → Goes (Some (Merge o (first ∷ rest))) shelf shelf' out out (NoTrace file why)
    large_of file TooMuch k = subst (λ x. Goes (Some (Merge o (first ∷ rest))) shelf shelf' out out (NoTrace x TooMuch)) (sym k.0) (rest_large k.1)
    large_of file NotATrace k = absurd k
    large_of file Version k = absurd k
    large_of file Length k = absurd k
    large_of file Order k = absurd k
    large_of file Damaged k = absurd k
    large_of file OtherProgram k = absurd k

    -- its bytes are not made
    pub spell_stops : (e : End) → SpellStops o sum e → Goes (Some (Merge o (first ∷ rest))) shelf shelf' out out e
    spell_stops (NoTrace file why) k = large_of file why k
    spell_stops OutOfMemory k = rest_wants
    spell_stops IsDone k = absurd k
    spell_stops BadWords k = absurd k
    spell_stops (NotAccepted file said) k = absurd k
    spell_stops (NotHeld file) k = absurd k
    spell_stops (TooLong file) k = absurd k
    spell_stops (ReadFailed file) k = absurd k
    spell_stops WriteFailed k = absurd k
    spell_stops (KeepFailed file) k = absurd k
    spell_stops (NotWatched file) k = absurd k

    module _ (small : length (bytes_of sum) ≤ trace_most) (out' : SinkState) (piece : List ℕ) (whole : piece ≡ runs_text sum) where
      pub rest_breaks : (stop : Stop) → Puts out out' piece (Err stop) → Goes (Some (Merge o (first ∷ rest))) shelf shelf' out out' (end_of stop)
      rest_breaks stop puts =
          let j = joined_so in
          put_breaks _ (Some (Merge o (first ∷ rest))) shelf shelf' out out' found j.agree (Merges (Has t ∷ map Has h.traces) (Some sum)) summed j.says j.shelf_grows puts.grows out [] piece [] stop puts
          (ap (λ (a : Answer). text a) (answer ∙ keeping_small o sum runs_text small) ∙ sym (append-nil piece ∙ whole)) (known_nothing _) (sink_stays out)

      pub rest_ends : (last : ShelfState) (spelled : List ℕ) (r : Result (Unit {0}) Stop) → Puts out out' piece (Ok tt) → spelled ≡ bytes_of sum → KeepsAs shelf' last o spelled r → Goes (Some (Merge o (first ∷ rest))) shelf last out out' (ended r)
      rest_ends last spelled r puts same_bytes keeps =
          let j = joined_so in
          keep_ends _ (Some (Merge o (first ∷ rest))) shelf shelf' last out out' found j.agree (Merges (Has t ∷ map Has h.traces) (Some sum)) summed j.says j.shelf_grows puts.grows
          o (bytes_of sum) (runs_text sum) (answer ∙ keeping_small o sum runs_text small) (puts.gives ∙ ap (append_known out.bytes) whole) r (subst (λ b. KeepsAs shelf' last o b r) same_bytes keeps)
