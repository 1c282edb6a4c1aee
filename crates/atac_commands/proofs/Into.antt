-- A run into a trace, as the command's answer has it.
use Rattle.std.proofs.Common.{◌≡◌, refl, ap, sym, ◌∙◌, subst, List, [], ◌∷◌, ℕ, ◌≤◌, ◌<◌, length, Option, None, Some, append-nil}
use Rattle.std.specs.Prelude.{Result, Ok, Err}
use Rattle.std.specs.Io.KnownBytes.{append_known}
use Rattle.atac_base.specs.Outside.{ShelfState, SinkState, Agrees}
use Rattle.c_meaning.specs.Calls.{Source}
use Rattle.trace_file.specs.Layout.{bytes_of}
use Rattle.trace_file.specs.declared.trace.Trace.{Trace}
use Rattle.atac_words.specs.Words.{RunInto}
use Rattle.atac_steps.specs.Ends.{End, IsDone, BadWords, NotAccepted, NotHeld, TooLong, NoTrace, ReadFailed, WriteFailed, KeepFailed, NotWatched, OutOfMemory}
use Rattle.atac_steps.specs.declared.stop.TraceFault.{TraceFault}
use Rattle.atac_steps.specs.declared.stop.TraceFault.TheVariants.{NotATrace, Version, Length, Order, Damaged, OtherProgram, TooMuch}
use Rattle.atac_steps.specs.Got.{Got, gets, Gets, Stops}
use Rattle.atac_steps.specs.Grows.{ShelfGrows}
use Rattle.atac_steps.specs.Steps.{FetchStops, Puts, KeepsAs}
use Rattle.atac_steps.specs.Stops.{end_of, ended}
use Rattle.atac_steps.specs.declared.stop.Stop.{Stop}
use Rattle.atac_steps.proofs.Growing.{sink_stays, shelf_goes_on}
use Rattle.atac_traces.specs.Files.{Read, Has, Bad, IsFaulty, OldStops, OldGives, trace_most}
use Rattle.atac_traces.specs.Keeping.{SpellStops}
use Rattle.atac_commands.specs.Readings.{begun, Records, IsRunMore}
use Rattle.atac_programs.specs.Programs.{IsRecorded, section, met_by}
use Rattle.atac_commands.specs.Answers.{Answer, asked, text, joined, refused, keeping, old_given, input_most}
use Rattle.atac_commands.specs.Runs.{OldIs, IsRunInto, Goes}
use Rattle.atac_commands.proofs.Asked.{into_understands, into_stops, into_goes}
use Rattle.atac_commands.proofs.Exits.{wants_memory, fetch_stops, no_trace, put_breaks, keep_ends, known_nothing}
use Rattle.atac_commands.proofs.Joined.{take_none}
use Rattle.atac_commands.proofs.Sums.{keeping_small, keeping_large}

no_runs_of : List ℕ → Trace
no_runs_of digest = record { digest = digest; runs = 0; old_runs = 0; tally = [] }

-- where nothing is known of the old trace
unread : (digest : List ℕ) (got : Got) → OldIs digest got None (record { digest = digest; runs = 0; old_runs = 0; tally = [] })
unread digest (Gets bytes) = tt
unread digest (Stops e) = refl

module _ (n : ℕ) (p i t : List ℕ) (s : List ℕ) (shelf mid shelf' : ShelfState) (out : SinkState) (fp : Option (List ℕ)) (agrees : Agrees (shelf.says p) fp) (gives : gets p 67108864 fp ≡ Gets s)
    (P : Source) (is : IsRecorded s P) (same : mid.says ≡ shelf.says) (grows : ShelfGrows shelf mid) (says : shelf'.says ≡ mid.says) (more : ShelfGrows mid shelf') where
  -- nothing is known of the traces
  nothing : (fi ft : Option (List ℕ)) → IsRunInto n P (gets i input_most fi) (gets t trace_most ft) None None
  nothing fi ft = record { digest = is.digest; line = is.line; old = record { digest = is.digest; runs = 0; old_runs = 0; tally = [] }; is = unread is.digest (gets t trace_most ft); more = tt }

  -- the input stops it
  pub input_stops : (fi ft : Option (List ℕ)) → Agrees (shelf.says i) fi → Agrees (shelf.says t) ft → (e : End) → FetchStops mid shelf' i input_most fi e → Goes (Some (RunInto n p i t)) shelf shelf' out out e
  input_stops fi ft ai at e k =
      fetch_stops _ (Some (RunInto n p i t)) shelf shelf' out out (fp ∷ fi ∷ ft ∷ []) (agrees, (ai, (at, tt))) (Records P None None) (into_understands n p i t fp fi ft s gives P None None is (nothing fi ft)) (says ∙ same) (shelf_goes_on _ _ _ grows more) (sink_stays out)
      1 i input_most fi mid [] e k refl grows
      (λ stops. let stopped = into_stops n p i t fp fi ft s gives P None None e stops in (sym (ap (λ (a : Answer). a.end) stopped), sym (ap (λ (a : Answer). text a) stopped)))
      refl (known_nothing _)

module _ (n : ℕ) (p i t : List ℕ) (s b : List ℕ) (shelf mid shelf' : ShelfState) (out : SinkState) (fp fi : Option (List ℕ)) (agrees : Agrees (shelf.says p) fp) (gives : gets p 67108864 fp ≡ Gets s) (ai : Agrees (shelf.says i) fi) (input : gets i input_most fi ≡ Gets b)
    (P : Source) (is : IsRecorded s P) (same : mid.says ≡ shelf.says) (grows : ShelfGrows shelf mid) (says : shelf'.says ≡ mid.says) (more : ShelfGrows mid shelf') (ft : Option (List ℕ)) (at : Agrees (shelf.says t) ft) where
  nothing_more : IsRunInto n P (gets i input_most fi) (gets t trace_most ft) None None
  nothing_more = record { digest = is.digest; line = is.line; old = record { digest = is.digest; runs = 0; old_runs = 0; tally = [] }; is = unread is.digest (gets t trace_most ft); more = tt }

  trace_fetch : (e : End) → ((file : List ℕ) → e ≡ NotHeld file → ⊥) → FetchStops mid shelf' t trace_most ft e → Goes (Some (RunInto n p i t)) shelf shelf' out out e
  trace_fetch e held k =
      fetch_stops _ (Some (RunInto n p i t)) shelf shelf' out out (fp ∷ fi ∷ ft ∷ []) (agrees, (ai, (at, tt))) (Records P None None) (into_understands n p i t fp fi ft s gives P None None is nothing_more) (says ∙ same) (shelf_goes_on _ _ _ grows more) (sink_stays out)
      2 t trace_most ft mid [] e k refl grows
      (λ stops. let stopped = into_goes n p i t fp fi ft s gives P None None b input ∙ ap (λ got. old_given t got None (keeping t None (λ x. section i P b n))) stops ∙ given_stops e held in (sym (ap (λ (a : Answer). a.end) stopped), sym (ap (λ (a : Answer). text a) stopped)))
      (sym (ap joined (take_none 1 _ (ap (λ (a : Answer). a.sections) (into_goes n p i t fp fi ft s gives P None None b input) ∙ old_plain (gets t trace_most ft)))))
      (known_nothing _)
    where
      given_stops : (e : End) → ((file : List ℕ) → e ≡ NotHeld file → ⊥) → old_given t (Stops e) None (keeping t None (λ x. section i P b n)) ≡ refused [] e
      given_stops (NotHeld file) held = absurd (held file refl)
      given_stops IsDone held = refl
      given_stops BadWords held = refl
      given_stops (NotAccepted file said) held = refl
      given_stops (TooLong file) held = refl
      given_stops (NoTrace file why) held = refl
      given_stops (ReadFailed file) held = refl
      given_stops WriteFailed held = refl
      given_stops (KeepFailed file) held = refl
      given_stops (NotWatched file) held = refl
      given_stops OutOfMemory held = refl

      old_plain : (got : Got) → (old_given t got None (keeping t None (λ x. section i P b n))).sections ≡ []
      old_plain (Gets bytes) = refl
      old_plain (Stops (NotHeld file)) = refl
      old_plain (Stops IsDone) = refl
      old_plain (Stops BadWords) = refl
      old_plain (Stops (NotAccepted file said)) = refl
      old_plain (Stops (TooLong file)) = refl
      old_plain (Stops (NoTrace file why)) = refl
      old_plain (Stops (ReadFailed file)) = refl
      old_plain (Stops WriteFailed) = refl
      old_plain (Stops (KeepFailed file)) = refl
      old_plain (Stops (NotWatched file)) = refl
      old_plain (Stops OutOfMemory) = refl

  trace_bad : (why : TraceFault) → ((bytes : List ℕ) × (gets t trace_most ft ≡ Gets bytes) × IsFaulty is.digest bytes why) → Goes (Some (RunInto n p i t)) shelf shelf' out out (NoTrace t why)
  trace_bad why k =
      no_trace _ (Some (RunInto n p i t)) shelf shelf' out out (fp ∷ fi ∷ ft ∷ []) (agrees, (ai, (at, tt))) (Records P (Some (Bad why)) None)
      (into_understands n p i t fp fi ft s gives P (Some (Bad why)) None is (record { digest = is.digest; line = is.line; old = record { digest = is.digest; runs = 0; old_runs = 0; tally = [] }; is = subst (λ got. OldIs is.digest got (Some (Bad why)) (record { digest = is.digest; runs = 0; old_runs = 0; tally = [] })) (sym k.1) k.2; more = tt }))
      (says ∙ same) (shelf_goes_on _ _ _ grows more) (sink_stays out) t why
      (into_goes n p i t fp fi ft s gives P (Some (Bad why)) None b input ∙ ap (λ got. old_given t got (Some (Bad why)) (keeping t None (λ x. section i P b n))) k.1)
      (known_nothing _)

  -- the old trace stops it
  pub trace_stops : (e : End) → OldStops mid shelf' is.digest t ft e → Goes (Some (RunInto n p i t)) shelf shelf' out out e
  trace_stops (NoTrace file why) k = subst (λ x. Goes (Some (RunInto n p i t)) shelf shelf' out out (NoTrace x why)) (sym k.0) (trace_bad why k.1)
  trace_stops (NotHeld file) k = absurd k
  trace_stops (TooLong file) k = trace_fetch (TooLong file) (λ f e. cc) k
  trace_stops (ReadFailed file) k = trace_fetch (ReadFailed file) (λ f e. cc) k
  trace_stops OutOfMemory k = trace_fetch OutOfMemory (λ f e. cc) k
  trace_stops IsDone k = absurd k
  trace_stops BadWords k = absurd k
  trace_stops (NotAccepted file said) k = absurd k
  trace_stops WriteFailed k = absurd k
  trace_stops (KeepFailed file) k = absurd k
  trace_stops (NotWatched file) k = absurd k

  pub into_wants : Goes (Some (RunInto n p i t)) shelf shelf' out out OutOfMemory
  into_wants =
      wants_memory _ (Some (RunInto n p i t)) shelf shelf' out out (fp ∷ fi ∷ ft ∷ []) (agrees, (ai, (at, tt))) (Records P None None) (into_understands n p i t fp fi ft s gives P None None is nothing_more) (says ∙ same) (shelf_goes_on _ _ _ grows more) (sink_stays out) 0 [] refl (known_nothing _)

  -- with the new trace
  module _ (read : Option Read) (old new : Trace) (old_is : OldIs is.digest (gets t trace_most ft) read old) (goes : (k : Answer) → old_given t (gets t trace_most ft) read k ≡ k) (run : IsRunMore old new (met_by P n b)) where
    understood : IsRunInto n P (gets i input_most fi) (gets t trace_most ft) read (Some new)
    understood = record { digest = is.digest; line = is.line; old = old; is = old_is; more = (b, input, run) }

    answer : asked (Some (RunInto n p i t)) (Records P read (Some new)) (fp ∷ fi ∷ ft ∷ []) ≡ keeping t (Some new) (λ x. section i P b n)
    answer = into_goes n p i t fp fi ft s gives P read (Some new) b input ∙ goes (keeping t (Some new) (λ x. section i P b n))

    pub into_large : trace_most < length (bytes_of new) → Goes (Some (RunInto n p i t)) shelf shelf' out out (NoTrace t TooMuch)
    into_large large =
        no_trace _ (Some (RunInto n p i t)) shelf shelf' out out (fp ∷ fi ∷ ft ∷ []) (agrees, (ai, (at, tt))) (Records P read (Some new)) (into_understands n p i t fp fi ft s gives P read (Some new) is understood) (says ∙ same) (shelf_goes_on _ _ _ grows more) (sink_stays out) t TooMuch
        (answer ∙ keeping_large t new (λ x. section i P b n) large) (known_nothing _)

    large_of : (file : List ℕ) (why : TraceFault) → SpellStops t new (NoTrace file why) → Goes (Some (RunInto n p i t)) shelf shelf' out out (NoTrace file why)
    large_of file TooMuch k = subst (λ x. Goes (Some (RunInto n p i t)) shelf shelf' out out (NoTrace x TooMuch)) (sym k.0) (into_large k.1)
    large_of file NotATrace k = absurd k
    large_of file Version k = absurd k
    large_of file Length k = absurd k
    large_of file Order k = absurd k
    large_of file Damaged k = absurd k
    large_of file OtherProgram k = absurd k

    -- its bytes are not made
    pub spell_stops : (e : End) → SpellStops t new e → Goes (Some (RunInto n p i t)) shelf shelf' out out e
    spell_stops (NoTrace file why) k = large_of file why k
    spell_stops OutOfMemory k = into_wants
    spell_stops IsDone k = absurd k
    spell_stops BadWords k = absurd k
    spell_stops (NotAccepted file said) k = absurd k
    spell_stops (NotHeld file) k = absurd k
    spell_stops (TooLong file) k = absurd k
    spell_stops (ReadFailed file) k = absurd k
    spell_stops WriteFailed k = absurd k
    spell_stops (KeepFailed file) k = absurd k
    spell_stops (NotWatched file) k = absurd k

    module _ (small : length (bytes_of new) ≤ trace_most) (out' : SinkState) (piece : List ℕ) (whole : piece ≡ section i P b n) where
      pub into_breaks : (stop : Stop) → Puts out out' piece (Err stop) → Goes (Some (RunInto n p i t)) shelf shelf' out out' (end_of stop)
      into_breaks stop puts =
          put_breaks _ (Some (RunInto n p i t)) shelf shelf' out out' (fp ∷ fi ∷ ft ∷ []) (agrees, (ai, (at, tt))) (Records P read (Some new)) (into_understands n p i t fp fi ft s gives P read (Some new) is understood) (says ∙ same) (shelf_goes_on _ _ _ grows more) puts.grows
          out [] piece [] stop puts (ap (λ (a : Answer). text a) (answer ∙ keeping_small t new (λ x. section i P b n) small) ∙ sym (append-nil piece ∙ whole)) (known_nothing _) (sink_stays out)

      pub into_ends : (last : ShelfState) (spelled : List ℕ) (r : Result (Unit {0}) Stop) → Puts out out' piece (Ok tt) → spelled ≡ bytes_of new → KeepsAs shelf' last t spelled r → Goes (Some (RunInto n p i t)) shelf last out out' (ended r)
      into_ends last spelled r puts same_bytes keeps =
          keep_ends _ (Some (RunInto n p i t)) shelf shelf' last out out' (fp ∷ fi ∷ ft ∷ []) (agrees, (ai, (at, tt))) (Records P read (Some new)) (into_understands n p i t fp fi ft s gives P read (Some new) is understood) (says ∙ same) (shelf_goes_on _ _ _ grows more) puts.grows
          t (bytes_of new) (section i P b n) (answer ∙ keeping_small t new (λ x. section i P b n) small) (puts.gives ∙ ap (append_known out.bytes) whole) r (subst (λ x. KeepsAs shelf' last t x r) same_bytes keeps)

-- the old trace, as it was found
pub record IsOld (digest t : List ℕ) (ft : Option (List ℕ)) (o : Option Trace) : Type 0 where
  pub read : Option Read
  pub is : OldIs digest (gets t trace_most ft) read (begun o digest)
  pub goes : (k : Answer) → old_given t (gets t trace_most ft) read k ≡ k

pub old_of : (mid shelf' : ShelfState) (digest t : List ℕ) (ft : Option (List ℕ)) (o : Option Trace) → OldGives mid shelf' digest t ft (Ok o) → IsOld digest t ft o
old_of mid shelf' digest t ft None k = record {
  read = None;
  is = subst (λ got. OldIs digest got None (record { digest = digest; runs = 0; old_runs = 0; tally = [] })) (sym k) refl;
  goes = λ a. ap (λ got. old_given t got None a) k;
}
old_of mid shelf' digest t ft (Some old) k = record {
  read = Some (Has old);
  is = subst (λ got. OldIs digest got (Some (Has old)) old) (sym k.1) (k.2, refl);
  goes = λ a. ap (λ got. old_given t got (Some (Has old)) a) k.1;
}
