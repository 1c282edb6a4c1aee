-- Traces that are told of, as the command's answer has them.
use Rattle.std.proofs.Common.{◌≡◌, refl, ap, sym, ◌∙◌, List, [], ◌∷◌, ◌++◌, ℕ, Option, None, Some, map}
use Rattle.std.specs.Prelude.{Result}
use Rattle.sha2.specs.Sha256.{sha256}
use Rattle.atac_base.specs.Items.{ItemLists}
use Rattle.atac_base.specs.Outside.{ShelfState, SinkState, Agrees}
use Rattle.c_meaning.specs.Calls.{Source}
use Rattle.trace_file.specs.declared.trace.Trace.{Trace}
use Rattle.atac_words.specs.Words.{Tell}
use Rattle.atac_words.specs.declared.words.View.{View}
use Rattle.atac_steps.specs.Ends.{End, IsDone, OutOfMemory}
use Rattle.atac_steps.specs.Got.{gets, Gets}
use Rattle.atac_steps.specs.Grows.{ShelfGrows}
use Rattle.atac_steps.specs.Steps.{Puts}
use Rattle.atac_steps.specs.Stops.{ended}
use Rattle.atac_steps.specs.declared.stop.Stop.{Stop}
use Rattle.atac_steps.proofs.Growing.{sink_stays}
use Rattle.atac_traces.specs.Files.{Has}
use Rattle.atac_traces.specs.Joins.{Came, StopsAt}
use Rattle.atac_programs.specs.Programs.{IsCovered}
use Rattle.atac_commands.specs.Readings.{Viewed, view_text}
use Rattle.atac_commands.specs.Answers.{Answer, text}
use Rattle.atac_commands.specs.Runs.{Goes}
use Rattle.atac_commands.proofs.Asked.{tell_understands, tell_goes}
use Rattle.atac_commands.proofs.Exits.{wants_memory, put_ends, known_nothing}
use Rattle.atac_commands.proofs.Joined.{Joined, all_joined, join_stops}

module _ (v : View) (p : List ℕ) (traces : List (List ℕ)) (s : List ℕ) (shelf mid shelf' : ShelfState) (out : SinkState) (fp : Option (List ℕ)) (agrees : Agrees (shelf.says p) fp) (gives : gets p 1048576 fp ≡ Gets s)
    (P : Source) (items : ItemLists) (is : IsCovered s P items) (same : mid.says ≡ shelf.says) (grows : ShelfGrows shelf mid) where
  abbrev told : List Trace → Answer
  told all = record { end = IsDone; sections = []; rest = view_text v s items all; kept = None }

  pub tell_stops : (old : Trace) → old.digest ≡ sha256 s → (e : End) → StopsAt mid shelf' old traces e → Goes (Some (Tell v p traces)) shelf shelf' out out e
  tell_stops old d e h =
      join_stops (Some (Tell v p traces)) shelf mid shelf' out (p ∷ []) (fp ∷ []) traces (sha256 s) (λ reads. Viewed P items reads) [] told refl (λ more k. (agrees, k))
      (λ more reads k. tell_understands v p traces fp more s gives P items reads is k) (λ more reads. tell_goes v p traces fp more s gives P items reads) (λ ts. refl) same grows old d e h

  module _ (old sum : Trace) (d : old.digest ≡ sha256 s) (h : Came mid shelf' old traces [] sum) where
    joined_so : Joined (Some (Tell v p traces)) shelf mid shelf' out (p ∷ []) (fp ∷ []) traces (sha256 s) (λ reads. Viewed P items reads) [] told refl (λ more k. (agrees, k))
        (λ more reads k. tell_understands v p traces fp more s gives P items reads is k) (λ more reads. tell_goes v p traces fp more s gives P items reads) (λ ts. refl) same grows h.traces
    joined_so =
        all_joined (Some (Tell v p traces)) shelf mid shelf' out (p ∷ []) (fp ∷ []) traces (sha256 s) (λ reads. Viewed P items reads) [] told refl (λ more k. (agrees, k))
        (λ more reads k. tell_understands v p traces fp more s gives P items reads is k) (λ more reads. tell_goes v p traces fp more s gives P items reads) (λ ts. refl) same grows old sum d h

    pub tell_wants : Goes (Some (Tell v p traces)) shelf shelf' out out OutOfMemory
    tell_wants =
        let j = joined_so in
        wants_memory _ (Some (Tell v p traces)) shelf shelf' out out ((fp ∷ []) ++ j.more) j.agree (Viewed P items (map Has h.traces)) j.understood j.says j.shelf_grows (sink_stays out) 0 [] refl (known_nothing _)

    pub tell_ends : (out' : SinkState) (piece : List ℕ) (r : Result (Unit {0}) Stop) → Puts out out' piece r → piece ≡ view_text v s items h.traces → Goes (Some (Tell v p traces)) shelf shelf' out out' (ended r)
    tell_ends out' piece r puts whole =
        let j = joined_so in
        put_ends _ (Some (Tell v p traces)) shelf shelf' out out' ((fp ∷ []) ++ j.more) j.agree (Viewed P items (map Has h.traces)) j.understood j.says j.shelf_grows puts.grows out [] piece r puts
        (ap (λ (a : Answer). a.end) j.answer) (ap (λ (a : Answer). a.kept) j.answer) (ap (λ (a : Answer). text a) j.answer ∙ sym whole) (known_nothing _) (sink_stays out)
