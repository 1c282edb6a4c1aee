-- Runs gathered input by input, and what stops that.
use Rattle.std.proofs.Common.{◌≡◌, refl, ap, sym, ◌∙◌, subst, List, [], ◌∷◌, ◌++◌, ℕ, suc, Option, Some, append_assoc, append-nil, length, arith}
use Rattle.std.specs.Prelude.{Result, Ok, Err}
use Rattle.atac_facts.specs.declared.fact.Fact.{Fact}
use Rattle.atac_facts.specs.Sets.{FactSet, holds}
use Rattle.atac_base.specs.Outside.{ShelfState, Said, Agrees}
use Rattle.atac_base.specs.Items.{ItemLists}
use Rattle.c_meaning.specs.Calls.{Source}
use Rattle.atac_steps.specs.Ends.{End, IsDone, BadWords, NotAccepted, NotHeld, TooLong, NoTrace, ReadFailed, WriteFailed, KeepFailed, NotWatched, OutOfMemory}
use Rattle.atac_steps.specs.Got.{gets, Gets, AllAgree}
use Rattle.atac_steps.specs.Grows.{ShelfGrows}
use Rattle.atac_steps.specs.Steps.{FetchStops}
use Rattle.atac_steps.specs.Stops.{end_of}
use Rattle.atac_steps.specs.declared.stop.Stop.{Stop}
use Rattle.atac_steps.proofs.Growing.{rose_since, shelf_goes_on, shelf_stays}
use Rattle.atac_programs.specs.Programs.{shown_by}
use Rattle.atac_commands.specs.Readings.{AreShown}
use Rattle.atac_commands.specs.Answers.{input_most}
use Rattle.atac_commands.specs.Runs.{AreGot}
use Rattle.atac_commands.specs.Gathering.{Gathers, GatherStops, GatherGives, GatherGoes}
use Rattle.atac_commands.specs.declared.picking.Gathering.{Gathering}
use Rattle.atac_commands.proofs.Course.{guesses, guesses_agree}

-- one run more
pub are_shown_more : (P : Source) (limit : ℕ) (all : List (List ℕ)) (runs : List FactSet) (bytes : List ℕ) (run : FactSet) → AreShown P limit all runs → ((f : Fact) → holds run f ≡ shown_by P limit bytes f) → AreShown P limit (all ++ bytes ∷ []) (runs ++ run ∷ [])
are_shown_more P limit [] [] bytes run h k = (k, tt)
are_shown_more P limit [] (r ∷ runs) bytes run h k = absurd h
are_shown_more P limit (b ∷ all) [] bytes run h k = absurd h
are_shown_more P limit (b ∷ all) (r ∷ runs) bytes run h k = (h.0, are_shown_more P limit all runs bytes run h.1 k)

shown_runs : (P : Source) (limit : ℕ) (all : List (List ℕ)) (runs : List FactSet) → AreShown P limit all runs → length runs ≡ length all
shown_runs P limit [] [] h = refl
shown_runs P limit [] (r ∷ runs) h = absurd h
shown_runs P limit (b ∷ all) [] h = absurd h
shown_runs P limit (b ∷ all) (r ∷ runs) h = (let k = shown_runs P limit all runs h.1 in omega (arith, k))

got_inputs : (names : List (List ℕ)) (found : List (Option (List ℕ))) (all : List (List ℕ)) → AreGot names found all → length names ≡ length all
got_inputs [] [] [] h = refl
got_inputs [] [] (b ∷ all) h = absurd h
got_inputs [] (f ∷ found) [] h = absurd h
got_inputs [] (f ∷ found) (b ∷ all) h = absurd h
got_inputs (n ∷ names) [] [] h = absurd h
got_inputs (n ∷ names) [] (b ∷ all) h = absurd h
got_inputs (n ∷ names) (f ∷ found) [] h = absurd h
got_inputs (n ∷ names) (f ∷ found) (b ∷ all) h = (let k = got_inputs names found all h.1 in omega (arith, k))

-- as many runs as inputs
pub one_run_each : (P : Source) (limit : ℕ) (names : List (List ℕ)) (found : List (Option (List ℕ))) (all : List (List ℕ)) (runs : List FactSet) → AreGot names found all → AreShown P limit all runs → length names ≡ length runs
one_run_each P limit names found all runs got shows = got_inputs names found all got ∙ sym (shown_runs P limit all runs shows)

module _ (P : Source) (items : ItemLists) (limit : ℕ) (got : List (List ℕ)) where
  -- no input is left
  pub gathered : (g : Gathering) (shelf : ShelfState) → Gathers P items limit got g → GatherGoes P items limit got [] g shelf shelf (Ok tt)
  gathered g shelf h = record { found = []; agrees = tt; gives = ([], tt, subst (λ x. Gathers P items limit x g) (sym (append-nil got)) h); says = refl; grows = shelf_stays _ }

  module _ (name : List ℕ) (names : List (List ℕ)) (shelf mid : ShelfState) (f : Option (List ℕ)) (agrees : Agrees (shelf.says name) f) (same : mid.says ≡ shelf.says) (grows : ShelfGrows shelf mid) where
    stops_by : (e : End) → FetchStops shelf mid name input_most f e → GatherStops shelf mid (name ∷ names) (f ∷ guesses shelf.says names) e
    stops_by (NotHeld file) h = λ before go. rw h
    stops_by (TooLong file) h = λ before go. rw h
    stops_by (ReadFailed file) h = (h.1, (0, ap Some (sym h.0)))
    stops_by OutOfMemory h = tt
    stops_by IsDone h = absurd h
    stops_by BadWords h = absurd h
    stops_by (NotAccepted file said) h = absurd h
    stops_by (NoTrace file why) h = absurd h
    stops_by WriteFailed h = absurd h
    stops_by (KeepFailed file) h = absurd h
    stops_by (NotWatched w) h = absurd h

    -- the next input isn't got
    pub gather_fetch : (g : Gathering) (stop : Stop) → FetchStops shelf mid name input_most f (end_of stop) → GatherGoes P items limit got (name ∷ names) g shelf mid (Err stop)
    gather_fetch g stop h = record { found = f ∷ guesses shelf.says names; agrees = (agrees, guesses_agree shelf.says names); gives = stops_by (end_of stop) h; says = same; grows = grows }

    -- memory is wanted at its run
    pub gather_wants : (g : Gathering) (stop : Stop) → end_of stop ≡ OutOfMemory → GatherGoes P items limit got (name ∷ names) g shelf mid (Err stop)
    gather_wants g stop h = record { found = f ∷ guesses shelf.says names; agrees = (agrees, guesses_agree shelf.says names); gives = subst (GatherStops shelf mid (name ∷ names) (f ∷ guesses shelf.says names)) (sym h) tt; says = same; grows = grows }

    -- the other inputs are gathered behind it
    module _ (bytes : List ℕ) (gives : gets name input_most f ≡ Gets bytes) (shelf' : ShelfState) where
      stops_later : (found : List (Option (List ℕ))) (e : End) → GatherStops mid shelf' names found e → GatherStops shelf shelf' (name ∷ names) (f ∷ found) e
      stops_later found (NotHeld file) h = λ before go. let k = h (before ++ bytes ∷ []) go in rw gives k
      stops_later found (TooLong file) h = λ before go. let k = h (before ++ bytes ∷ []) go in rw gives k
      stops_later found (ReadFailed file) h = (rose_since _ _ _ grows.read_faults h.0, (suc h.1.0, h.1.1))
      stops_later found OutOfMemory h = tt
      stops_later found IsDone h = absurd h
      stops_later found BadWords h = absurd h
      stops_later found (NotAccepted file said) h = absurd h
      stops_later found (NoTrace file why) h = absurd h
      stops_later found WriteFailed h = absurd h
      stops_later found (KeepFailed file) h = absurd h
      stops_later found (NotWatched w) h = absurd h

      gives_later : (g : Gathering) (found : List (Option (List ℕ))) (r : Result (Unit {0}) Stop) → GatherGives P items limit (got ++ bytes ∷ []) names g mid shelf' found r → GatherGives P items limit got (name ∷ names) g shelf shelf' (f ∷ found) r
      gives_later g found (Ok x) h = (bytes ∷ h.0, (gives, h.1), subst (λ all. Gathers P items limit all g) (append_assoc got (bytes ∷ []) h.0) h.2)
      gives_later g found (Err stop) h = stops_later found (end_of stop) h

      pub gather_on : (g : Gathering) (r : Result (Unit {0}) Stop) → GatherGoes P items limit (got ++ bytes ∷ []) names g mid shelf' r → GatherGoes P items limit got (name ∷ names) g shelf shelf' r
      gather_on g r h = record {
        found = f ∷ h.found;
        agrees = (agrees, subst (λ (says : List ℕ → Said). AllAgree says names h.found) same h.agrees);
        gives = gives_later g h.found r h.gives;
        says = h.says ∙ same;
        grows = shelf_goes_on _ _ _ grows h.grows;
      }
