-- In each run the definitions and uses are in place and define all that they must, and the pairs that its events make are listed.
use Rattle.std.specs.Prelude.{◌≡◌, ℕ, List, Some}
use Rattle.c_meaning.specs.Deeds.{told}
use Rattle.c_meaning.specs.Calls.{Source}
use Rattle.c_meaning.specs.Runs.{run_heard}
use Rattle.flow_calls.specs.Orderly.{IsOrderlyProgram}
use Rattle.flow_calls.specs.Placing.{Local, Sites, AreInPlace, AreFinished}
use Rattle.flow_calls.specs.Pairs.{HasPair, IsListed}
use Rattle.flow_places.specs.Declared.{AreSitesOf}

-- whatever the program reads, and wherever it stops
abbrev pub RunsAreInPlace : Type 0
RunsAreInPlace = (P : Source) (S : Sites) → AreSitesOf P S → (input : List ℕ) (limit : ℕ) → AreInPlace S (run_heard P input limit).deeds × AreFinished S (run_heard P input limit).deeds

-- of an orderly program, each pair of these sites of one variable
abbrev pub RunPairsAreListed : Type 0
RunPairsAreListed = (P : Source) (S : Sites) → IsOrderlyProgram P → AreSitesOf P S → (input : List ℕ) (limit d u : ℕ) (v r : Local) → S.defined d ≡ Some v → S.used u ≡ Some r → v.variable ≡ r.variable
    → HasPair (told (run_heard P input limit).deeds) d u → (f : ℕ) × IsListed P S f d v u r
