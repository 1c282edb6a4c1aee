-- A run is that of the program without its places.
use Rattle.std.proofs.Common.{◌≡◌, ℕ, ◌+◌, List, [], ◌∷◌, map, refl, sym, ap, ◌∙◌}
use Rattle.c_syntax.specs.Shape.{ExternalShape, defined, declared}
use Rattle.c_tables.specs.Tables.{TablesShape}
use Rattle.c_placing.specs.Unplaced.{unplaced_external}
use Rattle.c_meaning.specs.State.{State, start}
use Rattle.c_meaning.specs.Results.{present}
use Rattle.c_meaning.specs.Firsts.{quiet}
use Rattle.c_meaning.specs.Calls.{Source, calls}
use Rattle.c_meaning.specs.Runs.{literals_made, external_made, externals_made, main_number, main_called, outcome, silent, run}
use Rattle.c_unplaced_runs.specs.Runs.{RunsSeeNoPlace}
use Rattle.c_unplaced_runs.proofs.Same.{external_count}
use Rattle.c_unplaced_runs.proofs.Results.{then_same, both}
use Rattle.c_unplaced_runs.proofs.Statements.{file_alike}
use Rattle.c_unplaced_runs.proofs.Calls.{placeless, calls_follow}

external_alike : (t : TablesShape) (e : ExternalShape) (i : ℕ) (s : State) → external_made t (unplaced_external e) (quiet i) s ≡ external_made t e (quiet i) s
external_alike t (declared d) i s = file_alike t d i s
external_alike t (defined specs d ms c) i s = refl

externals_alike : (t : TablesShape) (es : List ExternalShape) (i : ℕ) (s : State) → externals_made t (map unplaced_external es) (quiet i) s ≡ externals_made t es (quiet i) s
externals_alike t [] i s = refl
externals_alike t (e ∷ rest) i s =
    both _ _ _ _ (external_alike t e i s) (λ f s. ap (λ n. externals_made t (map unplaced_external rest) (quiet (i + n)) s) (external_count e) ∙ externals_alike t rest _ s)

main_alike : (P : Source) (s : State) → main_called (placeless P) silent (calls (placeless P) silent) s ≡ main_called P silent (calls P silent) s
main_alike P s =
    both _ _ _ _ (then_same (literals_made P.tables.literals s) _ _ (λ f s. externals_alike P.tables P.unit.externals 0 s)) (λ f s.
    then_same (present (main_number P.tables) s) _ _ (λ f s. (calls_follow P).call f [] s))

run_alike : (P : Source) (input : List ℕ) (limit : ℕ) → run (placeless P) input limit ≡ run P input limit
run_alike P input limit = ap (outcome P.tables limit) (main_alike P (start input limit))

pub runs_see_no_place : RunsSeeNoPlace
runs_see_no_place u v t same input limit =
    sym (run_alike (record { unit = u; tables = t }) input limit)
    ∙ (ap (λ w. run (record { unit = w; tables = t }) input limit) same ∙ run_alike (record { unit = v; tables = t }) input limit)
