-- The marks of runs as the code finds them: by the facts that no earlier run shows, from the last run to the first.
use Rattle.std.specs.Prelude.{Bool, not, ◌&&◌, ◌||◌, List, [], ◌∷◌}
use Rattle.std.specs.List.{filter, list_any}
use Rattle.atac_facts.specs.declared.fact.Fact.{Fact}
use Rattle.atac_facts.specs.Sets.{FactSet, holds}
use Rattle.run_pick.specs.Kept.{some_shows, marked}

-- the run shows an fresh fact that isn't taken
abbrev pub needs : (Fact → Bool) → List Fact → FactSet → Bool
needs taken fresh run = list_any (λ fact. holds run fact && not (taken fact)) fresh

-- the facts that were taken, and those of the marked runs
abbrev pub taken_with : (Fact → Bool) → List FactSet → List Bool → Fact → Bool
taken_with taken runs marks fact = taken fact || some_shows (marked runs marks) fact

-- the facts of a list that none of the runs shows
abbrev pub unshown : List FactSet → List Fact → List Fact
unshown runs facts = filter (λ fact. not (some_shows runs fact)) facts

-- the marks of runs, where the runs before them leave these facts fresh, and the kept runs behind them have taken those
abbrev pub front_mark : (Fact → Bool) → List Fact → FactSet → List FactSet → List Bool → List Bool
front_mark taken fresh run runs later = needs (taken_with taken runs later) fresh run ∷ later

abbrev pub marks_of : (Fact → Bool) → List Fact → List FactSet → List Bool
marks_of taken fresh [] = []
marks_of taken fresh (run ∷ runs) = front_mark taken fresh run runs (marks_of taken (filter (λ fact. not (holds run fact)) fresh) runs)
