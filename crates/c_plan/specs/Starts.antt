-- Where the bodies of functions begin in the extents of a program.
use Rattle.std.specs.Prelude.{◌≡◌, ℕ, ◌+◌, ◌<◌, ◌≤◌, List, length, drop, get_or, Some}
use Rattle.c_meaning.specs.Firsts.{variables_before}
use Rattle.c_meaning.specs.Counts.{signature_variables, compound_variables}
use Rattle.c_meaning.specs.Calls.{Source, Routine, routine}
use Rattle.c_meaning.specs.Runs.{silent}
use Rattle.c_plan.specs.declared.extent.Extent.{Extent}
use Rattle.c_plan.specs.declared.start.Start.{Start}
use Rattle.c_plan.specs.Extents.{body_extents, Begins}

-- of no function
abbrev pub nowhere : Start
nowhere = record { at = 0; before = 0 }

-- the function's body begins there, behind its parameters
abbrev pub IsStart : Routine → Start → List Extent → Type 0
IsStart r s all =
    (s.before ≡ variables_before r.first + signature_variables r.params)
    × (s.before + compound_variables r.body ≤ 4294967295)
    × Begins (body_extents r.body) (drop s.at all)

-- so does each of the functions below that number
abbrev pub AreStarts : Source → ℕ → List Start → List Extent → Type 0
AreStarts P n starts all = (f : ℕ) → f < n → (r : Routine) → routine P silent f ≡ Some r → IsStart r (get_or starts f nowhere) all

-- each of the program has one
abbrev pub IsPlanned : Source → List Start → List Extent → Type 0
IsPlanned P starts all = (f : ℕ) (r : Routine) → routine P silent f ≡ Some r → (f < length starts) × IsStart r (get_or starts f nowhere) all
