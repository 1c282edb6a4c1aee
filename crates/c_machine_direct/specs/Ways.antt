-- How a statement that was done at once leaves.
use Rattle.std.specs.Prelude.{◌≡◌, Bool}
use Rattle.c_meaning.specs.declared.end.Flow.{Flow}
use Rattle.c_meaning.specs.State.{State}
use Rattle.c_meaning.specs.Results.{Got, Gives, Stops}
use Rattle.c_machine_direct.specs.declared.statements.Way.{Way}
use Rattle.c_machine_direct.specs.declared.statements.Way.TheVariants as way
use Rattle.c_machine_direct.specs.declared.statements.Tested.{Tested}
use Rattle.c_machine_direct.specs.declared.statements.Tested.TheVariants as tested

-- the way is what is come to, with the state after it; nothing is said of want of memory
abbrev pub Leaves : Way → State → Got Flow → Type 0
Leaves (way.Left f) s r = r ≡ Gives f s
Leaves (way.Stopped why) s r = r ≡ Stops why s
Leaves way.NoMemory s r = Unit {0}

-- where it was left
abbrev pub OnLeft : Way → Type 0 → Type 0
OnLeft (way.Left f) A = A
OnLeft (way.Stopped why) A = Unit {0}
OnLeft way.NoMemory A = Unit {0}

-- where want of memory didn't end it
abbrev pub OnWay : Way → Type 0 → Type 0
OnWay (way.Left f) A = A
OnWay (way.Stopped why) A = A
OnWay way.NoMemory A = Unit {0}

-- the same of a test
abbrev pub Tests : Tested → State → Got Bool → Type 0
Tests (tested.Is b) s r = r ≡ Gives b s
Tests (tested.Stopped why) s r = r ≡ Stops why s
Tests tested.NoMemory s r = Unit {0}

abbrev pub OnTested : Tested → Type 0 → Type 0
OnTested (tested.Is b) A = A
OnTested (tested.Stopped why) A = Unit {0}
OnTested tested.NoMemory A = Unit {0}
