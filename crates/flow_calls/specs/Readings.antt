-- What one activation did by itself, read as the actions of a walk.
use Rattle.std.specs.Prelude.{List, [], ◌∷◌}
use Rattle.c_events.specs.declared.events.Event.{Event}
use Rattle.c_events.specs.declared.events.Event.TheVariants as event
use Rattle.c_meaning.specs.State.{Act, begins, makes, tells, repeats}
use Rattle.flow_walks.specs.declared.action.Action.{Action}
use Rattle.flow_walks.specs.declared.action.Action.TheVariants.{Define, Use, Block, Test, Kill}

abbrev pub action_of : Event → Action
action_of (event.Block k) = Block k
action_of (event.Def d c) = Define d
action_of (event.Use u c a) = Use u
action_of (event.Test k o a) = Test k o

-- ahead of what follows: the making of a local variable's instance ends what was defined of it before, and the definitions of one declarator
-- are one action
abbrev pub read_as : Act → List Action → List Action
read_as (begins f) v = v
read_as (makes x j) v = Kill x ∷ v
read_as (tells e) v = action_of e ∷ v
read_as (repeats e) v = v

abbrev pub readings : List Act → List Action
readings [] = []
readings (a ∷ acts) = read_as a (readings acts)
