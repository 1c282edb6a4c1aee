-- A part of what typing does, in tables of which those at the end have the rows.
use Rattle.c_tables.specs.Tables.{TablesShape}
use Rattle.c_tree.specs.State.{State}
use Rattle.flow_initial.proofs.Cores.{Core, core, KeptByAll, KeptByUnits}
use Rattle.flow_values.specs.Bodies.{Good, Reaches}
use Rattle.flow_values.proofs.Reaching.{passed, passed_units, before}

-- from the one state to the other, where these are the tables at the end
abbrev pub Along : TablesShape → State → State → Type 0
Along t s u = Good (core s) × Reaches t (core u)

-- what is kept as far as the state between them, and from there on
pub up_to : (t : TablesShape) (s u v : State) → ((J : Core → Type 0) → KeptByAll J → J (core s) → J (core u)) → ((J : Core → Type 0) → KeptByAll J → J (core u) → J (core v)) → Along t s v → Along t s u
up_to t s u v f g h = (h.0, before t (core u) (core v) (passed u v g (passed s u f h.0).1).0 h.1)

pub onward : (t : TablesShape) (s u v : State) → ((J : Core → Type 0) → KeptByAll J → J (core s) → J (core u)) → Along t s v → Along t u v
onward t s u v f h = ((passed s u f h.0).1, h.1)

-- the same of what is kept where functions' bodies begin and end
pub up_to_units : (t : TablesShape) (s u v : State) → ((J : Core → Type 0) → KeptByUnits J → J (core s) → J (core u)) → ((J : Core → Type 0) → KeptByUnits J → J (core u) → J (core v)) → Along t s v → Along t s u
up_to_units t s u v f g h = (h.0, before t (core u) (core v) (passed_units u v g (passed_units s u f h.0).1).0 h.1)

pub onward_units : (t : TablesShape) (s u v : State) → ((J : Core → Type 0) → KeptByUnits J → J (core s) → J (core u)) → Along t s v → Along t u v
onward_units t s u v f h = ((passed_units s u f h.0).1, h.1)
