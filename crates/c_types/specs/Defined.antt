-- Functions with bodies, and units from any state on.
use Rattle.std.specs.Prelude.{ℕ, ◌-◌, false, List, Option}
use Rattle.c_syntax.specs.declared.text.Text.{Text}
use Rattle.c_syntax.specs.declared.tree.ProbeMark.{ProbeMark}
use Rattle.c_syntax.specs.Shape.{TypeOf, SpecShapes, CompoundShape, UnitShape}
use Rattle.c_scopes.specs.Scoping.{entered}
use Rattle.c_tables.specs.Tables.{with_definition}
use Rattle.c_tree.specs.State.{State, demand}
use Rattle.c_tree.specs.Rulings.{kind_at, rule}
use Rattle.c_tree.specs.Parts.{TypedSpecs, unspelled, spelled_rule}
use Rattle.c_tree.specs.Typing.{type_specs}
use Rattle.c_tree.specs.Declaring.{next_variable, with_constants}
use Rattle.c_tree.specs.Stating.{TypedCompound, type_marks, type_compound}
use Rattle.c_tree.specs.Units.{specs_place, with_variables, numbers_from, TypedUnit, any_main, type_externals, type_line}
use Rattle.c_tree.specs.Complaints.{no_main}

-- the function with that number, and with these parameters, has a body from here on
abbrev pub begun : ℕ → List (Text × Option TypeOf) → State → State
begun n given s = with_variables given (record s {
  names = with_constants s.listed (entered s.names);
  tables = with_definition n (numbers_from (next_variable s) given) s.tables;
  function = n;
  file = false;
})

-- its block probes and its body
abbrev pub defined_body : ℕ → List (Text × Option TypeOf) → Option TypeOf → List ProbeMark → CompoundShape → State → TypedCompound
defined_body n given k marks c s = type_compound (record { loop = false; breakable = false; result = k }) c (type_marks marks (begun n given s))

-- a unit from this state on
abbrev pub unit_from : State → UnitShape → TypedUnit
unit_from s u =
    let t = type_externals u.externals (type_line u.line s) in
    record {
      unit = record u { externals = t.externals };
      state = demand (any_main t.state.tables.functions) no_main (t.state.at - 1) u.last t.state;
    }

-- ---- the specifiers of a function

abbrev pub typed_specs : SpecShapes → State → TypedSpecs
typed_specs specs s = type_specs false specs unspelled s

abbrev pub kind_of_specs : SpecShapes → State → Option TypeOf
kind_of_specs specs s = kind_at (spelled_rule (typed_specs specs s).spelled)

abbrev pub behind_specs : SpecShapes → State → State
behind_specs specs s = rule (spelled_rule (typed_specs specs s).spelled) s.at (specs_place specs) (typed_specs specs s).state
