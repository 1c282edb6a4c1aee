-- A whole run (C89, 2.1.2.2.1): the objects of file scope are made, and main is called.
use Rattle.std.specs.Prelude.{ℕ, ◌-◌, pos, List, [], ◌∷◌, false, Option, Some, None}
use Rattle.c_events.specs.declared.events.Event.{Event}
use Rattle.c_base.specs.declared.place.IntKind.TheVariants.{Int as AnInt}
use Rattle.c_arith.specs.Arith.{wrap}
use Rattle.c_syntax.specs.declared.text.Text.{Text}
use Rattle.c_syntax.specs.Shape.{ExternalShape, defined, declared}
use Rattle.c_store.specs.declared.value.Value.{Value}
use Rattle.c_store.specs.declared.value.Value.TheVariants.{Int}
use Rattle.c_store.specs.Cells.{made, literal_cells}
use Rattle.c_tables.specs.Tables.{FunctionShape, TablesShape}
use Rattle.c_tables.specs.Rows.{row, number_from}
use Rattle.c_tree.specs.Units.{is_main}
use Rattle.c_walk.specs.Units.{no_items, in_function}
use Rattle.c_meaning.specs.declared.end.End.{End}
use Rattle.c_meaning.specs.declared.end.End.TheVariants as end
use Rattle.c_meaning.specs.declared.end.Stop.{Stop}
use Rattle.c_meaning.specs.declared.end.Stop.TheVariants as stop
use Rattle.c_meaning.specs.declared.end.Flow.{Flow}
use Rattle.c_meaning.specs.declared.end.Flow.TheVariants.{Next}
use Rattle.c_meaning.specs.State.{Deed, State, start, function_in}
use Rattle.c_meaning.specs.Results.{Got, Gives, Stops, then_do, present}
use Rattle.c_meaning.specs.Firsts.{First, quiet, heard}
use Rattle.c_meaning.specs.Counts.{past_external}
use Rattle.c_meaning.specs.Knot.{Knot}
use Rattle.c_meaning.specs.Declarations.{new_instance, file_decl}
use Rattle.c_meaning.specs.Calls.{Source, calls}

-- ---- before main, for no turns

-- the string literals, in their order: each has its own number as its instance
abbrev pub literals_made : List Text → State → Got Flow
literals_made [] s = Gives Next s
literals_made (x ∷ xs) s = then_do (new_instance (made s.store false (literal_cells x)) s) (λ j. literals_made xs)

abbrev pub external_made : TablesShape → ExternalShape → First → State → Got Flow
external_made t (declared d) i s = file_decl t d i s
external_made t (defined specs d ms c) i s = Gives Next s

abbrev pub externals_made : TablesShape → List ExternalShape → First → State → Got Flow
externals_made t [] i s = Gives Next s
externals_made t (e ∷ rest) i s = then_do (external_made t e i s) (λ f. externals_made t rest (past_external t e i))

-- the literals and the variables of file scope
abbrev pub all_made : Source → First → State → Got Flow
all_made P i s = then_do (literals_made P.tables.literals s) (λ f. externals_made P.tables P.unit.externals i)

-- ---- runs

abbrev pub main_number : TablesShape → Option ℕ
main_number t = number_from is_main 1 t.functions

abbrev pub main_called : Source → First → Knot → State → Got (Option Value)
main_called P i k s = then_do (all_made P i s) (λ f s. then_do (present (main_number P.tables) s) (λ f. k.call f []))

pub record Outcome : Type 0 where
  pub output : List ℕ
  pub turns : ℕ
  pub end : End
  pub deeds : List Deed
  pub log : List Event

abbrev pub name_in : Option FunctionShape → Text
name_in None = []
name_in (Some f) = f.name

-- the name of the active function
abbrev pub active_name : TablesShape → State → Text
active_name t s = name_in (row t.functions (function_in s.calls))

-- main returns an int, and 0 where it has no result
abbrev pub returned_end : Option Value → End
returned_end (Some (Int z)) = end.Returned (wrap AnInt z)
returned_end v = end.Returned (pos 0)

abbrev pub stopped_end : TablesShape → Stop → State → End
stopped_end t (stop.Fault fault) s = end.Fault fault (active_name t s)
stopped_end t (stop.Exited z) s = end.Exited z
stopped_end t stop.Turns s = end.Turns
stopped_end t stop.Depth s = end.Depth
stopped_end t stop.Room s = end.Room

abbrev pub outcome_at : ℕ → End → State → Outcome
outcome_at limit e s = record { output = s.output; turns = limit - s.turns; end = e; deeds = s.deeds; log = s.log }

abbrev pub outcome : TablesShape → ℕ → Got (Option Value) → Outcome
outcome t limit (Gives v s) = outcome_at limit (returned_end v) s
outcome t limit (Stops why s) = outcome_at limit (stopped_end t why s) s

abbrev pub run_of : First → Source → List ℕ → ℕ → Outcome
run_of i P input limit = outcome P.tables limit (main_called P i (calls P i) (start input limit))

-- before the first external declaration: nothing is told, or all is
abbrev pub silent : First
silent = quiet 0

abbrev pub audible : First
audible = heard (in_function 0) no_items

-- the run of a program that is to be observed, and of one that logs by itself
abbrev pub run_heard : Source → List ℕ → ℕ → Outcome
run_heard P input limit = run_of audible P input limit

abbrev pub run : Source → List ℕ → ℕ → Outcome
run P input limit = run_of silent P input limit
