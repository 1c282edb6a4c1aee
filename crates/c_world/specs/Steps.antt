-- The steps of the definition that are no expression's, one by one.
use Rattle.std.specs.Prelude.{ℕ, suc, List, [], ◌∷◌, replicate, true, false, Option, Some, None, Result, Ok, Err}
use Rattle.c_syntax.specs.declared.text.Text.{Text}
use Rattle.c_syntax.specs.Shape.{DeclShape, InitShape}
use Rattle.c_store.specs.declared.value.Value.{Value}
use Rattle.c_store.specs.declared.value.Pointer.{Pointer}
use Rattle.c_store.specs.Cells.{made, literal_cells, write_of}
use Rattle.c_tables.specs.Tables.{TablesShape}
use Rattle.c_meaning.specs.declared.end.Flow.{Flow}
use Rattle.c_meaning.specs.declared.end.Flow.TheVariants.{Next}
use Rattle.c_meaning.specs.declared.end.Stop.{Stop}
use Rattle.c_meaning.specs.declared.end.Stop.TheVariants as stop
use Rattle.c_syntax.specs.declared.tree.Named.{Named}
use Rattle.c_syntax.specs.declared.tree.ProbeMark.{ProbeMark}
use Rattle.c_constants.specs.Probes.{probe_number_of}
use Rattle.c_meaning.specs.State.{State, instance_of}
use Rattle.c_meaning.specs.Operators.{converted}
use Rattle.c_meaning.specs.Results.{Got, Gives, Stops, then_do, turns, untyped, settled, present}
use Rattle.c_meaning.specs.Layout.{cells, variable_kind}
use Rattle.c_meaning.specs.Firsts.{First, quiet}
use Rattle.c_meaning.specs.Places.{next_cell, log_def}
use Rattle.c_meaning.specs.Constants.{init_cells}
use Rattle.c_meaning.specs.Declarations.{new_instance, bind, bind_file, scalar_written, filled_whole}
use Rattle.c_meaning.specs.Calls.{given_variable}
use Rattle.c_world.specs.declared.answers.Placed.{Placed}
use Rattle.c_world.specs.declared.answers.Site.{Site}
use Rattle.c_world.specs.declared.answers.Site.TheVariants.{Unmarked, Marked, Unclear}
use Rattle.c_world.specs.declared.answers.Placed.TheVariants.{At, Stopped}

-- ---- declarations

-- the variable stands for a new instance of so many cells without value
abbrev pub placed : ℕ → ℕ → State → Got ℕ
placed v n s = then_do (new_instance (made s.store true (replicate n None)) s) (λ j s. Gives j (bind v j s))

-- a local variable's turns are taken and its instance is made, without its initialiser
abbrev pub declared : TablesShape → ℕ → State → Got Flow
declared t v s = then_do (present (variable_kind t v) s) (λ k s. turns (cells t k) s (λ s. then_do (placed v (cells t k) s) (λ j s. Gives Next s)))

-- the instance, or there is no room for it
abbrev pub placed_at : Option ℕ → State → Got ℕ
placed_at None s = Stops stop.Room s
placed_at (Some j) s = Gives j s

-- ---- answers

-- a result, or why the run stops
abbrev pub found : {A : Type 0} → Result A Stop → State → Got A
found (Ok a) s = Gives a s
found (Err why) s = Stops why s

-- the value of a call
abbrev pub given_value : Result Value Stop → State → Got (Option Value)
given_value (Ok v) s = Gives (Some v) s
given_value (Err why) s = Stops why s

-- ---- probes

-- what is told of a probe by its number, where it is one
abbrev pub numbered_site : Option ℕ → Site
numbered_site None = Unclear
numbered_site (Some k) = Marked k

abbrev pub mark_site : Option ProbeMark → Site
mark_site None = Unmarked
mark_site (Some m) = numbered_site (probe_number_of m.number)

-- what stands round a declared name
abbrev pub name_site : Option Named → Site
name_site None = Unmarked
name_site (Some x) = mark_site x.probe

-- the cell is defined at the site
abbrev pub marked : Site → Pointer → State → Got Flow
marked Unmarked q s = Gives Next s
marked (Marked k) q s = Gives Next (log_def q k s)
marked Unclear q s = untyped s

-- a cell is written, and defined at the site
abbrev pub stored_at : Site → Pointer → Value → State → Got Flow
stored_at x q v s = then_do (settled (write_of s.store q v) s) (λ c s. marked x q (record s { store = c }))

-- the cells from a place on are written in order, and each is defined at the site
abbrev pub filled_at : Site → Pointer → List (Option Value) → State → Got Flow
filled_at x q [] s = Gives Next s
filled_at x q (None ∷ vs) s = filled_at x (next_cell q) vs s
filled_at x q (Some v ∷ vs) s = then_do (stored_at x q v s) (λ f. filled_at x (next_cell q) vs)

-- a cell is written, where there is a value for it
abbrev pub stored_maybe : Site → Pointer → Option Value → State → Got Flow
stored_maybe x q None s = Gives Next s
stored_maybe x q (Some v) s = stored_at x q v s

-- ---- parameters

-- the variable stands for a new instance of its type
abbrev pub made_variable : TablesShape → ℕ → State → Got ℕ
made_variable t v s = then_do (present (variable_kind t v) s) (λ k s. placed v (cells t k) s)

-- the instance, or why the run stops
abbrev pub placed_or : Placed → State → Got ℕ
placed_or (At j) s = Gives j s
placed_or (Stopped why) s = Stops why s

-- the parameter behind so many variables is made, and its argument is written
abbrev pub given_one : TablesShape → DeclShape → ℕ → Value → State → Got Flow
given_one t d n v s = then_do (present (variable_kind t (suc n)) s) (λ k s. given_variable t d (quiet n) v k s)

-- ---- initialisers

-- the value in the variable's type is written into its cell
abbrev pub filled_one : TablesShape → ℕ → Option Named → Value → State → Got Flow
filled_one t v x a s = then_do (present (variable_kind t v) s) (λ k s. then_do (present (instance_of v s) s) (λ j s. scalar_written x (quiet 0) j (converted k a) s))

-- the initialiser's cells are written into those of the variable
abbrev pub filled_object : TablesShape → ℕ → Option Named → InitShape → First → State → Got Flow
filled_object t v x a i s = then_do (present (variable_kind t v) s) (λ k s. then_do (present (instance_of v s) s) (λ j s. filled_whole t k x i j (init_cells t s.file k a) s))

-- ---- file scope

-- the variable stands for a new instance of so many cells without value
abbrev pub placed_file : ℕ → ℕ → State → Got ℕ
placed_file v n s = then_do (new_instance (made s.store true (replicate n None)) s) (λ j s. Gives j (bind_file v j s))

-- ---- literals

abbrev pub literal_made : Option Text → State → Got Flow
literal_made None s = untyped s
literal_made (Some x) s = then_do (new_instance (made s.store false (literal_cells x)) s) (λ j s. Gives Next s)
