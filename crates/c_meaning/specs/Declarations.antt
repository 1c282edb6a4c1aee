-- What declarations do (C89, 3.5): instances are made, bound to their variables, and initialised.
use Rattle.std.specs.Prelude.{ℕ, suc, List, [], ◌∷◌, replicate, true, Option, Some, None, Result, Ok, Err}
use Rattle.c_events.specs.declared.events.Event.{Event}
use Rattle.c_syntax.specs.declared.text.Text.{Text}
use Rattle.c_syntax.specs.declared.tree.Named.{Named}
use Rattle.c_syntax.specs.declared.tree.ProbeMark.{ProbeMark}
use Rattle.c_syntax.specs.Shape.{TypeOf, array, DeclShape, decl, DeclShapes, no_decls, more_decls, DeclaratorShape, declarator, DeclaratorShapes, no_declarators, more_declarators, arrays, function, MaybeInit, no_init, one_init, one, listed, NodeShape}
use Rattle.c_store.specs.declared.value.Value.{Value}
use Rattle.c_store.specs.declared.value.Pointer.{Pointer}
use Rattle.c_store.specs.declared.value.MakeErr.{MakeErr}
use Rattle.c_store.specs.Cells.{Cells, made}
use Rattle.c_tables.specs.Tables.{TablesShape}
use Rattle.c_meaning.specs.declared.end.Flow.{Flow}
use Rattle.c_meaning.specs.declared.end.Flow.TheVariants.{Next}
use Rattle.c_meaning.specs.declared.end.Stop.TheVariants as stop
use Rattle.c_meaning.specs.State.{Act, tells, repeats, Bound, State, with_bound, in_call}
use Rattle.c_meaning.specs.Results.{Got, Gives, Stops, then_do, turns, present, needed}
use Rattle.c_meaning.specs.Layout.{cells, zeros, variable_kind}
use Rattle.c_meaning.specs.Operators.{converted}
use Rattle.c_meaning.specs.Firsts.{First, variables_before, in_expression, noted_made}
use Rattle.c_meaning.specs.Places.{whole, first_cell, next_cell, stored}
use Rattle.c_meaning.specs.Constants.{init_cells, one_cells}
use Rattle.c_meaning.specs.Counts.{past_name, past_def, past_declarator, past_decl, past_defined}
use Rattle.c_meaning.specs.Knot.{Knot}
use Rattle.c_meaning.specs.Expressions.{meaning}

-- ---- instances

-- the number of the new instance, or too many cells would live
abbrev pub new_instance : Result Cells MakeErr → State → Got ℕ
new_instance (Ok c) s = Gives c.count (record s { store = c })
new_instance (Err why) s = Stops stop.Room s

-- of an object of that type, whose cells have no value
abbrev pub make : TablesShape → TypeOf → State → Got ℕ
make t k s = new_instance (made s.store true (replicate (cells t k) None)) s

-- the variable stands for the instance in the innermost scope, or at file scope
abbrev pub bind : ℕ → ℕ → State → State
bind v j s = record s { calls = in_call (with_bound (record { variable = v; instance = j })) s.calls }

abbrev pub bind_file : ℕ → ℕ → State → State
bind_file v j s = record s { file = record { variable = v; instance = j } ∷ s.file }

-- the next variable that is declared
abbrev pub next_variable : First → ℕ
next_variable i = suc (variables_before i)

-- ---- initialisers

abbrev pub mark_texts : Option ProbeMark → List Text
mark_texts None = []
mark_texts (Some m) = m.number ∷ []

-- the probe round a declared name
abbrev pub name_marks : Option Named → List Text
name_marks None = []
name_marks (Some x) = mark_texts x.probe

-- the cells from a place on are written in order
abbrev pub filled : (Event → Act) → List Text → First → Pointer → List (Option Value) → State → Got Flow
filled way xs i q [] s = Gives Next s
filled way xs i q (None ∷ vs) s = filled way xs i (next_cell q) vs s
filled way xs i q (Some v ∷ vs) s = then_do (stored way xs i q v s) (λ v. filled repeats xs i (next_cell q) vs)

-- the whole of an object, for no turn
abbrev pub filled_whole : TablesShape → TypeOf → Option Named → First → ℕ → List (Option Value) → State → Got Flow
filled_whole t k x i j vs s = filled tells (name_marks x) i (first_cell j (cells t k)) vs s

-- the cell of a scalar is written
abbrev pub scalar_written : Option Named → First → ℕ → Value → State → Got Flow
scalar_written x i j v s = then_do (stored tells (name_marks x) i (whole j 1) v s) (λ v. Gives Next)

-- an array begins with the chars of a string; anything else with the value of an expression
abbrev pub one_value : TablesShape → Knot → TypeOf → Option Named → First → ℕ → NodeShape → State → Got Flow
one_value t k (array e n) x i j a s = filled_whole t (array e n) x i j (one_cells t s.file (array e n) a) s
one_value t k y x i j a s = then_do (needed ((meaning t k a).value (in_expression (past_def t x i)) s)) (λ v. scalar_written x i j (converted y v))

-- of the variable whose instance that is
abbrev pub initialised : TablesShape → Knot → TypeOf → Option Named → First → ℕ → MaybeInit → State → Got Flow
initialised t k y x i j no_init s = Gives Next s
initialised t k y x i j (one_init (one a)) s = one_value t k y x i j a s
initialised t k y x i j (one_init (listed p items last)) s = filled_whole t y x i j (init_cells t s.file y (listed p items last)) s

-- ---- local declarations

-- the variable stands for the new instance, and is initialised
abbrev pub bound_variable : TablesShape → Knot → Option Named → MaybeInit → First → TypeOf → ℕ → State → Got Flow
bound_variable t k x init i y j s = initialised t k y x (past_name i) j init (noted_made i (next_variable i) (bind (next_variable i) j s))

-- a turn for each cell, the instance, and the initialiser
abbrev pub made_variable : TablesShape → Knot → Option Named → MaybeInit → First → TypeOf → State → Got Flow
made_variable t k x init i y s = then_do (make t y s) (bound_variable t k x init i y)

abbrev pub declared_variable : TablesShape → Knot → Option Named → MaybeInit → First → TypeOf → State → Got Flow
declared_variable t k x init i y s = turns (cells t y) s (made_variable t k x init i y)

abbrev pub declared_name : TablesShape → Knot → DeclaratorShape → First → State → Got Flow
declared_name t k (declarator stars x (arrays ls) init) i s = then_do (present (variable_kind t (next_variable i)) s) (declared_variable t k x init i)
declared_name t k (declarator stars x (function ps) init) i s = Gives Next s

abbrev pub declared_names : TablesShape → Knot → DeclaratorShapes → First → State → Got Flow
declared_names t k no_declarators i s = Gives Next s
declared_names t k (more_declarators d rest) i s = then_do (declared_name t k d i s) (λ f. declared_names t k rest (past_declarator t d i))

abbrev pub declared_decl : TablesShape → Knot → DeclShape → First → State → Got Flow
declared_decl t k (decl p specs names) i s = declared_names t k names i s

abbrev pub declared_all : TablesShape → Knot → DeclShapes → First → State → Got Flow
declared_all t k no_decls i s = Gives Next s
declared_all t k (more_decls d rest) i s = then_do (declared_decl t k d i s) (λ f. declared_all t k rest (past_decl t d i))

-- ---- declarations of file scope: no turns, and without an initialiser zeros

abbrev pub file_cells : TablesShape → List Bound → TypeOf → MaybeInit → List (Option Value)
file_cells t b k no_init = zeros t k
file_cells t b k (one_init i) = init_cells t b k i

-- its initialiser may name the variable itself
abbrev pub filled_in_file : TablesShape → Option Named → MaybeInit → First → TypeOf → ℕ → State → Got Flow
filled_in_file t x init i k j s = filled_whole t k x (past_name i) j (file_cells t s.file k init) s

abbrev pub file_variable : TablesShape → Option Named → MaybeInit → First → TypeOf → State → Got Flow
file_variable t x init i k s = then_do (make t k s) (λ j s. filled_in_file t x init i k j (bind_file (next_variable i) j s))

abbrev pub file_name : TablesShape → DeclaratorShape → First → State → Got Flow
file_name t (declarator stars x (arrays ls) init) i s = then_do (present (variable_kind t (next_variable i)) s) (file_variable t x init i)
file_name t (declarator stars x (function ps) init) i s = Gives Next s

abbrev pub file_names : TablesShape → DeclaratorShapes → First → State → Got Flow
file_names t no_declarators i s = Gives Next s
file_names t (more_declarators d rest) i s = then_do (file_name t d i s) (λ f. file_names t rest (past_defined t d i))

abbrev pub file_decl : TablesShape → DeclShape → First → State → Got Flow
file_decl t (decl p specs names) i s = file_names t names i s
