-- What a call does (C89, 3.3.2.2): from its arguments to its result; and the knot of the whole program.
use Rattle.std.specs.Prelude.{ℕ, zero, suc, List, [], ◌∷◌, length, nat_eq, nat_lt, true, Option, Some, None, if◌then◌else◌}
use Rattle.c_syntax.specs.declared.tree.ProbeMark.{ProbeMark}
use Rattle.c_syntax.specs.Shape.{TypeOf, nothing, DeclShape, decl, DeclShapes, no_decls, more_decls, declarator, no_declarators, more_declarators, DeclFormShape, arrays, function, ParamsShape, params, CompoundShape, braces, ExternalShape, defined, declared, UnitShape}
use Rattle.c_store.specs.declared.value.Value.{Value}
use Rattle.c_tables.specs.Tables.{FunctionShape, TablesShape}
use Rattle.c_tables.specs.Rows.{row, text_of}
use Rattle.c_walk.specs.Units.{function_of, in_function}
use Rattle.c_meaning.specs.declared.end.Flow.{Flow}
use Rattle.c_meaning.specs.declared.end.Flow.TheVariants.{Next, Return}
use Rattle.c_meaning.specs.declared.end.Stop.TheVariants as stop
use Rattle.c_meaning.specs.State.{State, tail_of}
use Rattle.c_meaning.specs.Results.{Got, Gives, Stops, then_do, turn, untyped, present}
use Rattle.c_meaning.specs.Layout.{variable_kind}
use Rattle.c_meaning.specs.Operators.{converted}
use Rattle.c_meaning.specs.Firsts.{First, quiet, heard, at_block, noted_block, noted_begun}
use Rattle.c_meaning.specs.Counts.{past_name, past_param, past_params, past_external}
use Rattle.c_meaning.specs.Knot.{Knot}
use Rattle.c_meaning.specs.Declarations.{make, bind, next_variable, scalar_written}
use Rattle.c_meaning.specs.Statements.{scope_closed, marks_log, compound_flow, loop_turn}

-- ---- programs

pub record Source : Type 0 where
  pub unit : UnitShape
  pub tables : TablesShape

-- a function's parameters, body, and the block probes in front of it, with what stands before its parameters
pub record Routine : Type 0 where
  pub params : DeclFormShape
  pub marks : List ProbeMark
  pub body : CompoundShape
  pub first : First

-- in the function of that number
abbrev pub inside_function : ℕ → First → First
inside_function f (quiet n) = quiet n
inside_function f (heard c w) = heard (in_function f) w

abbrev pub routine_in : TablesShape → ℕ → First → List ExternalShape → Option Routine
routine_in t f i [] = None
routine_in t f i (declared d ∷ rest) = routine_in t f (past_external t (declared d) i) rest
routine_in t f i (defined specs (declarator stars x d e) ms c ∷ rest) =
    if nat_eq (function_of t (text_of x)) f
    then Some (record { params = d; marks = ms; body = c; first = inside_function f i })
    else routine_in t f (past_external t (defined specs (declarator stars x d e) ms c) i) rest

-- the function of that number, where this stands before the program
abbrev pub routine : Source → First → ℕ → Option Routine
routine P i f = routine_in P.tables f i P.unit.externals

-- ---- parameters

-- a parameter's instance is made, and its argument is written
abbrev pub given_variable : TablesShape → DeclShape → First → Value → TypeOf → State → Got Flow
given_variable t (decl p specs (more_declarators (declarator stars x (arrays ls) e) no_declarators)) i v k s =
    then_do (make t k s) (λ j s. scalar_written x (past_name i) j v (bind (next_variable i) j s))
given_variable t d i v k s = untyped s

abbrev pub given : TablesShape → DeclShapes → First → List Value → State → Got Flow
given t no_decls i [] s = Gives Next s
given t (more_decls d rest) i (v ∷ vs) s =
    then_do (present (variable_kind t (next_variable i)) s) (λ k s. then_do (given_variable t d i v k s) (λ f. given t rest (past_param t d i) vs))
given t ds i vs s = untyped s

abbrev pub given_params : TablesShape → ParamsShape → First → List Value → State → Got Flow
given_params t (params ds) i vs s = given t ds i vs s
given_params t ps i [] s = Gives Next s
given_params t ps i vs s = untyped s

abbrev pub given_all : TablesShape → DeclFormShape → First → List Value → State → Got Flow
given_all t (function ps) i vs s = given_params t ps i vs s
given_all t (arrays ls) i vs s = untyped s

-- ---- calls

-- the next activation is active, in the scope of its parameters
abbrev pub activated : ℕ → State → State
activated f s = record s { last = suc s.last; calls = record { function = f; activation = suc s.last; scopes = [] ∷ [] } ∷ s.calls }

-- up to the body
abbrev pub entered : TablesShape → ℕ → Routine → List Value → State → Got Flow
entered t f r vs s =
    if nat_lt (length s.calls) 4000 then given_all t r.params r.first vs (noted_begun r.first f (activated f s)) else Stops stop.Depth s

-- behind the parameters
abbrev pub past_signature : TablesShape → DeclFormShape → First → First
past_signature t (function ps) i = past_params t ps i
past_signature t (arrays ls) i = i

-- a function's body is a block
abbrev pub body_flow : TablesShape → Knot → List ProbeMark → CompoundShape → First → State → Got Flow
body_flow t k ms (braces p ds items) i s =
    marks_log ms (noted_block true i s) (λ s. turn s (compound_flow t k (braces p ds items) (at_block true p i)))

-- the parameters' instances end, and the caller is active
abbrev pub left : State → State
left s = let c = scope_closed s in record c { calls = tail_of c.calls }

abbrev pub result_in : Option FunctionShape → TypeOf
result_in None = nothing
result_in (Some f) = f.result

-- the result, converted to what the function gives
abbrev pub returned : TypeOf → Flow → State → Got (Option Value)
returned k (Return (Some v)) s = Gives (Some (converted k v)) (left s)
returned k (Return None) s = Gives None (left s)
returned k Next s = Gives None (left s)
returned k f s = untyped s

abbrev pub called_routine : TablesShape → Knot → ℕ → Routine → List Value → State → Got (Option Value)
called_routine t k f r vs s =
    then_do (entered t f r vs s) (λ g s. then_do (body_flow t k r.marks r.body (past_signature t r.params r.first) s) (returned (result_in (row t.functions f))))

abbrev pub called_found : TablesShape → Knot → ℕ → Option Routine → List Value → State → Got (Option Value)
called_found t k f None vs s = untyped s
called_found t k f (Some r) vs s = called_routine t k f r vs s

-- ---- the knot

-- calls and loops within a number of turns
abbrev pub knot : Source → First → ℕ → Knot
knot P i zero = record { call = λ f vs s. Stops stop.Turns s; again = λ l s. Stops stop.Turns s }
knot P i (suc n) = record { call = λ f vs s. called_found P.tables (knot P i n) f (routine P i f) vs s; again = loop_turn P.tables (knot P i n) }

-- within the turns that are left
unfoldable pub calls : Source → First → Knot
calls P i = record { call = λ f vs s. (knot P i (suc s.turns)).call f vs s; again = λ l s. (knot P i (suc s.turns)).again l s }
