-- Programs: each string and each list that initialises a local variable gives it a value.
use Rattle.std.specs.Prelude.{◌≡◌, ℕ, ◌+◌, List, length, true, false, Option}
use Rattle.c_syntax.specs.declared.tree.Named.{Named}
use Rattle.c_syntax.specs.declared.tree.Star.{Star}
use Rattle.c_syntax.specs.Shape.{TypeOf, DeclaratorShape, declarator, DeclFormShape, ParamsShape, MaybeInit}
use Rattle.c_syntax.specs.Shaped.{ShapedParams}
use Rattle.c_tree.specs.State as typing
use Rattle.c_tree.specs.Declaring.{type_function}
use Rattle.c_tree.specs.Units.{begun_function}
use Rattle.c_tree.specs.Programs.{IsProgram}
use Rattle.c_meaning.specs.declared.end.Flow.{Flow}
use Rattle.c_meaning.specs.State.{State, start}
use Rattle.c_meaning.specs.Results.{Gives}
use Rattle.c_meaning.specs.Counts.{signature_variables}
use Rattle.c_meaning.specs.Calls.{Source}
use Rattle.c_meaning.specs.Runs.{all_made, audible}
use Rattle.probe_laws.proofs.Settled.{IsThere, IsClean}
use Rattle.probe_laws.proofs.Known.{Knows}
use Rattle.flow_values.specs.Initialised.{AreInitialised}
use Rattle.flow_values.specs.Bodies.{ConstantsHaveValues}

abbrev pub form_of : DeclaratorShape → DeclFormShape
form_of (declarator stars x d i) = d

-- each parameter of a function of which nothing is complained gets a row where its body begins
abbrev pub ParametersHaveRows : Type 0
ParametersHaveRows = (k : Option TypeOf) (stars : List Star) (x : Option Named) (ps : ParamsShape) (i : MaybeInit) (s : typing.State) → ShapedParams ps → IsThere k → Knows false s → IsClean (type_function true k stars x ps i s).state
    → length (begun_function (type_function true k stars x ps i s) (type_function true k stars x ps i s).state).tables.variables
    ≡ length (type_function true k stars x ps i s).state.tables.variables + signature_variables (form_of (type_function true k stars x ps i s).name)

-- once the objects of file scope are made, what typing takes for a constant initialiser has a value
abbrev pub ProgramConstantsHaveValues : Source → Type 0
ProgramConstantsHaveValues P = (input : List ℕ) (limit : ℕ) (f : Flow) (s : State) → all_made P audible (start input limit) ≡ Gives f s → ConstantsHaveValues P.tables s.file

-- these two suffice for what is asked of programs of the checker
abbrev pub AcceptedIsInitialised : Type 0
AcceptedIsInitialised = ParametersHaveRows → (P : Source) → IsProgram P.unit P.tables → ProgramConstantsHaveValues P → AreInitialised P
