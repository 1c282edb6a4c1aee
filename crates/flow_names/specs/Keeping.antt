-- Steps behind which names stand for what they stood for.
use Rattle.std.specs.Prelude.{◌≡◌, ℕ, List, Option}
use Rattle.c_syntax.specs.Shape.{NodeShape}
use Rattle.c_store.specs.declared.value.Value.{Value}
use Rattle.c_store.specs.declared.value.Pointer.{Pointer}
use Rattle.c_tables.specs.Tables.{TablesShape}
use Rattle.c_walk.specs.declared.around.Taken.{Taken}
use Rattle.c_meaning.specs.State.{State}
use Rattle.c_meaning.specs.Results.{Gives}
use Rattle.c_meaning.specs.Firsts.{First}
use Rattle.c_meaning.specs.Knot.{Knot}
use Rattle.c_meaning.specs.Expressions.{meaning}
use Rattle.c_meaning.specs.Calls.{Source, calls}

-- the active calls and their scopes are as they were, and so are the variables of file scope
pub record HasSameNames (s u : State) : Type 0 where
  pub calls : u.calls ≡ s.calls
  pub file : u.file ≡ s.file

-- behind each call
pub record KeepsNames (k : Knot) : Type 0 where
  pub by : (f : ℕ) (vs : List Value) (s u : State) (v : Option Value) → k.call f vs s ≡ Gives v u → HasSameNames s u

-- ---- the laws

-- the calls of a program do
abbrev pub CallsKeepNames : Type 0
CallsKeepNames = (P : Source) (i : First) → KeepsNames (calls P i)

-- and so each expression does, as a value and as a place
abbrev pub ExpressionsKeepNames : Type 0
ExpressionsKeepNames = (t : TablesShape) (k : Knot) → KeepsNames k → (a : NodeShape)
    → ((i : First) (s u : State) (v : Option Value) → (meaning t k a).value i s ≡ Gives v u → HasSameNames s u) × ((r : Taken) (i : First) (s u : State) (q : Pointer) → (meaning t k a).place r i s ≡ Gives q u → HasSameNames s u)
