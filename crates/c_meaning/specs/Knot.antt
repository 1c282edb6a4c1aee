-- The two things of the meaning that are no recursion over the tree: what is behind a call, and behind a loop's further turns.
use Rattle.std.specs.Prelude.{ℕ, List, Option}
use Rattle.c_syntax.specs.Shape.{MaybeNode, StmtShape}
use Rattle.c_store.specs.declared.value.Value.{Value}
use Rattle.c_meaning.specs.declared.end.Flow.{Flow}
use Rattle.c_meaning.specs.State.{State}
use Rattle.c_meaning.specs.Results.{Got}
use Rattle.c_meaning.specs.Firsts.{First}

-- a loop from its test on: the test, where there is one, the body, and what is evaluated behind the body; each with what stands before it
pub record Loop : Type 0 where
  pub test : MaybeNode
  pub at_test : First
  pub body : StmtShape
  pub at_body : First
  pub step : MaybeNode
  pub at_step : First

-- a call of the function of that number, with these arguments, gives a value or none
pub record Knot : Type 0 where
  pub call : ℕ → List Value → State → Got (Option Value)
  pub again : Loop → State → Got Flow
