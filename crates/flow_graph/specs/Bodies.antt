-- A function's parameters and its body, wherever they lead.
use Rattle.std.specs.Prelude.{◌≡◌, ℕ, List, [], ◌∷◌, Some, None}
use Rattle.c_syntax.specs.Shape.{DeclFormShape, CompoundShape, braces}
use Rattle.c_tables.specs.Tables.{TablesShape}
use Rattle.c_walk.specs.declared.around.Around.{Around}
use Rattle.c_walk.specs.Walked.{Walked, with_block}
use Rattle.c_walk.specs.Counted.{next_block}
use Rattle.c_walk.specs.Stating.{walk_compound}
use Rattle.c_walk.specs.Units.{define_parameters}
use Rattle.flow_walks.specs.declared.action.Action.TheVariants.{Block}
use Rattle.flow_walks.specs.Comes.{leave, Comes, act, emit}
use Rattle.flow_walks.specs.Statements.{Exits, compound_goes}
use Rattle.flow_walks.specs.Walks.{parameters_go}
use Rattle.flow_rows.specs.Paths.{Graph, HasRow}
use Rattle.flow_rows.specs.Laying.{IsWithin, LaidAt}

-- a body is a block
abbrev pub block_goes : TablesShape → Around → CompoundShape → Walked → Exits → Comes
block_goes t c (braces p ds items) s x = emit (act (Block (next_block s))) (compound_goes t c (braces p ds items) (with_block p s) x)

abbrev pub walk_block : TablesShape → Around → CompoundShape → Walked → Walked
walk_block t c (braces p ds items) s = walk_compound t c (braces p ds items) (with_block p s)

-- the parameters, and then the body
abbrev pub whole_goes : TablesShape → Around → DeclFormShape → CompoundShape → Walked → Exits → Comes
whole_goes t c d b s x = parameters_go t c.function d s (block_goes t c b (define_parameters t c.function d s) x)

abbrev pub walk_whole : TablesShape → Around → DeclFormShape → CompoundShape → Walked → Walked
walk_whole t c d b s = walk_block t c b (define_parameters t c.function d s)

-- the rows around a function: row 0, which leads to its first one; one that leads to itself, behind which nothing comes; and the one at
-- which the body has been left
pub record Framed (g : Graph) (start stop last : ℕ) : Type 0 where
  pub within : IsWithin g
  pub begins : HasRow g 0 None (start ∷ [])
  pub stops : LaidAt g stop (λ k. k stop)
  pub left : HasRow g last (Some leave) (stop ∷ [])
  pub alone : (i : ℕ) (ts : List ℕ) → HasRow g i (Some leave) ts → i ≡ last
