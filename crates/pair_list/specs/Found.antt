-- The same pairs by the rows of a function.
use Rattle.std.specs.Prelude.{ℕ, List, ◌≡◌}
use Rattle.flow_walks.specs.declared.action.Action.TheVariants.{Define, Use}
use Rattle.flow_marks.specs.declared.flow.FlowRow.{FlowRow}
use Rattle.flow_marks.specs.Paths.{action_at, Spells, Leads, IsReached}
use Rattle.c_sites.specs.declared.numbered.Sites.{Sites}
use Rattle.pair_list.specs.declared.pairs.Pair.{Pair}
use Rattle.pair_list.specs.Listed.{Ends, Share, IsPair}

-- from a row of the definition, which is reached, rows that don't end what was defined lead to a row of the use
pub record IsFound (g : List FlowRow) (s : Sites) (f d u : ℕ) : Type 0 where
  pub variable : ℕ
  pub name : ℕ
  pub sites : Share s f variable name d u
  pub from : ℕ
  pub to : ℕ
  pub reached : IsReached g from
  pub defines : action_at g from ≡ Define d
  pub uses : action_at g to ≡ Use u
  pub leads : Leads g (λ row. Ends s variable name (action_at g row)) from to

-- the pair, by rows
abbrev pub IsFoundPair : List FlowRow → Sites → ℕ → Pair → Type 0
IsFoundPair g s f p = IsFound g s f p.def p.used

-- the pair, by what the paths from row 0 spell
abbrev pub IsSpelledPair : List FlowRow → Sites → ℕ → Pair → Type 0
IsSpelledPair g s f p = IsPair (Spells g 0) s f p.def p.used
