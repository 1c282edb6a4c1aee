-- How many outcomes a program's decisions have: no more than the program has tokens.
use Rattle.std.specs.Prelude.{◌≤◌, ℕ, List, [], ◌∷◌, length}
use Rattle.c_base.specs.declared.labels.OutcomeLabel.{OutcomeLabel}
use Rattle.c_syntax.specs.Shape.{UnitShape}
use Rattle.c_syntax.specs.Grammar.{tokens_of}
use Rattle.c_tables.specs.Tables.{TablesShape}
use Rattle.c_walk.specs.Items.{Item, block, decision, def, used, labels}
use Rattle.c_walk.specs.Units.{items_of}

-- no outcome's number is above the limit
abbrev pub AreWithin : ℕ → List (ℕ × OutcomeLabel) → Type 0
AreWithin limit [] = Unit {0}
AreWithin limit (l ∷ ls) = (l.0 ≤ limit) × AreWithin limit ls

-- nor one of an item, if it is a decision
abbrev pub IsWithin : ℕ → Item → Type 0
IsWithin limit (decision p o) = AreWithin limit (labels o)
IsWithin limit (block p) = Unit {0}
IsWithin limit (def p f d) = Unit {0}
IsWithin limit (used p f d o) = Unit {0}

abbrev pub AllWithin : ℕ → List Item → Type 0
AllWithin limit [] = Unit {0}
AllWithin limit (i ∷ is) = IsWithin limit i × AllWithin limit is

-- in a unit of so many tokens, whatever its tables are
abbrev pub OutcomesAreFew : Type 0
OutcomesAreFew = (t : TablesShape) (u : UnitShape) (limit : ℕ) → 2 ≤ limit → length (tokens_of u) ≤ limit → AllWithin limit (items_of t u)
