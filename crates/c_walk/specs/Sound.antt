-- What holds of the items of each program: an owner is one of its decisions, and a direct use is one of an integer, a pointer or a structure.
use Rattle.std.specs.Prelude.{◌≡◌, ℕ, suc, ◌≤◌, List, [], ◌∷◌, true, ◌||◌, Option, Some, None}
use Rattle.std.specs.List.{AllByRecursion}
use Rattle.c_type_rules.specs.Kinds.{is_scalar, is_structure}
use Rattle.c_walk.specs.Items.{Direct, Item, decision, used}

abbrev pub decision_count : List Item → ℕ
decision_count [] = 0
decision_count (decision p o ∷ is) = suc (decision_count is)
decision_count (i ∷ is) = decision_count is

-- a number of one of that many decisions, if it is one
abbrev pub IsOwner : ℕ → Option ℕ → Type 0
IsOwner n None = Unit
IsOwner n (Some k) = (1 ≤ k) × (k ≤ n)

abbrev pub HasValue : Option Direct → Type 0
HasValue None = Unit
HasValue (Some d) = (is_scalar d.kind || is_structure d.kind) ≡ true

-- among items with that many decisions
abbrev pub IsSound : ℕ → Item → Type 0
IsSound n (used p f d o) = IsOwner n o × HasValue d
IsSound n i = Unit

abbrev pub AreSound : List Item → Type 0
AreSound is = AllByRecursion (IsSound (decision_count is)) is
