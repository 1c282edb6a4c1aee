-- Values that were seen: whether another one is new, and they with it.
use Rattle.std.specs.Prelude.{ℤ, Bool, true, not, List, [], ◌∷◌, ◌++◌, Option, Some, None}
use Rattle.std.specs.List.{list_any}
use Rattle.std.specs.Ordering.{int_eq}

abbrev pub is_fresh : List ℤ → Option ℤ → Bool
is_fresh seen None = true
is_fresh seen (Some v) = not (list_any (int_eq v) seen)

abbrev pub with_seen : List ℤ → Option ℤ → List ℤ
with_seen seen None = seen
with_seen seen (Some v) = seen ++ v ∷ []
