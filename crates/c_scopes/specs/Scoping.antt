-- What a name stands for (C89, 3.1.2.1): what the innermost of the open scopes that has it says.
use Rattle.std.specs.Prelude.{ℕ, Bool, List, [], ◌∷◌, ◌++◌, length, Option, None, bytes_eq, ◌==◌}
use Rattle.std.specs.Map.{lookup}
use Rattle.std.specs.Option.{option_or}
use Rattle.c_scopes.specs.Rows.{Scope, Scoped}

module _ {T : Type 0} where
  -- what one scope says of a name
  abbrev pub named : List ℕ → Scope T → Option T
  named x s = lookup (bytes_eq x) s

  -- what scopes say of it, the last of them first
  abbrev pub find_outer : List ℕ → List (Scope T) → Option T
  find_outer x [] = None
  find_outer x (s ∷ rest) = option_or (find_outer x rest) (named x s)

  abbrev pub find_here : List ℕ → Scoped T → Option T
  find_here x s = named x s.top

  abbrev pub find : List ℕ → Scoped T → Option T
  find x s = option_or (find_here x s) (find_outer x s.outer)

  -- the name is declared, in the innermost scope
  abbrev pub declared : List ℕ → T → Scoped T → Scoped T
  declared x what s = record s { top = s.top ++ (x, what) ∷ [] }

  -- all of these are declared, in order
  abbrev pub all_declared : Scope T → Scoped T → Scoped T
  all_declared [] s = s
  all_declared (row ∷ rows) s = all_declared rows (declared row.0 row.1 s)

  -- a scope is open inside the innermost one
  abbrev pub entered : Scoped T → Scoped T
  entered s = record { outer = s.outer ++ s.top ∷ []; top = [] }

  abbrev pub last_of : List (Scope T) → Scope T → Scope T
  last_of [] top = top
  last_of (s ∷ rest) top = last_of rest s

  abbrev pub but_last : List (Scope T) → List (Scope T)
  but_last [] = []
  but_last (s ∷ []) = []
  but_last (s ∷ t ∷ rest) = s ∷ but_last (t ∷ rest)

  -- the innermost scope is closed; the outermost stays
  abbrev pub left : Scoped T → Scoped T
  left s = record { outer = but_last s.outer; top = last_of s.outer s.top }

  abbrev pub closed_in : List (Scope T) → Scope T → Scope T
  closed_in [] top = []
  closed_in (s ∷ rest) top = top

  -- the names that go then
  abbrev pub closed : Scoped T → Scope T
  closed s = closed_in s.outer s.top

  -- no scope is open but the outermost
  abbrev pub outermost : Scoped T → Bool
  outermost s = length s.outer == 0
