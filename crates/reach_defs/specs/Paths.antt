-- Rows that give and stop marks, and the paths that marks take.
use Rattle.std.specs.Prelude.{ℕ, zero, suc, List, [], Option, Some, None, slice_get, Contains}
use Rattle.reach_defs.specs.declared.rows.ReachRow.{ReachRow}

abbrev pub gives_of : Option ReachRow → List ℕ
gives_of None = []
gives_of (Some row) = row.gives

abbrev pub stops_of : Option ReachRow → List ℕ
stops_of None = []
stops_of (Some row) = row.stops

abbrev pub next_of : Option ReachRow → List ℕ
next_of None = []
next_of (Some row) = row.next

abbrev pub Gives : List ReachRow → ℕ → ℕ → Type 0
Gives rows row mark = Contains (gives_of (slice_get rows row)) mark

abbrev pub Stops : List ReachRow → ℕ → ℕ → Type 0
Stops rows row mark = Contains (stops_of (slice_get rows row)) mark

abbrev pub IsEdge : List ReachRow → ℕ → ℕ → Type 0
IsEdge rows from to = Contains (next_of (slice_get rows from)) to

-- a path of n + 1 edges, on which no row strictly between stops the mark
abbrev pub Path : List ReachRow → ℕ → ℕ → ℕ → ℕ → Type 0
Path rows mark from to zero = IsEdge rows from to
Path rows mark from to (suc n) = (last : ℕ) × Path rows mark from last n × (Stops rows last mark → ⊥) × IsEdge rows last to

-- some row gives the mark, and such a path leads from it to this row
abbrev pub Arrives : List ReachRow → ℕ → ℕ → Type 0
Arrives rows to mark = (from n : ℕ) × Gives rows from mark × Path rows mark from to n

-- each mark that a row gives is in the list
abbrev pub IsListed : List ReachRow → List ℕ → Type 0
IsListed rows marks = (row mark : ℕ) → Gives rows row mark → Contains marks mark
