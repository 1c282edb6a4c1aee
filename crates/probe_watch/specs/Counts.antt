-- How often each block was entered: a line for each block that a list of events has, by number. A count stops at the greatest
-- number of 64 bits.
use Rattle.std.specs.Prelude.{◌≡◌, ℕ, ◌+◌, ◌-◌, ◌^◌, ◌≤◌, min, max, Bool, false, zero, suc, nat_eq, List, [], ◌∷◌, ◌++◌, length, count_by, slice_index, if◌then◌else◌}
use Rattle.c_events.specs.declared.events.Event.{Event}
use Rattle.c_events.specs.declared.events.Event.TheVariants as event
use Rattle.probe_watch.specs.Texts.{count_line}

-- the event is the entry of that block
abbrev pub enters : ℕ → Event → Bool
enters k (event.Block j) = nat_eq j k
enters k (event.Def d c) = false
enters k (event.Use u c a) = false
enters k (event.Test j o a) = false

-- how often the list has that block
abbrev pub times : ℕ → List Event → ℕ
times k h = min (count_by (enters k) h) (2 ^ 64 - 1)

-- the least number that is above that of each block in the list
abbrev pub past_block : Event → ℕ
past_block (event.Block j) = j + 1
past_block (event.Def d c) = 0
past_block (event.Use u c a) = 0
past_block (event.Test j o a) = 0

abbrev pub past_blocks : List Event → ℕ
past_blocks [] = 0
past_blocks (e ∷ h) = max (past_block e) (past_blocks h)

-- the line of a block, where the list has it
abbrev pub line_of : ℕ → ℕ → List ℕ
line_of k n = if nat_eq n 0 then [] else count_line k n

-- the lines of the blocks below a number
abbrev pub lines_below : ℕ → List Event → List ℕ
lines_below zero h = []
lines_below (suc k) h = lines_below k h ++ line_of k (times k h)

abbrev pub counts_text : List Event → List ℕ
counts_text h = lines_below (past_blocks h) h

-- a table by number has how often the list has each block
pub record Counts (counts : List ℕ) (h : List Event) : Type 0 where
  pub far : past_blocks h ≤ length counts
  pub each : (k : ℕ) → slice_index counts k ≡ times k h
