-- How many items of a kind were counted so far, and the number of the next one.
use Rattle.std.specs.Prelude.{ℕ, suc, List, [], ◌∷◌}
use Rattle.c_walk.specs.Items.{Item, block, def, used}
use Rattle.c_walk.specs.Walked.{Walked}

abbrev pub block_count : List Item → ℕ
block_count [] = 0
block_count (block p ∷ items) = suc (block_count items)
block_count (i ∷ items) = block_count items

abbrev pub def_count : List Item → ℕ
def_count [] = 0
def_count (def p f d ∷ items) = suc (def_count items)
def_count (i ∷ items) = def_count items

abbrev pub use_count : List Item → ℕ
use_count [] = 0
use_count (used p f d o ∷ items) = suc (use_count items)
use_count (i ∷ items) = use_count items

-- the number of the next block, definition or use
abbrev pub next_block : Walked → ℕ
next_block w = suc (block_count w.items)

abbrev pub next_def : Walked → ℕ
next_def w = suc (def_count w.items)

abbrev pub next_use : Walked → ℕ
next_use w = suc (use_count w.items)
