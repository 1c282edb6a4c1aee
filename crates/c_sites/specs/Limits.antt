-- How many items there may be.
use Rattle.std.specs.Prelude.{ℕ, ◌+◌, ◌-◌, ◌^◌, ◌||◌, min, List, [], ◌∷◌, length, nat_lt, Bool, Option, Some, None, if◌then◌else◌}
use Rattle.c_base.specs.declared.place.Pos.{Pos}
use Rattle.c_tables.specs.Tables.{StructShape}
use Rattle.c_sites.specs.declared.limits.Counts.{Counts}
use Rattle.c_walk.specs.Items.{Direct, Item, block, decision, def, used}
use Rattle.c_sites.specs.Names.{site_leaves}

abbrev pub no_counts : Counts
no_counts = record { blocks = 0; decisions = 0; defs = 0; uses = 0; names = 0 }

-- counts are kept up to the greatest number of 32 bits
abbrev pub kept : ℕ → ℕ
kept n = min n (2 ^ 32 - 1)

abbrev pub with_names : List StructShape → Option Direct → Counts → Counts
with_names rows d c = record c { names = kept (c.names + length (site_leaves rows d)) }

-- each site's leaf names are counted by themselves
abbrev pub with_one : List StructShape → Item → Counts → Counts
with_one rows (block p) c = record c { blocks = kept (c.blocks + 1) }
with_one rows (decision p o) c = record c { decisions = kept (c.decisions + 1) }
with_one rows (def p f d) c = with_names rows d (record c { defs = kept (c.defs + 1) })
with_one rows (used p f d o) c = with_names rows d (record c { uses = kept (c.uses + 1) })

-- more than 16,383 of a kind, or more than 100,000,000 leaf names
abbrev pub too_many : Counts → Bool
too_many c =
    nat_lt 16383 c.blocks || (nat_lt 16383 c.decisions || (nat_lt 16383 c.defs || (nat_lt 16383 c.uses || nat_lt 100000000 c.names)))

abbrev pub place_of : Item → Pos
place_of (block p) = p
place_of (decision p o) = p
place_of (def p f d) = p
place_of (used p f d o) = p

-- the place of the item, behind so many, with which there are too many
abbrev pub excess : List StructShape → Counts → List Item → Option Pos
excess rows c [] = None
excess rows c (i ∷ rest) = if too_many (with_one rows i c) then Some (place_of i) else excess rows (with_one rows i c) rest
