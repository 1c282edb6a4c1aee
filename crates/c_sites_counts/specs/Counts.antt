-- How many blocks, decisions, definitions and uses a program has.
use Rattle.std.specs.Prelude.{◌≡◌, ℕ, ◌+◌, ◌-◌, ◌^◌, min, List, [], ◌∷◌, length, Option, Some, None}
use Rattle.c_syntax.specs.View.{unit_shape}
use Rattle.c_tables.specs.Tables.{tables_shape}
use Rattle.c_tree.specs.declared.program.Program.{Program}
use Rattle.c_walk.specs.Items.{Item, block, decision, def, used}
use Rattle.c_walk.specs.Units.{items_of}
use Rattle.c_sites.specs.Lists.{Lists, lists_of}
use Rattle.c_sites.specs.Numbers.{names_of}
use Rattle.c_sites.specs.Refused.{refusal_of}
use Rattle.c_sites_counts.specs.declared.counting.SiteCounts.{SiteCounts}

-- of lists of them
abbrev pub counts_in : Lists → SiteCounts
counts_in l = record { blocks = length l.blocks; decisions = length l.decisions; defs = length l.defs; uses = length l.uses }

-- nothing refuses the program's sites, and there are so many
pub record AreCounts (p : Program) (n : SiteCounts) : Type 0 where
  pub clean : refusal_of p ≡ None
  pub are : let rows = (tables_shape p.tables).structures in let is = items_of (tables_shape p.tables) (unit_shape p.unit) in n ≡ counts_in (lists_of (names_of rows is) rows is)

-- ---- item by item, up to the greatest number of 32 bits

abbrev pub no_counts : SiteCounts
no_counts = record { blocks = 0; decisions = 0; defs = 0; uses = 0 }

abbrev pub kept : ℕ → ℕ
kept n = min n (2 ^ 32 - 1)

abbrev pub with_one : Item → SiteCounts → SiteCounts
with_one (block p) c = record c { blocks = kept (c.blocks + 1) }
with_one (decision p o) c = record c { decisions = kept (c.decisions + 1) }
with_one (def p f d) c = record c { defs = kept (c.defs + 1) }
with_one (used p f d o) c = record c { uses = kept (c.uses + 1) }

abbrev pub with_all : List Item → SiteCounts → SiteCounts
with_all [] c = c
with_all (i ∷ rest) c = with_all rest (with_one i c)
