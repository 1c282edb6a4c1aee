-- At most 16,383 items of each kind, so that 16 bits hold an owner's number.
use Rattle.std.specs.Prelude.{ℕ, ◌≤◌, length, Option, Some, None}
use Rattle.c_walk.specs.Items.{Item, block, decision, def, used}
use Rattle.c_sites.specs.declared.lists.Lists.{Lists}

pub record AreFew (l : Lists) : Type 0 where
  pub blocks : length l.blocks.items ≤ 16383
  pub decisions : length l.decisions.items ≤ 16383
  pub defs : length l.defs.items ≤ 16383
  pub uses : length l.uses.items ≤ 16383

abbrev pub IsShort : Option ℕ → Type 0
IsShort None = Unit
IsShort (Some k) = k ≤ 65535

abbrev pub HasShortOwner : Item → Type 0
HasShortOwner (block p) = Unit
HasShortOwner (decision p o) = Unit
HasShortOwner (def p f d) = Unit
HasShortOwner (used p f d o) = IsShort o
