-- What a program has, or why it is refused.
use Rattle.std.specs.Prelude.{◌≡◌, ℕ, ◌≤◌, List, map, length, All, Option, Some, None, IsSome}
use Rattle.std.specs.String.{string_bytes}
use Rattle.c_base.specs.declared.place.Pos.{Pos}
use Rattle.c_syntax.specs.Shape.{UnitShape}
use Rattle.c_syntax.specs.View.{unit_shape}
use Rattle.c_tables.specs.Tables.{TablesShape, StructShape, tables_shape}
use Rattle.c_tree.specs.declared.program.Program.{Program}
use Rattle.c_sites.specs.declared.numbered.Sites.{Sites}
use Rattle.c_sites.specs.declared.lists.UseSite.{UseSite}
use Rattle.c_sites.specs.declared.all_sites.SiteRefusal.{SiteRefusal}
use Rattle.c_sites.specs.declared.all_sites.SiteRefusal.TheVariants.{At, NoMemory}
use Rattle.c_sites.specs.Lists.{lists_of}
use Rattle.c_sites.specs.ListsView.{lists_shape}
use Rattle.c_walk.specs.Items.{Item}
use Rattle.c_walk.specs.Sound.{IsOwner}
use Rattle.c_walk.specs.Units.{items_of}
use Rattle.c_sites.specs.Numbers.{names_of}
use Rattle.c_sites.specs.Leaf.{AreApart, AreSpelled}
use Rattle.c_sites_probes.specs.Marked.{unit_mark}
use Rattle.c_sites.specs.Limits.{no_counts, excess}

abbrev pub at_excess : Option Pos → Option (ℕ × Pos)
at_excess None = None
at_excess (Some p) = Some (50, p)

-- 52 for a probe or a program line, else 50 for too many items
abbrev pub refusal_at : Option Pos → Option Pos → Option (ℕ × Pos)
refusal_at None q = at_excess q
refusal_at (Some p) q = Some (52, p)

abbrev pub refusal : TablesShape → UnitShape → Option (ℕ × Pos)
refusal t u = refusal_at (unit_mark u) (excess t.structures no_counts (items_of t u))

abbrev pub refusal_of : Program → Option (ℕ × Pos)
refusal_of p = refusal (tables_shape p.tables) (unit_shape p.unit)

-- the lists are those of these items, with the numbers of their leaf names: different names have different numbers, and each
-- has its text at its own
pub record AreNumbered (rows : List StructShape) (is : List Item) (s : Sites) : Type 0 where
  pub lists : lists_shape s.lists ≡ lists_of (names_of rows is) rows is
  pub apart : AreApart rows is
  pub texts : AreSpelled rows is (map string_bytes s.texts.items)

-- an owner is one of that many decisions, and a direct use has a leaf name
abbrev pub IsRead : ℕ → UseSite → Type 0
IsRead n u = IsOwner n u.owner × (IsSome u.variable → 1 ≤ u.name)

-- they are those of the program, and nothing refuses it
pub record AreSites (p : Program) (s : Sites) : Type 0 where
  pub clean : refusal_of p ≡ None
  pub reads : All (IsRead (length s.lists.decisions.items)) s.lists.uses.items
  pub numbered : AreNumbered (tables_shape p.tables).structures (items_of (tables_shape p.tables) (unit_shape p.unit)) s

abbrev pub IsRefused : Program → SiteRefusal → Type 0
IsRefused p (At number q) = refusal_of p ≡ Some (number, q)
IsRefused p NoMemory = Unit
