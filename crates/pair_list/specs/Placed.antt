-- Pairs whose sites are there.
use Rattle.std.specs.Prelude.{◌-◌, ◌≤◌, ◌≡◌, Some, length, slice_get}
use Rattle.c_sites.specs.declared.lists.UseSite.{UseSite}
use Rattle.c_sites.specs.declared.numbered.Sites.{Sites}
use Rattle.pair_list.specs.declared.pairs.Pair.{Pair}

-- both are there, and the use has a leaf name, which has a text
pub record IsPlaced (s : Sites) (p : Pair) : Type 0 where
  pub def_some : 1 ≤ p.def
  pub def_there : p.def ≤ length s.lists.defs.items
  pub use_some : 1 ≤ p.used
  pub use_there : p.used ≤ length s.lists.uses.items
  pub named : (used : UseSite) → slice_get s.lists.uses.items (p.used - 1) ≡ Some used → (1 ≤ used.name) × (used.name ≤ length s.texts.items)
