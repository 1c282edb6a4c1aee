-- What is done where one more item comes.
use Rattle.std.specs.Prelude.{◌≡◌, ℕ, ◌++◌, List, Option}
use Rattle.c_base.specs.declared.place.Pos.{Pos}
use Rattle.c_tables.specs.Tables.{StructShape}
use Rattle.c_walk.specs.Items.{Direct, Item}
use Rattle.c_sites.specs.Names.{LeafName, own_names, site_names, item_names}
use Rattle.c_sites.specs.Numbers.{with_names}
use Rattle.c_sites.specs.Kinds.{DefSite, def_site, UseSite, use_site}
use Rattle.c_sites.specs.Lists.{Lists, added}

-- its leaf names are among the names from now on, whichever come behind them
pub record IsAdded (old new : List LeafName) (rows : List StructShape) (i : Item) (before after : Lists) : Type 0 where
  pub names : new ≡ with_names old (item_names rows i)
  pub lists : (more : List LeafName) → after ≡ added (new ++ more) rows i before

pub record IsDef (old new : List LeafName) (rows : List StructShape) (p : Pos) (f : ℕ) (d : Option Direct) (s : DefSite) : Type 0 where
  pub names : new ≡ with_names old (site_names rows d)
  pub site : (more : List LeafName) → s ≡ def_site (new ++ more) rows p f d

pub record IsUse (old new : List LeafName) (rows : List StructShape) (p : Pos) (f : ℕ) (d : Option Direct) (o : Option ℕ) (s : UseSite) : Type 0 where
  pub names : new ≡ with_names old (own_names d ++ site_names rows d)
  pub site : (more : List LeafName) → s ≡ use_site (new ++ more) rows p f d o
