-- The four kinds of items, each in a list of its own, where these are the different leaf names.
use Rattle.std.specs.Prelude.{◌++◌, List, [], ◌∷◌}
use Rattle.c_base.specs.declared.place.Pos.{Pos}
use Rattle.c_tables.specs.Tables.{StructShape}
use Rattle.c_walk.specs.Items.{labels, Item, block, decision, def, used}
use Rattle.c_sites.specs.Names.{LeafName}
use Rattle.c_sites.specs.Kinds.{Decision, DefSite, def_site, UseSite, use_site, blocks, decisions, defs, uses}

pub record Lists : Type 0 where
  pub blocks : List Pos
  pub decisions : List Decision
  pub defs : List DefSite
  pub uses : List UseSite

abbrev pub lists_of : List LeafName → List StructShape → List Item → Lists
lists_of ns rows is = record { blocks = blocks is; decisions = decisions is; defs = defs ns rows is; uses = uses ns rows is }

-- one more item
abbrev pub added : List LeafName → List StructShape → Item → Lists → Lists
added ns rows (block p) l = record l { blocks = l.blocks ++ p ∷ [] }
added ns rows (decision p o) l = record l { decisions = l.decisions ++ record { pos = p; labels = labels o } ∷ [] }
added ns rows (def p f d) l = record l { defs = l.defs ++ def_site ns rows p f d ∷ [] }
added ns rows (used p f d o) l = record l { uses = l.uses ++ use_site ns rows p f d o ∷ [] }

-- those of one behind those of the other
abbrev pub joined : Lists → Lists → Lists
joined a b = record { blocks = a.blocks ++ b.blocks; decisions = a.decisions ++ b.decisions; defs = a.defs ++ b.defs; uses = a.uses ++ b.uses }
