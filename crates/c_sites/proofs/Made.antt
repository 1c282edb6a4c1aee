-- The sites of a list of items.
use Rattle.std.proofs.Common.{◌≡◌, List, map, ap, ◌∙◌}
use Rattle.std.specs.String.{string_bytes}
use Rattle.c_tables.specs.Tables.{StructShape}
use Rattle.c_walk.specs.Items.{Item}
use Rattle.c_sites.specs.declared.numbered.Sites.{Sites}
use Rattle.c_sites.specs.Names.{LeafName}
use Rattle.c_sites.specs.Numbers.{names_of}
use Rattle.c_sites.specs.Lists.{lists_of}
use Rattle.c_sites.specs.ListsView.{lists_shape}
use Rattle.c_sites.specs.Spelled.{spelling}
use Rattle.c_sites.specs.Refused.{AreNumbered}
use Rattle.c_sites.proofs.Apart.{are_apart, are_spelled}

pub all_made : (rows : List StructShape) (is : List Item) (ns : List LeafName) (s : Sites) → ns ≡ names_of rows is → lists_shape s.lists ≡ lists_of ns rows is
    → map string_bytes s.texts.items ≡ map spelling ns → AreNumbered rows is s
all_made rows is ns s e shape texts = record {
  lists = shape ∙ ap (λ ns. lists_of ns rows is) e;
  apart = are_apart rows is;
  texts = are_spelled rows is (map string_bytes s.texts.items) (texts ∙ ap (map spelling) e);
}
