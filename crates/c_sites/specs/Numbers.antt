-- The numbers of leaf names: the different ones in the order of their first sites, counted from 1.
use Rattle.std.specs.Prelude.{ℕ, ◌+◌, ◌++◌, ◌&&◌, List, [], ◌∷◌, map, nat_eq, bytes_eq, Bool, Option, if◌then◌else◌}
use Rattle.std.specs.List.{list_any, position_or_len}
use Rattle.c_tables.specs.Tables.{StructShape}
use Rattle.c_walk.specs.Items.{Direct, Item}
use Rattle.c_sites.specs.Names.{LeafName, own_names, site_names, all_names}

-- the same variable and the same text
abbrev pub same_name : LeafName → LeafName → Bool
same_name x y = nat_eq x.variable y.variable && bytes_eq x.text y.text

-- a name behind others, where it is none of them
abbrev pub with_name : List LeafName → LeafName → List LeafName
with_name ns x = if list_any (same_name x) ns then ns else ns ++ x ∷ []

abbrev pub with_names : List LeafName → List LeafName → List LeafName
with_names ns [] = ns
with_names ns (x ∷ xs) = with_names (with_name ns x) xs

-- the different leaf names of the sites in a list
abbrev pub names_of : List StructShape → List Item → List LeafName
names_of rows is = with_names [] (all_names rows is)

abbrev pub number_of : List LeafName → LeafName → ℕ
number_of ns x = position_or_len (same_name x) ns + 1

-- of the leaf names of a site, in their order
abbrev pub site_numbers : List LeafName → List StructShape → Option Direct → List ℕ
site_numbers ns rows d = map (number_of ns) (site_names rows d)

-- of the place by its own name
abbrev pub own_numbers : List LeafName → Option Direct → List ℕ
own_numbers ns d = map (number_of ns) (own_names d)

-- there is one name at most; 0 stands for none
abbrev pub first_number : List ℕ → ℕ
first_number [] = 0
first_number (n ∷ rest) = n
