-- The numbers of leaf names, and their texts.
use Rattle.std.specs.Prelude.{◌≡◌, ℕ, ◌-◌, ◌≤◌, ◌⊎◌, List, length, slice_get, Some, Contains}
use Rattle.std.specs.List.{Any}
use Rattle.c_tables.specs.Tables.{StructShape}
use Rattle.c_walk.specs.Items.{Item}
use Rattle.c_sites.specs.declared.lists.Lists.{Lists}
use Rattle.c_sites.specs.Names.{LeafName, all_names}
use Rattle.c_sites.specs.Numbers.{names_of, number_of}
use Rattle.c_sites.specs.Spelled.{spelling}

-- some direct site has a leaf name with that number; an indirect one has none, and 0 in a use stands for none
abbrev pub IsLeaf : Lists → ℕ → Type 0
IsLeaf l n = (1 ≤ n) × ((Any (λ d. Contains d.names n) l.defs.items) ⊎ (Any (λ u. u.name ≡ n) l.uses.items))

-- each of these numbers has a text
abbrev pub HaveTexts : Lists → List (List ℕ) → Type 0
HaveTexts l texts = (n : ℕ) → IsLeaf l n → n ≤ length texts

-- two leaf names of sites have one number only where they are the same: the same variable, and the same text
abbrev pub AreApart : List StructShape → List Item → Type 0
AreApart rows is = (x y : LeafName) → Contains (all_names rows is) x → Contains (all_names rows is) y
    → number_of (names_of rows is) x ≡ number_of (names_of rows is) y → x ≡ y

-- each leaf name of a site has its text at its number
abbrev pub AreSpelled : List StructShape → List Item → List (List ℕ) → Type 0
AreSpelled rows is texts = (x : LeafName) → Contains (all_names rows is) x
    → slice_get texts (number_of (names_of rows is) x - 1) ≡ Some (spelling x)
