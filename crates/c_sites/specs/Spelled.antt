-- What is done to the leaf names so far where a site is named.
use Rattle.std.specs.Prelude.{◌≡◌, ℕ, ◌++◌, List, map}
use Rattle.std.specs.Str.{encode_utf8_all}
use Rattle.c_sites.specs.Names.{LeafName}
use Rattle.c_sites.specs.Numbers.{with_names, number_of}

-- a text whose characters are the bytes of a leaf name
abbrev pub spelling : LeafName → List ℕ
spelling x = encode_utf8_all x.text

-- the number of a name among these, whichever names come behind them
abbrev pub IsNumber : List LeafName → LeafName → ℕ → Type 0
IsNumber ns x n = (more : List LeafName) → n ≡ number_of (ns ++ more) x

-- leaf names are named, in their order: they are among the names from now on, and their numbers stand behind those before them
pub record AreNamed (old new : List LeafName) (xs : List LeafName) (before after : List ℕ) : Type 0 where
  pub names : new ≡ with_names old xs
  pub numbers : (more : List LeafName) → after ≡ before ++ map (number_of (new ++ more)) xs
