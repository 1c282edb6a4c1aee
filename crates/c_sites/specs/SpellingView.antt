-- What is done to a site, and to the leaf names so far, where leaf names of it are named.
use Rattle.std.specs.Prelude.{◌≡◌, List, map}
use Rattle.c_syntax.specs.declared.text.Text.{Text}
use Rattle.c_sites.specs.declared.naming.Spelling.{Spelling}
use Rattle.c_sites.specs.Names.{LeafName, leaf_name}
use Rattle.c_sites.specs.Spelled.{AreNamed}

-- the part that is reached is the same afterwards
pub record IsNamed (old new : List LeafName) (s t : Spelling) (xs : List Text) : Type 0 where
  pub variable : t.variable ≡ s.variable
  pub text : t.text.items ≡ s.text.items
  pub named : AreNamed old new (map (leaf_name s.variable) xs) s.numbers t.numbers
