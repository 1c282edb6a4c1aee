-- Each kind of item by itself, in the order of the program's tree.
use Rattle.std.specs.Prelude.{ℕ, List, [], ◌∷◌, Option, option_map}
use Rattle.c_base.specs.declared.place.Pos.{Pos}
use Rattle.c_tables.specs.Tables.{StructShape}
use Rattle.c_base.specs.declared.labels.OutcomeLabel.{OutcomeLabel}
use Rattle.c_walk.specs.Items.{Direct, labels, Item, block, decision, def, used}
use Rattle.c_sites.specs.Names.{LeafName}
use Rattle.c_sites.specs.Numbers.{site_numbers, own_numbers, first_number}

abbrev pub blocks : List Item → List Pos
blocks [] = []
blocks (block p ∷ rest) = p ∷ blocks rest
blocks (i ∷ rest) = blocks rest

pub record Decision : Type 0 where
  pub pos : Pos
  pub labels : List (ℕ × OutcomeLabel)

abbrev pub decisions : List Item → List Decision
decisions [] = []
decisions (decision p o ∷ rest) = record { pos = p; labels = labels o } ∷ decisions rest
decisions (i ∷ rest) = decisions rest

-- a site has the number of the function that it stands in, or 0; if it is direct, its variable; and its leaf names, each by its number
pub record DefSite : Type 0 where
  pub pos : Pos
  pub function : ℕ
  pub variable : Option ℕ
  pub names : List ℕ

abbrev pub variable_of : Option Direct → Option ℕ
variable_of d = option_map (λ d. d.variable) d

abbrev pub def_site : List LeafName → List StructShape → Pos → ℕ → Option Direct → DefSite
def_site ns rows p f d = record { pos = p; function = f; variable = variable_of d; names = site_numbers ns rows d }

abbrev pub defs : List LeafName → List StructShape → List Item → List DefSite
defs ns rows [] = []
defs ns rows (def p f d ∷ rest) = def_site ns rows p f d ∷ defs ns rows rest
defs ns rows (i ∷ rest) = defs ns rows rest

-- a use has the number of its own name, its leaf names, of which a scalar has that one alone, and the number of the decision whose expression holds it, the innermost one, if there is one
pub record UseSite : Type 0 where
  pub pos : Pos
  pub function : ℕ
  pub variable : Option ℕ
  pub name : ℕ
  pub names : List ℕ
  pub owner : Option ℕ

abbrev pub use_site : List LeafName → List StructShape → Pos → ℕ → Option Direct → Option ℕ → UseSite
use_site ns rows p f d o = record { pos = p; function = f; variable = variable_of d; name = first_number (own_numbers ns d); names = site_numbers ns rows d; owner = o }

abbrev pub uses : List LeafName → List StructShape → List Item → List UseSite
uses ns rows [] = []
uses ns rows (used p f d o ∷ rest) = use_site ns rows p f d o ∷ uses ns rows rest
uses ns rows (i ∷ rest) = uses ns rows rest
