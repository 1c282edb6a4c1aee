-- The leaf names of a site: those of the integers and pointers that its place holds (C89, 3.1.2.5).
use Rattle.std.specs.Prelude.{ℕ, zero, suc, ◌+◌, ◌++◌, List, [], ◌∷◌, map, length, Option, Some, None}
use Rattle.c_syntax.specs.declared.text.Text.{Text}
use Rattle.c_syntax.specs.Shape.{TypeOf, int, pointer, array, structure, nothing}
use Rattle.c_tables.specs.Tables.{StructShape, FieldShape}
use Rattle.c_tables.specs.Rows.{row, fields_in}
use Rattle.c_walk.specs.Items.{Direct, Item, block, decision, def, used}
use Rattle.c_walk.specs.Places.{element_text, field_text}

-- of each field of a place with that name, where these are the leaf names of what has that name and type
abbrev pub field_leaves : (Text → TypeOf → List Text) → Text → List FieldShape → List Text
field_leaves inner x [] = []
field_leaves inner x (f ∷ fs) = inner (x ++ field_text f.name) f.kind ++ field_leaves inner x fs

abbrev pub type_leaves : (Text → TypeOf → List Text) → List StructShape → Text → TypeOf → List Text
type_leaves inner rows x (int k) = x ∷ []
type_leaves inner rows x (pointer t) = x ∷ []
type_leaves inner rows x (array t n) = type_leaves inner rows (x ++ element_text) t
type_leaves inner rows x (structure n) = field_leaves inner x (fields_in (row rows n))
type_leaves inner rows x nothing = []

-- of a place with that name and type, in which structures lie no deeper one in another than that
abbrev pub leaves : ℕ → List StructShape → Text → TypeOf → List Text
leaves zero rows x t = []
leaves (suc depth) rows x t = type_leaves (leaves depth rows) rows x t

-- no structure lies in itself
abbrev pub depth_of : List StructShape → ℕ
depth_of rows = length rows + 1

abbrev pub site_leaves : List StructShape → Option Direct → List Text
site_leaves rows None = []
site_leaves rows (Some d) = leaves (depth_of rows) rows d.name d.kind

-- ---- with their variables

pub record LeafName : Type 0 where
  pub variable : ℕ
  pub text : Text

abbrev pub leaf_name : ℕ → Text → LeafName
leaf_name v x = record { variable = v; text = x }

abbrev pub site_names : List StructShape → Option Direct → List LeafName
site_names rows None = []
site_names rows (Some d) = map (leaf_name d.variable) (site_leaves rows (Some d))

-- of a direct place itself, by its own name
abbrev pub own_names : Option Direct → List LeafName
own_names None = []
own_names (Some d) = leaf_name d.variable d.name ∷ []

-- a use has its own name too, which is that of its one leaf where it is an integer or a pointer
abbrev pub item_names : List StructShape → Item → List LeafName
item_names rows (block p) = []
item_names rows (decision p o) = []
item_names rows (def p f d) = site_names rows d
item_names rows (used p f d o) = own_names d ++ site_names rows d

-- those of the sites of a list, one site's behind the other's
abbrev pub all_names : List StructShape → List Item → List LeafName
all_names rows [] = []
all_names rows (i ∷ is) = item_names rows i ++ all_names rows is
