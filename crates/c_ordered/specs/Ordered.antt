-- The items of a program, by the parts of its unit in preorder.
use Rattle.std.specs.Prelude.{◌≡◌, ◌↔◌, ℕ, List, [], ◌∷◌, map, filter, flat_map, Bool, Option, Some, None, option_map}
use Rattle.c_base.specs.declared.place.Pos.{Pos}
use Rattle.c_syntax.specs.Shape.{node, UnitShape}
use Rattle.c_tables.specs.Tables.{TablesShape}
use Rattle.c_tables.specs.Rows.{text_of}
use Rattle.c_walk.specs.Items as walk
use Rattle.c_walk.specs.Items.{Direct, Item}
use Rattle.c_walk.specs.Places.{direct_form}
use Rattle.c_walk.specs.Stating.{whole}
use Rattle.c_walk.specs.Units.{function_of, items_of}
use Rattle.c_ordered.specs.Trees.{Path, at, Standing, preorder, AreInOrder, IsIn}
use Rattle.c_ordered.specs.Holders.{holder, IsInnermost}
use Rattle.c_ordered.specs.Parts.{Part, What, expression, name, definition, place_of, Kind, block, decision, def, used, kinds, is_block, is_decision, is_variable, is_definition}
use Rattle.c_ordered.specs.Outlines.{of_unit}

-- the parts of a unit in preorder
abbrev pub parts_of : UnitShape → List (Standing Part)
parts_of u = preorder (of_unit u)

-- ---- what is said of a part beside its kinds

abbrev pub function_named : TablesShape → What → ℕ
function_named t (definition x) = function_of t (text_of x)
function_named t w = 0

-- the number of the function that holds it, or 0
abbrev pub function_in : TablesShape → Option (ℕ × Part) → ℕ
function_in t None = 0
function_in t (Some h) = function_named t h.1.what

-- the number of the decision that it is or that holds it
abbrev pub owner_in : Option (ℕ × Part) → Option ℕ
owner_in h = option_map (λ d. d.0) h

-- the variable of that number as a whole
abbrev pub variable_in : TablesShape → Option (ℕ × Part) → Option Direct
variable_in t None = None
variable_in t (Some h) = whole t h.0

-- a direct place; a declared name's is its variable
abbrev pub direct_in : TablesShape → Option (ℕ × Part) → What → Option Direct
direct_in t v (expression (node p o n f)) = direct_form n f
direct_in t v (name x) = variable_in t v
direct_in t v w = None

-- ---- its items

abbrev pub item : Pos → ℕ → Option ℕ → Option Direct → Kind → Item
item p f o d block = walk.block p
item p f o d (decision m) = walk.decision p m
item p f o d def = walk.def p f d
item p f o d used = walk.used p f d o

-- each stands at the part's own place, where these hold the part: a function, a decision, and the variable that it declares
abbrev pub items_with : TablesShape → Option (ℕ × Part) → Option (ℕ × Part) → Option (ℕ × Part) → Part → List Item
items_with t f o v x = map (item (place_of x.what) (function_in t f) (owner_in o) (direct_in t v x.what)) (kinds x)

-- the items of one of these parts
abbrev pub items_at : TablesShape → List (Standing Part) → Standing Part → List Item
items_at t ss s = items_with t (holder is_definition ss s.path) (holder is_decision ss s.path) (holder is_variable ss s.path) s.part

-- ---- laws

-- the items are those of the parts in preorder, each part's own behind those of the parts before it
abbrev pub ItemsAreInPreorder : Type 0
ItemsAreInPreorder = (t : TablesShape) (u : UnitShape) → items_of t u ≡ flat_map (items_at t (parts_of u)) (parts_of u)

-- each part is listed where it stands, and no part twice
abbrev pub PartsAreInOrder : Type 0
PartsAreInOrder = (u : UnitShape) → AreInOrder (parts_of u)

-- a part is listed with a path exactly where the path leads to it
abbrev pub PartsAreAll : Type 0
PartsAreAll = (u : UnitShape) (s : Standing Part) → IsIn s (parts_of u) ↔ (at s.path (of_unit u) ≡ Some s.part)

-- what holds a part is the innermost part that does
abbrev pub HoldersAreInnermost : Type 0
HoldersAreInnermost = (u : UnitShape) (test : Part → Bool) (q : Path) → IsInnermost test (of_unit u) q (holder test (parts_of u) q)

-- ---- one kind alone

abbrev pub block_places : List Item → List Pos
block_places [] = []
block_places (walk.block p ∷ items) = p ∷ block_places items
block_places (i ∷ items) = block_places items

abbrev pub decision_places : List Item → List Pos
decision_places [] = []
decision_places (walk.decision p o ∷ items) = p ∷ decision_places items
decision_places (i ∷ items) = decision_places items

abbrev pub starts_block : Standing Part → Bool
starts_block s = is_block s.part.role

abbrev pub decides : Standing Part → Bool
decides s = is_decision s.part

abbrev pub place : Standing Part → Pos
place s = place_of s.part.what

-- the blocks are the parts with which a block begins: each of them once, and in preorder
abbrev pub BlocksAreParts : Type 0
BlocksAreParts = (t : TablesShape) (u : UnitShape) → let bs = filter starts_block (parts_of u) in (block_places (items_of t u) ≡ map place bs) × AreInOrder bs

-- the decisions are the parts that decide: each of them once, and in preorder
abbrev pub DecisionsAreParts : Type 0
DecisionsAreParts = (t : TablesShape) (u : UnitShape) → let ds = filter decides (parts_of u) in (decision_places (items_of t u) ≡ map place ds) × AreInOrder ds
