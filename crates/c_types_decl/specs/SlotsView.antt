-- What a list may hold, wherever its types lie in memory.
use Rattle.std.specs.Prelude.{List, [], map, Bool, true, false, zero, Option, Some, None}
use Rattle.std.specs.Borrow.{Bor}
use Rattle.c_syntax.specs.declared.tree.CType.{CType}
use Rattle.c_syntax.specs.Shape.{TypeOf, array, structure}
use Rattle.c_syntax.specs.View.{type_of}
use Rattle.c_tree.specs.State.{State, fields_of}
use Rattle.c_tree.specs.Initialisers as initialisers
use Rattle.c_tree.specs.Initialisers.{repeated, these, anything}
use Rattle.c_types_decl.specs.declared.slots.Slots.{Slots}
use Rattle.c_types_decl.specs.declared.slots.Slots.TheVariants.{Repeated, These, Anything}

-- the type behind a reference, where there is one
abbrev pub type_behind : Option (Bor CType) → Option TypeOf
type_behind None = None
type_behind (Some t) = Some (type_of t.now)

abbrev pub slots_of : Slots → initialisers.Slots
slots_of (Repeated t n) = repeated (type_of t.now) n
slots_of (These ts) = these (map type_of ts.now)
slots_of Anything = anything

-- there is no room for a further item
abbrev pub is_full : initialisers.Slots → Bool
is_full (repeated t zero) = true
is_full (these []) = true
is_full l = false

-- the types of a structure's fields
abbrev pub field_types : Option TypeOf → State → List TypeOf
field_types (Some (structure n)) s = map (λ f. f.kind) (fields_of n s)
field_types k s = []

-- what a list for a type may hold, where these are the types of the fields
abbrev pub slots_with : Option TypeOf → List TypeOf → initialisers.Slots
slots_with (Some (array t n)) ts = repeated t n
slots_with (Some (structure n)) ts = these ts
slots_with k ts = anything
