-- Expressions in which the notes of places have the types of the tables' rows: those of variables, elements and fields.
use Rattle.std.specs.Prelude.{◌≡◌, Option, Some, None, option_map, if◌then◌else◌}
use Rattle.c_syntax.specs.declared.text.Text.{Text}
use Rattle.c_syntax.specs.Shape.{TypeOf, array, NoteShape, bare, typed, known, name, unary, before, size_of, dot, NodeShape, node, ExprShape, leaf, paren, call, prefix, size_of_type, cast, suffix, two, choose, probe, index, field, behind, NodeShapes, no_nodes, more_nodes, MaybeNode, no_node, one_node}
use Rattle.c_tables.specs.Tables.{TablesShape}
use Rattle.c_walk.specs.Places.{has_array}
use Rattle.c_meaning.specs.Layout.{part_in, variable_kind}

-- ---- types

-- that of a note, if it has one
abbrev pub noted_kind : NoteShape → Option TypeOf
noted_kind bare = None
noted_kind (typed k n) = Some k
noted_kind (known k v) = Some k

abbrev pub kind_of : NodeShape → Option TypeOf
kind_of (node p o n f) = noted_kind n

-- of an array's elements
abbrev pub element_in : Option TypeOf → Option TypeOf
element_in (Some (array k n)) = Some k
element_in k = None

-- of a structure's field
abbrev pub field_in : TablesShape → Text → Option TypeOf → Option TypeOf
field_in t x None = None
field_in t x (Some k) = option_map (λ p. p.kind) (part_in t x k)

-- ---- notes

-- a note that has a type has that one
abbrev pub IsTyped : NoteShape → Option TypeOf → Type 0
IsTyped bare k = Unit {0}
IsTyped (typed y n) k = k ≡ Some y
IsTyped (known y v) k = k ≡ Some y

-- of the variable that it names
abbrev pub IsVariable : TablesShape → NoteShape → Type 0
IsVariable t (typed k (Some n)) = variable_kind t n ≡ Some k
IsVariable t n = Unit {0}

-- by the form that it stands at; an element is one of whichever of the two is an array (C89, 3.3.2.1)
abbrev pub HasKind : TablesShape → NoteShape → ExprShape → Type 0
HasKind t n (leaf (name x)) = IsVariable t n
HasKind t n (paren a) = IsTyped n (kind_of a)
HasKind t n (suffix a (field dot x q)) = IsTyped n (field_in t x (kind_of a))
HasKind t n (suffix a (index b)) = IsTyped n (if has_array a then element_in (kind_of a) else if has_array b then element_in (kind_of b) else noted_kind n)
HasKind t n f = Unit {0}

-- ---- expressions

abbrev mutual
  pub IsKinded : TablesShape → NodeShape → Type 0
  IsKinded t (node p o n f) = HasKind t n f × HasKindedParts t f

  -- those that are evaluated in it
  pub HasKindedParts : TablesShape → ExprShape → Type 0
  HasKindedParts t (leaf l) = Unit {0}
  HasKindedParts t (paren a) = IsKinded t a
  HasKindedParts t (call x args) = AreKinded t args
  HasKindedParts t (prefix (unary u) a) = IsKinded t a
  HasKindedParts t (prefix (before u) a) = IsKinded t a
  HasKindedParts t (prefix size_of a) = Unit {0}
  HasKindedParts t (size_of_type y) = Unit {0}
  HasKindedParts t (cast y a) = IsKinded t a
  HasKindedParts t (suffix a (index b)) = IsKinded t a × IsKinded t b
  HasKindedParts t (suffix a (field h x q)) = IsKinded t a
  HasKindedParts t (suffix a (behind u)) = IsKinded t a
  HasKindedParts t (two u a b) = IsKinded t a × IsKinded t b
  HasKindedParts t (choose a b d) = IsKinded t a × IsKinded t b × IsKinded t d
  HasKindedParts t (probe u a) = IsKinded t a

  pub AreKinded : TablesShape → NodeShapes → Type 0
  AreKinded t no_nodes = Unit {0}
  AreKinded t (more_nodes a rest) = IsKinded t a × AreKinded t rest

abbrev pub IsKindedMaybe : TablesShape → MaybeNode → Type 0
IsKindedMaybe t no_node = Unit {0}
IsKindedMaybe t (one_node a) = IsKinded t a
