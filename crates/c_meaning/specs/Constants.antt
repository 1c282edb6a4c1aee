-- What is known before a run: case constants (C89, 3.6.4.2), and what a constant initialiser gives (3.4, 3.5.7).
use Rattle.std.specs.Prelude.{ℕ, suc, ◌+◌, ◌++◌, ℤ, pos, List, [], ◌∷◌, length, map, take, replicate, nat_le, nat_lt, Option, Some, None, option_map, if◌then◌else◌}
use Rattle.std.specs.Ordering.{int_eq}
use Rattle.c_base.specs.declared.place.IntKind.{IntKind}
use Rattle.c_base.specs.declared.place.IntKind.TheVariants as kinds
use Rattle.c_arith.specs.Arith.{wrap}
use Rattle.c_syntax.specs.declared.text.Text.{Text}
use Rattle.c_syntax.specs.declared.tree.UnaryOp.TheVariants as front
use Rattle.c_syntax.specs.Shape.{TypeOf, array, structure, nothing, NoteShape, bare, typed, known, number, char, str, name, unary, NodeShape, node, ExprShape, leaf, paren, cast, prefix, suffix, two, choose, probe, index, field, dot, simple, block, test, used, def, NodeShapes, no_nodes, more_nodes, InitShape, one, listed, InitShapes, no_inits, more_inits, LabelShape, case, default, ItemShapes, no_items, more_items}
use Rattle.c_constants.specs.declared.constants.Constant.{Constant}
use Rattle.c_constants.specs.declared.constants.Constant.TheVariants.{No, Known}
use Rattle.c_constants.specs.Numbers.{number_of}
use Rattle.c_constants.specs.Constants as constants
use Rattle.c_store.specs.declared.value.Value.{Value}
use Rattle.c_store.specs.declared.value.Value.TheVariants.{Int, At}
use Rattle.c_store.specs.declared.value.Pointer.{Pointer}
use Rattle.c_store.specs.Cells.{cell_of, signed_char}
use Rattle.c_tables.specs.Tables.{TablesShape}
use Rattle.c_tables.specs.Rows.{row, fields_in}
use Rattle.c_walk.specs.Places.{has_array}
use Rattle.c_walk.specs.Tests.{number_constant, noted_constant, cast_to, joined, case_value}
use Rattle.c_meaning.specs.State.{Bound, found_in}
use Rattle.c_meaning.specs.Layout.{Part, cells, zeros, part_in}
use Rattle.c_meaning.specs.Operators.{converted}
use Rattle.c_meaning.specs.Places.{room, whole, first_cell, has_part}

-- ---- constant expressions

-- what is known of one; a probe of a block or a test round it changes nothing
abbrev mutual
  pub constant : NodeShape → Constant
  constant (node p o n f) = noted_constant n (constant_form n f)

  pub constant_form : NoteShape → ExprShape → Constant
  constant_form n (leaf (number x)) = number_constant (number_of x)
  constant_form n (leaf (char c)) = constants.character c
  constant_form n (paren a) = constant a
  constant_form n (prefix (unary u) a) = constants.unary u (constant a)
  constant_form n (cast y a) = cast_to n (constant a)
  constant_form n (two u a b) = joined u (constant a) (constant b)
  constant_form n (choose a b c) = constants.choice (constant a) (constant b) (constant c)
  constant_form n (probe (simple block x) a) = constants.probed (constant a)
  constant_form n (probe (simple test x) a) = constants.probed (constant a)
  constant_form n f = No

-- ---- cases

-- the case constants, in order, converted to the type of what is chosen by
abbrev pub label_constants : Option IntKind → List LabelShape → List ℤ
label_constants k [] = []
label_constants k (case p a ∷ labels) = case_value k (constant a) ∷ label_constants k labels
label_constants k (default p ∷ labels) = label_constants k labels

abbrev pub case_constants : Option IntKind → ItemShapes → List ℤ
case_constants k no_items = []
case_constants k (more_items labels a rest) = label_constants k labels ++ case_constants k rest

-- those of a select probe
abbrev pub select_constants : Option IntKind → NodeShapes → List ℤ
select_constants k no_nodes = []
select_constants k (more_nodes a rest) = case_value k (constant a) ∷ select_constants k rest

-- the number of the first constant that the value equals, or one more than there are
abbrev pub number_among : ℤ → List ℤ → ℕ
number_among v [] = 1
number_among v (c ∷ cs) = if int_eq v c then 1 else suc (number_among v cs)

-- the value in the type, against these constants
abbrev pub chosen_among : Option IntKind → Value → List ℤ → ℕ
chosen_among (Some k) (Int z) cs = number_among (wrap k z) cs
chosen_among k v cs = suc (length cs)

-- ---- addresses

abbrev pub kind_noted : NoteShape → TypeOf
kind_noted (typed k n) = k
kind_noted (known k v) = k
kind_noted bare = nothing

abbrev pub type_at : NodeShape → TypeOf
type_at (node p o n f) = kind_noted n

abbrev pub object_in : ℕ → Option ℕ → Option Pointer
object_in n None = None
object_in n (Some j) = if nat_le n room then Some (whole j n) else None

abbrev pub variable_in : TablesShape → List Bound → NoteShape → Option Pointer
variable_in t b (typed k (Some m)) = object_in (cells t k) (found_in m b)
variable_in t b n = None

-- one of so many elements of that size, which lie in the element at that place
abbrev pub part_of : Pointer → ℕ → ℕ → ℕ → ℕ → Option Pointer
part_of q offset n size at =
    if has_part q offset n size then Some (record { instance = q.instance; base = cell_of q + offset; length = n; size = size; index = at }) else None

-- the element of an array at that place; its index is below the length
abbrev pub element_in : TablesShape → TypeOf → Constant → Option Pointer → Option Pointer
element_in t (array k n) (Known j (pos v)) (Some q) = if nat_lt v n then part_of q 0 n (cells t k) v else None
element_in t k c q = None

-- the field of a structure at that place
abbrev pub field_in : TablesShape → Option Part → Option Pointer → Option Pointer
field_in t (Some part) (Some q) = part_of q part.offset 1 (cells t part.kind) 0
field_in t part q = None

-- a file-scope variable, or a part of one, where these are the variables of file scope
abbrev mutual
  pub place_in : TablesShape → List Bound → NodeShape → Option Pointer
  place_in t b (node p o n f) = form_place_in t b n f

  pub form_place_in : TablesShape → List Bound → NoteShape → ExprShape → Option Pointer
  form_place_in t b n (leaf (name x)) = variable_in t b n
  form_place_in t b n (paren a) = place_in t b a
  form_place_in t b n (suffix a (index c)) =
      if has_array a then element_in t (type_at a) (constant c) (place_in t b a) else element_in t (type_at c) (constant a) (place_in t b c)
  form_place_in t b n (suffix a (field dot x q)) = field_in t (part_in t x (type_at a)) (place_in t b a)
  form_place_in t b n (probe (simple used x) a) = place_in t b a
  form_place_in t b n (probe (simple def x) a) = place_in t b a
  form_place_in t b n f = None

-- ---- constant initialisers

abbrev pub integer_in : Constant → Option Value
integer_in (Known k v) = Some (Int v)
integer_in c = None

-- the name of an array is a pointer to its first element
abbrev pub named_value : TablesShape → List Bound → NoteShape → Option Value
named_value t b (typed (array k m) n) = option_map At (element_in t (array k m) (Known kinds.Int (pos 0)) (variable_in t b (typed (array k m) n)))
named_value t b n = integer_in (noted_constant n No)

abbrev pub literal_in : NoteShape → Text → Option Value
literal_in (typed k (Some j)) x = if nat_lt (length x) room then Some (At (first_cell j (length x + 1))) else None
literal_in n x = None

abbrev mutual
  pub value_in : TablesShape → List Bound → NodeShape → Option Value
  value_in t b (node p o n f) = form_value_in t b (node p o n f) n f

  pub form_value_in : TablesShape → List Bound → NodeShape → NoteShape → ExprShape → Option Value
  form_value_in t b a n (prefix (unary front.AddressOf) c) = option_map At (place_in t b c)
  form_value_in t b a n (leaf (str x)) = literal_in n x
  form_value_in t b a n (leaf (name x)) = named_value t b n
  form_value_in t b a n (paren c) = value_in t b c
  form_value_in t b a n f = integer_in (constant a)

-- the chars of a string, and zeros behind them
abbrev pub char_in : TypeOf → ℕ → Option Value
char_in k byte = Some (converted k (Int (signed_char byte)))

abbrev pub string_cells : TypeOf → ℕ → Text → List (Option Value)
string_cells k n x = take n (map (char_in k) x ++ replicate n (Some (Int (pos 0))))

abbrev pub one_cells : TablesShape → List Bound → TypeOf → NodeShape → List (Option Value)
one_cells t b (array k n) (node p o m (leaf (str x))) = string_cells k n x
one_cells t b k a = option_map (converted k) (value_in t b a) ∷ []

-- what a list may hold, in order
abbrev pub slot_kinds : TablesShape → TypeOf → List TypeOf
slot_kinds t (array k n) = replicate n k
slot_kinds t (structure n) = map (λ f. f.kind) (fields_in (row t.structures n))
slot_kinds t k = []

abbrev pub all_zeros : TablesShape → List TypeOf → List (Option Value)
all_zeros t [] = []
all_zeros t (k ∷ ks) = zeros t k ++ all_zeros t ks

-- the cells of an object of that type with that initialiser; what a list leaves out is zero or null
abbrev mutual
  pub init_cells : TablesShape → List Bound → TypeOf → InitShape → List (Option Value)
  init_cells t b k (one a) = one_cells t b k a
  init_cells t b k (listed p items last) = items_cells t b (slot_kinds t k) items

  pub items_cells : TablesShape → List Bound → List TypeOf → InitShapes → List (Option Value)
  items_cells t b ks no_inits = all_zeros t ks
  items_cells t b [] (more_inits i rest) = []
  items_cells t b (k ∷ ks) (more_inits i rest) = init_cells t b k i ++ items_cells t b ks rest
