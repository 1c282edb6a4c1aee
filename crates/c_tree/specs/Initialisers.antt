-- How initialisers are typed (C89, 3.5.7).
use Rattle.std.specs.Prelude.{ℕ, zero, suc, ◌+◌, ◌-◌, ◌*◌, ◌^◌, min, List, [], ◌∷◌, length, map, nat_eq, nat_le, Bool, true, false, Option, Some, None, if◌then◌else◌}
use Rattle.c_base.specs.declared.place.Pos.{Pos}
use Rattle.c_base.specs.declared.place.IntKind.{IntKind}
use Rattle.c_base.specs.declared.place.IntKind.TheVariants.{Char, UChar}
use Rattle.c_syntax.specs.declared.text.Text.{Text}
use Rattle.c_syntax.specs.Shape.{TypeOf, int, array, structure, str, leaf, NodeShape, node, ExprShape, InitShape, one, listed, InitShapes, no_inits, more_inits, MaybeInit, no_init, one_init}
use Rattle.c_type_rules.specs.Verdicts.{fits_type}
use Rattle.c_constants.specs.Constants as constants
use Rattle.c_tree.specs.State.{State, step, steps, fields_of}
use Rattle.c_tree.specs.Rulings.{Ruled, allowed, unsettled, refused, by, rule, of_kind, allowed_if}
use Rattle.c_tree.specs.Sorts.{Sort, TypedNode, null, pos_in}
use Rattle.c_tree.specs.Operators.{hushed, heard}
use Rattle.c_tree.specs.Parts.{Length, counted, left_out}
use Rattle.c_tree.specs.Typing.{type_node}
use Rattle.c_tree.specs.Complaints.{not_constant, wrong_type}

-- ---- what an array takes its length from

abbrev pub count_items : InitShapes → ℕ
count_items no_inits = 0
count_items (more_inits i rest) = 1 + count_items rest

abbrev pub kept : ℕ → Length
kept n = counted (min n (2 ^ 32 - 1))

-- the bytes of a string and its zero, or the items of a list
abbrev pub length_in_form : ExprShape → Length
length_in_form (leaf (str t)) = kept (length t + 1)
length_in_form f = left_out

abbrev pub length_in : InitShape → Length
length_in (one (node p o n f)) = length_in_form f
length_in (listed p items last) = kept (count_items items)

abbrev pub lengths_with : MaybeInit → List Length → List Length
lengths_with (one_init i) (left_out ∷ ls) = length_in i ∷ ls
lengths_with i ls = ls

-- ---- one value

pub record TypedInit : Type 0 where
  pub init : InitShape
  pub state : State

abbrev pub is_char : TypeOf → Bool
is_char (int Char) = true
is_char (int UChar) = true
is_char t = false

-- the elements of an array of characters
abbrev pub chars_in : TypeOf → Option ℕ
chars_in (array t n) = if is_char t then Some n else None
chars_in t = None

abbrev pub chars_of : Option TypeOf → Option ℕ
chars_of None = None
chars_of (Some t) = chars_in t

-- the bytes of a string by itself, and the elements of the array of characters that it initialises
abbrev pub filled : Option ℕ → ExprShape → Option (ℕ × ℕ)
filled (Some n) (leaf (str t)) = Some (length t, n)
filled _ f = None

abbrev pub form_in : NodeShape → ExprShape
form_in (node p o n f) = f

-- as a string needs no object then; it may leave out its zero
abbrev pub string_init : ℕ → ℕ → Pos → ℕ → Bool → TypedNode → TypedInit
string_init bytes elements p token quiet a = record {
  init = one a.node;
  state = rule (allowed_if (nat_le bytes elements) wrong_type (int Char)) token p (heard quiet a.state);
}

abbrev pub fits : Option TypeOf → Sort → Ruled
fits k a = of_kind k (λ t. by wrong_type (fits_type (Some t) a.kind (null a)))

-- outside of functions, and in lists
abbrev pub constant_init : Bool → Sort → Ruled
constant_init false a = unsettled
constant_init true a = of_kind a.kind (λ t. allowed_if (constants.initialises t a.constant) not_constant t)

abbrev pub value_init : Bool → Option TypeOf → ℕ → Pos → TypedNode → TypedInit
value_init c k token p a = record { init = one a.node; state = rule (constant_init c a.sort) token p (rule (fits k a.sort) token p a.state) }

abbrev pub one_init_of : Option (ℕ × ℕ) → Bool → Option TypeOf → NodeShape → State → TypedInit
one_init_of (Some (bytes, elements)) c k a s = string_init bytes elements (pos_in a) s.at s.quiet (type_node a (hushed s))
one_init_of None c k a s = value_init c k s.at (pos_in a) (type_node a s)

-- ---- lists

-- what a list may hold: so many of a type, these types in order, or anything, where that isn't known
pub data Slots : Type 0 where
  repeated : TypeOf → ℕ → Slots
  these : List TypeOf → Slots
  anything : Slots

abbrev pub slots_in : TypeOf → State → Slots
slots_in (array t n) s = repeated t n
slots_in (structure n) s = these (map (λ f. f.kind) (fields_of n s))
slots_in t s = anything

abbrev pub slots : Option TypeOf → State → Slots
slots None s = anything
slots (Some t) s = slots_in t s

-- a list stands for an array or a structure
abbrev pub list_rule : TypeOf → Ruled
list_rule (array t n) = allowed (array t n)
list_rule (structure n) = allowed (structure n)
list_rule t = refused wrong_type

-- an item's type
abbrev pub slot : Slots → Option TypeOf
slot (repeated t zero) = None
slot (repeated t (suc n)) = Some t
slot (these []) = None
slot (these (t ∷ ts)) = Some t
slot anything = None

-- an item too many is judged once
abbrev pub slot_rule : Slots → Ruled
slot_rule (repeated t zero) = refused wrong_type
slot_rule (these []) = refused wrong_type
slot_rule l = unsettled

abbrev pub further : Slots → Slots
further (repeated t zero) = anything
further (repeated t (suc n)) = repeated t n
further (these []) = anything
further (these (t ∷ ts)) = these ts
further anything = anything

abbrev pub init_pos : InitShape → Pos
init_pos (one a) = pos_in a
init_pos (listed p items last) = p

pub record TypedInits : Type 0 where
  pub inits : InitShapes
  pub state : State

abbrev pub one_item : TypedInit → TypedInits → TypedInits
one_item i r = record { inits = more_inits i.init r.inits; state = r.state }

-- behind the last comma of a list stands its brace
abbrev pub list_end : Bool → ℕ
list_end true = 1
list_end false = 0

abbrev mutual
  -- constant or not, for an object of that type, if it is known
  pub type_init : Bool → Option TypeOf → InitShape → State → TypedInit
  type_init c k (one a) s = one_init_of (filled (chars_of k) (form_in a)) c k a s
  type_init c k (listed p items last) s =
      let r = type_inits (slots k s) items (step (rule (of_kind k list_rule) s.at p s)) in
      record { init = listed p r.inits last; state = steps (list_end last) r.state }

  -- each item with the comma or brace behind it
  pub type_inits : Slots → InitShapes → State → TypedInits
  type_inits l no_inits s = record { inits = no_inits; state = s }
  type_inits l (more_inits i rest) s =
      let t = type_init true (slot l) i (rule (slot_rule l) s.at (init_pos i) s) in
      one_item t (type_inits (further l) rest (step t.state))
