-- What is known of an expression.
use Rattle.std.specs.Prelude.{ℕ, ◌-◌, Bool, true, false, Option, Some, None}
use Rattle.c_base.specs.declared.place.Pos.{Pos}
use Rattle.c_syntax.specs.Shape.{TypeOf, NoteShape, bare, typed, known, number, and, or, NodeShape, node, ExprShape, behind, TypeShape}
use Rattle.c_constants.specs.declared.constants.Constant.{Constant}
use Rattle.c_constants.specs.declared.constants.Constant.TheVariants.{No, Known}
use Rattle.c_constants.specs.Constants as constants
use Rattle.c_tree.specs.State.{State, is_clean}
use Rattle.c_tree.specs.Rulings.{Ruled, of_kind, allowed_if}
use Rattle.c_tree.specs.Complaints.{not_a_left_side}

-- ---- what is known of an expression

-- its type, where no complaint stands inside; what is known of its value; and whether it is a place
pub record Sort : Type 0 where
  pub kind : Option TypeOf
  pub constant : Constant
  pub place : Bool

abbrev pub no_sort : Sort
no_sort = record { kind = None; constant = No; place = false }

abbrev pub a_value : Option TypeOf → Constant → Sort
a_value k c = record { kind = k; constant = c; place = false }

abbrev pub a_place : Option TypeOf → Constant → Sort
a_place k c = record { kind = k; constant = c; place = true }

-- and of its form: the number of what it names, and whether its note holds its value
pub record Typing : Type 0 where
  pub sort : Sort
  pub names : Option ℕ
  pub valued : Bool

abbrev pub plainly : Sort → Typing
plainly sort = record { sort = sort; names = None; valued = false }

abbrev pub naming : Sort → Option ℕ → Typing
naming sort n = record { sort = sort; names = n; valued = false }

abbrev pub valuing : Sort → Typing
valuing sort = record { sort = sort; names = None; valued = true }

-- what an operator comes to, and what is known behind it
pub record Outcome : Type 0 where
  pub typing : Typing
  pub state : State

abbrev pub comes_to : Typing → State → Outcome
comes_to t s = record { typing = t; state = s }

pub record Formed : Type 0 where
  pub form : ExprShape
  pub typing : Typing
  pub state : State

abbrev pub formed : ExprShape → Outcome → Formed
formed f o = record { form = f; typing = o.typing; state = o.state }

pub record TypedNode : Type 0 where
  pub node : NodeShape
  pub sort : Sort
  pub state : State

pub record TypedType : Type 0 where
  pub type : TypeShape
  pub kind : Option TypeOf
  pub state : State

-- ---- notes

abbrev pub value_note : TypeOf → Constant → NoteShape
value_note t (Known k v) = known t v
value_note t _ = typed t None

abbrev pub note_of : Option TypeOf → Constant → Option ℕ → Bool → NoteShape
note_of None c n v = bare
note_of (Some t) c n true = value_note t c
note_of (Some t) c n false = typed t n

-- an expression with a complaint inside has no type
abbrev pub cleared : Bool → Sort → Sort
cleared true sort = sort
cleared false sort = no_sort

abbrev pub node_sort : State → Formed → Sort
node_sort s f = cleared (is_clean s f.state) f.typing.sort

-- the node of a form that began in this state
abbrev pub noted : Pos → Pos → State → Formed → TypedNode
noted p o s f = record {
  node = node p o (note_of (node_sort s f).kind f.typing.sort.constant f.typing.names f.typing.valued) f.form;
  sort = node_sort s f;
  state = f.state;
}

abbrev pub pos_in : NodeShape → Pos
pos_in (node p o n f) = p

-- ---- operands

abbrev pub null : Sort → Bool
null a = constants.is_null a.constant

-- what may be changed, or have its address taken: a place
abbrev pub changeable : Sort → Ruled
changeable sort = of_kind sort.kind (allowed_if sort.place not_a_left_side)
