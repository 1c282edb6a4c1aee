-- What an operator's operands come to: the type of the result, or the number of a complaint.
use Rattle.std.specs.Prelude.{ℕ, ℤ, pos, ◌-◌, Bool, true, false, Option, Some, None, List, nat_eq, if◌then◌else◌}
use Rattle.c_base.specs.declared.place.Pos.{Pos}
use Rattle.c_base.specs.declared.place.IntKind.TheVariants.{ULong}
use Rattle.c_syntax.specs.Shape.{TypeOf, int, pointer, array, structure, nothing}
use Rattle.c_type_rules.specs.Kinds.{decay}
use Rattle.c_type_rules.specs.Layouts.{Extent, Measure, known, incomplete, too_large, measure}
use Rattle.c_type_rules.specs.Verdicts.{Verdict, fine, unknown, wrong}
use Rattle.c_constants.specs.declared.constants.Constant.{Constant}
use Rattle.c_constants.specs.declared.constants.Constant.TheVariants.{No, Known}
use Rattle.c_constants.specs.Constants as constants
use Rattle.c_tree.specs.State.{State, complain}
use Rattle.c_tree.specs.Complaints.{incomplete_type, too_large_type, wrong_type}

-- ---- rulings

-- the type; nothing, where a complaint stands inside; or a complaint's number
pub data Ruled : Type 0 where
  allowed : TypeOf → Ruled
  unsettled : Ruled
  refused : ℕ → Ruled

-- a verdict, and the number of the complaint where it is wrong
abbrev pub by : ℕ → Verdict → Ruled
by number (fine t) = allowed t
by number unknown = unsettled
by number wrong = refused number

abbrev pub then_rule : Ruled → (TypeOf → Ruled) → Ruled
then_rule (allowed t) f = f t
then_rule unsettled f = unsettled
then_rule (refused number) f = refused number

abbrev pub kind_at : Ruled → Option TypeOf
kind_at (allowed t) = Some t
kind_at unsettled = None
kind_at (refused number) = None

-- the complaint, if there is one, at this token
abbrev pub rule : Ruled → ℕ → Pos → State → State
rule (allowed t) token p s = s
rule unsettled token p s = s
rule (refused number) token p s = complain number token p s

-- of a type, if there is one
abbrev pub of_kind : Option TypeOf → (TypeOf → Ruled) → Ruled
of_kind None f = unsettled
of_kind (Some t) f = f t

abbrev pub allowed_if : Bool → ℕ → TypeOf → Ruled
allowed_if true number t = allowed t
allowed_if false number t = refused number

-- ---- room

abbrev pub by_room : Measure → TypeOf → Ruled
by_room (known e) t = allowed t
by_room incomplete t = refused incomplete_type
by_room too_large t = refused too_large_type

-- an object has a complete type that isn't too large
abbrev pub whole : List Measure → TypeOf → Ruled
whole rooms t = by_room (measure rooms t) t

-- what is reached through a pointer: an object, or the void behind a pointer to void
abbrev pub object : List Measure → TypeOf → Ruled
object rooms nothing = allowed nothing
object rooms t = whole rooms t

abbrev pub by_end : Measure → TypeOf → Ruled
by_end (known e) t = allowed t
by_end incomplete t = refused incomplete_type
by_end too_large t = allowed t

-- a type that was completed
abbrev pub complete : List Measure → TypeOf → Ruled
complete rooms t = by_end (measure rooms t) t

-- a value that may be a pointer which was moved along: over nothing, or over a complete type
abbrev pub moved : List Measure → TypeOf → Ruled
moved rooms (pointer nothing) = allowed (pointer nothing)
moved rooms (pointer t) = then_rule (complete rooms t) (λ u. allowed (pointer t))
moved rooms t = allowed t

-- ---- sizeof

abbrev pub size_in : Measure → Constant
size_in (known e) = Known ULong (pos e.size)
size_in incomplete = No
size_in too_large = No

abbrev pub size_constant : List Measure → Option TypeOf → Constant
size_constant rooms None = No
size_constant rooms (Some t) = size_in (measure rooms t)

-- an operand of a sizeof: a void has no size, and no value
abbrev pub sized : List Measure → TypeOf → Ruled
sized rooms nothing = refused wrong_type
sized rooms t = whole rooms t

abbrev pub as_size : TypeOf → Ruled
as_size t = allowed (int ULong)

-- ---- constants of two operands with types

abbrev pub cast_constant : Option TypeOf → Constant → Constant
cast_constant None a = No
cast_constant (Some t) a = constants.cast t a

abbrev pub element_constant : Option TypeOf → Constant → Option TypeOf → Constant → Constant
element_constant (Some t) a (Some u) b = constants.element t a u b
element_constant _ a _ b = No

-- ---- other forms

-- the value of the right side of a comma
abbrev pub comma_kind : Option TypeOf → Option TypeOf → Ruled
comma_kind a b = of_kind a (λ t. of_kind b (λ u. allowed (decay u)))
