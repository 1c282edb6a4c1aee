-- Where each operand has a type, the operator's types are settled: the result has a type, or it is complained of.
use Rattle.std.proofs.Common.{◌≡◌, ℕ, List, [], ◌∷◌, Bool, true, false, Option, Some, None, arith, length, length-append}
use Rattle.std.specs.Prelude.{◌||◌, if◌then◌else◌}
use Rattle.c_base.specs.declared.place.Pos.{Pos}
use Rattle.c_base.specs.declared.place.IntKind.TheVariants.{Int}
use Rattle.c_syntax.specs.declared.tree.BinaryOp.{BinaryOp}
use Rattle.c_syntax.specs.declared.tree.BinaryOp.TheVariants as op
use Rattle.c_syntax.specs.Shape.{TypeOf, int, pointer, array, structure, nothing}
use Rattle.c_type_rules.specs.Kinds.{is_integer, is_scalar, same_type, decay}
use Rattle.c_type_rules.specs.Layouts.{Measure, known, incomplete, too_large, measure}
use Rattle.c_type_rules.specs.Verdicts.{Verdict, fine, unknown, wrong, fine_if, on, null_for, arithmetic_type, shift_type, sum_type, difference_type, order_type, equality_type, values_type, binary_type, truth_of, truth_type, logical_type, alike_type, branches_type, conditional_type, stored_type, is_copy, assigned_type, changed_type, compound_type, step_type, promoted_value, promoted_type, target_of, target_type, element_type, address_of, address_type, structure_of, structure_type, pointed_type, turned_type, cast_type, is_probed, probed_type, parameter_type, given_of, result_type}
use Rattle.c_tree.specs.State.{State, complain}
use Rattle.c_tree.specs.Rulings.{Ruled, allowed, unsettled, refused, by, then_rule, kind_at, rule, of_kind, allowed_if, by_room, whole, object, by_end, complete, moved}

abbrev pub IsThere : {A : Type 0} → Option A → Type 0
IsThere None = ⊥
IsThere (Some x) = Unit {0}

-- no complaint so far
abbrev pub IsClean : State → Type 0
IsClean s = length s.complaints ≡ 0

abbrev pub Settled : Ruled → Type 0
Settled (allowed t) = Unit {0}
Settled unsettled = ⊥
Settled (refused n) = Unit {0}

abbrev pub Told : Verdict → Type 0
Told (fine t) = Unit {0}
Told unknown = ⊥
Told wrong = Unit {0}

pub mended : (n token : ℕ) (p : Pos) (s : State) → IsClean (complain n token p s) → ⊥
mended n token p s h = let e = length-append s.complaints (record { token = token; number = n; pos = p } ∷ []) in omega (arith, e, h)

-- what is settled and not complained of has a type
pub type_there : (r : Ruled) (token : ℕ) (p : Pos) (s : State) → Settled r → IsClean (rule r token p s) → IsThere (kind_at r)
type_there (allowed t) token p s is h = tt
type_there unsettled token p s is h = is
type_there (refused n) token p s is h = mended n token p s h

-- ---- rulings

pub by_told : (n : ℕ) (v : Verdict) → Told v → Settled (by n v)
by_told n (fine t) h = tt
by_told n unknown h = h
by_told n wrong h = tt

pub then_settled : (r : Ruled) (f : TypeOf → Ruled) → Settled r → ((t : TypeOf) → Settled (f t)) → Settled (then_rule r f)
then_settled (allowed t) f h g = g t
then_settled unsettled f h g = h
then_settled (refused n) f h g = tt

pub of_kind_settled : (k : Option TypeOf) (f : TypeOf → Ruled) → IsThere k → ((t : TypeOf) → Settled (f t)) → Settled (of_kind k f)
of_kind_settled None f h g = h
of_kind_settled (Some t) f h g = g t

pub if_settled : (b : Bool) (n : ℕ) (t : TypeOf) → Settled (allowed_if b n t)
if_settled true n t = tt
if_settled false n t = tt

pub whole_settled : (rooms : List Measure) (t : TypeOf) → Settled (whole rooms t)
whole_settled rooms t = room (measure rooms t)
  where
    room : (m : Measure) → Settled (by_room m t)
    room (known e) = tt
    room incomplete = tt
    room too_large = tt

pub object_settled : (rooms : List Measure) (t : TypeOf) → Settled (object rooms t)
object_settled rooms nothing = tt
object_settled rooms (int k) = whole_settled rooms (int k)
object_settled rooms (pointer t) = whole_settled rooms (pointer t)
object_settled rooms (array t n) = whole_settled rooms (array t n)
object_settled rooms (structure n) = whole_settled rooms (structure n)

pub complete_settled : (rooms : List Measure) (t : TypeOf) → Settled (complete rooms t)
complete_settled rooms t = room (measure rooms t)
  where
    room : (m : Measure) → Settled (by_end m t)
    room (known e) = tt
    room incomplete = tt
    room too_large = tt

past_settled : (r : Ruled) (t : TypeOf) → Settled r → Settled (then_rule r (λ u. allowed (pointer t)))
past_settled r t h = then_settled r (λ u. allowed (pointer t)) h (λ u. tt)

along_settled : (rooms : List Measure) (t : TypeOf) → Settled (moved rooms (pointer t))
along_settled rooms nothing = tt
along_settled rooms (int k) = past_settled (complete rooms (int k)) (int k) (complete_settled rooms (int k))
along_settled rooms (pointer t) = past_settled (complete rooms (pointer t)) (pointer t) (complete_settled rooms (pointer t))
along_settled rooms (array t n) = past_settled (complete rooms (array t n)) (array t n) (complete_settled rooms (array t n))
along_settled rooms (structure n) = past_settled (complete rooms (structure n)) (structure n) (complete_settled rooms (structure n))

pub moved_settled : (rooms : List Measure) (t : TypeOf) → Settled (moved rooms t)
moved_settled rooms (pointer t) = along_settled rooms t
moved_settled rooms nothing = tt
moved_settled rooms (int k) = tt
moved_settled rooms (array t n) = tt
moved_settled rooms (structure n) = tt

-- ---- verdicts

if_told : (b : Bool) (t : TypeOf) → Told (fine_if b t)
if_told true t = tt
if_told false t = tt

on_told : (v : Verdict) (f : TypeOf → Verdict) → Told v → ((t : TypeOf) → Told (f t)) → Told (on v f)
on_told (fine t) f h g = g t
on_told unknown f h g = h
on_told wrong f h g = tt

either_told : (b : Bool) (v w : Verdict) → Told v → Told w → Told (if b then v else w)
either_told true v w h g = h
either_told false v w h g = g

arithmetic_told : (a b : TypeOf) → Told (arithmetic_type a b)
arithmetic_told (int a) (int b) = tt
arithmetic_told a b = tt

shift_told : (a b : TypeOf) → Told (shift_type a b)
shift_told (int a) (int b) = tt
shift_told a b = tt

sum_told : (a b : TypeOf) → Told (sum_type a b)
sum_told (pointer t) (int k) = tt
sum_told (int k) (pointer t) = tt
sum_told (int a) (int b) = tt
sum_told a b = tt

difference_told : (a b : TypeOf) → Told (difference_type a b)
difference_told (pointer t) (int k) = tt
difference_told (pointer t) (pointer s) = if_told (same_type t s) _
difference_told (int a) (int b) = tt
difference_told a b = tt

order_told : (a b : TypeOf) → Told (order_type a b)
order_told (int a) (int b) = tt
order_told (pointer t) (pointer s) = if_told (same_type t s) (int Int)
order_told a b = tt

equality_told : (a : TypeOf) (m : Bool) (b : TypeOf) (n : Bool) → Told (equality_type a m b n)
equality_told a m b n = either_told (null_for m a b || null_for n b a) (fine (int Int)) (order_type a b) tt (order_told a b)

values_told : (u : BinaryOp) (a : TypeOf) (m : Bool) (b : TypeOf) (n : Bool) → Told (values_type u a m b n)
values_told op.Mul a m b n = arithmetic_told a b
values_told op.Div a m b n = arithmetic_told a b
values_told op.Rem a m b n = arithmetic_told a b
values_told op.BitAnd a m b n = arithmetic_told a b
values_told op.BitXor a m b n = arithmetic_told a b
values_told op.BitOr a m b n = arithmetic_told a b
values_told op.Shl a m b n = shift_told a b
values_told op.Shr a m b n = shift_told a b
values_told op.Add a m b n = sum_told a b
values_told op.Sub a m b n = difference_told a b
values_told op.Lt a m b n = order_told a b
values_told op.Gt a m b n = order_told a b
values_told op.Le a m b n = order_told a b
values_told op.Ge a m b n = order_told a b
values_told op.Eq a m b n = equality_told a m b n
values_told op.Ne a m b n = equality_told a m b n

pub binary_told : (u : BinaryOp) (a : Option TypeOf) (m : Bool) (b : Option TypeOf) (n : Bool) → IsThere a → IsThere b → Told (binary_type u a m b n)
binary_told u None m b n h g = h
binary_told u (Some a) m None n h g = g
binary_told u (Some a) m (Some b) n h g = values_told u (decay a) m (decay b) n

truth_told : (a : TypeOf) → Told (truth_of a)
truth_told a = equality_told (int Int) true (decay a) false

pub test_told : (a : Option TypeOf) → IsThere a → Told (truth_type a)
test_told None h = h
test_told (Some a) h = truth_told a

pub logical_told : (a b : Option TypeOf) → IsThere a → IsThere b → Told (logical_type a b)
logical_told None b h g = h
logical_told (Some a) None h g = g
logical_told (Some a) (Some b) h g = on_told (truth_of a) (λ t. truth_of b) (truth_told a) (λ t. truth_told b)

alike_told : (a b : TypeOf) → Told (alike_type a b)
alike_told (int a) (int b) = tt
alike_told (pointer t) (pointer s) = if_told (same_type t s) (pointer t)
alike_told nothing nothing = tt
alike_told a b = tt

branches_told : (a : TypeOf) (m : Bool) (b : TypeOf) (n : Bool) → Told (branches_type a m b n)
branches_told a m b n = either_told (null_for m a b) (fine b) _ tt (either_told (null_for n b a) (fine a) (alike_type a b) tt (alike_told a b))

pub conditional_told : (c a : Option TypeOf) (m : Bool) (b : Option TypeOf) (n : Bool) → IsThere c → IsThere a → IsThere b → Told (conditional_type c a m b n)
conditional_told None a m b n h g k = h
conditional_told (Some c) None m b n h g k = g
conditional_told (Some c) (Some a) m None n h g k = k
conditional_told (Some c) (Some a) m (Some b) n h g k = on_told (truth_of c) _ (truth_told c) (λ u. branches_told (decay a) m (decay b) n)

stored_told : (t b : TypeOf) (n : Bool) → Told (stored_type t b n)
stored_told (int k) b n = if_told (is_integer b) (int k)
stored_told (pointer t) b n = if_told (null_for n b (pointer t) || same_type (pointer t) b) (pointer t)
stored_told t b n = tt

copied_told : (t b : TypeOf) (n place : Bool) → Told (if is_copy t b place then fine nothing else stored_type t (decay b) n)
copied_told t b n place = either_told (is_copy t b place) (fine nothing) (stored_type t (decay b) n) tt (stored_told t (decay b) n)

pub assigned_told : (t b : Option TypeOf) (n place : Bool) → IsThere t → IsThere b → Told (assigned_type t b n place)
assigned_told None b n place h g = h
assigned_told (Some t) None n place h g = g
assigned_told (Some t) (Some b) n place h g = copied_told t b n place

changed_told : (u : BinaryOp) (a b : TypeOf) → Told (changed_type u a b)
changed_told u a b = on_told (values_type u (decay a) false (decay b) false) (λ t. stored_type a t false) (values_told u (decay a) false (decay b) false) (λ t. stored_told a t false)

pub compound_told : (u : BinaryOp) (a b : Option TypeOf) → IsThere a → IsThere b → Told (compound_type u a b)
compound_told u None b h g = h
compound_told u (Some a) None h g = g
compound_told u (Some a) (Some b) h g = changed_told u a b

pub step_told : (a : Option TypeOf) → IsThere a → Told (step_type a)
step_told None h = h
step_told (Some a) h = changed_told op.Add a (int Int)

promoted_value_told : (a : TypeOf) → Told (promoted_value a)
promoted_value_told (int k) = tt
promoted_value_told a = tt

pub promoted_told : (a : Option TypeOf) → IsThere a → Told (promoted_type a)
promoted_told None h = h
promoted_told (Some a) h = promoted_value_told a

target_of_told : (a : TypeOf) → Told (target_of a)
target_of_told (pointer t) = tt
target_of_told a = tt

pub target_told : (a : Option TypeOf) → IsThere a → Told (target_type a)
target_told None h = h
target_told (Some a) h = target_of_told (decay a)

pub element_told : (a b : Option TypeOf) → IsThere a → IsThere b → Told (element_type a b)
element_told None b h g = h
element_told (Some a) None h g = g
element_told (Some a) (Some b) h g = on_told (sum_type (decay a) (decay b)) target_of (sum_told (decay a) (decay b)) target_of_told

address_of_told : (a : TypeOf) → Told (address_of a)
address_of_told nothing = tt
address_of_told a = tt

pub address_told : (a : Option TypeOf) → IsThere a → Told (address_type a)
address_told None h = h
address_told (Some a) h = address_of_told a

pub turned_told : (a b : TypeOf) → Told (turned_type a b)
turned_told (int k) (int j) = tt
turned_told nothing a = tt
turned_told a b = tt

pub cast_told : (a b : Option TypeOf) → IsThere a → IsThere b → Told (cast_type a b)
cast_told None b h g = h
cast_told (Some a) None h g = g
cast_told (Some a) (Some b) h g = turned_told a b

pub probed_told : (copied : Bool) (a : Option TypeOf) → IsThere a → Told (probed_type copied a)
probed_told copied None h = h
probed_told copied (Some a) h = if_told (is_probed copied a) a

pub parameter_told : (t : TypeOf) → Told (parameter_type (Some t))
parameter_told t = if_told (is_scalar (decay t)) (decay t)

given_told : (t : TypeOf) → Told (given_of t)
given_told nothing = tt
given_told t = if_told (is_scalar t) t

pub result_told : (a : Option TypeOf) → IsThere a → Told (result_type a)
result_told None h = h
result_told (Some a) h = given_told a

-- ---- structures

abbrev pub IsStructure : Option TypeOf → Type 0
IsStructure None = ⊥
IsStructure (Some (structure n)) = Unit {0}
IsStructure (Some t) = ⊥

abbrev HoldsOne : Ruled → Type 0
HoldsOne (allowed t) = IsStructure (Some t)
HoldsOne unsettled = ⊥
HoldsOne (refused n) = Unit {0}

structure_held : (t : TypeOf) → HoldsOne (by 33 (structure_of t))
structure_held (structure n) = tt
structure_held t = tt

pub dot_held : (k : Option TypeOf) → IsThere k → HoldsOne (by 33 (structure_type k))
dot_held None h = h
dot_held (Some t) h = structure_held t

target_held : (v : Verdict) → Told v → HoldsOne (by 33 (on v structure_of))
target_held (fine t) h = structure_held t
target_held unknown h = h
target_held wrong h = tt

complete_held : (rooms : List Measure) (r : Ruled) → HoldsOne r → HoldsOne (then_rule r (complete rooms))
complete_held rooms (allowed t) h = room (measure rooms t)
  where
    room : (m : Measure) → HoldsOne (by_end m t)
    room (known e) = h
    room incomplete = tt
    room too_large = h
complete_held rooms unsettled h = h
complete_held rooms (refused n) h = tt

pub arrow_held : (rooms : List Measure) (k : Option TypeOf) → IsThere k → HoldsOne (then_rule (by 33 (pointed_type k)) (complete rooms))
arrow_held rooms None h = h
arrow_held rooms (Some t) h = complete_held rooms (by 33 (pointed_type (Some t))) (target_held (target_of (decay t)) (target_of_told (decay t)))

-- where nothing is complained of it is a structure
pub structure_there : (r : Ruled) (token : ℕ) (p : Pos) (s : State) → HoldsOne r → IsClean (rule r token p s) → IsStructure (kind_at r)
structure_there (allowed t) token p s is h = is
structure_there unsettled token p s is h = is
structure_there (refused n) token p s is h = mended n token p s h
