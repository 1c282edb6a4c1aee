-- Pointers that are selected in an element, and moved along an array.
use Rattle.std.proofs.Common.{◌≡◌, ℕ, ◌+◌, ◌<◌, ap, refl, sym, subst, arith, length, Option, Some, None, Result, Ok, Err, Bool, true, false}
use Rattle.std.specs.Prelude.{ℤ, pos, ◌+ℤ◌, int_le, unsigned_abs, nat_lt, ◌&&◌, if◌then◌else◌}
use Rattle.std.proofs.lemmas.Bool.{and_parts}
use Rattle.std.proofs.lemmas.Bool.Decides.{nat_tests}
use Rattle.c_syntax.specs.Shape.{TypeOf, int, pointer, array, structure, nothing}
use Rattle.c_store.specs.declared.value.Value.{Value}
use Rattle.c_store.specs.declared.value.Value.TheVariants.{Int, Null, At}
use Rattle.c_store.specs.declared.value.Pointer.{Pointer}
use Rattle.c_store.specs.declared.value.Fault.{Fault}
use Rattle.c_store.specs.Cells.{Slot, find, cell_of, is_inside, element_in, selected_in, selected, stepped}
use Rattle.c_meaning.specs.State.{State}
use Rattle.c_meaning.specs.Operators.{element_pointer}
use Rattle.c_meaning.specs.Places.{has_part, selected_place}
use Rattle.flow_leaves.proofs.Yields.{Yields, yields_if, yields_settled}

-- ---- in an element

below_length : (p : Pointer) (n : ℕ) → is_inside p n ≡ true → p.index < p.length
below_length p n e = let h = (and_parts (nat_lt p.index p.length) _ e).0 in grind (arith, nat_tests)

-- so many of that size, from the offset on
abbrev pub part_at : Pointer → ℕ → ℕ → ℕ → Pointer
part_at q offset n size = record { instance = q.instance; base = cell_of q + offset; length = n; size = size; index = 0 }

inside_then : (b : Bool) (slot : Slot) (why : Fault) (q p : Pointer) (offset n size : ℕ) → selected_in (if b then Ok slot else Err why) q offset n size ≡ Ok p → (b ≡ true) × (part_at q offset n size ≡ p)
inside_then true slot why q p offset n size e = (refl, ap (λ r. or_first q r) e)
  where
    or_first : Pointer → Result Pointer Fault → Pointer
    or_first q (Ok p) = p
    or_first q (Err why) = q
inside_then false slot why q p offset n size e = cc

found_then : (o : Option Slot) (q p : Pointer) (offset n size : ℕ) → selected_in (element_in o q) q offset n size ≡ Ok p → (q.index < q.length) × (part_at q offset n size ≡ p)
found_then None q p offset n size e = cc
found_then (Some slot) q p offset n size e = let h = inside_then (is_inside q (length slot.cells)) slot _ q p offset n size e in (below_length q (length slot.cells) h.0, h.1)

pub yields_part : (q : Pointer) (offset n size : ℕ) (s : State) (Q : Pointer → State → Type 0) → (q.index < q.length → Q (part_at q offset n size) s) → Yields s (selected_place q offset n size s) Q
yields_part q offset n size s Q f =
    yields_if (has_part q offset n size) s _ _ Q (yields_settled (selected s.store q offset n size) s Q (λ p e. let h = found_then (find q.instance s.store.live) q p offset n size e in subst (λ r. Q r s) h.1 (f h.0))) (record { by = tt })

-- ---- along an array

-- the same array, at some index
abbrev pub IsAlong : Pointer → Value → Type 0
IsAlong q v = (i : ℕ) × (v ≡ At (record q { index = i }))

moved_if : (b : Bool) (q : Pointer) (i : ℕ) (why : Fault) (v : Value) → (if b then Ok (At (record q { index = i })) else Err why) ≡ Ok v → IsAlong q v
moved_if true q i why v e = (i, ap (λ r. or_null r) (sym e))
  where
    or_null : Result Value Fault → Value
    or_null (Ok v) = v
    or_null (Err why) = Null
moved_if false q i why v e = cc

along : (q : Pointer) (by : ℤ) (v : Value) → stepped (At q) by ≡ Ok v → IsAlong q v
along q by v e = moved_if (int_le (pos 0) (pos q.index +ℤ by) && int_le (pos q.index +ℤ by) (pos q.length)) q (unsigned_abs (pos q.index +ℤ by)) _ v e

-- the array to the left, or to the right
pub left_along : (b y : TypeOf) (q : Pointer) (w v : Value) → element_pointer (pointer y) b (At q) w ≡ Ok v → IsAlong q v
left_along (int k) y q (Int n) v e = along q n v e
left_along (int k) y q Null v e = cc
left_along (int k) y q (At p) v e = cc
left_along (pointer k) y q w v e = cc
left_along (array k n) y q w v e = cc
left_along (structure n) y q w v e = cc
left_along nothing y q w v e = cc

pub right_along : (a y : TypeOf) (q : Pointer) (w v : Value) → element_pointer a (pointer y) w (At q) ≡ Ok v → IsAlong q v
right_along (int k) y q (Int n) v e = along q n v e
right_along (int k) y q Null v e = cc
right_along (int k) y q (At p) v e = cc
right_along (pointer k) y q w v e = cc
right_along (array k n) y q w v e = cc
right_along (structure n) y q w v e = cc
right_along nothing y q w v e = cc
