-- Lengths of arrays, from the last one on.
use Rattle.std.proofs.Common.{◌≡◌, ℕ, zero, suc, ◌-◌, ◌<◌, ◌≤◌, List, [], ◌∷◌, length, map, take, get_or, Option, refl, ap, arith, sub-one}
use Rattle.c_syntax.specs.Shape.{TypeOf}
use Rattle.c_tree.specs.Parts.{array_of, arrays_of}
use Rattle.c_checker_parts.specs.declared.lengths.Length.{Length}
use Rattle.c_checker_parts.specs.LengthView.{length_shape}

-- the array of a length is one of the elements of those before it
last_at : (ls : List Length) (j : ℕ) (d : Length) (k : Option TypeOf) → j < length ls → arrays_of (map length_shape (take j ls)) (array_of (length_shape (get_or ls j d)) k) ≡ arrays_of (map length_shape (take (suc j) ls)) k
last_at [] j d k h = absurd (omega (arith, h))
last_at (l ∷ ls) zero d k h = refl
last_at (l ∷ ls) (suc j) d k h = ap (array_of (length_shape l)) (last_at ls j d k (omega (arith, h)))

pub last_length : (ls : List Length) (left : ℕ) (d : Length) (k : Option TypeOf) → 0 < left → left ≤ length ls → arrays_of (map length_shape (take (left - 1) ls)) (array_of (length_shape (get_or ls (left - 1) d)) k) ≡ arrays_of (map length_shape (take left ls)) k
last_length ls zero d k z h = absurd (omega (arith, z))
last_length ls (suc j) d k z h = rw sub-one (last_at ls j d k (omega (arith, h)))
