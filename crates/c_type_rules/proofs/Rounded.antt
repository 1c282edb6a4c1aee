-- Room stays small.
use Rattle.std.proofs.Common.{◌≡◌, ℕ, ◌+◌, ◌-◌, ◌*◌, ◌%◌, ◌≤◌, ◌<◌, Bool, true, false, nat_eq, arith, refl, mul-le-mul_left, mul_left_comm, if◌then◌else◌}
use Rattle.std.proofs.lemmas.Bool.{eqb-true, eqb-false}
use Rattle.c_type_rules.specs.Laws.{IsNextMultiple}
use Rattle.c_type_rules.specs.declared.extent.Align.{Align}
use Rattle.c_type_rules.specs.declared.extent.Align.TheVariants.{One, Two, Four, Eight}
use Rattle.c_type_rules.specs.Layouts.{bytes, round_up}

-- what is missing to a multiple doesn't pass the next multiple of 8
pub room_left : (a : Align) (n c : ℕ) → n ≤ 8 * c → 0 < n % bytes a → n + (bytes a - n % bytes a) ≤ 8 * c
room_left One n c h p = omega arith
room_left Two n c h p = omega arith
room_left Four n c h p = omega arith
room_left Eight n c h p = omega arith

-- so many objects
pub array_small : (n s c : ℕ) → s ≤ 8 * c → n * s ≤ 8 * (n * c)
array_small n s c h = rw (mul_left_comm 8 n c) (mul-le-mul_left n h)

next_if : (a : Align) (n : ℕ) (x : Bool) → nat_eq (n % bytes a) 0 ≡ x → IsNextMultiple (bytes a) n (if x then n else (n + (bytes a - n % bytes a)))
next_if One n true e = let h = eqb-true (n % 1) 0 e in record { multiple = omega arith; above = omega arith; least = omega arith }
next_if Two n true e = let h = eqb-true (n % 2) 0 e in record { multiple = omega arith; above = omega arith; least = omega arith }
next_if Four n true e = let h = eqb-true (n % 4) 0 e in record { multiple = omega arith; above = omega arith; least = omega arith }
next_if Eight n true e = let h = eqb-true (n % 8) 0 e in record { multiple = omega arith; above = omega arith; least = omega arith }
next_if One n false e = let h = eqb-false (n % 1) 0 e in record { multiple = omega arith; above = omega arith; least = omega arith }
next_if Two n false e = let h = eqb-false (n % 2) 0 e in record { multiple = omega arith; above = omega arith; least = omega arith }
next_if Four n false e = let h = eqb-false (n % 4) 0 e in record { multiple = omega arith; above = omega arith; least = omega arith }
next_if Eight n false e = let h = eqb-false (n % 8) 0 e in record { multiple = omega arith; above = omega arith; least = omega arith }

-- rounding up gives the next multiple
pub is_next_multiple : (a : Align) (n : ℕ) → IsNextMultiple (bytes a) n (round_up n (bytes a))
is_next_multiple a n = next_if a n (nat_eq (n % bytes a) 0) refl
