-- Equal types.
use Rattle.std.proofs.Common.{rules, ◌≡◌, ℕ, true, nat_eq, refl}
use Rattle.c_base.specs.declared.place.IntKind.{IntKind}
use Rattle.c_base.specs.declared.place.IntKind.TheVariants.{Char, Short, Int, Long, UChar, UShort, UInt, ULong}
use Rattle.c_syntax.specs.Shape.{TypeOf, int, pointer, array, structure, nothing}
use Rattle.c_type_rules.specs.Kinds.{same_int, same_type}

pub same_int_refl : (k : IntKind) → same_int k k ≡ true
same_int_refl Char = refl
same_int_refl Short = refl
same_int_refl Int = refl
same_int_refl Long = refl
same_int_refl UChar = refl
same_int_refl UShort = refl
same_int_refl UInt = refl
same_int_refl ULong = refl

pub nat_eq_refl : (n : ℕ) → nat_eq n n ≡ true
nat_eq_refl n = search rules

pub same_refl : (t : TypeOf) → same_type t t ≡ true
same_refl (int k) = same_int_refl k
same_refl (pointer t) = same_refl t
same_refl (array t n) = rw (nat_eq_refl n) (same_refl t)
same_refl (structure n) = nat_eq_refl n
same_refl nothing = refl
