-- The ranges of the types in which operands meet.
use Rattle.std.proofs.Common.{◌≡◌, ℤ, pos, ◌≤ℤ◌, true, arith}
use Rattle.std.proofs.lemmas.Int.{ints}
use Rattle.c_base.specs.declared.place.IntKind.{IntKind}
use Rattle.c_base.specs.declared.place.IntKind.TheVariants.{Char, Short, Int, Long, UChar, UShort, UInt, ULong}
use Rattle.c_arith.specs.Arith.{InRange, is_signed}
use Rattle.c_type_rules.specs.Kinds.{promote, meet}
use Rattle.c_type_rules.specs.Laws.{Keeps}

pub promote_keeps : (k : IntKind) (z : ℤ) → InRange k z → InRange (promote k) z
promote_keeps Char z h = record { at_least = omega (arith, ints); at_most = omega (arith, ints) }
promote_keeps Short z h = record { at_least = omega (arith, ints); at_most = omega (arith, ints) }
promote_keeps UChar z h = record { at_least = omega (arith, ints); at_most = omega (arith, ints) }
promote_keeps UShort z h = record { at_least = omega (arith, ints); at_most = omega (arith, ints) }
promote_keeps Int z h = h
promote_keeps Long z h = h
promote_keeps UInt z h = h
promote_keeps ULong z h = h

-- ---- the type in which two operands meet

pub meet_from_zero : (a b : IntKind) (z : ℤ) → InRange a z → pos 0 ≤ℤ z → InRange (meet a b) z
meet_from_zero Char Char z h p = record { at_least = omega (arith, ints); at_most = omega (arith, ints) }
meet_from_zero Short Char z h p = record { at_least = omega (arith, ints); at_most = omega (arith, ints) }
meet_from_zero Int Char z h p = record { at_least = omega (arith, ints); at_most = omega (arith, ints) }
meet_from_zero Long Char z h p = record { at_least = omega (arith, ints); at_most = omega (arith, ints) }
meet_from_zero UChar Char z h p = record { at_least = omega (arith, ints); at_most = omega (arith, ints) }
meet_from_zero UShort Char z h p = record { at_least = omega (arith, ints); at_most = omega (arith, ints) }
meet_from_zero UInt Char z h p = record { at_least = omega (arith, ints); at_most = omega (arith, ints) }
meet_from_zero ULong Char z h p = record { at_least = omega (arith, ints); at_most = omega (arith, ints) }
meet_from_zero _ _ z h p = record { at_least = omega (arith, ints); at_most = omega (arith, ints) }

pub meet_signed : (a b : IntKind) (z : ℤ) → InRange a z → is_signed (meet a b) ≡ true → InRange (meet a b) z
meet_signed Char Char z h p = record { at_least = first_of (omega (arith, ints), cc); at_most = first_of (omega (arith, ints), cc) }
meet_signed Short Char z h p = record { at_least = first_of (omega (arith, ints), cc); at_most = first_of (omega (arith, ints), cc) }
meet_signed Int Char z h p = record { at_least = first_of (omega (arith, ints), cc); at_most = first_of (omega (arith, ints), cc) }
meet_signed Long Char z h p = record { at_least = first_of (omega (arith, ints), cc); at_most = first_of (omega (arith, ints), cc) }
meet_signed UChar Char z h p = record { at_least = first_of (omega (arith, ints), cc); at_most = first_of (omega (arith, ints), cc) }
meet_signed UShort Char z h p = record { at_least = first_of (omega (arith, ints), cc); at_most = first_of (omega (arith, ints), cc) }
meet_signed UInt Char z h p = record { at_least = first_of (omega (arith, ints), cc); at_most = first_of (omega (arith, ints), cc) }
meet_signed ULong Char z h p = record { at_least = first_of (omega (arith, ints), cc); at_most = first_of (omega (arith, ints), cc) }
meet_signed _ _ z h p = record { at_least = first_of (omega (arith, ints), cc); at_most = first_of (omega (arith, ints), cc) }

pub meet_keeps : (a b : IntKind) (z : ℤ) → InRange a z → Keeps (meet a b) z
meet_keeps a b z h = record { from_zero = meet_from_zero a b z h; signed = meet_signed a b z h }
