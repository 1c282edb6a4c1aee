-- The types of C: which are equal, how integers are widened, and the type of an integer constant. A type is a shape of c_syntax.
use Rattle.std.specs.Prelude.{ℕ, Bool, true, false, ◌&&◌, ◌||◌, List, [], ◌∷◌, Option, Some, None, pos, nat_eq, nat_lt, if◌then◌else◌}
use Rattle.c_base.specs.declared.place.IntKind.{IntKind}
use Rattle.c_base.specs.declared.place.IntKind.TheVariants.{Char, Short, Int, Long, UChar, UShort, UInt, ULong}
use Rattle.c_arith.specs.Arith.{width, in_range}
use Rattle.c_syntax.specs.declared.tree.CType.{CType}
use Rattle.c_syntax.specs.Shape.{TypeOf, int, pointer, array, structure, nothing}
use Rattle.c_syntax.specs.View.{type_of}
use Rattle.c_type_rules.specs.declared.kinds.Radix.{Radix}
use Rattle.c_type_rules.specs.declared.kinds.Radix.TheVariants.{Octal, Decimal, Hexadecimal}
use Rattle.c_type_rules.specs.declared.kinds.Suffix.{Suffix}

-- ---- types

-- the type, where there is one
abbrev pub type_in : Option CType → Option TypeOf
type_in None = None
type_in (Some t) = Some (type_of t)

-- the two integer types are one
abbrev pub same_int : IntKind → IntKind → Bool
same_int Char Char = true
same_int Short Short = true
same_int Int Int = true
same_int Long Long = true
same_int UChar UChar = true
same_int UShort UShort = true
same_int UInt UInt = true
same_int ULong ULong = true
same_int _ _ = false

-- the two types are equal
abbrev pub same_type : TypeOf → TypeOf → Bool
same_type (int a) (int b) = same_int a b
same_type (pointer a) (pointer b) = same_type a b
same_type (array a n) (array b m) = nat_eq n m && same_type a b
same_type (structure n) (structure m) = nat_eq n m
same_type nothing nothing = true
same_type _ _ = false

-- an integer
abbrev pub is_integer : TypeOf → Bool
is_integer (int k) = true
is_integer _ = false

-- an integer or a pointer
abbrev pub is_scalar : TypeOf → Bool
is_scalar (int k) = true
is_scalar (pointer t) = true
is_scalar _ = false

abbrev pub is_structure : TypeOf → Bool
is_structure (structure n) = true
is_structure _ = false

-- an array as a value is a pointer to its first element
abbrev pub decay : TypeOf → TypeOf
decay (array t n) = pointer t
decay t = t

-- ---- integers

-- what is narrower than an int is an int, which holds all its values
abbrev pub promote : IntKind → IntKind
promote k = if nat_lt (width k) (width Int) then Int else k

-- one of the two is this one
abbrev pub either_is : IntKind → IntKind → IntKind → Bool
either_is k a b = same_int a k || same_int b k

-- the type in which two operands meet
abbrev pub meet : IntKind → IntKind → IntKind
meet a b =
    if either_is ULong a b then ULong else if either_is Long a b then Long else if either_is UInt a b then UInt else Int

-- ---- integer constants

-- the types that a constant of this spelling may have, the first choice first
abbrev pub choices : Radix → Bool → Bool → List IntKind
choices r true true = ULong ∷ []
choices r true false = UInt ∷ ULong ∷ []
choices r false true = Long ∷ ULong ∷ []
choices Decimal false false = Int ∷ Long ∷ ULong ∷ []
choices Octal false false = Int ∷ UInt ∷ Long ∷ ULong ∷ []
choices Hexadecimal false false = Int ∷ UInt ∷ Long ∷ ULong ∷ []

-- the first of them that has the value; the widest where none has it
abbrev pub first_with : ℕ → List IntKind → IntKind
first_with value [] = ULong
first_with value (k ∷ rest) = if in_range k (pos value) then k else first_with value rest

abbrev pub constant_type : ℕ → Radix → Suffix → IntKind
constant_type value r s = first_with value (choices r s.unsigned s.long)
