-- How much room an object of a type takes. The alignment of a scalar is its size.
use Rattle.std.specs.Prelude.{ℕ, ◌+◌, ◌-◌, ◌*◌, ◌%◌, List, [], ◌∷◌, map, slice_get, Option, Some, None, nat_eq, nat_lt, nat_le, if◌then◌else◌}
use Rattle.c_base.specs.declared.place.IntKind.{IntKind}
use Rattle.c_base.specs.declared.place.IntKind.TheVariants.{Char, Short, Int, Long, UChar, UShort, UInt, ULong}
use Rattle.c_syntax.specs.Shape.{TypeOf, int, pointer, array, structure, nothing}
use Rattle.c_type_rules.specs.declared.extent.Align.{Align}
use Rattle.c_type_rules.specs.declared.extent.Align.TheVariants.{One, Two, Four, Eight}
use Rattle.c_type_rules.specs.declared.extent.Layout.{Layout}
use Rattle.c_type_rules.specs.declared.extent.Measured.{Measured}
use Rattle.c_type_rules.specs.declared.extent.Measured.TheVariants.{Known, Incomplete, TooLarge}

-- ---- room

-- bytes, alignment, and cells, which are the scalars inside
pub record Extent : Type 0 where
  pub size : ℕ
  pub align : Align
  pub cells : ℕ

-- the room; none, as the type is incomplete; or that it would have too many cells
pub data Measure : Type 0 where
  known : Extent → Measure
  incomplete : Measure
  too_large : Measure

abbrev pub extent_of : Layout → Extent
extent_of l = record { size = l.size; align = l.align; cells = l.cells }

abbrev pub measure_of : Measured → Measure
measure_of (Known l) = known (extent_of l)
measure_of Incomplete = incomplete
measure_of TooLarge = too_large

abbrev pub measures : List Measured → List Measure
measures rows = map measure_of rows

-- an object has at most 1048576 cells
abbrev pub limited : Extent → Measure
limited e = if nat_le e.cells 1048576 then known e else too_large

-- what goes on with the room
abbrev pub onward : Measure → (Extent → Measure) → Measure
onward (known e) f = f e
onward incomplete f = incomplete
onward too_large f = too_large

-- ---- alignment

abbrev pub bytes : Align → ℕ
bytes One = 1
bytes Two = 2
bytes Four = 4
bytes Eight = 8

-- the larger of the two
abbrev pub stricter : Align → Align → Align
stricter a b = if nat_lt (bytes a) (bytes b) then b else a

-- the number, and what is missing to a multiple of the other
abbrev pub round_up : ℕ → ℕ → ℕ
round_up n a = if nat_eq (n % a) 0 then n else (n + (a - n % a))

-- ---- types

abbrev pub scalar : Align → Extent
scalar a = record { size = bytes a; align = a; cells = 1 }

-- as many bytes as the width has
abbrev pub int_align : IntKind → Align
int_align Char = One
int_align UChar = One
int_align Short = Two
int_align UShort = Two
int_align Int = Four
int_align UInt = Four
int_align Long = Eight
int_align ULong = Eight

-- so many of them, one behind the other
abbrev pub repeated : ℕ → Extent → Extent
repeated n e = record { size = n * e.size; align = e.align; cells = n * e.cells }

-- the room in a row, if there is one
abbrev pub in_row : Option Measure → Measure
in_row (Some m) = m
in_row None = incomplete

-- structures are numbered from 1
abbrev pub numbered : List Measure → ℕ → Measure
numbered rows n = if nat_eq n 0 then incomplete else in_row (slice_get rows (n - 1))

-- a type's room over the rows of the structures, each with the structure's room
abbrev pub measure : List Measure → TypeOf → Measure
measure rows (int k) = known (scalar (int_align k))
measure rows (pointer t) = known (scalar Eight)
measure rows (array t n) = onward (measure rows t) (λ e. limited (repeated n e))
measure rows (structure n) = numbered rows n
measure rows nothing = incomplete

-- ---- structures

abbrev pub empty : Extent
empty = record { size = 0; align = One; cells = 0 }

-- what was laid out so far, and a field behind it at a multiple of the field's alignment
abbrev pub joined : Extent → Extent → Extent
joined s f = record { size = round_up s.size (bytes f.align) + f.size; align = stricter s.align f.align; cells = s.cells + f.cells }

-- filled up to a multiple of the largest alignment
abbrev pub closed : Extent → Extent
closed s = record { size = round_up s.size (bytes s.align); align = s.align; cells = s.cells }

-- the same, where both are known
abbrev pub followed : Measure → Measure → Measure
followed s f = onward s (λ e. onward f (λ g. limited (joined e g)))

-- the fields in order, behind what was laid out so far
abbrev pub laid_out : List Measure → Measure → List TypeOf → Measure
laid_out rows s [] = onward s (λ e. known (closed e))
laid_out rows s (t ∷ ts) = laid_out rows (followed s (measure rows t)) ts

abbrev pub structure_measure : List Measure → List TypeOf → Measure
structure_measure rows fields = laid_out rows (known empty) fields
