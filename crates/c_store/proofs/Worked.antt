-- Worked values of the definitions.
use Rattle.std.proofs.Common.{◌≡◌, ℕ, pos, negsuc, List, [], ◌∷◌, Option, Some, None, Ok, Err, true, false, refl}
use Rattle.c_store.specs.declared.value.Value.{Value}
use Rattle.c_store.specs.declared.value.Value.TheVariants.{Int, Null, At}
use Rattle.c_store.specs.declared.value.Pointer.{Pointer}
use Rattle.c_store.specs.declared.value.Order.TheVariants.{Lt, Ge, Eq, Ne}
use Rattle.c_store.specs.declared.value.MakeErr.TheVariants.{Room}
use Rattle.c_store.specs.declared.value.Fault.TheVariants.{Null as NullUsed, Dangling, OutOfBounds, Uninitialised, OtherArray, WriteLiteral}
use Rattle.c_store.specs.Cells.{Cells, cell_count, signed_char, literal_cells, made, ended, read_of, write_of, selected, stepped, compared, differed}
use Rattle.c_store.specs.Copies.{copy_of, reach_of}

abbrev empty : ℕ → Cells
empty most = record { most = most; count = 0; live = [] }

-- the element of an array of so many cells, from an instance's first
abbrev at : ℕ → ℕ → ℕ → Pointer
at instance length index = record { instance = instance; base = 0; length = length; size = 1; index = index }

-- the literal "ab" in a store of at most 4 cells
abbrev text : Cells
text = record { most = 4; count = 1; live = record { number = 1; writable = false; cells = Some (Int (pos 97)) ∷ Some (Int (pos 98)) ∷ Some (Int (pos 0)) ∷ [] } ∷ [] }

literal_made : made (empty 4) false (literal_cells (97 ∷ 98 ∷ [])) ≡ Ok text
literal_made = refl

three_live : cell_count text.live ≡ 3
three_live = refl

second_char : read_of text (at 1 3 1) ≡ Ok (Int (pos 98))
second_char = refl

zero_at_the_end : read_of text (at 1 3 2) ≡ Ok (Int (pos 0))
zero_at_the_end = refl

not_past_the_end : read_of text (at 1 3 3) ≡ Err OutOfBounds
not_past_the_end = refl

cells_must_be_there : read_of text (at 1 4 3) ≡ Err OutOfBounds
cells_must_be_there = refl

literal_not_written : write_of text (at 1 3 0) (Int (pos 1)) ≡ Err WriteLiteral
literal_not_written = refl

never_made : write_of text (at 2 3 9) (Int (pos 1)) ≡ Err Dangling
never_made = refl

no_room : made text false (literal_cells (120 ∷ [])) ≡ Err Room
no_room = refl

negative_char : signed_char 200 ≡ negsuc 55
negative_char = refl

one_past_the_last : stepped (At (at 1 3 0)) (pos 3) ≡ Ok (At (at 1 3 3))
one_past_the_last = refl

two_past_the_last : stepped (At (at 1 3 0)) (pos 4) ≡ Err OutOfBounds
two_past_the_last = refl

before_the_first : stepped (At (at 1 3 0)) (negsuc 0) ≡ Err OutOfBounds
before_the_first = refl

-- two cells without value in a store of at most 3 cells
abbrev pair : ℕ → Cells
pair number = record { most = 3; count = number; live = record { number = number; writable = true; cells = None ∷ None ∷ [] } ∷ [] }

pair_made : made (empty 3) true (None ∷ None ∷ []) ≡ Ok (pair 1)
pair_made = refl

full : made (pair 1) true (None ∷ None ∷ []) ≡ Err Room
full = refl

made_again : made (ended (pair 1) 1) true (None ∷ None ∷ []) ≡ Ok (pair 2)
made_again = refl

no_value : read_of (pair 2) (at 2 2 0) ≡ Err Uninitialised
no_value = refl

-- an ended instance, even beyond its length
dangles : read_of (pair 2) (at 1 2 5) ≡ Err Dangling
dangles = refl

-- a field at the second cell of an element of two
field : selected (pair 2) (record { instance = 2; base = 0; length = 1; size = 2; index = 0 }) 1 1 1 ≡ Ok (record { instance = 2; base = 1; length = 1; size = 1; index = 0 })
field = refl

no_field_past_the_end : selected (pair 2) (record { instance = 2; base = 0; length = 1; size = 2; index = 1 }) 1 1 1 ≡ Err OutOfBounds
no_field_past_the_end = refl

before : compared Lt (At (at 2 2 0)) (At (at 2 2 1)) ≡ Ok true
before = refl

not_before : compared Ge (At (at 2 2 0)) (At (at 2 2 1)) ≡ Ok false
not_before = refl

other_array : compared Lt (At (at 2 2 0)) (At (at 1 2 1)) ≡ Err OtherArray
other_array = refl

null_before : differed Null (At (at 2 2 0)) ≡ Err NullUsed
null_before = refl

one_before : differed (At (at 2 2 0)) (At (at 2 2 1)) ≡ Ok (negsuc 0)
one_before = refl

-- the first cell of an array of two, and the second of an array of one that begins before it
one_cell : compared Eq (At (record { instance = 2; base = 1; length = 1; size = 1; index = 0 })) (At (at 2 2 1)) ≡ Ok true
one_cell = refl

null_is_null : compared Ne Null Null ≡ Ok false
null_is_null = refl

-- ---- copies: an instance of three cells, of which the second has no value, and one of four

abbrev cells : ℕ → ℕ → ℕ → ℕ → List (Option Value)
cells a b c d = Some (Int (pos a)) ∷ Some (Int (pos b)) ∷ Some (Int (pos c)) ∷ Some (Int (pos d)) ∷ []

abbrev both : List (Option Value) → Cells
both four = record { most = 9; count = 2; live = record { number = 1; writable = true; cells = Some (Int (pos 1)) ∷ None ∷ Some (Int (pos 3)) ∷ [] } ∷ record { number = 2; writable = true; cells = four } ∷ [] }

-- the element of two cells that begins at a cell
abbrev two_at : ℕ → ℕ → Pointer
two_at instance base = record { instance = instance; base = base; length = 1; size = 2; index = 0 }

no_value_copied : copy_of (both (cells 7 8 9 10)) (two_at 1 0) (two_at 2 1) ≡ Ok (both (Some (Int (pos 7)) ∷ Some (Int (pos 1)) ∷ None ∷ Some (Int (pos 10)) ∷ []))
no_value_copied = refl

next_element : copy_of (both (cells 7 8 9 10)) (record { instance = 2; base = 0; length = 2; size = 2; index = 0 }) (record { instance = 2; base = 0; length = 2; size = 2; index = 1 }) ≡ Ok (both (cells 7 8 7 8))
next_element = refl

onto_itself : copy_of (both (cells 7 8 9 10)) (two_at 1 0) (two_at 1 0) ≡ Ok (both (cells 7 8 9 10))
onto_itself = refl

overlap_up : copy_of (both (cells 7 8 9 10)) (two_at 2 0) (two_at 2 1) ≡ Ok (both (cells 7 7 8 10))
overlap_up = refl

overlap_down : copy_of (both (cells 7 8 9 10)) (two_at 2 1) (two_at 2 0) ≡ Ok (both (cells 8 9 9 10))
overlap_down = refl

source_outside : copy_of (both (cells 7 8 9 10)) (two_at 1 2) (two_at 3 0) ≡ Err OutOfBounds
source_outside = refl

target_ended : copy_of (both (cells 7 8 9 10)) (two_at 1 1) (two_at 3 0) ≡ Err Dangling
target_ended = refl

target_outside : copy_of (both (cells 7 8 9 10)) (two_at 2 2) (two_at 1 2) ≡ Err OutOfBounds
target_outside = refl

literal_kept : copy_of text (two_at 1 0) (two_at 1 1) ≡ Err WriteLiteral
literal_kept = refl

reached_without_value : reach_of (both (cells 7 8 9 10)) (two_at 1 0) ≡ Ok tt
reached_without_value = refl

not_reached : reach_of (both (cells 7 8 9 10)) (two_at 1 2) ≡ Err OutOfBounds
not_reached = refl

ended_not_reached : reach_of (both (cells 7 8 9 10)) (two_at 3 0) ≡ Err Dangling
ended_not_reached = refl
