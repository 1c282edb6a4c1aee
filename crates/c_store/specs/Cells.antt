-- What a store holds: instances of cells, of which each was made once, lives, and may end.
use Rattle.std.specs.Prelude.{◌≡◌, ℕ, suc, nat_eq, nat_lt, nat_le, ◌+◌, ◌*◌, ◌<◌, ◌≤◌, ℤ, pos, ◌+ℤ◌, ◌-ℤ◌, int_le, int_lt, unsigned_abs, List, [], ◌∷◌, ◌++◌, length, map, slice_get, slice_set, Option, Some, None, IsSome, Result, Ok, Err, IsOk, Bool, true, false, not, ◌&&◌, ⊤, if◌then◌else◌}
use Rattle.c_store.specs.declared.value.Value.{Value}
use Rattle.c_store.specs.declared.value.Value.TheVariants.{Int, Null, At}
use Rattle.c_store.specs.declared.value.Pointer.{Pointer}
use Rattle.c_store.specs.declared.instance.Instance.{Instance}
use Rattle.c_store.specs.Held.{cells_in}
use Rattle.c_store.specs.declared.value.Order.{Order}
use Rattle.c_store.specs.declared.value.Order.TheVariants.{Lt, Gt, Le, Ge, Eq, Ne}
use Rattle.c_store.specs.declared.value.MakeErr.{MakeErr}
use Rattle.c_store.specs.declared.value.MakeErr.TheVariants.{Room, NoMemory}
use Rattle.c_store.specs.declared.value.Fault.{Fault}
use Rattle.c_store.specs.declared.value.Fault.TheVariants.{Null as NullUsed, Dangling, OutOfBounds, Uninitialised, OtherArray, WriteLiteral}

-- ---- the store

-- a live instance: its number, whether it may be written, and each cell's value, if it has one
pub record Slot : Type 0 where
  pub number : ℕ
  pub writable : Bool
  pub cells : List (Option Value)

-- how many cells may live, how many instances were made, and those that live, in the order of their making
pub record Cells : Type 0 where
  pub most : ℕ
  pub count : ℕ
  pub live : List Slot

abbrev pub slot_of : Instance → Slot
slot_of i = record { number = i.number; writable = i.writable; cells = cells_in i.cells }

-- how many cells they have together
abbrev pub cell_count : List Slot → ℕ
cell_count [] = 0
cell_count (s ∷ rest) = length s.cells + cell_count rest

-- the instance of that number; none where it has ended or was never made
abbrev pub find : ℕ → List Slot → Option Slot
find n [] = None
find n (s ∷ rest) = if nat_eq s.number n then Some s else find n rest

abbrev pub IsLive : ℕ → Cells → Type 0
IsLive n c = IsSome (find n c.live)

-- the numbers ascend, above low and up to top
abbrev pub Ascending : ℕ → ℕ → List Slot → Type 0
Ascending low top [] = low ≤ top
Ascending low top (s ∷ rest) = (low < s.number) × Ascending s.number top rest

-- what each store meets: the numbers are those of instances that were made, and no more cells live than may
pub record IsStore (c : Cells) : Type 0 where
  pub ascending : Ascending 0 c.count c.live
  pub few : cell_count c.live ≤ c.most

-- ---- pointers

-- the cell that a pointer stands at, counted from its instance's first
abbrev pub cell_of : Pointer → ℕ
cell_of p = p.base + p.index * p.size

-- the pointer stands at an element of its array, and the element's cells are among the n of its instance
abbrev pub is_inside : Pointer → ℕ → Bool
is_inside p n = nat_lt p.index p.length && (nat_lt (cell_of p) n && nat_le (cell_of p + p.size) n)

-- the value is a pointer, or null
abbrev pub IsPointer : Value → Type 0
IsPointer (Int n) = ⊥
IsPointer Null = ⊤
IsPointer (At p) = ⊤

abbrev pub element_in : Option Slot → Pointer → Result Slot Fault
element_in None p = Err Dangling
element_in (Some s) p = if is_inside p (length s.cells) then Ok s else Err OutOfBounds

-- the instance whose cells hold the pointer's element: first it must live
abbrev pub element_of : List Slot → Pointer → Result Slot Fault
element_of live p = element_in (find p.instance live) p

-- ---- read and write

abbrev pub cell_value : Option (Option Value) → Result Value Fault
cell_value None = Err OutOfBounds
cell_value (Some None) = Err Uninitialised
cell_value (Some (Some v)) = Ok v

abbrev pub read_in : Result Slot Fault → Pointer → Result Value Fault
read_in (Err fault) p = Err fault
read_in (Ok s) p = cell_value (slice_get s.cells (cell_of p))

-- the value of the cell, or why it gives none
abbrev pub read_of : Cells → Pointer → Result Value Fault
read_of c p = read_in (element_of c.live p) p

-- the instance of that number, replaced
abbrev pub replace : ℕ → Slot → List Slot → List Slot
replace n t [] = []
replace n t (s ∷ rest) = if nat_eq s.number n then t ∷ rest else s ∷ replace n t rest

abbrev pub with_value : Slot → ℕ → Value → Slot
with_value s k v = record s { cells = slice_set s.cells k (Some v) }

abbrev pub write_in : Cells → Result Slot Fault → Pointer → Value → Result Cells Fault
write_in c (Err fault) p v = Err fault
write_in c (Ok s) p v = if s.writable then Ok (record c { live = replace p.instance (with_value s (cell_of p) v) c.live }) else Err WriteLiteral

-- the store with the value in the cell, or why it cannot be written
abbrev pub write_of : Cells → Pointer → Value → Result Cells Fault
write_of c p v = write_in c (element_of c.live p) p v

-- a write that was done, or its fault
abbrev pub IsWritten : Result (Unit {0}) Fault → Cells → Result Cells Fault → Type 0
IsWritten (Ok done) new r = r ≡ Ok new
IsWritten (Err fault) new r = r ≡ Err fault

-- ---- make and end

-- the store with a new instance, or that too many cells would live
abbrev pub made : Cells → Bool → List (Option Value) → Result Cells MakeErr
made c writable cells = if nat_le (cell_count c.live + length cells) c.most then Ok (record { most = c.most; count = suc c.count; live = c.live ++ record { number = suc c.count; writable = writable; cells = cells } ∷ [] }) else Err Room

-- an instance that was made, or that there was no room, or that there was, but no memory
abbrev pub IsMade : Result ℕ MakeErr → Cells → Result Cells MakeErr → Type 0
IsMade (Ok number) new r = (r ≡ Ok new) × (number ≡ new.count)
IsMade (Err Room) new r = r ≡ Err Room
IsMade (Err NoMemory) new r = IsOk r

-- the char of a byte
abbrev pub signed_char : ℕ → ℤ
signed_char byte = if nat_lt byte 128 then pos byte else (pos byte -ℤ pos 256)

abbrev pub char_cell : ℕ → Option Value
char_cell byte = Some (Int (signed_char byte))

-- the cells of a string literal: its chars and a zero
abbrev pub literal_cells : List ℕ → List (Option Value)
literal_cells bytes = map char_cell bytes ++ Some (Int (pos 0)) ∷ []

-- the instances but for the one of that number
abbrev pub without : ℕ → List Slot → List Slot
without n [] = []
without n (s ∷ rest) = if nat_eq s.number n then rest else s ∷ without n rest

-- the store without the instance
abbrev pub ended : Cells → ℕ → Cells
ended c n = record c { live = without n c.live }

-- ---- selection, steps and comparison

abbrev pub selected_in : Result Slot Fault → Pointer → ℕ → ℕ → ℕ → Result Pointer Fault
selected_in (Err fault) p offset count size = Err fault
selected_in (Ok s) p offset count size = Ok (record { instance = p.instance; base = cell_of p + offset; length = count; size = size; index = 0 })

-- the part of the element that begins at the offset: its first element, of as many as counted, each of the size
abbrev pub selected : Cells → Pointer → ℕ → ℕ → ℕ → Result Pointer Fault
selected c p offset count size = selected_in (element_of c.live p) p offset count size

-- the pointer as many elements further on, from the array's first to one past its last
abbrev pub stepped : Value → ℤ → Result Value Fault
stepped (Int n) by = Err NullUsed
stepped Null by = Err NullUsed
stepped (At p) by = if int_le (pos 0) (pos p.index +ℤ by) && int_le (pos p.index +ℤ by) (pos p.length) then Ok (At (record p { index = unsigned_abs (pos p.index +ℤ by) })) else Err OutOfBounds

-- the pointers go through one array
abbrev pub is_one_array : Pointer → Pointer → Bool
is_one_array p q = nat_eq p.instance q.instance && (nat_eq p.base q.base && (nat_eq p.length q.length && nat_eq p.size q.size))

-- how many elements the left stands after the right
abbrev pub differed : Value → Value → Result ℤ Fault
differed (Int n) b = Err NullUsed
differed Null b = Err NullUsed
differed (At p) (Int n) = Err NullUsed
differed (At p) Null = Err NullUsed
differed (At p) (At q) = if is_one_array p q then Ok (pos p.index -ℤ pos q.index) else Err OtherArray

-- both are null, or both stand at one cell of one instance
abbrev pub is_same : Value → Value → Bool
is_same (Int n) b = false
is_same Null (Int n) = false
is_same Null Null = true
is_same Null (At q) = false
is_same (At p) (Int n) = false
is_same (At p) Null = false
is_same (At p) (At q) = nat_eq p.instance q.instance && nat_eq (cell_of p) (cell_of q)

abbrev pub tested : Result ℤ Fault → (ℤ → Bool) → Result Bool Fault
tested (Ok d) test = Ok (test d)
tested (Err fault) test = Err fault

-- what the comparison gives: the lower index stands before
abbrev pub compared : Order → Value → Value → Result Bool Fault
compared Lt a b = tested (differed a b) (λ d. int_lt d (pos 0))
compared Gt a b = tested (differed a b) (λ d. int_lt (pos 0) d)
compared Le a b = tested (differed a b) (λ d. int_le d (pos 0))
compared Ge a b = tested (differed a b) (λ d. int_le (pos 0) d)
compared Eq a b = Ok (is_same a b)
compared Ne a b = Ok (not (is_same a b))

-- ---- where an instance stands in a list

abbrev pub IsPlace : ℕ → List Slot → Option ℕ → Type 0
IsPlace n live None = find n live ≡ None
IsPlace n live (Some i) = (s : Slot) × (slice_get live i ≡ Some s) × (find n live ≡ Some s) × ((t : Slot) → replace n t live ≡ slice_set live i t)

-- where the instance stands whose cells hold the pointer's element, or why there is none
abbrev pub IsElement : Pointer → List Slot → Result ℕ Fault → Type 0
IsElement p live (Err fault) = element_of live p ≡ Err fault
IsElement p live (Ok i) = (s : Slot) × (slice_get live i ≡ Some s) × (element_of live p ≡ Ok s) × ((t : Slot) → replace p.instance t live ≡ slice_set live i t) × (is_inside p (length s.cells) ≡ true)
