-- What a copy of one structure's cells onto another's leaves, and when there is none (C89, 3.3.16.1): by what cells read, and not by steps.
use Rattle.std.specs.Prelude.{◌≡◌, ◌⊎◌, ◌↔◌, ◌+◌, ◌<◌, ◌≤◌, ℕ, map, length, Some, None, Result, Ok, Err, Bool, true, false}
use Rattle.c_store.specs.declared.value.Value.{Value}
use Rattle.c_store.specs.declared.value.Pointer.{Pointer}
use Rattle.c_store.specs.declared.value.Fault.{Fault}
use Rattle.c_store.specs.declared.value.Fault.TheVariants.{Dangling, OutOfBounds, WriteLiteral}
use Rattle.c_store.specs.Cells.{Slot, Cells, IsStore, cell_of, find, read_of}
use Rattle.c_store.specs.Copies.{copy_of}

-- ---- what a cell reads

-- the pointer to one cell of an instance, by itself
abbrev pub cell_at : ℕ → ℕ → Pointer
cell_at n k = record { instance = n; base = k; length = 1; size = 1; index = 0 }

-- what the k-th cell of instance n reads: its value, or that it has none, or that it lies past the end, or that the instance doesn't live
abbrev pub reads : Cells → ℕ → ℕ → Result Value Fault
reads c n k = read_of c (cell_at n k)

-- that cell is one of the structure at p
abbrev pub IsPartOf : Pointer → ℕ → ℕ → Type 0
IsPartOf p n k = (n ≡ p.instance) × (cell_of p ≤ k) × (k < cell_of p + p.size)

-- ---- what a copy leaves: in the store c the structure at p was copied onto that at q, and d is left

-- each cell of the target reads as that of the source did; also where both share cells, to which C89 gives a meaning only if they share all
abbrev pub ReadsAsSource : Cells → Pointer → Pointer → Cells → Type 0
ReadsAsSource c p q d = (i : ℕ) → i < p.size → reads d q.instance (cell_of q + i) ≡ reads c p.instance (cell_of p + i)

-- each other cell, of whichever instance, reads as it did
abbrev pub OthersStay : Cells → Pointer → Cells → Type 0
OthersStay c q d = (n k : ℕ) → (IsPartOf q n k → ⊥) → reads d n k ≡ reads c n k

-- an instance but for what its cells hold: its number, whether it may be written, how many cells it has
pub record Outline : Type 0 where
  pub number : ℕ
  pub writable : Bool
  pub length : ℕ

abbrev pub outline : Slot → Outline
outline s = record { number = s.number; writable = s.writable; length = length s.cells }

-- the same instances live, in the same order, each as long and as writable as it was, and no other was made
abbrev pub InstancesStay : Cells → Cells → Type 0
InstancesStay c d = (d.most ≡ c.most) × (d.count ≡ c.count) × (map outline d.live ≡ map outline c.live)

-- all three
pub record IsCopied (c : Cells) (p q : Pointer) (d : Cells) : Type 0 where
  pub target : ReadsAsSource c p q d
  pub others : OthersStay c q d
  pub instances : InstancesStay c d

-- ---- when there is a copy

-- p stands at an element of its array; the cell that it stands at, and as many as its size, are cells of the instance
abbrev pub IsWithin : Pointer → Slot → Type 0
IsWithin p s = (p.index < p.length) × (cell_of p < length s.cells) × (cell_of p + p.size ≤ length s.cells)

-- its instance lives, and p is within it
abbrev pub IsThere : Cells → Pointer → Slot → Type 0
IsThere c p s = (find p.instance c.live ≡ Some s) × IsWithin p s

-- its instance doesn't live; or it does, but p isn't within it
abbrev pub IsMissing : Cells → Pointer → Fault → Type 0
IsMissing c p f = ((f ≡ Dangling) × (find p.instance c.live ≡ None)) ⊎ ((s : Slot) × (f ≡ OutOfBounds) × (find p.instance c.live ≡ Some s) × (IsWithin p s → ⊥))

-- both are there, and the target may be written
abbrev pub MayCopy : Cells → Pointer → Pointer → Type 0
MayCopy c p q = (s : Slot) × (t : Slot) × IsThere c p s × IsThere c q t × (t.writable ≡ true)

-- the source is missing, whatever the target is; or the source is there, and the target missing; or both are there, and the target is a literal's
abbrev pub MayNotCopy : Cells → Pointer → Pointer → Fault → Type 0
MayNotCopy c p q f =
    IsMissing c p f
    ⊎ (((s : Slot) × IsThere c p s × IsMissing c q f)
    ⊎ ((s : Slot) × (t : Slot) × IsThere c p s × IsThere c q t × (t.writable ≡ false) × (f ≡ WriteLiteral)))

-- ---- the laws

abbrev pub TargetsReadAsSources : Type 0
TargetsReadAsSources = (c d : Cells) (p q : Pointer) → p.size ≡ q.size → copy_of c p q ≡ Ok d → ReadsAsSource c p q d

abbrev pub OtherCellsStay : Type 0
OtherCellsStay = (c d : Cells) (p q : Pointer) → p.size ≡ q.size → copy_of c p q ≡ Ok d → OthersStay c q d

abbrev pub AllInstancesStay : Type 0
AllInstancesStay = (c d : Cells) (p q : Pointer) → p.size ≡ q.size → copy_of c p q ≡ Ok d → InstancesStay c d

-- what is copied onto itself changes nothing
abbrev pub SelfCopiesChangeNothing : Type 0
SelfCopiesChangeNothing = (c d : Cells) (p q : Pointer) → p.size ≡ q.size → p.instance ≡ q.instance → cell_of p ≡ cell_of q → copy_of c p q ≡ Ok d → d ≡ c

-- there is a copy exactly where both are there and the target may be written
abbrev pub CopiesAreMade : Type 0
CopiesAreMade = (c : Cells) (p q : Pointer) → ((d : Cells) × (copy_of c p q ≡ Ok d)) ↔ MayCopy c p q

-- each fault comes exactly there
abbrev pub CopiesFail : Type 0
CopiesFail = (c : Cells) (p q : Pointer) (f : Fault) → (copy_of c p q ≡ Err f) ↔ MayNotCopy c p q f

-- a store of which all this holds is what the copy leaves, and no other is
abbrev pub CopiesAreDetermined : Type 0
CopiesAreDetermined = (c d : Cells) (p q : Pointer) → IsStore c → p.size ≡ q.size → MayCopy c p q → IsCopied c p q d → copy_of c p q ≡ Ok d
