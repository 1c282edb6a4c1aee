-- Copies, worked: a structure of three cells, the second without value, onto its neighbour and others.
use Rattle.std.proofs.Common.{◌≡◌, inl, inr, ℕ, zero, suc, pos, List, [], ◌∷◌, Option, Some, None, Ok, Err, true, false, refl, arith}
use Rattle.std.specs.Prelude.{map}
use Rattle.c_store.specs.declared.value.Value.{Value}
use Rattle.c_store.specs.declared.value.Value.TheVariants.{Int}
use Rattle.c_store.specs.declared.value.Pointer.{Pointer}
use Rattle.c_store.specs.declared.value.Fault.TheVariants.{Dangling, OutOfBounds, Uninitialised, WriteLiteral}
use Rattle.c_store.specs.Cells.{Cells}
use Rattle.c_store.specs.Copies.{copy_of}
use Rattle.c_copies.specs.Laws.{reads, outline, ReadsAsSource, IsPartOf, IsMissing, MayNotCopy}

-- an array of two structures of three cells, a string of three cells, and four cells; instance 2 has ended
abbrev store : List (Option Value) → List (Option Value) → Cells
store a d = record {
  most = 20;
  count = 4;
  live = record { number = 1; writable = true; cells = a }
      ∷ record { number = 3; writable = false; cells = Some (Int (pos 104)) ∷ Some (Int (pos 105)) ∷ Some (Int (pos 0)) ∷ [] }
      ∷ record { number = 4; writable = true; cells = d } ∷ [];
}

abbrev array : List (Option Value)
array = Some (Int (pos 1)) ∷ None ∷ Some (Int (pos 3)) ∷ Some (Int (pos 4)) ∷ Some (Int (pos 5)) ∷ Some (Int (pos 6)) ∷ []

abbrev four : List (Option Value)
four = Some (Int (pos 7)) ∷ Some (Int (pos 8)) ∷ Some (Int (pos 9)) ∷ None ∷ []

abbrev before : Cells
before = store array four

-- the i-th structure of three cells in an instance that has so many of them
abbrev nth : ℕ → ℕ → ℕ → Pointer
nth n count i = record { instance = n; base = 0; length = count; size = 3; index = i }

-- the one that begins at a cell
abbrev from : ℕ → ℕ → Pointer
from n k = record { instance = n; base = k; length = 1; size = 3; index = 0 }

-- ---- onto its neighbour

abbrev after : Cells
after = store (Some (Int (pos 1)) ∷ None ∷ Some (Int (pos 3)) ∷ Some (Int (pos 1)) ∷ None ∷ Some (Int (pos 3)) ∷ []) four

neighbour : copy_of before (nth 1 2 0) (nth 1 2 1) ≡ Ok after
neighbour = refl

first_read : reads after 1 3 ≡ reads before 1 0
first_read = refl

first_value : reads after 1 3 ≡ Ok (Int (pos 1))
first_value = refl

no_value_read : reads after 1 4 ≡ reads before 1 1
no_value_read = refl

no_value : reads after 1 4 ≡ Err Uninitialised
no_value = refl

last_read : reads after 1 5 ≡ Ok (Int (pos 3))
last_read = refl

reads_as_source : ReadsAsSource before (nth 1 2 0) (nth 1 2 1) after
reads_as_source zero h = refl
reads_as_source (suc zero) h = refl
reads_as_source (suc (suc zero)) h = refl
reads_as_source (suc (suc (suc i))) h = absurd (omega arith)

source_stays : reads after 1 2 ≡ reads before 1 2
source_stays = refl

others_stay : reads after 4 3 ≡ reads before 4 3
others_stay = refl

past_the_end : reads after 1 6 ≡ Err OutOfBounds
past_the_end = refl

none_lives : reads after 2 0 ≡ Err Dangling
none_lives = refl

outlines_stay : map outline after.live ≡ map outline before.live
outlines_stay = refl

last_part : IsPartOf (nth 1 2 1) 1 5
last_part = (refl, omega arith, omega arith)

not_the_next : IsPartOf (nth 1 2 0) 1 3 → ⊥
not_the_next h = omega (arith, h.2)

-- ---- onto itself, and onto cells that it shares

itself : copy_of before (nth 1 2 0) (nth 1 2 0) ≡ Ok before
itself = refl

abbrev shared_up : Cells
shared_up = store array (Some (Int (pos 7)) ∷ Some (Int (pos 7)) ∷ Some (Int (pos 8)) ∷ Some (Int (pos 9)) ∷ [])

up : copy_of before (from 4 0) (from 4 1) ≡ Ok shared_up
up = refl

-- what the source read before, and not what it reads now
up_reads_as_source : ReadsAsSource before (from 4 0) (from 4 1) shared_up
up_reads_as_source zero h = refl
up_reads_as_source (suc zero) h = refl
up_reads_as_source (suc (suc zero)) h = refl
up_reads_as_source (suc (suc (suc i))) h = absurd (omega arith)

down : copy_of before (from 4 1) (from 4 0) ≡ Ok (store array (Some (Int (pos 8)) ∷ Some (Int (pos 9)) ∷ None ∷ None ∷ []))
down = refl

-- ---- where there is none

dead_target : copy_of before (nth 1 2 0) (nth 2 1 0) ≡ Err Dangling
dead_target = refl

dead_is_missing : IsMissing before (nth 2 1 0) Dangling
dead_is_missing = inl (refl, refl)

dead_target_fails : MayNotCopy before (nth 1 2 0) (nth 2 1 0) Dangling
dead_target_fails = inr (inl (_, (refl, (omega arith, omega arith, omega arith)), dead_is_missing))

source_first : copy_of before (from 4 2) (nth 2 1 0) ≡ Err OutOfBounds
source_first = refl

dead_source_first : copy_of before (nth 2 1 0) (from 4 2) ≡ Err Dangling
dead_source_first = refl

short_is_missing : IsMissing before (from 4 2) OutOfBounds
short_is_missing = inr (_, refl, refl, λ h. absurd (omega (arith, h.2)))

source_fails_first : MayNotCopy before (from 4 2) (nth 2 1 0) OutOfBounds
source_fails_first = inl short_is_missing

onto_a_literal : copy_of before (nth 1 2 0) (nth 3 1 0) ≡ Err WriteLiteral
onto_a_literal = refl

from_a_literal : copy_of before (nth 3 1 0) (from 4 0) ≡ Ok (store array (Some (Int (pos 104)) ∷ Some (Int (pos 105)) ∷ Some (Int (pos 0)) ∷ None ∷ []))
from_a_literal = refl
