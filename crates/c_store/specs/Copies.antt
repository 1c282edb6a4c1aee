-- What a store holds once the cells of one element were copied to another.
use Rattle.std.specs.Prelude.{ℕ, ◌+◌, List, ◌++◌, length, take, drop, Option, Result, Ok, Err, if◌then◌else◌}
use Rattle.c_store.specs.declared.value.Value.{Value}
use Rattle.c_store.specs.declared.value.Pointer.{Pointer}
use Rattle.c_store.specs.declared.value.Fault.{Fault}
use Rattle.c_store.specs.declared.value.Fault.TheVariants.{WriteLiteral}
use Rattle.c_store.specs.Cells.{Slot, Cells, cell_of, element_of, replace}

abbrev pub reached_in : Result Slot Fault → Result (Unit {0}) Fault
reached_in (Err fault) = Err fault
reached_in (Ok s) = Ok tt

-- the element's cells lie in a live instance, or why not; none needs a value
abbrev pub reach_of : Cells → Pointer → Result (Unit {0}) Fault
reach_of c p = reached_in (element_of c.live p)

-- the element's cells
abbrev pub cells_at : Slot → Pointer → List (Option Value)
cells_at s p = take p.size (drop (cell_of p) s.cells)

-- the cells with these in place of as many from the k-th on
abbrev pub with_part : List (Option Value) → ℕ → List (Option Value) → List (Option Value)
with_part cells k part = take k cells ++ part ++ drop (k + length part) cells

abbrev pub copied_in : Cells → Result Slot Fault → Pointer → Result Slot Fault → Pointer → Result Cells Fault
copied_in c (Err fault) p r q = Err fault
copied_in c (Ok s) p (Err fault) q = Err fault
copied_in c (Ok s) p (Ok t) q = if t.writable then Ok (record c { live = replace q.instance (record t { cells = with_part t.cells (cell_of q) (cells_at s p) }) c.live }) else Err WriteLiteral

-- the store in which the second element has the cells of the first, or why not
abbrev pub copy_of : Cells → Pointer → Pointer → Result Cells Fault
copy_of c p q = copied_in c (element_of c.live p) p (element_of c.live q) q
