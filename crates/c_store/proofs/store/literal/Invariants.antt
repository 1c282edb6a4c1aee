use Rattle.std.proofs.Common.{◌≡◌, map, take}
use Rattle.c_store.specs.Cells.{char_cell}
use Rattle.c_store.proofs.store.literal.Given as goal

abbrev pub invariant-loop-byte : goal.invariant-loop-byte
invariant-loop-byte l = l.cells.items ≡ map char_cell (take l.byte-index l.bytes)
