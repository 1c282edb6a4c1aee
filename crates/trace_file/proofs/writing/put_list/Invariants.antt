-- The records so far.
use Rattle.std.proofs.Common.{◌≡◌, ◌++◌, true, length, take}
use Rattle.std.specs.List.{flat_map}
use Rattle.byteorder.specs.Endian.{big_bytes}
use Rattle.trace_file.specs.Layout.{rows_in, record_of}
use Rattle.trace_file.proofs.writing.put_list.Given as goal

abbrev pub invariant-loop-row : goal.invariant-loop-row
invariant-loop-row l =
    l.out.items ≡ l.fn.out.items ++ (big_bytes 4 (length (rows_in l.kind l.rows)) ++ flat_map (record_of true) (rows_in l.kind (take l.row-index l.rows)))
