use Rattle.std.proofs.Common.{map, drop}
use Rattle.std.specs.Prelude.{string_bytes}
use Rattle.atac_traces.specs.Joins.{Came}
use Rattle.atac_traces.proofs.joining.join.Given as goal

-- the traces so far are added up, and the others are left
abbrev pub invariant-loop-name : goal.invariant-loop-name
invariant-loop-name g l = Came (g.S.Shelf.state l.fn.shelf) (g.S.Shelf.state l.shelf) l.fn.sum (map string_bytes l.fn.names) (map string_bytes (drop l.name-index l.names)) l.sum
