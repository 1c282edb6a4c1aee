-- The trace, held to the program's digest.
use Rattle.atac_traces.proofs.Held.{held_to}
use Rattle.atac_traces.proofs.fetching.fetch_trace.Goals as goal

pub returns : goal.returns
returns g c =
    let h = c.in_ok-trace.ensures in
    record { found = h.found; agrees = h.agrees; gives = held_to (g.S.Shelf.state c.args.shelf.now) (g.S.Shelf.state c.fetch_any.new.shelf) c.args.digest.now c.args.name.now h.found h.gives.0 _ h.gives.1 h.gives.2 c.of_program.result c.of_program.ensures; says = h.says; grows = h.grows }
