use Rattle.atac_cli.specs.Streams.{Took}
use Rattle.atac_cli.proofs.streams.write_whole.Given as goal

abbrev pub invariant-loop : goal.invariant-loop
invariant-loop g l = Took (g.W.Write.contents l.fn.stream) (g.W.Write.contents l.stream) l.fn.bytes l.rest
