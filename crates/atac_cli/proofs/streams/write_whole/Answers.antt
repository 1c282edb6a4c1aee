use Rattle.std.proofs.Common.{ap, sym, subst}
use Rattle.atac_cli.specs.Streams.{Took}
use Rattle.atac_cli.proofs.streams.write_whole.Goals as goal
use Rattle.atac_cli.proofs.streams.write_whole.Goals.{in-Ok, in-Err+else-ne}
use Rattle.atac_cli.proofs.Appending.{took_more, took_no_more}

pub loop-preserved : goal.loop-preserved
loop-preserved g c = elim c.match-write.branch [
  | in-Ok w ↦ subst (Took _ _ _) (sym (ap (λ r. r.now) w.rest-is)) (took_more _ _ _ _ _ _ c.loop.invariant w.in-Ok.ensures.bytes)
  | in-Err+else-ne w ↦ subst (Took _ _ _) (sym (ap (λ r. r.now) w.rest-is)) (took_no_more _ _ _ _ _ c.loop.invariant w.in-Err.ensures.bytes)
]
