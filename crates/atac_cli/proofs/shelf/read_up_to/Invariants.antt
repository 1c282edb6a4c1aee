use Rattle.std.proofs.Common.{◌≤◌, vec_len}
use Rattle.atac_cli.proofs.shelf.read_up_to.Given as goal

abbrev pub invariant-loop : goal.invariant-loop
invariant-loop g l = vec_len l.into ≤ l.most
