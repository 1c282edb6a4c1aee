use Rattle.std.proofs.Common.{drop}
use Rattle.probe_in.proofs.Lists.{ExternalsSoFar}
use Rattle.probe_in.proofs.unit.probed_externals.Given as goal

abbrev pub invariant-loop-external : goal.invariant-loop-external
invariant-loop-external l = ExternalsSoFar l.out.numbers l.made.items (drop l.external-index l.externals) l.externals
