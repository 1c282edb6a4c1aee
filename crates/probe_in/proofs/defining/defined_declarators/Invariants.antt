use Rattle.std.proofs.Common.{drop}
use Rattle.probe_in.proofs.Lists.{DefinedSoFar}
use Rattle.probe_in.proofs.defining.defined_declarators.Given as goal

abbrev pub invariant-loop-name : goal.invariant-loop-name
invariant-loop-name l = DefinedSoFar l.initial.out.numbers l.out.numbers l.made.items (drop l.name-index l.names) l.names
