use Rattle.std.proofs.Common.{drop}
use Rattle.probe_in.proofs.Lists.{DeclaratorsSoFar}
use Rattle.probe_in.proofs.declarations.probed_declarators.Given as goal

abbrev pub invariant-loop-name : goal.invariant-loop-name
invariant-loop-name l = DeclaratorsSoFar l.initial.out.numbers l.out.numbers l.made.items (drop l.name-index l.names) l.names
