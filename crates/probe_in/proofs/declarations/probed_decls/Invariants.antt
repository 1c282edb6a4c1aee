use Rattle.std.proofs.Common.{drop}
use Rattle.probe_in.proofs.Lists.{DeclsSoFar}
use Rattle.probe_in.proofs.declarations.probed_decls.Given as goal

abbrev pub invariant-loop-decl : goal.invariant-loop-decl
invariant-loop-decl l = DeclsSoFar l.initial.out.numbers l.out.numbers l.made.items (drop l.decl-index l.decls) l.decls
