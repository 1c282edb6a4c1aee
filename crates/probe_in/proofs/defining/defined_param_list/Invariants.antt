use Rattle.std.proofs.Common.{drop}
use Rattle.probe_in.proofs.Lists.{ParametersSoFar}
use Rattle.probe_in.proofs.defining.defined_param_list.Given as goal

abbrev pub invariant-loop-param : goal.invariant-loop-param
invariant-loop-param l = ParametersSoFar l.initial.out.numbers l.out.numbers l.made.items (drop l.param-index l.list) l.list
