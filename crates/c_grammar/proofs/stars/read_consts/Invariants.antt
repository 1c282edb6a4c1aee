use Rattle.std.proofs.Common.{◌+◌, ◌≤◌, length}
use Rattle.c_grammar.proofs.ListSteps.{ConstsFrom}
use Rattle.c_grammar.proofs.stars.read_consts.Given as goal

abbrev pub invariant-loop-behind : goal.invariant-loop-behind
invariant-loop-behind l = record {
  shorter : l.count + length l.rest ≤ length l.input;
  on : ConstsFrom l.count l.input l.rest;
}

abbrev pub decreases-loop-behind : goal.decreases-loop-behind
decreases-loop-behind l = length l.rest
