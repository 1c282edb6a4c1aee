use Rattle.std.proofs.Common.{◌≡◌, ◌+◌, ◌≤◌, length}
use Rattle.c_grammar.proofs.ListSteps.{StarsFrom}
use Rattle.c_grammar.proofs.stars.read_stars.Given as goal

abbrev pub invariant-loop-behind : goal.invariant-loop-behind
invariant-loop-behind l = record {
  count : l.below ≡ length l.stars.items + l.depth;
  low : l.below ≤ 400;
  shorter : length l.rest ≤ length l.input;
  on : StarsFrom l.depth l.stars.items l.input l.rest;
}

abbrev pub decreases-loop-behind : goal.decreases-loop-behind
decreases-loop-behind l = length l.rest
