use Rattle.std.proofs.Common.{◌≡◌, ◌≤◌, length, take}
use Rattle.c_scopes.specs.Scoping.{find_outer}
use Rattle.c_scopes.proofs.scopes.find_in.Given as goal

abbrev pub invariant-loop-left : goal.invariant-loop-left
invariant-loop-left g l = record {
  within : l.left ≤ length l.scopes;
  rest : find_outer l.name (take l.left l.scopes) ≡ find_outer l.name l.scopes;
}

abbrev pub decreases-loop-left : goal.decreases-loop-left
decreases-loop-left g l = l.left
