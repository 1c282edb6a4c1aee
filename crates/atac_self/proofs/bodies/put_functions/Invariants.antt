use Rattle.std.proofs.Common.{◌≡◌, ◌++◌, string_bytes}
use Rattle.atac_self.specs.Generation.{functions}
use Rattle.atac_self.proofs.bodies.put_functions.Given as goal

-- the functions so far
abbrev pub invariant-loop-i : goal.invariant-loop-i
invariant-loop-i l = record {
  text : string_bytes l.text ≡ string_bytes l.fn.text ++ (functions l.i l.fn.draws.state).is;
  state : l.draws.state ≡ (functions l.i l.fn.draws.state).state;
}
