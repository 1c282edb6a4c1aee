use Rattle.std.proofs.Common.{◌≡◌}
use Rattle.atac_self.specs.Generation.{bytes}
use Rattle.atac_self.proofs.generating.input.Given as goal

-- the bytes so far
abbrev pub invariant-loop : goal.invariant-loop
invariant-loop l = record {
  so_far : l.input.items ≡ (bytes l.counter l.fn.draws.state).is;
  state : l.draws.state ≡ (bytes l.counter l.fn.draws.state).state;
}
