use Rattle.std.proofs.Common.{◌≡◌, map}
use Rattle.atac_self.specs.Generation.{inputs}
use Rattle.atac_self.specs.Inputs.{bytes_in}
use Rattle.atac_self.proofs.generating.all_inputs.Given as goal

-- the inputs so far
abbrev pub invariant-loop : goal.invariant-loop
invariant-loop l = record {
  so_far : map bytes_in l.all.items ≡ (inputs l.counter l.fn.draws.state).is;
  state : l.draws.state ≡ (inputs l.counter l.fn.draws.state).state;
}
