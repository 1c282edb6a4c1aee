use Rattle.std.proofs.Common.{◌≡◌, ◌++◌, string_bytes}
use Rattle.atac_self.specs.Generation.{calls}
use Rattle.atac_self.proofs.bodies.put_calls.Given as goal

-- the calls so far
abbrev pub invariant-loop-i : goal.invariant-loop-i
invariant-loop-i l = string_bytes l.text ≡ string_bytes l.fn.text ++ calls l.i
