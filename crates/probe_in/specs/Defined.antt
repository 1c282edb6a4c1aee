-- Parts of file scope with their probes.
use Rattle.std.specs.Prelude.{◌≡◌}
use Rattle.c_walk.specs.Walked.{Walked}
use Rattle.probe_expr.specs.declared.numbers.Numbers.{Numbers}
use Rattle.probe_expr.specs.Numbers.{counts}

-- behind a walk with the first numbers the part has its probes, and its own walk leads to the second ones
abbrev pub Defined : {A : Type 0} → Numbers → Numbers → A → (Walked → A) → (Walked → Walked) → Type 0
Defined n m a probed walk = (w : Walked) → counts w ≡ n → (a ≡ probed w) × (counts (walk w) ≡ m)
