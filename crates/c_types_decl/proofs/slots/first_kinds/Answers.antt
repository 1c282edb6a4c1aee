use Rattle.std.proofs.Common.{arith, ◌∙◌}
use Rattle.c_types_decl.proofs.Enough.{first_taken}
use Rattle.c_types_decl.proofs.slots.first_kinds.Goals as goal

pub returns : goal.returns
returns c = c.loop-i.invariant ∙ first_taken _ _ _ (omega arith)
