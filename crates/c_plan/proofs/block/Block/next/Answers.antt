use Rattle.std.proofs.Common.{◌∙◌}
use Rattle.c_plan.proofs.Named.{next_decl}
use Rattle.c_plan.proofs.block.Block.next.Goals as goal

pub loop-name-preserved : goal.loop-name-preserved
loop-name-preserved c =
    next_decl c.loop-name.names.now c.loop-name.decls.now c.in-Some-split_first.others.now c.in-Some-split_first.decl.now c.deref-names.result.now c.in_default.ensures.cases c.in-Some-split_first.ensures.cases.0 c.deref-names.ensures.value
    ∙ c.loop-name.invariant
