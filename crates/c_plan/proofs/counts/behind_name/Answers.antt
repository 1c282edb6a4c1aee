use Rattle.std.proofs.Common.{◌∙◌}
use Rattle.c_syntax.specs.View.{declarator_shape}
use Rattle.c_meaning.specs.Counts.{variables_of}
use Rattle.c_plan.proofs.Small.{one_at_most}
use Rattle.c_plan.proofs.counts.behind_name.Goals as goal

pub returns : goal.returns
returns c = c.in_ok-after.ensures (variables_of (declarator_shape c.args.name.now)) (c.variables_of.ensures ∙ one_at_most (declarator_shape c.args.name.now))
