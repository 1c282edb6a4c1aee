-- The pair waits for the decision of its use.
use Rattle.cover_parts.proofs.Cases.{on_ok}
use Rattle.cover_parts.proofs.Settling.{waits_more}
use Rattle.cover_parts.proofs.settle.wait.Goals as goal

pub returns-in-Some-clause-waits : goal.returns-in-Some-clause-waits
returns-in-Some-clause-waits c = on_ok c.add.result (waits_more c.args.owner c.args.activation c.in-Some.decision c.args.definition c.args.user c.args.pending.now c.add.new.self c.in-Some.is) c.add.ensures.added
