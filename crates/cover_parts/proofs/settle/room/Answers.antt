-- Room changes no fact.
use Rattle.cover_parts.proofs.Gaining.{same_has}
use Rattle.cover_parts.proofs.settle.room.Goals as goal

pub returns-clause-same : goal.returns-clause-same
returns-clause-same c = same_has c.args.facts.now c.room.new.self c.room.ensures.same
