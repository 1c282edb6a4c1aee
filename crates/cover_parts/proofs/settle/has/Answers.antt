-- What the set answers.
use Rattle.cover_parts.proofs.Gaining.{has_test}
use Rattle.cover_parts.proofs.settle.has.Goals as goal

pub returns : goal.returns
returns c = has_test c.args.facts.now c.args.fact c.has.result c.has.ensures
