-- One fact more, or the same ones.
use Rattle.cover_parts.proofs.Gaining.{add_gains, add_same}
use Rattle.cover_parts.proofs.settle.add.Goals as goal

pub returns-clause-added : goal.returns-clause-added
returns-clause-added c = add_gains c.add.result c.args.facts.now c.add.new.self c.args.fact c.add.ensures.there c.add.ensures.others

pub returns-clause-same : goal.returns-clause-same
returns-clause-same c = add_same c.add.result c.args.facts.now c.add.new.self c.add.ensures.err
