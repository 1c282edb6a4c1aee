use Rattle.c_types.proofs.Labelled.{value_fresh, value_seen}
use Rattle.c_types.proofs.labels.Labels.see.Goals as goal

pub returns-in_ok-fresh-in-Some-clause-fresh : goal.returns-in_ok-fresh-in-Some-clause-fresh
returns-in_ok-fresh-in-Some-clause-fresh c = value_fresh c.in-Some.kind c.args.self.now.seen.keys c.args.self.now.kind c.in-Some.is c.args.value c.in_ok-fresh-in-Some.fresh c.in_ok-fresh-in-Some.ensures.fresh

pub returns-in_ok-fresh-in-Some-clause-seen : goal.returns-in_ok-fresh-in-Some-clause-seen
returns-in_ok-fresh-in-Some-clause-seen c = value_seen c.in-Some.kind c.args.self.now.seen.keys c.args.self.now.kind c.in-Some.is c.args.value c.args.self.now.default c.insert.new.seen.keys c.in_ok-fresh-in-Some.ensures.keys
