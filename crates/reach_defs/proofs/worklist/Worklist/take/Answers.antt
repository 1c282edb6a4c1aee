use Rattle.std.proofs.Common.{arith}
use Rattle.reach_defs.proofs.Putting.{taken_within, taken_once}
use Rattle.reach_defs.proofs.worklist.Worklist.take.Goals as goal

pub index_mut-requires : goal.index_mut-requires
index_mut-requires g c = omega (arith, c.self.inside.waiting.ok, taken_within c.self.inside.queue.items c.pop.new.self.items c.self.inside.waiting.items c.in-Some.row c.self.invariant c.in-Some.ensures.items)

pub returns-in-Some-clause-once : goal.returns-in-Some-clause-once
returns-in-Some-clause-once g c = taken_once c.self.inside.queue.items c.pop.new.self.items c.self.inside.waiting.items c.in-Some.row c.self.invariant c.in-Some.ensures.items
