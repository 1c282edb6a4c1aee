use Rattle.std.proofs.Common.{drop}
use Rattle.probe_in.proofs.Lists.{ItemsSoFar}
use Rattle.probe_in.proofs.statements.+statement.Given as goal

abbrev pub invariant-probed_items-loop-item : goal.invariant-probed_items-loop-item
invariant-probed_items-loop-item l = ItemsSoFar l.initial.out.numbers l.out.numbers l.after l.made.items (drop l.item-index l.items) l.items
