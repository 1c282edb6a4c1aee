use Rattle.std.proofs.Common.{◌+◌}
use Rattle.pair_list.specs.Hits.{SomeHits, AddsBits}
use Rattle.pair_list.proofs.hits.hit_rows.Given as goal

abbrev pub invariant-loop-row : goal.invariant-loop-row
invariant-loop-row l = AddsBits (λ k j. SomeHits l.flow l.sites l.function l.marks l.start l.first l.came l.row (l.low + k) j) l.fn.hits.items l.hits.items
