use Rattle.std.proofs.Common.{◌+◌, ◌*◌}
use Rattle.pair_list.specs.Hits.{FindsAny, AddsBits}
use Rattle.pair_list.specs.Tables.{AreEmpty}
use Rattle.pair_list.proofs.passes.all_passes.Given as goal

abbrev pub invariant-loop-turn : goal.invariant-loop-turn
invariant-loop-turn l = record {
  adds : AddsBits (λ k j. FindsAny l.flow l.sites l.function l.marks (l.turn * 64) l.first (l.low + k) j) l.fn.hits.items l.hits.items;
  empty : AreEmpty l.marks l.tables;
}
