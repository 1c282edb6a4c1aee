use Rattle.std.proofs.Common.{◌≡◌, ◌≤◌, length}
use Rattle.pair_list.specs.PairLists.{items_in, pairs_from, Appends}
use Rattle.pair_list.specs.Found.{IsFoundPair}
use Rattle.pair_list.proofs.runs.push_few.Given as goal

abbrev pub invariant-loop-j : goal.invariant-loop-j
invariant-loop-j l = record {
  pairs : Appends (IsFoundPair l.flow l.sites l.function) (pairs_from (length l.sites.lists.uses.items) l.first l.j) l.fn.pairs.items l.pairs.items;
  within : l.now ≤ l.limit;
  count : l.now ≡ items_in l.sites l.pairs.items;
}
