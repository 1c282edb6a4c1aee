use Rattle.std.proofs.Common.{◌≡◌, ◌≤◌, ◌-◌, length}
use Rattle.pair_list.specs.PairLists.{items_in, pairs_from, Appends}
use Rattle.pair_list.specs.Found.{IsFoundPair}
use Rattle.pair_list.proofs.runs.push_run.Given as goal

abbrev pub invariant-loop-done : goal.invariant-loop-done
invariant-loop-done l = record {
  pairs : Appends (IsFoundPair l.flow l.sites l.function) (pairs_from (length l.sites.lists.uses.items) l.first l.done) l.fn.pairs.items l.pairs.items;
  within : l.now ≤ l.limit;
  count : l.now ≡ items_in l.sites l.pairs.items;
  done : l.done ≤ l.count;
}

abbrev pub decreases-loop-done : goal.decreases-loop-done
decreases-loop-done l = l.count - l.done
