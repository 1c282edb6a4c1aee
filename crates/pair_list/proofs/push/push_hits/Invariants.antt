use Rattle.std.proofs.Common.{◌≡◌, ◌≤◌, ◌++◌}
use Rattle.pair_list.specs.PairLists.{picked, items_in}
use Rattle.pair_list.proofs.push.push_hits.Given as goal

abbrev pub invariant-loop-n : goal.invariant-loop-n
invariant-loop-n l = record {
  pairs : l.pairs.items ≡ l.fn.pairs.items ++ picked l.def l.low l.j l.hits l.n;
  within : l.now ≤ l.limit;
  count : l.now ≡ items_in l.sites l.pairs.items;
}
