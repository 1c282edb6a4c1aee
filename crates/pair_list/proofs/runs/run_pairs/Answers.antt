use Rattle.std.proofs.Common.{length}
use Rattle.pair_list.specs.PairLists.{pairs_from}
use Rattle.pair_list.specs.Found.{IsFoundPair, IsSpelledPair}
use Rattle.pair_list.proofs.Law.{found_spelled}
use Rattle.pair_list.proofs.Running.{appends_same, more_same}
use Rattle.pair_list.proofs.runs.run_pairs.Goals as goal

pub returns-in-Ok-clause-pairs : goal.returns-in-Ok-clause-pairs
returns-in-Ok-clause-pairs c = appends_same (IsFoundPair c.args.flow.now c.args.sites.now c.args.function) (IsSpelledPair c.args.flow.now c.args.sites.now c.args.function) (λ p. found_spelled c.args.flow.now c.args.sites.now c.args.function p.def p.used) (pairs_from (length c.args.sites.now.lists.uses.items) c.args.first c.args.count) c.args.pairs.now.items c.push_run.new.pairs.items c.in-Ok.ensures.pairs

pub returns-in-Err-clause-more : goal.returns-in-Err-clause-more
returns-in-Err-clause-more c = λ e. more_same (IsFoundPair c.args.flow.now c.args.sites.now c.args.function) (IsSpelledPair c.args.flow.now c.args.sites.now c.args.function) (λ p. found_spelled c.args.flow.now c.args.sites.now c.args.function p.def p.used) (pairs_from (length c.args.sites.now.lists.uses.items) c.args.first c.args.count) c.args.pairs.now.items c.args.sites.now c.args.limit (c.in-Err.ensures.more e)
