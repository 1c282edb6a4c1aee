use Rattle.std.proofs.Common.{length, arith}
use Rattle.pair_list.specs.Found.{IsFoundPair}
use Rattle.pair_list.proofs.Running.{appends_both, more_later}
use Rattle.pair_list.proofs.runs.push_run.Goals as goal

pub loop-done-preserved : goal.loop-done-preserved
loop-done-preserved c = record {
  pairs = appends_both (IsFoundPair c.args.flow.now c.args.sites.now c.args.function) (length c.args.sites.now.lists.uses.items) c.args.first c.loop-done.done c.few_of-many.result c.args.pairs.now.items c.loop-done.pairs.items c.push_few.new.pairs.items c.loop-done.invariant.pairs c.in-Ok-push_few.ensures.pairs;
  within = c.in-Ok-push_few.ensures.within;
  count = c.in-Ok-push_few.ensures.count;
  done = let w = c.few_of-many.ensures.within in let d = c.loop-done.invariant.done in omega arith;
}

pub returns-in-Err-push_few-clause-more : goal.returns-in-Err-push_few-clause-more
returns-in-Err-push_few-clause-more c = λ e. more_later (IsFoundPair c.args.flow.now c.args.sites.now c.args.function) c.args.sites.now (length c.args.sites.now.lists.uses.items) c.args.first c.loop-done.done c.few_of-many.result c.args.count c.args.limit c.args.pairs.now.items c.loop-done.pairs.items (let w = c.few_of-many.ensures.within in let d = c.loop-done.invariant.done in omega arith) c.loop-done.invariant.pairs (c.in-Err-push_few.ensures.more e)
