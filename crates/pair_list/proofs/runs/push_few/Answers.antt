use Rattle.std.proofs.Common.{◌+◌, length, arith}
use Rattle.pair_list.specs.Found.{IsFoundPair}
use Rattle.pair_list.proofs.Running.{appends_more, more_now}
use Rattle.pair_list.proofs.runs.push_few.Goals as goal

pub loop-j-preserved : goal.loop-j-preserved
loop-j-preserved c =
    let size = c.in-Ok.ensures.size in
    let order = c.requires.order in
    let low_high = order.1 in
    let high = c.requires.span in
    let P = IsFoundPair c.args.flow.now c.args.sites.now c.args.function in
    record {
      pairs = appends_more P c.args.sites.now (length c.args.sites.now.lists.uses.items) c.args.first c.loop-j.j c.args.span.low c.loop-j.j c.in-Ok.hits.items c.deref.result.now c.args.pairs.now.items c.loop-j.pairs.items c.loop-j.invariant.pairs c.deref.ensures.value order.0 (omega arith)
          (λ k lt. c.in-Ok.ensures.found k c.loop-j.j (omega arith) c.loop-j-test.true)
          (λ u p. let b = c.requires.outside (c.args.first + c.loop-j.j) u p in let h = b.1 in (b.0, omega arith))
          (c.loop-j.j + 1) c.push_hits.new.pairs.items (omega arith) c.in-Ok-push_hits.ensures.pairs;
      within = c.in-Ok-push_hits.ensures.within;
      count = c.in-Ok-push_hits.ensures.count;
    }

pub returns-in-Err-push_hits-clause-more : goal.returns-in-Err-push_hits-clause-more
returns-in-Err-push_hits-clause-more c = λ e.
    let size = c.in-Ok.ensures.size in
    let order = c.requires.order in
    let low_high = order.1 in
    let high = c.requires.span in
    more_now (IsFoundPair c.args.flow.now c.args.sites.now c.args.function) c.args.sites.now (length c.args.sites.now.lists.uses.items) c.args.first c.loop-j.j c.args.span.low c.loop-j.j c.in-Ok.hits.items c.deref.result.now c.args.pairs.now.items c.loop-j.pairs.items c.loop-j.invariant.pairs c.deref.ensures.value order.0 (omega arith)
    (λ k lt. c.in-Ok.ensures.found k c.loop-j.j (omega arith) c.loop-j-test.true)
    (λ u p. let b = c.requires.outside (c.args.first + c.loop-j.j) u p in let h = b.1 in (b.0, omega arith))
    c.args.count c.args.limit c.loop-j-test.true (c.in-Err-push_hits.ensures.more e)
