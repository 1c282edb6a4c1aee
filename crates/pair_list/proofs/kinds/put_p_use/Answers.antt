use Rattle.std.proofs.Common.{arith}
use Rattle.pair_list.proofs.Rowing.{p_uses_put, p_uses_past}
use Rattle.pair_list.proofs.kinds.put_p_use.Goals as goal

pub returns-then-k-decisions : goal.returns-then-k-decisions
returns-then-k-decisions c =
    let past = c.if-k-decisions.true in
    let size = c.decisions.ensures in
    p_uses_past c.args.sites.now c.args.pair c.args.items.now c.requires.placed c.use_site-used.result.now c.in-Some.k c.use_site-used.ensures c.in-Some.is (omega arith)

pub returns-in_ok-put_with-in-Some : goal.returns-in_ok-put_with-in-Some
returns-in_ok-put_with-in-Some c =
    let some = c.if-k-eq0.false in
    p_uses_put c.args.sites.now c.args.pair c.row_of-row.result c.args.items.now c.put_with.new.items c.requires.placed c.row_of-row.ensures.row c.use_site-used.result.now c.in-Some.k c.decision-decision.result.now c.use_site-used.ensures c.in-Some.is (omega arith) c.decision-decision.ensures c.in_ok-put_with-in-Some.ensures
