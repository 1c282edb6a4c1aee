use Rattle.std.proofs.Common.{sym, arith}
use Rattle.c_walk.specs.Units.{no_items}
use Rattle.probe_expr.proofs.Listing.{begun, one_more, ended}
use Rattle.probe_in.proofs.Lists.{externals}
use Rattle.probe_in.proofs.unit.probed_externals.Goals as goal

pub loop-external-init : goal.loop-external-init
loop-external-init c t = rw c.new-made.ensures.items (begun (externals t) _ c.args.externals.now no_items (sym c.none.ensures))

pub loop-external-preserved : goal.loop-external-preserved
loop-external-preserved c t =
    one_more (externals t) _ _ _ _ _ _ c.args.externals.now c.loop-external.external-index no_items c.in_ok-put_inner.ensures c.loop-external-test.true c.external-item.is (λ v e. c.in_ok-one.ensures t v e) (c.loop-external.invariant t)

pub returns : goal.returns
returns c t = (ended (externals t) _ _ c.args.externals.now c.loop-external.external-index no_items (omega arith) (c.loop-external.invariant t)).2
