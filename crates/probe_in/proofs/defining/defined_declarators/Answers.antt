use Rattle.std.proofs.Common.{ap, ◌∙◌, arith}
use Rattle.probe_expr.specs.Numbers.{counts}
use Rattle.probe_expr.proofs.Listing.{one_more, ended}
use Rattle.probe_in.proofs.Lists.{defined_names}
use Rattle.probe_in.proofs.defining.defined_declarators.Goals as goal

pub loop-name-preserved : goal.loop-name-preserved
loop-name-preserved c t f w h =
    one_more (defined_names t f) _ _ _ _ _ _ c.args.names.now c.loop-name.name-index w c.in_ok-put_inner.ensures c.loop-name-test.true c.name-item.is (λ v e. c.in_ok-one.ensures t f v e) (c.loop-name.invariant t f w h)

pub returns : goal.returns
returns c t f w h =
    let p = ended (defined_names t f) _ _ c.args.names.now c.loop-name.name-index w (omega arith) (c.loop-name.invariant t f w h) in
    (p.2, ap counts p.3 ∙ p.1)
