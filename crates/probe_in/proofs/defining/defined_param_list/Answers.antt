use Rattle.std.proofs.Common.{ap, ◌∙◌, arith}
use Rattle.c_syntax.specs.Shape.{params}
use Rattle.probe_expr.specs.Numbers.{counts}
use Rattle.probe_expr.proofs.Listing.{one_more, ended}
use Rattle.probe_in.proofs.Lists.{parameters}
use Rattle.probe_in.proofs.defining.defined_param_list.Goals as goal

pub loop-param-preserved : goal.loop-param-preserved
loop-param-preserved c t f w h =
    one_more (parameters t f) _ _ _ _ _ _ c.args.list.now c.loop-param.param-index w c.in_ok-put_inner.ensures c.loop-param-test.true c.param-item.is (λ v e. c.in_ok-one.ensures t f v e) (c.loop-param.invariant t f w h)

pub returns : goal.returns
returns c t f w h =
    let p = ended (parameters t f) _ _ c.args.list.now c.loop-param.param-index w (omega arith) (c.loop-param.invariant t f w h) in
    (c.new_params.ensures ∙ ap params p.2, ap counts p.3 ∙ p.1)
