use Rattle.std.proofs.Common.{ap, ◌∙◌}
use Rattle.c_syntax.specs.View.{node_shape, item_list}
use Rattle.c_walk.specs.Tests.{case_values}
use Rattle.probe_expr.proofs.Joined.{choice_numbered}
use Rattle.probe_expr.proofs.nodes.Prober.choice.Goals as goal

pub returns : goal.returns
returns c =
    let items = item_list c.args.items.now in
    choice_numbered _ _ _ (node_shape c.args.node.now) items c.deref.result.now _ _ c.in_ok-decision.ensures c.in_ok-inner.ensures (c.deref.ensures.value ∙ c.in_ok-values.ensures ∙ ap (λ k. case_values k items) c.choosing.ensures) c.in_ok-made.ensures
