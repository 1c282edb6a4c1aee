use Rattle.std.proofs.Common.{sym, ap, ◌∙◌, false, arith}
use Rattle.c_syntax.proofs.Made.{items_made}
use Rattle.probe_expr.specs.Numbers.{counts}
use Rattle.probe_expr.proofs.Listing.{begun, one_more, ended}
use Rattle.probe_in.proofs.Lists.{items}
use Rattle.probe_in.proofs.Stated.{stmt_numbered, begins_known, ended_known, item_made}
use Rattle.probe_in.proofs.statements.+statement.Goals as goal

pub probed_body-returns-in_ok-probed_switch-in-Switch : goal.probed_body-returns-in_ok-probed_switch-in-Switch
probed_body-returns-in_ok-probed_switch-in-Switch t c =
    rw (c.in-Switch.is, items_made c.in-Switch.items, sym c.deref-in-Switch.ensures.value) c.in_ok-probed_switch-in-Switch.ensures

pub probed_stmt-returns : goal.probed_stmt-returns
probed_stmt-returns t c t' =
    stmt_numbered t' _ _ _ c.args.block c.args.stmt.now _ _ _ c.in_ok-marks.ensures c.in_ok-block_if.ensures (c.in_ok-form.ensures t') c.in_ok-made.ensures

pub probed_items-loop-item-init : goal.probed_items-loop-item-init
probed_items-loop-item-init t c t' c' w h = rw c.new-made.ensures.items (begun (items t' c') _ c.args.items.now (false, w) (begins_known false _ _ h))

pub probed_items-loop-item-preserved : goal.probed_items-loop-item-preserved
probed_items-loop-item-preserved t c t' c' w h =
    let x = c.item-item.result in
    one_more (items t' c') _ _ _ _ _ x c.args.items.now c.loop-item.item-index (false, w) c.in_ok-put.ensures c.loop-item-test.true c.item-item.is
    (λ v e. item_made t' c' c.loop-item.after _ _ _ _ x c.new_item.result _ v _ _ _ c.new_item.ensures.labels c.in_ok-labels.ensures c.deref.ensures.value c.begins_block.ensures c.deref-in-loop-item.ensures.value c.splits-after.ensures c.new_item.ensures.stmt (c.in_ok-stmt.ensures t') e)
    (c.loop-item.invariant t' c' w h)

pub probed_items-returns : goal.probed_items-returns
probed_items-returns t c t' c' w h =
    let p = ended (items t' c') _ _ c.args.items.now c.loop-item.item-index (false, w) (omega arith) (c.loop-item.invariant t' c' w h) in
    (p.2, ap counts p.3 ∙ ended_known _ _ _ _ p.1)
