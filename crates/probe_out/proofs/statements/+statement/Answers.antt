use Rattle.std.proofs.Common.{map, sym, ap, ◌∙◌, arith}
use Rattle.std.proofs.lemmas.List.{take_all}
use Rattle.c_syntax.proofs.Made.{items_made}
use Rattle.probe_out.proofs.Lists.{left_item, items_left}
use Rattle.probe_out.proofs.statements.+statement.Goals as goal

pub erased_body-returns-in-Switch : goal.erased_body-returns-in-Switch
erased_body-returns-in-Switch t c = rw (c.in-Switch.is, items_made c.in-Switch.items, sym c.deref-in-Switch.ensures.value) c.erased_switch.ensures

pub erased_items-returns : goal.erased_items-returns
erased_items-returns t c = items_left _ _ (c.loop-item.invariant ∙ ap (map left_item) (take_all c.loop-item.item-index c.args.items.now (omega arith)))
