use Rattle.std.proofs.Common.{refl, sym, arith}
use Rattle.c_syntax.specs.View.{node_shape, maybe_node, stmt_shape, decl_list, item_list}
use Rattle.c_syntax.specs.declared.tree.Compound.{out-Compound}
use Rattle.c_syntax.proofs.Made.{items_made}
use Rattle.c_syntax.proofs.Open.{compound_open}
use Rattle.c_tables.specs.Tables.{tables_shape}
use Rattle.c_walk.specs.Stating.{walk_stmt}
use Rattle.flow_walks.specs.Statements.{stmt_goes}
use Rattle.flow_rows.specs.Laying.{exits}
use Rattle.flow_rows.proofs.Laws.{grown_then}
use Rattle.flow_rows.proofs.Joins.{block_placed}
use Rattle.flow_rows.proofs.Runs.{run_none, run_next, run_all}
use Rattle.flow_rows.proofs.Listed.{items_run, after_next, block_item, plain_item, item_next}
use Rattle.flow_rows.proofs.Stated.{part_within, when_placed, either_placed, while_placed, do_placed, for_placed, compound_placed}
use Rattle.flow_rows.proofs.Choices.{choices_none, choices_next, choices_all}
use Rattle.flow_rows.proofs.Choosing.{switch_placed}
use Rattle.flow_rows.proofs.statements.+stating.Goals as goal

pub lay_body-returns-in_ok-lay_compound-in-Compound : goal.lay_body-returns-in_ok-lay_compound-in-Compound
lay_body-returns-in_ok-lay_compound-in-Compound t c =
    rw c.in-Compound.is c.in_ok-lay_compound-in-Compound.ensures

pub lay_body-returns-in_ok-lay_maybe-in-Plain : goal.lay_body-returns-in_ok-lay_maybe-in-Plain
lay_body-returns-in_ok-lay_maybe-in-Plain t c =
    rw c.in-Plain.is c.in_ok-lay_maybe-in-Plain.ensures

pub lay_body-returns-in_ok-lay_part-in-None : goal.lay_body-returns-in_ok-lay_part-in-None
lay_body-returns-in_ok-lay_part-in-None t c =
    rw (c.in-If.is, c.in-None.is, sym c.deref.ensures)
    (when_placed (tables_shape c.args.tables.now) c.args.to _ _ _ _ _ _ _ c.args.at c.in_ok-yes-in-If.yes (node_shape c.in-If.test) (stmt_shape c.deref.result.now) c.in_ok-yes-in-If.ensures.grown c.in_ok-lay_test-in-None.ensures c.in_ok-lay_part-in-None.ensures)

pub lay_body-returns-in_ok-lay_part-in-Some-2 : goal.lay_body-returns-in_ok-lay_part-in-Some-2
lay_body-returns-in_ok-lay_part-in-Some-2 t c =
    rw (c.in-If.is, c.in-Some.is, sym c.deref-in-Some.ensures, sym c.deref-in-Some-2.ensures)
    (either_placed (tables_shape c.args.tables.now) c.args.to _ _ _ _ _ _ _ _ _ c.args.at c.in_ok-yes-in-If.yes c.in_ok-no-in-Some.no (node_shape c.in-If.test) (stmt_shape c.deref-in-Some.result.now) (stmt_shape c.deref-in-Some-2.result.now)
    (grown_then _ _ _ c.in_ok-yes-in-If.ensures.grown c.in_ok-no-in-Some.ensures.grown) c.in_ok-lay_test-in-Some.ensures c.in_ok-lay_part-in-Some.ensures c.in_ok-lay_part-in-Some-2.ensures)

pub lay_body-returns-in_ok-lay_part-in-While : goal.lay_body-returns-in_ok-lay_part-in-While
lay_body-returns-in_ok-lay_part-in-While t c =
    let a = stmt_shape c.deref-in-While.result.now in
    rw (c.in-While.is, sym c.deref-in-While.ensures)
    (while_placed (tables_shape c.args.tables.now) c.args.to _ _ _ _ _ _ _ c.args.at c.in_ok-inner-in-While.inner (node_shape c.in-While.test) a c.in_ok-inner-in-While.ensures.grown c.in_ok-lay_loop_test-in-While.ensures
    (part_within (tables_shape c.args.tables.now) c.args.to _ _ _ _ c.in_ok-inner-in-While.inner c.args.at a _ c.loop_targets.ensures c.in_ok-lay_part-in-While.ensures))

pub lay_body-returns-in_ok-lay_loop_test-in-Do : goal.lay_body-returns-in_ok-lay_loop_test-in-Do
lay_body-returns-in_ok-lay_loop_test-in-Do t c =
    let a = stmt_shape c.deref-in-Do.result.now in
    rw (c.in-Do.is, sym c.deref-in-Do.ensures)
    (do_placed (tables_shape c.args.tables.now) c.args.to _ _ _ _ _ _ _ c.args.at c.in_ok-again-in-Do.again (node_shape c.in-Do.test) a c.in_ok-again-in-Do.ensures.grown
    (part_within (tables_shape c.args.tables.now) c.args.to _ _ _ _ c.args.at c.in_ok-again-in-Do.again a _ c.loop_targets-in-Do.ensures c.in_ok-lay_part-in-Do.ensures) c.in_ok-lay_loop_test-in-Do.ensures)

pub lay_body-returns-in_ok-lay_part-in-For : goal.lay_body-returns-in_ok-lay_part-in-For
lay_body-returns-in_ok-lay_part-in-For t c =
    let a = stmt_shape c.deref-in-For.result.now in
    rw (c.in-For.is, sym c.deref-in-For.ensures)
    (for_placed (tables_shape c.args.tables.now) c.args.to _ _ _ _ _ _ _ _ _ _ _ c.args.at c.in_ok-head-in-For.head c.in_ok-inner-in-For.inner c.in_ok-again-in-For.again (maybe_node c.in-For.first) (maybe_node c.in-For.test) (maybe_node c.in-For.step) a
    (grown_then _ _ _ (grown_then _ _ _ c.in_ok-head-in-For.ensures.grown c.in_ok-inner-in-For.ensures.grown) c.in_ok-again-in-For.ensures.grown)
    c.in_ok-lay_maybe-in-For.ensures c.in_ok-lay_maybe_test-in-For.ensures c.in_ok-lay_step-in-For.ensures
    (part_within (tables_shape c.args.tables.now) c.args.to _ _ _ _ c.in_ok-inner-in-For.inner c.in_ok-again-in-For.again a _ c.loop_targets-in-For.ensures c.in_ok-lay_part-in-For.ensures))

pub lay_body-returns-in_ok-lay_choices-in-Switch : goal.lay_body-returns-in_ok-lay_choices-in-Switch
lay_body-returns-in_ok-lay_choices-in-Switch t c =
    rw (c.in-Switch.is, items_made c.in-Switch.items, sym c.deref-in-Switch.ensures.value)
    (switch_placed (tables_shape c.args.tables.now) (node_shape c.in-Switch.node) (item_list c.deref-in-Switch.result.now) c.args.to _ _ _ _ _ _ _ _ c.in_ok-decision-in-Switch.decision c.args.at c.in_ok-inner-in-Switch.inner c.switch_targets.ensures c.in_ok-inner-in-Switch.ensures.grown c.in_ok-decision-in-Switch.ensures.number c.in_ok-decision-in-Switch.ensures.placed c.in_ok-lay_choices-in-Switch.ensures)

pub lay_body-returns-in_ok-fill-in-Break : goal.lay_body-returns-in_ok-fill-in-Break
lay_body-returns-in_ok-fill-in-Break t c =
    rw c.in-Break.is (record { grown = c.in_ok-fill-in-Break.ensures.grown; laid = λ around w e. c.in_ok-fill-in-Break.ensures.laid; counted = λ around w e. e })

pub lay_body-returns-in_ok-fill-in-Continue : goal.lay_body-returns-in_ok-fill-in-Continue
lay_body-returns-in_ok-fill-in-Continue t c =
    rw c.in-Continue.is (record { grown = c.in_ok-fill-in-Continue.ensures.grown; laid = λ around w e. c.in_ok-fill-in-Continue.ensures.laid; counted = λ around w e. e })

pub lay_body-returns-in_ok-lay_maybe-in-Return : goal.lay_body-returns-in_ok-lay_maybe-in-Return
lay_body-returns-in_ok-lay_maybe-in-Return t c =
    rw c.in-Return.is c.in_ok-lay_maybe-in-Return.ensures

pub lay_part-returns : goal.lay_part-returns
lay_part-returns t c =
    let a = stmt_shape c.args.stmt.now in
    block_placed _ _ _ _ _ _ _ c.in_ok-number.number c.args.at c.in_ok-inner.inner c.args.stmt.now.pos (λ around w k. stmt_goes (tables_shape c.args.tables.now) around a w (exits k c.args.to)) (λ around w. walk_stmt (tables_shape c.args.tables.now) around a w)
    c.in_ok-inner.ensures.grown c.in_ok-fill.ensures.grown c.in_ok-fill.ensures.laid c.in_ok-number.ensures c.in_ok-block.ensures c.in_ok-lay_stmt.ensures

pub lay_compound-returns : goal.lay_compound-returns
lay_compound-returns t c =
    rw (compound_open c.args.body.now, sym c.deref.ensures.value, sym c.deref-2.ensures.value)
    (compound_placed (tables_shape c.args.tables.now) c.args.to _ _ _ _ _ _ _ c.args.at c.in_ok-inner.inner (out-Compound c.args.body.now).pos (decl_list c.deref.result.now) (item_list c.deref-2.result.now) c.in_ok-inner.ensures.grown c.in_ok-lay_decls.ensures c.in_ok-lay_items.ensures)

pub lay_item-returns-in_ok-lay_part : goal.lay_item-returns-in_ok-lay_part
lay_item-returns-in_ok-lay_part t c =
    block_item (tables_shape c.args.tables.now) c.args.to c.args.item.now _ _ _ _ c.args.at c.args.after c.begins_block.result (rw (sym c.deref.ensures.value) c.begins_block.ensures) c.if-begins_block.true c.in_ok-lay_part.ensures

pub lay_item-returns-in_ok-lay_stmt : goal.lay_item-returns-in_ok-lay_stmt
lay_item-returns-in_ok-lay_stmt t c =
    plain_item (tables_shape c.args.tables.now) c.args.to c.args.item.now _ _ _ _ c.args.at c.args.after c.begins_block.result (rw (sym c.deref.ensures.value) c.begins_block.ensures) c.if-begins_block.false c.in_ok-lay_stmt.ensures

pub lay_items-loop-item-init : goal.lay_items-loop-item-init
lay_items-loop-item-init t c =
    (run_none (items_run (tables_shape c.args.tables.now) c.args.to) _ _ _ c.args.out.now.numbers c.args.at c.in_ok-entry.entry c.in_ok-entry.ensures.grown c.in_ok-fill.ensures.grown c.in_ok-fill.ensures.laid, refl)

pub lay_items-loop-item-preserved : goal.lay_items-loop-item-preserved
lay_items-loop-item-preserved t c =
    let x = c.item-item.result in (
      run_next (items_run (tables_shape c.args.tables.now) c.args.to) _ _ _ _ _ _ _ c.args.at c.loop-item.entry c.in_ok-next.next c.args.items.now c.loop-item.item-index x c.loop-item-test.true c.item-item.is c.loop-item.invariant.0 c.in_ok-next.ensures.grown
          (item_next (tables_shape c.args.tables.now) c.args.to x _ _ _ _ c.loop-item.entry c.in_ok-next.next c.loop-item.after _ _ c.loop-item.invariant.1 c.then_targets.ensures c.in_ok-lay_item.ensures),
      after_next c.args.items.now c.loop-item.item-index x c.splits-after.result c.loop-item-test.true c.item-item.is c.splits-after.ensures,
    )

pub lay_items-returns : goal.lay_items-returns
lay_items-returns t c =
    run_all (items_run (tables_shape c.args.tables.now) c.args.to) _ _ _ _ _ c.args.at c.loop-item.entry c.args.to.next c.loop-item.item-index c.args.items.now (omega arith) c.loop-item.invariant.0 c.in_ok-fill-2.ensures.grown c.in_ok-fill-2.ensures.laid

pub lay_choices-loop-item-init : goal.lay_choices-loop-item-init
lay_choices-loop-item-init t c = (
  choices_none (tables_shape c.args.tables.now) c.args.to c.args.decision _ _ _ c.args.out.now.numbers c.args.at c.in_ok-start.start c.in_ok-entry.entry _ _ _ (grown_then _ _ _ c.in_ok-start.ensures.grown c.in_ok-entry.ensures.grown) c.in_ok-choices.ensures.grown c.in_ok-choices.ensures.cases c.in_ok-choices.ensures.default c.in_ok-choices.ensures.order,
  refl,
)

pub lay_choices-loop-item-preserved : goal.lay_choices-loop-item-preserved
lay_choices-loop-item-preserved t c =
    let x = c.item-item.result in (
      choices_next (tables_shape c.args.tables.now) c.args.to c.args.decision _ _ _ _ _ _ _ c.args.at _ c.loop-item.entry _ _ _ c.in_ok-behind.behind _ _ _ c.args.items.now c.loop-item.item-index x c.loop-item-test.true c.item-item.is c.loop-item.invariant.0 (grown_then _ _ _ c.in_ok-behind.ensures.grown c.in_ok-others.ensures.grown)
          (rw (sym c.deref.ensures.value) c.in_ok-others.ensures.cases) (rw (sym c.deref.ensures.value) c.in_ok-others.ensures.default) (rw (sym c.deref.ensures.value) c.in_ok-others.ensures.order)
          (item_next (tables_shape c.args.tables.now) c.args.to x _ _ _ _ c.loop-item.entry c.in_ok-behind.behind c.loop-item.after _ _ c.loop-item.invariant.1 c.then_targets.ensures c.in_ok-lay_item.ensures),
      after_next c.args.items.now c.loop-item.item-index x c.splits-after.result c.loop-item-test.true c.item-item.is c.splits-after.ensures,
    )

pub lay_choices-returns : goal.lay_choices-returns
lay_choices-returns t c =
    choices_all (tables_shape c.args.tables.now) c.args.to c.args.decision _ _ _ _ _ c.args.at _ c.loop-item.entry _ _ _ c.loop-item.item-index c.args.items.now (omega arith) c.loop-item.invariant.0 c.in_ok-last_choices.ensures.grown c.in_ok-last_choices.ensures.cases c.in_ok-last_choices.ensures.default c.in_ok-last_choices.ensures.behind
