use Rattle.std.proofs.Common.{refl, sym, arith}
use Rattle.c_syntax.specs.View.{node_shape, note_shape, expr_shape, type_shape, probe_shape, node_list}
use Rattle.c_syntax.proofs.Made.{nodes_made}
use Rattle.c_syntax.specs.Shape.{dot, arrow}
use Rattle.c_tables.specs.Tables.{tables_shape}
use Rattle.flow_rows.proofs.Arms.{number_arm, char_arm, str_arm, name_arm, paren_arm, probe_arm, unary_arm, field_arm, cast_arm, step_arm, size_arm, size_type_arm, index_arm, plain_arm, comma_arm, assign_arm, call_arm, choose_arm}
use Rattle.flow_rows.proofs.Joins.{test_placed, arm_placed, loop_test_placed, and_arm, or_arm, pair_placed, assign_placed, choice_placed}
use Rattle.flow_rows.proofs.Runs.{arguments, run_none, run_next, run_all}
use Rattle.flow_rows.proofs.nodes.+laying.Goals as goal

pub lay_node-returns-in_ok-lay_constant-in-Number : goal.lay_node-returns-in_ok-lay_constant-in-Number
lay_node-returns-in_ok-lay_constant-in-Number t c =
    number_arm (tables_shape c.args.tables.now) c.args.taken c.args.node.now.pos (note_shape c.args.node.now.note) (expr_shape c.args.node.now.form) c.args.to c.args.at _ _ _ _ c.in-Number.field-0 (rw c.in-Number.is refl) c.in_ok-lay_constant-in-Number.ensures

pub lay_node-returns-in_ok-lay_constant-in-Char : goal.lay_node-returns-in_ok-lay_constant-in-Char
lay_node-returns-in_ok-lay_constant-in-Char t c =
    char_arm (tables_shape c.args.tables.now) c.args.taken c.args.node.now.pos (note_shape c.args.node.now.note) (expr_shape c.args.node.now.form) c.args.to c.args.at _ _ _ _ c.in-Char.field-0 (rw c.in-Char.is refl) c.in_ok-lay_constant-in-Char.ensures

pub lay_node-returns-in_ok-lay_constant-in-Str : goal.lay_node-returns-in_ok-lay_constant-in-Str
lay_node-returns-in_ok-lay_constant-in-Str t c =
    str_arm (tables_shape c.args.tables.now) c.args.taken c.args.node.now.pos (note_shape c.args.node.now.note) (expr_shape c.args.node.now.form) c.args.to c.args.at _ _ _ _ c.in-Str.field-0 (rw c.in-Str.is refl) c.in_ok-lay_constant-in-Str.ensures

pub lay_node-returns-in_ok-lay_name-in-Name : goal.lay_node-returns-in_ok-lay_name-in-Name
lay_node-returns-in_ok-lay_name-in-Name t c =
    name_arm (tables_shape c.args.tables.now) c.args.taken c.args.node.now.pos (note_shape c.args.node.now.note) (expr_shape c.args.node.now.form) c.args.to c.args.at _ _ _ _ c.in-Name.field-0 (rw c.in-Name.is refl) c.in_ok-lay_name-in-Name.ensures

pub lay_node-returns-in_ok-lay_node-in-Paren : goal.lay_node-returns-in_ok-lay_node-in-Paren
lay_node-returns-in_ok-lay_node-in-Paren t c =
    paren_arm (tables_shape c.args.tables.now) c.args.taken c.args.node.now.pos (note_shape c.args.node.now.note) (expr_shape c.args.node.now.form) c.args.to c.args.at _ _ _ _ (node_shape c.deref.result.now) (rw (c.in-Paren.is, c.deref.ensures) refl) c.in_ok-lay_node-in-Paren.ensures

pub lay_node-returns-in_ok-lay_node-in-Probe : goal.lay_node-returns-in_ok-lay_node-in-Probe
lay_node-returns-in_ok-lay_node-in-Probe t c =
    probe_arm (tables_shape c.args.tables.now) c.args.taken c.args.node.now.pos (note_shape c.args.node.now.note) (expr_shape c.args.node.now.form) c.args.to c.args.at _ _ _ _ (probe_shape c.in-Probe.field-0) (node_shape c.deref-in-Probe.result.now) (rw (c.in-Probe.is, c.deref-in-Probe.ensures) refl) c.in_ok-lay_node-in-Probe.ensures

pub lay_node-returns-in_ok-lay_node-in-Index-2 : goal.lay_node-returns-in_ok-lay_node-in-Index-2
lay_node-returns-in_ok-lay_node-in-Index-2 t c =
    index_arm (tables_shape c.args.tables.now) c.args.taken c.args.node.now.pos (note_shape c.args.node.now.note) (expr_shape c.args.node.now.form) c.args.to c.args.at _ _ _ _ _ _ c.in_ok-behind-in-Index.behind (node_shape c.deref-in-Index.result.now) (node_shape c.deref-in-Index-2.result.now) (rw (c.in-Index.is, c.deref-in-Index.ensures, c.deref-in-Index-2.ensures) refl) c.in_ok-behind-in-Index.ensures.grown c.in_ok-behind-in-Index.ensures.led c.in_ok-site-in-Index.ensures (pair_placed (tables_shape c.args.tables.now) _ _ _ _ _ _ _ c.args.at c.in_ok-second-in-Index.second c.in_ok-behind-in-Index.behind (node_shape c.deref-in-Index.result.now) (node_shape c.deref-in-Index-2.result.now) c.in_ok-second-in-Index.ensures.grown c.in_ok-lay_node-in-Index.ensures c.in_ok-lay_node-in-Index-2.ensures)

pub lay_node-returns-in_ok-lay_node-in-Member : goal.lay_node-returns-in_ok-lay_node-in-Member
lay_node-returns-in_ok-lay_node-in-Member t c =
    field_arm (tables_shape c.args.tables.now) c.args.taken c.args.node.now.pos (note_shape c.args.node.now.note) (expr_shape c.args.node.now.form) c.args.to c.args.at _ _ _ _ _ _ c.in_ok-behind-in-Member.behind (node_shape c.deref-in-Member.result.now) dot c.in-Member.field-1 c.in-Member.field-2 (rw (c.in-Member.is, c.deref-in-Member.ensures) refl) c.in_ok-behind-in-Member.ensures.grown c.in_ok-behind-in-Member.ensures.led c.in_ok-site-in-Member.ensures c.in_ok-lay_node-in-Member.ensures

pub lay_node-returns-in_ok-lay_node-in-Arrow : goal.lay_node-returns-in_ok-lay_node-in-Arrow
lay_node-returns-in_ok-lay_node-in-Arrow t c =
    field_arm (tables_shape c.args.tables.now) c.args.taken c.args.node.now.pos (note_shape c.args.node.now.note) (expr_shape c.args.node.now.form) c.args.to c.args.at _ _ _ _ _ _ c.in_ok-behind-in-Arrow.behind (node_shape c.deref-in-Arrow.result.now) arrow c.in-Arrow.field-1 c.in-Arrow.field-2 (rw (c.in-Arrow.is, c.deref-in-Arrow.ensures) refl) c.in_ok-behind-in-Arrow.ensures.grown c.in_ok-behind-in-Arrow.ensures.led c.in_ok-site-in-Arrow.ensures c.in_ok-lay_node-in-Arrow.ensures

pub lay_node-returns-in_ok-lay_nodes-in-Call : goal.lay_node-returns-in_ok-lay_nodes-in-Call
lay_node-returns-in_ok-lay_nodes-in-Call t c =
    call_arm (tables_shape c.args.tables.now) c.args.taken c.args.node.now.pos (note_shape c.args.node.now.note) (expr_shape c.args.node.now.form) c.args.to c.args.at _ _ _ _ _ c.in_ok-behind-in-Call.behind c.in-Call.field-0 (node_list c.deref-in-Call.result.now) (rw (c.in-Call.is, nodes_made c.in-Call.args, sym c.deref-in-Call.ensures.value) refl) c.in_ok-behind-in-Call.ensures.grown c.in_ok-behind-in-Call.ensures.led c.in_ok-lay_nodes-in-Call.ensures

pub lay_node-returns-in_ok-lay_node-in-Unary : goal.lay_node-returns-in_ok-lay_node-in-Unary
lay_node-returns-in_ok-lay_node-in-Unary t c =
    unary_arm (tables_shape c.args.tables.now) c.args.taken c.args.node.now.pos (note_shape c.args.node.now.note) (expr_shape c.args.node.now.form) c.args.to c.args.at _ _ _ _ _ _ c.in_ok-behind-in-Unary.behind c.in-Unary.op (node_shape c.deref-in-Unary.result.now) (rw (c.in-Unary.is, c.deref-in-Unary.ensures) refl) c.in_ok-behind-in-Unary.ensures.grown c.in_ok-behind-in-Unary.ensures.led c.in_ok-site-in-Unary.ensures (rw (sym c.operand_taken.ensures) c.in_ok-lay_node-in-Unary.ensures)

pub lay_node-returns-in_ok-lay_node-in-Step : goal.lay_node-returns-in_ok-lay_node-in-Step
lay_node-returns-in_ok-lay_node-in-Step t c =
    step_arm (tables_shape c.args.tables.now) c.args.taken c.args.node.now.pos (note_shape c.args.node.now.note) (expr_shape c.args.node.now.form) c.args.to c.args.at _ _ _ _ _ c.in_ok-behind-in-Step.behind c.in-Step.field-0 (node_shape c.deref-in-Step-2.result.now) (rw (c.in-Step.is, c.deref-in-Step-2.ensures) refl) c.in_ok-behind-in-Step.ensures.grown (rw (c.deref-in-Step-2.ensures, sym c.deref-in-Step.ensures) c.in_ok-behind-in-Step.ensures.led) c.in_ok-lay_node-in-Step.ensures

pub lay_node-returns-in_ok-leave_with-in-SizeOf : goal.lay_node-returns-in_ok-leave_with-in-SizeOf
lay_node-returns-in_ok-leave_with-in-SizeOf t c =
    size_arm (tables_shape c.args.tables.now) c.args.taken c.args.node.now.pos (note_shape c.args.node.now.note) (expr_shape c.args.node.now.form) c.args.to c.args.at _ _ _ _ (node_shape c.in-SizeOf.field-0.value) (rw c.in-SizeOf.is refl) (record { grown = c.in_ok-leave_with-in-SizeOf.ensures.grown; laid = λ around w e. c.in_ok-leave_with-in-SizeOf.ensures.laid; counted = λ around w e. e })

pub lay_node-returns-in_ok-leave_with-in-SizeOfType : goal.lay_node-returns-in_ok-leave_with-in-SizeOfType
lay_node-returns-in_ok-leave_with-in-SizeOfType t c =
    size_type_arm (tables_shape c.args.tables.now) c.args.taken c.args.node.now.pos (note_shape c.args.node.now.note) (expr_shape c.args.node.now.form) c.args.to c.args.at _ _ _ _ (type_shape c.in-SizeOfType.field-0) (rw c.in-SizeOfType.is refl) (record { grown = c.in_ok-leave_with-in-SizeOfType.ensures.grown; laid = λ around w e. c.in_ok-leave_with-in-SizeOfType.ensures.laid; counted = λ around w e. e })

pub lay_node-returns-in_ok-lay_node-in-Cast : goal.lay_node-returns-in_ok-lay_node-in-Cast
lay_node-returns-in_ok-lay_node-in-Cast t c =
    cast_arm (tables_shape c.args.tables.now) c.args.taken c.args.node.now.pos (note_shape c.args.node.now.note) (expr_shape c.args.node.now.form) c.args.to c.args.at _ _ _ _ _ c.in_ok-behind-in-Cast.behind (type_shape c.in-Cast.field-0) (node_shape c.deref-in-Cast.result.now) (rw (c.in-Cast.is, c.deref-in-Cast.ensures) refl) c.in_ok-behind-in-Cast.ensures.grown c.in_ok-behind-in-Cast.ensures.led c.in_ok-lay_node-in-Cast.ensures

pub lay_node-returns-in_ok-lay_node-in-Binary-2 : goal.lay_node-returns-in_ok-lay_node-in-Binary-2
lay_node-returns-in_ok-lay_node-in-Binary-2 t c =
    plain_arm (tables_shape c.args.tables.now) c.args.taken c.args.node.now.pos (note_shape c.args.node.now.note) (expr_shape c.args.node.now.form) c.args.to c.args.at _ _ _ _ _ c.in_ok-behind-in-Binary.behind c.in-Binary.field-0 (node_shape c.deref-in-Binary.result.now) (node_shape c.deref-in-Binary-2.result.now) (rw (c.in-Binary.is, c.deref-in-Binary.ensures, c.deref-in-Binary-2.ensures) refl) c.in_ok-behind-in-Binary.ensures.grown c.in_ok-behind-in-Binary.ensures.led (pair_placed (tables_shape c.args.tables.now) _ _ _ _ _ _ _ c.args.at c.in_ok-second-in-Binary.second c.in_ok-behind-in-Binary.behind (node_shape c.deref-in-Binary.result.now) (node_shape c.deref-in-Binary-2.result.now) c.in_ok-second-in-Binary.ensures.grown c.in_ok-lay_node-in-Binary.ensures c.in_ok-lay_node-in-Binary-2.ensures)

pub lay_node-returns-in_ok-lay_node-in-Comma-2 : goal.lay_node-returns-in_ok-lay_node-in-Comma-2
lay_node-returns-in_ok-lay_node-in-Comma-2 t c =
    comma_arm (tables_shape c.args.tables.now) c.args.taken c.args.node.now.pos (note_shape c.args.node.now.note) (expr_shape c.args.node.now.form) c.args.to c.args.at _ _ _ _ _ c.in_ok-behind-in-Comma.behind (node_shape c.deref-in-Comma.result.now) (node_shape c.deref-in-Comma-2.result.now) (rw (c.in-Comma.is, c.deref-in-Comma.ensures, c.deref-in-Comma-2.ensures) refl) c.in_ok-behind-in-Comma.ensures.grown c.in_ok-behind-in-Comma.ensures.led (pair_placed (tables_shape c.args.tables.now) _ _ _ _ _ _ _ c.args.at c.in_ok-second-in-Comma.second c.in_ok-behind-in-Comma.behind (node_shape c.deref-in-Comma.result.now) (node_shape c.deref-in-Comma-2.result.now) c.in_ok-second-in-Comma.ensures.grown c.in_ok-lay_node-in-Comma.ensures c.in_ok-lay_node-in-Comma-2.ensures)

pub lay_node-returns-in_ok-lay_arm-in-Cond-2 : goal.lay_node-returns-in_ok-lay_arm-in-Cond-2
lay_node-returns-in_ok-lay_arm-in-Cond-2 t c =
    choose_arm (tables_shape c.args.tables.now) c.args.taken c.args.node.now.pos (note_shape c.args.node.now.note) (expr_shape c.args.node.now.form) c.args.to c.args.at _ _ _ _ _ c.in_ok-behind-in-Cond.behind (node_shape c.deref-in-Cond.result.now) (node_shape c.deref-in-Cond-2.result.now) (node_shape c.deref-in-Cond-3.result.now) (rw (c.in-Cond.is, c.deref-in-Cond.ensures, c.deref-in-Cond-2.ensures, c.deref-in-Cond-3.ensures) refl) c.in_ok-behind-in-Cond.ensures.grown c.in_ok-behind-in-Cond.ensures.led (choice_placed (tables_shape c.args.tables.now) _ _ _ _ _ _ _ _ _ _ c.args.at c.in_ok-first-in-Cond.first c.in_ok-second-in-Cond.second c.in_ok-behind-in-Cond.behind (node_shape c.deref-in-Cond.result.now) (node_shape c.deref-in-Cond-2.result.now) (node_shape c.deref-in-Cond-3.result.now) c.in_ok-first-in-Cond.ensures.grown c.in_ok-second-in-Cond.ensures.grown c.in_ok-lay_test-in-Cond.ensures c.in_ok-lay_arm-in-Cond.ensures c.in_ok-lay_arm-in-Cond-2.ensures)

pub lay_node-returns-in_ok-lay_node-in-Assign-2 : goal.lay_node-returns-in_ok-lay_node-in-Assign-2
lay_node-returns-in_ok-lay_node-in-Assign-2 t c =
    let a = node_shape c.deref-in-Assign-4.result.now in
    let b = node_shape c.deref-in-Assign-5.result.now in
    assign_arm (tables_shape c.args.tables.now) c.args.taken c.args.node.now.pos (note_shape c.args.node.now.note) (expr_shape c.args.node.now.form) c.args.to c.args.at _ _ _ _ _ c.in_ok-behind-in-Assign.behind c.in-Assign.op c.left_taken-left.result c.right_taken-right.result a b
    (rw (c.in-Assign.is, c.deref-in-Assign-4.ensures, c.deref-in-Assign-5.ensures) refl) c.left_taken-left.ensures (rw (c.deref-in-Assign-4.ensures, sym c.deref-in-Assign.ensures) c.right_taken-right.ensures) c.in_ok-behind-in-Assign.ensures.grown (rw (c.deref-in-Assign-4.ensures, sym c.deref-in-Assign-2.ensures) c.in_ok-behind-in-Assign.ensures.led)
    (assign_placed (tables_shape c.args.tables.now) _ _ _ _ _ _ _ _ c.args.at c.in_ok-second-in-Assign.second c.in_ok-changed-in-Assign.changed c.in_ok-behind-in-Assign.behind c.left_taken-left.result c.right_taken-right.result a b c.in_ok-second-in-Assign.ensures.grown c.in_ok-changed-in-Assign.ensures.grown (rw (c.deref-in-Assign-4.ensures, sym c.deref-in-Assign-3.ensures) c.in_ok-changed-in-Assign.ensures.led) c.in_ok-lay_node-in-Assign.ensures c.in_ok-lay_node-in-Assign-2.ensures)

pub lay_node-returns-in_ok-lay_loop_test-in-And : goal.lay_node-returns-in_ok-lay_loop_test-in-And
lay_node-returns-in_ok-lay_loop_test-in-And t c =
    and_arm (tables_shape c.args.tables.now) c.args.taken c.args.node.now.pos (note_shape c.args.node.now.note) (expr_shape c.args.node.now.form) c.args.at _ _ _ _ _ _ _ c.in_ok-right-in-And.right (node_shape c.deref-in-And.result.now) (node_shape c.deref-in-And-2.result.now) c.in_ok-right-in-And.ensures.grown c.args.to _ _ (rw (c.in-And.is, c.deref-in-And.ensures, c.deref-in-And-2.ensures) refl) c.yes_of-yes.ensures c.no_of-no.ensures c.in_ok-lay_test-in-And.ensures c.in_ok-lay_loop_test-in-And.ensures

pub lay_node-returns-in_ok-lay_loop_test-in-Or : goal.lay_node-returns-in_ok-lay_loop_test-in-Or
lay_node-returns-in_ok-lay_loop_test-in-Or t c =
    or_arm (tables_shape c.args.tables.now) c.args.taken c.args.node.now.pos (note_shape c.args.node.now.note) (expr_shape c.args.node.now.form) c.args.at _ _ _ _ _ _ _ c.in_ok-right-in-Or.right (node_shape c.deref-in-Or.result.now) (node_shape c.deref-in-Or-2.result.now) c.in_ok-right-in-Or.ensures.grown c.args.to _ _ (rw (c.in-Or.is, c.deref-in-Or.ensures, c.deref-in-Or-2.ensures) refl) c.yes_of-yes-in-Or.ensures c.no_of-no-in-Or.ensures c.in_ok-lay_test-in-Or.ensures c.in_ok-lay_loop_test-in-Or.ensures

pub lay_test-returns : goal.lay_test-returns
lay_test-returns t c =
    let a = c.args.node.now in
    test_placed (tables_shape c.args.tables.now) _ _ _ _ _ c.in_ok-decision.decision c.args.at c.args.yes c.args.no a.pos a.op (note_shape a.note) (expr_shape a.form) c.in_ok-decision.ensures c.in_ok-test.ensures c.in_ok-lay_node.ensures

pub lay_arm-returns : goal.lay_arm-returns
lay_arm-returns t c =
    let a = c.args.node.now in
    arm_placed (tables_shape c.args.tables.now) _ _ _ _ _ _ _ c.in_ok-number.number c.args.at c.in_ok-inner.inner c.args.to a.pos a.op (note_shape a.note) (expr_shape a.form) c.in_ok-inner.ensures.grown c.in_ok-fill.ensures.grown c.in_ok-fill.ensures.laid c.in_ok-number.ensures c.in_ok-block.ensures c.in_ok-lay_node.ensures

pub lay_loop_test-returns : goal.lay_loop_test-returns
lay_loop_test-returns t c =
    loop_test_placed (tables_shape c.args.tables.now) _ _ _ _ _ _ _ c.in_ok-number.number c.args.at c.in_ok-inner.inner c.args.yes c.args.no (node_shape c.args.node.now) c.in_ok-inner.ensures.grown c.in_ok-fill.ensures.grown c.in_ok-fill.ensures.laid c.in_ok-number.ensures c.in_ok-block.ensures c.in_ok-lay_test.ensures

pub lay_nodes-loop-node-init : goal.lay_nodes-loop-node-init
lay_nodes-loop-node-init t c = run_none (arguments (tables_shape c.args.tables.now)) _ _ _ c.args.out.now.numbers c.args.at c.in_ok-entry.entry c.in_ok-entry.ensures.grown c.in_ok-fill.ensures.grown c.in_ok-fill.ensures.laid

pub lay_nodes-loop-node-preserved : goal.lay_nodes-loop-node-preserved
lay_nodes-loop-node-preserved t c =
    run_next (arguments (tables_shape c.args.tables.now)) _ _ _ _ _ _ _ c.args.at c.loop-node.entry c.in_ok-next.next c.args.nodes.now c.loop-node.node-index c.node-item.result c.loop-node-test.true c.node-item.is c.loop-node.invariant c.in_ok-next.ensures.grown c.in_ok-lay_node.ensures

pub lay_nodes-returns : goal.lay_nodes-returns
lay_nodes-returns t c =
    run_all (arguments (tables_shape c.args.tables.now)) _ _ _ _ _ c.args.at c.loop-node.entry c.args.to c.loop-node.node-index c.args.nodes.now (omega arith) c.loop-node.invariant c.in_ok-fill-2.ensures.grown c.in_ok-fill-2.ensures.laid
