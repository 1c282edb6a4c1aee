use Rattle.std.proofs.Common.{◌-◌, ◌∙◌}
use Rattle.c_syntax.specs.View.{type_of}
use Rattle.c_tables.specs.Tables.{tables_shape}
use Rattle.c_meaning.specs.Layout.{scalars_to}
use Rattle.c_compute.specs.Cells.{element_scalars}
use Rattle.c_compute.proofs.Scalars.{scalars_next, scalars_done}
use Rattle.c_compute.proofs.zeros.+zeros.Goals as goal

pub push_scalars-loop-left-preserved : goal.push_scalars-loop-left-preserved
push_scalars-loop-left-preserved t c =
    let rows = (tables_shape c.args.tables.now).structures in
    scalars_next c.loop-left.cells.items c.push_element.new.cells.items (element_scalars (scalars_to (c.args.depth - 1) rows) rows (type_of c.element-of.result.now)) c.loop-left.left c.loop-left-test.true c.in_ok-push_element.ensures ∙ c.loop-left.invariant

pub push_scalars-returns : goal.push_scalars-returns
push_scalars-returns t c =
    scalars_done c.loop-left.cells.items c.args.cells.now.items c.loop-left.left c.in-Some.count c.args.depth (tables_shape c.args.tables.now).structures (type_of c.args.kind.now) (type_of c.element-of.result.now) c.loop-left-test.false c.if-depth-eq0.false c.in-Some.ensures c.element-of.ensures c.loop-left.invariant
