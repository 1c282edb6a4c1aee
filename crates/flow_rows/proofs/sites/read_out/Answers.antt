use Rattle.c_syntax.specs.View.{note_shape, expr_shape}
use Rattle.c_walk.specs.Items.{both}
use Rattle.flow_walks.specs.Comes.{evaluated}
use Rattle.flow_walks.specs.Expressions.{read_form}
use Rattle.flow_walks.proofs.More.{read_in}
use Rattle.flow_rows.specs.Laying.{ways}
use Rattle.flow_rows.specs.View.{rows_of}
use Rattle.flow_rows.proofs.Laws.{grown_then}
use Rattle.flow_rows.proofs.Sited.{led_then}
use Rattle.flow_rows.proofs.sites.read_out.Goals as goal

pub returns-clause-grown : goal.returns-clause-grown
returns-clause-grown c = grown_then (rows_of c.args.rows.now) (rows_of c.leave.new.rows) (rows_of c.read_row.new.rows) c.in_ok-out.ensures.grown c.in_ok-at.ensures.grown

pub returns-clause-led : goal.returns-clause-led
returns-clause-led c w e =
    led_then (rows_of c.leave.new.rows) (rows_of c.read_row.new.rows) c.in_ok-at.at c.in_ok-out.out (λ k. read_form c.args.taken (note_shape c.args.node.now.note) (expr_shape c.args.node.now.form) w k) (λ k. evaluated both (ways k c.args.to)) (read_in c.args.taken (note_shape c.args.node.now.note) (expr_shape c.args.node.now.form) w) c.in_ok-at.ensures.grown (c.in_ok-at.ensures.led w e) (c.in_ok-out.ensures.led)
