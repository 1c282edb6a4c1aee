use Rattle.c_syntax.specs.View.{note_shape}
use Rattle.c_tables.specs.Tables.{tables_shape}
use Rattle.c_walk.specs.Items.{both}
use Rattle.flow_walks.specs.Comes.{evaluated}
use Rattle.flow_walks.specs.Expressions.{entered}
use Rattle.flow_walks.proofs.More.{entered_in}
use Rattle.flow_rows.specs.Laying.{ways}
use Rattle.flow_rows.specs.View.{rows_of}
use Rattle.flow_rows.proofs.Laws.{grown_then}
use Rattle.flow_rows.proofs.Sited.{led_then}
use Rattle.flow_rows.proofs.sites.entered_out.Goals as goal

pub returns-clause-grown : goal.returns-clause-grown
returns-clause-grown c = grown_then (rows_of c.args.rows.now) (rows_of c.leave.new.rows) (rows_of c.entered.new.rows) c.in_ok-out.ensures.grown c.in_ok-at.ensures.grown

pub returns-clause-led : goal.returns-clause-led
returns-clause-led c =
    led_then (rows_of c.leave.new.rows) (rows_of c.entered.new.rows) c.in_ok-at.at c.in_ok-out.out (λ k. entered (tables_shape c.args.tables.now) (note_shape c.args.note.now) k) (λ k. evaluated both (ways k c.args.to)) (entered_in (tables_shape c.args.tables.now) (note_shape c.args.note.now)) c.in_ok-at.ensures.grown (c.in_ok-at.ensures.led) (c.in_ok-out.ensures.led)
