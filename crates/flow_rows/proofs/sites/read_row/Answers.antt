use Rattle.c_syntax.specs.View.{note_shape, expr_shape}
use Rattle.c_walk.specs.Counted.{next_use}
use Rattle.flow_walks.specs.declared.action.Action.TheVariants.{Use}
use Rattle.flow_walks.specs.Comes.{act}
use Rattle.flow_walks.specs.Expressions.{reads}
use Rattle.flow_rows.specs.View.{rows_of}
use Rattle.flow_rows.proofs.Sited.{same_led}
use Rattle.flow_rows.proofs.sites.read_row.Goals as goal

pub returns-clause-led : goal.returns-clause-led
returns-clause-led c w e =
    same_led (rows_of c.use_if.new.rows) c.in_ok-at.at c.args.to c.reads.result (reads c.args.taken (note_shape c.args.node.now.note) (expr_shape c.args.node.now.form)) c.in_ok-number.number (next_use w) (λ n. act (Use n)) c.reads.ensures (c.in_ok-number.ensures w e) c.in_ok-at.ensures.led
