use Rattle.c_syntax.specs.View.{node_shape}
use Rattle.c_walk.specs.Counted.{next_def}
use Rattle.flow_walks.specs.declared.action.Action.TheVariants.{Define}
use Rattle.flow_walks.specs.Comes.{act}
use Rattle.flow_walks.specs.Expressions.{holds_place}
use Rattle.flow_rows.specs.View.{rows_of}
use Rattle.flow_rows.proofs.Sited.{same_led}
use Rattle.flow_rows.proofs.sites.defined_row.Goals as goal

pub returns-clause-led : goal.returns-clause-led
returns-clause-led c w e =
    same_led (rows_of c.define_if.new.rows) c.in_ok-at.at c.args.to c.holds_place.result (holds_place (node_shape c.args.node.now)) c.in_ok-number.number (next_def w) (λ n. act (Define n)) c.holds_place.ensures (c.in_ok-number.ensures w e) c.in_ok-at.ensures.led
