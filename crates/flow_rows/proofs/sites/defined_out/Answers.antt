use Rattle.c_syntax.specs.View.{node_shape}
use Rattle.c_walk.specs.Items.{both}
use Rattle.flow_walks.specs.Comes.{evaluated}
use Rattle.flow_walks.specs.Expressions.{defined_at}
use Rattle.flow_walks.proofs.More.{defined_in}
use Rattle.flow_rows.specs.Laying.{ways}
use Rattle.flow_rows.specs.View.{rows_of}
use Rattle.flow_rows.proofs.Laws.{grown_then}
use Rattle.flow_rows.proofs.Sited.{led_then}
use Rattle.flow_rows.proofs.sites.defined_out.Goals as goal

pub returns-clause-grown : goal.returns-clause-grown
returns-clause-grown c = grown_then (rows_of c.args.rows.now) (rows_of c.leave.new.rows) (rows_of c.defined_row.new.rows) c.in_ok-out.ensures.grown c.in_ok-at.ensures.grown

pub returns-clause-led : goal.returns-clause-led
returns-clause-led c w e =
    led_then (rows_of c.leave.new.rows) (rows_of c.defined_row.new.rows) c.in_ok-at.at c.in_ok-out.out (λ k. defined_at (node_shape c.args.node.now) w k) (λ k. evaluated both (ways k c.args.to)) (defined_in (node_shape c.args.node.now) w) c.in_ok-at.ensures.grown (c.in_ok-at.ensures.led w e) (c.in_ok-out.ensures.led)
