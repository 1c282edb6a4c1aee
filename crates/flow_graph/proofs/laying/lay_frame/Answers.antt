use Rattle.flow_rows.specs.View.{rows_of}
use Rattle.flow_graph.proofs.Bodies.{framed}
use Rattle.flow_graph.proofs.laying.lay_frame.Goals as goal

pub returns : goal.returns
returns c =
    framed (rows_of c.args.rows.now) _ _ _ _ _ _ c.in_ok-start.start c.in_ok-stop.stop c.in_ok-last.last c.requires c.in_ok-hole.ensures.grown c.in_ok-start.ensures.grown c.in_ok-start-2.ensures.grown c.in_ok-start-2.ensures.row
    c.in_ok-stop.ensures.grown c.in_ok-fill.ensures.grown c.in_ok-fill.ensures.laid c.in_ok-last.ensures
