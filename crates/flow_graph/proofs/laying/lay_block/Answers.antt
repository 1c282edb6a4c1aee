use Rattle.c_syntax.specs.View.{compound_shape}
use Rattle.c_tables.specs.Tables.{tables_shape}
use Rattle.flow_graph.proofs.Bodies.{body_placed}
use Rattle.flow_graph.proofs.laying.lay_block.Goals as goal

pub returns : goal.returns
returns c =
    body_placed (tables_shape c.args.tables.now) c.args.to _ _ _ _ _ _ _ c.in_ok-number.number c.args.at c.in_ok-inner.inner (compound_shape c.args.body.now) c.in_ok-inner.ensures.grown c.in_ok-fill.ensures.grown c.in_ok-fill.ensures.laid
    c.in_ok-number.ensures c.in_ok-block.ensures c.in_ok-lay_compound.ensures
