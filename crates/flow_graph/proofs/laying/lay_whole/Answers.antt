use Rattle.c_syntax.specs.View.{decl_form_shape, compound_shape}
use Rattle.c_tables.specs.Tables.{tables_shape}
use Rattle.flow_graph.proofs.Bodies.{whole_placed}
use Rattle.flow_graph.proofs.laying.lay_whole.Goals as goal

pub returns : goal.returns
returns c =
    let t = tables_shape c.args.tables.now in
    whole_placed t c.args.to _ _ _ _ _ _ _ c.args.at c.in_ok-inner.inner (decl_form_shape c.args.form.now) (compound_shape c.args.body.now) c.in_ok-inner.ensures.grown (c.in_ok-lay_parameters.ensures t) c.in_ok-lay_block.ensures
