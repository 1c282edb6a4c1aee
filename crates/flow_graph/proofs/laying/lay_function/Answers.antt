use Rattle.std.proofs.Common.{refl}
use Rattle.c_syntax.specs.View.{decl_form_shape, compound_shape}
use Rattle.c_tables.specs.Tables.{tables_shape}
use Rattle.flow_graph.proofs.Bodies.{graph_is, graph_counted, graph_within, graph_last}
use Rattle.flow_graph.proofs.laying.lay_function.Goals as goal

pub from_rows-requires-clause-within : goal.from_rows-requires-clause-within
from_rows-requires-clause-within c =
    rw c.into_rows-laid.ensures (graph_within (tables_shape c.args.tables.now) (decl_form_shape c.args.form.now) (compound_shape c.args.body.now) _ _ _ _ _ _ _ _ c.in_ok-frame.ensures c.in_ok-lay_whole.ensures)

pub from_rows-requires-clause-last : goal.from_rows-requires-clause-last
from_rows-requires-clause-last c =
    rw c.into_rows-laid.ensures (graph_last (tables_shape c.args.tables.now) (decl_form_shape c.args.form.now) (compound_shape c.args.body.now) _ _ _ _ _ _ _ _ c.in_ok-frame.ensures c.in_ok-lay_whole.ensures)

pub returns-clause-counted : goal.returns-clause-counted
returns-clause-counted c f w e =
    graph_counted (tables_shape c.args.tables.now) (decl_form_shape c.args.form.now) (compound_shape c.args.body.now) _ _ _ _ _ _ _ _ c.in_ok-frame.ensures c.in_ok-lay_whole.ensures f w e

pub returns-clause-graph : goal.returns-clause-graph
returns-clause-graph c f w e =
    rw (c.in_ok-graph.ensures, c.into_rows-laid.ensures)
    (graph_is (tables_shape c.args.tables.now) (decl_form_shape c.args.form.now) (compound_shape c.args.body.now) _ _ _ _ _ _ _ _ c.in_ok-frame.ensures c.in_ok-lay_whole.ensures refl f w e)
