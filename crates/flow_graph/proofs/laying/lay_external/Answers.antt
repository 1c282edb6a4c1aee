use Rattle.c_tables.specs.Rows.{text_of}
use Rattle.c_tables.specs.Tables.{tables_shape}
use Rattle.c_walk.specs.Units.{function_of, in_function}
use Rattle.flow_graph.proofs.laying.lay_external.Goals as goal

pub returns-in_ok-graph-in-Function-clause-counted : goal.returns-in_ok-graph-in-Function-clause-counted
returns-in_ok-graph-in-Function-clause-counted c =
    rw c.in-Function.is (c.in_ok-graph-in-Function.ensures.counted (function_of (tables_shape c.args.tables.now) (text_of c.in-Function.name.name)))

pub returns-in_ok-graph-in-Function-clause-graph : goal.returns-in_ok-graph-in-Function-clause-graph
returns-in_ok-graph-in-Function-clause-graph c =
    rw c.in-Function.is (c.in_ok-graph-in-Function.ensures.graph (function_of (tables_shape c.args.tables.now) (text_of c.in-Function.name.name)))

pub returns-in_ok-count_decl-in-Plain-clause-counted : goal.returns-in_ok-count_decl-in-Plain-clause-counted
returns-in_ok-count_decl-in-Plain-clause-counted c w e =
    rw c.in-Plain.is (c.in_ok-count_decl-in-Plain.ensures (tables_shape c.args.tables.now) 0 (in_function 0) w e)

pub returns-in_ok-count_decl-in-Plain-clause-graph : goal.returns-in_ok-count_decl-in-Plain-clause-graph
returns-in_ok-count_decl-in-Plain-clause-graph c = rw c.in-Plain.is tt
