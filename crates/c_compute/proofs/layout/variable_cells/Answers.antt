use Rattle.c_tables.specs.Tables.{tables_shape, variable_shape}
use Rattle.c_compute.proofs.Measures.{measured_row, measured_set}
use Rattle.c_compute.proofs.layout.variable_cells.Goals as goal

pub returns-in_err-reach_size-clause-measured : goal.returns-in_err-reach_size-clause-measured
returns-in_err-reach_size-clause-measured c = c.reach_size.ensures.measured (tables_shape c.args.tables.now) c.requires.measured

pub returns-clause-measured : goal.returns-clause-measured
returns-clause-measured c = measured_set (tables_shape c.args.tables.now) c.reach_size.new.sizes.items c.args.variable c.cells-counted.result (c.reach_size.ensures.measured (tables_shape c.args.tables.now) c.requires.measured) c.in_ok-reach_size.ensures.reached (measured_row (tables_shape c.args.tables.now) c.args.variable c.cells-counted.result (variable_shape c.variable.result.now) c.requires.numbered.0 c.variable.ensures c.cells-counted.ensures)
