use Rattle.c_syntax.specs.View.{type_of}
use Rattle.c_tables.specs.Tables.{tables_shape}
use Rattle.c_meaning.specs.Layout.{cells}
use Rattle.c_world.specs.World.{state_of}
use Rattle.c_world.specs.Steps.{found}
use Rattle.c_eval_once.proofs.Told.{no_variable, a_variable}
use Rattle.c_eval_once.proofs.leaf.variable.Goals as goal

pub returns-in-None : goal.returns-in-None
returns-in-None c = λ h. no_variable (tables_shape c.args.tables.now) (type_of c.args.kind.now) c.args.number (state_of c.args.world.now h) (c.in-None.ensures h)

pub returns-in-Some : goal.returns-in-Some
returns-in-Some c = λ h. a_variable (tables_shape c.args.tables.now) (type_of c.args.kind.now) c.args.number c.in-Some.instance (state_of c.args.world.now h) (found c.object_at.result (state_of c.args.world.now h)) (c.in-Some.ensures h) (c.object_at.ensures (cells (tables_shape c.args.tables.now) (type_of c.args.kind.now)) (state_of c.args.world.now h) c.cells_in.ensures)
