use Rattle.std.proofs.Common.{◌<◌, length, refl, ap, arith}
use Rattle.c_syntax.specs.View.{decl_form_shape}
use Rattle.c_tables.specs.Tables.{tables_shape}
use Rattle.c_tree.specs.declared.program.Program.{Program}
use Rattle.c_plan.specs.Routines.{routine_of}
use Rattle.c_world.specs.World.{state_of, tables_of, answered}
use Rattle.c_world.proofs.Given.{entered_at}
use Rattle.c_world.proofs.world.World.enter.Goals as goal

pub returns-clause-done : goal.returns-clause-done
returns-clause-done c = λ h.
    let few : length c.args.self.now.names.calls < 4000 = omega (arith, c.if-depth-ge4000.false, c.depth.ensures) in
    entered_at (tables_of c.args.self.now) (tables_of c.activate.new.self) c.args.function c.args.routine.now.before (decl_form_shape c.args.routine.now.params.now) (routine_of c.args.routine.now) c.args.args.now (state_of c.args.self.now h) (state_of c.activate.new.self h) (answered c.in_ok-stopped.stopped (state_of c.give_form.new.self h)) refl refl few (c.in_ok-activate.ensures.activated h) (ap (λ (p : Program). tables_shape p.tables) c.activate.ensures.same.program) (c.in_ok-stopped.ensures.done h)
