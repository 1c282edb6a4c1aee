use Rattle.std.proofs.Common.{[]}
use Rattle.c_syntax.specs.View.{init_shape}
use Rattle.c_world.specs.World.{state_of, tables_of}
use Rattle.c_machine.proofs.Turns.{object_turns}
use Rattle.c_machine.proofs.initial.fill_object.Goals as goal

pub returns-in-None-clause-kept : goal.returns-in-None-clause-kept
returns-in-None-clause-kept c = record {
  program = c.fill_object.ensures.same.program;
  limit = c.fill_object.ensures.same.limit;
  turns = object_turns (tables_of c.args.world.now) c.args.variable c.args.name.now (init_shape c.args.init.now) 0 (state_of c.args.world.now []) (state_of c.fill_object.new.self []) c.in_ok-fill_object.field-0 (c.in_ok-fill_object.ensures.done [] 0);
  names = c.fill_object.ensures.names;
}

pub returns-in-Some-clause-kept : goal.returns-in-Some-clause-kept
returns-in-Some-clause-kept c = record {
  program = c.fill_object.ensures.same.program;
  limit = c.fill_object.ensures.same.limit;
  turns = object_turns (tables_of c.args.world.now) c.args.variable c.args.name.now (init_shape c.args.init.now) 0 (state_of c.args.world.now []) (state_of c.fill_object.new.self []) c.in_ok-fill_object.field-0 (c.in_ok-fill_object.ensures.done [] 0);
  names = c.fill_object.ensures.names;
}
