use Rattle.std.proofs.Common.{[]}
use Rattle.c_world.specs.World.{state_of}
use Rattle.c_machine.proofs.Turns.{scalar_turns}
use Rattle.c_machine.proofs.initial.write_initial.Goals as goal

pub returns-clause-kept : goal.returns-clause-kept
returns-clause-kept c = record {
  program = c.write_scalar.ensures.same.program;
  limit = c.write_scalar.ensures.same.limit;
  turns = scalar_turns c.args.name.now 0 c.args.instance c.converted-value.result (state_of c.args.world.now []) (state_of c.write_scalar.new.self []) c.in_ok-stopped.stopped (c.in_ok-stopped.ensures.done []);
  names = c.write_scalar.ensures.names;
}
