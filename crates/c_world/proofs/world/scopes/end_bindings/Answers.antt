use Rattle.c_world.proofs.Scopes.{one_ended}
use Rattle.c_world.proofs.world.scopes.end_bindings.Goals as goal

pub loop-instance-preserved : goal.loop-instance-preserved
loop-instance-preserved c = rw c.end.ensures (one_ended c.args.names.now c.loop-instance.names c.unbind.new.self c.args.store.now c.loop-instance.store c.in-Some.instance c.loop-instance.invariant c.in-Some.ensures)
