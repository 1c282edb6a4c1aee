use Rattle.c_machine.proofs.Moves.{is_scoped}
use Rattle.c_machine.proofs.machine.Machine.statement_at_once.Goals as goal

pub statement-requires-clause-scoped : goal.statement-requires-clause-scoped
statement-requires-clause-scoped c = is_scoped c.args.world.now.names.calls c.args.self.now.waiting.items c.requires.tied
