use Rattle.std.proofs.Common.{◌∙◌}
use Rattle.c_tables.specs.Tables.{tables_shape}
use Rattle.c_world.specs.World.{state_of}
use Rattle.c_eval.proofs.Roles.{read_opens}
use Rattle.c_eval.proofs.work.Work.read.Goals as goal

pub returns-clause-rest : goal.returns-clause-rest
returns-clause-rest c = λ k h. c.in_ok-step.ensures.rest k h ∙ read_opens (tables_shape c.args.tables.now) k c.args.node (state_of c.args.world.now h) c.args.self.now.stack.items c.push.new.self.stack.items c.requires c.in_ok-push.ensures.pushed
