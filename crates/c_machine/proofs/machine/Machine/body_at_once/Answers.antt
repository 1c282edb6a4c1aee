use Rattle.std.proofs.Common.{◌≡◌, true, sym, subst}
use Rattle.c_syntax.specs.declared.tree.Stmt.{Stmt}
use Rattle.c_machine_direct.specs.Forms.{is_direct_form}
use Rattle.c_machine.proofs.Turning.{for_direct}
use Rattle.c_machine.proofs.machine.Machine.body_at_once.Goals as goal

pub statement_at_once-requires-in-For-clause-direct : goal.statement_at_once-requires-in-For-clause-direct
statement_at_once-requires-in-For-clause-direct c = subst (λ (b : Stmt). is_direct_form b.form ≡ true) (sym c.deref-in-For.ensures) (for_direct c.args.turning.placed.stmt.now.form c.in-For.field-0 c.in-For.field-1 c.in-For.field-2 c.in-For.body c.args.turning.direct c.in-For.is).2
