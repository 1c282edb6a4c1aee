use Rattle.std.proofs.Common.{sym, ap, ◌∙◌, None}
use Rattle.c_eval.specs.Rest.{left, waiting, Val}
use Rattle.c_eval.proofs.Roles.{none_waits}
use Rattle.c_eval.proofs.work.Work.take_none.Goals as goal

pub returns-then-not-takes_none-clause-rest : goal.returns-then-not-takes_none-clause-rest
returns-then-not-takes_none-clause-rest c = λ t k s. sym (none_waits t k c.args.frame.node.now c.args.frame.wait (left t k c.args.self.now) s (sym c.takes_none.ensures ∙ c.if-not-takes_none.true))

pub returns-in-Comma-clause-rest : goal.returns-in-Comma-clause-rest
returns-in-Comma-clause-rest c = λ t k s. c.take_comma.ensures.rest t k None s ∙ ap (λ w. waiting t k c.args.frame.node.now w (left t k c.args.self.now) (Val None) s) (sym c.in-Comma.is)
