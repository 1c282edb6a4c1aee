use Rattle.std.proofs.Common.{sym, ◌∙◌}
use Rattle.c_checker.proofs.Fitting.{fit_end}
use Rattle.c_checker.proofs.checker.Checker.fit_all.Goals as goal

pub returns-then-i-given : goal.returns-then-i-given
returns-then-i-given c = sym (fit_end _ c.args.given.now c.loop-i.i _ c.if-i-given.true) ∙ c.loop-i.invariant
