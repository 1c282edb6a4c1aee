use Rattle.std.proofs.Common.{◌≡◌, true}
use Rattle.reach_defs.proofs.Spreading.{pass_skip, pass_set}
use Rattle.reach_defs.proofs.pass.pass_one.Goals as goal

pub returns-then-not-lets_out-clause-step : goal.returns-then-not-lets_out-clause-step
returns-then-not-lets_out-clause-step c = λ h p. pass_skip c.args.rows.now c.args.marks.now c.args.from c.args.to c.args.i h c.args.held.now p (λ o. let t : c.lets_out.result ≡ true = c.lets_out.ensures.1 o in let f = c.if-not-lets_out.true in absurd (cc))

pub returns-clause-step : goal.returns-clause-step
returns-clause-step c = λ h p. pass_set c.args.rows.now c.args.marks.now c.args.from c.args.to c.args.i h c.args.held.now c.set.new.self c.requires.mark c.requires.width c.requires.edge p (c.lets_out.ensures.0 c.if-not-lets_out.false) (record { height = c.set.ensures.height; width = c.set.ensures.width; here = c.set.ensures.here; kept = c.set.ensures.kept; only = c.set.ensures.only })
