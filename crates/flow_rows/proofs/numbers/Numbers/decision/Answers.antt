use Rattle.std.proofs.Common.{ℕ, ap}
use Rattle.flow_rows.proofs.Counting.{decision_counted}
use Rattle.flow_rows.proofs.numbers.Numbers.decision.Goals as goal

pub returns : goal.returns
returns c = decision_counted c.args.self.now _ (ap (λ (x : ℕ). record c.args.self.now { decisions = x }) c.in_ok-decisions.ensures)
