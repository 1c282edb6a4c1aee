use Rattle.std.proofs.Common.{ℕ, ap}
use Rattle.flow_rows.proofs.Counting.{use_counted}
use Rattle.flow_rows.proofs.numbers.Numbers.used.Goals as goal

pub returns : goal.returns
returns c = use_counted c.args.self.now _ (ap (λ (x : ℕ). record c.args.self.now { uses = x }) c.in_ok-uses.ensures)
