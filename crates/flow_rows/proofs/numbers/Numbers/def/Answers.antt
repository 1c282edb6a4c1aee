use Rattle.std.proofs.Common.{ℕ, ap}
use Rattle.flow_rows.proofs.Counting.{def_counted}
use Rattle.flow_rows.proofs.numbers.Numbers.def.Goals as goal

pub returns : goal.returns
returns c = def_counted c.args.self.now _ (ap (λ (x : ℕ). record c.args.self.now { defs = x }) c.in_ok-defs.ensures)
