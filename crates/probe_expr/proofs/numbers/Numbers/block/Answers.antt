use Rattle.std.proofs.Common.{ℕ, ap}
use Rattle.probe_expr.proofs.Counting.{block_counted}
use Rattle.probe_expr.proofs.numbers.Numbers.block.Goals as goal

pub returns : goal.returns
returns c = block_counted c.args.self.now _ (ap (λ (x : ℕ). record c.args.self.now { blocks = x }) c.in_ok-blocks.ensures)
