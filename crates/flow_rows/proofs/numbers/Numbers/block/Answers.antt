use Rattle.std.proofs.Common.{ℕ, ap}
use Rattle.flow_rows.proofs.Counting.{block_counted}
use Rattle.flow_rows.proofs.numbers.Numbers.block.Goals as goal

pub returns : goal.returns
returns c = block_counted c.args.self.now _ (ap (λ (x : ℕ). record c.args.self.now { blocks = x }) c.in_ok-blocks.ensures)
