use Rattle.flow_rows.proofs.numbers.Numbers.block_if.Goals as goal

pub returns-then-block : goal.returns-then-block
returns-then-block c = rw c.if-block.true c.block.ensures
