use Rattle.c_ordered.proofs.Ordering as ordering
use Rattle.c_ordered.proofs.laws.holders_are_innermost.Goals as goal

pub returns : goal.returns
returns c = ordering.holders_innermost
