use Rattle.c_arith.proofs.Patterns.{masked}
use Rattle.c_arith.proofs.pattern.Goals as goal

pub returns : goal.returns
returns c = masked c.args.kind c.args.value c.mask.result c.ranges.value c.mask.ensures
