use Rattle.std.proofs.Common.{rules}
use Rattle.c_syntax.specs.View.{unit_shape}
use Rattle.c_front.specs.Front.{by_checker}
use Rattle.c_front.proofs.front.read.Goals as goal

pub returns-in-Err-At-clause-read : goal.returns-in-Err-At-clause-read
returns-in-Err-At-clause-read c = by_checker (unit_shape c.in_ok-unit.unit) c.in_ok-unit.ensures.unit (search rules) (search rules)
