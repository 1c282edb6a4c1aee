use Rattle.std.proofs.Common.{sym, ◌∙◌}
use Rattle.c_syntax.specs.View.{unit_shape}
use Rattle.c_checker.specs.CheckerView.{state_of}
use Rattle.c_types.proofs.Twice.{program_of}
use Rattle.c_types.proofs.checking.check.Goals as goal

pub from_typed-requires : goal.from_typed-requires
from_typed-requires c = program_of (unit_shape c.args.unit) (unit_shape c.type_twice.new.unit) (state_of c.in-Ok.checker) c.requires.sound c.requires.few c.in-Ok.ensures.tree c.in-Ok.ensures.state (sym c.deref.ensures.value ∙ c.in-None.ensures)
