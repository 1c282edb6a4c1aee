-- The lemma itself: a search doesn't compute the instrumented program.
use Rattle.probe_programs.proofs.Whole.{probed_is_program}
use Rattle.probe_programs.proofs.laws.probed_is_program.Goals as goal

pub returns : goal.returns
returns c = probed_is_program
