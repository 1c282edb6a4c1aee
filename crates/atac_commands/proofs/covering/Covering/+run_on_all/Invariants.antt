use Rattle.std.proofs.Common.{length}
use Rattle.atac_commands.proofs.covering.Covering.+run_on_all.Given as goal

abbrev pub decreases-run_on_all : goal.decreases-run_on_all
decreases-run_on_all l = length l.inputs.now
