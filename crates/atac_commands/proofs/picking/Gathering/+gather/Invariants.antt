use Rattle.std.proofs.Common.{length}
use Rattle.atac_commands.proofs.picking.Gathering.+gather.Given as goal

abbrev pub decreases-gather : goal.decreases-gather
decreases-gather g l = length l.inputs.now
