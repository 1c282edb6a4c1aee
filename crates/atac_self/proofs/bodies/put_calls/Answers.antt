-- The loop over the calls.
use Rattle.std.specs.Prelude.{string_bytes}
use Rattle.atac_self.proofs.Steps.{calls_start, calls_step}
use Rattle.atac_self.proofs.bodies.put_calls.Goals as goal

pub loop-i-init : goal.loop-i-init
loop-i-init c = calls_start (string_bytes c.args.text.now)

pub loop-i-preserved : goal.loop-i-preserved
loop-i-preserved c = calls_step (string_bytes c.args.text.now) (string_bytes c.loop-i.text) (string_bytes c.put_call.new.text) c.loop-i.i c.loop-i.invariant c.in_ok-put_call.ensures
