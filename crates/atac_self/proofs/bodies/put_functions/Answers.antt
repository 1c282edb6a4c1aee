-- The loop over the functions.
use Rattle.std.specs.Prelude.{string_bytes}
use Rattle.atac_self.proofs.Steps.{functions_start, functions_step}
use Rattle.atac_self.proofs.bodies.put_functions.Goals as goal

pub loop-i-init : goal.loop-i-init
loop-i-init c =
    let p = functions_start (string_bytes c.args.text.now) c.args.draws.now.state in
    record { text = p.0; state = p.1 }

pub loop-i-preserved : goal.loop-i-preserved
loop-i-preserved c =
    let i = c.loop-i.invariant in
    let e = c.in_ok-put_function.ensures in
    let p = functions_step (string_bytes c.args.text.now) (string_bytes c.loop-i.text) (string_bytes c.put_function.new.text) c.loop-i.i c.args.draws.now.state c.loop-i.draws.state c.put_function.new.draws.state i.text i.state e.text e.state in
    record { text = p.0; state = p.1 }
