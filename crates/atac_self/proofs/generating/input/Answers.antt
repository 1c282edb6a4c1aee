-- The loop over the bytes.
use Rattle.std.proofs.Common.{◌∙◌}
use Rattle.atac_self.proofs.Steps.{bytes_start, bytes_step}
use Rattle.atac_self.proofs.generating.input.Goals as goal

pub loop-init : goal.loop-init
loop-init c =
    let p = bytes_start c.args.draws.now.state in
    record { so_far = c.new-input.ensures.items ∙ p.0; state = p.1 }

pub loop-preserved : goal.loop-preserved
loop-preserved c =
    let i = c.loop.invariant in
    let d = c.draw.ensures in
    let p = bytes_step c.loop.input.items c.push.new.self.items c.loop.counter c.args.draws.now.state c.loop.draws.state c.draw.new.self.state c.draw.result i.so_far i.state d.state d.value c.in_ok-push.ensures.items in
    record { so_far = p.0; state = p.1 }
