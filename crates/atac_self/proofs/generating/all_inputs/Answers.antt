-- The loop over the inputs.
use Rattle.std.proofs.Common.{◌∙◌, ap, map}
use Rattle.atac_self.specs.Inputs.{bytes_in}
use Rattle.atac_self.proofs.Steps.{inputs_start, inputs_step}
use Rattle.atac_self.proofs.generating.all_inputs.Goals as goal

pub loop-init : goal.loop-init
loop-init c =
    let p = inputs_start c.args.draws.now.state in
    record { so_far = ap (map bytes_in) c.new-all.ensures.items ∙ p.0; state = p.1 }

pub loop-preserved : goal.loop-preserved
loop-preserved c =
    let i = c.loop.invariant in
    let e = c.in_ok-input.ensures in
    let p = inputs_step c.loop.all.items c.push.new.self.items c.in_ok-input.field-0 c.loop.counter c.args.draws.now.state c.loop.draws.state c.input.new.draws.state i.so_far i.state e.bytes e.state c.in_ok-push.ensures.items in
    record { so_far = p.0; state = p.1 }
