use Rattle.c_world.specs.World.{state_of}
use Rattle.c_eval_once.proofs.Told.{probe_form, select_told}
use Rattle.c_eval_once.proofs.telling.tell_test.Goals as goal

pub returns-in_ok-told-in-Select-clause-told : goal.returns-in_ok-told-in-Select-clause-told
returns-in_ok-told-in-Select-clause-told c = λ h.
    select_told c.args.node.now c.deref.result.now c.in-Probe.probe c.in-Select.text c.in-Select.constants _ c.in_ok-outcome-in-Select.outcome c.args.value c.in_ok-told-in-Select.told (state_of c.args.world.now h) (state_of c.tell_outcome-in-Select.new.world h)
    (probe_form c.args.node.now c.deref.result.now c.in-Probe.probe c.in-Probe.inner c.in-Probe.is c.deref.ensures) c.in-Select.is c.deref-in-Select.ensures.value c.in_ok-outcome-in-Select.ensures (c.in_ok-told-in-Select.ensures.told h)
