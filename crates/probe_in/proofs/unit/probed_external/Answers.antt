use Rattle.std.proofs.Common.{sym}
use Rattle.probe_in.proofs.unit.probed_external.Goals as goal

pub returns-in_ok-made-in-Function : goal.returns-in_ok-made-in-Function
returns-in_ok-made-in-Function c t = rw (c.in-Function.is, sym c.deref.ensures.value) (c.in_ok-made-in-Function.ensures t)
