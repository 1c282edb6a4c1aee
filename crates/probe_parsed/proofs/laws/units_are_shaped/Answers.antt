use Rattle.probe_parsed.proofs.FirmUnits.{instrumented_is_shaped}
use Rattle.probe_parsed.proofs.laws.units_are_shaped.Goals as goal

pub returns-clause-shaped : goal.returns-clause-shaped
returns-clause-shaped c = instrumented_is_shaped
