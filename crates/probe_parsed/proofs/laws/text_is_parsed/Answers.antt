use Rattle.probe_parsed.proofs.Parsed.{instrumented_is_parsed}
use Rattle.probe_parsed.proofs.laws.text_is_parsed.Goals as goal

pub returns : goal.returns
returns c = instrumented_is_parsed
