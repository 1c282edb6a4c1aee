-- The law of one more event.
use Rattle.cover_parts.proofs.Events.{def_free}
use Rattle.cover_core.proofs.collector.definitions_are_free.Goals as goal

pub returns : goal.returns
returns c = def_free
