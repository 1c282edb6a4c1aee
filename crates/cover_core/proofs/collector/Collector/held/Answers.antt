-- The rows count their words.
use Rattle.std.proofs.Common.{◌∙◌}
use Rattle.cover_parts.proofs.Calls.{cells_counted}
use Rattle.cover_core.proofs.collector.Collector.held.Goals as goal

pub returns : goal.returns
returns c = c.held.ensures ∙ cells_counted c.args.self.now.rows.live
