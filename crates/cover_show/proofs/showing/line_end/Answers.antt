-- The first newline's place.
use Rattle.std.proofs.Common.{◌∙◌}
use Rattle.cover_show.proofs.Cutting.{end_is}
use Rattle.cover_show.proofs.showing.line_end.Goals as goal

pub returns-clause-value : goal.returns-clause-value
returns-clause-value c = c.unwrap_or.ensures ∙ end_is _ _ c.newline.ensures
