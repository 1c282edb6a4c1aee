-- The text is its first line, a newline and what stands behind it.
use Rattle.cover_show.proofs.Cutting.{cut_at, cut_all}
use Rattle.cover_show.proofs.showing.cut_line.Goals as goal

pub returns-in-Some-clause-cut : goal.returns-in-Some-clause-cut
returns-in-Some-clause-cut c = cut_at _ _ _ _ _ _ c.requires c.line_end.ensures.value c.split_at.ensures.front c.split_at.ensures.back c.in-Some.ensures.cases.0

pub returns-in-None-clause-cut : goal.returns-in-None-clause-cut
returns-in-None-clause-cut c = cut_all _ _ _ _ c.requires c.line_end.ensures.value c.split_at.ensures.front c.split_at.ensures.back c.in-None.ensures.cases
