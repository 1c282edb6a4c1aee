-- The report, by the items and facts so far.
use Rattle.std.proofs.Common.{ap, ◌∙◌}
use Rattle.cover_report.specs.Texts.{report_text}
use Rattle.cover_report.proofs.Same.{report_same}
use Rattle.atac_commands.proofs.covering.Covering.report.Goals as goal

pub returns : goal.returns
returns c = λ P items has h. c.in_ok-text.ensures ∙ report_same _ has h.facts _ ∙ ap (λ i. report_text i has) h.listed
