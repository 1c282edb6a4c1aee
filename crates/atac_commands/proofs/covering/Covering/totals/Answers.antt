-- The totals, by the items and facts so far.
use Rattle.std.proofs.Common.{ap, ◌∙◌}
use Rattle.cover_report.specs.Texts.{totals_text}
use Rattle.cover_report.proofs.Same.{totals_same}
use Rattle.atac_commands.proofs.covering.Covering.totals.Goals as goal

pub returns : goal.returns
returns c = λ P items has h. c.in_ok-text.ensures ∙ totals_same _ has h.facts c.args.self.now.items ∙ ap (λ i. totals_text i has) h.listed
