-- The totals under the facts that the tally has.
use Rattle.std.proofs.Common.{◌++◌, ap, ◌∙◌, string_bytes}
use Rattle.cover_hits.proofs.Totals.{same_totals}
use Rattle.cover_hits.proofs.counting.put_met.Goals as goal

pub returns : goal.returns
returns c = c.in_ok-put_totals.ensures ∙ ap (λ totals. string_bytes c.args.text.now ++ totals) (same_totals c.args.items.now c.args.tally.now c.facts.result.now c.facts.ensures c.requires)
