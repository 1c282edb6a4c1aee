-- Counts of rows that were made or read.
use Rattle.std.proofs.Common.{subst}
use Rattle.atac_facts.specs.Sums.{AreSmall}
use Rattle.trace_file.proofs.Adding.{kept_small}
use Rattle.trace_file.proofs.rows.Rows.are_small.Goals as goal

pub returns : goal.returns
returns c = subst AreSmall c.self.view_is (kept_small c.self.inside.made c.self.inside.read c.rows-rows.ensures.small c.self.invariant)
