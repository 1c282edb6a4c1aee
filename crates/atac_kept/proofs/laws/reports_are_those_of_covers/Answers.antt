-- The lemma itself: a search gets lost in what it is said of.
use Rattle.atac_kept.proofs.Commands.{reports_are_those_of_covers}
use Rattle.atac_kept.proofs.laws.reports_are_those_of_covers.Goals as goal

pub returns : goal.returns
returns c = reports_are_those_of_covers
