-- The lemma itself: a search tries the kinds of items one by one.
use Rattle.atac_items.proofs.Facts.{items_of_programs_fit}
use Rattle.atac_items.proofs.laws.items_of_programs_fit.Goals as goal

pub returns : goal.returns
returns c = items_of_programs_fit
