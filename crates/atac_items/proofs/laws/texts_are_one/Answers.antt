-- The lemma itself: a search tries the record's fields one by one.
use Rattle.atac_items.proofs.Texts.{tests_have_one_text}
use Rattle.atac_items.proofs.laws.texts_are_one.Goals as goal

pub returns-clause-tests : goal.returns-clause-tests
returns-clause-tests c = tests_have_one_text
