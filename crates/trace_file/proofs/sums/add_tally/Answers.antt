-- Orderly rows have sound facts, and so has their sum.
use Rattle.trace_file.proofs.Adding.{are_sound, sum_sound}
use Rattle.trace_file.proofs.sums.add_tally.Goals as goal

pub returns-clause-sound : goal.returns-clause-sound
returns-clause-sound c = λ a b. c.law_of_rows.ensures (sum_sound _ _ _ c.in_ok-tally_into.ensures.ok (are_sound _ a) (are_sound _ b))
