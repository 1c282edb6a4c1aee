-- The sort is by the line, and stable.
use Rattle.std.proofs.Common.{rules}
use Rattle.std.proofs.lemmas.List.Sorted.{IsNonDecreasingBy-from_sort, answers_always}
use Rattle.cover_show.specs.declared.missed.Missed.{Missed}
use Rattle.cover_show.proofs.Sorting.{rises, line_kept}
use Rattle.cover_show.proofs.missed.sort_by_line.Goals as goal

pub returns-clause-rises : goal.returns-clause-rises
returns-clause-rises c = rises _ (IsNonDecreasingBy-from_sort (λ (m : Missed). m.line) _ (c.in_ok-sort_by_key.ensures.sorted (λ m. m.line) (answers_always _ _ _ (λ f a r g h. search rules))))

pub returns-clause-keeps : goal.returns-clause-keeps
returns-clause-keeps c = line_kept _ _ (c.in_ok-sort_by_key.ensures.stable (λ m. m.line) (answers_always _ _ _ (λ f a r g h. search rules)))
