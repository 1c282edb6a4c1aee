-- Rows in order, and one more at their end.
use Rattle.std.proofs.Common.{ℕ, ◌+◌, ◌≤◌, List, [], ◌∷◌, ◌++◌}
use Rattle.atac_facts.specs.declared.tally.Counted.{Counted}
use Rattle.atac_facts.specs.Facts.{rank}
use Rattle.atac_facts.specs.Tallies.{end_from}
use Rattle.trace_file.specs.Sound.{SoundRow, Orderly}

pub orderly_push : (low : ℕ) (rows : List Counted) (row : Counted) → Orderly low rows → end_from low rows ≤ rank row.fact → SoundRow row → Orderly low (rows ++ row ∷ [])
orderly_push low [] row ordered after sound = (after, sound, tt)
orderly_push low (first ∷ rows) row ordered after sound =
    (ordered.0, ordered.1, orderly_push (rank first.fact + 1) rows row ordered.2 after sound)

-- a row among orderly ones
pub orderly_at : (low : ℕ) (rows : List Counted) (row : Counted) (more : List Counted) → Orderly low (rows ++ row ∷ more) → (end_from low rows ≤ rank row.fact) × SoundRow row
orderly_at low [] row more ordered = (ordered.0, ordered.1)
orderly_at low (first ∷ rows) row more ordered =
    orderly_at (rank first.fact + 1) rows row more ordered.2
