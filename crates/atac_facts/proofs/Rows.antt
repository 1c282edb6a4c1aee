-- Rows in order, and one more at their end.
use Rattle.std.proofs.Common.{◌≡◌, ℕ, ◌+◌, ◌-◌, ◌≤◌, Bool, true, false, cond, ltb, leb, List, [], ◌∷◌, ◌++◌, length, Some, refl, sym, ap, ◌∙◌, arith}
use native.Mathlib.Numerals.{unary_clauses}
use Rattle.std.specs.Prelude.{slice_get}
use Rattle.std.proofs.lemmas.Bool.Decides.{nat_tests}
use Rattle.atac_facts.specs.declared.tally.Counted.{Counted}
use Rattle.atac_facts.specs.Facts.{rank}
use Rattle.atac_facts.specs.Tallies.{AscendsFrom, end_from}

pub ascends_push : (low : ℕ) (rows : List Counted) (row : Counted) → AscendsFrom low rows → end_from low rows ≤ rank row.fact → 1 ≤ row.count → AscendsFrom low (rows ++ row ∷ [])
ascends_push low [] row ordered after met = (after, met, tt)
ascends_push low (first ∷ rows) row ordered after met =
    (ordered.0, ordered.1, ascends_push (rank first.fact + 1) rows row ordered.2 after met)

pub end_push : (low : ℕ) (rows : List Counted) (row : Counted) → end_from low (rows ++ row ∷ []) ≡ rank row.fact + 1
end_push low [] row = refl
end_push low (first ∷ rows) row = end_push (rank first.fact + 1) rows row

pub end_is : (low : ℕ) (rows : List Counted) (row : Counted) → slice_get rows (length rows - 1) ≡ Some row → end_from low rows ≡ rank row.fact + 1
end_is low [] row last = absurd cc
end_is low (first ∷ []) row last =
    let same : first ≡ row = cc in
    ap (λ (r : Counted). rank r.fact + 1) same
end_is low (first ∷ second ∷ rows) row last =
    end_is (rank first.fact + 1) (second ∷ rows) row (simp unary_clauses (simp unary_clauses at last))

lt_is_le : (a b : ℕ) → ltb a b ≡ leb (a + 1) b
lt_is_le a b = grind (arith, nat_tests)

pub test_is : (rows : List Counted) (row : Counted) (n : ℕ) → slice_get rows (length rows - 1) ≡ Some row → ltb (rank row.fact) n ≡ leb (end_from 0 rows) n
test_is rows row n last = lt_is_le (rank row.fact) n ∙ ap (λ (e : ℕ). leb e n) (sym (end_is 0 rows row last))

-- the row went in, or nothing changed
pub ascends_after : (ok : Bool) (new old seen : List Counted) (row : Counted) → new ≡ cond ok (old ++ row ∷ []) old → AscendsFrom 0 old → old ≡ seen → end_from 0 seen ≤ rank row.fact → 1 ≤ row.count → AscendsFrom 0 new
ascends_after true new old seen row is ordered same after met = rw is (ascends_push 0 old row ordered (rw same after) met)
ascends_after false new old seen row is ordered same after met = rw is ordered
