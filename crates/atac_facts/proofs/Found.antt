-- What a search among the rows finds.
use Rattle.std.proofs.Common.{◌≡◌, ℕ, ◌<◌, ◌≤◌, List, length, get_or, Option, unwrap_or, Result, Ok, Err, IfOk, IfErr, sym, ap, ◌∙◌, arith}
use Rattle.std.specs.List.Sorted.{IsSearchInRange, IsBinarySearchResult, IsNonDecreasingBy}
use Rattle.std.specs.Ordering.{nat_cmp, ordering_index}
use Rattle.std.proofs.lemmas.Cmp.{ranked}
use Rattle.std.proofs.lemmas.List.{get_or-map, length-map}
use Rattle.std.proofs.lemmas.List.Sorted.{IsNonDecreasingBy-from_default}
use Rattle.std.proofs.lemmas.Bool.Decides.{nat_tests}
use Rattle.atac_facts.specs.declared.fact.Fact.{Fact}
use Rattle.atac_facts.specs.declared.fact.Fact.TheVariants.{Block}
use Rattle.atac_facts.specs.declared.tally.Counted.{Counted}
use Rattle.atac_facts.specs.Facts.{rank}
use Rattle.atac_facts.specs.Pairs.{key_at, IsStrictlySorted, IsAt, IsGapFor}
use Rattle.atac_facts.specs.Tallies.{AscendsFrom, count_of, pairs_of}
use Rattle.atac_facts.proofs.Place.{get_at, get_in_gap}
use Rattle.atac_facts.proofs.Counting.{count_is, sorted_rows}

abbrev no_row : Counted
no_row = record { fact = Block 0; count = 0 }

module _ (rows : List Counted) (sorted : IsStrictlySorted (pairs_of rows)) (k : ℕ) where
  len_pairs : length (pairs_of rows) ≡ length rows
  len_pairs = length-map rows (λ row. (rank row.fact, row.count))

  key_is : (i : ℕ) → i < length rows → key_at (pairs_of rows) i ≡ rank (get_or rows i no_row).fact
  key_is i lt = ap (λ (p : ℕ × ℕ). p.0) (get_or-map (λ row. (rank row.fact, row.count)) rows i no_row (0, 0) lt)

  comparisons_rise : IsNonDecreasingBy (λ row. ordering_index (nat_cmp (rank row.fact) k)) rows
  comparisons_rise = IsNonDecreasingBy-from_default (λ row. ordering_index (nat_cmp (rank row.fact) k)) rows no_row (λ i j le in_range.
      let ki = key_is i (omega arith) in
      let kj = key_is j in_range in
      let len = len_pairs in
      let keys_rise : rank (get_or rows i no_row).fact ≤ rank (get_or rows j no_row).fact = grind (arith, sorted i j, λ (same : i ≡ j). ap (λ (n : ℕ). rank (get_or rows n no_row).fact) same) in
      grind (arith, nat_tests))

  pub searched : (r : Result ℕ ℕ) → IsSearchInRange r (length rows) → IsBinarySearchResult (λ row. nat_cmp (rank row.fact) k) rows r → record { found : IfOk r (IsAt (pairs_of rows) k); absent : IfErr r (IsGapFor (pairs_of rows) k) }
  searched (Ok at) in_range equal = record { found = record { in_range = rw len_pairs in_range; has_key = key_is at in_range ∙ ranked _ k _ (sym (equal no_row)) }; absent = tt }
  searched (Err at) in_range parted = record {
    found = tt;
    absent = record {
      in_range = rw len_pairs in_range;
      smaller_before = λ j lt. rw (key_is j (omega arith)) (ranked _ k _ (sym ((parted comparisons_rise).0 j no_row (omega arith) lt)));
      greater_after = λ j le lt. let below : j < length rows = rw (← len_pairs) lt in rw (key_is j below) (ranked _ k _ (sym ((parted comparisons_rise).1 j no_row le below)));
    };
  }

len_below : (rows : List Counted) (at : ℕ) → at < length (pairs_of rows) → at < length rows
len_below rows at lt =
    let len : length (pairs_of rows) ≡ length rows = length-map rows (λ row. (rank row.fact, row.count)) in omega arith

pub count_at : (rows : List Counted) (f : Fact) (at : ℕ) (row : Counted) → AscendsFrom 0 rows → IsAt (pairs_of rows) (rank f) at → row ≡ get_or rows at row → row.count ≡ count_of rows f
count_at rows f at row ordered is_at read =
    let below : at < length rows = len_below rows at is_at.in_range in
    let value = get_at (pairs_of rows) (sorted_rows 0 rows ordered) (rank f) at is_at in
    let here : get_or (pairs_of rows) at (0, 0) ≡ (rank row.fact, row.count) =
    get_or-map (λ row. (rank row.fact, row.count)) rows at row (0, 0) below ∙ ap (λ (r : Counted). (rank r.fact, r.count)) (sym read) in
    sym (count_is rows f ∙ ap (λ (o : Option ℕ). unwrap_or o 0) value ∙ ap (λ (p : ℕ × ℕ). p.1) here)

pub count_none : (rows : List Counted) (f : Fact) (at : ℕ) → IsGapFor (pairs_of rows) (rank f) at → 0 ≡ count_of rows f
count_none rows f at gap = sym (count_is rows f ∙ ap (λ (o : Option ℕ). unwrap_or o 0) (get_in_gap (pairs_of rows) (rank f) at gap))
