-- Where a key is among sorted pairs, and a pair that is set or put in there.
use Rattle.std.proofs.Common.{◌≡◌, ◌≢◌, ℕ, zero, suc, ◌+◌, ◌-◌, ◌<◌, ◌≤◌, Bool, true, false, cond, eqb, [], ◌∷◌, ◌++◌, length, take, drop, get_or, set, Option, Some, None, Result, Ok, Err, IfOk, IfErr, refl, sym, ap, ◌∙◌, inl, inr, ◌⊎◌, arith}
use Rattle.std.specs.List.{insert}
use Rattle.std.specs.List.Sorted.{IsSearchInRange, IsBinarySearchResult, IsNonDecreasingBy}
use Rattle.std.specs.Ordering.{nat_cmp, ordering_index}
use Rattle.std.proofs.lemmas.Cmp.{ranked}
use Rattle.std.proofs.lemmas.Bool.{cases_eq, cases_lt, eq-eqb, ne_eqb}
use Rattle.std.proofs.lemmas.Bool.Decides.{nat_tests}
use Rattle.std.proofs.lemmas.List.{get_or-set_same, get_or-set_other, length-set}
use Rattle.std.proofs.lemmas.List.Edits.{length-insert, get_or-insert_below, get_or-insert_at, get_or-insert_above}
use Rattle.std.proofs.lemmas.List.Sorted.{IsNonDecreasingBy-from_default}
use Rattle.atac_facts.specs.Pairs.{Pairs, key_at, get, IsStrictlySorted, IsAt, IsGapFor, SetsOnly}

-- ---- looking for a key

chosen : (b : Bool) (x y : Option ℕ) → b ≡ true → cond b x y ≡ x
chosen true x y e = refl
chosen false x y e = absurd cc

passed : (b : Bool) (x y : Option ℕ) → b ≡ false → cond b x y ≡ y
passed true x y e = absurd cc
passed false x y e = refl

get_first : (words : Pairs) (key at : ℕ) → at < length words → key_at words at ≡ key → ((i : ℕ) → i < at → key_at words i ≢ key) → get words key ≡ Some (get_or words at (0, 0)).1
get_first [] key at lt here before = absurd (omega arith)
get_first (word ∷ words) key zero lt here before = chosen (eqb word.0 key) _ _ (eq-eqb word.0 key here)
get_first (word ∷ words) key (suc at) lt here before =
    passed (eqb word.0 key) _ _ (ne_eqb word.0 key (before 0 (omega arith)))
    ∙ get_first words key at (omega arith) here (λ i less. before (suc i) (omega arith))

get_none : (words : Pairs) (key : ℕ) → ((i : ℕ) → i < length words → key_at words i ≢ key) → get words key ≡ None
get_none [] key others = refl
get_none (word ∷ words) key others =
    passed (eqb word.0 key) _ _ (ne_eqb word.0 key (others 0 (omega arith)))
    ∙ get_none words key (λ i less. others (suc i) (omega arith))

pub get_at : (words : Pairs) → IsStrictlySorted words → (key at : ℕ) → IsAt words key at → get words key ≡ Some (get_or words at (0, 0)).1
get_at words sorted key at is_at =
    get_first words key at is_at.in_range is_at.has_key (λ i less same. let lt = sorted i at less is_at.in_range in let here = is_at.has_key in absurd (omega arith))

pub get_in_gap : (words : Pairs) (key at : ℕ) → IsGapFor words key at → get words key ≡ None
get_in_gap words key at gap =
    get_none words key (λ i less same. elim (cases_lt i at) [
      | inl before ↦ (let lt = gap.smaller_before i before in absurd (omega arith))
      | inr behind ↦ (let lt = gap.greater_after i behind less in absurd (omega arith))
    ])

-- ---- a pair that is set

set_other : (words : Pairs) (key at value other : ℕ) → at < length words → key_at words at ≡ key → other ≢ key → get (set words at (key, value)) other ≡ get words other
set_other [] key at value other lt here ne = absurd (omega arith)
set_other (word ∷ words) key zero value other lt here ne =
    passed (eqb key other) _ _ (ne_eqb key other (λ same. ne (sym same)))
    ∙ sym (passed (eqb word.0 other) _ _ (ne_eqb word.0 other (λ same. ne (sym same ∙ here))))
set_other (word ∷ words) key (suc at) value other lt here ne =
    ap (λ (o : Option ℕ). cond (eqb word.0 other) (Some word.1) o) (set_other words key at value other (omega arith) here ne)

module _ (words : Pairs) (sorted : IsStrictlySorted words) (key at : ℕ) (is_at : IsAt words key at) (value : ℕ) where
  key_set : (i : ℕ) → key_at (set words at (key, value)) i ≡ key_at words i
  key_set i = elim (cases_eq i at) [
    | inl same ↦ ap (key_at (set words at (key, value))) same ∙ ap (λ (p : ℕ × ℕ). p.0) (get_or-set_same words at (key, value) (0, 0) is_at.in_range) ∙ sym is_at.has_key ∙ ap (key_at words) (sym same)
    | inr other ↦ ap (λ (p : ℕ × ℕ). p.0) (get_or-set_other words at i (key, value) (0, 0) other)
  ]

  pub sorted_set_at : IsStrictlySorted (set words at (key, value))
  sorted_set_at i j lt within =
      let a = key_set i in
      let b = key_set j in
      let n = length-set words at (key, value) in
      let less = sorted i j lt (omega arith) in
      omega arith

  pub sets_only_set_at : SetsOnly words (set words at (key, value)) key value
  sets_only_set_at = record {
    this_key =
        let n = length-set words at (key, value) in
        let within : at < length (set words at (key, value)) = (let lt = is_at.in_range in omega arith) in
        get_first (set words at (key, value)) key at within (key_set at ∙ is_at.has_key)
        (λ i less same. let a = key_set i in let lt = sorted i at less is_at.in_range in let here = is_at.has_key in absurd (omega arith))
        ∙ ap (λ (p : ℕ × ℕ). Some p.1) (get_or-set_same words at (key, value) (0, 0) is_at.in_range);
    other_keys = λ other ne. set_other words key at value other is_at.in_range is_at.has_key ne;
  }

pub sorted_set : (words : Pairs) → IsStrictlySorted words → (key at : ℕ) → IsAt words key at → (value : ℕ) → IsStrictlySorted (set words at (key, value))
sorted_set words sorted key at is_at value = sorted_set_at words sorted key at is_at value

pub sets_only_set : (words : Pairs) → IsStrictlySorted words → (key at : ℕ) → IsAt words key at → (value : ℕ) → SetsOnly words (set words at (key, value)) key value
sets_only_set words sorted key at is_at value = sets_only_set_at words sorted key at is_at value

-- ---- a pair that is put in

put_other : (words : Pairs) (key at value other : ℕ) → other ≢ key → get (take at words ++ (key, value) ∷ drop at words) other ≡ get words other
put_other words key zero value other ne = passed (eqb key other) _ _ (ne_eqb key other (λ same. ne (sym same)))
put_other [] key (suc at) value other ne = passed (eqb key other) _ _ (ne_eqb key other (λ same. ne (sym same)))
put_other (word ∷ words) key (suc at) value other ne =
    ap (λ (o : Option ℕ). cond (eqb word.0 other) (Some word.1) o) (put_other words key at value other ne)

module _ (words : Pairs) (key at : ℕ) (gap : IsGapFor words key at) (value : ℕ) where
  key_below : (i : ℕ) → i < at → key_at (insert words at (key, value)) i ≡ key_at words i
  key_below i lt = ap (λ (p : ℕ × ℕ). p.0) (get_or-insert_below words at (key, value) (0, 0) i lt gap.in_range)

  key_here : key_at (insert words at (key, value)) at ≡ key
  key_here = ap (λ (p : ℕ × ℕ). p.0) (get_or-insert_at words at (key, value) (0, 0) gap.in_range)

  key_above : (i : ℕ) → at < i → key_at (insert words at (key, value)) i ≡ key_at words (i - 1)
  key_above i lt =
      let e : i ≡ i - 1 + 1 = omega arith in
      ap (key_at (insert words at (key, value))) e ∙ ap (λ (p : ℕ × ℕ). p.0) (get_or-insert_above words at (key, value) (0, 0) (i - 1) (omega arith) gap.in_range)

  put_sorted : IsStrictlySorted words → (i j : ℕ) → i < j → j < length words + 1 → (i < at) ⊎ ((i ≡ at) ⊎ (at < i)) → (j < at) ⊎ ((j ≡ at) ⊎ (at < j)) → key_at (insert words at (key, value)) i < key_at (insert words at (key, value)) j
  put_sorted sorted i j lt within (inl a) (inl b) = let x = key_below i a in let y = key_below j b in let le = gap.in_range in let less = sorted i j lt (omega arith) in omega arith
  put_sorted sorted i j lt within (inl a) (inr (inl b)) = let x = key_below i a in let y = ap (key_at (insert words at (key, value))) b ∙ key_here in let less = gap.smaller_before i a in omega arith
  put_sorted sorted i j lt within (inl a) (inr (inr b)) =
      let x = key_below i a in
      let y = key_above j b in
      let before = gap.smaller_before i a in
      let behind = gap.greater_after (j - 1) (omega arith) (omega arith) in
      omega arith
  put_sorted sorted i j lt within (inr (inl a)) (inl b) = absurd (omega arith)
  put_sorted sorted i j lt within (inr (inl a)) (inr (inl b)) = absurd (omega arith)
  put_sorted sorted i j lt within (inr (inl a)) (inr (inr b)) =
      let x = ap (key_at (insert words at (key, value))) a ∙ key_here in
      let y = key_above j b in
      let behind = gap.greater_after (j - 1) (omega arith) (omega arith) in
      omega arith
  put_sorted sorted i j lt within (inr (inr a)) (inl b) = absurd (omega arith)
  put_sorted sorted i j lt within (inr (inr a)) (inr (inl b)) = absurd (omega arith)
  put_sorted sorted i j lt within (inr (inr a)) (inr (inr b)) = let x = key_above i a in let y = key_above j b in let less = sorted (i - 1) (j - 1) (omega arith) (omega arith) in omega arith

  beside : (i : ℕ) → (i < at) ⊎ ((i ≡ at) ⊎ (at < i))
  beside i = elim (cases_lt i at) [
    | inl lt ↦ inl lt
    | inr le ↦ elim (cases_eq i at) [ inl same ↦ inr (inl same) | inr other ↦ inr (inr (omega arith)) ]
  ]

  pub sorted_put : IsStrictlySorted words → IsStrictlySorted (insert words at (key, value))
  sorted_put sorted i j lt within =
      let n = length-insert words at (key, value) gap.in_range in
      put_sorted sorted i j lt (omega arith) (beside i) (beside j)

  pub sets_only_put : SetsOnly words (insert words at (key, value)) key value
  sets_only_put = record {
    this_key =
        let n = length-insert words at (key, value) gap.in_range in
        let le = gap.in_range in
        get_first (insert words at (key, value)) key at (omega arith) key_here
        (λ i less same. let a = key_below i less in let lt = gap.smaller_before i less in absurd (omega arith))
        ∙ ap (λ (p : ℕ × ℕ). Some p.1) (get_or-insert_at words at (key, value) (0, 0) gap.in_range);
    other_keys = λ other ne. put_other words key at value other ne;
  }

pub sorted_insert : (words : Pairs) (key at : ℕ) → IsGapFor words key at → (value : ℕ) → IsStrictlySorted words → IsStrictlySorted (insert words at (key, value))
sorted_insert words key at gap value sorted = sorted_put words key at gap value sorted

pub sets_only_insert : (words : Pairs) (key at : ℕ) → IsGapFor words key at → (value : ℕ) → SetsOnly words (insert words at (key, value)) key value
sets_only_insert words key at gap value = sets_only_put words key at gap value

-- ---- what a search by halves finds

module _ (words : Pairs) (sorted : IsStrictlySorted words) (k : ℕ) where
  comparisons_rise : IsNonDecreasingBy (λ word. ordering_index (nat_cmp word.0 k)) words
  comparisons_rise = IsNonDecreasingBy-from_default (λ word. ordering_index (nat_cmp word.0 k)) words (0, 0) (λ i j le in_range.
      let keys_rise : key_at words i ≤ key_at words j = grind (arith, sorted i j, λ (same : i ≡ j). ap (key_at words) same) in
      grind (arith, nat_tests))

  pub searched : (r : Result ℕ ℕ) → IsSearchInRange r (length words) → IsBinarySearchResult (λ word. nat_cmp word.0 k) words r → record { found : IfOk r (IsAt words k); absent : IfErr r (IsGapFor words k) }
  searched (Ok at) in_range equal = record { found = record { in_range = in_range; has_key = ranked _ k _ (sym (equal (0, 0))) }; absent = tt }
  searched (Err at) in_range parted = record {
    found = tt;
    absent = record {
      in_range = in_range;
      smaller_before = λ j lt. ranked _ k _ (sym ((parted comparisons_rise).0 j (0, 0) (omega arith) lt));
      greater_after = λ j le lt. ranked _ k _ (sym ((parted comparisons_rise).1 j (0, 0) le lt));
    };
  }
