-- Bits of words, and sums of what rows hold.
use Rattle.std.proofs.Common.{ℕ, zero, suc, ◌+◌, ◌*◌, ◌/◌, ◌%◌, ◌^◌, ◌<◌, ◌≤◌, ◌≡◌, ◌⊎◌, inl, inr, List, length, get_or, set, refl, ap, sym, subst, ◌∙◌, arith, bit_or, w64, get_or-set_same, get_or-set_other, suc-mul, replicate}
use Rattle.std.proofs.Math.Nat.{mul-le-mul_right}
use Rattle.std.specs.Int.{bit_at}
use Rattle.std.proofs.lemmas.Bool.{cases_lt}
use Rattle.std.proofs.lemmas.List.{get_or-replicate, get_or_past, get_or_default, length-replicate}
use Rattle.std.proofs.lemmas.Nat.Bits.{bit_at_set_same, bit_at_set_other, bit_at-lt, bit_at-zero}
use Rattle.reach_defs.specs.declared.table.Grid.{Grid}
use Rattle.reach_defs.specs.Held.{total, bit_of, held_count}

pub same_or_not : (a b : ℕ) → (a ≡ b) ⊎ (a ≡ b → ⊥)
same_or_not a b = elim (cases_lt a b) [ inl lt ↦ inr (λ e. omega arith) | inr ge ↦ elim (cases_lt b a) [ inl lt ↦ inr (λ e. omega arith) | inr le ↦ inl (omega arith) ] ]

pub word_within : (row i h s w : ℕ) → row < h → i < w → w ≤ s * 64 → row * s + i / 64 < h * s
word_within row i h s w p q r = let j : i / 64 < s = omega arith in omega (arith, j, mul-le-mul_right {m = row + 1} {n = h} s (omega arith))

same_row_le : (q i r j w : ℕ) → i < w → j < w → q * w + i ≡ r * w + j → r ≤ q
same_row_le q i r j w p s e = elim (cases_lt q r) [
  | inl lt ↦ absurd (omega (arith, mul-le-mul_right {m = q + 1} {n = r} w (omega arith)))
  | inr ge ↦ ge
]

same_row : (q i r j w : ℕ) → i < w → j < w → q * w + i ≡ r * w + j → (q ≡ r) × (i ≡ j)
same_row q i r j w p s e =
    let le = same_row_le q i r j w p s e in
    let ge = same_row_le r j q i w s p (sym e) in
    let same : q ≡ r = omega arith in
    let rows : q * w ≡ r * w = ap (λ x. x * w) same in
    (same, omega arith)

same_bit : (q i r j s w : ℕ) → i < w → j < w → w ≤ s * 64 → q * s + i / 64 ≡ r * s + j / 64 → i % 64 ≡ j % 64 → (q ≡ r) × (i ≡ j)
same_bit q i r j s w p t room e m =
    let same = same_row q (i / 64) r (j / 64) s (omega arith) (omega arith) e in
    let word = same.1 in
    (same.0, omega arith)

-- sums that are nothing, the same, one more, and bounded
total_zero : (f : ℕ → ℕ) (n : ℕ) → ((i : ℕ) → f i ≡ 0) → total f n ≡ 0
total_zero f zero h = refl
total_zero f (suc n) h = omega (arith, total_zero f n h, h n)

total_same : (f g : ℕ → ℕ) (n : ℕ) → ((i : ℕ) → i < n → g i ≡ f i) → total g n ≡ total f n
total_same f g zero h = refl
total_same f g (suc n) h = omega (arith, total_same f g n (λ i lt. h i (omega arith)), h n (omega arith))

total_more : (f g : ℕ → ℕ) (n k : ℕ) → k < n → g k ≡ f k + 1 → ((i : ℕ) → i < n → (i ≡ k → ⊥) → g i ≡ f i) → total g n ≡ total f n + 1
total_more f g zero k lt more same = absurd (omega arith)
total_more f g (suc n) k lt more same = elim (same_or_not n k) [
  | inl e ↦ (let below = total_same f g n (λ i l. same i (omega arith) (λ x. omega arith)) in let here : g n ≡ f n + 1 = subst (λ x. g x ≡ f x + 1) (sym e) more in omega arith)
  | inr ne ↦ omega (arith, total_more f g n k (omega arith) more (λ i l d. same i (omega arith) d), same n (omega arith) ne)
]

total_bound : (f : ℕ → ℕ) (n b : ℕ) → ((i : ℕ) → f i ≤ b) → total f n ≤ n * b
total_bound f zero b h = omega arith
total_bound f (suc n) b h = omega (arith, total_bound f n b h, h n, suc-mul n b)

pub held_bound : (g : Grid) → held_count g ≤ g.height * g.width
held_bound g = total_bound (λ row. total (bit_of g row) g.width) g.height g.width (λ row. omega (arith, total_bound (bit_of g row) g.width 1 (λ i. omega (arith, bit_at-lt (get_or g.words.items (row * g.stride + i / 64) 0) (i % 64)))))

-- the bit of a row and the index of a mark, in rows of s words
abbrev pub bit_in : List ℕ → ℕ → ℕ → ℕ → ℕ
bit_in words s row i = bit_at (get_or words (row * s + i / 64) 0) (i % 64)

pub nothing_held : (n h w s : ℕ) → total (λ row. total (bit_in (replicate n 0) s row) w) h ≡ 0
nothing_held n h w s = total_zero (λ row. total (bit_in (replicate n 0) s row) w) h (λ row. total_zero (bit_in (replicate n 0) s row) w (λ i. no_bit (row * s + i / 64) (i % 64)))
  where
    no_bit : (k j : ℕ) → bit_at (get_or (replicate n 0) k 0) j ≡ 0
    no_bit k j = elim (cases_lt k n) [
      | inl lt ↦ ap (λ x. bit_at x j) (get_or-replicate n k 0 0 lt) ∙ bit_at-zero j
      | inr ge ↦ ap (λ x. bit_at x j) (get_or_past (replicate n 0) k 0 (omega (arith, length-replicate {A = ℕ} n 0))) ∙ bit_at-zero j
    ]

-- the words after a bit of a word is set
abbrev pub with_bit : List ℕ → ℕ → ℕ → ℕ → ℕ → List ℕ
with_bit words word s row i = set words (row * s + i / 64) (bit_or word (1 * 2 ^ (i % 64) % 2 ^ 64))

module _ (words : List ℕ) (word h w s row mark : ℕ) (read : word ≡ get_or words (row * s + mark / 64) word) (size : length words ≡ h * s) (room : w ≤ s * 64) (r : row < h) (m : mark < w) where
  at_word : row * s + mark / 64 < length words
  at_word = let lt = word_within row mark h s w r m room in omega arith

  is_word : word ≡ get_or words (row * s + mark / 64) 0
  is_word = read ∙ get_or_default words (row * s + mark / 64) word 0 at_word

  pub bit_here : bit_in (with_bit words word s row mark) s row mark ≡ 1
  bit_here = (let lt = at_word in rw get_or-set_same (bit_at_set_same w64 word (mark % 64) (omega arith)))

  other_word : (n j : ℕ) → (n ≡ row * s + mark / 64 → ⊥) → bit_at (get_or (with_bit words word s row mark) n 0) j ≡ bit_at (get_or words n 0) j
  other_word n j ne = (rw get_or-set_other refl)

  bit_else : (q i : ℕ) → i < w → ((q ≡ row) → (i ≡ mark) → ⊥) → bit_in (with_bit words word s row mark) s q i ≡ bit_in words s q i
  bit_else q i lt ne = elim (same_or_not (q * s + i / 64) (row * s + mark / 64)) [
    | inr apart ↦ other_word (q * s + i / 64) (i % 64) apart
    | inl e ↦ subst (λ n. bit_at (get_or (with_bit words word s row mark) n 0) (i % 64) ≡ bit_at (get_or words n 0) (i % 64)) (sym e) (let le = at_word in rw get_or-set_same (bit_at_set_other w64 word (mark % 64) (omega arith) (i % 64) (λ d. let same = same_bit q i row mark s w lt m room e d in ne same.0 same.1) ∙ ap (λ n. bit_at n (i % 64)) is_word))
  ]

  pub bit_kept : (q i : ℕ) → bit_in words s q i ≡ 1 → bit_in (with_bit words word s row mark) s q i ≡ 1
  bit_kept q i is = elim (same_or_not (q * s + i / 64) (row * s + mark / 64)) [
    | inr apart ↦ other_word (q * s + i / 64) (i % 64) apart ∙ is
    | inl e ↦ subst (λ n. bit_at (get_or words n 0) (i % 64) ≡ 1 → bit_at (get_or (with_bit words word s row mark) n 0) (i % 64) ≡ 1) (sym e) (in_word (i % 64)) is
  ]
    where
      in_word : (j : ℕ) → bit_at (get_or words (row * s + mark / 64) 0) j ≡ 1 → bit_at (get_or (with_bit words word s row mark) (row * s + mark / 64) 0) j ≡ 1
      in_word j is = elim (same_or_not j (mark % 64)) [
        | inl e ↦ subst (λ j. bit_at (get_or (with_bit words word s row mark) (row * s + mark / 64) 0) j ≡ 1) (sym e) bit_here
        | inr ne ↦ (let lt = at_word in rw get_or-set_same (bit_at_set_other w64 word (mark % 64) (omega arith) j ne ∙ ap (λ n. bit_at n j) is_word ∙ is))
      ]

  pub bit_only : (q i : ℕ) → i < w → bit_in (with_bit words word s row mark) s q i ≡ 1 → (bit_in words s q i ≡ 1) ⊎ ((q ≡ row) × (i ≡ mark))
  bit_only q i lt is = elim (same_or_not q row) [
    | inr ne ↦ inl (sym (bit_else q i lt (λ e f. ne e)) ∙ is)
    | inl e ↦ elim (same_or_not i mark) [ inl f ↦ inr (e, f) | inr ne ↦ inl (sym (bit_else q i lt (λ x f. ne f)) ∙ is) ]
  ]

  pub bits_more : (bit_in words s row mark ≡ 1 → ⊥) → total (λ q. total (bit_in (with_bit words word s row mark) s q) w) h ≡ total (λ q. total (bit_in words s q) w) h + 1
  bits_more none = total_more (λ q. total (bit_in words s q) w) (λ q. total (bit_in (with_bit words word s row mark) s q) w) h row r
      (total_more (bit_in words s row) (bit_in (with_bit words word s row mark) s row) w mark m new (λ i lt ne. bit_else row i lt (λ e f. ne f)))
      (λ q lt ne. total_same (bit_in words s q) (bit_in (with_bit words word s row mark) s q) w (λ i l. bit_else q i l (λ e f. ne e)))
    where
      new : bit_in (with_bit words word s row mark) s row mark ≡ bit_in words s row mark + 1
      new = let lt = bit_at-lt (get_or words (row * s + mark / 64) 0) (mark % 64) in elim (same_or_not (bit_in words s row mark) 1) [ inl e ↦ absurd (none e) | inr ne ↦ omega (arith, bit_here) ]
