-- The least bit of a word, of the words, and from a place on.
use Rattle.std.proofs.Common.{◌≡◌, ◌≢◌, ℕ, suc, ◌+◌, ◌-◌, ◌*◌, ◌/◌, ◌%◌, ◌^◌, ◌<◌, ◌≤◌, Bool, [], ◌∷◌, length, get_or, Option, Some, None, unwrap_or, cond, refl, sym, ap, subst, ◌∙◌, inl, inr, ◌⊎◌, arith}
use Rattle.std.specs.Prelude.{IfSome, IfNone}
use Rattle.std.specs.Int.{bit_at, w64, trailing_zeros}
use Rattle.std.proofs.lemmas.Bool.{cases_lt, ne_eqb, cases_eq}
use Rattle.std.proofs.lemmas.Nat.{shr-shr}
use Rattle.std.proofs.lemmas.List.{get_or_default}
use Rattle.std.proofs.lemmas.Nat.Bits.{bit_at-trailing_zeros, bit_at-zero, bit_at_above}
use Rattle.atac_facts.specs.Facts.{IsKey}
use Rattle.atac_facts.specs.Pairs.{Pairs, get, key_at, IsStrictlySorted, IsAt, IsGapFor}
use Rattle.atac_facts.specs.Sets.{bits_at, AreKeys, HasBit, word_at, IsLeastBit, IsLeastFrom, IsLeast}
use Rattle.atac_facts.proofs.Bits.{bits_there}
use Rattle.atac_facts.proofs.Keys.{below_or}

-- ---- one word

shifted : (bits place i : ℕ) → bit_at (bits / 2 ^ place) i ≡ bit_at bits (place + i)
shifted bits place i = ap (λ (n : ℕ). n % 2) (shr-shr bits place i)

from_place : (bits place i : ℕ) → place ≤ i → bit_at bits i ≡ bit_at (bits / 2 ^ place) (i - place)
from_place bits place i le =
    let e : i ≡ place + (i - place) = omega arith in
    ap (bit_at bits) e ∙ sym (shifted bits place (i - place))

pub no_bit : (bits place : ℕ) → bits / 2 ^ place ≡ 0 → (i : ℕ) → place ≤ i → bit_at bits i ≡ 0
no_bit bits place none i le =
    from_place bits place i le ∙ ap (λ (n : ℕ). bit_at n (i - place)) none ∙ bit_at-zero (i - place)

below_64 : (bits n : ℕ) → bits < 2 ^ 64 → bit_at bits n ≡ 1 → n < 64
below_64 bits n small one =
    elim (cases_lt n 64) [
      | inl lt ↦ lt
      | inr le ↦ let none = bit_at_above bits 64 n small le in absurd (omega arith)
    ]

pub least_bit : (bits place rest : ℕ) → bits < 2 ^ 64 → rest ≡ bits / 2 ^ place → rest < 2 ^ 64 → 0 < rest → IsLeastBit bits place (place + trailing_zeros w64 rest)
least_bit bits place rest small is fits some =
    let t = bit_at-trailing_zeros w64 rest some fits in
    let n = trailing_zeros w64 rest in
    let one : bit_at bits (place + n) ≡ 1 = sym (shifted bits place n) ∙ ap (λ (r : ℕ). bit_at r n) (sym is) ∙ t.1 in
    record {
      small = below_64 bits (place + n) small one;
      set = one;
      from = omega arith;
      least = λ i le lt. from_place bits place i le ∙ ap (λ (r : ℕ). bit_at r (i - place)) (sym is) ∙ t.2 (i - place) (omega arith);
    }

-- ---- all words

further : (word : ℕ × ℕ) (words : Pairs) (key : ℕ) → word.0 ≢ key → (bits_at words key ≡ 0) ⊎ ((i : ℕ) × IsAt words key i) → (bits_at (word ∷ words) key ≡ 0) ⊎ ((i : ℕ) × IsAt (word ∷ words) key i)
further word words key other (inl none) = inl (ap (λ (b : Bool). unwrap_or (cond b (Some word.1) (get words key)) 0) (ne_eqb word.0 key other) ∙ none)
further word words key other (inr found) =
    let within = found.1.in_range in
    inr (suc found.0, record { in_range = omega arith; has_key = found.1.has_key })

-- a key with a bit is that of a word
word_of : (words : Pairs) (key : ℕ) → (bits_at words key ≡ 0) ⊎ ((i : ℕ) × IsAt words key i)
word_of [] key = inl refl
word_of (word ∷ words) key =
    elim (cases_eq word.0 key) [
      | inl same ↦ inr (0, record { in_range = omega arith; has_key = same })
      | inr other ↦ further word words key other (word_of words key)
    ]

module _ (words : Pairs) (sorted : IsStrictlySorted words) where
  pub bits_of : (key i : ℕ) → IsAt words key i → bits_at words key ≡ word_at words i
  bits_of key i is_at =
      let pair = get_or words i (0, 0) in
      bits_there words key i pair sorted is_at (get_or_default words i (0, 0) pair is_at.in_range)

  -- the word of a bit
  bit_word : (key bit : ℕ) → HasBit words key bit → (i : ℕ) × IsAt words key i × (bit_at (word_at words i) bit ≡ 1)
  bit_word key bit has = elim (word_of words key) [
    | inl none ↦ let zero-bit : bit_at (bits_at words key) bit ≡ 0 = ap (λ (n : ℕ). bit_at n bit) none ∙ bit_at-zero bit in let one = has.1 in absurd (omega arith)
    | inr found ↦ (found.0, found.1, sym (ap (λ (n : ℕ). bit_at n bit) (bits_of key found.0 found.1)) ∙ has.1)
  ]

  -- the word of the key itself has the bit
  pub least_here : (key place at bit : ℕ) (pair : ℕ × ℕ) → place < 64 → AreKeys words → IsAt words key at → pair ≡ get_or words at pair → IsLeastBit pair.1 place bit → IsLeast words key place key bit
  least_here key place at bit pair small keys is_at read here =
      let bits : bits_at words key ≡ pair.1 = bits_there words key at pair sorted is_at read in
      let range = here.small in
      let from = here.from in
      record {
        right = subst IsKey is_at.has_key (keys at is_at.in_range);
        there = (here.small, ap (λ (n : ℕ). bit_at n bit) bits ∙ here.set);
        from = omega arith;
        least = λ l b has le. elim (below_or l key) [
          | inl below ↦ let b-small = has.0 in absurd (omega arith)
          | inr rest ↦ elim rest [
            | inl same ↦ elim (cases_lt b bit) [
              | inl under ↦
                  let zero-bit = here.least b (omega arith) under in
                  let one : bit_at pair.1 b ≡ 1 = sym (ap (λ (n : ℕ). bit_at n b) bits) ∙ ap (λ (k : ℕ). bit_at (bits_at words k) b) (sym same) ∙ has.1 in
                  absurd (omega arith)
              | inr over ↦ omega arith
            ]
            | inr above ↦ omega arith
          ]
        ];
      }

  -- no bit before a place counts, and all words from it on come after the start
  pub record StartsAt (key place start : ℕ) : Type 0 where
    pub before : (j : ℕ) → j < start → j < length words → (b : ℕ) → b < 64 → bit_at (word_at words j) b ≡ 1 → key * 64 + place ≤ key_at words j * 64 + b → ⊥
    pub beyond : (j : ℕ) → start ≤ j → j < length words → key * 64 + place ≤ key_at words j * 64

  pub least_later : (key place start k bit i : ℕ) → AreKeys words → StartsAt key place start → IsLeastFrom words start k bit i → IsLeast words key place k bit
  least_later key place start k bit i keys starts found =
      let at : IsAt words k i = record { in_range = found.within; has_key = found.key_is } in
      let bits = bits_of k i at in
      let past = starts.beyond i found.from found.within in
      let key_is = found.key_is in
      record {
        right = subst IsKey found.key_is (keys i found.within);
        there = (found.here.small, ap (λ (n : ℕ). bit_at n bit) bits ∙ found.here.set);
        from = omega arith;
        least = λ l b has le.
            let w = bit_word l b has in
            let j = w.0 in
            let l-is = w.1.has_key in
            let j-in = w.1.in_range in
            elim (cases_lt j start) [
              | inl under ↦ absurd (starts.before j under j-in b has.0 w.2 (subst (λ (n : ℕ). key * 64 + place ≤ n * 64 + b) (sym l-is) le))
              | inr over ↦ elim (below_or j i) [
                | inl earlier ↦ let zero-bit = found.before j over earlier b has.0 in let one = w.2 in absurd (omega arith)
                | inr rest ↦ elim rest [
                  | inl same ↦ elim (cases_lt b bit) [
                    | inl lower ↦
                        let zero-bit = found.here.least b (omega arith) lower in
                        let one : bit_at (word_at words i) b ≡ 1 = ap (λ (n : ℕ). bit_at (word_at words n) b) (sym same) ∙ w.2 in
                        absurd (omega arith)
                    | inr higher ↦ let one-key : key_at words j ≡ key_at words i = ap (key_at words) same in omega arith
                  ]
                  | inr later ↦ let rise = sorted i j later j-in in let small = found.here.small in omega arith
                ]
              ]
            ];
      }

  pub none_later : (key place start : ℕ) → StartsAt key place start → ((j : ℕ) → start ≤ j → j < length words → (b : ℕ) → bit_at (word_at words j) b ≡ 0) → (l b : ℕ) → HasBit words l b → key * 64 + place ≤ l * 64 + b → ⊥
  none_later key place start starts none l b has le =
      let w = bit_word l b has in
      let one = w.2 in
      elim (cases_lt w.0 start) [
        | inl under ↦ starts.before w.0 under w.1.in_range b has.0 w.2 (subst (λ (n : ℕ). key * 64 + place ≤ n * 64 + b) (sym w.1.has_key) le)
        | inr over ↦ let zero-bit = none w.0 over w.1.in_range b in omega arith
      ]

  pub starts_in : (key place at : ℕ) → place < 64 → IsGapFor words key at → StartsAt key place at
  starts_in key place at small gap = record {
    before = λ j lt in_range b b-small one le. let under = gap.smaller_before j lt in omega arith;
    beyond = λ j le in_range. let over = gap.greater_after j le in_range in omega arith;
  }

  pub starts_after : (key place at : ℕ) (pair : ℕ × ℕ) → place < 64 → IsAt words key at → pair ≡ get_or words at pair → ((i : ℕ) → place ≤ i → bit_at pair.1 i ≡ 0) → StartsAt key place (at + 1)
  starts_after key place at pair small is_at read none =
      let here = is_at.has_key in
      let within = is_at.in_range in
      let word : word_at words at ≡ pair.1 = sym (ap (λ (p : ℕ × ℕ). p.1) (read ∙ get_or_default words at pair (0, 0) is_at.in_range)) in
      record {
        before = λ j lt in_range b b-small one le. elim (below_or j at) [
          | inl under ↦ let rise = sorted j at under within in omega arith
          | inr rest ↦ elim rest [
            | inl same ↦
                let one-key : key_at words j ≡ key_at words at = ap (key_at words) same in
                let zero-bit : bit_at pair.1 b ≡ 0 = none b (omega arith) in
                let set : bit_at pair.1 b ≡ 1 = ap (λ (n : ℕ). bit_at n b) (sym word) ∙ ap (λ (n : ℕ). bit_at (word_at words n) b) (sym same) ∙ one in
                omega arith
            | inr over ↦ omega arith
          ]
        ];
        beyond = λ j le in_range. let rise = sorted at j (omega arith) in_range in omega arith;
      }

-- what the search through the later words answers
pub some_later : (words seen : Pairs) (sorted : IsStrictlySorted words) (key place start : ℕ) (r : Option (ℕ × ℕ)) → AreKeys words → seen ≡ words → StartsAt words sorted key place start
    → IfSome r (λ x. (i : ℕ) × IsLeastFrom seen start x.0 x.1 i) → IfSome r (λ x. IsLeast words key place x.0 x.1)
some_later words seen sorted key place start None keys same starts found = tt
some_later words seen sorted key place start (Some x) keys same starts found =
    least_later words sorted key place start x.0 x.1 found.0 keys starts (subst (λ (ws : Pairs). IsLeastFrom ws start x.0 x.1 found.0) same found.1)

pub none_at_all : (words seen : Pairs) (sorted : IsStrictlySorted words) (key place start : ℕ) (r : Option (ℕ × ℕ)) → seen ≡ words → StartsAt words sorted key place start
    → IfNone r ((j : ℕ) → start ≤ j → j < length seen → (b : ℕ) → bit_at (word_at seen j) b ≡ 0) → IfNone r ((l b : ℕ) → HasBit words l b → key * 64 + place ≤ l * 64 + b → ⊥)
none_at_all words seen sorted key place start (Some x) same starts none = tt
none_at_all words seen sorted key place start None same starts none =
    none_later words sorted key place start starts (subst (λ (ws : Pairs). (j : ℕ) → start ≤ j → j < length ws → (b : ℕ) → bit_at (word_at ws j) b ≡ 0) same none)
