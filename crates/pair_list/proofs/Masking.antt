-- Words with a bit for each of 64 marks.
use Rattle.std.proofs.Common.{ℕ, ◌+◌, ◌<◌, ◌≤◌, ◌≡◌, ◌⊎◌, ◌↔◌, inl, inr, List, Some, Bool, true, sym, subst, ◌∙◌, arith, ◌*◌, ◌%◌, ◌^◌, bit_or, w64}
use Rattle.std.specs.Prelude.{slice_get}
use Rattle.std.specs.Int.{bit_at}
use Rattle.std.proofs.lemmas.Bool.{cases_lt}
use Rattle.std.proofs.lemmas.Nat.Bits.{bit_at-zero, bit_at_set_same, bit_at_set_other}
use Rattle.flow_marks.proofs.Passing.{same_or_not}
use Rattle.pair_list.specs.declared.marks.Mark.{Mark}
use Rattle.pair_list.specs.Masks.{MarkAt, IsMask}

pub mask_start : (marks : List Mark) (start : ℕ) (P : Mark → Type 0) (i : ℕ) → (bit_at 0 i ≡ 1) ↔ ((i < 0) × MarkAt marks (start + i) P)
mask_start marks start P i = ((λ e. absurd (let z = bit_at-zero i in omega arith)), (λ h. absurd (let lt = h.0 in omega arith)))

pub mask_more : (marks : List Mark) (start : ℕ) (P : Mark → Type 0) (n at old new : ℕ) (set : Bool) → at ≡ start + n → ((i : ℕ) → (bit_at old i ≡ 1) ↔ ((i < n) × MarkAt marks (start + i) P)) → ((set ≡ true) ↔ MarkAt marks at P) → ((j : ℕ) → (bit_at new j ≡ 1) ↔ ((bit_at old j ≡ 1) ⊎ ((j ≡ n) × (set ≡ true)))) → (i : ℕ) → (bit_at new i ≡ 1) ↔ ((i < n + 1) × MarkAt marks (start + i) P)
mask_more marks start P n at old new set e is test bits i = (
  (λ h. elim ((bits i).0 h) [
    | inl was ↦ (let p = (is i).0 was in let lt = p.0 in (omega arith, p.1))
    | inr now ↦ (let same = now.0 in (omega arith, subst (λ k. MarkAt marks k P) (omega arith) (test.0 now.1)))
  ]),
  (λ h. elim (cases_lt i n) [
    | inl less ↦ (bits i).1 (inl ((is i).1 (less, h.1)))
    | inr ge ↦ (let lt = h.0 in let same : i ≡ n = omega arith in (bits i).1 (inr (same, test.1 (subst (λ k. MarkAt marks k P) (omega arith) h.1))))
  ]),
)

pub bit_set : (word i j : ℕ) (set : Bool) → i < 64 → set ≡ true → (bit_at (bit_or word (1 * 2 ^ i % 2 ^ 64)) j ≡ 1) ↔ ((bit_at word j ≡ 1) ⊎ ((j ≡ i) × (set ≡ true)))
bit_set word i j set lt on = elim (same_or_not j i) [
  | inl e ↦ ((λ h. inr (e, on)), (λ h. subst (λ k. bit_at (bit_or word (1 * 2 ^ i % 2 ^ 64)) k ≡ 1) (sym e) (bit_at_set_same w64 word i lt)))
  | inr ne ↦ ((λ h. inl (sym (bit_at_set_other w64 word i lt j ne) ∙ h)), (λ h. elim h [ inl was ↦ bit_at_set_other w64 word i lt j ne ∙ was | inr now ↦ absurd (ne now.0) ]))
]

-- no mark, where P holds of none
pub mask_none : (marks : List Mark) (start : ℕ) (P : Mark → Type 0) → ((m : Mark) → P m → ⊥) → IsMask marks start P 0
mask_none marks start P none i = ((λ e. absurd (let z = bit_at-zero i in omega arith)), (λ h. absurd (none h.1.0 h.1.2)))

-- and the same where two say the same of each mark
pub mask_same : (marks : List Mark) (start : ℕ) (P Q : Mark → Type 0) (word : ℕ) → ((m : Mark) → P m ↔ Q m) → IsMask marks start P word → IsMask marks start Q word
mask_same marks start P Q word same is i = (
  (λ e. let h = (is i).0 e in (h.0, (h.1.0, h.1.1, (same h.1.0).0 h.1.2))),
  (λ h. (is i).1 (h.0, (h.1.0, h.1.1, (same h.1.0).1 h.1.2))),
)

-- a definition outside of those that all marks are of has none
pub mask_far : (marks : List Mark) (start first d : ℕ) → ((i : ℕ) (m : Mark) → slice_get marks i ≡ Some m → (first ≤ m.def) × (m.def < first + 64)) → (d < first) ⊎ (first + 64 ≤ d) → IsMask marks start (λ m. d ≡ m.def) 0
mask_far marks start first d within far i = (
  (λ e. absurd (let z = bit_at-zero i in omega arith)),
  (λ h. absurd (outside h.1.0 (within (start + i) h.1.0 h.1.1) h.1.2 far)),
)
  where
    outside : (m : Mark) → (first ≤ m.def) × (m.def < first + 64) → d ≡ m.def → (d < first) ⊎ (first + 64 ≤ d) → ⊥
    outside m b same (inl less) = let ge = b.0 in omega arith
    outside m b same (inr more) = let lt = b.1 in omega arith
