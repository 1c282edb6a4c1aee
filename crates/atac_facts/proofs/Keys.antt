-- The keys of words are keys of facts.
use Rattle.std.proofs.Common.{◌≡◌, ℕ, ◌+◌, ◌-◌, ◌<◌, ◌≤◌, true, length, set, sym, ap, subst, ◌∙◌, inl, inr, ◌⊎◌, arith}
use Rattle.std.specs.List.{insert}
use Rattle.std.proofs.lemmas.Bool.{cases_eq, cases_lt}
use Rattle.std.proofs.lemmas.List.{get_or-set_same, get_or-set_other, length-set}
use Rattle.std.proofs.lemmas.List.Edits.{length-insert, get_or-insert_below, get_or-insert_at, get_or-insert_above}
use Rattle.atac_facts.specs.declared.fact.Fact.{Fact}
use Rattle.atac_facts.specs.declared.fact.Fact.TheVariants.{Block, Outcome, Pair, PUse}
use Rattle.atac_facts.specs.Facts.{key_of, fits, IsKey}
use Rattle.atac_facts.specs.Pairs.{Pairs, key_at, IsAt}
use Rattle.atac_facts.specs.Sets.{AreKeys}
use Rattle.atac_facts.proofs.Bits.{InRange, in_range}

pub below_or : (a b : ℕ) → (a < b) ⊎ ((a ≡ b) ⊎ (b < a))
below_or a b = elim (cases_lt a b) [
  | inl lt ↦ inl lt
  | inr le ↦ elim (cases_eq a b) [ inl same ↦ inr (inl same) | inr other ↦ inr (inr (omega arith)) ]
]

right_in : (f : Fact) → InRange f → IsKey (key_of f)
right_in (Block k) r = (λ h. omega arith, λ h. omega arith, λ h. omega arith, omega arith)
right_in (Outcome k o) r = (λ h. omega arith, λ h. omega arith, λ h. omega arith, omega arith)
right_in (Pair d u) r = (λ h. omega arith, λ h. omega arith, λ h. omega arith, omega arith)
right_in (PUse d u o) r = (λ h. omega arith, λ h. omega arith, λ h. omega arith, omega arith)

pub key_right : (f : Fact) → fits f ≡ true → IsKey (key_of f)
key_right f fit = right_in f (in_range f fit)

pub keys_set : (words : Pairs) (key at v : ℕ) → IsAt words key at → AreKeys words → AreKeys (set words at (key, v))
keys_set words key at v is_at keys i lt =
    let len = length-set words at (key, v) in
    let within : i < length words = omega arith in
    elim (cases_eq i at) [
      | inl same ↦
          let here : key_at (set words at (key, v)) i ≡ key = ap (key_at (set words at (key, v))) same ∙ ap (λ (p : ℕ × ℕ). p.0) (get_or-set_same words at (key, v) (0, 0) is_at.in_range) in
          subst IsKey (is_at.has_key ∙ sym here) (keys at is_at.in_range)
      | inr other ↦
          let there : key_at (set words at (key, v)) i ≡ key_at words i = ap (λ (p : ℕ × ℕ). p.0) (get_or-set_other words at i (key, v) (0, 0) other) in
          subst IsKey (sym there) (keys i within)
    ]

pub keys_insert : (words : Pairs) (key at v : ℕ) → at ≤ length words → IsKey key → AreKeys words → AreKeys (insert words at (key, v))
keys_insert words key at v le right keys i lt =
    let len = length-insert words at (key, v) le in
    let first = λ (p : ℕ × ℕ). p.0 in
    elim (below_or i at) [
      | inl below ↦ subst IsKey (sym (ap first (get_or-insert_below words at (key, v) (0, 0) i below le))) (keys i (omega arith))
      | inr rest ↦ elim rest [
        | inl same ↦ subst IsKey (sym (ap (key_at (insert words at (key, v))) same ∙ ap first (get_or-insert_at words at (key, v) (0, 0) le))) right
        | inr above ↦
            let e : i ≡ i - 1 + 1 = omega arith in
            subst IsKey (sym (ap (key_at (insert words at (key, v))) e ∙ ap first (get_or-insert_above words at (key, v) (0, 0) (i - 1) (omega arith) le))) (keys (i - 1) (omega arith))
      ]
    ]
