-- The next fact of a set.
use Rattle.std.proofs.Common.{◌≡◌, ℕ, ◌+◌, ◌*◌, ◌≤◌, true, eqb, Option, Some, None, ap, ◌∙◌, arith}
use Rattle.std.specs.Prelude.{IsTrue}
use Rattle.std.specs.Int.{bit_at}
use Rattle.std.proofs.lemmas.Bool.{eqb-true, eq-eqb}
use Rattle.atac_facts.specs.declared.fact.Fact.{Fact}
use Rattle.atac_facts.specs.Facts.{rank, key_of, place_of, fits}
use Rattle.atac_facts.specs.Sets.{FactSet, bits_at, holds, HasBit, IsLeast, IsAfter, IsNext, start_of}
use Rattle.atac_facts.proofs.Bits.{small_place, both_and, and_both}
use Rattle.atac_facts.proofs.Counting.{rank_is}

starts : (last : Option Fact) (f : Fact) → IsAfter last f → start_of last ≤ rank f
starts None f after = omega arith
starts (Some l) f after = omega arith

comes_after : (last : Option Fact) (f : Fact) → start_of last ≤ rank f → IsAfter last f
comes_after None f from = tt
comes_after (Some l) f from = omega arith

bit_of : (s : FactSet) (f : Fact) → IsTrue (holds s f) → HasBit s.words (key_of f) (place_of f)
bit_of s f held =
    let p = and_both (fits f) (eqb (bit_at (bits_at s.words (key_of f)) (place_of f)) 1) held in
    (small_place f, eqb-true _ _ p.1)

pub is_next : (s : FactSet) (last : Option Fact) (key place k bit : ℕ) (f : Fact) → key * 64 + place ≡ start_of last → IsLeast s.words key place k bit → key_of f ≡ k → place_of f ≡ bit → fits f ≡ true → IsNext s last f
is_next s last key place k bit f start least key-is place-is fit =
    let r = rank_is f in
    let from = least.from in
    let here : rank f ≡ k * 64 + bit = r ∙ ap (λ (n : ℕ). n * 64 + place_of f) key-is ∙ ap (λ (n : ℕ). k * 64 + n) place-is in
    let set : bit_at (bits_at s.words (key_of f)) (place_of f) ≡ 1 = ap (λ (n : ℕ). bit_at (bits_at s.words n) (place_of f)) key-is ∙ ap (bit_at (bits_at s.words k)) place-is ∙ least.there.1 in
    record {
      there = both_and (fits f) (eqb (bit_at (bits_at s.words (key_of f)) (place_of f)) 1) fit (eq-eqb _ 1 set);
      after = comes_after last f (omega arith);
      least = λ g held after.
          let q = rank_is g in
          let le = starts last g after in
          let more = least.least (key_of g) (place_of g) (bit_of s g held) (omega arith) in
          omega arith;
    }

pub no_next : (s : FactSet) (last : Option Fact) (key place : ℕ) → key * 64 + place ≡ start_of last → ((k b : ℕ) → HasBit s.words k b → key * 64 + place ≤ k * 64 + b → ⊥) → (g : Fact) → IsTrue (holds s g) → IsAfter last g → ⊥
no_next s last key place start none g held after =
    let q = rank_is g in
    let le = starts last g after in
    none (key_of g) (place_of g) (bit_of s g held) (omega arith)
