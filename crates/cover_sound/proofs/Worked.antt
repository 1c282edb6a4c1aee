-- Worked lists of events: a probe's number, and one that no probe has.
use Rattle.std.proofs.Common.{[], ◌∷◌, None, refl, arith}
use Rattle.c_events.specs.declared.events.Event.TheVariants.{Block, Test}
use Rattle.atac_facts.specs.declared.fact.Fact.TheVariants.{Outcome}
use Rattle.trace_file.specs.Sound.{SoundFact}
use Rattle.cover_sound.specs.Sound.{AreTold}
use Rattle.cover_sound.proofs.Facts.{covered_facts_are_sound}

two : AreTold (Block 16383 ∷ Test 1 2 1 ∷ [])
two = ((omega arith, omega arith), (((omega arith, omega arith), omega arith), tt))

false_is_sound : SoundFact (Outcome 1 2)
false_is_sound = covered_facts_are_sound (λ u. None) (Block 16383 ∷ Test 1 2 1 ∷ []) (Outcome 1 2) two refl refl

too_large : AreTold (Block 16384 ∷ []) → ⊥
too_large h = let n = h.0.1 in omega (arith, n)

no_outcome : AreTold (Test 1 0 1 ∷ []) → ⊥
no_outcome h = let n = h.0.1 in omega (arith, n)
