-- What events of such numbers cover has such numbers.
use Rattle.std.proofs.Common.{◌≡◌, ℕ, zero, suc, ◌<◌, List, [], ◌∷◌, Option, Some, None, Bool, true, arith, subst}
use Rattle.std.specs.Prelude.{◌&&◌, nat_lt, IsTrue, slice_get}
use Rattle.std.proofs.lemmas.Bool.{and_parts}
use Rattle.std.proofs.lemmas.Bool.Decides.{nat_tests}
use Rattle.c_events.specs.declared.events.Event.{Event}
use Rattle.c_events.specs.declared.events.Event.TheVariants as event
use Rattle.c_meaning.specs.Lasting.{IsTold}
use Rattle.atac_facts.specs.declared.fact.Fact.{Fact}
use Rattle.atac_facts.specs.declared.fact.Fact.TheVariants.{Block, Outcome, Pair, PUse}
use Rattle.atac_facts.specs.Facts.{fits}
use Rattle.cover_parts.specs.Covered.{At, Covered}
use Rattle.cover_law.proofs.Covering.{covered_law}
use Rattle.trace_file.specs.Sound.{SoundFact}
use Rattle.cover_sound.specs.Sound.{AreTold, CoveredFactsAreSound}

told_at : (es : List Event) (i : ℕ) (e : Event) → AreTold es → At es i e → IsTold e
told_at [] i e h is = absurd (let q : None ≡ Some e = is in cc)
told_at (x ∷ es) zero e h is = subst IsTold (let q : Some x ≡ Some e = is in cc) h.0
told_at (x ∷ es) (suc i) e h is = told_at es i e h.1 is

small : (o : ℕ) → nat_lt o 4294967296 ≡ true → o < 4294967296
small o h = grind (arith, nat_tests)

sound_at : (owner : ℕ → Option ℕ) (es : List Event) (f : Fact) → AreTold es → fits f ≡ true → Covered owner es f → SoundFact f
sound_at owner es (Block k) h fit c = told_at es c.0 (event.Block k) h c.1
sound_at owner es (Outcome k o) h fit c =
    let t = told_at es c.0 (event.Test k o c.1) h c.2 in
    (t.0, (t.1, small o (and_parts (nat_lt k 65536) (nat_lt o 4294967296) fit).1))
sound_at owner es (Pair d u) h fit c =
    let r = c.4 in
    (told_at es c.2 (event.Def d c.0) h r.defined, told_at es c.3 (event.Use u c.0 c.1) h r.used)
sound_at owner es (PUse d u o) h fit c =
    let p = c.2 in
    let r = p.5 in
    let t = told_at es p.4 (event.Test c.0 o p.1) h p.7 in
    let whole = and_parts (nat_lt d 65536) (nat_lt u 65536 && nat_lt o 4294967296) fit in
    (told_at es p.2 (event.Def d p.0) h r.defined, told_at es p.3 (event.Use u p.0 p.1) h r.used, (t.1, small o (and_parts (nat_lt u 65536) (nat_lt o 4294967296) whole.1).1))

pub covered_facts_are_sound : CoveredFactsAreSound
covered_facts_are_sound owner es f h fit is = sound_at owner es f h fit ((covered_law owner es f).0 is)
