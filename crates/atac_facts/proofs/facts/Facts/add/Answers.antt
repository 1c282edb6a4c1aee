-- A word that was there, and one that was put in.
use Rattle.std.proofs.Common.{◌≡◌, set, bit_or, sym, subst, ap}
use Rattle.atac_facts.specs.Pairs.{Pairs, IsAt, IsGapFor, IsStrictlySorted}
use Rattle.atac_facts.specs.Sets.{FactSet, AreKeys}
use Rattle.atac_facts.proofs.Place.{sorted_set, sorted_insert}
use Rattle.atac_facts.specs.Facts.{IsKey}
use Rattle.atac_facts.proofs.Keys.{key_right, keys_set, keys_insert}
use Rattle.atac_facts.proofs.Bits.{Sets, bit, added_at, added_in, there_after, others_after}
use Rattle.atac_facts.proofs.facts.Facts.add.Goals as goal

-- the keys stay in order
pub invariant_of-self : goal.invariant_of-self
invariant_of-self c =
    let at : IsAt c.self.inside.words.items c.key-key.result c.in-Ok.at = subst (λ (s : FactSet). IsAt s.words c.key-key.result c.in-Ok.at) (sym c.self.view_is) c.in-Ok.ensures.found in (
      sorted_set c.self.inside.words.items c.self.invariant.0 c.key-key.result c.in-Ok.at at (bit_or c.index.result.now.1 (bit c.place.result)),
      keys_set c.self.inside.words.items c.key-key.result c.in-Ok.at (bit_or c.index.result.now.1 (bit c.place.result)) at c.self.invariant.1,
    )

pub invariant_of-self-in-Err : goal.invariant_of-self-in-Err
invariant_of-self-in-Err c =
    let gap : IsGapFor c.self.inside.words.items c.key-key.result c.in-Err.at = subst (λ (s : FactSet). IsGapFor s.words c.key-key.result c.in-Err.at) (sym c.self.view_is) c.in-Err.ensures.absent in
    let P = λ (ws : Pairs). IsStrictlySorted ws × AreKeys ws in
    subst P (sym c.in_ok-insert-in-Err.ensures.items) (
      sorted_insert c.self.inside.words.items c.key-key.result c.in-Err.at gap (bit c.place.result) c.self.invariant.0,
      keys_insert c.self.inside.words.items c.key-key.result c.in-Err.at (bit c.place.result) gap.in_range (subst IsKey (sym c.key-key.ensures.value) (key_right c.args.fact c.key-key.ensures.fits)) c.self.invariant.1,
    )

-- the word was there
pub returns-in-Ok-clause-there : goal.returns-in-Ok-clause-there
returns-in-Ok-clause-there c =
    let old : Pairs = c.self.inside.words.items in
    let at : IsAt old c.key-key.result c.in-Ok.at = subst (λ (s : FactSet). IsAt s.words c.key-key.result c.in-Ok.at) (sym c.self.view_is) c.in-Ok.ensures.found in
    let new : Pairs = set old c.in-Ok.at (c.key-key.result, bit_or c.index.result.now.1 (bit c.place.result)) in
    there_after (record { words = old; spare = 0 }) (record { words = new; spare = 0 }) c.args.fact c.key-key.result c.place.result c.key-key.ensures.value c.place.ensures.value c.key-key.ensures.fits
    (added_at old c.key-key.result c.place.result c.in-Ok.at c.index.result.now c.self.invariant.0 at c.index.ensures)

pub returns-in-Ok-clause-others : goal.returns-in-Ok-clause-others
returns-in-Ok-clause-others c =
    let old : Pairs = c.self.inside.words.items in
    let at : IsAt old c.key-key.result c.in-Ok.at = subst (λ (s : FactSet). IsAt s.words c.key-key.result c.in-Ok.at) (sym c.self.view_is) c.in-Ok.ensures.found in
    let new : Pairs = set old c.in-Ok.at (c.key-key.result, bit_or c.index.result.now.1 (bit c.place.result)) in
    let same : old ≡ c.args.self.now.words = ap (λ (s : FactSet). s.words) c.self.view_is in
    let P = λ (ws : Pairs). Sets ws new c.key-key.result c.place.result in
    others_after c.args.self.now (record { words = new; spare = 0 }) c.args.fact c.key-key.result c.place.result c.key-key.ensures.value c.place.ensures.value c.key-key.ensures.fits
    (subst P same (added_at old c.key-key.result c.place.result c.in-Ok.at c.index.result.now c.self.invariant.0 at c.index.ensures))

-- a new word went in
pub returns-in_ok-insert-in-Err-clause-there : goal.returns-in_ok-insert-in-Err-clause-there
returns-in_ok-insert-in-Err-clause-there c =
    let old : Pairs = c.self.inside.words.items in
    let gap : IsGapFor old c.key-key.result c.in-Err.at = subst (λ (s : FactSet). IsGapFor s.words c.key-key.result c.in-Err.at) (sym c.self.view_is) c.in-Err.ensures.absent in
    let new : Pairs = c.insert.new.self.items in
    let P = λ (ws : Pairs). Sets old ws c.key-key.result c.place.result in
    there_after (record { words = old; spare = 0 }) (record { words = new; spare = 0 }) c.args.fact c.key-key.result c.place.result c.key-key.ensures.value c.place.ensures.value c.key-key.ensures.fits
    (subst P (sym c.in_ok-insert-in-Err.ensures.items) (added_in old c.key-key.result c.place.result c.in-Err.at gap))

pub returns-in_ok-insert-in-Err-clause-others : goal.returns-in_ok-insert-in-Err-clause-others
returns-in_ok-insert-in-Err-clause-others c =
    let old : Pairs = c.self.inside.words.items in
    let gap : IsGapFor old c.key-key.result c.in-Err.at = subst (λ (s : FactSet). IsGapFor s.words c.key-key.result c.in-Err.at) (sym c.self.view_is) c.in-Err.ensures.absent in
    let new : Pairs = c.insert.new.self.items in
    let same : old ≡ c.args.self.now.words = ap (λ (s : FactSet). s.words) c.self.view_is in
    let P = λ (ws : Pairs). Sets old ws c.key-key.result c.place.result in
    let Q = λ (ws : Pairs). Sets ws new c.key-key.result c.place.result in
    others_after c.args.self.now (record { words = new; spare = 0 }) c.args.fact c.key-key.result c.place.result c.key-key.ensures.value c.place.ensures.value c.key-key.ensures.fits
    (subst Q same (subst P (sym c.in_ok-insert-in-Err.ensures.items) (added_in old c.key-key.result c.place.result c.in-Err.at gap)))
