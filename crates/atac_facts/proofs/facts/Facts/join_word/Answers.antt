-- A word that was there, and one that was put in.
use Rattle.std.proofs.Common.{◌≡◌, set, bit_or, sym, subst, ap}
use Rattle.atac_facts.specs.Pairs.{Pairs, IsAt, IsGapFor, IsStrictlySorted}
use Rattle.atac_facts.specs.Sets.{FactSet, AreKeys, Joins}
use Rattle.atac_facts.proofs.Keys.{keys_set, keys_insert}
use Rattle.atac_facts.proofs.Place.{sorted_set, sorted_insert}
use Rattle.atac_facts.proofs.Unions.{joined_at, joined_in}
use Rattle.atac_facts.proofs.facts.Facts.join_word.Goals as goal

pub returns-in-Ok-clause-ok : goal.returns-in-Ok-clause-ok
returns-in-Ok-clause-ok c =
    let same : c.self.inside.words.items ≡ c.args.self.now.words = ap (λ (s : FactSet). s.words) c.self.view_is in
    let old : Pairs = c.self.inside.words.items in
    let at : IsAt old c.args.key c.in-Ok.at = subst (λ (s : FactSet). IsAt s.words c.args.key c.in-Ok.at) (sym c.self.view_is) c.in-Ok.ensures.found in
    let P = λ (ws : Pairs). Joins ws (set old c.in-Ok.at (c.args.key, bit_or c.index.result.now.1 c.args.bits)) c.args.key c.args.bits in
    subst P same (joined_at old c.args.key c.args.bits c.in-Ok.at c.index.result.now c.self.invariant.0 at c.index.ensures)

pub returns-in_ok-insert-in-Err-clause-ok : goal.returns-in_ok-insert-in-Err-clause-ok
returns-in_ok-insert-in-Err-clause-ok c =
    let same : c.self.inside.words.items ≡ c.args.self.now.words = ap (λ (s : FactSet). s.words) c.self.view_is in
    let old : Pairs = c.self.inside.words.items in
    let gap : IsGapFor old c.args.key c.in-Err.at = subst (λ (s : FactSet). IsGapFor s.words c.args.key c.in-Err.at) (sym c.self.view_is) c.in-Err.ensures.absent in
    let P = λ (ws : Pairs). Joins old ws c.args.key c.args.bits in
    let Q = λ (ws : Pairs). Joins ws c.insert.new.self.items c.args.key c.args.bits in
    subst Q same (subst P (sym c.in_ok-insert-in-Err.ensures.items) (joined_in old c.args.key c.args.bits c.in-Err.at gap))

pub invariant_of-self : goal.invariant_of-self
invariant_of-self c =
    let at : IsAt c.self.inside.words.items c.args.key c.in-Ok.at = subst (λ (s : FactSet). IsAt s.words c.args.key c.in-Ok.at) (sym c.self.view_is) c.in-Ok.ensures.found in (
      sorted_set c.self.inside.words.items c.self.invariant.0 c.args.key c.in-Ok.at at (bit_or c.index.result.now.1 c.args.bits),
      keys_set c.self.inside.words.items c.args.key c.in-Ok.at (bit_or c.index.result.now.1 c.args.bits) at c.self.invariant.1,
    )

pub invariant_of-self-in-Err : goal.invariant_of-self-in-Err
invariant_of-self-in-Err c =
    let gap : IsGapFor c.self.inside.words.items c.args.key c.in-Err.at = subst (λ (s : FactSet). IsGapFor s.words c.args.key c.in-Err.at) (sym c.self.view_is) c.in-Err.ensures.absent in
    let P = λ (ws : Pairs). IsStrictlySorted ws × AreKeys ws in
    subst P (sym c.in_ok-insert-in-Err.ensures.items) (
      sorted_insert c.self.inside.words.items c.args.key c.in-Err.at gap c.args.bits c.self.invariant.0,
      keys_insert c.self.inside.words.items c.args.key c.in-Err.at c.args.bits gap.in_range c.requires c.self.invariant.1,
    )
