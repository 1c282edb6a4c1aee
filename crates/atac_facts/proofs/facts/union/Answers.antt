-- One word more of the union.
use Rattle.std.proofs.Common.{◌∙◌, subst, sym, ap}
use Rattle.atac_facts.specs.Pairs.{IsStrictlySorted}
use Rattle.atac_facts.specs.Sets.{FactSet, AreKeys}
use Rattle.atac_facts.proofs.Unions.{starts, keeps_on}
use Rattle.atac_facts.proofs.facts.union.Goals as goal

pub loop-key-init : goal.loop-key-init
loop-key-init c =
    let seen_a = c.as_slice-rest_a.ensures.value in
    let seen_b = c.as_slice-rest_b.ensures.value in
    starts c.new.result.items c.as_slice-rest_a.result.now c.as_slice-rest_b.result.now c.args.a.now.words c.args.b.now.words c.new.ensures.items
    (seen_a ∙ ap (λ (s : FactSet). s.words) c.a.view_is) (seen_b ∙ ap (λ (s : FactSet). s.words) c.b.view_is)
    (subst IsStrictlySorted (sym seen_a) c.a.invariant.0) (subst AreKeys (sym seen_a) c.a.invariant.1) (subst IsStrictlySorted (sym seen_b) c.b.invariant.0) (subst AreKeys (sym seen_b) c.b.invariant.1)

pub loop-key-preserved : goal.loop-key-preserved
loop-key-preserved c =
    keeps_on c.loop-key.both.words c.join_word.new.self.words c.loop-key.rest_a.now c.loop-key.rest_b.now c.in-Some.next_a.now c.in-Some.next_b.now c.args.a.now.words c.args.b.now.words
    (c.in-Some.key, c.in-Some.bits) c.loop-key.invariant c.in-Some.ensures.some c.in_ok-join_word.ensures.ok
