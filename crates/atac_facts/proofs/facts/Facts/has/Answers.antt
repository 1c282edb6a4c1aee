-- The bit of a fact in its word.
use Rattle.std.proofs.Common.{◌≡◌, get_or, subst, ap}
use Rattle.atac_facts.specs.Pairs.{Pairs, IsStrictlySorted}
use Rattle.atac_facts.specs.Sets.{FactSet}
use Rattle.atac_facts.proofs.Bits.{has_at, has_not}
use Rattle.atac_facts.proofs.facts.Facts.has.Goals as goal

pub returns-in-Ok : goal.returns-in-Ok
returns-in-Ok c =
    let same : c.self.inside.words.items ≡ c.args.self.now.words = ap (λ (s : FactSet). s.words) c.self.view_is in
    has_at c.args.self.now c.args.fact c.key.result c.place.result c.in-Ok.at c.index.result.now c.key.ensures.value c.place.ensures.value c.key.ensures.fits
    (subst IsStrictlySorted same c.self.invariant.0) c.in-Ok.ensures.found (subst (λ (ws : Pairs). c.index.result.now ≡ get_or ws c.in-Ok.at c.index.result.now) same c.index.ensures)

pub returns-in-Err : goal.returns-in-Err
returns-in-Err c = has_not c.args.self.now c.args.fact c.key.result c.in-Err.field-0 c.key.ensures.value c.in-Err.ensures.absent
