-- The next fact, from its key and place.
use Rattle.atac_facts.proofs.Next.{is_next}
use Rattle.atac_facts.proofs.facts.Facts.after.Goals as goal

pub returns-clause-some : goal.returns-clause-some
returns-clause-some c =
    is_next c.args.self.now c.args.last c.place_after-key.result.0 c.place_after-key.result.1 c.in_ok-key.key c.in_ok-key.bit c.fact_at.result c.place_after-key.ensures.value c.in_ok-key.ensures.some c.fact_at.ensures.key c.fact_at.ensures.place c.fact_at.ensures.fits
