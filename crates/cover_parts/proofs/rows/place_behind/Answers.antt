-- As far from the last one as their numbers.
use Rattle.std.proofs.Common.{◌∙◌, ap, arith}
use Rattle.cover_parts.specs.declared.rows.Row.{Row}
use Rattle.cover_parts.proofs.Places.{stands_at}
use Rattle.cover_parts.proofs.rows.place_behind.Goals as goal

pub returns-then-rows-near : goal.returns-then-rows-near
returns-then-rows-near c = stands_at c.requires.0 c.args.number c.args.rows.now _ c.index-rows-near.result c.requires.1 (omega (arith, c.if-count-eq0.false)) c.index-rows-near.is (ap (λ (q : Row). q.number) c.index-rows-near.is ∙ c.if-rows-near.true)
