-- At its number less one.
use Rattle.std.proofs.Common.{◌∙◌, ap}
use Rattle.cover_parts.specs.declared.rows.Row.{Row}
use Rattle.cover_parts.proofs.Places.{stands_at}
use Rattle.cover_parts.proofs.rows.place_in.Goals as goal

pub returns-then-rows-first : goal.returns-then-rows-first
returns-then-rows-first c = stands_at c.requires.0 c.args.number c.args.rows.now _ c.index-rows-first.result c.requires.1 c.if-first-rows.true c.index-rows-first.is (ap (λ (q : Row). q.number) c.index-rows-first.is ∙ c.if-rows-first.true)
