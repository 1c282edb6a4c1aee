-- An instance ends, and no other.
use Rattle.std.proofs.Common.{◌∙◌, ap}
use Rattle.cover_parts.specs.Rows.{Table}
use Rattle.cover_parts.specs.Lives.{lives}
use Rattle.cover_parts.proofs.Calls.{ended_stays, lives_without}
use Rattle.cover_core.proofs.Standing.{ended_stands}
use Rattle.cover_core.proofs.collector.CollectorProbes.ended.Goals as goal

pub returns-clause-kept : goal.returns-clause-kept
returns-clause-kept c = λ h s. ended_stands _ _ _ _ _ h _ c.end.ensures.table c.end.ensures.is s

pub returns-clause-stay : goal.returns-clause-stay
returns-clause-stay c = λ b ne h. ended_stays _ _ _ b ne c.end.ensures.is h

pub returns-clause-lives : goal.returns-clause-lives
returns-clause-lives c = ap (λ (t : Table). lives t.live) c.end.ensures.is ∙ lives_without c.args.instance c.args.self.now.rows.live
