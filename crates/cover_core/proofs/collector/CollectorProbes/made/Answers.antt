-- An instance is made, or nothing has changed.
use Rattle.std.proofs.Common.{subst, sym}
use Rattle.std.specs.Prelude.{IsSome}
use Rattle.c_events.specs.Owners.{owner_in}
use Rattle.cover_parts.specs.Rows.{Table, word_of}
use Rattle.cover_parts.proofs.Cases.{on_err}
use Rattle.cover_parts.proofs.Calls.{on_both, both_ok, made_taken, made_stays}
use Rattle.cover_core.specs.Stands.{StandsFor}
use Rattle.cover_core.proofs.Standing.{made_stands}
use Rattle.cover_core.proofs.collector.CollectorProbes.made.Goals as goal

pub returns-clause-kept : goal.returns-clause-kept
returns-clause-kept c = λ h s. on_both c.make.result _
    (both_ok c.make.result (λ l q. made_stands _ _ _ _ _ h _ _ c.make.ensures.table l q s) c.make.ensures.above c.make.ensures.made)
    (on_err c.make.result (λ q. subst (λ (t : Table). StandsFor (owner_in c.args.self.now.owners) c.args.self.now.facts c.args.self.now.pending t h) (sym q) s) c.make.ensures.kept)

pub returns-clause-taken : goal.returns-clause-taken
returns-clause-taken c = both_ok c.make.result (λ l q _ b e k. made_taken _ _ _ _ b c.make.ensures.table l q e k) c.make.ensures.above c.make.ensures.made

pub returns-clause-stay : goal.returns-clause-stay
returns-clause-stay c = λ b h. on_both c.make.result _
    (both_ok c.make.result (λ l q. made_stays _ _ _ _ b c.make.ensures.table l q h) c.make.ensures.above c.make.ensures.made)
    (on_err c.make.result (λ q. subst (λ (t : Table). IsSome (word_of t.live b)) (sym q) h) c.make.ensures.kept)
