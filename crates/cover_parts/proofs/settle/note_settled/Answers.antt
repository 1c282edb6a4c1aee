-- Nothing is lacking, or there is room for what is.
use Rattle.std.proofs.Common.{◌≡◌, arith, subst, ℕ}
use Rattle.cover_parts.specs.Settled.{settled, Lacking}
use Rattle.cover_parts.proofs.Settling.{noted_none, all_there, lacking_same}
use Rattle.cover_parts.proofs.settle.note_settled.Goals as goal

pub returns-then-lacking-eq0-clause-noted : goal.returns-then-lacking-eq0-clause-noted
returns-then-lacking-eq0-clause-noted c = noted_none c.args.facts.now (settled c.args.decision c.args.outcome c.args.waits.now) (subst (λ (n : ℕ). Lacking c.args.facts.now (settled c.args.decision c.args.outcome c.args.waits.now) n) c.if-lacking-eq0.true c.lacking-lacking.ensures)

pub returns-then-lacking-clause-there : goal.returns-then-lacking-clause-there
returns-then-lacking-clause-there c = λ h. let z : c.lacking-lacking.result ≡ 0 = all_there c.args.facts.now (settled c.args.decision c.args.outcome c.args.waits.now) c.lacking-lacking.result c.lacking-lacking.ensures h in absurd (omega (arith, c.if-lacking-eq0.false))

pub returns-in_err-room-clause-there : goal.returns-in_err-room-clause-there
returns-in_err-room-clause-there c = λ h. let z : c.lacking-lacking.result ≡ 0 = all_there c.args.facts.now (settled c.args.decision c.args.outcome c.args.waits.now) c.lacking-lacking.result c.lacking-lacking.ensures h in absurd (omega (arith, c.if-lacking-eq0.false))

pub note_all-requires : goal.note_all-requires
note_all-requires c = record {
  count = c.lacking-lacking.result;
  lacking = lacking_same c.args.facts.now c.room.new.facts (settled c.args.decision c.args.outcome c.args.waits.now) c.lacking-lacking.result c.in_ok-room.ensures.same c.lacking-lacking.ensures;
  enough = c.in_ok-room.ensures.room;
}
