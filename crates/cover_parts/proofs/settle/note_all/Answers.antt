-- One pair after the other.
use Rattle.std.proofs.Common.{subst, take, List}
use Rattle.std.specs.List.{Contains}
use Rattle.cover_parts.specs.Gaining.{Gains}
use Rattle.atac_facts.specs.declared.fact.Fact.{Fact}
use Rattle.cover_parts.specs.declared.pending.Wait.{Wait}
use Rattle.cover_parts.specs.Settled.{settled}
use Rattle.cover_parts.proofs.Settling.{noted_more, room_more, read_same, taken_all}
use Rattle.cover_parts.proofs.settle.note_all.Goals as goal

pub loop-w-preserved : goal.loop-w-preserved
loop-w-preserved c =
    let v = c.loop-w.invariant in
    record {
      noted = noted_more c.args.facts.now c.loop-w.facts c.put_puse.new.facts c.args.decision c.args.outcome c.args.waits.now c.loop-w.w-index _ c.loop-w-test.true (read_same c.args.waits.now c.loop-w.w-index _ c.loop-w-test.true) v.noted c.put_puse.ensures.noted;
      room = room_more c.args.facts.now c.loop-w.facts (settled c.args.decision c.args.outcome (take c.loop-w.w-index c.args.waits.now)) c.args.decision c.args.outcome c.args.waits.now c.loop-w.w-index c.loop-w.facts.spare c.put_puse.new.facts.spare _ c.loop-w-test.true (read_same c.args.waits.now c.loop-w.w-index _ c.loop-w-test.true) v.noted v.room c.put_puse.ensures.kept c.put_puse.ensures.spare;
    }

pub returns : goal.returns
returns c = subst (λ (ws : List Wait). Gains c.args.facts.now c.loop-w.facts (λ (f : Fact). Contains (settled c.args.decision c.args.outcome ws) f)) (taken_all c.args.waits.now c.loop-w.w-index c.loop-w-test.false) c.loop-w.invariant.noted
