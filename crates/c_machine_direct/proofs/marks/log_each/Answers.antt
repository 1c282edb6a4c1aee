use Rattle.std.proofs.Common.{[], ap, ◌∙◌}
use Rattle.c_meaning.specs.State.{State}
use Rattle.c_world.specs.World.{state_of}
use Rattle.c_machine_direct.proofs.Logged.{one_logged}
use Rattle.c_machine_direct.proofs.marks.log_each.Goals as goal

pub loop-mark-preserved : goal.loop-mark-preserved
loop-mark-preserved c =
    let l = c.in_ok-log-in-Some-probe_number.ensures in
    let v = c.loop-mark.invariant in
    record {
      told = λ h go.
          one_logged c.loop-mark.rest.now c.in-Some.others.now c.in-Some.mark.now c.bytes.result.now c.in-Some-probe_number.site (state_of c.loop-mark.world h) (state_of c.log.new.self h) go c.in-Some.ensures.cases.0 c.bytes.ensures c.in-Some-probe_number.ensures (l.logged h)
          ∙ v.told h go;
      kept = record {
        program = l.same.program ∙ v.kept.program;
        limit = l.same.limit ∙ v.kept.limit;
        turns = ap (λ (s : State). s.turns) (l.logged []) ∙ v.kept.turns;
        names = l.names ∙ v.kept.names;
      };
    }
