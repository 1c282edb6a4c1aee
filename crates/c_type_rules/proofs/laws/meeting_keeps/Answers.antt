use Rattle.std.proofs.Common.{subst}
use Rattle.c_base.specs.declared.place.IntKind.{IntKind}
use Rattle.c_type_rules.specs.Laws.{Keeps}
use Rattle.c_type_rules.proofs.Ranges.{meet_keeps}
use Rattle.c_type_rules.proofs.Turned.{meet_turned}
use Rattle.c_type_rules.proofs.laws.meeting_keeps.Goals as goal

pub returns : goal.returns
returns c =
    let a = c.args.a in
    let b = c.args.b in
    record {
      left = meet_keeps a b;
      right = λ z h. subst (λ (k : IntKind). Keeps k z) (meet_turned b a) (meet_keeps b a z h);
    }
