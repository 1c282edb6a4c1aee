use Rattle.c_types_expr.proofs.Found.{named_more}
use Rattle.c_types_expr.proofs.fields.Members.append.Goals as goal

pub invariant_of-self : goal.invariant_of-self
invariant_of-self c =
    record { named = named_more c.args.self.now.rows.items c.push.new.self.items c.args.row c.args.name.now c.args.self.now.names c.declare.new.self c.args.self.now.named c.in-Ok.ensures.items c.requires.0 c.in-Ok-declare.ensures.ok }
