use Rattle.c_tables.specs.Tables.{tables_shape}
use Rattle.c_world.specs.World.{state_of}
use Rattle.c_eval_once.proofs.Once.{array_named}
use Rattle.c_eval_direct.proofs.parts.named.Goals as goal

pub returns-in-Array-clause-is : goal.returns-in-Array-clause-is
returns-in-Array-clause-is c = λ k h.
    array_named (tables_shape c.args.tables.now) k c.args.node.now.pos c.args.node.now.op c.args.node.now.note c.args.node.now.form c.in-Typed.kind c.in-Typed.named c.in-Some.number c.requires.form.0 (state_of c.args.world.now h) (state_of c.array_value.new.world h) c.array_value.result c.requires.form.1 c.in-Typed.is c.in-Some.is (λ p o x. c.array_value.ensures.is k p o x h)
