use Rattle.std.proofs.Common.{ap, sym}
use Rattle.c_syntax.specs.View.{node_shape}
use Rattle.c_tables.specs.Tables.{tables_shape}
use Rattle.c_world.specs.World.{state_of}
use Rattle.c_eval_once.specs.Parts.{value}
use Rattle.c_eval_once.proofs.Once.{meets_as}
use Rattle.c_eval_direct.proofs.direct.direct.Goals as goal

pub returns-then-is_direct-clause-is : goal.returns-then-is_direct-clause-is
returns-then-is_direct-clause-is c = λ k h.
    let v = value (tables_shape c.args.tables.now) k (node_shape c.args.node.now) in
    meets_as c.value_with.result (state_of c.value_with.new.world h) (v (state_of c.args.world.now h)) (v (state_of c.at_once.new.world h)) (ap v (sym (c.in-None.ensures.is (tables_shape c.args.tables.now) k h))) (c.value_with.ensures.is k h)

pub returns-else-is_direct-clause-is : goal.returns-else-is_direct-clause-is
returns-else-is_direct-clause-is c = λ k h. c.in-None.ensures.is (tables_shape c.args.tables.now) k h
