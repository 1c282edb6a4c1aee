use Rattle.std.proofs.Common.{arith, subst}
use Rattle.std.proofs.lemmas.List.{take_all}
use Rattle.c_syntax.specs.View.{declarator_list}
use Rattle.c_walk.specs.Units.{define_declarators}
use Rattle.flow_rows.specs.Counts.{Counted}
use Rattle.flow_graph.proofs.Defined.{names_next}
use Rattle.flow_graph.proofs.counting.count_names.Goals as goal

pub loop-name-init : goal.loop-name-init
loop-name-init c t f around w e = e

pub loop-name-preserved : goal.loop-name-preserved
loop-name-preserved c t f =
    names_next t f _ _ _ c.args.names.now c.loop-name.name-index c.name-item.result c.loop-name-test.true c.name-item.is (c.loop-name.invariant t f) (c.in_ok-count_name.ensures t f)

pub returns : goal.returns
returns c t f =
    subst (λ xs. Counted c.args.numbers.now c.loop-name.numbers (λ around w. define_declarators t f (declarator_list xs) w)) (take_all c.loop-name.name-index c.args.names.now (omega arith)) (c.loop-name.invariant t f)
