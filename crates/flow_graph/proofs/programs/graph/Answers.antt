use Rattle.std.proofs.Common.{sym}
use Rattle.c_tables.specs.Tables.{tables_shape}
use Rattle.flow_graph.proofs.Finding.{found_next}
use Rattle.flow_graph.proofs.programs.graph.Goals as goal

pub loop-external-init : goal.loop-external-init
loop-external-init c = record { counted = sym c.none-numbers.ensures; is_found = λ w p. p }

pub loop-external-preserved : goal.loop-external-preserved
loop-external-preserved c =
    found_next (tables_shape c.tables-tables.result.now) c.args.function _ _ _ c.loop-external.external-index c.external-item.result c.loop-external.found c.in_ok-it.it c.in_ok-found.found c.defines.result c.loop-external-test.true c.external-item.is c.defines.ensures
    c.loop-external.invariant c.in_ok-it.ensures.counted c.in_ok-it.ensures.graph c.in_ok-found.ensures.kept c.in_ok-found.ensures.none c.in_ok-found.ensures.next
