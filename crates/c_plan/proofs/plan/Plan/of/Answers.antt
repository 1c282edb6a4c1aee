use Rattle.std.proofs.Common.{◌≤◌, length, subst, arith}
use Rattle.c_tables.specs.Tables.{tables_shape}
use Rattle.c_meaning.specs.Sources.{source_of}
use Rattle.c_plan.proofs.Planned.{all_planned}
use Rattle.c_plan.proofs.plan.Plan.of.Goals as goal

pub loop-i-preserved : goal.loop-i-preserved
loop-i-preserved c = record {
  count = c.in_ok-add_function-2.ensures.count;
  starts = c.in_ok-add_function-2.ensures.starts c.loop-i.invariant.starts;
}

pub invariant_of-result : goal.invariant_of-result
invariant_of-result c =
    let few : length (tables_shape c.tables.result.now).functions ≤ c.loop-i.i = omega (arith, c.loop-i-test.false, c.functions-i-end.ensures) in
    record {
      planned = all_planned (source_of c.args.program.now) c.loop-i.i c.loop-i.starts.items c.loop-i.extents.items c.loop-i.invariant.count (subst (λ t. length (tables_shape t).functions ≤ c.loop-i.i) c.tables.ensures.tables few) c.loop-i.invariant.starts;
    }
