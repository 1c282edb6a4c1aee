use Rattle.std.proofs.Common.{rules, ap, arith}
use Rattle.c_tree.specs.Units.{TypedExternals}
use Rattle.c_types.proofs.Declared.{none_before, next_external, externals_done}
use Rattle.c_types.proofs.externals.type_externals.Goals as goal

pub loop-i-init : goal.loop-i-init
loop-i-init c = record { same = none_before _; count = search rules }

pub loop-i-preserved : goal.loop-i-preserved
loop-i-preserved c = record {
  same = next_external c.loop-i.externals.items c.loop-i.i c.index_mut.result.now c.type_external.new.external (omega arith) _ _ _ c.index_mut.ensures.value c.in_ok-type_external.ensures.tree c.in_ok-type_external.ensures.state c.loop-i.invariant.same;
  count = search rules;
}

pub returns-clause-tree : goal.returns-clause-tree
returns-clause-tree c = ap (λ (r : TypedExternals). r.externals) (externals_done c.loop-i.externals.items c.loop-i.i _ _ (omega arith) c.loop-i.invariant.same)

pub returns-clause-state : goal.returns-clause-state
returns-clause-state c = ap (λ (r : TypedExternals). r.state) (externals_done c.loop-i.externals.items c.loop-i.i _ _ (omega arith) c.loop-i.invariant.same)
