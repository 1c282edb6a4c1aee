use Rattle.std.proofs.Common.{rules, arith}
use Rattle.c_types.proofs.Labelled.{next_label, all_labels, none_before}
use Rattle.c_types.proofs.labels.type_labels.Goals as goal

pub loop-i-init : goal.loop-i-init
loop-i-init c = record { same = none_before _ _ _; count = search rules }

pub loop-i-preserved : goal.loop-i-preserved
loop-i-preserved c = record {
  same = next_label c.loop-i.labels.items c.loop-i.i c.index_mut.result.now c.type_label.new.label (omega arith) _ _ _ _ _ c.index_mut.ensures.value c.in_ok-type_label.ensures.tree c.in_ok-type_label.ensures.labels c.in_ok-type_label.ensures.state c.loop-i.invariant.same;
  count = search rules;
}

pub returns : goal.returns
returns c = all_labels c.loop-i.labels.items c.loop-i.i _ _ _ (omega arith) c.loop-i.invariant.same
