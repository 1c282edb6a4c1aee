use Rattle.std.proofs.Common.{◌≡◌, ◌+◌, ◌≤◌, drop}
use Rattle.c_syntax.specs.View.{declarator_list}
use Rattle.c_meaning.specs.Counts.{variables_among}
use Rattle.c_base.specs.Kept.{kept}
use Rattle.c_plan.proofs.counts.variables_among.Given as goal

abbrev pub invariant-loop-name : goal.invariant-loop-name
invariant-loop-name l = record {
  rest : kept (l.count + variables_among (declarator_list (drop l.name-index l.names))) ≡ kept (variables_among (declarator_list l.names));
  small : l.count ≤ 4294967295;
}
