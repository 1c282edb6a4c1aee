use Rattle.std.proofs.Common.{◌≡◌, ◌+◌, ◌≤◌, drop}
use Rattle.c_syntax.specs.View.{param_list}
use Rattle.c_meaning.specs.Counts.{decls_variables}
use Rattle.c_base.specs.Kept.{kept}
use Rattle.c_plan.proofs.counts.param_list_variables.Given as goal

abbrev pub invariant-loop-param : goal.invariant-loop-param
invariant-loop-param l = record {
  rest : kept (l.count + decls_variables (param_list (drop l.param-index l.list))) ≡ kept (decls_variables (param_list l.list));
  small : l.count ≤ 4294967295;
}
