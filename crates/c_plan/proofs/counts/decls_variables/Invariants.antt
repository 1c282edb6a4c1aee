use Rattle.std.proofs.Common.{◌≡◌, ◌+◌, ◌≤◌, drop}
use Rattle.c_syntax.specs.View.{decl_list}
use Rattle.c_meaning.specs.Counts.{decls_variables}
use Rattle.c_base.specs.Kept.{kept}
use Rattle.c_plan.proofs.counts.decls_variables.Given as goal

abbrev pub invariant-loop-decl : goal.invariant-loop-decl
invariant-loop-decl l = record {
  rest : kept (l.count + decls_variables (decl_list (drop l.decl-index l.decls))) ≡ kept (decls_variables (decl_list l.decls));
  small : l.count ≤ 4294967295;
}
