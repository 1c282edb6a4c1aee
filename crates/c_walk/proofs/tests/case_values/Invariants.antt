use Rattle.std.proofs.Common.{◌≡◌, ◌++◌, drop}
use Rattle.c_syntax.specs.View.{item_list}
use Rattle.c_walk.specs.Tests.{case_values}
use Rattle.c_walk.proofs.tests.case_values.Given as goal

abbrev pub invariant-loop-item : goal.invariant-loop-item
invariant-loop-item l = l.values.items ++ case_values l.kind (item_list (drop l.item-index l.items)) ≡ case_values l.kind (item_list l.items)
