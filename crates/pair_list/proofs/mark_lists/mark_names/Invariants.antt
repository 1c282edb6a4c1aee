use Rattle.pair_list.specs.Marks.{AddsNames}
use Rattle.pair_list.proofs.mark_lists.mark_names.Given as goal

abbrev pub invariant-loop-i : goal.invariant-loop-i
invariant-loop-i l = AddsNames l.sites l.def l.variable l.names l.fn.marks.items l.marks.items l.i
